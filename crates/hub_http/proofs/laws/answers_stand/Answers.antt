use Rattle.hub_http.proofs.AnswersStand.{answers_stand}
use Rattle.hub_http.proofs.laws.answers_stand.Goals as goal

pub returns : goal.returns
returns c = answers_stand
