use Rattle.{std.{proofs.Common.{sym, ◌∙◌, ap, false}, specs.{Option.option_map_or, Prelude.{option_map, string_bytes}}}, sketch.proofs.Judging.sketch-missing}
use Rattle.sketch.specs.Judged.{has_words}
use Rattle.sketch.proofs.sketch.Sketch.may_hold.Goals as goal

pub returns-in-Some-clause-missing : goal.returns-in-Some-clause-missing
returns-in-Some-clause-missing c = λ ls k s is missing.
    let w = c.args.want.now in
    sketch-missing c.args.self.now ls k s w
    (c.has_words.ensures ∙ ap (λ o. option_map_or (λ x. has_words x (option_map string_bytes w.needle) (option_map string_bytes w.class)) o false) (sym c.in-Some.is)) is missing
