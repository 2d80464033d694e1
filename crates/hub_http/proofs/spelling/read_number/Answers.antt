use Rattle.{std.proofs.Common.rules, hub_http.proofs.Numbers.too_large}
use Rattle.hub_http.proofs.spelling.read_number.Goals as goal

pub returns-in-Err : goal.returns-in-Err
returns-in-Err c = too_large c.args.text.now c.in-Err.field-0 (search rules) (c.in-Err.ensures.value.0)
