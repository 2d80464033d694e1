use Rattle.{std.proofs.Common.{rules, ◌≡◌, ◌&&◌, true, false, length, bytes_eq, sym, ◌∙◌, ap}, iodef_tree.specs.Text.same_path, redact.proofs.Ends.last-is}
use Rattle.redact.proofs.{Ends.last-none, gate_refusals.before_name.Goals.{in_default-via-in-Some+else-eq, in_default-via-in_default}}
use Rattle.redact.proofs.gate_refusals.before_name.Goals as goal

pub returns-in-Some : goal.returns-in-Some
returns-in-Some c = λ z.
    let k = c.in-Some in
    let name = c.args.name.now in
    let same : bytes_eq k.last.now name ≡ true = search rules in
    sym (last-is c.args.path.now k.rest.now k.last.now k.ensures.cases.0 name z ∙ ap (λ b. b && same_path k.rest.now z) same)

pub returns-in_default : goal.returns-in_default
returns-in_default c = elim c.in_default.branch [
  | in_default-via-in-Some+else-eq w ↦ λ z.
      let k = w.in-Some in
      let name = c.args.name.now in
      let other : bytes_eq k.last.now name ≡ false = search rules in
      sym (last-is c.args.path.now k.rest.now k.last.now k.ensures.cases.0 name z ∙ ap (λ b. b && same_path k.rest.now z) other)
  | in_default-via-in_default w ↦ λ z.
      let none : length c.args.path.now ≡ 0 = search rules in
      sym (last-none c.args.path.now none c.args.name.now z)
]
