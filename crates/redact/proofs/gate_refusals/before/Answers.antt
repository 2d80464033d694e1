use Rattle.{std.proofs.Common.{rules, ◌≡◌, ◌&&◌, ◌++◌, ◌∷◌, [], true, false, length, bytes_eq, decimal, sym, ◌∙◌, ap}, iodef_tree.specs.Text.same_path}
use Rattle.redact.proofs.{Ends.{last-is, last-none, step-place}, gate_refusals.before.Goals.{in_default-via-in-Some+else-is_place, in_default-via-in_default}}
use Rattle.redact.proofs.gate_refusals.before.Goals as goal

pub returns-in-Some : goal.returns-in-Some
returns-in-Some c = λ z.
    let k = c.in-Some in
    let s = c.args.step.now in
    let counted : s.in_array ≡ true = search rules in
    let here : bytes_eq k.last.now (decimal s.place) ≡ true = search rules in
    c.before_name-in-Some.ensures z
    ∙ ap (λ n. same_path k.rest.now (z ++ n ∷ [])) c.as_str-in-Some.ensures
    ∙ sym (ap (same_path c.args.path.now) (step-place z s counted) ∙ last-is c.args.path.now k.rest.now k.last.now k.ensures.cases.0 (decimal s.place) (z ++ s.name ∷ [])
    ∙ ap (λ b. b && same_path k.rest.now (z ++ s.name ∷ [])) here)

pub returns-in_default : goal.returns-in_default
returns-in_default c = elim c.in_default.branch [
  | in_default-via-in-Some+else-is_place w ↦ λ z.
      let k = w.in-Some in
      let s = c.args.step.now in
      let counted : s.in_array ≡ true = search rules in
      let other : bytes_eq k.last.now (decimal s.place) ≡ false = search rules in
      sym (ap (same_path c.args.path.now) (step-place z s counted) ∙ last-is c.args.path.now k.rest.now k.last.now k.ensures.cases.0 (decimal s.place) (z ++ s.name ∷ [])
      ∙ ap (λ b. b && same_path k.rest.now (z ++ s.name ∷ [])) other)
  | in_default-via-in_default w ↦ λ z.
      let s = c.args.step.now in
      let counted : s.in_array ≡ true = search rules in
      let none : length c.args.path.now ≡ 0 = search rules in
      sym (ap (same_path c.args.path.now) (step-place z s counted) ∙ last-none c.args.path.now none (decimal s.place) (z ++ s.name ∷ []))
]
