-- Gates and permissions with the rest of their paths, one after another.
use Rattle.std.proofs.{Common.{◌≡◌, Bool, false, ◌&&◌, List, [], ◌∷◌, map, cond, length, refl, sym, ◌∙◌, ap, arith, ◌==◌}, lemmas.Bool.eqb-true}
use Rattle.std.{proofs.lemmas.{Bool.{false_from_ne_true, false≢true, or_left}, Option.none-some}, specs.{List.{filter_map, list_any}, Prelude.{filter, Some}}}
use Rattle.{std.specs.Prelude.None, iodef_tree.{proofs.Order.same_path-refl, specs.Text.{Tokens, same_path}}, policy.specs.Ahead.{refused_with, granted_with}}
use Rattle.policy.specs.{Gates.refusal_of_gate, Permissions.holds_for, Verdict.first_of, declared.{gate.Gate.Gate, onward.Granting.Granting}}
use Rattle.policy.specs.declared.{onward.Refusing.Refusing, permission.Permission.Permission, rule.Rule.Rule, standing.Standing.Standing}

-- the refusals at a path, of some gates of a case
abbrev pub refusals_among : Standing → List Gate → Tokens → List Rule
refusals_among s gs z = filter_map (refusal_of_gate s) (filter (λ g. same_path g.path z) gs)

-- one of these permissions has this path and holds
abbrev pub granted_among : Standing → List Permission → Tokens → Bool
granted_among s xs z = list_any (λ x. holds_for s x && same_path x.path z) xs

-- the rest of a path is empty exactly if it has no token
pub none-left : (r : Tokens) → same_path r [] ≡ (length r == 0)
none-left [] = refl
none-left (x ∷ r) = sym (false_from_ne_true (length (x ∷ r) == 0) (λ h. let e = eqb-true (length (x ∷ r)) 0 h in omega (arith, e)))

-- a gate is met at the rest of its path
met-there : (x : Refusing) (xs : List Refusing) → first_of (refused_with (x ∷ xs) x.rest.now) ≡ Some x.rule
met-there x xs =
    let rest = filter (λ (y : Refusing). same_path y.rest.now x.rest.now) xs in
    ap (λ b. first_of (map (λ (y : Refusing). y.rule) (cond b (x ∷ rest) rest))) (same_path-refl x.rest.now)

-- if no gate is met anywhere, there is no gate left
pub none-refuses : (xs : List Refusing) → ((z : Tokens) → first_of (refused_with xs z) ≡ None) → length xs ≡ 0
none-refuses [] none = refl
none-refuses (x ∷ xs) none = absurd (none-some x.rule (sym (none x.rest.now) ∙ met-there x xs))

-- if no permission is met anywhere, there is none left
pub none-grants : (xs : List Granting) → ((z : Tokens) → granted_with xs z ≡ false) → length xs ≡ 0
none-grants [] none = refl
none-grants (x ∷ xs) none =
    absurd (false≢true (sym (none x.rest.now) ∙ or_left (same_path x.rest.now x.rest.now) (granted_with xs x.rest.now) (same_path-refl x.rest.now)))
