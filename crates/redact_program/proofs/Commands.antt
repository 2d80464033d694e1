-- What `clap` reads of an option and of a command that are built step by step.
use Rattle.std.proofs.Common.{◌≡◌, ℕ, ◌==◌, Bool, true, false, not, ◌&&◌, List, [], ◌∷◌, ◌++◌, length, Result, Ok, Err, IfOk, refl, sym, ◌∙◌, ap, ap₂, Bor}
use Rattle.{std.proofs.Math.Dec.eqb-suc-zero, clap.specs.Words.{App, Rule, AddsArg, AddsConflicts, AddsRequiredUnless, AddsSubcommand, rule_of, with_rule}}
use Rattle.{clap.specs.{Words.with_subcommand, declared.builder.{Arg.Arg, Command.Command}}, redact_program.specs.Words.{IsArg, IsCommand, bound}}

one_more : {X : Type 0} (xs : List X) (x : X) → (length (xs ++ x ∷ []) == 0) ≡ false
one_more [] x = refl
one_more (y ∷ ys) x = eqb-suc-zero (length (ys ++ x ∷ []))

not_free : {X : Type 0} (e : Bool) (xs : List X) (rest : Bool) → (length xs == 0) ≡ false → (e && ((length xs == 0) && rest)) ≡ false
not_free true xs rest p = rw p refl
not_free false xs rest p = refl

-- an option that may not stand beside another one
pub conflicts : (old new : Arg) (x : Bor (List ℕ)) (rule : Rule) → AddsConflicts old new (x ∷ []) → IsArg old rule → IsArg new (bound rule)
conflicts old new x rule h is =
    let full : (length new.conflicts.items == 0) ≡ false = rw h.1 (one_more old.conflicts.items x) in
    let free = not_free (not old.exclusive) new.conflicts.items _ full in
    (ap rule_of h.0 ∙ ap (λ (b : Bool). record (rule_of old) { is_free = b }) free ∙ ap bound is.0, ap (λ (a : Arg). a.global) h.0 ∙ is.1)

-- an option that has to stand if another one doesn't
pub required : (old new : Arg) (xs : List (Bor (List ℕ))) (rule : Rule) → AddsRequiredUnless old new xs → IsArg old rule
    → IsArg new (record rule { is_free = (rule_of new).is_free })
required old new xs rule h is =
    (ap rule_of h.0 ∙ ap₂ (λ (r : Rule) (b : Bool). record r { is_free = b }) is.0 (sym (ap (λ (a : Arg). (rule_of a).is_free) h.0)), ap (λ (a : Arg). a.global) h.0 ∙ is.1)

-- a command with one option more
pub adds : {E : Type 0} (old : Command) (a : Arg) (r : Result Command E) (app : App) (rule : Rule) → IfOk r (λ new. AddsArg old a new)
    → IsCommand old app → IsArg a rule → IfOk r (λ c. IsCommand c (with_rule app rule))
adds old a (Ok new) app rule h built is = h.shape is.1 ∙ ap₂ with_rule built is.0
adds old a (Err e) app rule h built is = tt

third_false : (a b x rest : Bool) → (a && (b && (not x && rest))) ≡ true → x ≡ false
third_false true true false rest p = refl
third_false true true true rest p = cc
third_false true false x rest p = cc
third_false false b x rest p = cc

-- a program with one command more
pub adds_command : {E : Type 0} (old sub : Command) (r : Result Command E) (app sub_app : App) → IfOk r (λ new. AddsSubcommand old sub new)
    → IsCommand old app → sub_app.top.is_plain ≡ true → IsCommand sub sub_app → IfOk r (λ c. IsCommand c (with_subcommand app sub_app.top))
adds_command old sub (Ok new) app sub_app h built plain is =
    h.shape (third_false _ _ _ _ (ap (λ (a : App). a.top.is_plain) is ∙ plain)) ∙ ap₂ with_subcommand built (ap (λ (a : App). a.top) is)
adds_command old sub (Err e) app sub_app h built plain is = tt
