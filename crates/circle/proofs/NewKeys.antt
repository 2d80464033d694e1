-- A new key changes nothing but the key of the actor.
use Rattle.std.proofs.Common.{◌≡◌, ◌⊎◌, inl, inr, ℕ, ◌==◌, Bool, true, false, not, List, [], ◌∷◌, map, Option, Some, None, if◌then◌else◌, refl, ap, ◌∙◌}
use Rattle.circle.{proofs.{Kept.same_when, Others.{each_of, kept_exchanged}}, specs.{Aftermath.{changed, unless_refused}, Directory.Directory}}
use Rattle.circle.specs.{Laws.NewKeysChangeOne, NewKeys.ChangesKeyOf, Refusals.refusal_of, declared.command.CircleCommand.TheVariants.NewKey}
use Rattle.circle.specs.declared.{directory.Account.Account, refusal.Refusal.Refusal}

-- what each row shows stays
shows_map : {X Y : Type 0} (show : X → Y) (f : X → X) (xs : List X) → ((x : X) → show (f x) ≡ show x) → map show (map f xs) ≡ map show xs
shows_map show f [] same = refl
shows_map show f (x ∷ xs) same = ap (λ y. y ∷ map show (map f xs)) (same x) ∙ ap (λ ys. show x ∷ ys) (shows_map show f xs same)

only_key : (d : Directory) (n : ℕ) (key : List ℕ) → ChangesKeyOf n d (record d { accounts = map (λ (a : Account). if a.person.number == n then record a { key = key } else a) d.accounts })
only_key d n key = record {
  others = kept_exchanged others set d.accounts (each_of _ d.accounts (λ a. either a (a.person.number == n) refl));
  persons = shows_map (λ (a : Account). a.person) set d.accounts (λ a. same_when (λ (x : Account). x.person) (a.person.number == n) (record a { key = key }) a refl);
  rest = refl;
}
  where
    set : Account → Account
    set a = if a.person.number == n then record a { key = key } else a

    others : Account → Bool
    others a = not (a.person.number == n)

    either : (a : Account) (b : Bool) → (a.person.number == n) ≡ b → (set a ≡ a) ⊎ ((others a ≡ false) × (others (set a) ≡ false))
    either a true is =
        let own : others a ≡ false = ap (λ b. not b) is in
        inr (own, same_when others (a.person.number == n) (record a { key = key }) a refl ∙ own)
    either a false is = inl (ap (λ b. if b then record a { key = key } else a) is)

pub new_keys_change_one : NewKeysChangeOne
new_keys_change_one d a key = split (refusal_of d a (NewKey key))
  where
    split : (r : Option Refusal) → ChangesKeyOf a.number d (unless_refused r d (changed d a (NewKey key)))
    split None = only_key d a.number key
    split (Some r) = record { others = refl; persons = refl; rest = refl }
