-- After a new key is made, it is the caller's, and the old one is nobody's.
use Rattle.std.proofs.Common.{◌≡◌, ◌⊎◌, inl, inr, bytes_eq, ℕ, Bool, true, false, List, [], ◌∷◌, refl, sym, ◌∙◌, ap, subst, ◌==◌, if◌then◌else◌, cond, map}
use Rattle.std.{proofs.lemmas.Bool.{eq-eqb, true≢false, false_from_ne_true, cond-false}, specs.Prelude.{Option, Some, None, find, option_map, Contains}}
use Rattle.{iodef_tree.proofs.Order.bytes_eq-true, redact.proofs.{Filtered.none-any, InOrder.{In, contains_in}}, circle.specs.Aftermath.exchange_key}
use Rattle.circle.specs.{Directory.has_key, Outcomes.bare, Reads.person_in, declared.{command.CircleCommand.TheVariants.NewKey, directory.Account.Account}}
use Rattle.{circle.specs.declared.{directory.Person.Person, refusal.Code.TheVariants.S1}, hub_core.specs.{Refusals.unless_refused, Sound.IsSound, State.State}}
use Rattle.{hub_state.{proofs.Keeping.{found_is, found_each}, specs.{Aftermath.changed, declared.request.Request.Request}}, hub.proofs.OtherUnseen.found-by-key}
use Rattle.hub.{proofs.{OtherUnseen.known, Runs.left_sound, Served.same_person}, specs.{Laws.NewKeysReplaceOld, Machine.{left_by, state_left}}}
use Rattle.hub.specs.{Replies.{caller_of, if_active}, declared.key.Key.TheVariants.Digest}
use Rattle.hub_state.specs.declared.request.Request.TheVariants as ask

in-map : {X Y : Type 0} (f : X → Y) (xs : List X) (x : X) → In xs x → In (map f xs) (f x)
in-map f [] x h = absurd h
in-map f (y ∷ ys) x (inl h) = inl (ap f h)
in-map f (y ∷ ys) x (inr h) = inr (in-map f ys x h)

found-in : {X : Type 0} (p : X → Bool) (xs : List X) (x : X) → find p xs ≡ Some x → In xs x
found-in p [] x h = cc
found-in p (y ∷ ys) x h = by_test (p y) h (found-in p ys x)
  where
    by_test : (b : Bool) → cond b (Some y) (find p ys) ≡ Some x → (find p ys ≡ Some x → In ys x) → (y ≡ x) ⊎ In ys x
    by_test true k ih = inl cc
    by_test false k ih = inr (ih k)

abbrev with_key : ℕ → List ℕ → Account → Account
with_key n key a = if a.person.number == n then record a { key = key } else a

-- a key that only the person of this number has is nobody's once that person has another
none-left : (n : ℕ) (old new : List ℕ) (bs : List Account) →
    ((c : Account) → In bs c → bytes_eq c.key old ≡ true → (c.person.number == n) ≡ true) → bytes_eq new old ≡ false →
    find (λ (c : Account). bytes_eq c.key old) (map (with_key n new) bs) ≡ None
none-left n old new [] h k = refl
none-left n old new (b ∷ bs) h k = by_test (b.person.number == n) refl (none-left n old new bs (λ c i. h c (inr i)) k)
  where
    by_test : (t : Bool) → (b.person.number == n) ≡ t → find (λ (c : Account). bytes_eq c.key old) (map (with_key n new) bs) ≡ None →
        (let y = (if t then record b { key = new } else b) in
        cond (bytes_eq y.key old) (Some y) (find (λ (c : Account). bytes_eq c.key old) (map (with_key n new) bs))) ≡ None
    by_test true is ih = cond-false (bytes_eq new old) _ _ k ∙ ih
    by_test false is ih =
        cond-false (bytes_eq b.key old) _ _ (false_from_ne_true (bytes_eq b.key old) (λ e. true≢false (sym (h b (inl refl) e) ∙ is))) ∙ ih

-- the account of a key is exchanged for one with the new key
module _ (s : State) (p : Person) (old new : List ℕ) (b : Account) (sound : IsSound s)
    (found : find (λ (c : Account). bytes_eq c.key old) s.directory.accounts ≡ Some b) (here : b.person ≡ p) where
  abbrev exchanged : State
  exchanged = record s { directory = record s.directory { accounts = exchange_key p.number new s.directory.accounts } }

  own : (b.person.number == p.number) ≡ true
  own = eq-eqb b.person.number p.number (ap (λ (q : Person). q.number) here)

  new-there : Contains exchanged.directory.accounts (record b { key = new })
  new-there = contains_in exchanged.directory.accounts (record b { key = new })
      (subst (In exchanged.directory.accounts) (ap (λ t. if t then record b { key = new } else b) own)
      (in-map (with_key p.number new) s.directory.accounts b (found-in (λ (c : Account). bytes_eq c.key old) s.directory.accounts b found)))

  new-known : IsSound exchanged → caller_of exchanged (Digest new) ≡ if_active (Some b.person)
  new-known after = known exchanged (record b { key = new }) after new-there

  only-one : (c : Account) → In s.directory.accounts c → bytes_eq c.key old ≡ true → (c.person.number == p.number) ≡ true
  only-one c i e =
      let same : Some c ≡ Some b = sym (found-by-key s.directory.accounts c sound.directory.accounts.keys i)
      ∙ ap (λ k. find (λ (x : Account). bytes_eq x.key k) s.directory.accounts) (bytes_eq-true c.key old e) ∙ found in
      let one : c ≡ b = cc in
      ap (λ (x : Account). x.person.number == p.number) one ∙ own

  keys-differ : has_key new s.directory ≡ false → bytes_eq new old ≡ false
  keys-differ free = false_from_ne_true (bytes_eq new old) (λ e. true≢false
      (sym (ap (bytes_eq b.key) (bytes_eq-true new old e) ∙ found_is (λ (c : Account). bytes_eq c.key old) s.directory.accounts b found)
      ∙ found_each (λ (c : Account). bytes_eq c.key new ≡ false) (λ (c : Account). bytes_eq c.key old) s.directory.accounts b found
      (none-any (λ (c : Account). bytes_eq c.key new) s.directory.accounts free)))

  old-unknown : has_key new s.directory ≡ false → caller_of exchanged (Digest old) ≡ None
  old-unknown free = ap (λ o. if_active (option_map person_in o)) (none-left p.number old new s.directory.accounts only-one (keys-differ free))

-- a new key is refused only if somebody has it
free-key : (taken : Bool) → (if taken then Some (bare S1) else None) ≡ None → taken ≡ false
free-key true h = cc
free-key false h = refl

pub new-keys : NewKeysReplaceOld
new-keys s p old new sound h free = by_found (find (λ (c : Account). bytes_eq c.key old) s.directory.accounts) refl
  where
    r : Request
    r = ask.Circle (NewKey new)

    left : state_left s (Digest old) r ≡ changed s p r
    left = ap (λ o. left_by s o r) h ∙ ap (λ o. unless_refused o s (changed s p r)) free

    by_found : (o : Option Account) → find (λ (c : Account). bytes_eq c.key old) s.directory.accounts ≡ o →
        (caller_of (state_left s (Digest old) r) (Digest new) ≡ Some p) × (caller_of (state_left s (Digest old) r) (Digest old) ≡ None)
    by_found None is =
        let nobody : None ≡ Some p = sym (ap (λ o. if_active (option_map person_in o)) is) ∙ h in cc
    by_found (Some b) is =
        let called : if_active (Some b.person) ≡ Some p = sym (ap (λ o. if_active (option_map person_in o)) is) ∙ h in
        let here = same_person b p called in (
          ap (λ x. caller_of x (Digest new)) left
              ∙ new-known s p old new b sound is here (subst IsSound left (left_sound s (Digest old) r sound)) ∙ called,
          ap (λ x. caller_of x (Digest old)) left ∙ old-unknown s p old new b sound is here (free-key (has_key new s.directory) free),
        )
