-- An object that is put one member after another.
use Rattle.std.proofs.Common.{◌≡◌, ℕ, List, [], ◌∷◌, ◌++◌, Bool, true, false, cond, ◌&&◌, Result, OnOk, refl, sym, ap, ◌∙◌, subst, append_assoc, append-nil}
use Rattle.{json.specs.Print.quoted, serde_json.specs.Written.comma_if, json_text.proofs.{Puts.{both-are, ok-both-are}, Texts.separator-begins}}
use Rattle.json_text.{proofs.Texts.separator-ends, specs.Members.member_text}

-- a member's name, with the text of its value
abbrev pub Named : Type 0
Named = List ℕ × List ℕ

-- the members, with the rest behind them
abbrev pub members_then : Bool → List Named → List ℕ → List ℕ
members_then later [] rest = rest
members_then later (m ∷ ms) rest = comma_if later ++ (quoted m.0 ++ 58 ∷ (m.1 ++ members_then true ms rest))

abbrev pub is_some : List Named → Bool
is_some [] = false
is_some (m ∷ ms) = true

abbrev either_later : Bool → List Named → Bool
either_later later [] = later
either_later later (m ∷ ms) = true

regroup : (c q t r s : List ℕ) → (c ++ (q ++ 58 ∷ (t ++ r))) ++ s ≡ c ++ (q ++ 58 ∷ (t ++ (r ++ s)))
regroup c q t r s =
    append_assoc c (q ++ 58 ∷ (t ++ r)) s ∙ ap (λ l. c ++ l) (append_assoc q (58 ∷ (t ++ r)) s ∙ ap (λ l. q ++ 58 ∷ l) (append_assoc t r s))

behind : (later : Bool) (ms : List Named) (rest : List ℕ) → members_then later ms [] ++ rest ≡ members_then later ms rest
behind later [] rest = refl
behind later (m ∷ ms) rest = regroup (comma_if later) (quoted m.0) m.1 (members_then true ms []) rest ∙ ap (λ l. comma_if later ++ (quoted m.0 ++ 58 ∷ (m.1 ++ l))) (behind true ms rest)

one-more : (later : Bool) (ms : List Named) (k t : List ℕ) → members_then later ms [] ++ member_text (either_later later ms) k t ≡ members_then later (ms ++ (k, t) ∷ []) []
one-more later [] k t = ap (λ l. comma_if later ++ (quoted k ++ 58 ∷ l)) (sym (append-nil t))
one-more later (m ∷ []) k t =
    regroup (comma_if later) (quoted m.0) m.1 [] (member_text true k t) ∙ ap (λ l. comma_if later ++ (quoted m.0 ++ 58 ∷ (m.1 ++ l))) (one-more true [] k t)
one-more later (m ∷ n ∷ ms) k t =
    regroup (comma_if later) (quoted m.0) m.1 (members_then true (n ∷ ms) []) (member_text true k t) ∙ ap (λ l. comma_if later ++ (quoted m.0 ++ 58 ∷ (m.1 ++ l))) (one-more true (n ∷ ms) k t)

later-is : (ms : List Named) → is_some ms ≡ either_later false ms
later-is [] = refl
later-is (m ∷ ms) = refl

some-more : (ms : List Named) (m : Named) → is_some (ms ++ m ∷ []) ≡ true
some-more [] m = refl
some-more (n ∷ ms) m = refl

module _ {S : Type 0} (puts : S → List ℕ → S → Type 0) (joins : (a b c : S) (x y : List ℕ) → puts a x b → puts b y c → puts a (x ++ y) c) where
  -- The opening brace and these members are put behind the sink `a`.
  pub record Holds (a : S) (first : Bool) (b : S) (after : Bool) (ms : List Named) : Type 0 where
    pub text : puts a ((comma_if first ++ 123 ∷ []) ++ members_then false ms []) b
    pub later : after ≡ is_some ms

  pub begins : {a b : S} {first after : Bool} → puts a (cond {A = List ℕ} (first && true) (44 ∷ []) [] ++ 123 ∷ []) b → after ≡ false → Holds a first b after []
  begins {a} {b} {first} {after} p e = record {
    text = subst (λ t. puts a t b) (ap (λ l. l ++ 123 ∷ []) (separator-begins first) ∙ sym (append-nil (comma_if first ++ 123 ∷ []))) p;
    later = e;
  }

  -- one member more
  pub holds-more : {a b c : S} {first mid after : Bool} {ms : List Named} (k t s : List ℕ) → Holds a first b mid ms → puts b (member_text mid k s) c → after ≡ true → s ≡ t →
      Holds a first c after (ms ++ (k, t) ∷ [])
  holds-more {a} {b} {c} {first} {mid} {after} {ms} k t s h p e is = record {
    text = both-are puts joins a b c _ _ _
        (append_assoc (comma_if first ++ 123 ∷ []) (members_then false ms []) (member_text mid k s)
        ∙ ap (λ l. (comma_if first ++ 123 ∷ []) ++ (members_then false ms [] ++ member_text l k s)) (h.later ∙ later-is ms)
        ∙ ap (λ l. (comma_if first ++ 123 ∷ []) ++ (members_then false ms [] ++ member_text (either_later false ms) k l)) is
        ∙ ap (λ l. (comma_if first ++ 123 ∷ []) ++ l) (one-more false ms k t))
        h.text p;
    later = e ∙ sym (some-more ms (k, t));
  }

  -- one member more, its name and then its value
  pub holds-named : {a b n c : S} {first mid between after : Bool} {ms : List Named} (k t s : List ℕ) → Holds a first b mid ms →
      puts b (comma_if mid ++ (quoted k ++ 58 ∷ [])) n → between ≡ false → puts n (comma_if between ++ s) c → after ≡ true → s ≡ t → Holds a first c after (ms ++ (k, t) ∷ [])
  holds-named {a} {b} {n} {c} {first} {mid} {between} {after} {ms} k t s h p fresh q e is =
      holds-more k t s h
      (both-are puts joins b n c _ _ _
      (ap (λ l. (comma_if mid ++ (quoted k ++ 58 ∷ [])) ++ (comma_if l ++ s)) fresh
      ∙ append_assoc (comma_if mid) (quoted k ++ 58 ∷ []) s
      ∙ ap (λ l. comma_if mid ++ l) (append_assoc (quoted k) (58 ∷ []) s))
      p q)
      e is

  -- the closing brace
  pub ends : {E : Type 0} {a b : S} {first mid : Bool} {ms : List Named} (c : S) (r : Result (Unit {0}) E) → Holds a first b mid ms →
      OnOk r (puts b (cond {A = List ℕ} (mid && false) (44 ∷ []) [] ++ 125 ∷ []) c) → OnOk r (puts a (comma_if first ++ 123 ∷ members_then false ms (125 ∷ [])) c)
  ends {a = a} {b = b} {first = first} {mid = mid} {ms = ms} c r h p =
      ok-both-are puts joins a b c _ _ _ r
      (ap (λ l. ((comma_if first ++ 123 ∷ []) ++ members_then false ms []) ++ (l ++ 125 ∷ [])) (separator-ends mid)
      ∙ append_assoc (comma_if first ++ 123 ∷ []) (members_then false ms []) (125 ∷ [])
      ∙ ap (λ l. (comma_if first ++ 123 ∷ []) ++ l) (behind false ms (125 ∷ []))
      ∙ append_assoc (comma_if first) (123 ∷ []) (members_then false ms (125 ∷ [])))
      h.text p
