-- An array that is put one element after another, of elements of several kinds.
use Rattle.std.proofs.Common.{◌≡◌, ℕ, List, [], ◌∷◌, ◌++◌, Bool, true, false, cond, ◌&&◌, Result, Ok, Err, OnOk, refl, ap, ◌∙◌, subst, append_assoc}
use Rattle.{serde_json.specs.{Data.Data, View.items_of, Written.{comma_if, compact_text, items_text}}, json_text.proofs.Puts.ok-both-are}
use Rattle.hub_http.specs.Bodies.{listed}

-- a comma before a token that begins a value, and none before a closing bracket
separator-begins : (a : Bool) → cond {A = List ℕ} (a && true) (44 ∷ []) [] ≡ comma_if a
separator-begins true = refl
separator-begins false = refl

separator-ends : (a : Bool) → cond {A = List ℕ} (a && false) (44 ∷ []) [] ≡ []
separator-ends true = refl
separator-ends false = refl

module _ {S : Type 0} (puts : S → List ℕ → S → Type 0)
    (joins : (a b c : S) (x y : List ℕ) → puts a x b → puts b y c → puts a (x ++ y) c) where
  -- Behind the sink `a` the text is put, all but these elements and the closing bracket.
  pub record Lacks (a : S) (text : List ℕ) (b : S) (after : Bool) (left : List Data) : Type 0 where
    pub done : List ℕ
    pub put : puts a done b
    pub is : done ++ items_text after (items_of left) ≡ text

  pub begins : {a b : S} {after : Bool} (first : Bool) (ds : List Data) → puts a (cond {A = List ℕ} (first && true) (44 ∷ []) [] ++ 91 ∷ []) b → after ≡ false →
      Lacks a (comma_if first ++ compact_text (listed ds)) b after ds
  begins first ds p e = record {
    done = cond {A = List ℕ} (first && true) (44 ∷ []) [] ++ 91 ∷ [];
    put = p;
    is = ap (λ l. (cond {A = List ℕ} (first && true) (44 ∷ []) [] ++ 91 ∷ []) ++ items_text l (items_of ds)) e
        ∙ ap (λ l. (l ++ 91 ∷ []) ++ items_text false (items_of ds)) (separator-begins first)
        ∙ append_assoc (comma_if first) (91 ∷ []) (items_text false (items_of ds));
  }

  -- one element more
  pub next : {a b c : S} {mid after : Bool} {text : List ℕ} {d : Data} {left : List Data} (t : List ℕ) → Lacks a text b mid (d ∷ left) →
      puts b (comma_if mid ++ t) c → after ≡ true → t ≡ compact_text d → Lacks a text c after left
  next {a = a} {b = b} {c = c} {mid = mid} {left = left} t h p e is = record {
    done = h.done ++ (comma_if mid ++ t);
    put = joins a b c h.done (comma_if mid ++ t) h.put p;
    is = ap (λ l. (h.done ++ (comma_if mid ++ t)) ++ items_text l (items_of left)) e
        ∙ append_assoc h.done (comma_if mid ++ t) (items_text true (items_of left))
        ∙ ap (λ l. h.done ++ l) (append_assoc (comma_if mid) t (items_text true (items_of left)))
        ∙ ap (λ l. h.done ++ (comma_if mid ++ (l ++ items_text true (items_of left)))) is
        ∙ h.is;
  }

  -- one element more, by a token
  pub next-token : {a b c : S} {mid after : Bool} {text : List ℕ} {d : Data} {left : List Data} (t : List ℕ) → Lacks a text b mid (d ∷ left) →
      puts b (cond {A = List ℕ} (mid && true) (44 ∷ []) [] ++ t) c → after ≡ true → t ≡ compact_text d → Lacks a text c after left
  next-token {b = b} {c = c} {mid = mid} t h p = next t h (subst (λ s. puts b (s ++ t) c) (separator-begins mid) p)

  -- the closing bracket
  pub ends : {E : Type 0} {a b : S} {mid : Bool} {text : List ℕ} (c : S) (r : Result (Unit {0}) E) → Lacks a text b mid [] →
      OnOk r (puts b (cond {A = List ℕ} (mid && false) (44 ∷ []) [] ++ 93 ∷ []) c) → OnOk r (puts a text c)
  ends {a = a} {b = b} {mid = mid} {text = text} c r h p =
      ok-both-are puts joins a b c h.done _ text r (ap (λ l. h.done ++ (l ++ 93 ∷ [])) (separator-ends mid) ∙ h.is) h.put p

  -- a value by one token, which may be refused
  pub token-is : {E : Type 0} (a b : S) (first : Bool) (t s : List ℕ) (r : Result (Unit {0}) E) →
      OnOk r (puts a (cond {A = List ℕ} (first && true) (44 ∷ []) [] ++ t) b) → t ≡ s → OnOk r (puts a (comma_if first ++ s) b)
  token-is a b first t s (Ok u) p is =
      subst (λ l. puts a l b) (ap (λ l. l ++ t) (separator-begins first) ∙ ap (λ l. comma_if first ++ l) is) p
  token-is a b first t s (Err e) p is = tt
