-- Texts that are put one behind the other; the last of them may be refused.
use Rattle.std.proofs.Common.{◌≡◌, ℕ, List, ◌++◌, Result, Ok, Err, OnOk, subst}

module _ {S : Type 0} (puts : S → List ℕ → S → Type 0) (joins : (a b c : S) (x y : List ℕ) → puts a x b → puts b y c → puts a (x ++ y) c) where
  pub both-are : (a b c : S) (x y z : List ℕ) → x ++ y ≡ z → puts a x b → puts b y c → puts a z c
  both-are a b c x y z e p q = subst (λ t. puts a t c) e (joins a b c x y p q)

  pub ok-both-are : {E : Type 0} (a b c : S) (x y z : List ℕ) (r : Result (Unit {0}) E) → x ++ y ≡ z → puts a x b → OnOk r (puts b y c) → OnOk r (puts a z c)
  ok-both-are a b c x y z (Ok u) e p q = both-are a b c x y z e p q
  ok-both-are a b c x y z (Err f) e p q = tt
