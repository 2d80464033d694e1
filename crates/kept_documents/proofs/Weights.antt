-- The weight of the documents that remain.
use Rattle.std.proofs.Common.{◌≡◌, ◌≤◌, ◌+◌, ◌-◌, ℕ, zero, suc, Bool, true, false, cond, List, [], ◌∷◌, length, take, slice_get, Option, Some, None, refl, sym}
use Rattle.std.{proofs.{Common.{subst, ap, nat_eq, arith}, lemmas.Option.slice_get-get_or}, specs.{Map.{lookup_entry, remove_entry}, Option.option_map_or}}
use Rattle.{lru.specs.LruCache.{LruCache, lru_cache, last_entry, promoted, put_entries}, hub_state.specs.Documents.Lines, kept_documents.specs.Kept.Entry}
use Rattle.kept_documents.specs.Kept.{document_weight, weight_in}

taken : (n : ℕ) (es : List Entry) → weight_in (take n es) ≤ weight_in es
taken zero es = omega arith
taken (suc n) [] = omega arith
taken (suc n) (e ∷ es) = let on = taken n es in omega arith

last_at : (n : ℕ) (es : List Entry) (e : Entry) → suc n ≡ length es → slice_get es n ≡ Some e → weight_in (take n es) + document_weight e.1 ≡ weight_in es
last_at n [] e p h = absurd (omega arith)
last_at zero (x ∷ []) e p h = let same : x ≡ e = cc in let same_weight = ap (λ (i : Entry). document_weight i.1) same in omega arith
last_at zero (x ∷ y ∷ ys) e p h = absurd (omega arith)
last_at (suc n) (x ∷ es) e p h = let on = last_at n es e (omega arith) h in omega arith

last_of : (es : List Entry) (e : Entry) → last_entry es ≡ Some e → weight_in (take (length es - 1) es) + document_weight e.1 ≡ weight_in es
last_of [] e h = cc
last_of (x ∷ es) e h = last_at (length (x ∷ es) - 1) (x ∷ es) e (omega arith) h

-- without the document read longest ago
pub last_fits : (es : List Entry) (key : ℕ) (v : Lines) (left : ℕ) → Some (key, v) ≡ last_entry es → weight_in es ≤ left → document_weight v ≤ left
last_fits es key v left h low = let l = last_of es (key, v) (sym h) in omega (arith, l)

pub last_gone : (c new : LruCache ℕ Lines) (key : ℕ) (v : Lines) (left : ℕ) → Some (key, v) ≡ last_entry c.entries → new ≡ lru_cache (take (length c.entries - 1) c.entries) c.cap → weight_in c.entries ≤ left → weight_in new.entries ≤ left - document_weight v
last_gone c new key v left h is low =
    subst (λ (x : LruCache ℕ Lines). weight_in x.entries ≤ left - document_weight v) (sym is) (let l = last_of c.entries (key, v) (sym h) in omega (arith, l))

pub none_left : (es : List Entry) → None ≡ last_entry es → weight_in es ≡ 0
none_left [] h = refl
none_left (x ∷ es) h = let at = slice_get-get_or (x ∷ es) (length (x ∷ es) - 1) x (omega arith) in cc

-- without the document of a key
removed : (test : ℕ → Bool) (es : List Entry) (e : Entry) → lookup_entry test es ≡ Some e → weight_in (remove_entry test es) + document_weight e.1 ≡ weight_in es
removed test [] e h = cc
removed test (x ∷ es) e h = elim (test x.0) as (λ b. cond b (Some x) (lookup_entry test es) ≡ Some e → weight_in (cond b es (x ∷ remove_entry test es)) + document_weight e.1 ≡ document_weight x.1 + weight_in es) [
  | true ↦ λ k. let same : x ≡ e = cc in let same_weight = ap (λ (i : Entry). document_weight i.1) same in omega arith
  | false ↦ λ k. let on = removed test es e k in omega arith
] h

less : (test : ℕ → Bool) (es : List Entry) → weight_in (remove_entry test es) ≤ weight_in es
less test [] = omega arith
less test (x ∷ es) = elim (test x.0) as (λ b. weight_in (cond b es (x ∷ remove_entry test es)) ≤ document_weight x.1 + weight_in es) [
  | true ↦ omega arith
  | false ↦ let on = less test es in omega arith
]

-- with the document of a key moved to the front
promoted_weight : (test : ℕ → Bool) (es : List Entry) → weight_in (promoted test es) ≡ weight_in es
promoted_weight test es = by_case (lookup_entry test es) refl
  where
    by_case : (o : Option Entry) → lookup_entry test es ≡ o → weight_in (option_map_or (λ e. e ∷ remove_entry test es) o es) ≡ weight_in es
    by_case None is = refl
    by_case (Some e) is = let left = removed test es e is in omega arith

pub promoted_fits : (n : ℕ) (c new : LruCache ℕ Lines) (left : ℕ) → new ≡ lru_cache (promoted (nat_eq n) c.entries) c.cap → weight_in c.entries ≤ left → weight_in new.entries ≤ left
promoted_fits n c new left is low = subst (λ (x : LruCache ℕ Lines). weight_in x.entries ≤ left) (sym is) (let l = promoted_weight (nat_eq n) c.entries in omega (arith, l))

-- with a document that is put
put_weight : (c : LruCache ℕ Lines) (n : ℕ) (v : Lines) → weight_in (put_entries nat_eq c n v) ≤ document_weight v + weight_in c.entries
put_weight c n v = elim (lookup_entry (nat_eq n) c.entries) as (λ o. weight_in (option_map_or (λ (e : Entry). (e.0, v) ∷ remove_entry (nat_eq n) c.entries) o ((n, v) ∷ take (c.cap - 1) c.entries)) ≤ document_weight v + weight_in c.entries) [
  | None ↦ let on = taken (c.cap - 1) c.entries in omega arith
  | Some e ↦ let on = less (nat_eq n) c.entries in omega arith
]

pub put_fits : (n : ℕ) (v : Lines) (c new : LruCache ℕ Lines) (left weight : ℕ) → new ≡ lru_cache (put_entries nat_eq c n v) c.cap → weight_in c.entries ≤ left → weight ≡ document_weight v → weight_in new.entries ≤ left + weight
put_fits n v c new left weight is low same = subst (λ (x : LruCache ℕ Lines). weight_in x.entries ≤ left + weight) (sym is) (let l = put_weight c n v in omega (arith, l))

pub gone : (n : ℕ) (es : List Entry) (key : ℕ) (v : Lines) → Some (key, v) ≡ lookup_entry (nat_eq n) es → weight_in (remove_entry (nat_eq n) es) + document_weight v ≡ weight_in es
gone n es key v h = removed (nat_eq n) es (key, v) (sym h)

pub one_gone : (n : ℕ) (c new : LruCache ℕ Lines) (key : ℕ) (v : Lines) (left : ℕ) → Some (key, v) ≡ lookup_entry (nat_eq n) c.entries → new ≡ lru_cache (remove_entry (nat_eq n) c.entries) c.cap → weight_in c.entries ≤ left → weight_in new.entries ≤ left - document_weight v
one_gone n c new key v left h is low = subst (λ (x : LruCache ℕ Lines). weight_in x.entries ≤ left - document_weight v) (sym is) (let l = gone n c.entries key v h in omega (arith, l))

-- with a document that wasn't there
pub none_gone : (n : ℕ) (c new : LruCache ℕ Lines) (left : ℕ) → new ≡ lru_cache (remove_entry (nat_eq n) c.entries) c.cap → weight_in c.entries ≤ left → weight_in new.entries ≤ left
none_gone n c new left is low = subst (λ (x : LruCache ℕ Lines). weight_in x.entries ≤ left) (sym is) (let l = less (nat_eq n) c.entries in omega (arith, l))
