-- Which documents remain of those that are kept.
use Rattle.std.proofs.Common.{◌≡◌, ◌≤◌, ◌⊎◌, ◌-◌, ℕ, Bool, true, false, cond, List, [], ◌∷◌, length, take, Some, None, Contains, inl, inr, refl, sym, subst, ap}
use Rattle.std.{proofs.{Common.{◌∙◌, nat_eq}, lemmas.{Bool.eqb-true, Map.lookup-remove_entry}}, specs.{Cmp.nat_eq_equiv, List.IsDistinct, Map.lookup}}
use Rattle.{std.specs.Map.{remove_entry, keys_of}, lru.proofs.CallerLemmas.{Contains-take, Contains-lookup, Contains-promoted, Contains-put_entries}}
use Rattle.lru.{proofs.{CallerLemmas.Contains-remove_entry, Splits.{Contains-cons, Contains-nil}}, specs.LruCache.{LruCache, IsValid, lru_cache, put_entries}}
use Rattle.{lru.specs.LruCache.promoted, hub_state.specs.Documents.Lines, kept_documents.specs.Kept.{Entry, AreAmong, AreLight, document_weight}}

pub taken_among : (c new start : LruCache ℕ Lines) → new ≡ lru_cache (take (length c.entries - 1) c.entries) c.cap → AreAmong c.entries start.entries → AreAmong new.entries start.entries
taken_among c new start is among e k = among e (Contains-take (length c.entries - 1) c.entries e (subst (λ (x : LruCache ℕ Lines). Contains x.entries e) is k))

pub kept_promoted : (n : ℕ) (c new : LruCache ℕ Lines) (es : List Entry) → new ≡ lru_cache (promoted (nat_eq n) c.entries) c.cap → c.entries ≡ es → AreAmong new.entries es
kept_promoted n c new es is view e k = subst (λ l. Contains l e) view (Contains-promoted (nat_eq n) c.entries e (subst (λ l. Contains l e) (ap (λ (x : LruCache ℕ Lines). x.entries) is) k))

pub light_promoted : (n : ℕ) (c new : LruCache ℕ Lines) → new ≡ lru_cache (promoted (nat_eq n) c.entries) c.cap → AreLight c.entries → AreLight new.entries
light_promoted n c new is light e k = light e (kept_promoted n c new c.entries is refl e k)

-- a document found under a number is kept with it
pub found : (n : ℕ) (es : List Entry) (v : Lines) → lookup (nat_eq n) es ≡ Some v → Contains es (n, v)
found n es v h = let at = Contains-lookup (nat_eq n) es v h in let same : n ≡ at.0 = eqb-true n at.0 at.2 in subst (λ k. Contains es (k, v)) (sym same) at.1

pair_is : (e : Entry) (n : ℕ) (v : Lines) → e.0 ≡ n → e.1 ≡ v → e ≡ (n, v)
pair_is (m, w) n v key value = cc

put_or_kept : (c : LruCache ℕ Lines) (n : ℕ) (v : Lines) (e : Entry) → Contains (put_entries nat_eq c n v) e → Contains c.entries e ⊎ (e ≡ (n, v))
put_or_kept c n v e h = elim (Contains-put_entries nat_eq c n v e h) [
  | inl old ↦ inl old
  | inr new ↦ inr (elim new.1 [
    | inl key ↦ pair_is e n v key new.0
    | inr was ↦ pair_is e n v (sym (eqb-true n e.0 was.2)) new.0
  ])
]

-- a put document is the new one, whatever its number had before
pub kept_put : (n : ℕ) (v kept : Lines) (c mid new : LruCache ℕ Lines) (es : List Entry) → new ≡ lru_cache (put_entries nat_eq mid n kept) mid.cap → AreAmong mid.entries c.entries → c.entries ≡ es → kept ≡ v →
    (e : Entry) → Contains new.entries e → Contains es e ⊎ (e ≡ (n, v))
kept_put n v kept c mid new es is among view same e k = elim (put_or_kept mid n kept e (subst (λ l. Contains l e) (ap (λ (x : LruCache ℕ Lines). x.entries) is) k)) [
  | inl was ↦ inl (subst (λ l. Contains l e) view (among e was))
  | inr here ↦ inr (here ∙ ap (λ w. (n, w)) same)
]

-- a light document is put
pub light_put : (n : ℕ) (v : Lines) (c mid new : LruCache ℕ Lines) → new ≡ lru_cache (put_entries nat_eq mid n v) mid.cap → AreAmong mid.entries c.entries → document_weight v ≤ 1048576 → AreLight c.entries → AreLight new.entries
light_put n v c mid new is among low light e k = elim (kept_put n v v c mid new c.entries is among refl refl e k) [
  | inl was ↦ light e was
  | inr here ↦ subst (λ (i : Entry). document_weight i.1 ≤ 1048576) (sym here) low
]

pub kept_same : (c mid new : LruCache ℕ Lines) (es : List Entry) → new ≡ mid → AreAmong mid.entries c.entries → c.entries ≡ es → AreAmong new.entries es
kept_same c mid new es is among view e k = subst (λ l. Contains l e) view (among e (subst (λ (x : LruCache ℕ Lines). Contains x.entries e) is k))

absent : (test : ℕ → Bool) (es : List Entry) (e : Entry) → lookup test es ≡ None → Contains es e → test e.0 ≡ false
absent test [] e h c = absurd (Contains-nil e c)
absent test (x ∷ es) e h c = (elim (test x.0) as (λ b. test x.0 ≡ b → cond b (Some x.1) (lookup test es) ≡ None → test e.0 ≡ false) [
  | true ↦ λ is k. cc
  | false ↦ λ is k. elim (Contains-cons x es e c) [ inl same ↦ subst (λ (i : Entry). test i.0 ≡ false) same is | inr on ↦ absent test es e k on ]
]) refl h

none_left : (n : ℕ) (es : List Entry) → IsDistinct nat_eq (keys_of es) → lookup (nat_eq n) (remove_entry (nat_eq n) es) ≡ None
none_left n es apart =
    lookup-remove_entry nat_eq_equiv (nat_eq n) (λ x y h. ap (λ k. nat_eq k y) (eqb-true n x h)) n es apart ∙ ap (λ b. cond b None (lookup (nat_eq n) es)) (nat_eq_equiv.refl n)

-- the documents that remain without a number are of other numbers
pub kept_others : (n : ℕ) (c new : LruCache ℕ Lines) (es : List Entry) → IsValid nat_eq c → new ≡ lru_cache (remove_entry (nat_eq n) c.entries) c.cap → c.entries ≡ es →
    (e : Entry) → Contains new.entries e → Contains es e × (nat_eq n e.0 ≡ false)
kept_others n c new es valid is view e k =
    let left : Contains (remove_entry (nat_eq n) c.entries) e = subst (λ l. Contains l e) (ap (λ (x : LruCache ℕ Lines). x.entries) is) k in
    (subst (λ l. Contains l e) view (Contains-remove_entry (nat_eq n) c.entries e left), absent (nat_eq n) (remove_entry (nat_eq n) c.entries) e (none_left n c.entries valid.0) left)

pub light_others : (n : ℕ) (c new : LruCache ℕ Lines) → IsValid nat_eq c → new ≡ lru_cache (remove_entry (nat_eq n) c.entries) c.cap → AreLight c.entries → AreLight new.entries
light_others n c new valid is light e k = light e (kept_others n c new c.entries valid is refl e k).0

-- nothing is left when all documents are dropped
pub none_among : (new old : List Entry) → new ≡ [] → AreAmong new old
none_among new old is e k = absurd (Contains-nil e (subst (λ l. Contains l e) is k))

pub none_light : (entries : List Entry) → entries ≡ [] → AreLight entries
none_light entries is e k = absurd (Contains-nil e (subst (λ l. Contains l e) is k))
