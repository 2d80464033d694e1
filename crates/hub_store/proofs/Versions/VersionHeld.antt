-- A store that holds a state in a version has that version.
use Rattle.std.proofs.Common.{◌≡◌, ◌==◌, ◌⊎◌, inl, inr, ℕ, pos, List, [], ◌∷◌, map, drop, Bool, true, false, eqb-true, Some, IsTrue, refl, sym, subst, ap, ◌∙◌}
use Rattle.{std.{proofs.{Common.arith, lemmas.Bool.Decides.nat_tests}, specs.List.Sorted.IsPermutation}, sqlite_value.specs.Order.{Row, column}}
use Rattle.{sqlite_value.specs.declared.value.Value.TheVariants.Int, sqlite_schema.specs.Names.same_name, sqlite.proofs.Callers.one_permutation}
use Rattle.{sqlite.specs.{Effect.Database, State.State}, hub_store.{proofs.Rows.Compare.column_past, specs.{Content.{HasAs, Has}, Means.HoldsAs}}}
use Rattle.hub_store.specs.{Opening.{newest, is_older}, Versions.{hub_of, versions_by, only_u32, version_of}}
use Rattle.hub_state.specs.State as core

-- the one row of the table, whose rowid means nothing
one_version : (v : ℕ) (rows : List Row) → IsPermutation ((Int (pos v) ∷ []) ∷ []) (map (drop 1) rows) → map (λ r. column r 1) rows ≡ Int (pos v) ∷ []
one_version v rows same = go rows (one_permutation (Int (pos v) ∷ []) (map (drop 1) rows) same)
  where
    go : (rows : List Row) → map (drop 1) rows ≡ (Int (pos v) ∷ []) ∷ [] → map (λ r. column r 1) rows ≡ Int (pos v) ∷ []
    go [] is = absurd cc
    go (r ∷ []) is =
        let first : drop 1 r ≡ Int (pos v) ∷ [] = cc in
        ap (λ x. x ∷ []) (column_past r 0 ∙ ap (λ it. column it 0) first)
    go (r ∷ q ∷ rows) is = absurd cc

pub tells_1 : (db : Database) (s : core.State) → HoldsAs 1 db s → version_of db ≡ Some 1
unfolding same_name
tells_1 db s held = ap (λ schema. only_u32 (versions_by db.trees (hub_of schema))) held.known ∙ ap only_u32 (one_version 1 (db.trees 0) held.means.0.same)

pub tells_2 : (db : Database) (s : core.State) → HoldsAs 2 db s → version_of db ≡ Some 2
unfolding same_name
tells_2 db s held = ap (λ schema. only_u32 (versions_by db.trees (hub_of schema))) held.known ∙ ap only_u32 (one_version 2 (db.trees 0) held.means.0.same)

pub tells_3 : (db : Database) (s : core.State) → HoldsAs 3 db s → version_of db ≡ Some 3
unfolding same_name
tells_3 db s held = ap (λ schema. only_u32 (versions_by db.trees (hub_of schema))) held.known ∙ ap only_u32 (one_version 3 (db.trees 0) held.means.0.same)

pub tells_4 : (db : Database) (s : core.State) → HoldsAs 4 db s → version_of db ≡ Some 4
unfolding same_name
tells_4 db s held = ap (λ schema. only_u32 (versions_by db.trees (hub_of schema))) held.known ∙ ap only_u32 (one_version 4 (db.trees 0) held.means.0.same)

abbrev pub IsOneOfThree : ℕ → Type 0
IsOneOfThree v = (v ≡ 1) ⊎ ((v ≡ 2) ⊎ (v ≡ 3))

pub older_is : (v : ℕ) → IsTrue (is_older v) → IsOneOfThree v
older_is v older = go (v == 1) refl (v == 2) refl
  where
    go : (b : Bool) → (v == 1) ≡ b → (c : Bool) → (v == 2) ≡ c → IsOneOfThree v
    go true is c also = inl (eqb-true v 1 is)
    go false is true also = inr (inl (eqb-true v 2 also))
    go false is false also = let left : v ≡ 3 = grind (arith, nat_tests) in inr (inr left)

older_held : (db : Database) (v : ℕ) (s : core.State) → IsOneOfThree v → HoldsAs v db s → version_of db ≡ Some v
older_held db v s (inl is) held = tells_1 db s (subst (λ k. HoldsAs k db s) is held) ∙ ap Some (sym is)
older_held db v s (inr (inl is)) held = tells_2 db s (subst (λ k. HoldsAs k db s) is held) ∙ ap Some (sym is)
older_held db v s (inr (inr is)) held = tells_3 db s (subst (λ k. HoldsAs k db s) is held) ∙ ap Some (sym is)

pub older_tells : (c : State) (v : ℕ) (s : core.State) → IsTrue (is_older v) → HasAs v c s → IsTrue c.is_open → version_of c.now ≡ Some v
older_tells c v s older has up = ap version_of (has.settled up) ∙ older_held c.committed v s (older_is v older) (has.holds up)

pub newest_tells : (c : State) (s : core.State) → Has c s → IsTrue c.is_open → version_of c.now ≡ Some newest
newest_tells c s has up = ap version_of (has.settled up) ∙ tells_4 c.committed s (has.holds up)
