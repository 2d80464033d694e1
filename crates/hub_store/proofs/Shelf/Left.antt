-- What a crash leaves.
use Rattle.std.{proofs.Common.{◌≡◌, ◌⊎◌, inl, inr, IsTrue, Option, Some, None, sym, ap, subst}, specs.Prelude.{◌↔◌, IfSome}}
use Rattle.{sqlite_trees.specs.{Objects.catalog_tree, Tree.Trees}, sqlite_catalog.{proofs.ReadLemmas.lists_once, specs.Listing.Lists}}
use Rattle.{sqlite.specs.{Effect.Database, State.{State, HasCleanDisk, Survives}}, hub_state.specs.Sound.IsSound, hub_store.proofs.Rows.Unique.same_means}
use Rattle.hub_store.specs.{Content.{Has, CommitsState, StandFor, IsMeaning, MayLeave}, Laws.FindsTrees, Means.{Means, Holds, TreesHold}, Tables.hub_schema}
use Rattle.hub_state.specs.State as core

-- the trees hold what the database does
pub trees_hold : (db : Database) (s : core.State) → Holds db s → TreesHold db.trees s
trees_hold db s holds = subst (λ k. Holds (record { schema = k; trees = db.trees }) s) holds.known holds

-- trees that stand for a state stand for no other
one_meaning : (db : Trees) (s : core.State) (left : Option core.State) → StandFor db s → IsMeaning db left → left ≡ Some s
one_meaning db s (Some t) is it = ap Some (same_means db t s it.sound is.sound it.holds.fit is.holds.fit it.holds.means is.holds.means)
one_meaning db s None is none = absurd (none s is)

-- after a commit a crash may leave only that
pub left_by_commit : (new : State) (s : core.State) (left : Option core.State) → CommitsState new s → IsSound s → ((db : Trees) → IsTrue new.is_open → new.may_leave db → db ≡ new.committed.trees) →
    (IsTrue new.is_open → new.may_leave new.committed.trees) → MayLeave new left ↔ (left ≡ Some s)
left_by_commit new s left is sound settled stays =
    let stands : StandFor new.committed.trees s = record { sound = sound; holds = trees_hold new.committed s is.holds } in (
      λ may. one_meaning new.committed.trees s left stands (subst (λ db. IsMeaning db left) (settled may.0 is.is_open may.1) may.2),
      λ same. subst (MayLeave new) (sym same) (new.committed.trees, stays is.is_open, stands),
    )

-- a crash may leave what it could have left before, or what the edits make
pub left_by_apply : (old new : State) (next : core.State → core.State) (s : core.State) (left : Option core.State) → HasCleanDisk new → Has old s → IsSound (next s) → Survives old new (λ db. (s : core.State) → Has old s → TreesHold db (next s)) →
    MayLeave new left → MayLeave old left ⊎ (left ≡ Some (next s))
left_by_apply old new next s left clean has sound survives may = elim (survives.crash clean may.0 may.1) [
  | inl before ↦ inl (may.0, before, may.2)
  | inr made ↦ inr (one_meaning may.0 (next s) left (record { sound = sound; holds = made s has }) may.2)
]

-- a connection that finds trees has the state that they stand for
pub found_has : (c : State) (db : Trees) (left : Option core.State) → FindsTrees c db → IsMeaning db left → IfSome left (Has c)
found_has c db None finds is = tt
found_has c db (Some s) finds is = record {
  sound = is.sound;
  holds = λ up.
      let whole = (finds.live up).1 in
      record {
        known = lists_once (db catalog_tree) c.committed.schema hub_schema (subst (λ t. Lists (t catalog_tree) c.committed.schema) finds.trees whole.lists) is.holds.whole.lists;
        whole = whole;
        means = subst (λ t. Means t s) (sym finds.trees) is.holds.means;
        fit = is.holds.fit;
      };
  settled = λ _. finds.opens.clean;
}
