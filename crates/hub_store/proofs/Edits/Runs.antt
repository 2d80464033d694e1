-- Edits one after another, and the transaction around them.
use Rattle.std.proofs.{Common.{◌≡◌, ℕ, ◌+◌, ◌<◌, List, [], ◌∷◌, ◌++◌, take, length, get_or, sym, ap, subst, ◌∙◌, IsTrue, true, false}, lemmas.List.take_more}
use Rattle.{sqlite.specs.{Held.{Held, state}, State.{State, Shows, IsUnchanged}}, hub_state.{proofs.Then.after_append, specs.Edits.{edited, with_edits}}}
use Rattle.{hub_state.specs.declared.edit.Edit.Edit, hub_store.specs.{Content.{HasAs, Has, CommitsState}, Keeps.{Knows, KeepsCommitted}, Means.HoldsAs}}
use Rattle.hub_store.specs.Means.{Holds}
use Rattle.sqlite_trees.specs.declared.store.Store as store
use Rattle.hub_state.specs.State as core

pub after_more : (edits : List Edit) (i : ℕ) (edit : Edit) (s : core.State) → i < length edits → edit ≡ get_or edits i edit → with_edits (take (i + 1) edits) s ≡ edited edit (with_edits (take i edits) s)
after_more edits i edit s low is = ap (λ l. with_edits l s) (take_more edits i edit low) ∙ ap (λ e. with_edits (take i edits ++ e ∷ []) s) (sym is) ∙ after_append (take i edits) (edit ∷ []) s

pub committed_made : (mid last : State) (s : core.State) → Holds mid.now s → Shows mid last mid.now mid.now false → CommitsState last s
committed_made mid last s holds shows = record { is_open = shows.is_open; holds = subst (λ d. Holds d s) (sym shows.committed_is) holds; settled = shows.now_is ∙ sym shows.committed_is }

pub has_now : {v : ℕ} (old : State) (s : core.State) → HasAs v old s → IsTrue old.is_open → HoldsAs v old.now s
has_now {v} old s has up = subst (λ d. HoldsAs v d s) (sym (has.settled up)) (has.holds up)

pub knows : (old : State) (s : core.State) → Has old s → Knows old
knows old s has up = (has_now old s has up).known

-- a transaction began on a store that answers
pub ready : {S : Type 0} {v : ℕ} (g : store.Ghosts S) (old : Held S) (probed : State) (s : core.State) → HasAs v (state g old) s
    → IsTrue (state g old).is_open × IsUnchanged (state g (record old { in_transaction = true })) probed
    → HoldsAs v probed.now s × IsTrue probed.in_transaction
ready {v = v} g old probed s has it = (subst (λ d. HoldsAs v d s) (sym it.1.0.now_is) (has_now (state g old) s has it.0), it.1.0.mode)

pub kept_has : {v : ℕ} (old new : State) (s : core.State) → KeepsCommitted old new → HasAs v old s → HasAs v new s
kept_has {v} old new s k has = record {
  sound = has.sound;
  holds = λ up. subst (λ d. HoldsAs v d s) (sym (k.committed up)) (has.holds (k.was_open up));
  settled = λ up. k.now up ∙ sym (k.committed up);
}
