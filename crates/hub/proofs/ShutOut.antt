-- The readers whom a gate at the root shuts out.
use Rattle.std.proofs.{Common.{◌≡◌, Bool, true, false, List, refl, sym, not, ◌&&◌, Contains}, lemmas.{Bool.true≢false, List.Folds.Any-from_list_any}}
use Rattle.{std.specs.List.list_any, iodef_tree.specs.Text.is_root, policy.specs.declared.{case.Case.Case, gate.Gate.Gate, standing.Standing.Standing}}
use Rattle.{redact.{proofs.Shut.root-tells-nothing, specs.Laws.TellsNothing}, hub_core.specs.Documents.Lines, hub.specs.inner.PageFilter.shuts_out}
use Rattle.hub.specs.inner.PageFilter.{is_shut_out}

not-true : (b : Bool) → not b ≡ true → b ≡ false
not-true true h = absurd (true≢false (sym h))
not-true false h = refl

and-first : (a b : Bool) → (a && b) ≡ true → a ≡ true
and-first true b h = refl
and-first false b h = absurd (true≢false (sym h))

and-second : (a b : Bool) → (a && b) ≡ true → b ≡ true
and-second true b h = h
and-second false b h = absurd (true≢false (sym h))

some_shuts : (st : Standing) (gs : List Gate) → list_any (shuts_out st) gs ≡ true → (g : Gate) × Contains gs g × (shuts_out st g ≡ true)
some_shuts st gs h = let any = Any-from_list_any (shuts_out st) gs h in (any.1, (any.0, any.2, any.3), any.4)

-- such a reader learns nothing of the incident, whatever its lines are
pub shut-tells-nothing : (ls : Lines) (c : Case) (st : Standing) → is_shut_out c st ≡ true → TellsNothing ls c st
shut-tells-nothing ls c st shut =
    let foreign : st.source ≡ false = not-true st.source (and-first (not st.source) _ shut) in
    let one = some_shuts st c.gates (and-second (not st.source) _ shut) in
    root-tells-nothing ls c st one.0 foreign one.1 (and-first (is_root one.0.path) _ one.2) (and-second (is_root one.0.path) _ one.2)
