use Rattle.{std.{proofs.{Common.{◌≡◌, sym, ◌∙◌, subst, Ok, arith}, lemmas.Grind.common_steps}, specs.Vec.Iter.into_iter_items}, serde_json.specs.View.view}
use Rattle.{serde_json.specs.View.{items_view, members_view}, iodef_tree.proofs.{DocumentLists.{with_front, failed, next}, Exchanged.cloned}}
use Rattle.iodef_tree.specs.{Reading.{documents, document_of, if_short}, Tree.lines, inner.FitValues.{IsFit, AreFit}}
use Rattle.iodef_tree.proofs.read.documents_beside.Goals as goal

pub document_from-requires : goal.document_from-requires
document_from-requires c =
    let same = cloned c.args.root.now.entries c.in_ok-clone.field-0.entries c.in_ok-clone.ensures.cases in
    let fit = subst (λ vs. AreFit (members_view c.args.root.now.entries) (items_view vs)) c.in-Some.ensures.steps.0 c.loop-incident.invariant.fit in
    subst (λ ms. IsFit ms (view c.in-Some.incident)) (sym same) fit.0

pub returns-in_err-document : goal.returns-in_err-document
returns-in_err-document c = grind (arith, common_steps, cloned, failed, next)

pub loop-incident-preserved : goal.loop-incident-preserved
loop-incident-preserved c =
    let same = cloned c.args.root.now.entries c.in_ok-clone.field-0.entries c.in_ok-clone.ensures.cases in
    let fit = subst (λ vs. AreFit (members_view c.args.root.now.entries) (items_view vs)) c.in-Some.ensures.steps.0 c.loop-incident.invariant.fit in
    let here = subst (λ ms. if_short (lines 1 (document_of (view c.in-Some.incident) ms)) ≡ Ok c.in_ok-document.document) same c.in_ok-document.ensures in
    let left = subst (λ vs. with_front c.loop-incident.all.items (documents (members_view c.args.root.now.entries) (items_view vs)) ≡ documents (members_view c.args.root.now.entries) (items_view c.args.incidents.items)) c.in-Some.ensures.steps.0 c.loop-incident.invariant.left in
    let on = next (members_view c.args.root.now.entries) (into_iter_items c.next.new.self) c.in-Some.incident c.loop-incident.all.items c.in_ok-document.document here in
    record { left = rw c.in_ok-push.ensures.items (on ∙ left); fit = fit.1 }
