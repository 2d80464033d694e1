use Rattle.{std.{proofs.{Common.{subst, false, ◌≡◌}, lemmas.List.take_all}, specs.List.list_any}, kept_documents.{proofs.Edits.one_more, specs.Kept.is_of}}
use Rattle.kept_documents.proofs.documents.Documents.let_go.Goals as goal

pub loop-edit-preserved : goal.loop-edit-preserved
loop-edit-preserved g c = λ e k.
    let other = c.let_go_by.ensures e k in
    let before = c.loop-edit.invariant e other.0 in
    (before.0, one_more (is_of e.0) c.args.edits.now c.loop-edit.edit-index c.edit-item.result c.loop-edit-test.true c.edit-item.is before.1 other.1)

pub returns : goal.returns
returns g c = λ e k.
    let before = c.loop-edit.invariant e k in
    (before.0, subst (λ l. list_any (is_of e.0) l ≡ false) (take_all c.loop-edit.edit-index c.args.edits.now c.loop-edit-test.false) before.1)
