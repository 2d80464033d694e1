use Rattle.std.{proofs.{Common.{rules, ◌≡◌, true, false, None, refl, sym, ◌∙◌, ap, subst, IfSome}, lemmas.Bool.false≢true}, specs.Prelude.{is_some, option_map}}
use Rattle.{iodef_tree.specs.Paths.located, marking.specs.Marks.first_bad_marking, redact.proofs.Finishing.{accepted-none, refused-some, kept-outline}}
use Rattle.redact.{proofs.Finishing.{kept-marked, told-all, labels-served}, specs.{Excerpts.{told_by, LabelsSurvive}, Feeding.PassState, Marked.marks_of}}
use Rattle.redact.specs.{Marked.is_accepted, Told.excerpt_of}
use Rattle.redact.proofs.rows.RowPass.finish.Goals as goal

pub returns-then-not-are_accepted-clause-told : goal.returns-then-not-are_accepted-clause-told
returns-then-not-are_accepted-clause-told c =
    let p = c.self.inside in
    let broken : is_accepted (marks_of p.progress.marks) ≡ false = search rules in
    λ unfaulted marked.
    let here : p.fault ≡ None = ap (λ (q : PassState). q.fed.fault) c.self.view_is ∙ unfaulted in
    let none : first_bad_marking (located p.fed.lines) ≡ None = ap (λ (q : PassState). first_bad_marking (located q.fed.lines)) c.self.view_is ∙ marked in
    absurd (false≢true (sym (ap is_some none) ∙ refused-some p.case p.standing p.fed.lines p.progress.shape p.progress.marks p.progress.sieve (c.self.invariant here) broken))

pub document_of-requires : goal.document_of-requires
document_of-requires c =
    let p = c.self.inside in
    let unfaulted : p.fault ≡ None = search rules in
    rw c.into_lines-lines.ensures (kept-outline p.case p.standing p.fed.lines p.progress.shape p.progress.marks p.progress.sieve (c.self.invariant unfaulted))

pub excerpt-requires : goal.excerpt-requires
excerpt-requires c =
    let p = c.self.inside in
    let unfaulted : p.fault ≡ None = search rules in
    let accepted : is_accepted (marks_of p.progress.marks) ≡ true = search rules in
    let kept : c.into_lines-lines.result.items ≡ p.progress.sieve.lines.items = rw c.into_lines-lines.ensures refl in
    ap (λ ls. first_bad_marking (located ls)) (c.in_ok-document.ensures ∙ kept)
    ∙ kept-marked p.case p.standing p.fed.lines p.progress.shape p.progress.marks p.progress.sieve (c.self.invariant unfaulted) accepted

pub returns-clause-told : goal.returns-clause-told
returns-clause-told c =
    let r = c.in_ok-excerpt.field-0 in
    let p = c.self.inside in
    let kept : c.into_lines-lines.result.items ≡ p.progress.sieve.lines.items = rw c.into_lines-lines.ensures refl in
    subst (λ (q : PassState). q.fed.fault ≡ None → first_bad_marking (located q.fed.lines) ≡ None → option_map told_by r ≡ excerpt_of q.fed.lines q.case q.standing) c.self.view_is (λ unfaulted marked.
    c.in_ok-excerpt.ensures.told ∙ ap (λ ls. excerpt_of ls p.case p.standing) (c.in_ok-document.ensures ∙ kept)
    ∙ told-all p.case p.standing p.fed.lines p.progress.shape p.progress.marks p.progress.sieve (c.self.invariant unfaulted))

pub returns-clause-refused : goal.returns-clause-refused
returns-clause-refused c =
    let r = c.in_ok-excerpt.field-0 in
    let p = c.self.inside in
    let accepted : is_accepted (marks_of p.progress.marks) ≡ true = search rules in
    subst (λ (q : PassState). q.fed.fault ≡ None → is_some (first_bad_marking (located q.fed.lines)) ≡ true → r ≡ None) c.self.view_is (λ unfaulted bad.
    let none = accepted-none p.case p.standing p.fed.lines p.progress.shape p.progress.marks p.progress.sieve (c.self.invariant unfaulted) accepted in
    absurd (false≢true (sym (ap is_some none) ∙ bad)))

pub returns-clause-labels : goal.returns-clause-labels
returns-clause-labels c =
    let r = c.in_ok-excerpt.field-0 in
    let p = c.self.inside in
    let kept : c.into_lines-lines.result.items ≡ p.progress.sieve.lines.items = rw c.into_lines-lines.ensures refl in
    subst (λ (q : PassState). q.fed.fault ≡ None → first_bad_marking (located q.fed.lines) ≡ None → IfSome r (λ e. LabelsSurvive q.fed.lines q.case q.standing e.document)) c.self.view_is (λ unfaulted marked.
    labels-served p.case p.standing p.fed.lines p.progress.shape p.progress.marks p.progress.sieve (c.self.invariant unfaulted) r
    (subst (λ ls. IfSome r (λ e. LabelsSurvive ls p.case p.standing e.document)) (c.in_ok-document.ensures ∙ kept) c.in_ok-excerpt.ensures.labels))
