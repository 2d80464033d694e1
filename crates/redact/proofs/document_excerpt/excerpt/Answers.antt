use Rattle.{std.proofs.Common.{◌≡◌, ◌<◌, List, [], ◌++◌, sym, ◌∙◌, ap, subst, arith, None}, iodef_tree.specs.{Paths.located, Sound.IsSound, Tree.lines}}
use Rattle.{iodef_tree.specs.View.forest, marking.specs.Marks.first_bad_marking, policy.specs.{Inherited.{carried, at_root}, declared.rule.Rule.Rule}}
use Rattle.redact.proofs.{Promised.{excerpt-none, excerpt-some, told_as, told-is}, Survival.{markings-accepted, labels-survive}, Whole.excerpt-sound}
use Rattle.redact.{proofs.Whole.{excerpt-lines, excerpt-told, excerpt-count}, specs.{Excerpts.LabelsSurvive, Told.{kept_outline, withheld_of, visible_count}}}
use Rattle.redact.specs.{Withheld.{Withheld, is_among, at_place, withheld_in_order}, inner.{Judged.{root, withheld_below}, Left.tells, Pass.pass}}
use Rattle.redact.specs.inner.Tokens.{path_of}
use Rattle.redact.proofs.document_excerpt.excerpt.Goals as goal

pub returns-then-state-eq0-clause-told : goal.returns-then-state-eq0-clause-told
returns-then-state-eq0-clause-told c =
    let C = c.args.case.now in
    let S = c.args.standing.now in
    let f = forest c.root.result.now in
    let ok : first_bad_marking (located (lines 1 f)) ≡ None = rw c.root.ensures.lines c.requires in
    let J_is = ap (λ h. pass C S h f) (ap (λ ts. carried (path_of ts) c.at_root-above.result) c.new.ensures.items ∙ c.at_root-above.ensures) in
    excerpt-none c.args.document.now C S
    (ap (λ ls. visible_count ls C S) (sym c.root.ensures.lines) ∙ sym (excerpt-count f C S c.root.ensures.sound ok _ J_is c.cut.new.state.classes c.in_ok-kept.ensures.goes.classes) ∙ c.if-state-eq0.true)

pub new-document-requires-clause-sound : goal.new-document-requires-clause-sound
new-document-requires-clause-sound c =
    let C = c.args.case.now in
    let S = c.args.standing.now in
    let f = forest c.root.result.now in
    let ok : first_bad_marking (located (lines 1 f)) ≡ None = rw c.root.ensures.lines c.requires in
    let J_is = ap (λ h. pass C S h f) (ap (λ ts. carried (path_of ts) c.at_root-above.result) c.new.ensures.items ∙ c.at_root-above.ensures) in
    subst IsSound (sym c.in_ok-kept.ensures.left) (excerpt-sound f C S c.root.ensures.sound ok _ J_is)

pub returns : goal.returns
returns c =
    let C = c.args.case.now in
    let S = c.args.standing.now in
    let f = forest c.root.result.now in
    let doc = c.root.ensures.lines in
    let sound = c.root.ensures.sound in
    let ok : first_bad_marking (located (lines 1 f)) ≡ None = rw doc c.requires in
    let J = pass C S (carried (path_of c.new.result.items) c.at_root-above.result) f in
    let J_is : J ≡ pass C S (at_root C S) f = ap (λ h. pass C S h f) (ap (λ ts. carried (path_of ts) c.at_root-above.result) c.new.ensures.items ∙ c.at_root-above.ensures) in
    let q = path_of c.new-2.result.items in
    let k = c.cut.new.state in
    let T = withheld_below root q 0 J in
    let all : is_among (tells q k ++ []) ≡ is_among T =
    c.in_ok-kept.ensures.goes.withheld
    ∙ ap (λ (ws : List Withheld). is_among ((ws ++ at_place q c.new-4.result.items) ++ T)) c.new-3.ensures.items
    ∙ ap (λ (rs : List Rule). is_among (at_place q rs ++ T)) c.new-4.ensures.items in
    let noted : c.tell.new.state.withheld.items ≡ tells q k = cc (c.in_ok-tell.ensures.withheld, c.in_ok-kept.ensures.goes.place, c.as_slice.ensures.value, c.replace-gone.ensures.value) in
    let outline : c.new-document.result ≡ kept_outline c.args.document.now C S =
    c.new-document.ensures ∙ ap (lines 1) c.in_ok-kept.ensures.left ∙ sym (excerpt-lines f C S sound ok J J_is) ∙ ap (λ ls. kept_outline ls C S) doc in
    let withheld : c.in_ok-withheld.withheld.items ≡ withheld_of c.args.document.now C S =
    c.in_ok-withheld.ensures
    ∙ ap withheld_in_order noted
    ∙ excerpt-told f C S sound ok J J_is (tells q k) q (ap path_of c.new-2.ensures.items) all
    ∙ ap (λ ls. withheld_of ls C S) doc in
    let classes : k.classes ≡ visible_count c.args.document.now C S =
    excerpt-count f C S sound ok J J_is k.classes c.in_ok-kept.ensures.goes.classes ∙ ap (λ ls. visible_count ls C S) doc in
    let some : 0 < k.classes = omega arith in
    record {
      told = excerpt-some c.args.document.now C S (told_as c.new-document.result c.in_ok-withheld.withheld.items k.classes)
          (told-is c.args.document.now C S c.new-document.result c.in_ok-withheld.withheld.items k.classes outline withheld classes) some;
      checked = subst (λ ls. first_bad_marking (located ls) ≡ None) (sym outline) (rw doc at (markings-accepted f C S sound ok));
      labels = subst (LabelsSurvive c.args.document.now C S) (sym outline) (rw doc at (labels-survive f C S sound ok));
    }
