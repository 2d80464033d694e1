use Rattle.{std.{proofs.Common.{◌≡◌, false, sym, ◌∙◌, ap}, specs.Prelude.{Some, is_some, option_map, unwrap_or}}, iodef_tree.specs.Paths.located}
use Rattle.marking.{proofs.Owned.{site-self, site-up}, specs.{Label.{private, marking_of}, Marks.{own_label, has_own_label, site_of, label_at}}}
use Rattle.marking.proofs.label_site.+nearest.Goals as goal

pub returns-in-Some-clause-site : goal.returns-in-Some-clause-site
returns-in-Some-clause-site t c =
    let es = located c.args.document.now in
    let own : own_label es c.args.path ≡ Some (marking_of c.in-Some.label) = sym c.own.ensures ∙ ap (option_map marking_of) c.in-Some.is in
    sym (site-self es c.args.path (ap is_some own))

pub returns-in-Some-clause-label : goal.returns-in-Some-clause-label
returns-in-Some-clause-label t c =
    let es = located c.args.document.now in
    let own : own_label es c.args.path ≡ Some (marking_of c.in-Some.label) = sym c.own.ensures ∙ ap (option_map marking_of) c.in-Some.is in
    sym (ap (λ q. unwrap_or (own_label es q) private) (site-self es c.args.path (ap is_some own)) ∙ ap (λ o. unwrap_or o private) own)

pub returns-in-None-clause-site : goal.returns-in-None-clause-site
returns-in-None-clause-site t c =
    let es = located c.args.document.now in
    let none : has_own_label es c.args.path ≡ false = ap is_some (sym c.own.ensures ∙ ap (option_map marking_of) c.in-None.is) in
    c.nearest.ensures.site ∙ ap (site_of es) c.without_last.ensures ∙ sym (site-up es c.args.path none)

pub returns-in-None-clause-label : goal.returns-in-None-clause-label
returns-in-None-clause-label t c =
    let es = located c.args.document.now in
    let none : has_own_label es c.args.path ≡ false = ap is_some (sym c.own.ensures ∙ ap (option_map marking_of) c.in-None.is) in
    c.nearest.ensures.label
    ∙ ap (label_at es) c.without_last.ensures
    ∙ ap (λ q. unwrap_or (own_label es q) private) (sym (site-up es c.args.path none))
