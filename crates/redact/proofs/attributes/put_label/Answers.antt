use Rattle.{std.proofs.Common.{◌∙◌, ap, codes}, iodef_tree.specs.View.forest, marking.specs.Label.{marking_of, restriction_of}, redact.specs.Told.attributes_by}
use Rattle.redact.specs.inner.Judged.{put_leaf, put_attributes, attribute_leaf}
use Rattle.redact.proofs.attributes.put_label.Goals as goal

pub returns-in_ok-with_attribute-in-Some-clause-put : goal.returns-in_ok-with_attribute-in-Some-clause-put
returns-in_ok-with_attribute-in-Some-clause-put c =
    let f = forest c.args.object in
    let t = c.in-Some.text.now in
    c.in_ok-with_attribute-in-Some.ensures.put
    ∙ ap (put_leaf (attribute_leaf (codes "ext-restriction", t))) (c.in_ok-object.ensures.put ∙ ap (λ r. put_leaf (attribute_leaf (codes "restriction", r)) f) c.restriction.ensures)
    ∙ ap (λ o. put_attributes (attributes_by (restriction_of (marking_of c.args.label)) o) f) c.in-Some.ensures
