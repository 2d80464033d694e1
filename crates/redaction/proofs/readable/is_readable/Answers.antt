use Rattle.{std.proofs.Common.{◌≡◌, true, false, ◌&&◌, nat_le, sym, ap, ◌∙◌}, iodef_tree.specs.{Tree.height, View.forest, declared.TheConstants.DEPTH_LIMIT}}
use Rattle.{iodef_tree.specs.{declared.TheConstants.LINE_LIMIT, inner.FitValues.line_count}, redaction.proofs.TreeIncidents.readable-is}
use Rattle.redaction.specs.inner.Trees.{has_complete_incident_in}
use Rattle.redaction.proofs.readable.is_readable.Goals as goal

pub returns-then-has_complete_incident : goal.returns-then-has_complete_incident
returns-then-has_complete_incident c =
    let f = forest c.root-root.result.now in
    let own : has_complete_incident_in f ≡ true = sym c.has_complete_incident.ensures ∙ c.if-has_complete_incident.true in
    c.is_within_limits.ensures
    ∙ ap (λ b. b && (nat_le (line_count f) LINE_LIMIT && nat_le (height f) DEPTH_LIMIT)) (sym own)
    ∙ readable-is f c.args.document.now c.root-root.ensures.sound c.root-root.ensures.lines

pub returns-else-has_complete_incident : goal.returns-else-has_complete_incident
returns-else-has_complete_incident c =
    let f = forest c.root-root.result.now in
    let own : has_complete_incident_in f ≡ false = sym c.has_complete_incident.ensures ∙ c.if-has_complete_incident.false in
    c.if-has_complete_incident.false
    ∙ ap (λ b. b && (nat_le (line_count f) LINE_LIMIT && nat_le (height f) DEPTH_LIMIT)) (sym own)
    ∙ readable-is f c.args.document.now c.root-root.ensures.sound c.root-root.ensures.lines
