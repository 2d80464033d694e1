use Rattle.{std.proofs.Common.{refl, ap, string_bytes, Some, None}, iodef_tree.{proofs.MembersByName.id-is, specs.View.{bodies, forest}}}
use Rattle.iodef_tree.specs.inner.Written.{bodies_data}
use Rattle.iodef_tree.proofs.document.Document.incident_id.Goals as goal

pub returns-in-None : goal.returns-in-None
returns-in-None c = id-is (forest c.self.inside.root) c.args.self.now None None c.self.invariant.0 c.self.view_is c.in-None.ensures.found refl

pub returns-in_ok-member_text-in-Some : goal.returns-in_ok-member_text-in-Some
returns-in_ok-member_text-in-Some c =
    id-is (forest c.self.inside.root) c.args.self.now (Some (bodies_data (bodies c.in-Some.id.now))) (Some (string_bytes c.in_ok-member_text-in-Some.field-0)) c.self.invariant.0 c.self.view_is c.in-Some.ensures.found
    (ap Some c.in_ok-member_text-in-Some.ensures)
