use Rattle.{std.proofs.{Common.{rules, ◌≡◌, sym}, ResultArms.subst_both}, circle.specs.Ordered.put_by, hub_state.proofs.Indexing.index_put}
use Rattle.hub_state.specs.{Lists.IsIndexOf, Orders.{incident_cmp, named_cmp, named}}
use Rattle.hub_state.proofs.lists.Lists.put_incident.Goals as goal

pub returns : goal.returns
returns c = record {
  made = λ d. search rules;
  in_order = record {
    incidents = c.put.ensures.in_order;
    names = c.put-2.ensures.in_order;
    gates = c.requires.in_order.gates;
    recipients = c.requires.in_order.recipients;
    permissions = c.requires.in_order.permissions;
    indexed =
        let one : c.put.new.rows.items ≡ put_by incident_cmp c.args.incident c.args.self.now.incidents.items = search rules in
        let two : c.put-2.new.rows.items ≡ put_by named_cmp (named c.args.incident) c.args.self.now.names.items = search rules in
        subst_both IsIndexOf (sym one) (sym two) (index_put c.args.incident c.args.self.now.incidents.items c.args.self.now.names.items c.requires.in_order.indexed);
  };
  room = λ n h. search rules;
}
