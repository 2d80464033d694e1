use Rattle.{std.proofs.{Common.{rules, ◌≡◌, ◌==◌, not, filter, sym}, ResultArms.subst_both, lemmas.Fn.filter_same}, hub_state.proofs.Indexing.index_left}
use Rattle.hub_state.{proofs.Ranked.left_in_order, specs.{Lists.IsIndexOf, Orders.named_cmp, declared.{rows.Named.Named, state.Incident.Incident}}}
use Rattle.hub_state.proofs.lists.Lists.take_incident.Goals as goal

pub returns : goal.returns
returns c =
    let one : c.take_all.new.rows.items ≡ filter (λ (i : Incident). not (i.naming.number == c.args.number)) c.args.self.now.incidents.items = search rules in
    let two : c.retain.new.self.items ≡ filter (λ (e : Named). not (e.number == c.args.number)) c.args.self.now.names.items = filter_same _ (λ (e : Named). not (e.number == c.args.number)) _ (λ x b f k. search rules) c.args.self.now.names.items c.retain.new.self.items c.retain.ensures.filtered in
    record {
      made = λ d. search rules;
      in_order = record {
        incidents = c.take_all.ensures.in_order;
        names = left_in_order named_cmp (λ (e : Named). not (e.number == c.args.number)) c.args.self.now.names.items _ two c.requires.names;
        gates = c.requires.gates;
        recipients = c.requires.recipients;
        permissions = c.requires.permissions;
        indexed = subst_both IsIndexOf (sym one) (sym two) (index_left c.args.number c.args.self.now.incidents.items c.args.self.now.names.items c.requires.indexed);
      };
      room = λ n h. search rules;
    }
