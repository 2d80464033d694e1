use Rattle.{std.proofs.{Common.{rules, ◌≡◌, not, filter, ap}, lemmas.Fn.filter_same}, hub_state.{proofs.Ranked.left_in_order, specs.Lists.with_directory}}
use Rattle.hub_state.specs.{State.{gate_cmp, is_gate_at}, declared.state.Gate.Gate}
use Rattle.hub_state.proofs.lists.Lists.take_gate.Goals as goal

pub returns : goal.returns
returns c =
    let left : c.retain.new.self.items ≡ filter (λ (g : Gate). not (is_gate_at c.args.key.now g)) c.args.self.now.gates.items =
    filter_same _ (λ (g : Gate). not (is_gate_at c.args.key.now g)) _ (λ x b f k. search rules) c.args.self.now.gates.items c.retain.new.self.items c.retain.ensures.filtered in
    record {
      made = λ d. ap (λ l. record (with_directory d c.args.self.now) { gates = l }) left;
      in_order = record {
        incidents = c.requires.incidents;
        names = c.requires.names;
        gates = left_in_order gate_cmp (λ (g : Gate). not (is_gate_at c.args.key.now g)) c.args.self.now.gates.items _ left c.requires.gates;
        recipients = c.requires.recipients;
        permissions = c.requires.permissions;
        indexed = c.requires.indexed;
      };
      room = λ n h. search rules;
    }
