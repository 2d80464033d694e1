use Rattle.{std.proofs.{Common.{rules, ◌≡◌, not, filter, ap}, lemmas.Fn.filter_same}, hub_state.{proofs.Ranked.left_in_order, specs.Lists.with_directory}}
use Rattle.hub_state.specs.{State.{permission_cmp, is_permission_being}, declared.state.Permission.Permission}
use Rattle.hub_state.proofs.lists.Lists.take_permission.Goals as goal

pub returns : goal.returns
returns c =
    let left : c.retain.new.self.items ≡ filter (λ (x : Permission). not (is_permission_being c.args.key.now x)) c.args.self.now.permissions.items =
    filter_same _ (λ (x : Permission). not (is_permission_being c.args.key.now x)) _ (λ x b f k. search rules) c.args.self.now.permissions.items c.retain.new.self.items c.retain.ensures.filtered in
    record {
      made = λ d. ap (λ l. record (with_directory d c.args.self.now) { permissions = l }) left;
      in_order = record {
        incidents = c.requires.incidents;
        names = c.requires.names;
        gates = c.requires.gates;
        recipients = c.requires.recipients;
        permissions = left_in_order permission_cmp (λ (x : Permission). not (is_permission_being c.args.key.now x)) c.args.self.now.permissions.items _ left c.requires.permissions;
        indexed = c.requires.indexed;
      };
      room = λ n h. search rules;
    }
