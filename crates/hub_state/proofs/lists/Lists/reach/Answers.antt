use Rattle.{std.{proofs.Common.{◌==◌, ◌∙◌, ap, sym, filter}, specs.List.list_any}, policy.specs.{Permissions.holds_for, Reach.{is_refusing, is_shutting}}}
use Rattle.hub_state.{proofs.Keeping.any_map, specs.declared.state.{Gate.Gate, Permission.Permission}}
use Rattle.hub_state.proofs.lists.Lists.reach.Goals as goal

pub returns : goal.returns
returns c =
    let s = c.args.standing.now in
    let gates = filter (λ (g : Gate). g.incident == c.args.incident) c.args.self.now.gates.items in
    let permissions = filter (λ (x : Permission). x.incident == c.args.incident) c.args.self.now.permissions.items in
    λ i. record {
      shut = (c.some_shuts.ensures ∙ (ap (list_any (λ (g : Gate). is_shutting s g.gate)) c.gates_of-gates.ensures ∙ sym (any_map (is_shutting s) (λ (g : Gate). g.gate) gates))) i;
      refused = (c.some_refuses.ensures ∙ (ap (list_any (λ (g : Gate). is_refusing s g.gate)) c.gates_of-gates.ensures ∙ sym (any_map (is_refusing s) (λ (g : Gate). g.gate) gates))) i;
      permitted = (c.some_permits.ensures ∙ (ap (list_any (λ (x : Permission). holds_for s x.permission)) c.permissions_of.ensures ∙ sym (any_map (holds_for s) (λ (x : Permission). x.permission) permissions))) i;
    }
