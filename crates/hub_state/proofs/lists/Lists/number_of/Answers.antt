use Rattle.{std.{proofs.Common.{◌≡◌, ◌∙◌, filter, ap, sym, None, Some, List}, specs.List.{slice_get, find}}, circle.proofs.Lookup.first_having}
use Rattle.hub_state.{proofs.Found.name_found, specs.{InOrder.is_alike, Orders.named_cmp, declared.rows.Named.Named}}
use Rattle.hub_state.proofs.lists.Lists.number_of.Goals as goal

chain : (key : Named) (names from rows : List Named) → from ≡ names → rows ≡ filter (λ (e : Named). is_alike named_cmp e key) from → slice_get rows 0 ≡ find (λ (e : Named). is_alike named_cmp e key) names
chain key names from rows same is = ap (λ l. slice_get l 0) is ∙ (ap (λ l. slice_get (filter (λ (e : Named). is_alike named_cmp e key) l) 0) same ∙ first_having (λ (e : Named). is_alike named_cmp e key) names)

pub returns-in-None : goal.returns-in-None
returns-in-None c = λ d apart.
    let all = chain c.args.name.now c.args.self.now.names.items c.deref.result.now c.rows_alike.result.now c.deref.ensures.value c.rows_alike.ensures in
    name_found c.args.name.now c.args.self.now.incidents.items c.args.self.now.names.items c.requires.indexed apart None (sym all ∙ sym c.in-None.ensures.value)

pub returns-in-Some : goal.returns-in-Some
returns-in-Some c = λ d apart.
    let all = chain c.args.name.now c.args.self.now.names.items c.deref.result.now c.rows_alike.result.now c.deref.ensures.value c.rows_alike.ensures in
    name_found c.args.name.now c.args.self.now.incidents.items c.args.self.now.names.items c.requires.indexed apart (Some c.in-Some.found.now) (sym all ∙ sym c.in-Some.ensures.value)
