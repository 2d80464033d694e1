use Rattle.{std.proofs.Common.{ap, sym, subst, Ok, option_map}, serde_json.specs.View.{view, items_view, members_view}, iodef_tree.proofs.Bodies.found}
use Rattle.iodef_tree.{proofs.Bodies.{fit_taken, reading_taken}, specs.Reading.Returns}
use Rattle.iodef_tree.proofs.read.read.Goals as goal

pub documents_from-requires : goal.documents_from-requires
documents_from-requires c =
    fit_taken (view c.in_ok-body.body) (items_view c.in-Some.incidents.now.items) (found (view c.in_ok-body.body) (items_view c.in-Some.incidents.now.items) (sym c.in-Some.ensures))
    (members_view c.in-Some-2.root.entries) (items_view c.in-Some-2.incidents.items) _ (sym c.in_ok-root.ensures) (ap (λ o. Ok (option_map (λ p. (members_view p.0.entries, items_view p.1.items)) o)) c.in-Some-2.is) c.in_ok-check_values.ensures

pub returns-in-Some-2 : goal.returns-in-Some-2
returns-in-Some-2 c =
    subst (Returns (λ v. v.items) c.documents_from.result)
    (sym (reading_taken c.args.bytes.now (view c.in_ok-body.body) (items_view c.in-Some.incidents.now.items) (found (view c.in_ok-body.body) (items_view c.in-Some.incidents.now.items) (sym c.in-Some.ensures))
    (members_view c.in-Some-2.root.entries) (items_view c.in-Some-2.incidents.items) _ (sym c.in_ok-root.ensures) (ap (λ o. Ok (option_map (λ p. (members_view p.0.entries, items_view p.1.items)) o)) c.in-Some-2.is)
    c.in_ok-body.ensures.gives c.in_ok-check_members.ensures c.in_ok-check_values.ensures))
    c.documents_from.ensures
