use Rattle.std.proofs.{Common.{◌≡◌, [], ◌∷◌, ◌++◌, List, map, option_map, sym, ◌∙◌, ap, arith, rules}, lemmas.{Grind.common_steps, List.map-append}}
use Rattle.iodef_tree.{proofs.{Filled.{member-at, elements-kept}, Views.bodies-Many}, specs.{View.{body, bodies}, declared.object.Object.the_lemmas}}
use Rattle.{marking.specs.Label.marking_of, policy.specs.{Ahead.ahead_of, Inherited.{carried, array_step, enter_array}, declared.case.Case.Case}}
use Rattle.{policy.specs.declared.{inherited.Carried.Carried, standing.Standing.Standing}, redact.proofs.{Entering.class-found, Searching.found_next}}
use Rattle.redact.specs.{declared.trail.Token.Token, inner.{Search.{asked_of, found_items, found_member}, Tokens.{token_of, path_of}}}
use Rattle.redact.proofs.search.Search.+search.Goals as goal

pub among-returns-then-branch-clause-found : goal.among-returns-then-branch-clause-found
among-returns-then-branch-clause-found t c =
    found_next c.args.self.now.reader.case.now c.args.self.now.reader.standing.now (asked_of c.args.self.now.asked) (carried (path_of c.args.trail.now.items) c.args.above)
    c.deref-name-items.result.now c.loop-name.name-index c.loop-name-item.result (omega arith) c.loop-name-item.is
    (ap (λ (ts : List Token). carried (path_of ts) c.args.above) c.loop-name.invariant.trail) c.as_str.ensures (sym c.if-branch.true ∙ c.in_ok-in_member.ensures.found) c.loop-name.invariant.found

pub among-loop-name-preserved : goal.among-loop-name-preserved
among-loop-name-preserved t c =
    record {
      found = found_next c.args.self.now.reader.case.now c.args.self.now.reader.standing.now (asked_of c.args.self.now.asked) (carried (path_of c.args.trail.now.items) c.args.above)
          c.deref-name-items.result.now c.loop-name.name-index c.loop-name-item.result (omega arith) c.loop-name-item.is
          (ap (λ (ts : List Token). carried (path_of ts) c.args.above) c.loop-name.invariant.trail) c.as_str.ensures (sym c.if-branch.false ∙ c.in_ok-in_member.ensures.found) c.loop-name.invariant.found;
      trail = c.in_ok-in_member.ensures.trail ∙ c.loop-name.invariant.trail;
    }

pub among-in_member-requires : goal.among-in_member-requires
among-in_member-requires t c = (
  search (rules, the_lemmas),
  (
    member-at c.args.object.now c.deref-name-items.result.now c.loop-name.name-index c.loop-name-item.result c.requires.filled c.deref-name-items.ensures.value c.loop-name-test.true c.loop-name-item.is,
    c.requires.ahead ∙ ap (λ (ts : List Token). ahead_of c.args.self.now.reader.case.now c.args.self.now.reader.standing.now (path_of ts)) (sym c.loop-name.invariant.trail),
  ),
)

pub in_member-in_array-requires : goal.in_member-in_array-requires
in_member-in_array-requires t c = (
  search (rules, the_lemmas),
  (elements-kept c.args.member.now c.in-Many.items c.requires.1.1.0 c.in-Many.is, c.in_ok-inside-in-Many.ensures.ahead),
)

-- what is carried at an array is what the definitions say there, one step from above
array-door : (c : Case) (s : Standing) (above array : Carried) (old new seen : List Token) (t : Token) → seen ≡ new → new ≡ old ++ t ∷ [] →
    carried (path_of seen) array ≡ array_step c s (carried (path_of seen) above) (path_of seen) → carried (path_of new) array ≡ enter_array c s (carried (path_of old) above) (token_of t)
array-door c s above array old new seen t same grown step =
    ap (λ ts. carried (path_of ts) array) (sym same) ∙ step ∙ ap (array_step c s (carried (path_of old) above)) (ap path_of (same ∙ grown) ∙ map-append token_of old (t ∷ []))

pub in_member-returns-in_ok-found-in-Many-clause-found : goal.in_member-returns-in_ok-found-in-Many-clause-found
in_member-returns-in_ok-found-in-Many-clause-found t c =
    let C = c.args.self.now.reader.case.now in
    let S = c.args.self.now.reader.standing.now in
    let T = asked_of c.args.self.now.asked in
    let items = c.in-Many.items in
    c.in_ok-found-in-Many.ensures.found
    ∙ ap (λ h. found_items C S T h c.args.name.now 0 (map body items.items))
    (array-door C S c.args.above c.at_array-array.result c.args.trail.now.items _ _ _ c.as_slice.ensures.value c.in_ok-inside-in-Many.ensures.trail c.at_array-array.ensures)
    ∙ ap (found_member C S T (carried (path_of c.args.trail.now.items) c.args.above) c.args.name.now) (sym (ap bodies c.in-Many.is ∙ bodies-Many items))

pub among-returns-clause-found : goal.among-returns-clause-found
among-returns-clause-found t c = grind (arith, common_steps)

pub at-returns-in_ok-found-in-Class-clause-trail : goal.at-returns-in_ok-found-in-Class-clause-trail
at-returns-in_ok-found-in-Class-clause-trail t c = grind (arith, common_steps)

pub in_array-returns-then-branch-clause-found : goal.in_array-returns-then-branch-clause-found
in_array-returns-then-branch-clause-found t c = grind (arith, common_steps)

pub in_array-loop-i-preserved : goal.in_array-loop-i-preserved
in_array-loop-i-preserved t c = grind (arith, common_steps)

pub in_array-returns-clause-found : goal.in_array-returns-clause-found
in_array-returns-clause-found t c = grind (arith, common_steps)

pub in_member-returns-in_ok-found-in-Many-clause-trail : goal.in_member-returns-in_ok-found-in-Many-clause-trail
in_member-returns-in_ok-found-in-Many-clause-trail t c = grind (arith, common_steps)

-- `search` finds this one only after long
pub at-returns-in_ok-found-in-Class-clause-found : goal.at-returns-in_ok-found-in-Class-clause-found
at-returns-in_ok-found-in-Class-clause-found t c =
    c.in_ok-found-in-Class.ensures.found
    ∙ class-found c.args.self.now.reader.case.now c.args.self.now.reader.standing.now c.args.trail.now.items c.step.new.trail.items c.as_slice.result.now c.args.door c.at_class-at.result c.args.token c.args.item.now c.in-Class.object
    (option_map marking_of c.written.result) c.in-Class.is c.in_ok-inside-in-Class.ensures.trail c.written.ensures c.as_slice.ensures.value c.at_class-at.ensures (asked_of c.args.self.now.asked) c.args.name.now
