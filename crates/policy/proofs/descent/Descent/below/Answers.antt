use Rattle.std.{proofs.{Common.{◌≡◌, ◌++◌, ◌||◌, true, false, take, length, sym, ap, ◌∙◌, subst, arith}, lemmas.Slice.between_to_end}, specs.Prelude.is_some}
use Rattle.{std.specs.Prelude.option_map, iodef_tree.{proofs.Blocks.below-parents, specs.{Laws.StandsAt, Paths.{located, has_class}, Text.is_root}}}
use Rattle.{iodef_tree.specs.View.forest, marking.{proofs.Written.written-block, specs.{Label.marking_of, Marks.written_label}}}
use Rattle.policy.{proofs.{Descents.{found-here, stands-here, stands-whole, still-stands}, Steps.{class-below, array-below}}, specs.Inherited.carried}
use Rattle.policy.proofs.descent.Descent.below.Goals as goal

pub returns-in-Some : goal.returns-in-Some
returns-in-Some c = λ ls k s p x is at reached.
    let es = located ls in
    let here = c.args.here.now in
    let d = c.args.self.depth in
    let g = forest c.in-Some.class.now in
    let onward = between_to_end here d (length here) (omega arith) in
    let found = subst (λ r. is_some c.class.result ≡ (is_root r || has_class es (take d p ++ r))) onward (c.class.ensures.found es (take d p) reached.stands) in
    let there : has_class es here ≡ true =
    sym (found-here es p x here d (is_some c.class.result) is reached.depth c.requires.depth found) ∙ ap is_some c.in-Some.is in
    let stands : StandsAt es here g =
    stands-here es p x here d g is reached.depth (subst (λ r. StandsAt es (take d p ++ r) g) onward (c.in-Some.ensures.class es (take d p) reached.stands)) in
    let written : option_map marking_of c.written.result ≡ written_label es here =
    c.written.ensures ∙ sym (written-block es stands.block.0 here g (below-parents ls) stands.block.1 there) in
    record {
      depth = omega arith;
      stands = stands-whole es here g stands;
      filled = c.in-Some.ensures.filled;
      said = c.in_class.ensures k s at
          ∙ class-below es k s p x here (carried p c.args.self.said) (option_map marking_of c.written.result) is reached.said there written;
    }

pub returns-in-None : goal.returns-in-None
returns-in-None c = λ ls k s p x is at reached.
    let es = located ls in
    let here = c.args.here.now in
    let d = c.args.self.depth in
    let f = forest c.args.self.class.now in
    let onward = between_to_end here d (length here) (omega arith) in
    let found = subst (λ r. is_some c.class.result ≡ (is_root r || has_class es (take d p ++ r))) onward (c.class.ensures.found es (take d p) reached.stands) in
    let none : has_class es here ≡ false =
    sym (found-here es p x here d (is_some c.class.result) is reached.depth c.requires.depth found) ∙ ap is_some c.in-None.is in
    record {
      depth = omega (arith, c.requires.depth);
      stands = still-stands es p x here d f is reached.depth reached.stands;
      filled = reached.filled;
      said = c.in_array.ensures k s here at ∙ array-below es k s p x here (carried p c.args.self.said) is reached.said none;
    }
