use Rattle.{std.proofs.Common.{◌≡◌, Bor, Option, Some, None, option_map, [], IfSome, arith}, json_pointer.specs.Text.Tokens}
use Rattle.iodef_tree.{proofs.Onward.{found-onward, stands-onward, root-stands}, specs.{Paths.located, Sound.IsSound, Tree.{Forest, lines}, View.forest}}
use Rattle.iodef_tree.specs.{Walk.IsBlock, declared.object.Object.Object, inner.Lookup.object_at}
use Rattle.iodef_tree.proofs.document.Document.class.Goals as goal

block_of : (root : Forest) (p : Tokens) (r : Option (Bor Object)) → IsSound root → option_map (λ o. forest o.now) r ≡ object_at root p →
    IfSome r (λ o. IsBlock p (located (lines 1 root)) (forest o.now))
block_of root p None sound is = tt
block_of root p (Some o) sound is = (stands-onward root p (Some o) is (located (lines 1 root)) [] (root-stands root sound)).block

pub returns-clause-found : goal.returns-clause-found
returns-clause-found c =
    let f = forest c.self.inside.root in
    rw (← c.tokens.ensures, ← c.self.view_is) (found-onward f c.tokens.result.now c.object_at.result c.object_at.ensures.found (located (lines 1 f)) [] (root-stands f c.self.invariant.0))

pub returns-clause-block : goal.returns-clause-block
returns-clause-block c = grind (arith, block_of)
