-- The laws, each from its lemma.
use Rattle.iodef_tree.proofs.{Accepted.lines-outline, Apart.sound-apart, Blocks.blocks-located, Distinct.{paths-distinct, class_paths-distinct}}
use Rattle.iodef_tree.proofs.{Located.located-lines, Meaning.json-flat, Nearest.nearest-located, OneToOne.one-to-one, TreeBack.{paths-walked, trees-back}}

pub ruleset laws = (lines-outline, sound-apart, blocks-located, paths-distinct, class_paths-distinct, located-lines, nearest-located, one-to-one, trees-back, paths-walked, json-flat)
