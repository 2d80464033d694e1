-- How many lines the parts of a tree have.
use Rattle.std.proofs.{Common.{◌≡◌, ℕ, suc, ◌+◌, List, [], ◌∷◌, length, sum_by, refl, ap, arith, length-append}, lemmas.Grind.common_steps}
use Rattle.{std.proofs.lemmas.List.Sums.sum_by-cons, json_pointer.specs.Text.Bytes, iodef_tree.specs.Tree.{Forest, end, leaf, branch, Body, Bodies, elements}}
use Rattle.iodef_tree.specs.{Tree.{member_front, lines}, inner.FitValues.{line_count, body_count, bodies_count}}

line_count-elements : (name : Bytes) (k : ℕ) (bs : List Body) (rest : Forest) → line_count (elements name k bs rest) ≡ sum_by body_count bs + line_count rest
line_count-elements name k [] rest = omega arith
line_count-elements name k (b ∷ bs) rest = grind (arith, common_steps, sum_by-cons, (line_count-elements name (suc k) bs rest))

-- the lines of a member come before those of the members behind it
pub line_count-member_front : (name : Bytes) (m : Bodies) (rest : Forest) → line_count (member_front name m rest) ≡ bodies_count m + line_count rest
line_count-member_front name m rest = grind (arith, line_count-elements)

pub length-lines : (f : Forest) (d : ℕ) → length (lines d f) ≡ line_count f
length-lines end d = refl
length-lines (leaf i rest) d = ap suc (length-lines rest d)
length-lines (branch name place kids rest) d = grind (arith, length-append, (length-lines kids (suc d)), (length-lines rest d))

-- the lemmas for the walk that counts against a limit
pub ruleset counting = (common_steps, line_count-member_front)
