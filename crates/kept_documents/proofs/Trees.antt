-- The weights of the parts of a tree.
use Rattle.std.proofs.{Common.{◌≡◌, ℕ, suc, ◌+◌, true, List, [], ◌∷◌, ◌++◌, length, Option, Some, None, sum_by, refl, ap, arith}, lemmas.Grind.common_steps}
use Rattle.{std.{proofs.lemmas.List.Sums.{sum_by-cons, sum_by-append}, specs.Prelude.is_some}, iodef_tree.specs.{Text.Bytes, Tree.{Forest, end, leaf, branch}}}
use Rattle.iodef_tree.specs.Tree.{Body, holds, says, Bodies, one, many, elements, in_front, member_front, lines, leaf_line, class_line}
use Rattle.kept_documents.specs.{Kept.{line_weight, document_weight}, Trees.{forest_weight, body_weight, bodies_weight}}

forest_weight-in_front : (name : Bytes) (place : Option ℕ) (b : Body) (rest : Forest) → forest_weight (in_front name place b rest) ≡ body_weight (is_some place) (length name) b + forest_weight rest
forest_weight-in_front name place (holds kids) rest = omega arith
forest_weight-in_front name place (says content) rest = omega arith

forest_weight-elements : (name : Bytes) (k : ℕ) (bs : List Body) (rest : Forest) → forest_weight (elements name k bs rest) ≡ sum_by (body_weight true (length name)) bs + forest_weight rest
forest_weight-elements name k [] rest = omega arith
forest_weight-elements name k (b ∷ bs) rest =
    let front = forest_weight-in_front name (Some k) b (elements name (suc k) bs rest) in
    let on = forest_weight-elements name (suc k) bs rest in
    let more = sum_by-cons (body_weight true (length name)) b bs in
    omega (arith, front, on, more)

-- the lines of a member come before the rest
pub forest_weight-member_front : (name : Bytes) (m : Bodies) (rest : Forest) → forest_weight (member_front name m rest) ≡ bodies_weight (length name) m + forest_weight rest
forest_weight-member_front name (one b) rest = forest_weight-in_front name None b rest
forest_weight-member_front name (many bs) rest = forest_weight-elements name 0 bs rest

-- the weight of the lines of a tree is the tree's
lines_weight : (f : Forest) (d : ℕ) → sum_by line_weight (lines d f) ≡ forest_weight f
lines_weight end d = refl
lines_weight (leaf i rest) d =
    let more = sum_by-cons line_weight (leaf_line d i) (lines d rest) in
    let on = lines_weight rest d in
    omega (arith, more, on)
lines_weight (branch name place kids rest) d =
    let more = sum_by-cons line_weight (class_line d name place) (lines (suc d) kids ++ lines d rest) in
    let both = sum_by-append line_weight (lines (suc d) kids) (lines d rest) in
    let inside = lines_weight kids (suc d) in
    let on = lines_weight rest d in
    omega (arith, more, both, inside, on)

-- the weight of a document is that of its tree
pub document_weight-lines : (f : Forest) (d : ℕ) → document_weight (lines d f) ≡ 192 + forest_weight f
document_weight-lines f d = ap (λ n. 192 + n) (lines_weight f d)

-- for the walk that weighs up to a limit
pub ruleset weighing = (common_steps, forest_weight-member_front)
