-- The class at a path, found token by token from the root. Contracts of the look-up's callers name only the lines.
use Rattle.std.specs.Prelude.{ℕ, suc, List, [], ◌∷◌, if◌then◌else◌, Option, Some, None, option_map, decimal}
use Rattle.std.specs.Option.{option_map_or}
use Rattle.std.specs.Str.{bytes_eq}
use Rattle.json_pointer.specs.Text.{Bytes, Tokens, is_root}
use Rattle.iodef_tree.specs.Tree.{Forest, end, leaf, branch, Body, holds, says, Bodies, one, many, steps}

-- the tokens of a path behind these first ones, or none if the path begins otherwise
abbrev pub past : Tokens → Tokens → Option Tokens
past [] p = Some p
past (x ∷ q) [] = None
past (x ∷ q) (y ∷ p) = if bytes_eq x y then past q p else None

-- the members of the class at a path, among these members and all below them
abbrev pub class_at : Forest → Tokens → Option Forest
class_at end p = None
class_at (leaf i rest) p = option_map_or (λ r. None) (past (steps i.name i.place) p) (class_at rest p)
class_at (branch name place kids rest) p =
    option_map_or (λ r. if is_root r then Some kids else class_at kids r) (past (steps name place) p) (class_at rest p)

-- the members of the class at a path, among these members and all below them; the empty path is that of the root
abbrev pub object_at : Forest → Tokens → Option Forest
object_at f p = if is_root p then Some f else class_at f p

-- the members of the class at a path that starts at one thing; a plain content has no class
abbrev pub object_in : Body → Tokens → Option Forest
object_in (holds kids) p = object_at kids p
object_in (says content) p = None

-- the element whose place the token spells in decimal digits
abbrev pub element_at : Bytes → ℕ → List Body → Option Body
element_at token k [] = None
element_at token k (b ∷ bs) = if bytes_eq (decimal k) token then Some b else element_at token (suc k) bs

-- what the next tokens name in a member, and the tokens that are left
abbrev pub part_at : Bodies → Tokens → Option (Body × Tokens)
part_at (one b) p = Some (b, p)
part_at (many bs) [] = None
part_at (many bs) (token ∷ p) = option_map (λ b. (b, p)) (element_at token 0 bs)
