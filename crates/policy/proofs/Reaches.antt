-- How far down a permission reaches, token by token.
use Rattle.{std.{proofs.Common.{◌≡◌, [], ◌∷◌, ◌++◌, List, ◌&&◌, ◌||◌}, specs.Prelude.{None, is_none}}, iodef_tree.specs.{Paths.LocatedLine, Text.Bytes}}
use Rattle.{iodef_tree.specs.Text.{Tokens, same_path}, marking.specs.Marks.written_label, policy.proofs.Steps.{covers-push, covers-root}}
use Rattle.policy.specs.{Permissions.reaches, Standing.stranger, declared.permission.{Grantee.TheVariants.Person, Permission.Permission}}

-- a permission with this path and without an end, which includes the reader
abbrev at_path : Tokens → Permission
at_path q = record { path = q; grantee = Person 0; until = None }

pub reaches-push : (es : List LocatedLine) (q p : Tokens) (x : Bytes) →
    reaches es q (p ++ x ∷ []) ≡ ((reaches es q p && is_none (written_label es (p ++ x ∷ []))) || same_path q (p ++ x ∷ []))
reaches-push es q p x = covers-push es (stranger 0 0) p x (at_path q)

pub reaches-root : (es : List LocatedLine) (q : Tokens) → same_path q [] ≡ reaches es q []
reaches-root es q = covers-root es (stranger 0 0) (at_path q)
