-- The names of the rules.
use Rattle.std.specs.Prelude.{codes}
use Rattle.iodef_tree.specs.Text.{Bytes}
use Rattle.policy.specs.declared.rule.Rule.{Rule}
use Rattle.policy.specs.declared.rule.Rule.TheVariants.{Src, P, O, C, M, A, X, G0, G1, G2, G4, G4X, HGreen, HAmber, HStrict, HRed}

-- a rule's name, such as `SRC` or `H-GREEN`
abbrev pub name_of : Rule → Bytes
name_of Src = codes "SRC"
name_of P = codes "P"
name_of O = codes "O"
name_of C = codes "C"
name_of M = codes "M"
name_of A = codes "A"
name_of X = codes "X"
name_of G0 = codes "G0"
name_of G1 = codes "G1"
name_of G2 = codes "G2"
name_of G4 = codes "G4"
name_of G4X = codes "G4X"
name_of HGreen = codes "H-GREEN"
name_of HAmber = codes "H-AMBER"
name_of HStrict = codes "H-STRICT"
name_of HRed = codes "H-RED"
