-- The answers of `site`, and the own label of a class by its members.
use Rattle.std.specs.Prelude.{◌≡◌, true, false, ◌||◌, List, if◌then◌else◌, Option, Some, None, Result, Ok, Err}
use Rattle.std.specs.Option.{option_or}
use Rattle.iodef_tree.specs.Text.{Tokens, same_path, is_root}
use Rattle.iodef_tree.specs.Tree.{Forest}
use Rattle.iodef_tree.specs.Paths.{LocatedLine, has_class}
use Rattle.iodef_tree.specs.declared.Path.{Path}
use Rattle.marking.specs.Label.{LabelValue, private, marking_of}
use Rattle.marking.specs.Marks.{incident_path, site_of, label_at}
use Rattle.marking.specs.Members.{spelled_in}
use Rattle.marking.specs.declared.fault.SiteFault.{SiteFault}
use Rattle.marking.specs.declared.fault.SiteFault.TheVariants.{NoClass, NoMemory}
use Rattle.marking.specs.declared.label.Label.{Label}

-- The site of the path and the label that holds there; NoClass exactly if the path is neither that of a class nor the
-- root's. NoMemory may come in place of either.
abbrev pub Sites : Result (Path × Label) SiteFault → List LocatedLine → Tokens → Type 0
Sites (Ok s) es p = ((is_root p || has_class es p) ≡ true) × (s.0 ≡ site_of es p) × (marking_of s.1 ≡ label_at es p)
Sites (Err NoClass) es p = (is_root p || has_class es p) ≡ false
Sites (Err NoMemory) es p = Unit {0}

-- the own label of the class at the path, or of the root, with these members
abbrev pub own_in : Tokens → Forest → Option LabelValue
own_in p kids =
    if is_root p then Some private
    else option_or (spelled_in kids) (if same_path p incident_path then Some private else None)
