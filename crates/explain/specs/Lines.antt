-- How an explanation is written: as lines, each ended by a newline, of words with a space between.
use Rattle.std.specs.Prelude.{ℕ, ℤ, List, [], ◌++◌, map, Option, Some, None, unwrap_or, codes, decimal}
use Rattle.std.specs.Fmt.{signed_decimal}
use Rattle.std.specs.List.{flat_map}
use Rattle.json.specs.Print.{quoted}
use Rattle.iodef_tree.specs.Text.{Bytes, Tokens}
use Rattle.iodef_tree.specs.Pointer.{pointer_text}
use Rattle.marking.specs.Label.{name_of as handling_name}
use Rattle.marking.specs.declared.label.Handling.{Handling}
use Rattle.policy.specs.Rule.{name_of}
use Rattle.policy.specs.declared.rule.Rule.{Rule}
use Rattle.policy.specs.declared.gate.Gate.{Gate}
use Rattle.policy.specs.declared.permission.Grantee.{Grantee}
use Rattle.policy.specs.declared.permission.Permission.{Permission}
use Rattle.policy.specs.declared.verdict.Verdict.{Verdict}
use Rattle.policy.specs.declared.verdict.Verdict.TheVariants.{Shown, Hidden}
use Rattle.explain.specs.Explanation.{Explanation}
use Rattle.explain.specs.Listing.{entry_of, permissions_in_order, kind_name, grantee_number}
use Rattle.explain.specs.declared.listing.PrintedPermission.{PrintedPermission}

-- the space between two words
abbrev pub space : Bytes
space = codes " "

-- the end of a line
abbrev pub newline : Bytes
newline = codes "\n"

-- the JSON pointer of a path, as a JSON string (RFC 6901 section 3, RFC 8259 section 7)
abbrev pub path_text : Tokens → Bytes
path_text p = quoted (pointer_text p)

-- the word for a verdict, `Shown` or `Hidden`
abbrev pub side_text : Verdict → Bytes
side_text (Shown r) = codes "Shown"
side_text (Hidden r) = codes "Hidden"

-- the rule of a verdict
abbrev pub rule_in : Verdict → Rule
rule_in (Shown r) = r
rule_in (Hidden r) = r

-- the line of the verdict
abbrev pub verdict_line : Verdict → Bytes
verdict_line v = codes "verdict " ++ side_text v ++ space ++ name_of (rule_in v) ++ newline

-- the line of the path of the class
abbrev pub path_line : Tokens → Bytes
path_line p = codes "path " ++ path_text p ++ newline

-- the line of the community that the incident names; nothing if it names none
abbrev pub community_line : Option ℕ → Bytes
community_line None = []
community_line (Some n) = codes "community " ++ decimal n ++ newline

-- the number of a gate's group; 0 for none
abbrev pub group_number : Option ℕ → ℕ
group_number g = unwrap_or g 0

-- the result of a gate: the rule that refuses, or `pass`
abbrev pub result_text : Option Rule → Bytes
result_text None = codes "pass"
result_text (Some r) = name_of r

-- the line of a gate: its path, its level, its group and its result
abbrev pub gate_line : Gate × Option Rule → Bytes
gate_line x =
    codes "gate " ++ path_text x.0.path ++ space ++ decimal x.0.level ++ space
    ++ decimal (group_number x.0.group) ++ space ++ result_text x.1 ++ newline

-- the line of the site: its path, its label and how the reader is to handle it
abbrev pub site_line : Tokens → Bytes → Handling → Bytes
site_line p label h = codes "site " ++ path_text p ++ space ++ quoted label ++ space ++ handling_name h ++ newline

-- the line of the clearance: the handling and its rule
abbrev pub clearance_line : Handling × Rule → Bytes
clearance_line x = codes "clearance " ++ handling_name x.0 ++ space ++ name_of x.1 ++ newline

-- the readers whom a permission is given to: the kind and the number
abbrev pub grantee_text : Grantee → Bytes
grantee_text g = kind_name g ++ space ++ decimal (grantee_number g)

-- when a permission ends, in seconds since the beginning of 1970 (UTC); nothing if it has no end
abbrev pub end_text : Option ℤ → Bytes
end_text None = []
end_text (Some end) = codes " until " ++ signed_decimal end

-- the line of a permission
abbrev pub permission_line : PrintedPermission → Bytes
permission_line e = codes "permission " ++ quoted e.pointer ++ space ++ grantee_text e.grantee
    ++ end_text e.until ++ newline

-- the lines of permissions, in the order of the list
abbrev pub permission_lines : List Permission → Bytes
permission_lines xs = flat_map permission_line (permissions_in_order (map entry_of xs))

-- all lines of an explanation
abbrev pub trace_text : Explanation → Bytes
trace_text x =
    verdict_line x.verdict
    ++ path_line x.path
    ++ community_line x.community
    ++ flat_map gate_line x.gates
    ++ site_line x.site x.label x.handling
    ++ clearance_line x.clearance
    ++ permission_lines x.permissions
