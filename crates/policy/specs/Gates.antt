-- Which readers pass a gate (MISP book: distribution levels and sharing groups).
use Rattle.std.specs.Prelude.{ℕ, Bool, not, ◌||◌, ◌==◌, if◌then◌else◌, Option, Some, None}
use Rattle.policy.specs.Numbers.{is_among}
use Rattle.policy.specs.declared.rule.Rule.{Rule}
use Rattle.policy.specs.declared.rule.Rule.TheVariants.{G0, G1, G2, G4, G4X}
use Rattle.policy.specs.declared.standing.Standing.{Standing}
use Rattle.policy.specs.declared.gate.Gate.{Gate}

-- this rule, unless the reader may pass
abbrev pub refused_unless : Rule → Bool → Option Rule
refused_unless r may_pass = if may_pass then None else Some r

-- Level 4, a sharing group: refused by G4 if the organisation isn't a member of the group, else by G4X if the group
-- isn't active. A gate without a group is refused by G4.
abbrev pub group_passage : Standing → Option ℕ → Option Rule
group_passage s None = Some G4
group_passage s (Some n) =
    if not (is_among n s.groups) then Some G4
    else if not (is_among n s.active_groups) then Some G4X
    else None

-- The rule by which a gate refuses the reader, if it refuses: level 1 lets the source's communities pass, 2 those
-- connected to them too, 3 everybody, 4 a group. Level 5 refuses nobody: it is as the gates above say. 0 and every
-- level above 5 let only the source pass.
abbrev pub refusal_of_gate : Standing → Gate → Option Rule
refusal_of_gate s g =
    if g.level == 1 then refused_unless G1 s.community
    else if g.level == 2 then refused_unless G2 (s.community || s.connected)
    else if g.level == 3 then None
    else if g.level == 4 then group_passage s g.group
    else if g.level == 5 then None
    else refused_unless G0 s.source
