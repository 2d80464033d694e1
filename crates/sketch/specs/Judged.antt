-- What a sketch alone says of a want.
use Rattle.std.specs.Prelude.{Bool, true, false, not, ◌&&◌, ◌||◌, List, [], ◌∷◌, Option, Some, None, is_none, option_map, unwrap_or, if◌then◌else◌}
use Rattle.std.specs.Prelude.{string_bytes}
use Rattle.std.specs.List.{list_any, list_all}
use Rattle.std.specs.Option.{option_map_or}
use Rattle.iodef_tree.specs.Text.{Bytes}
use Rattle.iodef_tree.specs.Paths.{located}
use Rattle.iodef_tree.specs.declared.line.Line.{Line}
use Rattle.marking.specs.Label.{is_at_most, by_arrangement}
use Rattle.marking.specs.Marks.{first_bad_marking}
use Rattle.marking.specs.declared.label.Handling.{Handling}
use Rattle.marking.specs.declared.label.Handling.TheVariants.{Clear, Green, Amber, Strict, Red}
use Rattle.policy.specs.Clearance.{clearance_of}
use Rattle.policy.specs.Verdict.{handling_for}
use Rattle.policy.specs.declared.standing.Standing.{Standing}
use Rattle.policy.specs.declared.reach.Reach.{Reach}
use Rattle.policy.specs.declared.case.Case.{Case}
use Rattle.redact.specs.Wants.{meets}
use Rattle.redact.specs.declared.want.Want.{Want}
use Rattle.sketch.specs.Bits.{holds}
use Rattle.sketch.specs.Labels.{lesser}
use Rattle.sketch.specs.Runs.{runs, base_of, number_of}
use Rattle.sketch.specs.declared.judged.Judged.{Judged}
use Rattle.sketch.specs.declared.judged.Judged.TheVariants.{Met, Unmet, Unsure}
use Rattle.sketch.specs.declared.sketch.Summary.{Summary}
use Rattle.sketch.specs.declared.sketch.Sketch.{Sketch}

-- the lines meet the want for this reader, and their markings are accepted
abbrev pub meets_marked : Want → List Line → Case → Standing → Bool
meets_marked w ls c s = is_none (first_bad_marking (located ls)) && meets w ls c s

-- ---- the words of the want

-- whether the bit of each run of the needle is set; a needle of fewer than three bytes has no run
abbrev pub has_runs : Summary → Bytes → Bool
has_runs k needle = list_all (holds k.run_bits) (runs 0 needle)

-- whether the bit of the class's name is set, if a class is named
abbrev pub has_name : Summary → Option Bytes → Bool
has_name k class = option_map_or (λ name. holds k.name_bits (number_of name)) class true

-- whether no run of the needle and no name is missing; without a needle the class's name counts for nothing
abbrev pub has_words : Summary → Option Bytes → Option Bytes → Bool
has_words k None class = true
has_words k (Some needle) class = has_runs k needle && has_name k class

-- whether somebody may be shown what the want asks for, by the words alone
abbrev pub may_hold : Sketch → Want → Bool
may_hold s w =
    option_map_or (λ k. has_words k (option_map string_bytes w.needle) (option_map string_bytes w.class)) s.summary false

-- ---- the reader

-- the least handling for a reader: that at the classes whose label isn't `default`, and if there is a `default`, that of
-- the arrangement, or RED
abbrev pub reader_least : Bool → Option Handling → Standing → Option Handling
reader_least arranged least s = lesser least (if arranged then Some (handling_for s by_arrangement) else None)

-- whether the reader is cleared for a handling; if there is none, it isn't
abbrev pub is_cleared : Standing → Option Handling → Bool
is_cleared s h = option_map_or (λ h. is_at_most h (clearance_of s).0) h false

-- whether a reader who isn't of the source is shown some class of a document that has this least handling for the reader
abbrev pub judged_least : Option Handling → Reach → Standing → Judged
judged_least least r s =
    if r.shut then Unmet
    else if is_cleared s least then (if r.refused then Unsure else Met)
    else if r.permitted then Unsure
    else Unmet

-- ---- the classes for which the reader is cleared

-- whether the reader is cleared for a class that is handled so; for `default`, as it is arranged
abbrev pub cleared_for : Standing → Option Handling → Bool
cleared_for s h = is_at_most (unwrap_or h (handling_for s by_arrangement)) (clearance_of s).0

-- whether the bit of each run of the needle is set for classes that are handled so
abbrev pub has_runs_at : Summary → Bytes → Option Handling → Bool
has_runs_at k needle h = list_all (holds k.handled_bits) (runs (base_of h) needle)

-- every handling, and that of `default`
abbrev pub every_handling : List (Option Handling)
every_handling = Some Clear ∷ Some Green ∷ Some Amber ∷ Some Strict ∷ Some Red ∷ None ∷ []

-- whether a class for which the reader is cleared may hold the needle
abbrev pub has_cleared_runs : Summary → Standing → Bytes → Bool
has_cleared_runs k s needle = list_any (λ h. cleared_for s h && has_runs_at k needle h) every_handling

-- whether a class that the reader is shown may hold the needle: one of its own organisation's report, or that a
-- permission shows, or for which it is cleared
abbrev pub may_show : Summary → Reach → Standing → Bytes → Bool
may_show k r s needle = s.source || (r.permitted || has_cleared_runs k s needle)

-- ---- all of the want

-- whether the reader is shown some class
abbrev pub judged_shown : Summary → Reach → Standing → Judged
judged_shown k r s =
    if not k.classes then Unmet
    else if s.source then Met
    else judged_least (reader_least k.arranged k.least s) r s

-- a needle has to be looked for in what the reader is shown
abbrev pub looked_for : Judged → Judged
looked_for Met = Unsure
looked_for Unmet = Unmet
looked_for Unsure = Unsure

-- whether the want with this needle, if it has one, is met by a reader who is shown some class, or none
abbrev pub judged_for : Summary → Reach → Standing → Option Bytes → Judged → Judged
judged_for k r s None v = v
judged_for k r s (Some needle) v = if may_show k r s needle then looked_for v else Unmet

-- the same by what is kept of a document, and by both words of the want: not met if a run or the name is missing
abbrev pub judged_by : Summary → Reach → Standing → Option Bytes → Option Bytes → Judged
judged_by k r s needle class = if has_words k needle class then judged_for k r s needle (judged_shown k r s) else Unmet

-- What a sketch says of a want, by how a case stands to a reader: it is met, or not, or the document has to be read.
abbrev pub judged : Sketch → Reach → Standing → Want → Judged
judged s r st w =
    option_map_or (λ k. judged_by k r st (option_map string_bytes w.needle) (option_map string_bytes w.class)) s.summary Unmet
