-- The lemmas that a function's goals follow from, by its name.
use Rattle.std.proofs.lemmas.{Bool.{eqb-true, not-true, Decides.nat_tests}, Grind.common_steps, List.{take_all, nil_from_length}, Result.IfOk-weaker}
use Rattle.{serde_json.proofs.Views.{view-Object, items_len-items_view}, iodef_tree.proofs.{Accepted.lines-outline, ByPath.has_class-root}}
use Rattle.iodef_tree.proofs.{ClassesBelow.classes-lines, DocumentLists.{fit_parts, failed_front, gives_err, failed_last, last_done, room_lacks, too_long}}
use Rattle.iodef_tree.proofs.{DocumentLists.{room_kept, sound, short_enough}, Exchanged.{taken_none, taken_some}, Fitness.plain_at_once, Meaning.text-is}
use Rattle.iodef_tree.proofs.{Meaning.data-is, MembersByName.{id-found, kept-ordered}, NoFloat.{kept-whole, value-no_float}, Outlines.{no-outline, back-upto}}
use Rattle.iodef_tree.proofs.Outlines.{upto, outline-back}

pub ruleset from_outline_steps = (common_steps, no-outline, back-upto, upto, outline-back, take_all)

pub ruleset outline_steps = (common_steps, IfOk-weaker, lines-outline)

pub ruleset text_steps = (common_steps, IfOk-weaker, text-is)

pub ruleset value_steps = (common_steps, data-is, view-Object)

pub ruleset classes_steps = (common_steps, classes-lines)

pub ruleset has_class_steps = (common_steps, eqb-true, has_class-root, nil_from_length)

pub ruleset are_incidents_steps = (common_steps, nat_tests, items_len-items_view)

pub ruleset check_values_steps = (common_steps, not-true, plain_at_once)

pub ruleset take_incidents_steps = (common_steps, taken_none, taken_some)

pub ruleset documents_from_steps = (common_steps, fit_parts, failed_front, gives_err, failed_last, last_done)

pub ruleset document_from_steps = (common_steps, room_lacks, too_long, room_kept, sound, short_enough)

pub ruleset id_in_steps = (common_steps, id-found)

pub ruleset member_text_steps = (common_steps, kept-ordered, IfOk-weaker, kept-whole)

pub ruleset is_text_of_steps = (common_steps, value-no_float)
