-- The lemmas that a function's goals follow from, by its name.
use Rattle.{std.proofs.lemmas.Grind.common_steps, json_pointer.proofs.Inverse.{pointer_tokens-pointer_text, pointer_text-pointer_tokens}}
use Rattle.json_pointer.proofs.{Pointers.escaped-encode, Prefixes.starts_with-is_prefix}

pub ruleset is_prefix_of_steps = (common_steps, starts_with-is_prefix)

pub ruleset push_escaped_char_steps = (common_steps, escaped-encode)

pub ruleset laws = (pointer_tokens-pointer_text, pointer_text-pointer_tokens)
