use Rattle.{std.proofs.Common.{◌≡◌, map, take, string_bytes}, redact_program.specs.Words.line_of}
use Rattle.redact_program.proofs.words.command_line.Given as goal

abbrev pub invariant-loop-word : goal.invariant-loop-word
invariant-loop-word l = map (λ s. s.now) l.line.items ≡ line_of (map string_bytes (take l.word-index l.words))
