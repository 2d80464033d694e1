use Rattle.std.proofs.{Common.{◌≡◌, List, ℕ, None, Err, refl, ap, rules, IsUtf8}, lemmas.{Bool.cond_both, Str.{is_utf8-from_IsUtf8, IsUtf8-from_is_utf8}}}
use Rattle.{std.specs.Str.is_utf8, serde_json.specs.Read.read, iodef_tree.specs.{Reading.{parsed, or_fault}, declared.fault.ReadFault.TheVariants.NotJson}}
use Rattle.iodef_tree.proofs.read.parse.Goals as goal

refused : (bytes : List ℕ) → (IsUtf8 bytes → read bytes ≡ None) → parsed bytes ≡ Err NotJson
refused bytes h = cond_both (is_utf8 bytes) (read bytes) None (λ o. or_fault NotJson o ≡ Err NotJson) (λ e. ap (or_fault NotJson) (h (IsUtf8-from_is_utf8 bytes e))) (λ _. refl)

pub returns-in-Ok-clause-gives : goal.returns-in-Ok-clause-gives
returns-in-Ok-clause-gives c = rw (is_utf8-from_IsUtf8 _ c.in-Ok.ensures.ok.0, c.in-Ok.ensures.ok.1)

pub returns-else-is_memory-clause-gives : goal.returns-else-is_memory-clause-gives
returns-else-is_memory-clause-gives c = refused c.args.bytes.now (c.in-Err.ensures.err (search rules))
