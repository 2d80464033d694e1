use Rattle.{std.proofs.{Common.{sym, ap, ◌∙◌}, lemmas.Option.same_Some}, iodef_tree.{proofs.Inverse.pointer_tokens-pointer_text, specs.Pointer.pointer_tokens}}
use Rattle.hub_store.proofs.incident_rows.path_of.Goals as goal

pub returns-in-Ok : goal.returns-in-Ok
returns-in-Ok c p e = same_Some c.in-Ok.path p (sym c.in-Ok.ensures.path ∙ (ap pointer_tokens e ∙ pointer_tokens-pointer_text p))
