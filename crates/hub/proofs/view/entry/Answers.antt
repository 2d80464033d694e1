use Rattle.{std.proofs.Common.{rules, ap, ◌∙◌}, hub_core.specs.Reads.entries_after, hub.{proofs.Seeing.entry_is, specs.inner.Viewing.first_being}}
use Rattle.hub.proofs.view.entry.Goals as goal

pub returns : goal.returns
returns g c = record {
  value = λ clean s has sound.
      let first = first_being c.args.incident in
      c.first_of.ensures ∙ ap first (c.as_slice.ensures.value ∙ c.in_ok-entries.ensures.value clean s has)
      ∙ ap (λ k. first (entries_after k 1 s)) c.saturating_sub.ensures
      ∙ entry_is s c.args.incident sound;
  kept = search rules;
  cause = search rules;
  counted = search rules;
}
