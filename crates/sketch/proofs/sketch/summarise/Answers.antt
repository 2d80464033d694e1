use Rattle.{std.{proofs.Common.{map, length, not, ◌∙◌, ap, subst}, specs.{List.list_any, Prelude.is_none}}, sketch.proofs.Summaries.{has_some, some-handling}}
use Rattle.sketch.{proofs.Summaries.{not-empty, bits-of}, specs.{Labels.least_of, Sketched.{runs_in, handled_runs_in, names_in, text_bytes, IsSizeFor}}}
use Rattle.sketch.specs.inner.Held.{shown}
use Rattle.sketch.proofs.sketch.summarise.Goals as goal

pub returns : goal.returns
returns c =
    let run_bits = c.in_ok-run_bits.run_bits in
    let handled_bits = c.in_ok-handled_bits.handled_bits in
    let name_bits = c.in_ok-name_bits.name_bits in
    let held = c.in_ok-held.ensures in
    let handlings = c.in_ok-handlings.ensures in
    record {
      marked = c.requires;
      class = ap not c.is_empty.ensures ∙ not-empty c.as_slice-5.result.now ∙ ap has_some (c.as_slice-5.ensures.value ∙ handlings) ∙ some-handling c.args.document.now;
      arranged = c.has_none.ensures ∙ ap (list_any is_none) (c.as_slice-6.ensures.value ∙ handlings);
      least = c.least.ensures ∙ ap least_of (c.as_slice-7.ensures.value ∙ handlings);
      size = subst (λ hs. IsSizeFor (text_bytes hs) (length run_bits)) (ap (map shown) c.as_slice-2.ensures.value ∙ held) c.in_ok-run_bits.ensures.size;
      run = bits-of run_bits (runs_in (map shown c.as_slice-2.result.now)) (length run_bits) c.in_ok-run_bits.ensures.runs (ap runs_in (ap (map shown) c.as_slice-2.ensures.value ∙ held));
      handled_size = subst (λ hs. IsSizeFor (text_bytes hs) (length handled_bits)) (ap (map shown) c.as_slice-3.ensures.value ∙ held) c.in_ok-handled_bits.ensures.size;
      handled = bits-of handled_bits (handled_runs_in (map shown c.as_slice-3.result.now)) (length handled_bits) c.in_ok-handled_bits.ensures.runs (ap handled_runs_in (ap (map shown) c.as_slice-3.ensures.value ∙ held));
      names = c.in_ok-name_bits.ensures.size;
      name = bits-of name_bits (names_in (map shown c.as_slice-4.result.now)) (length name_bits) c.in_ok-name_bits.ensures.names (ap names_in (ap (map shown) c.as_slice-4.ensures.value ∙ held));
    }
