-- The result of a search that read an incident's lines, or as many as made it sure.
use Rattle.std.proofs.Common.{◌≡◌, ℕ, ◌==◌, [], ◌++◌, Bool, true, false, Option, Some, None, unwrap_or, option_map, Ok, append-nil, refl, sym, ap, subst, ◌∙◌}
use Rattle.{std.{proofs.lemmas.{Bool.true≢false, List.Elements.{All-contains, All-from_recursion}}, specs.Option.option_map_or}, sqlite.specs.State.State}
use Rattle.iodef_tree.{proofs.ReadSound.readings-are-documents, specs.{Laws.{IsDocument, LinesAreAnOutline}, Outline.is_outline, Paths.located, Text.Bytes}}
use Rattle.{marking.specs.Marks.first_bad_marking, policy.specs.declared.{case.Case.Case, standing.Standing.Standing}, redact.specs.Probed.{ProbeState, IsSure}}
use Rattle.{redact.specs.{Wants.{meets, meets_by}, declared.want.Want.Want}, hub_state.{proofs.{Keeping.found_each, Marked.met_found}, specs.Documents.Lines}}
use Rattle.hub_state.specs.{Reads.met_by_incident, Sound.{IsSound, IsAccepted}, State.incident_of, declared.state.Incident.Incident}
use Rattle.hub_store.specs.inner.{FeedsRows.lines_of, ProbesRows.{HasProbed, AreFirst}, Queries.IsReadOutside}
use Rattle.hub_state.specs.State as core

pub probed_on : (old mid new : ProbeState) → HasProbed old mid → HasProbed mid new → HasProbed old new
probed_on old mid new first then = record {
  case = then.case ∙ first.case;
  standing = then.standing ∙ first.standing;
  want = then.want ∙ first.want;
  unfaulted = then.unfaulted;
  sure = then.sure;
}

-- ---- the lines that came

module _ (n : ℕ) (old now : State) (probe : ProbeState) where
  pub all_came : IsReadOutside old now (λ s _. probe.fed.lines ≡ lines_of n s) (Ok (tt {0})) → IsReadOutside old now (λ s _. AreFirst n s probe) (Ok (tt {0}))
  all_came read = record {
    survives = read.survives;
    kept = read.kept;
    right = λ clean s has. record { others = []; lines = sym (read.right clean s has) ∙ sym (append-nil probe.fed.lines); all = λ _. refl };
  }

  pub first_came : probe.met ≡ true → IsReadOutside old now (λ s _. (more : Lines) × (lines_of n s ≡ probe.fed.lines ++ more)) (Ok (tt {0})) → IsReadOutside old now (λ s _. AreFirst n s probe) (Ok (tt {0}))
  first_came met read = record {
    survives = read.survives;
    kept = read.kept;
    right = λ clean s has. let it = read.right clean s has in record { others = it.0; lines = it.1; all = λ unmet. absurd (true≢false (sym met ∙ unmet)) };
  }

-- ---- the lines of a sound state

accepted_outline : LinesAreAnOutline → (doc : Lines) → IsAccepted doc → is_outline doc ≡ true
accepted_outline outlines doc h =
    let it = All-contains IsDocument h.docs doc (All-from_recursion IsDocument h.docs (readings-are-documents h.body h.docs h.read)) h.among in
    ap is_outline it.2 ∙ outlines it.0 it.1

abbrev IsFine : Lines → Type 0
IsFine ls = (is_outline ls ≡ true) × (first_bad_marking (located ls) ≡ None)

fine : LinesAreAnOutline → (n : ℕ) (s : core.State) → IsSound s → IsFine (lines_of n s)
fine outlines n s sound = by_case (incident_of n s) refl
  where
    by_case : (o : Option Incident) → incident_of n s ≡ o → IsFine (unwrap_or (option_map (λ (i : Incident). i.document) o) [])
    by_case None at = (refl, refl)
    by_case (Some i) at =
        let it = found_each (λ (j : Incident). IsAccepted j.document) (λ (j : Incident). j.naming.number == n) s.incidents i at sound.incidents.documents in
        (accepted_outline outlines i.document it, it.marked)

none_met : (needle class : Option Bytes) (c : Case) (st : Standing) → meets_by needle class [] c st ≡ false
none_met None class c st = refl
none_met (Some needle) class c st = refl

lines_met : (n : ℕ) (c : Case) (st : Standing) (w : Want) (s : core.State) → IsSound s → meets w (lines_of n s) c st ≡ met_by_incident n c st w s
lines_met n c st w s sound = by_case (incident_of n s) ∙ sym (met_found n c st w s sound)
  where
    by_case : (o : Option Incident) → meets w (unwrap_or (option_map (λ (i : Incident). i.document) o) []) c st ≡ option_map_or (λ (i : Incident). meets w i.document c st) o false
    by_case None = none_met _ _ c st
    by_case (Some i) = refl

-- ---- the answer

pub met_there : LinesAreAnOutline → (n : ℕ) (s : core.State) (p : ProbeState) (b : Bool) → IsSound s → AreFirst n s p → (p.met ≡ true → IsSure p.want p.fed.lines p.case p.standing)
    → (first_bad_marking (located p.fed.lines) ≡ None → b ≡ meets p.want p.fed.lines p.case p.standing) → (p.met ≡ true → b ≡ true) → b ≡ met_by_incident n p.case p.standing p.want s
met_there outlines n s p b sound first sure told stays = by_met p.met refl ∙ lines_met n p.case p.standing p.want s sound
  where
    by_met : (m : Bool) → p.met ≡ m → b ≡ meets p.want (lines_of n s) p.case p.standing
    by_met true is =
        let it = subst IsFine first.lines (fine outlines n s sound) in
        stays is ∙ sym (ap (λ ls. meets p.want ls p.case p.standing) first.lines ∙ sure is first.others it.0 it.1)
    by_met false is =
        let same : lines_of n s ≡ p.fed.lines = first.lines ∙ ap (λ ls. p.fed.lines ++ ls) (first.all is) ∙ append-nil p.fed.lines in
        told (subst IsFine same (fine outlines n s sound)).1 ∙ ap (λ ls. meets p.want ls p.case p.standing) (sym same)
