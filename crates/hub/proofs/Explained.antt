-- There is an explanation exactly if the request isn't refused.
use Rattle.std.{proofs.{Common.{◌≡◌, Bool, true, false, not, Option, Some, None, cond, refl, sym, ◌∙◌, ap}, lemmas.Bool.true≢false}, specs.Option.option_map_or}
use Rattle.{std.specs.Prelude.{ℤ, is_none, option_map}, iodef_tree.specs.{Paths.{located, has_class}, Pointer.pointer_tokens, Text.{Bytes, Tokens}}}
use Rattle.{policy.specs.declared.{case.Case.Case, standing.Standing.Standing}, explain.specs.{Explained.explained_at, Explanation.Explanation}}
use Rattle.{explain.specs.{Explanation.explanation_of, Lines.trace_text}, circle.{proofs.Judged.passed, specs.Reads.person_of}}
use Rattle.{circle.specs.declared.directory.Person.Person, hub_core.{proofs.Agrees.agrees, specs.{Documents.Lines, Facts.facts_of, Judgement.grounds_by}}}
use Rattle.hub_core.specs.{Judgement.is_class_at, Reads.case_for, Refusals.refusal_of, Requests.incident_facts, State.{State, incident_of}}
use Rattle.{hub_state.specs.declared.{request.Explain.Explain, state.Incident.Incident}, hub.specs.Told.{standing_at, trace_of}}
use Rattle.hub.specs.inner.Explaining.{standing_between, text_at, text_of}
use Rattle.hub_state.specs.declared.request.Request.TheVariants as ask

-- what is looked up is there
told_of : (b : Bool) (text : Bytes) → not b ≡ false → cond b (Some text) None ≡ Some text
told_of true text h = refl
told_of false text h = absurd (true≢false h)

there : (s : State) (now : ℤ) (p : Option Person) (i : Option Incident) (path : Option Tokens) →
    is_none path ≡ false → is_none (option_map incident_facts i) ≡ false → not (option_map_or (λ (q : Person). q.active) p false) ≡ false →
    not (option_map_or (is_class_at (option_map (λ (j : Incident). j.document) i)) path false) ≡ false →
    text_of s now p i path ≡ Some (trace_of s now p i path)
there s now None i path wanted posted active class = absurd (true≢false active)
there s now (Some p) None path wanted posted active class = absurd (true≢false posted)
there s now (Some p) (Some i) None wanted posted active class = absurd (true≢false wanted)
there s now (Some p) (Some i) (Some path) wanted posted active class = told_of (has_class (located i.document) path) _ class

pub explained : (s : State) (now : ℤ) (a : Person) (r : Explain) → refusal_of s a (ask.Explain r) ≡ None →
    text_of s now (person_of r.person s.directory) (incident_of r.incident s) (pointer_tokens r.path) ≡ Some (trace_of s now (person_of r.person s.directory) (incident_of r.incident s) (pointer_tokens r.path))
explained s now a r fine =
    let p = passed (grounds_by (facts_of s a (ask.Explain r)) a (ask.Explain r)) (agrees s a (ask.Explain r) ∙ fine) in
    there s now (person_of r.person s.directory) (incident_of r.incident s) (pointer_tokens r.path) p.1.0 p.1.1.0 p.1.1.1.0 p.1.1.1.1.0

-- ---- what is read

pub text_there : (s : State) (now : ℤ) (p : Option Person) (i : Option Incident) (path : Tokens) (st : Standing) (c : Case) (ls : Lines) →
    Some st ≡ standing_between s now p i → Some c ≡ option_map (case_for s) i → Some ls ≡ option_map (λ (j : Incident). j.document) i → text_at ls c st path ≡ text_of s now p i (Some path)
text_there s now None i path st c ls stands judged has = cc
text_there s now (Some p) None path st c ls stands judged has = cc
text_there s now (Some p) (Some i) path st c ls stands judged has =
    let lines : ls ≡ i.document = cc in
    let case : c ≡ case_for s i = cc in
    let so : st ≡ standing_at s now p i = cc in
    ap (λ x. text_at x c st path) lines ∙ ap (λ x. text_at i.document x st path) case ∙ ap (λ x. text_at i.document (case_for s i) x path) so

-- the text of the explanation is that of the class
pub text_of_explained : (ls : Lines) (c : Case) (st : Standing) (path : Tokens) (x : Explanation) → explained_at (located ls) c st path ≡ Some x → Some (trace_text x) ≡ text_at ls c st path
text_of_explained ls c st path x h = by_case (has_class (located ls) path) h
  where
    by_case : (b : Bool) → cond b (Some (explanation_of (located ls) c st path)) None ≡ Some x → Some (trace_text x) ≡ cond b (Some (trace_text (explanation_of (located ls) c st path))) None
    by_case true k = let same : explanation_of (located ls) c st path ≡ x = cc in sym (ap (λ y. Some (trace_text y)) same)
    by_case false k = cc
