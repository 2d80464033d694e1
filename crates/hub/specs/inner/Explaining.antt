-- An explanation, made of what is read of an incident.
use Rattle.std.specs.Prelude.{ℤ, Option, Some, None, option_map, option_and_then, if◌then◌else◌}
use Rattle.iodef_tree.specs.Text.{Bytes, Tokens}
use Rattle.iodef_tree.specs.Paths.{located, has_class}
use Rattle.policy.specs.declared.standing.Standing.{Standing}
use Rattle.policy.specs.declared.case.Case.{Case}
use Rattle.explain.specs.Explanation.{explanation_of}
use Rattle.explain.specs.Lines.{trace_text}
use Rattle.circle.specs.declared.directory.Person.{Person}
use Rattle.hub_core.specs.Documents.{Lines}
use Rattle.hub_core.specs.State.{State}
use Rattle.hub_core.specs.Reads.{case_for}
use Rattle.hub_state.specs.declared.state.Incident.{Incident}
use Rattle.hub.specs.Told.{standing_at}

-- how a person stands to an incident at a moment, if both are there
abbrev pub standing_between : State → ℤ → Option Person → Option Incident → Option Standing
standing_between s now p i = option_and_then (λ (q : Person). option_map (standing_at s now q) i) p

-- the text of the explanation of a class; none if there is no class at the path
abbrev pub text_at : Lines → Case → Standing → Tokens → Option Bytes
text_at ls c st p = if has_class (located ls) p then Some (trace_text (explanation_of (located ls) c st p)) else None

-- the text of the explanation for an optional person, incident and path
abbrev pub text_of : State → ℤ → Option Person → Option Incident → Option Tokens → Option Bytes
text_of s now (Some p) (Some i) (Some path) = text_at i.document (case_for s i) (standing_at s now p i) path
text_of s now _ _ _ = None
