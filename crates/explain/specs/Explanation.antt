-- Why a reader sees a class or doesn't: what the policy and the markings say of its path.
use Rattle.std.specs.Prelude.{ℕ, List, map, filter, Option, string_bytes}
use Rattle.std.specs.List.{flat_map}
use Rattle.iodef_tree.specs.Text.{Bytes, Tokens, same_path, prefixes}
use Rattle.iodef_tree.specs.Paths.{LocatedLine}
use Rattle.marking.specs.Label.{text_of}
use Rattle.marking.specs.Marks.{site_of, label_at}
use Rattle.marking.specs.declared.label.Handling.{Handling}
use Rattle.policy.specs.Clearance.{clearance_of}
use Rattle.policy.specs.Gates.{refusal_of_gate}
use Rattle.policy.specs.Permissions.{covers}
use Rattle.policy.specs.Verdict.{handling_for, verdict_of}
use Rattle.policy.specs.declared.rule.Rule.{Rule}
use Rattle.policy.specs.declared.standing.Standing.{Standing}
use Rattle.policy.specs.declared.gate.Gate.{Gate}
use Rattle.policy.specs.declared.permission.Permission.{Permission}
use Rattle.policy.specs.declared.case.Case.{Case}
use Rattle.policy.specs.declared.verdict.Verdict.{Verdict}
use Rattle.explain.specs.declared.trace.Trace.{Trace}

-- a gate, with the rule by which it refuses the reader, if it refuses
abbrev pub passage : Standing → Gate → Gate × Option Rule
passage s g = (g, refusal_of_gate s g)

-- each gate at this path with its result, in the order of the case
abbrev pub passages_at : Case → Standing → Tokens → List (Gate × Option Rule)
passages_at c s q = map (passage s) (filter (λ g. same_path g.path q) c.gates)

-- each gate at a prefix of the path with its result, the shortest prefix first
abbrev pub passages_on : Case → Standing → Tokens → List (Gate × Option Rule)
passages_on c s p = flat_map (passages_at c s) (prefixes p)

-- the permissions that cover the class for the reader, in the order of the case
abbrev pub covering : List LocatedLine → Case → Standing → Tokens → List Permission
covering es c s p = filter (covers es s p) c.permissions

-- The verdict of a class with all that it rests on. These are its path, the community that the incident names, the
-- gates on the way with their results, and the site with the text of its label and its handling. Then come the
-- clearance with its rule, and the covering permissions.
pub record Explanation : Type 0 where
  pub verdict : Verdict
  pub path : Tokens
  pub community : Option ℕ
  pub gates : List (Gate × Option Rule)
  pub site : Tokens
  pub label : Bytes
  pub handling : Handling
  pub clearance : Handling × Rule
  pub permissions : List Permission

-- the explanation of the class at a path, in the words of the policy and of the markings; it has no rule of its own
abbrev pub explanation_of : List LocatedLine → Case → Standing → Tokens → Explanation
explanation_of es c s p = record {
  verdict = verdict_of es c s p;
  path = p;
  community = c.community;
  gates = passages_on c s p;
  site = site_of es p;
  label = text_of (label_at es p);
  handling = handling_for s (label_at es p);
  clearance = clearance_of s;
  permissions = covering es c s p;
}

-- what a `Trace` of the program holds
abbrev pub explanation : Trace → Explanation
explanation t = record {
  verdict = t.verdict;
  path = t.path;
  community = t.community;
  gates = t.gates.items;
  site = t.site;
  label = string_bytes t.label;
  handling = t.handling;
  clearance = t.clearance;
  permissions = t.permissions.items;
}
