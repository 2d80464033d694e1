use Rattle.{std.{proofs.Common.{◌≡◌, ◌++◌, map, drop}, specs.Prelude.filter}, iodef_tree.specs.Text.same_path, explain.specs.Explanation.passage}
use Rattle.explain.proofs.explaining.push_passages.Given as goal

abbrev pub invariant-loop-gate : goal.invariant-loop-gate
invariant-loop-gate l =
    l.passages.items ++ map (passage l.standing) (filter (λ g. same_path g.path l.here) (drop l.gate-index l.gate-items))
    ≡ l.initial.passages.items ++ map (passage l.standing) (filter (λ g. same_path g.path l.here) l.gate-items)
