use Rattle.{std.proofs.Common.{◌≡◌, drop, map}, iodef_tree.specs.View.{forest, body, members_forest}, policy.specs.Inherited.carried}
use Rattle.redact.specs.inner.{Search.{asked_of, found, found_items}, Tokens.path_of}
use Rattle.redact.proofs.search.Search.+search.Given as goal

abbrev pub invariant-among-loop-name : goal.invariant-among-loop-name
invariant-among-loop-name l =
    let search = found l.self.reader.case.now l.self.reader.standing.now (asked_of l.self.asked)
    (carried (path_of l.initial.trail.items) l.above) in
    record {
      found : search (members_forest (drop l.name-index l.name-items)) ≡ search (forest l.object);
      trail : l.trail.items ≡ l.initial.trail.items;
    }

abbrev pub invariant-in_array-loop-i : goal.invariant-in_array-loop-i
invariant-in_array-loop-i l =
    let search = found_items l.self.reader.case.now l.self.reader.standing.now (asked_of l.self.asked)
    (carried (path_of l.initial.trail.items) l.array) l.name in
    record {
      found : search l.i (map body (drop l.i l.items.items)) ≡ search 0 (map body l.items.items);
      trail : l.trail.items ≡ l.initial.trail.items;
    }
