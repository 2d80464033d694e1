use Rattle.{std.{proofs.Common.{◌≡◌, ◌++◌, map, drop, take, length}, specs.List.AllByRecursion}, iodef_tree.specs.Filled.{IsMemberFilled, IsItemFilled}}
use Rattle.{iodef_tree.specs.View.{body, named}, policy.specs.Inherited.carried, redact.specs.inner.Left.{home_of, left_members, told_members, count_members}}
use Rattle.redact.specs.inner.{Left.{left_items, told_items, count_items, Goes}, Tokens.path_of}
use Rattle.redact.proofs.reader.Reader.+cut.Given as goal

abbrev pub invariant-cut-loop-name : goal.invariant-cut-loop-name
invariant-cut-loop-name l =
    let A = carried (path_of l.initial.state.path.items) l.above in
    let Q = path_of l.initial.state.place.items in
    record {
      left : map named l.members.items ++ left_members l.self.case.now l.self.standing.now (home_of l.home) A (map named (drop l.name-index l.name-items))
          ≡ left_members l.self.case.now l.self.standing.now (home_of l.home) A (map named l.name-items);
      filled : AllByRecursion (λ m. IsMemberFilled m.1) l.members.items;
      goes : Goes Q l.initial.state l.state (told_members l.self.case.now l.self.standing.now (home_of l.home) A Q (map named l.name-items))
          (told_members l.self.case.now l.self.standing.now (home_of l.home) A Q (map named (drop l.name-index l.name-items)))
          (count_members l.self.case.now l.self.standing.now A (map named l.name-items)) (count_members l.self.case.now l.self.standing.now A (map named (drop l.name-index l.name-items)));
      quiet : length l.members.items ≡ 0 → l.state.withheld.items ≡ l.initial.state.withheld.items;
    }

abbrev pub invariant-cut_items-loop-i : goal.invariant-cut_items-loop-i
invariant-cut_items-loop-i l =
    let D = carried (path_of l.initial.state.path.items) l.array in
    let q = path_of (take l.base l.initial.state.place.items) in
    let r = path_of l.initial.state.place.items in
    record {
      left : map body l.kept.items ++ left_items l.self.case.now l.self.standing.now (home_of l.home) D l.i (map body (drop l.i l.items.items))
          ≡ left_items l.self.case.now l.self.standing.now (home_of l.home) D 0 (map body l.items.items);
      filled : AllByRecursion IsItemFilled l.kept.items;
      goes : Goes q l.initial.state l.state (told_items l.self.case.now l.self.standing.now (home_of l.home) D q r 0 0 (map body l.items.items))
          (told_items l.self.case.now l.self.standing.now (home_of l.home) D q r l.i (length l.kept.items) (map body (drop l.i l.items.items)))
          (count_items l.self.case.now l.self.standing.now D 0 (map body l.items.items)) (count_items l.self.case.now l.self.standing.now D l.i (map body (drop l.i l.items.items)));
      quiet : length l.kept.items ≡ 0 → l.state.withheld.items ≡ l.initial.state.withheld.items;
    }
