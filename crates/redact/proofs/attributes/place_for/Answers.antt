use Rattle.{std.proofs.{Common.{length, sym, ◌∙◌, ap, arith}, lemmas.List.get_or_read}, iodef_tree.proofs.Filled.{all-at, member-elements}}
use Rattle.{iodef_tree.specs.{Filled.IsMemberFilled, Text.{Bytes, bytes_lt}, declared.object.Member.Member}, redact.proofs.Filling.put_split}
use Rattle.redact.proofs.attributes.place_for.Goals as goal

pub returns-then-lt-clause-splits : goal.returns-then-lt-clause-splits
returns-then-lt-clause-splits c = λ text.
    let ms = c.args.members.now in
    let name = c.args.name.now in
    put_split name text ms c.loop-i.i (omega arith) c.loop-i.invariant (λ d h. (
      ap (λ (m : Bytes × Member). bytes_lt name m.0) (sym (get_or_read ms c.loop-i.i c.index-members-i.result h c.index-members-i.is d))
          ∙ ap (bytes_lt name) (sym c.as_str.ensures) ∙ sym c.if-lt.ensures,
      member-elements _ (all-at (λ (m : Bytes × Member). IsMemberFilled m.1) ms c.loop-i.i d h c.requires),
    ))

pub returns-clause-splits : goal.returns-clause-splits
returns-clause-splits c = λ text.
    let ms = c.args.members.now in
    put_split c.args.name.now text ms (length ms) (omega arith) (λ k d h. c.loop-i.invariant k d (omega (arith, h, c.loop-i-test.false))) (λ d h. absurd (omega (arith, h)))
