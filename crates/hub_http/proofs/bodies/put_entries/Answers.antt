use Rattle.{std.proofs.Common.{◌++◌, get_or, rules}, hub_state.specs.declared.reply.Entry.Entry, serde_json.specs.Written.{comma_if, compact_text}}
use Rattle.{json_text.proofs.{Lists.{array-begins, element-more, array-ends}, Puts.ok-both-are}, hub_http.specs.Bodies.entry_object}
use Rattle.hub_http.proofs.bodies.put_entries.Goals as goal

pub loop-entry-init : goal.loop-entry-init
loop-entry-init g c = (
  _,
  c.in_ok-token.ensures.puts,
  array-begins entry_object c.args.out.now.after_value c.token.new.self.after_value c.args.entries.now c.in_ok-token.ensures.after,
)

pub loop-entry-preserved : goal.loop-entry-preserved
loop-entry-preserved g c =
    let none : Entry = record { number = 0; revision = 0; source = 0 } in
    let inv = c.loop-entry.invariant in (
      inv.0 ++ (comma_if c.loop-entry.out.after_value ++ compact_text (entry_object (get_or c.args.entries.now c.loop-entry.entry-index none))),
      g.met.S.Sink.joins _ _ _ _ _ inv.1 c.in_ok-put_entry.ensures.puts,
      element-more entry_object inv.0 _ c.loop-entry.out.after_value c.put_entry.new.out.after_value c.args.entries.now c.loop-entry.entry-index (get_or c.args.entries.now c.loop-entry.entry-index none)
          c.loop-entry-test.true (search rules) c.in_ok-put_entry.ensures.after inv.2,
    )

pub returns-clause-puts : goal.returns-clause-puts
returns-clause-puts g c =
    let inv = c.loop-entry.invariant in
    ok-both-are g.S.Sink.puts g.met.S.Sink.joins _ _ _ _ _ _ c.token-2.result
    (array-ends entry_object inv.0 _ c.loop-entry.out.after_value c.args.entries.now c.loop-entry.entry-index c.loop-entry-test.false inv.2) inv.1 c.token-2.ensures.puts
