use Rattle.{std.proofs.Common.◌++◌, json_text.{proofs.Escapes.{front-shown, first-shown}, specs.Shown.shown_byte}}
use Rattle.json_text.proofs.escape.put_escaped.Goals as goal

pub loop-byte-preserved-then-len-gt0 : goal.loop-byte-preserved-then-len-gt0
loop-byte-preserved-then-len-gt0 g c =
    let inv = c.loop-byte.invariant in (
      inv.0 ++ c.split_at.result.0.now,
      g.met.S.Sink.joins _ _ _ _ _ inv.1 c.in_ok-put.ensures,
      front-shown c.args.within inv.0 c.loop-byte.rest.now c.split_at.result.0.now c.split_at.result.1.now _ c.plain_len-len.result
          c.split_at.ensures.front c.split_at.ensures.back c.plain_len-len.ensures.plain inv.2,
    )

pub loop-byte-preserved : goal.loop-byte-preserved
loop-byte-preserved g c =
    let inv = c.loop-byte.invariant in (
      inv.0 ++ shown_byte c.args.within c.in-Some.byte.now,
      g.met.S.Sink.joins _ _ _ _ _ inv.1 c.in_ok-put_shown.ensures,
      first-shown c.args.within inv.0 c.loop-byte.rest.now c.in-Some.behind.now _ c.in-Some.byte.now c.in-Some.ensures.cases.0 inv.2,
    )
