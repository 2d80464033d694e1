-- Reads, one after another.
use Rattle.{std.{proofs.{Common.{Option, ◌++◌, subst, sym}, KnownBytes.Consumes-trans}, specs.Io.KnownBytes.Consumes}, iodef_tree.specs.Text.Bytes}
use Rattle.redact_program.specs.Streams.{Takes, Extends}

pub takes_more : (a b c : Option Bytes) (bytes : Bytes) → Consumes a b bytes → Takes b c → Takes a c
takes_more a b c bytes p (more, q) = (bytes ++ more, Consumes-trans a b c bytes more p q)

pub extends : (a b c : Option Bytes) (old new : Bytes) → Consumes a b old → Extends b c old new → Consumes a c new
extends a b c old new p (piece, q, e) = subst (Consumes a c) (sym e) (Consumes-trans a b c old piece p q)
