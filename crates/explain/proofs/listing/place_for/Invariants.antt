use Rattle.{std.proofs.Common.{◌≡◌, ◌++◌, take, drop}, explain.specs.Listing.put}
use Rattle.explain.proofs.listing.place_for.Given as goal

abbrev pub invariant-loop-place : goal.invariant-loop-place
invariant-loop-place l = take l.place l.entries ++ put l.entry (drop l.place l.entries) ≡ put l.entry l.entries
