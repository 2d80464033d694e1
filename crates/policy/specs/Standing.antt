-- The standing of a reader of whom nothing holds.
use Rattle.std.specs.Prelude.{ℕ, pos, [], false, None}
use Rattle.policy.specs.declared.standing.Standing.{Standing}

-- a person and its organisation, by their numbers, of whom nothing else holds, at the beginning of 1970
abbrev pub stranger : ℕ → ℕ → Standing
stranger who org = record {
  source = false;
  person = false;
  nominated = false;
  addressed = false;
  client = false;
  community = false;
  peer = false;
  connected = false;
  arrangement = None;
  who = who;
  org = org;
  groups = [];
  active_groups = [];
  communities = [];
  now = pos 0;
}
