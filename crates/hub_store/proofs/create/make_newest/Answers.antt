use Rattle.{std.proofs.Common.{◌≡◌, arith, rules}, sqlite.specs.Held.state, hub_store.proofs.Edits.Steps.{makes_start, creates_then, creates_not}}
use Rattle.hub_store.{proofs.Rows.Empty.bare_2, specs.{Layout.newest, Tables.schema_by, inner.Makes.HasEmpty}}
use Rattle.hub_store.proofs.create.make_newest.Goals as goal

pub loop-from-init : goal.loop-from-init
loop-from-init g c = record {
  same_reference = search rules;
  made = record {
    makes = record { goes = (makes_start (state g.S.Store c.args.tx.now.conn.now) (HasEmpty (schema_by 2)) tt).goes; made = λ _ _ before. bare_2 _ before };
    cause = λ _ _ _. tt;
  };
}

pub loop-from-preserved : goal.loop-from-preserved
loop-from-preserved g c = record {
  same_reference = search rules;
  made = creates_then c.loop-from.invariant.made (c.in_ok-make_next.ensures.made (omega arith) (omega arith));
}

pub returns-in_err-make_next-clause-made : goal.returns-in_err-make_next-clause-made
returns-in_err-make_next-clause-made g c = creates_not c.from_residual.ensures.1 (creates_then c.loop-from.invariant.made (c.in_err-make_next.ensures.made (omega arith) (omega arith)))

pub returns-clause-made : goal.returns-clause-made
returns-clause-made g c =
    let last : c.loop-from.from ≡ newest = omega arith in
    rw last at c.loop-from.invariant.made
