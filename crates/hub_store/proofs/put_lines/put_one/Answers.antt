use Rattle.{std.proofs.{Common.w64, lemmas.Int.to_z_pos}, hub_store.proofs.{Edits.{Changes.puts_line, Steps.{made_by, fails_by}}, Rows.Texts.put_line}}
use Rattle.hub_store.{proofs.Versions.Migrating.{moves_line, line_fails}, specs.{Means.HoldsBetween, inner.Beside.HoldsBeside}}
use Rattle.hub_store.proofs.put_lines.put_one.Goals as goal

pub returns-clause-puts : goal.returns-clause-puts
returns-clause-puts g c = record {
  goes = c.run.ensures.goes;
  edited = λ s incidents items more same.
      made_by g.S.Store put_line _ _ _ (λ db. HoldsBetween items incidents db s) (λ db. HoldsBetween more incidents db s) _ c.run.ensures.goes (λ clean inside. rw (c.params-to_sql.ensures, c.params-to_sql-2.ensures, c.params-to_sql-3.ensures, c.params-to_sql-4.ensures, c.params-to_sql-5.ensures, c.params-to_sql-6.ensures, c.params-to_sql-7.ensures, c.as_str.ensures, c.as_str-2.ensures, c.kind_number.ensures, to_z_pos w64 c.args.place c.requires) at (c.run.ensures.ran clean inside))
      (λ mid count h held. puts_line mid _ c.args.incident c.args.place c.args.line.now count h s incidents items more same held);
  moved = λ s items more same.
      made_by g.S.Store put_line _ _ _ (HoldsBeside items s) (HoldsBeside more s) _ c.run.ensures.goes (λ clean inside. rw (c.params-to_sql.ensures, c.params-to_sql-2.ensures, c.params-to_sql-3.ensures, c.params-to_sql-4.ensures, c.params-to_sql-5.ensures, c.params-to_sql-6.ensures, c.params-to_sql-7.ensures, c.as_str.ensures, c.as_str-2.ensures, c.kind_number.ensures, to_z_pos w64 c.args.place c.requires) at (c.run.ensures.ran clean inside))
      (λ mid count h held. moves_line mid _ c.args.incident c.args.place c.args.line.now s items more same count h held);
  cause = λ s items more same can.
      fails_by g.S.Store put_line _ _ _ (HoldsBeside items s) _ (λ clean inside. rw (c.params-to_sql.ensures, c.params-to_sql-2.ensures, c.params-to_sql-3.ensures, c.params-to_sql-4.ensures, c.params-to_sql-5.ensures, c.params-to_sql-6.ensures, c.params-to_sql-7.ensures, c.as_str.ensures, c.as_str-2.ensures, c.kind_number.ensures, to_z_pos w64 c.args.place c.requires) at (c.run.ensures.failed clean inside))
      (λ mid e h held other. line_fails c.args.incident c.args.place c.args.line.now s items more same can mid _ e h held other);
}
