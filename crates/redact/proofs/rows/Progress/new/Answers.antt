use Rattle.redact.proofs.rows.Progress.new.Goals as goal

pub returns : goal.returns
returns c = λ k s. record { shows = c.new.ensures; marked = c.new-2.ensures; sifts = c.new-3.ensures k s }
