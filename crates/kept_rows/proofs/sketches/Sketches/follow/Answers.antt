use Rattle.{std.proofs.Common.{sym, subst}, hub_state.specs.Edits.edited, kept_rows.{proofs.Drawn.{drawn_put, drawn_taken}, specs.Drawn.AreDrawn}}
use Rattle.kept_rows.proofs.sketches.Sketches.follow.Goals as goal

pub returns-in-PutIncident : goal.returns-in-PutIncident
returns-in-PutIncident c = λ s all. subst (λ e. AreDrawn c.redraw.new.self (edited e s)) (sym c.in-PutIncident.is)
    (drawn_put c.in-PutIncident.incident c.args.self.now c.redraw.new.self s c.redraw.ensures all)

pub returns-in-TakeIncident : goal.returns-in-TakeIncident
returns-in-TakeIncident c = λ s all. subst (λ e. AreDrawn c.let_go.new.self (edited e s)) (sym c.in-TakeIncident.is)
    (drawn_taken c.in-TakeIncident.number c.args.self.now c.let_go.new.self s c.let_go.ensures all)
