use Rattle.kept_documents.proofs.documents.Documents.let_go_by.Goals as goal

pub returns-in-PutIncident : goal.returns-in-PutIncident
returns-in-PutIncident g c = λ e k. let other = c.let_go_of.ensures e k in (other.0, rw c.in-PutIncident.is other.1)

pub returns-in-TakeIncident : goal.returns-in-TakeIncident
returns-in-TakeIncident g c = λ e k. let other = c.let_go_of-in-TakeIncident.ensures e k in (other.0, rw c.in-TakeIncident.is other.1)
