use Rattle.kept_documents.proofs.Again.{fewer, not_failed, read_again}
use Rattle.kept_documents.proofs.kept_documents.KeptDocumentsShelf.person_by_key.Goals as goal

pub returns-then-give_way : goal.returns-then-give_way
returns-then-give_way g c =
    let well = not_failed c.person_by_key-found.result (c.give_way.ensures.memory c.if-give_way.true) in
    let read = read_again _ _ _ _ _ _ _ _ _ _ well c.person_by_key-found.ensures.kept c.person_by_key.ensures in
    record {
      value = λ clean s has. read.value clean s has.0;
      kept = record {
        cause = read.kept.cause;
        doubt = read.kept.doubt;
        content = λ clean s has.
            (read.kept.content clean s has.0, fewer c.leave_room.new.self c.give_way.new.self s c.give_way.ensures.among (fewer c.args.self.now.documents c.leave_room.new.self s c.leave_room.ensures has.1));
        crash = read.kept.crash;
      };
    }

pub returns : goal.returns
returns g c =
    let read = c.person_by_key-found.ensures in
    record {
      value = λ clean s has. read.value clean s has.0;
      kept = record {
        cause = read.kept.cause;
        doubt = read.kept.doubt;
        content = λ clean s has.
            (read.kept.content clean s has.0, fewer c.leave_room.new.self c.give_way.new.self s c.give_way.ensures.among (fewer c.args.self.now.documents c.leave_room.new.self s c.leave_room.ensures has.1));
        crash = read.kept.crash;
      };
    }
