use Rattle.{std.proofs.Common.{rules, ◌≡◌, Option, Some, None, ◌∙◌, ap, sym, subst, SFits, w64, to_z-of_z}, circle.specs.Reads.person_of}
use Rattle.{circle.specs.declared.directory.Person.Person, hub_state.specs.{KeptReaders.IsReader, Reads.{standing_for, ties_of}}}
use Rattle.{hub_state.specs.declared.kept_reader.KeptReader.KeptReader, kept_rows.proofs.Ties.ties_kept}
use Rattle.kept_rows.proofs.seen.Seen.set_for.Goals as goal

same_person : (p q : Person) (o : Option Person) → o ≡ Some p → o ≡ Some q → p ≡ q
same_person p q o one other = cc

pub returns-in-Some-clause-stands : goal.returns-in-Some-clause-stands
returns-in-Some-clause-stands c = λ p i is person there.
    let rows = c.args.rows.now in
    let same : is.person ≡ p = same_person is.person p _ is.is person in
    let fits : SFits w64 c.args.now = search rules in
    c.set_for.ensures.stands p i (subst (λ q. IsReader c.args.self.now.reader q rows) same is.reader) there
    (is.ties c.args.naming.now.source c.in-Some.ties.now (sym c.in-Some.ensures.value) ∙ (λ j. ties_of ((same j).org) ((there j).source) None rows))
    ∙ ap (λ t. standing_for rows t p i) (to_z-of_z fits)

pub returns-in-None-clause-stays : goal.returns-in-None-clause-stays
returns-in-None-clause-stays c = λ is.
    let rows = c.args.rows.now in
    record {
      person = is.person;
      is = ap (λ m. person_of m rows.directory) c.keep.ensures.number ∙ is.is;
      reader = subst (λ (k : KeptReader). IsReader k is.person rows) (sym c.keep.ensures.reader) (c.set_for-in-None.ensures.stays is.person is.reader);
      ties = ties_kept is.person rows c.args.naming.now.source c.ties-ties.result c.args.self.now c.keep.new.self (c.ties-ties.ensures ∙ ap (λ o. ties_of o c.args.naming.now.source None rows) is.reader.org) c.keep.ensures.ties is.ties;
    }
