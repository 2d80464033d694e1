-- Two answers side by side, of which either may be want of memory.
use Rattle.{std.proofs.Common.{◌≡◌, ◌≢◌, Ok, Err, refl, ap, ap₂, ◌∙◌}, redaction.specs.{Faults.earlier, Outcome.{Read, Yields, both}, Readings.Reading}}
use Rattle.redaction.specs.{Readings.{Reads, without_place}, declared.fault.Fault.{Fault, TheVariants.{NoMemory, ViewNotJson, DoubledMember, NotObject}}}
use Rattle.redaction.specs.declared.fault.Fault.TheVariants.{UnknownMember, MissingMember, WrongKind, OutOfRange, BadPointer, BadMoment, SourceUnsaid, NotUtf8}
use Rattle.redaction.specs.declared.fault.Fault.TheVariants.{NotJson, NotDocument, Missing, NotWhole, NestedClass, TooDeep, TooManyLines, BadMarking}
use Rattle.redaction.specs.declared.fault.Fault.TheVariants.{NoIncident, NoClass, NothingVisible, NotReadable, IdMissing}

-- want of memory is the first of all faults
first-left : (f : Fault) → earlier NoMemory f ≡ NoMemory
first-left NoMemory = refl
first-left ViewNotJson = refl
first-left DoubledMember = refl
first-left NotObject = refl
first-left UnknownMember = refl
first-left MissingMember = refl
first-left WrongKind = refl
first-left OutOfRange = refl
first-left BadPointer = refl
first-left BadMoment = refl
first-left SourceUnsaid = refl
first-left NotUtf8 = refl
first-left NotJson = refl
first-left NotDocument = refl
first-left Missing = refl
first-left NotWhole = refl
first-left NestedClass = refl
first-left TooDeep = refl
first-left TooManyLines = refl
first-left BadMarking = refl
first-left NoIncident = refl
first-left NoClass = refl
first-left NothingVisible = refl
first-left NotReadable = refl
first-left IdMissing = refl

first-right : (e : Fault) → earlier e NoMemory ≡ NoMemory
first-right NoMemory = refl
first-right ViewNotJson = refl
first-right DoubledMember = refl
first-right NotObject = refl
first-right UnknownMember = refl
first-right MissingMember = refl
first-right WrongKind = refl
first-right OutOfRange = refl
first-right BadPointer = refl
first-right BadMoment = refl
first-right SourceUnsaid = refl
first-right NotUtf8 = refl
first-right NotJson = refl
first-right NotDocument = refl
first-right Missing = refl
first-right NotWhole = refl
first-right NestedClass = refl
first-right TooDeep = refl
first-right TooManyLines = refl
first-right BadMarking = refl
first-right NoIncident = refl
first-right NoClass = refl
first-right NothingVisible = refl
first-right NotReadable = refl
first-right IdMissing = refl

left-kept : (e f : Fault) → earlier e f ≢ NoMemory → e ≢ NoMemory
left-kept e f never is = never (ap (λ x. earlier x f) is ∙ first-left f)

right-kept : (e f : Fault) → earlier e f ≢ NoMemory → f ≢ NoMemory
right-kept e f never is = never (ap (earlier e) is ∙ first-right e)

pub beside-yields : {A B : Type 0} (v : Reading A) (p : Read B) (wv : Reading A) (wp : Read B) → Reads v wv → Yields p wp → Yields (both (without_place v) p) (both (without_place wv) wp)
beside-yields (Ok x) (Ok y) wv wp hv hp = ap₂ (λ a b. both (without_place a) b) hv hp
beside-yields (Ok x) (Err f) wv wp hv hp = λ never. ap₂ (λ a b. both (without_place a) b) hv (hp never)
beside-yields (Err r) (Ok y) wv wp hv hp = λ never. ap₂ (λ a b. both (without_place a) b) (hv never) hp
beside-yields (Err r) (Err f) wv wp hv hp = λ never. ap₂ (λ a b. both (without_place a) b) (hv (left-kept r.fault f never)) (hp (right-kept r.fault f never))
