-- What a kept document shows is what its incident shows.
use Rattle.std.proofs.Common.{◌≡◌, ◌⊎◌, ℕ, ◌&&◌, false, if◌then◌else◌, List, Option, Some, None, Result, Ok, Err, OnOk, OnErr, Contains, inl, inr, sym, ap}
use Rattle.std.{proofs.Common.{subst, ◌∙◌}, specs.{Option.option_map_or, Prelude.{Bool, is_some, is_none, option_and_then, option_map, string_bytes}}}
use Rattle.{iodef_tree.specs.{Paths.located, Text.Bytes}, marking.specs.Marks.first_bad_marking, policy.specs.declared.case.Case.Case}
use Rattle.{policy.specs.declared.standing.Standing.Standing, redact.specs.{Excerpts.served_of, Told.excerpt_of, Wants.{HasSameWords, meets, meets_by}}}
use Rattle.{redact.specs.declared.want.Want.Want, hub_state.specs.{Documents.Lines, Reads.{document_of, served_of_incident, met_by_incident, meets_marked}}}
use Rattle.{hub_state.specs.State.State, kept_documents.specs.Kept.{Entry, AreAmong, AreDocuments}}

pub served : (n : ℕ) (doc : Lines) (c : Case) (st : Standing) (s : State) → document_of n s ≡ Some doc → first_bad_marking (located doc) ≡ None → excerpt_of doc c st ≡ served_of_incident n c st s
served n doc c st s at marked = sym (ap (option_and_then (λ (ls : Lines). served_of ls c st)) at ∙ ap (λ bad. if is_some bad then None else excerpt_of doc c st) marked)

pub met : (n : ℕ) (doc : Lines) (c : Case) (st : Standing) (w : Want) (s : State) → document_of n s ≡ Some doc → first_bad_marking (located doc) ≡ None → meets w doc c st ≡ met_by_incident n c st w s
met n doc c st w s at marked = sym (ap (λ o. option_map_or (λ (ls : Lines). meets_marked w ls c st) o false) at ∙ ap (λ bad. is_none bad && meets w doc c st) marked)

-- what a copy of a case and a standing shows
pub served_alike : (n : ℕ) (c d : Case) (st su : Standing) (s : State) → ◌≡◌ {A = Case × Standing} (c, st) (d, su) → served_of_incident n c st s ≡ served_of_incident n d su s
served_alike n c d st su s same = ap (λ (p : Case × Standing). served_of_incident n p.0 p.1 s) same

words_alike : (n : ℕ) (c : Case) (st : Standing) (copy w : Want) (s : State) → HasSameWords copy w → met_by_incident n c st copy s ≡ met_by_incident n c st w s
words_alike n c st copy w s same = ap (λ needle. by_words needle (option_map string_bytes copy.class)) same.needle ∙ ap (by_words (option_map string_bytes w.needle)) same.class
  where
    by_words : Option Bytes → Option Bytes → Bool
    by_words needle class = option_map_or (λ (ls : Lines). is_none (first_bad_marking (located ls)) && meets_by needle class ls c st) (document_of n s) false

pub met_alike : (n : ℕ) (c d : Case) (st su : Standing) (copy w : Want) (s : State) → c ≡ d → st ≡ su → HasSameWords copy w → met_by_incident n c st copy s ≡ met_by_incident n d su w s
met_alike n c d st su copy w s case standing words =
    ap (λ x. met_by_incident n x st copy s) case ∙ (ap (λ x. met_by_incident n d x copy s) standing ∙ words_alike n d su copy w s words)

-- with one more document that was read
pub kept_new : (n : ℕ) (doc : Lines) (old mid new : List Entry) (s : State) → AreAmong mid old → ((e : Entry) → Contains new e → Contains mid e ⊎ (e ≡ (n, doc))) → Some doc ≡ document_of n s → AreDocuments old s → AreDocuments new s
kept_new n doc old mid new s among put is all e k = elim (put e k) [ inl was ↦ all e (among e was) | inr new ↦ subst (λ (x : Entry). document_of x.0 s ≡ Some x.1) (sym new) (sym is) ]

pub on_ok_beside : {T E : Type 0} (P Q : Type 0) (r : Result T E) → Q → OnOk r P → OnOk r (P × Q)
on_ok_beside P Q (Ok x) q p = (p, q)
on_ok_beside P Q (Err e) q p = tt

pub on_err_weaker : {T E : Type 0} (P Q : Type 0) (r : Result T E) → (P → Q) → OnErr r P → OnErr r Q
on_err_weaker P Q (Ok x) go p = tt
on_err_weaker P Q (Err e) go p = go p
