-- The orders of rows are total, and the rows of one incident are next to each other.
use Rattle.std.specs.Prelude.{◌≡◌, ℕ, ◌≤◌, false}
use Rattle.std.proofs.Common.{arith}
use Rattle.std.specs.Cmp.{IsTotalOrder}
use Rattle.std.specs.Ordering.{nat_cmp, is_lt, ordering_then}
use Rattle.std.specs.declared.cmp.Ordering.{Ordering}
use Rattle.std.specs.Cmp.Lexicographic.{slice_cmp}
use Rattle.std.proofs.lemmas.Cmp.{nat_cmp_total, nat_list_cmp_total, on_total, then_total}
use Rattle.std.proofs.lemmas.Bool.Decides.{nat_tests}
use Rattle.iodef_tree.specs.Pointer.{pointer_text}
use Rattle.hub_state.specs.State.{gate_cmp, recipient_cmp, permission_cmp, target_key, grantee_key, incident_number}
use Rattle.hub_state.specs.declared.state.Incident.{Incident}
use Rattle.hub_state.specs.declared.state.Gate.{Gate}
use Rattle.hub_state.specs.declared.state.Recipient.{Recipient}
use Rattle.hub_state.specs.declared.state.Permission.{Permission}
use Rattle.hub_state.specs.declared.rows.Named.{Named}
use Rattle.circle.specs.Ordered.{by_number, pair_cmp}
use Rattle.circle.proofs.Keeping.{pair_total}

first_rises : (m n : ℕ) (o : Ordering) → is_lt (ordering_then (nat_cmp n m) o) ≡ false → m ≤ n
first_rises m n o h = grind (arith, nat_tests)

first_rises_twice : (m n : ℕ) (o u : Ordering) → is_lt (ordering_then (ordering_then (nat_cmp n m) o) u) ≡ false → m ≤ n
first_rises_twice m n o u h = grind (arith, nat_tests)

-- lemma: the order of gates is total
pub gate_total : IsTotalOrder gate_cmp
gate_total =
    then_total (on_total (λ (g : Gate). g.incident) nat_cmp_total)
    (on_total (λ (g : Gate). pointer_text g.gate.path) nat_list_cmp_total)

-- lemma: a gate that isn't above another has no greater incident number
pub gates_together : (a b : Gate) → is_lt (gate_cmp b a) ≡ false → a.incident ≤ b.incident
gates_together a b h =
    first_rises a.incident b.incident (slice_cmp nat_cmp (pointer_text b.gate.path) (pointer_text a.gate.path)) h

-- lemma: the order of permissions is total
pub permission_total : IsTotalOrder permission_cmp
permission_total = then_total
    (then_total (on_total (λ (x : Permission). x.incident) nat_cmp_total)
    (on_total (λ (x : Permission). pointer_text x.permission.path) nat_list_cmp_total))
    (on_total (λ (x : Permission). grantee_key x.permission.grantee) pair_total)

-- lemma: a permission that isn't above another has no greater incident number
pub permissions_together : (a b : Permission) → is_lt (permission_cmp b a) ≡ false → a.incident ≤ b.incident
permissions_together a b h =
    first_rises_twice a.incident b.incident
    (slice_cmp nat_cmp (pointer_text b.permission.path) (pointer_text a.permission.path))
    (pair_cmp (grantee_key b.permission.grantee) (grantee_key a.permission.grantee)) h

-- lemma: the order of recipients is total
pub recipient_total : IsTotalOrder recipient_cmp
recipient_total =
    then_total (on_total (λ (r : Recipient). r.incident) nat_cmp_total)
    (on_total (λ (r : Recipient). target_key r.target) pair_total)

-- lemma: a recipient that isn't above another has no greater incident number
pub recipients_together : (a b : Recipient) → is_lt (recipient_cmp b a) ≡ false → a.incident ≤ b.incident
recipients_together a b h = first_rises a.incident b.incident (pair_cmp (target_key b.target) (target_key a.target)) h

-- incidents in the order of their numbers
abbrev pub incident_cmp : Incident → Incident → Ordering
incident_cmp = by_number incident_number

-- lemma: the order of incidents is total
pub incident_total : IsTotalOrder incident_cmp
incident_total = on_total incident_number nat_cmp_total

-- lemma: an incident that isn't above another has no greater number
pub incidents_together : (a b : Incident) → is_lt (incident_cmp b a) ≡ false → a.naming.number ≤ b.naming.number
incidents_together a b h = grind (arith, nat_tests)

-- the name of an incident: the source that posted it, its ident and its number
abbrev pub named : Incident → Named
named i = record { source = i.naming.source; ident = i.naming.ident; number = i.naming.number }

-- names in the order of source, then of the bytes of the ident
abbrev pub named_cmp : Named → Named → Ordering
named_cmp a b = ordering_then (nat_cmp a.source b.source) (slice_cmp nat_cmp a.ident b.ident)

-- lemma: the order of names is total
pub named_total : IsTotalOrder named_cmp
named_total =
    then_total (on_total (λ (e : Named). e.source) nat_cmp_total)
    (on_total (λ (e : Named). e.ident) nat_list_cmp_total)

-- lemma: a name that isn't above another has no greater source
pub named_together : (a b : Named) → is_lt (named_cmp b a) ≡ false → a.source ≤ b.source
named_together a b h = first_rises a.source b.source (slice_cmp nat_cmp b.ident a.ident) h
