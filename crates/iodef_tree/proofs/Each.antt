-- A property of an object's members that holds if it holds of each of them.
use Rattle.std.{proofs.Common.{◌≡◌, Ordering, Less, Equal, Greater, Some, subst}, specs.{Cmp.Lexicographic.slice_cmp, Ordering.{nat_cmp, match_ordering}}}
use Rattle.{serde_json.specs.{Data.{Data, put}, Find.get_member}, json_pointer.specs.Text.Bytes}
use Rattle.serde_json.specs.Data as json

pub record IsEach (P : Data → Type 0) (Q : json.Members → Type 0) : Type 0 where
  pub made : (k : Bytes) (d : Data) (ms : json.Members) → P d → Q ms → Q (json.member k d ms)
  pub first : (k : Bytes) (d : Data) (ms : json.Members) → Q (json.member k d ms) → P d
  pub others : (k : Bytes) (d : Data) (ms : json.Members) → Q (json.member k d ms) → Q ms

module _ (P : Data → Type 0) (Q : json.Members → Type 0) (e : IsEach P Q) where
  -- a member that is put in is the only new one
  pub put-each : (k : Bytes) (v : Data) (ms : json.Members) → P v → Q ms → Q (put k v ms)
  put-each k v json.no_members h all = e.made k v json.no_members h all
  put-each k v (json.member m d ms) h all = step (slice_cmp nat_cmp k m) (put-each k v ms h (e.others m d ms all))
    where
      step : (o : Ordering) → Q (put k v ms) → Q (match_ordering o (json.member k v (json.member m d ms)) (json.member m v ms) (json.member m d (put k v ms)))
      step Less later = e.made k v (json.member m d ms) h all
      step Equal later = e.made m v ms h (e.others m d ms all)
      step Greater later = e.made m d (put k v ms) (e.first m d ms all) later

  pub get-each : (k : Bytes) (ms : json.Members) (v : Data) → Q ms → get_member k ms ≡ Some v → P v
  get-each k json.no_members v all is = absurd (cc)
  get-each k (json.member m d ms) v all is = step (slice_cmp nat_cmp k m) is (get-each k ms v (e.others m d ms all))
    where
      step : (o : Ordering) → match_ordering o (get_member k ms) (Some d) (get_member k ms) ≡ Some v → (get_member k ms ≡ Some v → P v) → P v
      step Equal is later = let same : d ≡ v = cc in subst P same (e.first m d ms all)
      step _ is later = later is
