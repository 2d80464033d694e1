-- What a pass knows of the lines so far, of which it keeps those that matter.
use Rattle.std.specs.Prelude.{◌≡◌, ℕ, suc, ◌<◌, ◌≤◌, ◌-◌, ◌^◌, Bool, true, false, not, ◌&&◌, ◌||◌, List, [], ◌∷◌, ◌++◌, length, take, map, filter, nat_lt}
use Rattle.std.specs.Prelude.{if◌then◌else◌, Option, Some, None, is_some, IfSome}
use Rattle.std.specs.List.{flat_map, list_any, slice_get}
use Rattle.std.specs.Str.{bytes_eq}
use Rattle.iodef_tree.specs.Text.{Bytes, Tokens, bytes_lt, is_root, same_path}
use Rattle.iodef_tree.specs.Tree.{steps, place_of}
use Rattle.iodef_tree.specs.Paths.{LocatedLine, is_class_kind, is_class, placed, parent_path, place_among}
use Rattle.iodef_tree.specs.Outline.{back, deepest, last_sibling, is_outline_back}
use Rattle.iodef_tree.specs.Sound.{counted}
use Rattle.iodef_tree.specs.Shown.{Shows}
use Rattle.iodef_tree.specs.declared.line.Line.{Line}
use Rattle.iodef_tree.specs.declared.shape.Shape.{Shape}
use Rattle.iodef_tree.specs.declared.shape.Sibling.{Sibling}
use Rattle.policy.specs.Gates.{refusal_of_gate}
use Rattle.policy.specs.declared.gate.Gate.{Gate}
use Rattle.policy.specs.declared.standing.Standing.{Standing}
use Rattle.policy.specs.declared.case.Case.{Case}
use Rattle.redact.specs.Matters.{is_refused, lines_that_matter}
use Rattle.redact.specs.Marked.{marks_of, none_noted, with_marked_lines}
use Rattle.redact.specs.declared.marks.Marks.{Marks}
use Rattle.redact.specs.declared.steps.Step.{Step}
use Rattle.redact.specs.declared.sieve.Sieve.{Sieve}

-- ---- the path of the newest line

-- the tokens that the newest line of a depth adds to the path of its class
abbrev pub step_tokens : Step → Tokens
step_tokens s = steps s.name (place_of s.in_array s.place)

-- the path of the newest line, by the newest line of each depth that is still open
abbrev pub way : List Step → Tokens
way ss = flat_map step_tokens ss

-- the place of one more member of a class, by the newest of its members
abbrev pub next_place : Option Step → Bytes → ℕ
next_place None name = 0
next_place (Some s) name = if bytes_eq s.name name then suc s.place else 0

-- the place of the newest sibling is small enough to be counted on
abbrev pub IsCounted : List Step → Line → Type 0
IsCounted ss l = IfSome (slice_get ss (l.depth - 1)) (λ s. s.place < 2 ^ 64 - 1)

-- what is kept of the newest line of a depth: its name, whether it is in an array, and its place
abbrev pub step_of : List Step → Line → Step
step_of ss l = record { name = l.name; in_array = l.in_array; place = next_place (slice_get ss (l.depth - 1)) l.name }

-- the newest line of each open depth, after one more line
abbrev pub went_on : List Step → Line → List Step
went_on ss l = take (l.depth - 1) ss ++ step_of ss l ∷ []

-- whether a path is the root's, that of one step below another path, or that of the array around it
abbrev pub stands : Tokens → Step → Tokens → Bool
stands p s q = is_root q || (same_path q (p ++ s.name ∷ []) || same_path q (p ++ step_tokens s))

-- whether a gate at the path of the root, of that step, or of the array around it refuses the reader
abbrev pub stops : Standing → Tokens → Step → Gate → Bool
stops r p s g = stands p s g.path && is_some (refusal_of_gate r g)

-- whether a line is that of a class at which a gate refuses the reader, who isn't of the source
abbrev pub is_stopped : Case → Standing → List Step → Line → Bool
is_stopped c r ss l =
    is_class_kind l.kind
    && (not r.source && list_any (stops r (way (take (l.depth - 1) ss)) (step_of ss l)) c.gates)

-- lines behind others, the newest first, each with its path
abbrev pub located_onto : List LocatedLine → List Line → List LocatedLine
located_onto before [] = before
located_onto before (l ∷ ls) = located_onto (placed before l ∷ before) ls

-- lines with their paths, the newest first
abbrev pub located_back : List Line → List LocatedLine
located_back ls = located_onto [] ls

-- located lines without their paths
abbrev pub lines_of : List LocatedLine → List Line
lines_of es = map (λ e. e.line) es

-- what of a line the next one with the same parent has to follow
abbrev pub sibling_at : Option Step → Option Sibling
sibling_at None = None
sibling_at (Some s) = Some (record { name = s.name; in_array = s.in_array })

-- whether a member of this name may come behind the newest of its class, or is the first
abbrev pub is_behind : Option Step → Bytes → Bool
is_behind None name = true
is_behind (Some s) name = bytes_lt s.name name || bytes_eq s.name name

-- The newest line of each depth that is still open, from the outermost on. Of earlier lines, of which the newest is
-- first, they say for each depth of the next line: the path of its class, the newest member of that, and the place of
-- one more.
pub record Leads (before : List LocatedLine) (ss : List Step) : Type 0 where
  pub deep : deepest (lines_of before) ≤ suc (length ss)
  pub parent : (k : ℕ) → k ≤ length ss → parent_path before (suc k) ≡ way (take k ss)
  pub newest : (k : ℕ) → k ≤ length ss → last_sibling (suc k) (lines_of before) ≡ sibling_at (slice_get ss k)
  pub place : (k : ℕ) (name : Bytes) → k ≤ length ss → is_behind (slice_get ss k) name ≡ true →
      place_among before (suc k) name ≡ next_place (slice_get ss k) name

-- the steps lead to the newest of these lines
pub record Tracks (ls : List Line) (ss : List Step) : Type 0 where
  pub leads : Leads (located_back ls) ss
  pub counted : (k : ℕ) → IfSome (slice_get ss k) (λ s. s.place < length ls)

-- ---- the sieve

-- whether a line of this depth is below a class at which a gate refuses, if there is one at the depth given
abbrev pub is_beyond : Option ℕ → ℕ → Bool
is_beyond None d = false
is_beyond (Some k) d = nat_lt k d

-- the depth of a line if it is that of a class at which a gate refuses the reader, else none
abbrev pub shut_by : Bool → ℕ → Option ℕ
shut_by t d = if t then Some d else None

-- The next line may be as deep behind the kept lines as behind all. If the newest kept line is a refused class of this
-- depth, it may be one deeper than that.
abbrev pub DeepAs : Option ℕ → List Line → List Line → Type 0
DeepAs None before kept = deepest kept ≡ deepest before
DeepAs (Some k) before kept = deepest kept ≡ suc k

-- The lines in a class whose path is gone are dropped.
module _ (gone : Tokens → Bool) where
  -- whether a line stays: the path of the class that it is in isn't gone
  abbrev pub stays : LocatedLine → Bool
  stays e = not (gone e.parent)

  -- whether a line is that of a class whose path is gone, so that the lines below it are dropped
  abbrev pub is_shutting : LocatedLine → Bool
  is_shutting e = is_class e && gone e.path

  -- What is known of earlier lines, of which the newest is first, and of those that stay. If the newest of these is
  -- a class whose path is gone, its depth says whether the next line is below it. The lines that stay are an outline.
  pub record Reach (before : List LocatedLine) (o : Option ℕ) : Type 0 where
    pub beyond : (d : ℕ) → d ≤ deepest (lines_of before) → gone (parent_path before d) ≡ is_beyond o d
    pub deep : DeepAs o (lines_of before) (lines_of (filter stays before))
    pub siblings : (d : ℕ) → d ≤ deepest (lines_of before) → is_beyond o d ≡ false →
        last_sibling d (lines_of (filter stays before)) ≡ last_sibling d (lines_of before)
    pub count : counted (lines_of (filter stays before)) ≤ counted (lines_of before)
    pub outline : is_outline_back (lines_of (filter stays before)) ≡ true

-- The sieve holds the lines that matter, and knows the path of the newest of them and whether the next line is below a
-- refused class.
pub record Sifts (c : Case) (s : Standing) (ls : List Line) (v : Sieve) : Type 0 where
  pub lines : v.lines.items ≡ lines_that_matter c s ls
  pub reach : Reach (is_refused c s) (located_back ls) v.shut
  pub tracks : Tracks v.lines.items v.steps.items

-- ---- all that a pass knows

-- what a pass knows of its lines: their shape, their markings, and those that matter
pub record Knows (c : Case) (s : Standing) (ls : List Line) (shape : Shape) (marks : Marks) (v : Sieve) : Type 0 where
  pub shows : Shows shape (back ls)
  pub marked : marks_of marks ≡ with_marked_lines none_noted ls
  pub sifts : Sifts c s ls v
