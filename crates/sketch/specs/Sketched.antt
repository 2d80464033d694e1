-- What a sketch says of a document.
use Rattle.std.specs.Prelude.{◌≡◌, ◌≤◌, ◌<◌, ℕ, ◌*◌, ◌^◌, List, length, map, true, Option, Some, None, is_some}
use Rattle.std.specs.List.{flat_map, sum_by}
use Rattle.iodef_tree.specs.Paths.{located}
use Rattle.iodef_tree.specs.declared.line.Line.{Line}
use Rattle.marking.specs.Marks.{first_bad_marking}
use Rattle.sketch.specs.Bits.{AreBitsOf}
use Rattle.sketch.specs.Holdings.{HeldText, holdings}
use Rattle.sketch.specs.Labels.{has_some_class, has_default, least_handling}
use Rattle.sketch.specs.Runs.{runs, base_of, number_of}
use Rattle.sketch.specs.declared.sketch.Summary.{Summary}
use Rattle.sketch.specs.declared.sketch.Sketch.{Sketch}

-- the numbers of the three-byte runs of these texts
abbrev pub runs_in : List HeldText → List ℕ
runs_in hs = flat_map (λ h. runs 0 h.text) hs

-- the same, each in the range of the handling of the class that holds the text
abbrev pub handled_runs_in : List HeldText → List ℕ
handled_runs_in hs = flat_map (λ h. runs (base_of h.handling) h.text) hs

-- the numbers of the names of the classes that hold these texts
abbrev pub names_in : List HeldText → List ℕ
names_in hs = map (λ h. number_of h.class) hs

-- how many bytes these texts have
abbrev pub text_bytes : List HeldText → ℕ
text_bytes hs = sum_by (λ h. length h.text) hs

-- The size of a set for the runs of texts of so many bytes: a power of two from 64 to 65,536. It is a quarter of the
-- texts' bytes or more unless it is the greatest, and less than half of them unless it is the least.
pub record IsSizeFor (bytes size : ℕ) : Type 0 where
  pub exponent : ℕ
  pub power : size ≡ 2 ^ exponent
  pub least : 6 ≤ exponent
  pub most : exponent ≤ 16
  pub enough : exponent < 16 → bytes ≤ 4 * size
  pub no_more : 6 < exponent → 2 * size < bytes

-- What is kept of a document whose markings are accepted: whether it has a class; whether the label in force at some
-- class is `default`; the least handling at the others; a bit for each run of the texts that classes directly hold, and
-- one for the run with the handling of the class; and a bit for the name of each class that directly holds a text.
pub record Summarises (k : Summary) (ls : List Line) : Type 0 where
  pub marked : first_bad_marking (located ls) ≡ None
  pub class : k.classes ≡ has_some_class ls
  pub arranged : k.arranged ≡ has_default ls
  pub least : k.least ≡ least_handling ls
  pub size : IsSizeFor (text_bytes (holdings ls)) (length k.run_bits)
  pub run : AreBitsOf k.run_bits (runs_in (holdings ls))
  pub handled_size : IsSizeFor (text_bytes (holdings ls)) (length k.handled_bits)
  pub handled : AreBitsOf k.handled_bits (handled_runs_in (holdings ls))
  pub names : length k.name_bits ≡ 32
  pub name : AreBitsOf k.name_bits (names_in (holdings ls))

-- what is kept of a document; nothing exactly if its markings aren't accepted
abbrev pub IsKeptOf : Option Summary → List Line → Type 0
IsKeptOf None ls = is_some (first_bad_marking (located ls)) ≡ true
IsKeptOf (Some k) ls = Summarises k ls

-- the sketch is that of the document with these lines
abbrev pub IsSketchOf : Sketch → List Line → Type 0
IsSketchOf s ls = IsKeptOf s.summary ls
