-- Handlings by their bytes.
use Rattle.std.{proofs.Common.{◌≡◌, ℕ, List, [], ◌∷◌, map, refl, sym, ◌∙◌, ap, Option, Some, None, if◌then◌else◌, ◌==◌}, specs.List.flat_map}
use Rattle.{iodef_tree.specs.{Paths.{LocatedLine, located, class_paths}, Text.Tokens, declared.line.Line.Line}, marking.specs.Marks.{Marked, marked_at}}
use Rattle.marking.specs.{Marks.label_at, declared.label.Handling.{Handling, TheVariants.{Clear, Green, Amber, Strict, Red}}}
use Rattle.sketch.specs.Labels.{fixed_handling, code_of, handlings}

-- the handling of a byte
abbrev decoded : ℕ → Option Handling
decoded n =
    if n == 0 then Some Clear else if n == 1 then Some Green else if n == 2 then Some Amber else if n == 3 then Some Strict else if n == 4 then Some Red else None

decoded-code : (h : Option Handling) → decoded (code_of h) ≡ h
decoded-code None = refl
decoded-code (Some Clear) = refl
decoded-code (Some Green) = refl
decoded-code (Some Amber) = refl
decoded-code (Some Strict) = refl
decoded-code (Some Red) = refl

-- the byte that is written of a class
abbrev pub line_of : Marked → List ℕ
line_of m = code_of (fixed_handling m.label) ∷ []

-- handlings with the bytes of these classes are theirs
pub coded : (hs : List (Option Handling)) (ms : List Marked) → map code_of hs ≡ flat_map line_of ms → hs ≡ map (λ m. fixed_handling m.label) ms
coded [] [] is = refl
coded [] (m ∷ ms) is = cc
coded (h ∷ hs) [] is = cc
coded (h ∷ hs) (m ∷ ms) is =
    let first : code_of h ≡ code_of (fixed_handling m.label) = cc in
    let others : map code_of hs ≡ flat_map line_of ms = cc in
    let later = coded hs ms others in
    let here : h ≡ fixed_handling m.label = sym (decoded-code h) ∙ ap decoded first ∙ decoded-code (fixed_handling m.label) in cc

labels-marks : (es : List LocatedLine) (ps : List Tokens) → map (λ (m : Marked). fixed_handling m.label) (map (marked_at es) ps) ≡ map (λ p. fixed_handling (label_at es p)) ps
labels-marks es [] = refl
labels-marks es (p ∷ ps) = ap (λ hs. fixed_handling (label_at es p) ∷ hs) (labels-marks es ps)

-- handlings with the bytes of all classes of an outline are theirs
pub coded-all : (hs : List (Option Handling)) (ls : List Line) → map code_of hs ≡ (let es = located ls in flat_map line_of (map (marked_at es) (class_paths es))) → hs ≡ handlings ls
coded-all hs ls is = let es = located ls in coded hs (map (marked_at es) (class_paths es)) is ∙ labels-marks es (class_paths es)
