-- What is asked of the gates of a request depends only on their paths, and so do the edits.
use Rattle.std.{proofs.Common.{◌≡◌, ℕ, List, [], ◌∷◌, ◌++◌, Bool, ◌&&◌, map, Option, None, append_assoc, refl, ap, ◌∙◌}, specs.List.{list_all, flat_map}}
use Rattle.{iodef_tree.proofs.Inverse.pointer_tokens-pointer_text, policy.specs.declared.gate.Gate.Gate, hub_state.specs.Aftermath.{put_gate, put_gates}}
use Rattle.hub_state.specs.{Documents.{Lines, is_class_in, at_pointer, made_at}, declared.{edit.Edit.Edit, request.WantedGate.WantedGate}}
use Rattle.hub_core.specs.{Refusals.stand_at_classes, inner.Wanted.{asked_as, put_at}}

put_each : (n : ℕ) (gates : List Gate) → map (put_at n) gates ≡ flat_map (λ (g : WantedGate). made_at (put_gate n g.level g.group) g.path) (map asked_as gates)
put_each n [] = refl
put_each n (g ∷ gs) = rw (pointer_tokens-pointer_text g.path) (ap (λ (edits : List Edit). put_at n g ∷ edits) (put_each n gs))

stand_in : (doc : Lines) (gates : List Gate) → list_all (λ (g : Gate). is_class_in doc g.path) gates ≡ list_all (λ (g : WantedGate). at_pointer (is_class_in doc) g.path) (map asked_as gates)
stand_in doc [] = refl
stand_in doc (g ∷ gs) = rw (pointer_tokens-pointer_text g.path) (ap (λ b. is_class_in doc g.path && b) (stand_in doc gs))

stand_in_each : (gates : List Gate) (docs : List Lines) → list_all (λ (doc : Lines). list_all (λ (g : Gate). is_class_in doc g.path) gates) docs ≡ stand_at_classes (map asked_as gates) docs
stand_in_each gates [] = refl
stand_in_each gates (doc ∷ docs) = rw (stand_in doc gates) (ap (λ b. list_all (λ (g : WantedGate). at_pointer (is_class_in doc) g.path) (map asked_as gates) && b) (stand_in_each gates docs))

-- a test of the gates that are seen as these
pub stand_seen : (gates inner : List Gate) (wanted : List WantedGate) (docs : List Lines) (b : Bool) → gates ≡ inner → map asked_as inner ≡ wanted →
    b ≡ list_all (λ (doc : Lines). list_all (λ (g : Gate). is_class_in doc g.path) gates) docs → b ≡ stand_at_classes wanted docs
stand_seen gates inner wanted docs b same seen is = is ∙ stand_in_each gates docs ∙ ap (λ (ws : List WantedGate). stand_at_classes ws docs) (ap (map asked_as) same ∙ seen)

-- the edits of the gates that are seen as these, after the gate at the root
pub put_seen : (n level : ℕ) (group : Option ℕ) (gates inner : List Gate) (wanted : List WantedGate) (before rooted after : List Edit) → gates ≡ inner → map asked_as inner ≡ wanted →
    rooted ≡ before ++ put_gate n level group [] → after ≡ rooted ++ map (put_at n) gates → after ≡ before ++ put_gates n (record { community = None; level = level; group = group; gates = wanted })
put_seen n level group gates inner wanted before rooted after same seen root put =
    let root_gate : List Edit = put_gate n level group [] in
    put ∙ ap (λ (es : List Edit). es ++ map (put_at n) gates) root
    ∙ append_assoc before root_gate (map (put_at n) gates)
    ∙ ap (λ (es : List Edit). before ++ (root_gate ++ es)) (put_each n gates)
    ∙ ap (λ (ws : List WantedGate). before ++ put_gates n (record { community = None; level = level; group = group; gates = ws })) (ap (map asked_as) same ∙ seen)
