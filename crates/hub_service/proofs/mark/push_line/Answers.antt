use Rattle.{std.{proofs.Common.{◌≡◌, [], ◌∷◌, ◌++◌, sym, ◌∙◌, ap, append_assoc}, specs.Prelude.{None, string_bytes}}, json.specs.Print.quoted}
use Rattle.{iodef_tree.specs.Text.Bytes, marking.specs.Label.{marking_of, text_of, handling_of, name_of}}
use Rattle.hub_service.proofs.mark.push_line.Goals as goal

-- the cells one after another are the array as a whole
row-text : (out p l h s : Bytes) →
    ((((out ++ 91 ∷ p) ++ 44 ∷ l) ++ 44 ∷ h) ++ 44 ∷ s) ++ 93 ∷ 10 ∷ []
    ≡ out ++ ((91 ∷ (p ++ 44 ∷ (l ++ 44 ∷ (h ++ 44 ∷ (s ++ 93 ∷ []))))) ++ 10 ∷ [])
row-text out p l h s =
    let tail : Bytes = s ++ 93 ∷ 10 ∷ [] in
    let last : (s ++ 93 ∷ []) ++ 10 ∷ [] ≡ tail = append_assoc s (93 ∷ []) (10 ∷ []) in
    append_assoc (((out ++ 91 ∷ p) ++ 44 ∷ l) ++ 44 ∷ h) (44 ∷ s) (93 ∷ 10 ∷ [])
    ∙ append_assoc ((out ++ 91 ∷ p) ++ 44 ∷ l) (44 ∷ h) (44 ∷ tail)
    ∙ append_assoc (out ++ 91 ∷ p) (44 ∷ l) (44 ∷ (h ++ 44 ∷ tail))
    ∙ append_assoc out (91 ∷ p) (44 ∷ (l ++ 44 ∷ (h ++ 44 ∷ tail)))
    ∙ sym (ap (λ t. out ++ 91 ∷ t)
    (append_assoc p (44 ∷ (l ++ 44 ∷ (h ++ 44 ∷ (s ++ 93 ∷ [])))) (10 ∷ [])
    ∙ ap (λ t. p ++ 44 ∷ t) (append_assoc l (44 ∷ (h ++ 44 ∷ (s ++ 93 ∷ []))) (10 ∷ [])
    ∙ ap (λ t. l ++ 44 ∷ t) (append_assoc h (44 ∷ (s ++ 93 ∷ [])) (10 ∷ [])
    ∙ ap (λ t. h ++ 44 ∷ t) last))))

pub returns : goal.returns
returns c =
    let out = string_bytes c.args.out.now in
    let p = quoted c.args.mark.path.now in
    let m = marking_of c.args.mark.label in
    let l = quoted (text_of m) in
    let h = quoted (name_of (handling_of m None)) in
    let s = quoted c.args.mark.site.now in
    let one : string_bytes c.push_cell.new.out ≡ out ++ 91 ∷ p = c.in_ok-push_cell.ensures in
    let two : string_bytes c.push_label.new.out ≡ (out ++ 91 ∷ p) ++ 44 ∷ l = c.in_ok-push_label.ensures ∙ ap (λ (b : Bytes). b ++ 44 ∷ l) one in
    let name : c.name.result.now ≡ name_of (handling_of m None) = c.name.ensures ∙ ap name_of c.handling.ensures in
    let three : string_bytes c.push_cell-2.new.out ≡ ((out ++ 91 ∷ p) ++ 44 ∷ l) ++ 44 ∷ h =
    c.in_ok-push_cell-2.ensures ∙ ap (λ (n : Bytes). string_bytes c.push_label.new.out ++ 44 ∷ quoted n) name ∙ ap (λ (b : Bytes). b ++ 44 ∷ h) two in
    let four : string_bytes c.push_cell-3.new.out ≡ (((out ++ 91 ∷ p) ++ 44 ∷ l) ++ 44 ∷ h) ++ 44 ∷ s =
    c.in_ok-push_cell-3.ensures ∙ ap (λ (b : Bytes). b ++ 44 ∷ s) three in
    c.in_ok-push_str.ensures.bytes ∙ ap (λ (b : Bytes). b ++ 93 ∷ 10 ∷ []) four ∙ row-text out p l h s
