use Rattle.{std.{proofs.{Common.{◌≡◌, List, ◌∙◌}, lemmas.{List.Filters.dedup_is, Result.IfOk-weaker}}, specs.List.dedup}, redact.proofs.InOrder.listed_in_order}
use Rattle.redact.{proofs.Listing.lists-dedup, specs.Withheld.{Withheld, same_withheld}}
use Rattle.redact.proofs.sorted_withheld.sorted_withheld.Goals as goal

pub returns : goal.returns
returns c =
    let xs : List Withheld = c.args.notes.items in
    let ys : List Withheld = c.sort.new.self.items in
    let zs : List Withheld = c.dedup.new.self.items in
    let once : zs ≡ dedup same_withheld ys = dedup_is same_withheld ys zs c.dedup.ensures.filtered in
    let listed = listed_in_order xs (dedup same_withheld ys) (lists-dedup xs ys c.in_ok-sort.ensures.permutation c.in_ok-sort.ensures.sorted) in
    IfOk-weaker c.pairs_of.result _ _ (λ v is. is ∙ once ∙ listed) c.pairs_of.ensures
