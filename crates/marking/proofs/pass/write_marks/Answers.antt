use Rattle.{std.{proofs.Common.{◌≡◌, ◌++◌, ◌∙◌, ap, subst}, specs.{List.flat_map, Prelude.{List, map, OnOk}}}, iodef_tree.specs.Paths.{located, class_paths}}
use Rattle.{iodef_tree.specs.View.forest, marking.{proofs.Marked.marked-all, specs.Marks.{Marked, marked_at}}}
use Rattle.marking.proofs.pass.write_marks.Goals as goal

pub returns : goal.returns
returns g c =
    let line = g.W.MarkWriter.line in
    let new = g.W.MarkWriter.text c.write_members.new.writer in
    let old = g.W.MarkWriter.text c.args.writer.now in
    let P : List Marked → Type 0 = λ ms. OnOk c.write_members.result (new ≡ old ++ flat_map line ms) in
    subst P
    (marked-all (forest c.root.result.now) c.root.ensures.sound
    ∙ ap (λ ls. let es = located ls in map (marked_at es) (class_paths es)) c.root.ensures.lines)
    c.write_members.ensures
