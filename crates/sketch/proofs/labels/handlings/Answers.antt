use Rattle.{std.{proofs.Common.{◌∙◌, ap, ◌++◌, map}, specs.List.flat_map}, iodef_tree.specs.Paths.{located, class_paths}, marking.specs.Marks.marked_at}
use Rattle.sketch.{proofs.Codes.{line_of, coded-all}, specs.Labels.code_of}
use Rattle.sketch.proofs.labels.handlings.Goals as goal

pub returns : goal.returns
returns c =
    let es = located c.args.document.now in
    coded-all c.write_marks.new.writer.found.items c.args.document.now
    (c.in_ok-write_marks.ensures ∙ ap (λ hs. map code_of hs ++ flat_map line_of (map (marked_at es) (class_paths es))) c.new.ensures.items)
