use Rattle.{std.proofs.{Common.refl, lemmas.Result.IfOk-weaker}, iodef_tree.proofs.{Spines.{has-class, has-plain}, Views.{body-Text, body-Value}}}
use Rattle.iodef_tree.specs.{Tree.{text, value}, View.body, declared.object.Item.TheVariants.{Text, Value}}
use Rattle.iodef_tree.proofs.builder.Spine.with_line.Goals as goal

pub returns-in-Class : goal.returns-in-Class
returns-in-Class c = IfOk-weaker c.open.result _ _ (λ u e. has-class c.args.self c.in_ok-spine.spine u c.args.line c.requires.fits c.in-Class.is c.in_ok-spine.ensures e) c.open.ensures

pub returns-in-Text : goal.returns-in-Text
returns-in-Text c =
    let l = c.args.line in
    IfOk-weaker c.put.result _ _ (λ u e. has-plain c.args.self c.in_ok-spine.spine u l (text l.text) (body (Text l.text)) c.requires.fits c.in-Text.is refl (body-Text l.text) c.in_ok-spine.ensures e) c.put.ensures

pub returns-in-Value : goal.returns-in-Value
returns-in-Value c =
    let l = c.args.line in
    IfOk-weaker c.put-in-Value.result _ _ (λ u e. has-plain c.args.self c.in_ok-spine.spine u l (value l.text) (body (Value l.text)) c.requires.fits c.in-Value.is refl (body-Value l.text) c.in_ok-spine.ensures e) c.put-in-Value.ensures
