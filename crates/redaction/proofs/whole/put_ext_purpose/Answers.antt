use Rattle.{std.proofs.Common.{◌≡◌, IfOk, subst, codes}, redaction.specs.Whole.{put_missing, put_ext_purpose}}
use Rattle.redaction.proofs.whole.put_ext_purpose.Goals as goal

pub returns : goal.returns
unfolding put_ext_purpose
returns c =
    subst (λ g. IfOk c.put_missing.result (λ v. v.items ≡ put_missing 2 (codes "ext-purpose") g c.args.lines.items)) c.in_ok-group.ensures c.put_missing.ensures
