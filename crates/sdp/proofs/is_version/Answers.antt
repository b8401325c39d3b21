use Rattle.std.proofs.Common.{◌∙◌, ap}
use Rattle.base.specs.Lists.{same}
use Rattle.sdp.proofs.SdpLaws.{equal_same}
use Rattle.sdp.proofs.is_version.Goals as goal

pub returns : goal.returns
returns c = c.eq.ensures ∙ equal_same c.args.l.now c.as_slice.result.now ∙ ap (same c.args.l.now) c.as_slice.ensures
