use Rattle.std.proofs.Common.{◌∙◌, sym}
use Rattle.ox_gated.proofs.LayoutLaws.{body_summed}
use Rattle.ox_gated.proofs.head.is_body.Goals as goal

pub returns : goal.returns
returns c = body_summed c.args.head.now.version (sym c.is_summed.ensures ∙ c.if-not-is_summed.false) c.args.front.now c.args.body.now c.digest.result c.is_sum_of_body.result c.is_sum_of_body.ensures c.digest.ensures
