use Rattle.std.proofs.Common.{◌∙◌, sym}
use Rattle.ox_etching.proofs.Tapscripts.{tapscript_at}
use Rattle.ox_etching.proofs.commitment.tapscript_of.Goals as goal

pub returns : goal.returns
returns c =
    c.get.ensures
    ∙ tapscript_at c.args.witness.now c.in_ok-last.last.now c.in_ok-place.place c.in_ok-last.ensures (λ before long. c.in_ok-place.ensures.script before (long ∙ sym c.len.ensures))
