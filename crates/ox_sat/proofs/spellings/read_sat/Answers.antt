use Rattle.ox_sat.proofs.Epochs.{counts}
use Rattle.ox_sat.proofs.Numbers.{minted, if_some, ok_or_ok}
use Rattle.ox_sat.proofs.Found.{read_is}
use Rattle.ox_sat.proofs.spellings.read_sat.Goals as goal

pub returns-clause-value : goal.returns-clause-value
returns-clause-value c = read_is c.args.p.now c.args.text.now (counts c.args.p.now c.requires) c.spelled.result _ c.ok_or.result c.ok_or.ensures.value c.spelled.ensures.reads c.spelled.ensures.none

pub returns-clause-minted : goal.returns-clause-minted
returns-clause-minted c =
    ok_or_ok c.spelled.result _ c.ok_or.result _ c.ok_or.ensures.value
    (if_some c.spelled.result _ _ (λ sat h. minted c.args.p.now sat c.args.text.now (counts c.args.p.now c.requires) h) c.spelled.ensures.reads)
