use Rattle.std.proofs.Common.{arith}
use Rattle.ox_asof.proofs.Backing.{here_none, here_yes, here_no}
use Rattle.ox_asof.proofs.back.is_back.Goals as goal

pub returns-in-Some-clause-yes : goal.returns-in-Some-clause-yes
returns-in-Some-clause-yes g c =
    here_yes (g.V.View.index c.args.view.now).hashes c.blocks-blocks.result c.args.back c.in-Some.newest.now c.args.hash.now c.blocks-blocks.ensures (omega (arith, c.if-back-blocks.false)) c.in-Some.ensures
    c.eq.result c.eq.ensures

pub returns-in-Some-clause-no : goal.returns-in-Some-clause-no
returns-in-Some-clause-no g c =
    here_no (g.V.View.index c.args.view.now).hashes c.blocks-blocks.result c.args.back c.in-Some.newest.now c.args.hash.now c.blocks-blocks.ensures (omega (arith, c.if-back-blocks.false)) c.in-Some.ensures
    c.eq.result c.eq.ensures

pub returns-in-None-clause-no : goal.returns-in-None-clause-no
returns-in-None-clause-no g c =
    here_none (g.V.View.index c.args.view.now).hashes c.blocks-blocks.result c.args.back c.args.hash.now c.blocks-blocks.ensures (omega (arith, c.if-back-blocks.false)) c.in-None.ensures
