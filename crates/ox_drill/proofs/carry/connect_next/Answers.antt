use Rattle.std.proofs.lemmas.Result.{err_from_is_err_and}
use Rattle.ox_drill.proofs.Parts.{stops_none, stops_short}
use Rattle.ox_drill.proofs.carry.connect_next.Goals as goal

pub returns-in_err-bytes-clause-stops : goal.returns-in_err-bytes-clause-stops
returns-in_err-bytes-clause-stops g c =
    let p = err_from_is_err_and c.from_residual.result c.from_residual.ensures.1 in
    let site = c.args.site.now in
    stops_short g.S.Site c.args.store c.from_residual.result p.0 site site p.1 p.2 (stops_none g.S.Site g.met.S.Site.logs_now c.args.store site g.met.S.Site.only_now)
