use Rattle.std.proofs.Common.{◌∙◌, ap}
use Rattle.std.specs.Prelude.{Err}
use Rattle.std.proofs.lemmas.Result.{err_from_is_err_and}
use Rattle.ox_app.proofs.Carrying.{line_carried, line_ended, line_stopped, line_without_memory, ended_by}
use Rattle.ox_app.proofs.carry.carry_out.Goals as goal

pub returns-in_err-asked : goal.returns-in_err-asked
returns-in_err-asked g c =
    let p = err_from_is_err_and c.from_residual.result c.from_residual.ensures.1 in
    let taken = line_without_memory g.S.Site g.met.S.Site.only_now g.met.S.Site.logs_now c.args.site.now c.args.store c.requires.holds c.args.line c.from_residual.result (p.1 ∙ ap Err p.2) in
    record {
      carried = taken.carried;
      one_more = taken.one_more;
      holds = taken.holds;
      stands = taken.stands_for;
      any_moment = taken.any_moment;
      out_of_memory = taken.out_of_memory;
      stops = taken.stops;
      failed = taken.failed;
      counted = taken.counted;
      writes = taken.writes;
    }

pub returns-in_ok-carry_asked-in-Some : goal.returns-in_ok-carry_asked-in-Some
returns-in_ok-carry_asked-in-Some g c =
    let asks = rw c.in-Some.is at c.in_ok-asked.ensures in
    let carried = c.in_ok-carry_asked-in-Some in
    let taken = line_carried g.S.Site c.args.store c.args.line c.in-Some.asked asks carried.field-0 c.args.site.now c.carry_asked.new.site carried.ensures in
    record {
      carried = taken.carried;
      one_more = taken.one_more;
      holds = taken.holds;
      stands = taken.stands_for;
      any_moment = taken.any_moment;
      out_of_memory = taken.out_of_memory;
      stops = taken.stops;
      failed = taken.failed;
      counted = taken.counted;
      writes = taken.writes;
    }

pub returns-in_err-carry_asked-in-Some : goal.returns-in_err-carry_asked-in-Some
returns-in_err-carry_asked-in-Some g c =
    let asks = rw c.in-Some.is at c.in_ok-asked.ensures in
    let stopped = c.in_err-carry_asked-in-Some in
    let p = err_from_is_err_and c.from_residual-in_err-carry_asked-in-Some.result c.from_residual-in_err-carry_asked-in-Some.ensures.1 in
    let taken = line_stopped g.S.Site c.args.store c.args.line c.in-Some.asked asks stopped.field-0.0 c.from_residual-in_err-carry_asked-in-Some.result c.args.site.now c.carry_asked.new.site (p.1 ∙ ap Err p.2) stopped.ensures in
    record {
      carried = taken.carried;
      one_more = taken.one_more;
      holds = taken.holds;
      stands = taken.stands_for;
      any_moment = taken.any_moment;
      out_of_memory = taken.out_of_memory;
      stops = taken.stops;
      failed = taken.failed;
      counted = taken.counted;
      writes = taken.writes;
    }

pub returns-in-None : goal.returns-in-None
returns-in-None g c =
    let ended = rw c.in-None.is at c.in_ok-asked.ensures in
    let taken = line_ended g.S.Site g.met.S.Site.only_now g.met.S.Site.logs_now c.args.site.now c.args.store c.requires.holds c.args.line (ended_by c.args.line ended) in
    record {
      carried = taken.carried;
      one_more = taken.one_more;
      holds = taken.holds;
      stands = taken.stands_for;
      any_moment = taken.any_moment;
      out_of_memory = taken.out_of_memory;
      stops = taken.stops;
      failed = taken.failed;
      counted = taken.counted;
      writes = taken.writes;
    }
