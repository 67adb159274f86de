use Rattle.std.proofs.Common.{◌∙◌, ◌<◌, ◌^◌, List, length, ap, subst}
use Rattle.ox_range.specs.declared.runs.Run.{Run}
use Rattle.ox_rows.specs.Spelling.{list, run}
use Rattle.ox_checkpoint.proofs.LostLemmas.{runs_spelled}
use Rattle.ox_checkpoint.proofs.PutsLemmas.{has_more, puts_as, puts_rows, puts_then}
use Rattle.ox_checkpoint.proofs.put.lost.put_first.Goals as goal

pub returns-clause-put : goal.returns-clause-put
returns-clause-put g c =
    let holds = g.K.Sink.holds in
    let went = g.K.Sink.went in
    let then_went = g.met.K.Sink.then_went in
    let first = c.first_runs-part in
    let same = runs_spelled first.result.0.now first.result.1 c.count_of.result c.count_of.ensures ∙ ap (λ (runs : List Run). list run runs) first.ensures in
    let none = g.met.K.Sink.no_call c.args.sink.now c.args.world.now c.requires.taken.0 c.requires.taken.1 in
    let counted = puts_rows holds went _ c.args.sink.now c.args.world.now c.args.buffer.now.rows _ none c.in_ok-put_count.ensures.ok in
    let whole = puts_then holds went then_went _ _ counted c.in_ok-put_rows.ensures.put in
    let has = has_more holds went _ _ _ _ _ _ _ whole c.requires.taken in
    let last = puts_rows holds went _ c.put_rows.new.sink c.put_rows.new.world c.put_rows.new.buffer.rows _ (g.met.K.Sink.no_call c.put_rows.new.sink c.put_rows.new.world has.0 has.1) c.in_ok-put_part.ensures in
    puts_as holds went same (puts_then holds went then_went _ _ whole last)

pub returns-clause-fits : goal.returns-clause-fits
returns-clause-fits g c =
    let first = c.first_runs-part in
    let long = c.count_of.ensures ∙ ap (λ (runs : List Run). length runs) first.ensures in
    record { sats = c.requires.sats; runs = subst (λ n. n < 2 ^ 32) long c.in_ok-put_count.ensures.fits }
