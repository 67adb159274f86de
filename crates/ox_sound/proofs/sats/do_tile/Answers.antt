use Rattle.std.proofs.Common.{◌∙◌, sym, arith}
use Rattle.ox_range.specs.declared.runs.Run.{Run}
use Rattle.ox_sound.proofs.OnceLemmas.{no_tile, tiles_end, tiles_on}
use Rattle.ox_sound.proofs.sats.do_tile.Goals as goal

pub returns-then-run-next : goal.returns-then-run-next
returns-then-run-next c =
    let d : Run = record { first = 0; count = 0 } in
    sym (no_tile c.loop-run.next c.args.runs.now c.loop-run.run-index d c.args.end c.loop-run-test.true c.if-run-next.true) ∙ c.loop-run.invariant

pub loop-run-preserved : goal.loop-run-preserved
loop-run-preserved c =
    let d : Run = record { first = 0; count = 0 } in
    sym (tiles_on c.loop-run.next c.args.runs.now c.loop-run.run-index d c.args.end c.loop-run-test.true c.if-run-next.false) ∙ c.loop-run.invariant

pub overflow_add-next : goal.overflow_add-next
overflow_add-next c =
    let run = c.requires c.loop-run.run-index (record { first = 0; count = 0 }) c.loop-run-test.true in
    omega (arith, run.fits, c.if-run-next.false)

pub returns : goal.returns
returns c = sym (tiles_end c.loop-run.next c.args.runs.now c.loop-run.run-index c.args.end c.loop-run-test.false) ∙ c.loop-run.invariant
