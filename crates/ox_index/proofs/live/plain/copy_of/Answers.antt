use Rattle.std.proofs.Common.{slice_index_or}
use Rattle.std.proofs.lemmas.Option.{slice_get-get_or}
use Rattle.ox_index.proofs.Filling.{one_fits, one_put}
use Rattle.ox_index.proofs.live.plain.copy_of.Goals as goal

pub add-requires : goal.add-requires
add-requires c =
    let one = slice_index_or c.args.held.now c.loop-id.id-index (record { block = 0; tx = 0 }, 0) in
    one_fits c.args.held.now c.loop-id.pool c.loop-id.id-index one c.requires c.loop-id.invariant
    (slice_get-get_or c.args.held.now c.loop-id.id-index (record { block = 0; tx = 0 }, 0) c.loop-id-test.true)

pub loop-id-preserved : goal.loop-id-preserved
loop-id-preserved c =
    let one = slice_index_or c.args.held.now c.loop-id.id-index (record { block = 0; tx = 0 }, 0) in
    one_put c.args.held.now c.loop-id.pool c.loop-id.id-index one c.requires c.loop-id.invariant
    (slice_get-get_or c.args.held.now c.loop-id.id-index (record { block = 0; tx = 0 }, 0) c.loop-id-test.true) c.add.new.self c.in_ok-add.ensures.ok
