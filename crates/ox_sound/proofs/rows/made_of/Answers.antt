use Rattle.std.proofs.Common.{◌*◌, ◌+◌, ◌<◌, ◌^◌, arith}
use Rattle.ox_sound.proofs.HeldLemmas.{made_fits}
use Rattle.ox_sound.proofs.rows.made_of.Goals as goal

pub overflow_mul-result : goal.overflow_mul-result
overflow_mul-result c =
    let fits : c.args.row.now.premine + c.args.row.now.mints * c.amount_of.result < 2 ^ 128 = made_fits c.args.row.now c.amount_of.result c.requires c.amount_of.ensures in
    omega (arith, fits)

pub overflow_add-result : goal.overflow_add-result
overflow_add-result c =
    let fits : c.args.row.now.premine + c.args.row.now.mints * c.amount_of.result < 2 ^ 128 = made_fits c.args.row.now c.amount_of.result c.requires c.amount_of.ensures in
    omega (arith, fits)
