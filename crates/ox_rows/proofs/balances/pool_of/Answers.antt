use Rattle.std.proofs.Common.{None, Some, sym, subst, ◌∙◌, arith}
use Rattle.std.proofs.lemmas.Result.{err_from_is_err_and}
use Rattle.ox_allocation.specs.Balances.{id_cmp}
use Rattle.ox_allocation.proofs.Ids.{ids_total}
use Rattle.ox_rows.specs.Reading.{falls, rising_at}
use Rattle.ox_rows.specs.RowReading.{amount_at, rune_id_at}
use Rattle.ox_rows.proofs.InOrder.{UpTo, amount_none, below_next, more_last, unless_passes, up_to_next}
use Rattle.ox_rows.proofs.Loops.{rising_goes_on, rising_ends_at_key, rising_ends_at_value, rising_is_done}
use Rattle.ox_rows.proofs.balances.pool_of.Goals as goal

pub returns-in_err-id : goal.returns-in_err-id
returns-in_err-id c =
    let p = err_from_is_err_and c.from_residual.result c.from_residual.ensures.1 in
    let total = rising_at id_cmp rune_id_at amount_at None c.args.count c.args.bytes.now in
    rw (p.1, p.2) (rising_ends_at_key id_cmp rune_id_at amount_at c.in_err-id.field-0.0 c.loop.pool c.args.count c.loop.counter c.loop.last c.loop.rest.now total c.loop-test.true c.in_err-id.ensures c.loop.invariant.all)

pub returns-in_err-amount : goal.returns-in_err-amount
returns-in_err-amount c =
    let p = err_from_is_err_and c.from_residual-in_err-amount.result c.from_residual-in_err-amount.ensures.1 in
    let total = rising_at id_cmp rune_id_at amount_at None c.args.count c.args.bytes.now in
    rw (p.1, p.2) (rising_ends_at_value id_cmp rune_id_at amount_at c.in_err-amount.field-0.0 c.loop.pool c.args.count c.loop.counter c.loop.last c.loop.rest.now c.in_ok-id.behind_id.now c.in_ok-id.id total c.loop-test.true c.in_ok-id.ensures c.in_err-amount.ensures.read c.loop.invariant.all)

pub add-requires : goal.add-requires
add-requires c =
    let rises = unless_passes (falls id_cmp c.loop.last) rune_id_at c.loop.rest.now (c.in_ok-id.id, c.in_ok-id.behind_id.now) c.in_ok-id.ensures in
    let below = below_next ids_total c.loop.last c.in_ok-id.id c.loop.pool c.loop.invariant.up_to rises in
    omega (arith, amount_none c.loop.pool c.in_ok-id.id below, c.in_ok-amount.ensures.fits)

pub loop-preserved : goal.loop-preserved
loop-preserved c =
    let total = rising_at id_cmp rune_id_at amount_at None c.args.count c.args.bytes.now in
    let id = c.in_ok-id.id in
    let rises = unless_passes (falls id_cmp c.loop.last) rune_id_at c.loop.rest.now (id, c.in_ok-id.behind_id.now) c.in_ok-id.ensures in
    let below = below_next ids_total c.loop.last id c.loop.pool c.loop.invariant.up_to rises in
    let same = c.in_ok-add.ensures.ok ∙ more_last c.loop.pool id c.in_ok-amount.amount below c.in_ok-amount.ensures.some in
    record {
      all = rw same (rising_goes_on id_cmp rune_id_at amount_at c.loop.pool c.args.count c.loop.counter c.loop.last c.loop.rest.now c.in_ok-id.behind_id.now c.in_ok-amount.after.now id c.in_ok-amount.amount total c.loop-test.true c.in_ok-id.ensures c.in_ok-amount.ensures.read c.loop.invariant.all);
      up_to = subst (UpTo id_cmp (Some id)) (sym same) (up_to_next ids_total id c.in_ok-amount.amount c.loop.pool below);
    }

pub returns : goal.returns
returns c =
    let total = rising_at id_cmp rune_id_at amount_at None c.args.count c.args.bytes.now in
    rising_is_done id_cmp rune_id_at amount_at c.loop.pool c.args.count c.loop.counter c.loop.last c.loop.rest.now total c.loop-test.false c.loop.invariant.all
