use Rattle.std.specs.List.{filter_map}
use Rattle.ox_replies.specs.Runes.{balance_among}
use Rattle.ox_query.proofs.Arrays.{bracketed}
use Rattle.ox_query.proofs.Filtered.{all, one_more}
use Rattle.ox_query.proofs.RuneLists.{no_amount}
use Rattle.ox_query.proofs.balances.write_balances.Goals as goal

pub loop-balance-init : goal.loop-balance-init
loop-balance-init g c = c.begin_array.ensures

pub loop-balance-preserved : goal.loop-balance-preserved
loop-balance-preserved g c =
    one_more (balance_among (g.V.View.index c.args.live.now).runes) c.args.balances.now c.loop-balance.balance-index no_amount
    c.loop-balance-test.true c.loop-balance.invariant c.write_balance.ensures

pub returns : goal.returns
returns g c =
    let told = balance_among (g.V.View.index c.args.live.now).runes in
    let these = c.args.balances.now in
    bracketed (filter_map told these) (all told these c.loop-balance.balance-index c.loop-balance-test.false c.loop-balance.invariant) c.end_array.ensures
