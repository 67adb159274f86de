use Rattle.std.proofs.Common.{arith, ap, length}
use Rattle.std.proofs.lemmas.List.{nil_from_length}
use Rattle.ox_ledger.specs.Runes.{placements}
use Rattle.ox_ledger.proofs.TablesLemmas.{placement_all, placement_next}
use Rattle.ox_ledger.proofs.tables.placements.Goals as goal

pub loop-balances-preserved : goal.loop-balances-preserved
loop-balances-preserved c =
    let items = c.loop-balances.balances-iterator.rest.items in
    let rest = c.next.new.self.rest.items in
    record {
      whole = placement_next c.args.id c.loop-balances.index c.loop-balances.new.items c.push.new.self.items (placements c.args.id 0 c.args.given) items rest c.in-Some.balances c.loop-balances.invariant.whole
          c.in-Some.ensures.steps.0 c.in_ok-push.ensures.items;
      count = let more = ap length c.in-Some.ensures.steps.0 in let count = c.loop-balances.invariant.count in omega (arith, more, count);
    }

pub returns : goal.returns
returns c =
    placement_all c.args.id c.loop-balances.index c.loop-balances.new.items (placements c.args.id 0 c.args.given) c.loop-balances.balances-iterator.rest.items c.loop-balances.invariant.whole
    (nil_from_length c.loop-balances.balances-iterator.rest.items (omega (arith, c.in-None.ensures.steps.0, c.loop-balances.balances-iterator.rest.ok.0)))
