use Rattle.std.proofs.Common.{◌∙◌, ◌+◌, arith, ap, length}
use Rattle.std.proofs.lemmas.List.{nil_from_length}
use Rattle.ox_ledger.specs.Runes.{Placement, place_all, placements}
use Rattle.ox_ledger.specs.Tables.{runes_of}
use Rattle.ox_ledger.proofs.TablesLemmas.{can_first, can_next, placed_all, placed_next, placements_next, placements_none}
use Rattle.ox_ledger.proofs.tables.Tables.place_given.Goals.{After-next}
use Rattle.ox_ledger.proofs.tables.Tables.place_given.Goals as goal

pub place-requires : goal.place-requires
place-requires c =
    let items = c.loop-balances.balances-iterator.rest.items in
    let rest = c.next.new.self.rest.items in
    let id = c.args.id in
    let index = c.loop-balances.index in
    can_first (runes_of c.loop-balances.self) (placements id index items) (placements id (index + 1) rest) (record { txid = id; index = index }, c.in-Some.balances) c.loop-balances.invariant.can
    (placements_next id index items rest c.in-Some.balances c.in-Some.ensures.steps.0)

pub loop-balances-preserved : goal.loop-balances-preserved
loop-balances-preserved c =
    let items = c.loop-balances.balances-iterator.rest.items in
    let rest = c.next.new.self.rest.items in
    let id = c.args.id in
    let index = c.loop-balances.index in
    let one : Placement = (record { txid = id; index = index }, c.in-Some.balances) in
    let is = placements_next id index items rest c.in-Some.balances c.in-Some.ensures.steps.0 in
    record {
      whole = placed_next (runes_of c.loop-balances.self) (runes_of c.place.new.self) (place_all (runes_of c.args.self.now) (placements id 0 c.args.given)) (placements id index items) (placements id (index + 1) rest) one
          c.loop-balances.invariant.whole is c.in_ok-place.ensures.ok;
      can = can_next (runes_of c.loop-balances.self) (runes_of c.place.new.self) (placements id index items) (placements id (index + 1) rest) one c.loop-balances.invariant.can is c.in_ok-place.ensures.ok;
      count = let more = ap length c.in-Some.ensures.steps.0 in let count = c.loop-balances.invariant.count in omega (arith, more, count);
      mark = c.place.ensures.mark ∙ c.loop-balances.invariant.mark;
    }

pub returns-clause-ok : goal.returns-clause-ok
returns-clause-ok c =
    let items = c.loop-balances.balances-iterator.rest.items in
    placed_all (runes_of c.loop-balances.self) (place_all (runes_of c.args.self.now) (placements c.args.id 0 c.args.given)) (placements c.args.id c.loop-balances.index items) c.loop-balances.invariant.whole
    (placements_none c.args.id c.loop-balances.index items (nil_from_length items (omega (arith, c.in-None.ensures.steps.0, c.loop-balances.balances-iterator.rest.ok.0))))
