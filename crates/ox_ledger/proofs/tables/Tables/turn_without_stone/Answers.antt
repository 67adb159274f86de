use Rattle.std.proofs.Common.{◌∙◌, ap, arith, length, sym, None}
use Rattle.ox_ledger.specs.Tables.{runes_of}
use Rattle.ox_ledger.proofs.HolderLemmas.{on_ok}
use Rattle.ox_ledger.proofs.TurnSteps.{brought_given, can_burn_brought, can_place_brought, length-dealt, nothing_brought}
use Rattle.ox_ledger.proofs.tables.Tables.turn_without_stone.Goals as goal

pub returns-then-are_free-clause-ok : goal.returns-then-are_free-clause-ok
returns-then-are_free-clause-ok c =
    nothing_brought c.args.tx c.args.id c.args.body.now (runes_of c.args.self.now) (runes_of c.bring.new.self) c.in_ok-pool.pool c.in_ok-pool.ensures.left c.in_ok-pool.ensures.pool c.in_ok-count.count
    (sym c.is_empty.ensures ∙ c.if-is_empty.true) c.if-tx-ne0.true (c.in_ok-count.ensures.count ∙ ap length c.as_slice-outputs.ensures) (c.are_free.ensures.0 c.if-are_free.true)

pub give-requires-clause-count : goal.give-requires-clause-count
give-requires-clause-count c =
    let long = ap length c.in_ok-dealt.ensures.given ∙ length-dealt None c.in_ok-pool.pool None c.as_slice-outputs.result.now in
    omega (arith, long, c.in_ok-count.ensures.fits)

pub give-requires-clause-burned : goal.give-requires-clause-burned
give-requires-clause-burned c =
    can_burn_brought c.args.tx c.args.id c.args.body.now (runes_of c.args.self.now) (runes_of c.bring.new.self) c.in_ok-pool.pool c.in_ok-pool.ensures.left c.in_ok-pool.ensures.pool
    c.as_slice-outputs.result.now c.in_ok-dealt.dealt.given c.in_ok-dealt.dealt.burned c.as_slice-outputs.ensures c.in_ok-dealt.ensures.given c.in_ok-dealt.ensures.burned c.requires.burned

pub give-requires-clause-displaced : goal.give-requires-clause-displaced
give-requires-clause-displaced c = λ other.
    can_place_brought c.args.tx c.args.id c.args.body.now (runes_of c.args.self.now) (runes_of c.bring.new.self) c.in_ok-pool.pool c.in_ok-pool.ensures.left c.in_ok-pool.ensures.pool
    c.as_slice-outputs.result.now c.in_ok-dealt.dealt.given c.in_ok-dealt.dealt.burned c.as_slice-outputs.ensures c.in_ok-dealt.ensures.given c.in_ok-dealt.ensures.burned (c.requires.displaced other)

pub returns-clause-ok : goal.returns-clause-ok
returns-clause-ok c = on_ok c.give.result (λ is.
    brought_given c.args.tx c.args.id c.args.body.now (runes_of c.args.self.now) (runes_of c.bring.new.self) c.in_ok-pool.pool c.in_ok-pool.ensures.left c.in_ok-pool.ensures.pool
    c.as_slice-outputs.result.now c.in_ok-dealt.dealt.given c.in_ok-dealt.dealt.burned c.as_slice-outputs.ensures c.in_ok-dealt.ensures.given c.in_ok-dealt.ensures.burned (runes_of c.give.new.self) is) c.give.ensures.ok
