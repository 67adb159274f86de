use Rattle.std.proofs.Common.{◌∙◌, ℕ, Some, ap, arith, length, subst, sym}
use Rattle.ox_allocation.specs.Allocation.{Allocation}
use Rattle.ox_runestone.specs.Spelling.{StoneCanCome}
use Rattle.ox_ledger.specs.Tables.{runes_of}
use Rattle.ox_ledger.proofs.HolderLemmas.{on_ok}
use Rattle.ox_ledger.proofs.TurnSteps.{Found, can_burn_it, can_place_them, can_settle_brought, can_take, dealt_same, deciphered, hand_pool, hand_state, length-dealt, nothing_to_do, turned, turned_without}
use Rattle.ox_ledger.proofs.tables.Tables.turn.Goals as goal

pub turn_without_stone-requires-clause-burned : goal.turn_without_stone-requires-clause-burned
turn_without_stone-requires-clause-burned c =
    let at = c.args.at in
    (can_settle_brought at c.args.body.now c.args.spent.now (runes_of c.args.self.now) (sym (c.in_default.ensures.exact c.args.at.tx c.args.at.txid)) c.requires).burned

pub turn_without_stone-requires-clause-displaced : goal.turn_without_stone-requires-clause-displaced
turn_without_stone-requires-clause-displaced c =
    let at = c.args.at in
    (can_settle_brought at c.args.body.now c.args.spent.now (runes_of c.args.self.now) (sym (c.in_default.ensures.exact c.args.at.tx c.args.at.txid)) c.requires).displaced

pub returns-in_default-clause-ok : goal.returns-in_default-clause-ok
returns-in_default-clause-ok c =
    let at = c.args.at in
    on_ok c.turn_without_stone.result (λ is. is ∙ turned_without at c.args.body.now c.args.spent.now (runes_of c.args.self.now) (sym (c.in_default.ensures.exact c.args.at.tx c.args.at.txid))) c.turn_without_stone.ensures.ok

pub take_up-requires : goal.take_up-requires
take_up-requires c =
    let at = c.args.at in
    let state = runes_of c.args.self.now in
    let found : Found at c.args.body.now c.args.spent.now state (Some c.in_ok-artifact.artifact) c.mint_by-mint.result c.etching_by-etching.result (runes_of c.bring.new.self) c.in_ok-pool.pool = (record { artifact_is = deciphered c.in_ok-artifact.artifact c.in-Some.script.now c.in_ok-count.count c.as_slice-outputs.result.now at c.args.body.now c.in_ok-artifact.ensures.exact c.in_ok-count.ensures.count c.as_slice-outputs.ensures (c.in-Some.ensures.exact c.args.at.tx c.args.at.txid); mint_is = c.mint_by-mint.ensures; etching_is = c.etching_by-etching.ensures; mid_is = c.in_ok-pool.ensures.left; pool_is = c.in_ok-pool.ensures.pool }) in
    can_take at c.args.body.now c.args.spent.now state (Some c.in_ok-artifact.artifact) c.mint_by-mint.result c.etching_by-etching.result (runes_of c.bring.new.self) c.in_ok-pool.pool found
    c.requires.takes

pub returns-then-are_free-clause-ok : goal.returns-then-are_free-clause-ok
returns-then-are_free-clause-ok c =
    let at = c.args.at in
    let state = runes_of c.args.self.now in
    let found : Found at c.args.body.now c.args.spent.now state (Some c.in_ok-artifact.artifact) c.mint_by-mint.result c.etching_by-etching.result (runes_of c.bring.new.self) c.in_ok-pool.pool = (record { artifact_is = deciphered c.in_ok-artifact.artifact c.in-Some.script.now c.in_ok-count.count c.as_slice-outputs.result.now at c.args.body.now c.in_ok-artifact.ensures.exact c.in_ok-count.ensures.count c.as_slice-outputs.ensures (c.in-Some.ensures.exact c.args.at.tx c.args.at.txid); mint_is = c.mint_by-mint.ensures; etching_is = c.etching_by-etching.ensures; mid_is = c.in_ok-pool.ensures.left; pool_is = c.in_ok-pool.ensures.pool }) in
    let mid_is = hand_state at c.args.body.now c.args.spent.now state (Some c.in_ok-artifact.artifact) c.mint_by-mint.result c.etching_by-etching.result (runes_of c.bring.new.self) c.in_ok-pool.pool found
    (runes_of c.take_up.new.self) c.in_ok-take_up.ensures.runes in
    let pool_is = hand_pool at c.args.body.now c.args.spent.now state (Some c.in_ok-artifact.artifact) c.mint_by-mint.result c.etching_by-etching.result (runes_of c.bring.new.self) c.in_ok-pool.pool found
    c.take_up.new.pool c.in_ok-take_up.ensures.pool in
    nothing_to_do at c.args.body.now c.args.spent.now state (runes_of c.take_up.new.self) c.take_up.new.pool c.in_ok-count.count mid_is pool_is (sym c.is_empty.ensures ∙ c.if-is_empty.true) c.if-tx-ne0.true
    (c.in_ok-count.ensures.count ∙ ap length c.as_slice-outputs.ensures) (c.are_free.ensures.0 c.if-are_free.true)

pub deal-requires : goal.deal-requires
deal-requires c = subst (λ (n : ℕ). StoneCanCome n c.in_ok-artifact.artifact) c.in_ok-count.ensures.count c.in_ok-artifact.ensures.possible

pub give-requires-clause-count : goal.give-requires-clause-count
give-requires-clause-count c =
    let long = ap length c.in_ok-dealt.ensures.given ∙ length-dealt (Some c.in_ok-artifact.artifact) c.take_up.new.pool c.id_of-etched.result c.as_slice-outputs.result.now in
    omega (arith, long, c.in_ok-count.ensures.fits)

pub give-requires-clause-burned : goal.give-requires-clause-burned
give-requires-clause-burned c =
    let at = c.args.at in
    let state = runes_of c.args.self.now in
    let artifact = Some c.in_ok-artifact.artifact in
    let found : Found at c.args.body.now c.args.spent.now state artifact c.mint_by-mint.result c.etching_by-etching.result (runes_of c.bring.new.self) c.in_ok-pool.pool = (record { artifact_is = deciphered c.in_ok-artifact.artifact c.in-Some.script.now c.in_ok-count.count c.as_slice-outputs.result.now at c.args.body.now c.in_ok-artifact.ensures.exact c.in_ok-count.ensures.count c.as_slice-outputs.ensures (c.in-Some.ensures.exact c.args.at.tx c.args.at.txid); mint_is = c.mint_by-mint.ensures; etching_is = c.etching_by-etching.ensures; mid_is = c.in_ok-pool.ensures.left; pool_is = c.in_ok-pool.ensures.pool }) in
    let mid_is = hand_state at c.args.body.now c.args.spent.now state artifact c.mint_by-mint.result c.etching_by-etching.result (runes_of c.bring.new.self) c.in_ok-pool.pool found
    (runes_of c.take_up.new.self) c.in_ok-take_up.ensures.runes in
    let pool_is = hand_pool at c.args.body.now c.args.spent.now state artifact c.mint_by-mint.result c.etching_by-etching.result (runes_of c.bring.new.self) c.in_ok-pool.pool found
    c.take_up.new.pool c.in_ok-take_up.ensures.pool in
    let dealt_is = dealt_same at c.args.body.now c.args.spent.now state artifact c.mint_by-mint.result c.etching_by-etching.result (runes_of c.bring.new.self) c.in_ok-pool.pool found
    c.take_up.new.pool c.id_of-etched.result c.as_slice-outputs.result.now pool_is c.id_of-etched.ensures c.as_slice-outputs.ensures in
    let given_is = c.in_ok-dealt.ensures.given ∙ ap (λ (d : Allocation). d.given) dealt_is in
    let burned_is = c.in_ok-dealt.ensures.burned ∙ ap (λ (d : Allocation). d.burned) dealt_is in
    can_burn_it at c.args.body.now c.args.spent.now state (runes_of c.take_up.new.self) c.in_ok-dealt.dealt.burned mid_is burned_is c.requires.settles.burned

pub give-requires-clause-displaced : goal.give-requires-clause-displaced
give-requires-clause-displaced c = λ other.
    let at = c.args.at in
    let state = runes_of c.args.self.now in
    let artifact = Some c.in_ok-artifact.artifact in
    let found : Found at c.args.body.now c.args.spent.now state artifact c.mint_by-mint.result c.etching_by-etching.result (runes_of c.bring.new.self) c.in_ok-pool.pool = (record { artifact_is = deciphered c.in_ok-artifact.artifact c.in-Some.script.now c.in_ok-count.count c.as_slice-outputs.result.now at c.args.body.now c.in_ok-artifact.ensures.exact c.in_ok-count.ensures.count c.as_slice-outputs.ensures (c.in-Some.ensures.exact c.args.at.tx c.args.at.txid); mint_is = c.mint_by-mint.ensures; etching_is = c.etching_by-etching.ensures; mid_is = c.in_ok-pool.ensures.left; pool_is = c.in_ok-pool.ensures.pool }) in
    let mid_is = hand_state at c.args.body.now c.args.spent.now state artifact c.mint_by-mint.result c.etching_by-etching.result (runes_of c.bring.new.self) c.in_ok-pool.pool found
    (runes_of c.take_up.new.self) c.in_ok-take_up.ensures.runes in
    let pool_is = hand_pool at c.args.body.now c.args.spent.now state artifact c.mint_by-mint.result c.etching_by-etching.result (runes_of c.bring.new.self) c.in_ok-pool.pool found
    c.take_up.new.pool c.in_ok-take_up.ensures.pool in
    let dealt_is = dealt_same at c.args.body.now c.args.spent.now state artifact c.mint_by-mint.result c.etching_by-etching.result (runes_of c.bring.new.self) c.in_ok-pool.pool found
    c.take_up.new.pool c.id_of-etched.result c.as_slice-outputs.result.now pool_is c.id_of-etched.ensures c.as_slice-outputs.ensures in
    let given_is = c.in_ok-dealt.ensures.given ∙ ap (λ (d : Allocation). d.given) dealt_is in
    let burned_is = c.in_ok-dealt.ensures.burned ∙ ap (λ (d : Allocation). d.burned) dealt_is in
    can_place_them at c.args.body.now c.args.spent.now state (runes_of c.take_up.new.self) c.in_ok-dealt.dealt.given c.in_ok-dealt.dealt.burned mid_is given_is burned_is (c.requires.settles.displaced other)

pub returns-clause-ok : goal.returns-clause-ok
returns-clause-ok c =
    let at = c.args.at in
    let state = runes_of c.args.self.now in
    let artifact = Some c.in_ok-artifact.artifact in
    let found : Found at c.args.body.now c.args.spent.now state artifact c.mint_by-mint.result c.etching_by-etching.result (runes_of c.bring.new.self) c.in_ok-pool.pool = (record { artifact_is = deciphered c.in_ok-artifact.artifact c.in-Some.script.now c.in_ok-count.count c.as_slice-outputs.result.now at c.args.body.now c.in_ok-artifact.ensures.exact c.in_ok-count.ensures.count c.as_slice-outputs.ensures (c.in-Some.ensures.exact c.args.at.tx c.args.at.txid); mint_is = c.mint_by-mint.ensures; etching_is = c.etching_by-etching.ensures; mid_is = c.in_ok-pool.ensures.left; pool_is = c.in_ok-pool.ensures.pool }) in
    let mid_is = hand_state at c.args.body.now c.args.spent.now state artifact c.mint_by-mint.result c.etching_by-etching.result (runes_of c.bring.new.self) c.in_ok-pool.pool found
    (runes_of c.take_up.new.self) c.in_ok-take_up.ensures.runes in
    let pool_is = hand_pool at c.args.body.now c.args.spent.now state artifact c.mint_by-mint.result c.etching_by-etching.result (runes_of c.bring.new.self) c.in_ok-pool.pool found
    c.take_up.new.pool c.in_ok-take_up.ensures.pool in
    let dealt_is = dealt_same at c.args.body.now c.args.spent.now state artifact c.mint_by-mint.result c.etching_by-etching.result (runes_of c.bring.new.self) c.in_ok-pool.pool found
    c.take_up.new.pool c.id_of-etched.result c.as_slice-outputs.result.now pool_is c.id_of-etched.ensures c.as_slice-outputs.ensures in
    let given_is = c.in_ok-dealt.ensures.given ∙ ap (λ (d : Allocation). d.given) dealt_is in
    let burned_is = c.in_ok-dealt.ensures.burned ∙ ap (λ (d : Allocation). d.burned) dealt_is in
    on_ok c.give.result (λ is.
    turned at c.args.body.now c.args.spent.now state (runes_of c.take_up.new.self) (runes_of c.give.new.self) c.in_ok-dealt.dealt.given c.in_ok-dealt.dealt.burned mid_is given_is burned_is is) c.give.ensures.ok
