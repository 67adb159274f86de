use Rattle.std.proofs.Common.{◌≡◌, ◌∙◌, ◌∷◌, List, ℕ, ap, arith}
use Rattle.std.specs.Prelude.{reverse}
use Rattle.ox_range.specs.Numbers.{numbers_from}
use Rattle.ox_transfer.specs.Parts.{spent_of}
use Rattle.ox_transfer.proofs.Spends.{as_many, length-values, apart_dealt}
use Rattle.ox_transfer.proofs.Claims.{minted_few, apart_claimable, fees_fit, rest_fits, claimable_is, overclaimed, claimed_whole}
use Rattle.ox_transfer.proofs.moving.claim_all.Goals as goal

pub one-requires : goal.one-requires
one-requires g c = omega (arith, minted_few c.args.p.now c.args.so_far.height c.requires.known, c.first.ensures.value, c.subsidy.ensures.value)

-- the subsidy's satoshis
minted : (first count from many : ℕ) (sats : List ℕ) → sats ≡ numbers_from first count → first ≡ from → count ≡ many → sats ≡ numbers_from from many
minted first count from many sats is first_is count_is = is ∙ (ap (λ (n : ℕ). numbers_from n count) first_is ∙ ap (numbers_from from) count_is)

pub join-requires : goal.join-requires
join-requires g c =
    fees_fit c.args.p.now c.args.so_far.height (g.O.OutTable.contents c.args.table.now) c.args.so_far.lost c.args.so_far.fees c.in_ok-sats.sats c.requires.known
    (minted _ _ _ _ _ c.in_ok-sats.ensures c.first.ensures.value c.subsidy.ensures.value) c.requires.apart

pub returns-then-claimable-total-clause-claimed : goal.returns-then-claimable-total-clause-claimed
returns-then-claimable-total-clause-claimed g c =
    let sum_is = rw c.as_slice-outputs.ensures at c.value_sum-total.ensures in
    let new = minted _ _ _ _ c.in_ok-sats.sats c.in_ok-sats.ensures c.first.ensures.value c.subsidy.ensures.value in
    overclaimed c.args.p.now c.args.so_far.height c.args.coinbase.now (spent_of c.args.so_far (g.O.OutTable.contents c.args.table.now)) c.join.new.self _ _
    (claimable_is c.args.p.now c.args.so_far.height c.args.so_far.fees c.in_ok-sats.sats c.join.new.self new c.in_ok-join.ensures.ok) c.len-claimable.ensures sum_is c.if-claimable-total.true

pub place_outputs-requires : goal.place_outputs-requires
place_outputs-requires g c =
    let new = minted _ _ _ _ c.in_ok-sats.sats c.in_ok-sats.ensures c.first.ensures.value c.subsidy.ensures.value in record {
      few = rw c.as_slice-outputs.ensures c.requires.counted.outputs;
      each = as_many c.join.new.self _ _ _ c.in_ok-rest.ensures ∙ length-values c.as_slice-outputs.result.now;
      apart = apart_dealt _ c.join.new.self _ c.args.so_far.lost c.args.so_far.lost _ _ c.in_ok-rest.ensures (λ sat. omega arith)
          (apart_claimable c.args.p.now c.args.so_far.height (g.O.OutTable.contents c.args.table.now) c.args.so_far.lost c.args.so_far.fees c.in_ok-sats.sats c.join.new.self c.requires.known new c.in_ok-join.ensures.ok c.requires.apart);
    }

pub join-requires-2 : goal.join-requires-2
join-requires-2 g c =
    let new = minted _ _ _ _ c.in_ok-sats.sats c.in_ok-sats.ensures c.first.ensures.value c.subsidy.ensures.value in
    rest_fits c.args.so_far.height c.args.id c.as_slice-outputs.result.now (g.O.OutTable.contents c.args.table.now) _ c.join.new.self _ c.args.so_far.lost c.place_outputs.new.so_far.lost _ _ c.in_ok-rest.ensures c.in_ok-displaced.ensures.rows c.in_ok-displaced.ensures.lost
    (apart_claimable c.args.p.now c.args.so_far.height (g.O.OutTable.contents c.args.table.now) c.args.so_far.lost c.args.so_far.fees c.in_ok-sats.sats c.join.new.self c.requires.known new c.in_ok-join.ensures.ok c.requires.apart)

pub returns-clause-claimed : goal.returns-clause-claimed
returns-clause-claimed g c =
    let new = minted _ _ _ _ c.in_ok-sats.sats c.in_ok-sats.ensures c.first.ensures.value c.subsidy.ensures.value in
    let dealt = rw c.as_slice-outputs.ensures at c.in_ok-rest.ensures in
    let placed = rw c.as_slice-outputs.ensures at c.in_ok-displaced.ensures.rows in
    claimed_whole c.args.p.now c.args.so_far.height c.args.coinbase.now (g.O.OutTable.contents c.args.table.now) (g.O.OutTable.contents c.place_outputs.new.table) c.in_ok-displaced.displaced.items c.join.new.self c.in_ok-rest.rest
    c.args.so_far.lost c.place_outputs.new.so_far.lost c.join-2.new.self c.args.so_far.fees (reverse c.deal_out.new.parts.items) c.args.so_far.moved.items c.from_vec-2.result c.args.id c.new.result c.empty.result
    (claimable_is c.args.p.now c.args.so_far.height c.args.so_far.fees c.in_ok-sats.sats c.join.new.self new c.in_ok-join.ensures.ok) dealt c.requires.id placed c.in_ok-displaced.ensures.lost c.in_ok-join-2.ensures.ok
    c.new.ensures c.empty.ensures
    (c.from_vec-2.ensures ∙ (c.in_ok-insert.ensures.items ∙ λ i. record { txid = c.args.id; spent = c.new.result; joined = c.empty.result; displaced = c.from_vec.ensures i } ∷ (c.in_ok-displaced.ensures.others i).moved.items))
