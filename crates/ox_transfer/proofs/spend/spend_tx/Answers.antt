use Rattle.std.proofs.Common.{◌∙◌, ◌+◌, ◌<◌, ◌++◌, ◌∷◌, [], List, ℕ, length, sym, ap, subst, arith, ◌^◌}
use Rattle.std.specs.Prelude.{reverse}
use Rattle.std.proofs.lemmas.Result.{err_from_is_err_and}
use Rattle.ox_rules.proofs.Conservation.{times-append}
use Rattle.ox_transfer.specs.Parts.{spent_of}
use Rattle.ox_transfer.specs.declared.so_far.MovedSoFar.{MovedSoFar}
use Rattle.ox_transfer.proofs.Once.{apart_less}
use Rattle.ox_transfer.proofs.Spends.{untaken, too_much, spent_whole, apart_taken, apart_dealt, as_many, length-values, fits_behind, apart_spent}
use Rattle.ox_transfer.proofs.spend.spend_tx.Goals as goal

pub take_inputs-requires : goal.take_inputs-requires
take_inputs-requires g c = record {
  few = rw c.as_slice.ensures c.requires.counted.inputs;
  apart = apart_less (2 ^ 63) _ (c.args.so_far.now.lost ++ c.args.so_far.now.fees) [] (λ sat. omega arith) c.requires.apart;
}

pub returns-in_err-taken-clause-spent : goal.returns-in_err-taken-clause-spent
returns-in_err-taken-clause-spent g c =
    let p = err_from_is_err_and c.from_residual.result c.from_residual.ensures.1 in
    let refused = rw c.as_slice.ensures at c.in_err-taken.ensures.taken in
    rw (p.1, p.2) (untaken c.args.so_far.now.height c.args.place c.args.tx.now (g.O.OutTable.contents c.args.table.now) (spent_of c.args.so_far.now (g.O.OutTable.contents c.args.table.now)) c.in_err-taken.field-0.0 refused)

pub returns-then-held-total-clause-spent : goal.returns-then-held-total-clause-spent
returns-then-held-total-clause-spent g c =
    let took = rw c.as_slice.ensures at c.in_ok-taken.ensures.taken in
    let sum_is = rw c.as_slice-outputs.ensures at c.value_sum-total.ensures in
    too_much c.args.so_far.now.height c.args.place c.args.tx.now (g.O.OutTable.contents c.args.table.now) _ (spent_of c.args.so_far.now (g.O.OutTable.contents c.args.table.now)) c.in_ok-taken.taken.rows c.in_ok-taken.taken.sats _ _ took c.in_ok-taken.ensures.joined c.len-held.ensures sum_is c.if-held-total.true

pub place_outputs-requires : goal.place_outputs-requires
place_outputs-requires g c =
    let took = rw c.as_slice.ensures at c.in_ok-taken.ensures.taken in
    let hand : List ℕ = c.args.so_far.now.lost ++ c.args.so_far.now.fees in record {
      few = rw c.as_slice-outputs.ensures c.requires.counted.outputs;
      each = as_many c.in_ok-taken.taken.sats _ _ _ c.in_ok-rest.ensures ∙ length-values c.as_slice-outputs.result.now;
      apart = apart_dealt _ c.in_ok-taken.taken.sats _ hand c.args.so_far.now.lost _ _ c.in_ok-rest.ensures (λ sat. omega (arith, times-append sat c.args.so_far.now.lost c.args.so_far.now.fees))
          (apart_taken c.args.place c.args.tx.now (g.O.OutTable.contents c.args.table.now) _ c.in_ok-taken.taken.rows c.in_ok-taken.taken.sats hand took c.in_ok-taken.ensures.joined c.requires.apart);
    }

pub join-requires : goal.join-requires
join-requires g c =
    let took = rw c.as_slice.ensures at c.in_ok-taken.ensures.taken in
    let fees = ap (λ (s : MovedSoFar). s.fees) c.in_ok-displaced.ensures.others in
    subst (λ (l : List ℕ). length l + length c.in_ok-rest.rest < 2 ^ 64) (sym fees) (fits_behind _ c.in_ok-taken.taken.sats _ c.args.so_far.now.fees c.args.so_far.now.lost _ _ c.in_ok-rest.ensures
    (apart_taken c.args.place c.args.tx.now (g.O.OutTable.contents c.args.table.now) (g.O.OutTable.contents c.take_inputs.new.table) c.in_ok-taken.taken.rows c.in_ok-taken.taken.sats (c.args.so_far.now.lost ++ c.args.so_far.now.fees) took c.in_ok-taken.ensures.joined c.requires.apart))

pub returns-clause-spent : goal.returns-clause-spent
returns-clause-spent g c =
    let took = rw c.as_slice.ensures at c.in_ok-taken.ensures.taken in
    let dealt = rw c.as_slice-outputs.ensures at c.in_ok-rest.ensures in
    let placed = rw c.as_slice-outputs.ensures at c.in_ok-displaced.ensures.rows in
    let others = c.in_ok-displaced.ensures.others in
    spent_whole c.args.so_far.now.height c.args.place c.args.tx.now (g.O.OutTable.contents c.args.table.now) (g.O.OutTable.contents c.take_inputs.new.table) (g.O.OutTable.contents c.place_outputs.new.table) c.in_ok-taken.taken.rows c.in_ok-displaced.displaced.items c.in_ok-taken.taken.sats c.in_ok-joined.joined c.in_ok-rest.rest
    c.args.so_far.now.lost c.place_outputs.new.so_far.lost c.args.so_far.now.fees c.join.new.self (reverse c.deal_out.new.parts.items) c.args.so_far.now.moved.items c.push.new.self.items c.args.id
    took c.in_ok-taken.ensures.joined dealt c.requires.id placed c.in_ok-joined.ensures c.in_ok-displaced.ensures.lost (c.in_ok-join.ensures.ok ∙ ap (λ (s : MovedSoFar). s.fees ++ c.in_ok-rest.rest) others)
    (c.in_ok-push.ensures.items ∙ λ i. (others i).moved.items ++ record { txid = c.args.id; spent = c.in_ok-taken.taken.rows; joined = c.in_ok-joined.joined; displaced = c.from_vec.ensures i } ∷ [])

pub returns-clause-apart : goal.returns-clause-apart
returns-clause-apart g c = apart_spent c.args.so_far.now.height c.args.place c.args.tx.now (spent_of c.args.so_far.now (g.O.OutTable.contents c.args.table.now)) (spent_of (record c.place_outputs.new.so_far { moved = c.push.new.self; fees = c.join.new.self }) (g.O.OutTable.contents c.place_outputs.new.table)) (returns-clause-spent g c) c.requires.apart

pub returns-clause-height : goal.returns-clause-height
returns-clause-height g c = ap (λ (s : MovedSoFar). s.height) c.in_ok-displaced.ensures.others
