use Rattle.std.proofs.Common.{◌≡◌, ◌∙◌, ◌+◌, ◌<◌, ℕ, List, length, refl, sym, ap, ap₂, subst, arith, Option}
use Rattle.std.specs.Prelude.{unwrap_or}
use Rattle.std.proofs.lemmas.Result.{err_from_is_err_and, on_ok_weaker, on_err_weaker}
use Rattle.ox_block.specs.declared.block.Tx.{Tx}
use Rattle.ox_sat.specs.declared.profiles.Profile.{Profile}
use Rattle.ox_rules.specs.declared.moved.MovedTx.{MovedTx}
use Rattle.ox_transfer.proofs.Sizes.{few_txs}
use Rattle.ox_ledger.specs.Block.{turn_all, turn_at}
use Rattle.ox_ledger.specs.Ledger.{runes_in}
use Rattle.ox_ledger.specs.Runes.{Runes, end}
use Rattle.ox_ledger.specs.Tables.{nothing}
use Rattle.ox_ledger.specs.Turn.{IsFree}
use Rattle.ox_model.proofs.FreePlaces.{IsOpen, open_free, open_next}
use Rattle.ox_index.proofs.Turning.{open_at_first, turn_done, turn_more, turns_from}
use Rattle.ox_index.proofs.parts.move_runes.Goals as goal

pub loop-place-init : goal.loop-place-init
loop-place-init c = record {
  rest = refl;
  free = open_at_first c.args.ledger.now.profile c.args.height (runes_in c.args.ledger.now).runes c.requires.none;
  mark = refl;
  profile = refl;
}

pub overflow_cast-place : goal.overflow_cast-place
overflow_cast-place c = omega (arith, few_txs c.args.block.now c.requires.lawful, c.loop-place-test.true, c.min-place-end.ensures, ap (λ (l : List Tx). length l) c.as_slice-txs.ensures)

pub turn-requires : goal.turn-requires
turn-requires c =
    let was = c.loop-place.ledger in
    let did = c.index-all-place.result in
    let now = c.expect_from.new.ledger in
    let same = c.expect_from.ensures.profile ∙ c.loop-place.invariant.profile in
    subst (λ (r : Runes). IsFree (record { profile = now.profile; height = c.args.height; tx = c.loop-place.place; txid = did.txid }) r.runes) (sym c.expect_from.ensures.runes)
    (subst (λ (p : Profile). IsFree (record { profile = p; height = c.args.height; tx = c.loop-place.place; txid = did.txid }) (runes_in was).runes) (sym same)
    (open_free c.args.ledger.now.profile c.args.height c.loop-place.place did.txid (runes_in was).runes c.loop-place.invariant.free))

pub loop-place-preserved : goal.loop-place-preserved
loop-place-preserved c =
    let p = c.args.ledger.now.profile in
    let height = c.args.height in
    let place : ℕ = c.loop-place.place in
    let txs = c.as_slice-txs.result.now in
    let all = c.as_slice-all.result.now in
    let tx = c.index-txs-place.result in
    let did = c.index-all-place.result in
    let state = runes_in c.loop-place.ledger in
    let next : runes_in c.turn.new.self ≡ turn_at p height place tx did state =
    c.in_ok-turn.ensures.ok
    ∙ ap₂ (λ (q : Profile) (r : Runes). turn_at q height place tx did r) (c.expect_from.ensures.profile ∙ c.loop-place.invariant.profile) c.expect_from.ensures.runes in
    let more : place < length txs = omega (arith, c.loop-place-test.true, c.min-place-end.ensures) in
    let less : place < length all = omega (arith, c.loop-place-test.true, c.min-place-end.ensures) in record {
      rest =
          c.loop-place.invariant.rest
          ∙ turn_more p height place txs all tx did state more less c.index-txs-place.is c.index-all-place.is
          ∙ ap (turns_from p height (place + 1) txs all) (sym next);
      free = subst (λ (r : Runes). IsOpen p height (place + 1) r.runes) (sym next) (open_next p height place tx did state c.loop-place.invariant.free);
      mark = c.turn.ensures.mark ∙ c.expect_from.ensures.mark ∙ c.loop-place.invariant.mark;
      profile = c.turn.ensures.profile ∙ c.expect_from.ensures.profile ∙ c.loop-place.invariant.profile;
    }

pub returns-in_err-turn-clause-err : goal.returns-in_err-turn-clause-err
returns-in_err-turn-clause-err c =
    let p = err_from_is_err_and c.from_residual.result c.from_residual.ensures.1 in
    rw p.1 (c.in_err-turn.ensures.err ∙ ap (λ (m : Option Runes). unwrap_or m nothing) (c.expect_from.ensures.mark ∙ c.loop-place.invariant.mark))

pub returns-clause-ok : goal.returns-clause-ok
returns-clause-ok c =
    let p = c.args.ledger.now.profile in
    let height = c.args.height in
    let txs = c.as_slice-txs.result.now in
    let all = c.as_slice-all.result.now in
    let state = runes_in c.loop-place.ledger in
    let done : turns_from p height c.loop-place.place txs all state ≡ state =
    turn_done p height c.loop-place.place txs all state (omega (arith, c.loop-place-test.false, c.min-place-end.ensures)) in
    let whole : state ≡ turn_all p height 0 c.args.block.now.txs c.args.moved.now.txs (runes_in c.args.ledger.now) =
    sym (c.loop-place.invariant.rest ∙ done)
    ∙ ap₂ (λ (ts : List Tx) (ms : List MovedTx). turn_all p height 0 ts ms (runes_in c.args.ledger.now)) c.as_slice-txs.ensures c.as_slice-all.ensures in
    on_ok_weaker c.end.result (λ is. is ∙ ap (λ (r : Runes). end r) whole) c.end.ensures.ok

pub returns-clause-err : goal.returns-clause-err
returns-clause-err c =
    on_err_weaker c.end.result (λ is. is ∙ ap (λ (m : Option Runes). unwrap_or m nothing) c.loop-place.invariant.mark) c.end.ensures.err
