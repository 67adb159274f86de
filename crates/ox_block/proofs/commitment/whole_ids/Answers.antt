use Rattle.std.proofs.Common.{ℕ, List, [], get_or, sym, ap, ◌∙◌, arith}
use Rattle.std.proofs.lemmas.List.{get_or-map}
use Rattle.ox_block.specs.Hashes.{txid}
use Rattle.ox_block.proofs.Commitments.{ids_begin, ids_end, ids_go_on}
use Rattle.ox_block.proofs.commitment.whole_ids.Goals as goal

pub loop-place-preserved : goal.loop-place-preserved
loop-place-preserved c =
    rw c.in_ok-push-2.ensures.items (ids_go_on c.args.txs.now c.loop-place.place c.index-txs-place.result c.in_ok-whole_id.field-0 c.loop-place.whole.items (omega arith) (omega arith) c.index-txs-place.is c.in_ok-whole_id.ensures c.loop-place.invariant)

pub loop-place-init : goal.loop-place-init
loop-place-init c = rw c.in_ok-push.ensures.items (rw c.in_ok-whole.ensures.items (ids_begin c.args.txs.now c.requires.some))

pub whole_id-requires : goal.whole_id-requires
whole_id-requires c =
    ap (λ (ids : List (List ℕ)). get_or ids c.loop-place.place []) c.requires.ids ∙ (get_or-map txid c.args.txs.now c.loop-place.place c.index-txs-place.result [] c.loop-place-test.true ∙ ap txid (sym c.index-txs-place.is))

pub returns : goal.returns
returns c = ids_end c.args.txs.now c.loop-place.place c.loop-place.whole.items (omega arith) c.loop-place.invariant
