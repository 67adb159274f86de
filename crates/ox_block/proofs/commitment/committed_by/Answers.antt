use Rattle.std.proofs.Common.{◌∙◌, sym, ap, get_or, Some, None, option_copied}
use Rattle.std.specs.Prelude.{bytes_eq}
use Rattle.std.specs.List.{last_or, list_any}
use Rattle.ox_block.specs.Hashes.{root_of, witness_ids}
use Rattle.ox_block.specs.Commitment.{commitments_in, reserved_in}
use Rattle.ox_block.specs.declared.block.Tx.{Tx}
use Rattle.ox_block.proofs.Commitments.{by_marks, by_hash, root_is}
use Rattle.ox_block.proofs.commitment.committed_by.Goals as goal

pub returns-in_default : goal.returns-in_default
returns-in_default c =
    let coinbase = c.index-txs-0.result in
    let txs = c.as_slice-txs.ensures in
    by_marks c.args.block.now coinbase c.has_marked.result c.requires.some (c.index-txs-0.is ∙ ap (λ all. get_or all 0 coinbase) txs)
    (sym (ap option_copied c.in_default.is) ∙ c.last_commitment.ensures.last ∙ ap (λ outputs. last_or None (commitments_in outputs)) c.as_slice.ensures)
    (c.has_marked.ensures ∙ ap (list_any (λ (tx : Tx). tx.marked)) txs)

pub returns : goal.returns
returns c =
    let coinbase = c.index-txs-0.result in
    let txs = c.as_slice-txs.ensures in
    let script = c.in-Some.script.now in
    let root = c.in_ok-root.root in
    let value = c.in-Some-reserved_value.reserved in
    c.holds_hash.ensures ∙ ap (bytes_eq _) c.hash_pair.ensures
    ∙ by_hash c.args.block.now coinbase script root (Some value) c.requires.some (c.index-txs-0.is ∙ ap (λ all. get_or all 0 coinbase) txs)
    (sym (ap option_copied c.in-Some.is) ∙ c.last_commitment.ensures.last ∙ ap (λ outputs. last_or None (commitments_in outputs)) c.as_slice.ensures)
    (sym c.in-Some-reserved_value.is ∙ c.reserved_value.ensures ∙ ap reserved_in c.as_slice-2.ensures)
    (root_is c.args.block.now c.in_ok-whole.whole.items root (c.in_ok-whole.ensures ∙ ap witness_ids txs) (c.in_ok-root.ensures ∙ ap root_of c.deref.ensures.value))
