use Rattle.std.proofs.Common.{◌∙◌, ◌≤◌, ◌++◌, ℕ, List, length, sym, ap, subst, arith}
use Rattle.std.specs.List.{AllByRecursion}
use Rattle.std.proofs.lemmas.List.Elements.{All-from_recursion}
use Rattle.ox_block.specs.declared.block.Tx.{Tx}
use Rattle.ox_block.specs.Spelling.{most_bytes}
use Rattle.ox_sat.specs.Heights.{first_at}
use Rattle.ox_transfer.specs.Apart.{Apart}
use Rattle.ox_transfer.specs.Counts.{Counted}
use Rattle.ox_transfer.specs.Parts.{spent_of}
use Rattle.ox_transfer.proofs.Once.{apart_first}
use Rattle.ox_transfer.proofs.Spends.{ids_split}
use Rattle.ox_transfer.proofs.Sizes.{all_counted, few_txs}
use Rattle.ox_transfer.proofs.Claims.{apart_all, first_few}
use Rattle.ox_transfer.proofs.moving.transfer_txs.Goals as goal

pub spend_txs-requires : goal.spend_txs-requires
spend_txs-requires g c =
    let begun = sym c.as_slice.ensures ∙ c.in-Some.ensures.cases.0 in
    let all = subst (AllByRecursion Counted) begun (all_counted c.args.block.now c.requires.lawful) in
    let few : length c.args.block.now.txs ≤ most_bytes = few_txs c.args.block.now c.requires.lawful in
    let longer = ap (λ (l : List Tx). length l) begun in record {
      ids = (ids_split c.in-Some-split_first.id.now c.in-Some-split_first.ids.now c.args.ids.now c.in-Some.coinbase.now c.in-Some.txs.now c.args.block.now.txs (sym c.as_slice-2.ensures ∙ c.in-Some-split_first.ensures.cases.0) begun c.requires.ids).1;
      few = omega (arith, few, longer);
      counted = All-from_recursion Counted c.in-Some.txs.now all.1;
      apart = apart_first _ _ (first_few c.args.p.now c.args.height c.requires.known) c.requires.once;
    }

pub claim_all-requires : goal.claim_all-requires
claim_all-requires g c =
    let begun = sym c.as_slice.ensures ∙ c.in-Some.ensures.cases.0 in
    let all = subst (AllByRecursion Counted) begun (all_counted c.args.block.now c.requires.lawful) in record {
      known = c.requires.known;
      id = (ids_split c.in-Some-split_first.id.now c.in-Some-split_first.ids.now c.args.ids.now c.in-Some.coinbase.now c.in-Some.txs.now c.args.block.now.txs (sym c.as_slice-2.ensures ∙ c.in-Some-split_first.ensures.cases.0) begun c.requires.ids).0;
      counted = all.0;
      apart = subst (λ (height : ℕ). Apart (first_at c.args.p.now height) (g.O.OutTable.contents c.spend_txs.new.table) (c.in_ok-so_far.so_far.lost ++ c.in_ok-so_far.so_far.fees)) (sym c.in_ok-so_far.ensures.height)
          (apart_all _ c.args.height c.in-Some.txs.now _ (spent_of c.in_ok-so_far.so_far (g.O.OutTable.contents c.spend_txs.new.table)) c.in_ok-so_far.ensures.spent c.requires.once);
    }
