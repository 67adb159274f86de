use Rattle.std.proofs.Common.{◌++◌, subst, length}
use Rattle.std.specs.List.{flat_map}
use Rattle.std.specs.Prelude.{OnOk}
use Rattle.ox_bytes.specs.Spelling.{compact}
use Rattle.ox_block.specs.Spelling.{header, tx, spell}
use Rattle.ox_block.specs.Putting.{Puts}
use Rattle.ox_block.proofs.PiecesInTurn.{puts_last}
use Rattle.ox_block.proofs.spelling.put_block.Goals as goal

pub returns : goal.returns
unfolding spell
returns g c =
    let h = g.S.Sink.holds in
    let n = compact (length c.args.block.now.txs) in
    let r = flat_map tx c.args.block.now.txs in
    let s0 = c.args.sink.now in
    let s1 = c.put_header.new.sink in
    let s2 = c.put_size.new.sink in
    let s3 = c.put_tx_run.new.sink in
    puts_last h (header c.args.block.now.header) (n ++ r) s0 s1 s3 c.put_tx_run.result c.in_ok-put_header.ensures
    (puts_last h n r s1 s2 s3 c.put_tx_run.result (subst (λ k. Puts h (compact k) s1 s2) c.len.ensures c.in_ok-put_size.ensures)
    (subst (λ xs. OnOk c.put_tx_run.result (Puts h (flat_map tx xs) s2 s3)) c.as_slice.ensures c.put_tx_run.ensures))
