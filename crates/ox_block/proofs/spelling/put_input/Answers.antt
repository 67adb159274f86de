use Rattle.std.proofs.Common.{◌++◌, subst}
use Rattle.std.specs.Int.{w32, to_le_bytes}
use Rattle.ox_bytes.specs.Spelling.{string}
use Rattle.ox_block.specs.Putting.{Puts}
use Rattle.ox_block.proofs.PiecesInTurn.{puts_then, puts_last}
use Rattle.ox_block.proofs.spelling.put_input.Goals as goal

pub returns : goal.returns
returns g c =
    let h = g.S.Sink.holds in
    let t = c.args.spent.now.from.txid.0 in
    let n = to_le_bytes w32 c.args.spent.now.from.index in
    let x = string c.args.spent.now.script in
    let l = to_le_bytes w32 c.args.spent.now.sequence in
    let s0 = c.args.sink.now in
    let s1 = c.put.new.self in
    let s2 = c.put_u32.new.sink in
    let s3 = c.put_string.new.sink in
    let s4 = c.put_u32-2.new.sink in
    let two = puts_then h t n s0 s1 s2 c.in_ok-put.ensures c.in_ok-put_u32.ensures in
    let three = puts_then h (t ++ n) x s0 s2 s3 two (subst (λ bytes. Puts h (string bytes) s2 s3) c.as_slice.ensures c.in_ok-put_string.ensures) in
    puts_last h (t ++ n ++ x) l s0 s3 s4 c.put_u32-2.result three c.put_u32-2.ensures
