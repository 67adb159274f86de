use Rattle.std.proofs.Common.{◌++◌}
use Rattle.std.specs.Int.{w32, to_le_bytes}
use Rattle.ox_block.proofs.PiecesInTurn.{puts_then, puts_last}
use Rattle.ox_block.proofs.spelling.put_header.Goals as goal

pub returns : goal.returns
returns g c =
    let h = g.S.Sink.holds in
    let v = to_le_bytes w32 c.args.head.now.version in
    let p = c.args.head.now.previous in
    let r = c.args.head.now.root in
    let t = to_le_bytes w32 c.args.head.now.time in
    let b = to_le_bytes w32 c.args.head.now.bits in
    let n = to_le_bytes w32 c.args.head.now.nonce in
    let s0 = c.args.sink.now in
    let s1 = c.put_u32.new.sink in
    let s2 = c.put.new.self in
    let s3 = c.put-2.new.self in
    let s4 = c.put_u32-2.new.sink in
    let s5 = c.put_u32-3.new.sink in
    let s6 = c.put_u32-4.new.sink in
    let two = puts_then h v p s0 s1 s2 c.in_ok-put_u32.ensures c.in_ok-put.ensures in
    let three = puts_then h (v ++ p) r s0 s2 s3 two c.in_ok-put-2.ensures in
    let four = puts_then h (v ++ p ++ r) t s0 s3 s4 three c.in_ok-put_u32-2.ensures in
    let five = puts_then h (v ++ p ++ r ++ t) b s0 s4 s5 four c.in_ok-put_u32-3.ensures in
    puts_last h (v ++ p ++ r ++ t ++ b) n s0 s5 s6 c.put_u32-4.result five c.put_u32-4.ensures
