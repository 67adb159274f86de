use Rattle.std.proofs.Common.{◌++◌, subst}
use Rattle.std.specs.Int.{w32, to_le_bytes}
use Rattle.ox_block.specs.Spelling.{inputs, outputs}
use Rattle.ox_block.specs.Putting.{Puts}
use Rattle.ox_block.proofs.PiecesInTurn.{puts_then, puts_last}
use Rattle.ox_block.proofs.spelling.put_stripped.Goals as goal

pub returns : goal.returns
returns g c =
    let h = g.S.Sink.holds in
    let v = to_le_bytes w32 c.args.tx.now.version in
    let i = inputs c.args.tx.now.inputs in
    let o = outputs c.args.tx.now.outputs in
    let l = to_le_bytes w32 c.args.tx.now.lock in
    let s0 = c.args.sink.now in
    let s1 = c.put_u32.new.sink in
    let s2 = c.put_inputs.new.sink in
    let s3 = c.put_outputs.new.sink in
    let s4 = c.put_u32-2.new.sink in
    let two = puts_then h v i s0 s1 s2 c.in_ok-put_u32.ensures (subst (λ xs. Puts h (inputs xs) s1 s2) c.as_slice.ensures c.in_ok-put_inputs.ensures) in
    let three = puts_then h (v ++ i) o s0 s2 s3 two (subst (λ xs. Puts h (outputs xs) s2 s3) c.as_slice-2.ensures c.in_ok-put_outputs.ensures) in
    puts_last h (v ++ i ++ o) l s0 s3 s4 c.put_u32-2.result three c.put_u32-2.ensures
