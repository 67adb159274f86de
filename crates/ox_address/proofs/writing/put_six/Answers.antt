use Rattle.std.proofs.Common.{ℕ, ◌-◌, ◌*◌, ◌/◌, ◌%◌, ◌^◌, ◌++◌, take, refl, arith}
use Rattle.ox_address.specs.Digits.{digits}
use Rattle.ox_address.proofs.Whole.{wrote-six, wrote-six_end}
use Rattle.ox_address.proofs.writing.put_six.Goals as goal

pub loop-place-preserved : goal.loop-place-preserved
loop-place-preserved c = λ hrp symbols before wrote.
    let i : ℕ = c.loop-place.place in
    wrote-six hrp symbols before c.put_letter.new.into c.args.len c.args.number i (c.args.number / 2 ^ (25 - 5 * i) % 32)
    c.loop-place-test.true refl
    (c.put_letter.ensures hrp (symbols ++ take i (digits 32 6 c.args.number)) before (c.loop-place.invariant hrp symbols before wrote))

pub returns : goal.returns
returns c = λ hrp symbols before wrote.
    wrote-six_end hrp symbols before c.loop-place.into c.args.len c.args.number c.loop-place.place (omega arith)
    (c.loop-place.invariant hrp symbols before wrote)
