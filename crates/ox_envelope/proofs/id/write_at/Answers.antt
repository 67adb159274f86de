use Rattle.std.proofs.Common.{◌≡◌, ◌+◌, ◌-◌, length, ap, ◌∙◌, arith}
use Rattle.std.proofs.lemmas.Slice.{drop-put_mid}
use Rattle.ox_envelope.proofs.id.write_at.Goals as goal

pub returns-clause-back : goal.returns-clause-back
returns-clause-back c =
    let at = c.args.at in
    let count = length c.args.bytes.now in
    let size : count ≡ at + count - at = omega arith in
    drop-put_mid at (at + count - at) c.args.into.now c.copy_from_slice.new.self (at + count) (omega arith) (omega (arith, c.requires)) (ap length c.copy_from_slice.ensures.after ∙ size)
