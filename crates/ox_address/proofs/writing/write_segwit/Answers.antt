use Rattle.std.proofs.Common.{ℕ, List, [], ◌∷◌, ◌≤◌, length, subst, ap, arith}
use Rattle.ox_address.specs.Address.{groups}
use Rattle.ox_address.specs.Passes.{Wrote}
use Rattle.ox_address.proofs.Scripts.{segwit-short}
use Rattle.ox_address.proofs.Whole.{room-left, whole-symbols}
use Rattle.ox_address.proofs.writing.write_segwit.Goals as goal

pub put_six-requires-clause-room : goal.put_six-requires-clause-room
put_six-requires-clause-room c =
    let hrp : List ℕ = c.args.hrp.now in
    let version : ℕ = c.args.version in
    let stands = c.put_program.ensures.wrote hrp (version ∷ []) c.args.into.now (record {
      wrote = c.put.ensures.wrote hrp [] c.args.into.now c.put_hrp-text.ensures.wrote;
      checked = c.put.ensures.sum hrp [] c.put_hrp-text.ensures.sum;
    }) in
    let short : length c.split_at.result.1.now ≤ 40 = omega (arith, segwit-short c.args.script.now c.requires.segwit, ap length c.split_at.ensures.back) in
    room-left hrp c.split_at.result.1.now version c.put_program.new.text.len c.requires.hrp.few short stands.wrote.place

pub returns : goal.returns
returns c =
    let hrp : List ℕ = c.args.hrp.now in
    let version : ℕ = c.args.version in
    let program : List ℕ = c.split_at.result.1.now in
    let stands = c.put_program.ensures.wrote hrp (version ∷ []) c.args.into.now (record {
      wrote = c.put.ensures.wrote hrp [] c.args.into.now c.put_hrp-text.ensures.wrote;
      checked = c.put.ensures.sum hrp [] c.put_hrp-text.ensures.sum;
    }) in
    let P : List ℕ → Type 0 = λ xs. Wrote hrp xs c.args.into.now c.put_six.new.into c.put_six.result in
    subst P (whole-symbols hrp c.args.script.now program version c.put_program.new.text.sum c.checksum_after-number.result
    c.split_at.ensures.back c.requires.version stands.checked c.checksum_after-number.ensures.value)
    (c.put_six.ensures hrp (version ∷ groups program) c.args.into.now stands.wrote)
