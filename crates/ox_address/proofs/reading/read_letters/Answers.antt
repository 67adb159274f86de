use Rattle.std.proofs.Common.{ℕ, List, length, get_or, refl, ◌*◌, ◌/◌, sym, ◌∙◌, arith}
use Rattle.std.proofs.lemmas.Bool.{iff_false}
use Rattle.ox_address.specs.Address.{IsProgram}
use Rattle.ox_address.specs.Passes.{opcode_of}
use Rattle.std.proofs.Common.{subst}
use Rattle.ox_address.proofs.Decide.{letters-parts, expected-letters, program-expected, whole-expected, read-sound}
use Rattle.ox_address.proofs.reading.read_letters.Goals as goal

pub returns-in_err-version : goal.returns-in_err-version
returns-in_err-version c = λ hrp bytes sum.
    let letters : List ℕ = c.args.letters.now in
    let check : List ℕ = c.split_at.result.1.now in
    let first : List ℕ = c.split_at-2.result.0.now in
    let groups : List ℕ = c.split_at-2.result.1.now in
    let parts = letters-parts letters c.split_at.result.0.now check first groups c.requires.long c.split_at.ensures.front
    c.split_at.ensures.back c.split_at-2.ensures.front c.split_at-2.ensures.back in
    rw c.from_residual.ensures (λ script segwit spelled.
    let exp = expected-letters c.args.is_capital hrp script letters (get_or first 0 0) groups check parts.0 parts.1 segwit spelled in
    omega (arith, exp.first, c.in_err-version.ensures))

pub returns-then-not-is_program : goal.returns-then-not-is_program
returns-then-not-is_program c = λ hrp bytes sum script segwit spelled.
    let letters : List ℕ = c.args.letters.now in
    let check : List ℕ = c.split_at.result.1.now in
    let first : List ℕ = c.split_at-2.result.0.now in
    let groups : List ℕ = c.split_at-2.result.1.now in
    let parts = letters-parts letters c.split_at.result.0.now check first groups c.requires.long c.split_at.ensures.front
    c.split_at.ensures.back c.split_at-2.ensures.front c.split_at-2.ensures.back in
    let exp = expected-letters c.args.is_capital hrp script letters (get_or first 0 0) groups check parts.0 parts.1 segwit spelled in
    let v : ℕ = c.in_ok-version.version in
    let size : ℕ = length groups * 5 / 8 in
    let program : IsProgram (opcode_of v) size =
    program-expected c.args.is_capital hrp script (get_or first 0 0) groups check v size segwit exp c.in_ok-version.ensures.1 refl in
    let P : ℕ → Type 0 = λ op. IsProgram op size in
    iff_false c.is_program.ensures c.if-not-is_program.true (subst P (sym c.opcode_at.ensures) program)

pub returns-in_err-pass : goal.returns-in_err-pass
returns-in_err-pass c = λ hrp bytes sum.
    let letters : List ℕ = c.args.letters.now in
    let check : List ℕ = c.split_at.result.1.now in
    let first : List ℕ = c.split_at-2.result.0.now in
    let groups : List ℕ = c.split_at-2.result.1.now in
    let parts = letters-parts letters c.split_at.result.0.now check first groups c.requires.long c.split_at.ensures.front
    c.split_at.ensures.back c.split_at-2.ensures.front c.split_at-2.ensures.back in
    rw c.from_residual-in_err-pass.ensures (λ script segwit spelled.
    let exp = expected-letters c.args.is_capital hrp script letters (get_or first 0 0) groups check parts.0 parts.1 segwit spelled in
    c.in_err-pass.ensures exp.groups_are_symbols)

pub returns-in_err-all : goal.returns-in_err-all
returns-in_err-all c = λ hrp bytes sum.
    let letters : List ℕ = c.args.letters.now in
    let check : List ℕ = c.split_at.result.1.now in
    let first : List ℕ = c.split_at-2.result.0.now in
    let groups : List ℕ = c.split_at-2.result.1.now in
    let parts = letters-parts letters c.split_at.result.0.now check first groups c.requires.long c.split_at.ensures.front
    c.split_at.ensures.back c.split_at-2.ensures.front c.split_at-2.ensures.back in
    rw c.from_residual-in_err-all.ensures (λ script segwit spelled.
    let exp = expected-letters c.args.is_capital hrp script letters (get_or first 0 0) groups check parts.0 parts.1 segwit spelled in
    c.in_err-all.ensures exp.check)

pub returns-then-not-is_whole : goal.returns-then-not-is_whole
returns-then-not-is_whole c = λ hrp bytes sum script segwit spelled.
    let letters : List ℕ = c.args.letters.now in
    let check : List ℕ = c.split_at.result.1.now in
    let first : List ℕ = c.split_at-2.result.0.now in
    let groups : List ℕ = c.split_at-2.result.1.now in
    let parts = letters-parts letters c.split_at.result.0.now check first groups c.requires.long c.split_at.ensures.front
    c.split_at.ensures.back c.split_at-2.ensures.front c.split_at-2.ensures.back in
    let pass = c.in_ok-pass.pass in
    iff_false c.is_whole.ensures c.if-not-is_whole.true
    (whole-expected c.args.is_capital hrp script letters (get_or first 0 0) groups check _ c.take_groups.new.script
    c.in_ok-version.version c.args.sum c.with_value.result pass.len pass.bits.value pass.bits.count pass.sum c.in_ok-all.all
    bytes sum parts.0 parts.1 c.in_ok-version.ensures.1 c.with_value.ensures.value c.in_ok-pass.ensures c.in_ok-all.ensures.1
    segwit spelled)

pub returns : goal.returns
returns c = λ hrp bytes sum.
    let letters : List ℕ = c.args.letters.now in
    let check : List ℕ = c.split_at.result.1.now in
    let first : List ℕ = c.split_at-2.result.0.now in
    let groups : List ℕ = c.split_at-2.result.1.now in
    let parts = letters-parts letters c.split_at.result.0.now check first groups c.requires.long c.split_at.ensures.front
    c.split_at.ensures.back c.split_at-2.ensures.front c.split_at-2.ensures.back in
    let pass = c.in_ok-pass.pass in
    let v : ℕ = c.in_ok-version.version in
    let size : ℕ = length groups * 5 / 8 in
    let P : ℕ → Type 0 = λ op. IsProgram op size in
    let program : IsProgram c.opcode_at-2.result size =
    subst P (c.opcode_at.ensures ∙ sym c.opcode_at-2.ensures) (c.is_program.ensures.0 c.if-not-is_program.false) in
    read-sound c.args.is_capital hrp letters (get_or first 0 0) groups check c.args.script.now c.take_groups.new.script
    v c.opcode_at-2.result size c.args.sum c.with_value.result pass.len pass.bits.value pass.bits.count pass.sum c.in_ok-all.all
    bytes sum parts.0 parts.1 (omega arith) c.in_ok-version.ensures.0 c.in_ok-version.ensures.1 c.opcode_at-2.ensures program refl
    c.with_value.ensures.value c.in_ok-pass.ensures c.in_ok-all.ensures.0 c.in_ok-all.ensures.1
    (c.is_whole.ensures.0 c.if-not-is_whole.false)
