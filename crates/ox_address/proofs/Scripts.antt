-- Segwit scripts.
use Rattle.std.proofs.Common.{◌≡◌, ℕ, suc, ◌-◌, ◌<◌, ◌≤◌, List, [], ◌∷◌, length, get_or, take, drop, ap, ◌∙◌, arith, inl, inr}
use Rattle.std.proofs.lemmas.List.{take_rest}
use Rattle.std.proofs.lemmas.List.Elements.{All-from_get_or}
use Rattle.std.proofs.lemmas.Bool.{cond-false, ne_eqb}
use Rattle.ox_address.specs.Address.{IsSegwit, IsProgram, version_of}

pub segwit_from :
    (script : List ℕ) → 2 ≤ length script →
    IsProgram (get_or script 0 0) (get_or script 1 0) →
    get_or script 1 0 ≡ length (take (length script - 2) (drop 2 script)) →
    ((i : ℕ) → get_or script i 0 < 256) → IsSegwit script
segwit_from [] long program size bytes = absurd (omega arith)
segwit_from (opcode ∷ []) long program size bytes = absurd (omega arith)
segwit_from (opcode ∷ told ∷ rest) long program size bytes = (
  program,
  size ∙ ap length (take_rest (opcode ∷ told ∷ rest) 2),
  All-from_get_or (λ b. b < 256) rest 0 (λ i low. bytes (suc (suc i))),
)

pub version_of-above : (opcode : ℕ) → 81 ≤ opcode → version_of opcode ≡ opcode - 80
version_of-above opcode above = cond-false _ 0 (opcode - 80) (ne_eqb opcode 0 (λ e. omega arith))

pub program-short : (opcode size : ℕ) → IsProgram opcode size → size ≤ 40
program-short opcode size (inl program) =
    elim program.1 [ inl twenty ↦ omega (arith, twenty) | inr thirty ↦ omega (arith, thirty) ]
program-short opcode size (inr program) = program.1.1

pub program-long : (opcode size : ℕ) → IsProgram opcode size → 2 ≤ size
program-long opcode size (inl program) =
    elim program.1 [ inl twenty ↦ omega (arith, twenty) | inr thirty ↦ omega (arith, thirty) ]
program-long opcode size (inr program) = program.1.0

pub segwit-short : (script : List ℕ) → IsSegwit script → length (drop 2 script) ≤ 40
segwit-short [] segwit = absurd segwit
segwit-short (opcode ∷ []) segwit = absurd segwit
segwit-short (opcode ∷ size ∷ program) segwit = omega (arith, program-short opcode size segwit.0, segwit.1)

pub segwit-long : (script : List ℕ) → IsSegwit script → 2 ≤ length (drop 2 script)
segwit-long [] segwit = absurd segwit
segwit-long (opcode ∷ []) segwit = absurd segwit
segwit-long (opcode ∷ size ∷ program) segwit = omega (arith, program-long opcode size segwit.0, segwit.1)
