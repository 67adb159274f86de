-- Reading a header or an input field by field is reading its fields as pairs of pairs.
use Rattle.std.proofs.Common.{◌≡◌, ℕ, List, [], refl, ◌∙◌}
use Rattle.std.specs.Prelude.{Result, Ok, Err}
use Rattle.std.specs.Int.{w32}
use Rattle.ox_bytes.specs.Reading.{◌>>=◌, Reading, Reader, number_at, run_at, string_at, both, reading_map}
use Rattle.ox_block.specs.Reading.{outpoint_at, input_at, header_at}
use Rattle.ox_block.specs.declared.block.OutPoint.{OutPoint}
use Rattle.ox_block.specs.declared.block.TxIn.{TxIn}
use Rattle.ox_block.specs.declared.block.Header.{Header}

abbrev pub HeaderParts : Type 0
HeaderParts = ((((ℕ × List ℕ) × List ℕ) × ℕ) × ℕ) × ℕ

abbrev pub header_from : HeaderParts → Header
header_from p = record { version = p.0.0.0.0.0; previous = p.0.0.0.0.1; root = p.0.0.0.1; time = p.0.0.1; bits = p.0.1; nonce = p.1 }

abbrev pub header_parts : Reader Header
header_parts bytes = reading_map header_from
    (both (both (both (both (both (number_at w32) (run_at 32)) (run_at 32)) (number_at w32)) (number_at w32)) (number_at w32)) bytes

-- what a second reader and what follows it make of a first value
abbrev after : {A B C F : Type 0} → Reading B F → ((A × B) × List ℕ → Result C F) → A × List ℕ → Result C F
after second k x = second x.1 >>= λ y. k ((x.0, y.0), y.1)

bind_then : {A B C F : Type 0} (m : Result A F) (f : A → Result B F) (g : B → Result C F)
    → ((m >>= f) >>= g) ≡ (m >>= λ x. f x >>= g)
bind_then (Ok x) f g = refl
bind_then (Err e) f g = refl

pair_then : {A B C F : Type 0} (m : Result (A × List ℕ) F) (second : Reading B F) (k : (A × B) × List ℕ → Result C F)
    → ((m >>= λ x. second x.1 >>= λ y. Ok ((x.0, y.0), y.1)) >>= k) ≡ (m >>= after second k)
pair_then (Ok x) second k = bind_then (second x.1) (λ y. Ok ((x.0, y.0), y.1)) k
pair_then (Err e) second k = refl

both_then : {A B C F : Type 0} (first : Reading A F) (second : Reading B F) (k : (A × B) × List ℕ → Result C F) (bytes : List ℕ)
    → (both first second bytes >>= k) ≡ (first bytes >>= after second k)
both_then first second k bytes = pair_then (first bytes) second k

pub header_same : (bytes : List ℕ) → header_parts bytes ≡ header_at bytes
unfolding header_at
header_same bytes =
    let at = number_at w32 in
    let run = run_at 32 in
    let made : HeaderParts × List ℕ → Result (Header × List ℕ) ℕ = λ x. Ok (header_from x.0, x.1) in
    both_then (both (both (both (both at run) run) at) at) at made bytes
    ∙ both_then (both (both (both at run) run) at) at (after at made) bytes
    ∙ both_then (both (both at run) run) at (after at (after at made)) bytes
    ∙ both_then (both at run) run (after at (after at (after at made))) bytes
    ∙ both_then at run (after run (after at (after at (after at made)))) bytes

-- ---- an input

abbrev pub InputParts : Type 0
InputParts = (OutPoint × List ℕ) × ℕ

abbrev pub input_from : InputParts → TxIn
input_from p = record { from = p.0.0; script = p.0.1; sequence = p.1; witness = [] }

abbrev pub input_parts : Reader TxIn
input_parts bytes = reading_map input_from (both (both outpoint_at string_at) (number_at w32)) bytes

pub input_same : (bytes : List ℕ) → input_parts bytes ≡ input_at bytes
unfolding input_at
input_same bytes =
    let at = number_at w32 in
    let made : InputParts × List ℕ → Result (TxIn × List ℕ) ℕ = λ x. Ok (input_from x.0, x.1) in
    both_then (both outpoint_at string_at) at made bytes
    ∙ both_then outpoint_at string_at (after at made) bytes
