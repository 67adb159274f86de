-- What a line that is a command begins with.
use Rattle.std.proofs.Common.{◌≡◌, ℕ, List, [], ◌∷◌, ◌++◌, refl, ap, ◌≢◌}
use Rattle.std.specs.Prelude.{codes, IsErr, Some, None, Ok}
use Rattle.hex.specs.Hex.{decode_of}
use Rattle.ox_feed.specs.declared.command.Command.TheVariants.{Connect}
use Rattle.std.proofs.lemmas.Bool.{cases_eq, eq-eqb, ne_eqb}
use Rattle.std.proofs.Common.{inl, inr}
use Rattle.ox_feed.proofs.PairsOfDigits.{error_of}
use Rattle.ox_feed.specs.Command.{after_word, connect_in, command_of_digits}

-- behind a word stands what follows it
pub after_word-append : (word rest : List ℕ) → after_word word (word ++ rest) ≡ Some rest
after_word-append [] rest = refl
after_word-append (c ∷ word) rest = rw (eq-eqb c c refl) (after_word-append word rest)

-- a line that doesn't begin with the word
pub after_word-none : (word line : List ℕ) → ((rest : List ℕ) → line ≢ word ++ rest) → after_word word line ≡ None
after_word-none [] line h = absurd (h line refl)
after_word-none (c ∷ word) [] h = refl
after_word-none (c ∷ word) (b ∷ line) h = elim (cases_eq b c) [
  | inl same ↦ rw (eq-eqb b c same) (after_word-none word line (λ rest e. h rest (cc)))
  | inr other ↦ rw (ne_eqb b c other) refl
]

-- ---- the command of a line

pub connect_in-connect : (line digits bytes : List ℕ) → line ≡ codes "connect " ++ digits → decode_of digits ≡ Ok bytes → connect_in line ≡ Some (Connect bytes)
unfolding connect_in
connect_in-connect line digits bytes is decodes =
    rw (is, decodes) refl

pub connect_in-no_digits : (line digits : List ℕ) → line ≡ codes "connect " ++ digits → IsErr (decode_of digits) → connect_in line ≡ None
unfolding connect_in
connect_in-no_digits line digits is fails =
    let e = error_of (decode_of digits) fails in
    rw (is, e.1) refl

pub connect_in-other : (line : List ℕ) → ((rest : List ℕ) → line ≢ codes "connect " ++ rest) → connect_in line ≡ None
unfolding connect_in
connect_in-other line h = ap command_of_digits (after_word-none (codes "connect ") line h)
