-- A refusal's line is its text between `refused ` and a line feed.
use Rattle.std.proofs.Common.{◌≡◌, ◌≤◌, ◌-◌, ◌+◌, ℕ, List, [], ◌∷◌, ◌++◌, length, take, drop, refl, ap, ◌∙◌, arith, length-append, take_at}
use Rattle.std.specs.Prelude.{codes}
use Rattle.ox_rules.specs.Text.{refusal_line}
use Rattle.ox_rules.specs.declared.refusal.Refusal.{Refusal}
use Rattle.ox_rules.specs.declared.refusal.Refusal.TheVariants.{TooLong, Syntax, Malformed, ChainEnd, Unlinked, BadRoot, Coinbase, BadWitness, UnknownOutput, Overspend, Overclaim, Depth}
use Rattle.ox_desk.specs.Replies.{refusal_text}

pub line_is : (refusal : Refusal) → refusal_line refusal ≡ codes "refused " ++ refusal_text refusal ++ codes "\n"
unfolding refusal_line refusal_text
line_is TooLong = refl
line_is Syntax = refl
line_is (Malformed at) = refl
line_is (ChainEnd height) = refl
line_is (Unlinked have want) = refl
line_is (BadRoot have want) = refl
line_is (Coinbase tx) = refl
line_is BadWitness = refl
line_is (UnknownOutput tx input at) = refl
line_is (Overspend tx inputs outputs) = refl
line_is (Overclaim claimable claimed) = refl
line_is Depth = refl

long : (refusal : Refusal) (line : List ℕ) → line ≡ refusal_line refusal → length line ≡ 9 + length (refusal_text refusal)
long refusal line is = omega (arith, ap length (is ∙ line_is refusal), length-append (refusal_text refusal) (10 ∷ []))

pub long_enough : (refusal : Refusal) (line : List ℕ) → line ≡ refusal_line refusal → 9 ≤ length line
long_enough refusal line is = omega (arith, long refusal line is)

pub told_in : (refusal : Refusal) (line : List ℕ) → line ≡ refusal_line refusal → take (length line - 9) (drop 8 line) ≡ refusal_text refusal
told_in refusal line is =
    ap (λ (l : List ℕ). take (length line - 9) (drop 8 l)) (is ∙ line_is refusal)
    ∙ take_at (refusal_text refusal) (10 ∷ []) (length line - 9) (omega (arith, long refusal line is))
