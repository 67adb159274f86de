-- The bodies of replies to commands, as they are written piece by piece.
use Rattle.std.proofs.Common.{◌≡◌, ℕ, List, [], ◌∷◌, ◌++◌, refl, sym, ap, ap₂, ◌∙◌, append_assoc}
use Rattle.std.specs.Prelude.{Some, None, codes, decimal}
use Rattle.std.proofs.lemmas.Grind.{flat_map-append}
use Rattle.json.specs.Print.{escape, escape_byte}
use Rattle.serde_json.specs.Written.{compact_text}
use Rattle.ox_block.specs.declared.block.OutPoint.{OutPoint}
use Rattle.ox_rules.specs.Text.{hash_text, outpoint_text, pair_text}
use Rattle.ox_rules.specs.declared.refusal.Refusal.{Refusal}
use Rattle.ox_rules.specs.declared.refusal.Refusal.TheVariants.{TooLong, Syntax, Malformed, ChainEnd, Unlinked, BadRoot, Coinbase, BadWitness, UnknownOutput, Overspend, Overclaim, Depth}
use Rattle.ox_desk.specs.Plain.{IsPlain}
use Rattle.ox_desk.specs.Replies.{newest_tree, refusal_text, refused_tree}

-- what stands behind a text's quote
quote_end : (text rest : List ℕ) → (text ++ 34 ∷ []) ++ rest ≡ text ++ (34 ∷ rest)
quote_end text rest = append_assoc text (34 ∷ []) rest

-- ---- the newest block

-- pieces that are put one after another
pub five_pieces : (old a b c d e : List ℕ) → ((((old ++ a) ++ b) ++ c) ++ d) ++ e ≡ old ++ (a ++ (b ++ (c ++ (d ++ e))))
five_pieces old a b c d e =
    append_assoc (((old ++ a) ++ b) ++ c) d e
    ∙ append_assoc ((old ++ a) ++ b) c (d ++ e)
    ∙ append_assoc (old ++ a) b (c ++ (d ++ e))
    ∙ append_assoc old a (b ++ (c ++ (d ++ e)))

pub newest_is : (height : ℕ) (hash : List ℕ) → IsPlain (hash_text hash)
    → codes "{\"hash\":\"" ++ (hash_text hash ++ (codes "\",\"height\":" ++ (decimal height ++ codes "}"))) ≡ compact_text (newest_tree (Some (height, hash)))
unfolding escape_byte
newest_is height hash plain =
    let behind : List ℕ = codes ",\"height\":" ++ (decimal height ++ codes "}") in
    ap (λ (text : List ℕ). codes "{\"hash\":\"" ++ (text ++ (34 ∷ behind))) (sym plain)
    ∙ ap (λ (text : List ℕ). codes "{\"hash\":\"" ++ text) (sym (quote_end (escape (hash_text hash)) behind))

pub none_is : codes "{\"hash\":null,\"height\":null}" ≡ compact_text (newest_tree None)
unfolding escape_byte
none_is = refl

-- ---- a refusal

-- what stands before a space, or a colon, and what stands behind it
plain_two : (x y : List ℕ) → IsPlain x → IsPlain y → IsPlain ((x ++ 32 ∷ []) ++ y)
unfolding escape_byte
plain_two x y first second =
    flat_map-append escape_byte (x ++ 32 ∷ []) y
    ∙ ap₂ ◌++◌ (flat_map-append escape_byte x (32 ∷ []) ∙ ap (λ (l : List ℕ). l ++ 32 ∷ []) first) second

plain_outpoint : (at : OutPoint) → IsPlain (hash_text at.txid.0) → IsPlain (decimal at.index) → IsPlain (outpoint_text at)
unfolding outpoint_text escape_byte
plain_outpoint at first second =
    flat_map-append escape_byte (hash_text at.txid.0 ++ 58 ∷ []) (decimal at.index)
    ∙ ap₂ ◌++◌ (flat_map-append escape_byte (hash_text at.txid.0) (58 ∷ []) ∙ ap (λ (l : List ℕ). l ++ 58 ∷ []) first) second

plain_pair : (x y : ℕ) → IsPlain (decimal x) → IsPlain (decimal y) → IsPlain (pair_text x y)
unfolding pair_text
plain_pair x y first second = plain_two (decimal x) (decimal y) first second

-- what a refusal tells is plain
abbrev pub ArePlain : Refusal → Type 0
ArePlain TooLong = Unit {0}
ArePlain Syntax = Unit {0}
ArePlain (Malformed at) = IsPlain (decimal at)
ArePlain (ChainEnd height) = IsPlain (decimal height)
ArePlain (Unlinked have want) = IsPlain (hash_text have) × IsPlain (hash_text want)
ArePlain (BadRoot have want) = IsPlain (hash_text have) × IsPlain (hash_text want)
ArePlain (Coinbase tx) = IsPlain (decimal tx)
ArePlain BadWitness = Unit {0}
ArePlain (UnknownOutput tx input at) = IsPlain (decimal tx) × IsPlain (decimal input) × (IsPlain (hash_text at.txid.0) × IsPlain (decimal at.index))
ArePlain (Overspend tx inputs outputs) = IsPlain (decimal tx) × IsPlain (decimal inputs) × IsPlain (decimal outputs)
ArePlain (Overclaim claimable claimed) = IsPlain (decimal claimable) × IsPlain (decimal claimed)
ArePlain Depth = Unit {0}

pub plain_refusal : (refusal : Refusal) → ArePlain refusal → IsPlain (refusal_text refusal)
unfolding refusal_text escape_byte
plain_refusal TooLong are = refl
plain_refusal Syntax are = refl
plain_refusal (Malformed at) are = ap (λ (l : List ℕ). codes "3 " ++ l) are
plain_refusal (ChainEnd height) are = ap (λ (l : List ℕ). codes "4 " ++ l) are
plain_refusal (Unlinked have want) are = ap (λ (l : List ℕ). codes "5 " ++ l) (plain_two (hash_text have) (hash_text want) are.0 are.1)
plain_refusal (BadRoot have want) are = ap (λ (l : List ℕ). codes "6 " ++ l) (plain_two (hash_text have) (hash_text want) are.0 are.1)
plain_refusal (Coinbase tx) are = ap (λ (l : List ℕ). codes "7 " ++ l) are
plain_refusal BadWitness are = refl
plain_refusal (UnknownOutput tx input at) are =
    ap (λ (l : List ℕ). codes "8 " ++ l)
    (plain_two ((decimal tx ++ 32 ∷ []) ++ decimal input) (outpoint_text at) (plain_two (decimal tx) (decimal input) are.0 are.1) (plain_outpoint at are.2.0 are.2.1))
plain_refusal (Overspend tx inputs outputs) are =
    ap (λ (l : List ℕ). codes "9 " ++ l) (plain_two (decimal tx) (pair_text inputs outputs) are.0 (plain_pair inputs outputs are.1 are.2))
plain_refusal (Overclaim claimable claimed) are = ap (λ (l : List ℕ). codes "10 " ++ l) (plain_pair claimable claimed are.0 are.1)
plain_refusal Depth are = refl

pub refused_is : (refusal : Refusal) → IsPlain (refusal_text refusal)
    → (codes "{\"refused\":\"" ++ refusal_text refusal) ++ codes "\"}" ≡ compact_text (refused_tree refusal)
unfolding escape_byte
refused_is refusal plain =
    ap (λ (text : List ℕ). codes "{\"refused\":\"" ++ (text ++ 34 ∷ 125 ∷ [])) (sym plain)
    ∙ ap (λ (text : List ℕ). codes "{\"refused\":\"" ++ text) (sym (quote_end (escape (refusal_text refusal)) (125 ∷ [])))
