-- A rune's id and its name are what a part of a path spells.
use Rattle.std.proofs.Common.{◌≡◌, ◌≢◌, ℕ, ◌+◌, ◌<◌, ◌≤◌, ◌^◌, Bool, true, false, cond, List, [], ◌∷◌, ◌++◌, length, get_or, take, drop, Option, Some, None, MatchOption, Bor, length-append, codes, decimal, IsUtf8, nat_eq, refl, sym, ap, ap₂, ◌∙◌, subst, lit<, arith}
use Rattle.std.specs.List.{IsSplitAt, starts_with}
use Rattle.std.proofs.lemmas.Bool.Decides.{Decides-eqb}
use Rattle.std.proofs.lemmas.Fmt.{IsAscii-decimal, decimal_injective, decimal_is_IsNumeral}
use Rattle.std.proofs.lemmas.Slice.Eq.{starts_is}
use Rattle.std.proofs.lemmas.Str.{IsAscii-append, IsUtf8-from_ascii}
use Rattle.std.proofs.lemmas.Str.Ascii.{IsAscii-cons}
use Rattle.std.proofs.lemmas.Str.Parse.{digit_at}
use Rattle.std.proofs.lemmas.Str.Pattern.{IsSplitOnceResult, split_after, split_parts}
use Rattle.ox_name.specs.Spaced.{bullet}
use Rattle.ox_runestone.specs.declared.stone.RuneId.{RuneId}
use Rattle.ox_replies.specs.Named.{rune_id_in, without_escapes, unescaped_past}
use Rattle.ox_replies.proofs.Escapes.{escape_read}
use Rattle.ox_replies.proofs.RuneIds.{parts, rune_id_read, rune_id_within, rune_id_written}

-- no id is written so
abbrev pub NoneIs : List ℕ → Type 0
NoneIs text = (id : RuneId) → id.block < 2 ^ 64 → id.tx < 2 ^ 32 → text ≢ decimal id.block ++ 58 ∷ decimal id.tx

none_spelled : (text : List ℕ) → NoneIs text → None ≡ rune_id_in text
none_spelled text none = by (rune_id_in text) refl
  where
    by : (id : Option RuneId) → rune_id_in text ≡ id → None ≡ rune_id_in text
    by None e = sym e
    by (Some id) e =
        let within : (id.block < 2 ^ 64) × (id.tx < 2 ^ 32) = rune_id_within text id e in
        absurd (none id within.0 within.1 (rune_id_read text id e ∙ parts id))

id_is_text : (id : RuneId) → id.block < 2 ^ 64 → id.tx < 2 ^ 32 → IsUtf8 (decimal id.block ++ 58 ∷ decimal id.tx)
id_is_text id block tx =
    IsUtf8-from_ascii _ (IsAscii-append (decimal id.block) (58 ∷ decimal id.tx) (IsAscii-decimal id.block block)
    (IsAscii-cons 58 (decimal id.tx) (omega arith) (IsAscii-decimal id.tx (omega (arith, tx)))))

-- what isn't text is no id
pub id_unread : (text : List ℕ) → ¬ IsUtf8 text → None ≡ rune_id_in text
id_unread text h = none_spelled text (λ id block tx e. h (subst IsUtf8 (sym e) (id_is_text id block tx)))

no_colon : (n : ℕ) → n < 2 ^ 64 → (i : ℕ) → i < length (decimal n) → get_or (decimal n) i 0 ≢ 58
no_colon n small i within = let digit = digit_at (decimal n) i (decimal_is_IsNumeral n small).0.1 within in λ e. absurd (omega (arith, digit, e))

module _ (text : List ℕ) where
  -- the parts of an id are its text's on both sides of the first colon
  cut_so : (r : Option (Bor (List ℕ) × Bor (List ℕ))) → IsSplitOnceResult 58 text r
      → (id : RuneId) → id.block < 2 ^ 64 → text ≡ decimal id.block ++ 58 ∷ decimal id.tx
      → MatchOption r ⊥ (λ x. (x.0.now ≡ decimal id.block) × (x.1.now ≡ decimal id.tx))
  cut_so r cut id small e = split_after 58 text (decimal id.block) (decimal id.tx) r cut (lit< tt) e (no_colon id.block small)

  pub without_colon : IsSplitOnceResult 58 text None → None ≡ rune_id_in text
  without_colon cut = none_spelled text (λ id block tx e. cut_so None cut id block e)

  module _ (height place : Bor (List ℕ)) (cut : IsSplitOnceResult 58 text (Some (height, place))) where
    pub without_height : ((n : ℕ) → n < 2 ^ 64 → height.now ≢ decimal n) → None ≡ rune_id_in text
    without_height none = none_spelled text (λ id block tx e. none id.block block (cut_so (Some (height, place)) cut id block e).0)

    pub without_place : ((n : ℕ) → n < 2 ^ 64 → place.now ≢ decimal n) → None ≡ rune_id_in text
    without_place none = none_spelled text (λ id block tx e. none id.tx (omega (arith, tx)) (cut_so (Some (height, place)) cut id block e).1)

    pub past_places : (n : ℕ) → n < 2 ^ 64 → place.now ≡ decimal n → 2 ^ 32 ≤ n → None ≡ rune_id_in text
    past_places n small is past = none_spelled text (λ id block tx e.
        let same : n ≡ id.tx = decimal_injective n id.tx small (omega (arith, tx)) (sym is ∙ (cut_so (Some (height, place)) cut id block e).1) in
        omega (arith, same, tx, past))

    pub id_is : (id : RuneId) → height.now ≡ decimal id.block → place.now ≡ decimal id.tx → id.block < 2 ^ 64 → id.tx < 2 ^ 32 → Some id ≡ rune_id_in text
    id_is id block tx high few =
        sym (ap rune_id_in ((split_parts 58 text (Some (height, place)) cut (lit< tt)).0
        ∙ ap₂ (λ (a b : List ℕ). a ++ 58 ∷ b) block tx ∙ sym (parts id)) ∙ rune_id_written id high few)

-- ---- escapes

pub nothing_read : without_escapes [] ≡ []
unfolding unescaped_past
nothing_read = refl

no_escape : (text : List ℕ) → ((rest : List ℕ) → text ≢ codes "%E2%80%A2" ++ rest) → starts_with nat_eq text (codes "%E2%80%A2") ≡ false
no_escape text none = by (starts_with nat_eq text (codes "%E2%80%A2")) refl
  where
    by : (v : Bool) → starts_with nat_eq text (codes "%E2%80%A2") ≡ v → starts_with nat_eq text (codes "%E2%80%A2") ≡ false
    by true e = absurd (none (drop 9 text) ((starts_is Decides-eqb text (codes "%E2%80%A2") true (sym e)).0 refl))
    by false e = e

-- an escape is a spacer
pub spacer_read : (text rest : List ℕ) → text ≡ codes "%E2%80%A2" ++ rest → (without_escapes text ≡ bullet ++ without_escapes rest) × (length rest < length text)
spacer_read text rest e = (
  ap without_escapes e ∙ escape_read rest,
  let long : length text ≡ 9 + length rest = ap length e ∙ length-append (codes "%E2%80%A2") rest in omega (arith, long),
)

-- a byte that begins no escape stands for itself
pub byte_read : (text : List ℕ) → 1 ≤ length text → ((rest : List ℕ) → text ≢ codes "%E2%80%A2" ++ rest)
    → without_escapes text ≡ take 1 text ++ without_escapes (drop 1 text)
unfolding unescaped_past
byte_read [] some none = absurd (omega (arith, some))
byte_read (c ∷ cs) some none = ap (λ v. cond v (bullet ++ unescaped_past 8 cs) (c ∷ without_escapes cs)) (no_escape (c ∷ cs) none)

-- what is in front of a text, if there is something
pub front_read : (text : List ℕ) (r : Option (Bor (List ℕ) × Bor (List ℕ))) → ((rest : List ℕ) → text ≢ codes "%E2%80%A2" ++ rest)
    → MatchOption r (length text < 1) (λ x. IsSplitAt text 1 x.0.now x.1.now)
    → MatchOption r (text ≡ []) (λ x. (without_escapes text ≡ x.0.now ++ without_escapes x.1.now) × (length x.1.now < length text))
front_read [] None none short = refl
front_read (c ∷ cs) None none short = absurd (omega (arith, short))
front_read text (Some x) none split =
    let there : 1 ≤ length text = split.0 in
    let long : length x.1.now + 1 ≡ length text = split.4 in (
      byte_read text there none ∙ ap₂ (λ (a b : List ℕ). a ++ without_escapes b) (sym split.1) (sym split.2),
      omega (arith, long),
    )
