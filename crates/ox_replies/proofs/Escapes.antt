-- Names without an escape are read as they stand.
use Rattle.std.proofs.Common.{◌≡◌, ◌≢◌, ℕ, zero, suc, ◌/◌, ◌%◌, ◌<◌, ◌≤◌, ◌==◌, Bool, true, false, cond, ◌&&◌, eqb-true, List, [], ◌∷◌, ◌++◌, drop, codes, nat_eq, refl, sym, ap, ◌∙◌, arith}
use Rattle.std.specs.Prelude.{All}
use Rattle.std.specs.List.{starts_with}
use Rattle.std.proofs.lemmas.List.Elements.{All-head, All-tail}
use Rattle.ox_name.specs.Name.{IsLetter}
use Rattle.ox_name.specs.Spaced.{bullet, gap, spaced_name}
use Rattle.ox_replies.specs.Named.{without_escapes, unescaped_past}

pub past_dropped : (n : ℕ) (text : List ℕ) → unescaped_past n text ≡ without_escapes (drop n text)
unfolding unescaped_past
past_dropped zero text = refl
past_dropped (suc n) [] = refl
past_dropped (suc n) (c ∷ cs) = past_dropped n cs

-- an escape is a spacer
pub escape_read : (text : List ℕ) → without_escapes (codes "%E2%80%A2" ++ text) ≡ bullet ++ without_escapes text
unfolding unescaped_past
escape_read text = refl

-- no escape begins with this byte
begins_none : (c : ℕ) (cs : List ℕ) → c ≢ 37 → starts_with nat_eq (c ∷ cs) (codes "%E2%80%A2") ≡ false
begins_none c cs other = by (nat_eq 37 c) refl
  where
    by : (v : Bool) → nat_eq 37 c ≡ v → starts_with nat_eq (c ∷ cs) (codes "%E2%80%A2") ≡ false
    by true e = absurd (other (sym (eqb-true 37 c e)))
    by false e = ap (λ v. v && starts_with nat_eq cs (codes "E2%80%A2")) e

pub other_read : (c : ℕ) (text : List ℕ) → c ≢ 37 → without_escapes (c ∷ text) ≡ c ∷ without_escapes text
unfolding unescaped_past
other_read c text other = ap (λ v. cond v (bullet ++ unescaped_past 8 text) (c ∷ without_escapes text)) (begins_none c text other)

-- all bytes are above the signs that separate
abbrev pub IsHigh : List ℕ → Type 0
IsHigh [] = Unit {0}
IsHigh (c ∷ cs) = (60 < c) × IsHigh cs

pub high-append : (xs ys : List ℕ) → IsHigh xs → IsHigh ys → IsHigh (xs ++ ys)
high-append [] ys h k = k
high-append (x ∷ xs) ys h k = (h.0, high-append xs ys h.1 k)

pub high_letters : (text : List ℕ) → All IsLetter text → IsHigh text
high_letters [] all = tt
high_letters (c ∷ cs) all =
    let letter : IsLetter c = All-head IsLetter c cs all in
    let low : 65 ≤ c = letter.0 in
    (omega (arith, low), high_letters cs (All-tail IsLetter c cs all))

high_gap : (spacers : ℕ) → IsHigh (gap spacers)
high_gap spacers = by (spacers % 2 == 1)
  where
    by : (v : Bool) → IsHigh (cond v bullet [])
    by true = (omega arith, (omega arith, (omega arith, tt)))
    by false = tt

pub high_spaced : (spacers : ℕ) (text : List ℕ) → IsHigh text → IsHigh (spaced_name spacers text)
high_spaced spacers [] h = tt
high_spaced spacers (c ∷ []) h = h
high_spaced spacers (c ∷ d ∷ cs) h = (h.0, high-append (gap spacers) (spaced_name (spacers / 2) (d ∷ cs)) (high_gap spacers) (high_spaced (spacers / 2) (d ∷ cs) h.1))

pub high_read : (text : List ℕ) → IsHigh text → without_escapes text ≡ text
unfolding unescaped_past
high_read [] h = refl
high_read (c ∷ cs) h = other_read c cs (λ e. let high : 60 < c = h.0 in omega (arith, e, high)) ∙ ap (λ t. c ∷ t) (high_read cs h.1)

-- there is no colon among them
pub no_colon_in : (front rest : List ℕ) → IsHigh (front ++ 58 ∷ rest) → ⊥
no_colon_in [] rest h = let high : 60 < 58 = h.0 in omega (arith, high)
no_colon_in (c ∷ cs) rest h = no_colon_in cs rest h.1
