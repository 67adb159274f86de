-- Digits that were written from the last to the first, and then turned round.
use Rattle.std.proofs.Common.{◌≡◌, ℕ, ◌+◌, ◌<◌, ◌≤◌, List, [], ◌∷◌, ◌++◌, length, take, drop, set, reverse, refl, sym, ap, ◌∙◌, append_assoc, arith}
use Rattle.std.proofs.lemmas.List.{take_more_set, drop-set-lt, drop-drop, length-take-le, length-reverse, reverse-append}

pub turned_more : (into : List ℕ) (len c : ℕ) → len < length into → reverse (take (len + 1) (set into len c)) ≡ c ∷ reverse (take len into)
turned_more into len c within =
    ap reverse (take_more_set into len c within) ∙ reverse-append (take len into) (c ∷ [])

pub stays_behind : (into old : List ℕ) (len v : ℕ) → drop len into ≡ drop len old → drop (len + 1) (set into len v) ≡ drop (len + 1) old
stays_behind into old len v before =
    drop-set-lt (len + 1) into len v (omega arith) ∙ sym (drop-drop 1 len into) ∙ ap (λ t. drop 1 t) before ∙ drop-drop 1 len old

-- one digit more, in front of those that stand
pub digit_more : (target front into : List ℕ) (len c : ℕ) → len < length into → (front ++ c ∷ []) ++ reverse (take len into) ≡ target → front ++ reverse (take (len + 1) (set into len c)) ≡ target
digit_more target front into len c within before =
    rw (turned_more into len c within) (sym (append_assoc front (c ∷ []) (reverse (take len into))) ∙ before)

pub length_turned : (into : List ℕ) (len : ℕ) → len ≤ length into → length (reverse (take len into)) ≡ len
length_turned into len within = length-reverse (take len into) ∙ length-take-le len into within

-- the first digit, and all turned round
pub turned_all : (target into old : List ℕ) (len c : ℕ) → len < length into → (c ∷ []) ++ reverse (take len into) ≡ target → drop len into ≡ drop len old → (reverse (take (len + 1) (set into len c)) ++ drop (len + 1) (set into len c) ≡ target ++ drop (len + 1) old) × (len + 1 ≡ length target)
turned_all target into old len c within before behind =
    let front : reverse (take (len + 1) (set into len c)) ≡ target = turned_more into len c within ∙ before in
    let rest : drop (len + 1) (set into len c) ≡ drop (len + 1) old = stays_behind into old len c behind in
    let long : length ((c ∷ []) ++ reverse (take len into)) ≡ length target = ap length before in
    (rw (front, rest) refl, omega (arith, long, length_turned into len (omega arith)))
