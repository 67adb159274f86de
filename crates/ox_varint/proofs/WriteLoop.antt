-- The loop of `write`: what was written so far, in front of the spelling of the rest.
use Rattle.std.proofs.Common.{◌≡◌, ℕ, zero, suc, ◌+◌, ◌-◌, ◌*◌, ◌/◌, ◌%◌, ◌^◌, ◌<◌, ◌≤◌, List, [], ◌∷◌, ◌++◌, length, take, drop, set, refl, sym, ap, ◌∙◌, append_assoc, add-one, arith}
use Rattle.std.proofs.lemmas.Bool.{lt-ltb, le-ltb}
use Rattle.std.proofs.lemmas.List.{take_more_set, drop-set-lt, drop-drop, set_split, length-append, length-take-le}
use Rattle.std.proofs.lemmas.Nat.{pow-add}
use Rattle.ox_varint.specs.Varint.{spelling_within}

pub spelled-low : (more n : ℕ) → n < 128 → spelling_within more n ≡ n ∷ []
spelled-low zero n low = refl
spelled-low (suc more) n low = rw (lt-ltb n 128 low) refl

pub spelled-high : (more n : ℕ) → 128 ≤ n → spelling_within (suc more) n ≡ (n % 128 + 128) ∷ spelling_within more (n / 128)
spelled-high more n high = rw (le-ltb n 128 high) refl

pub writes_on : (target into : List ℕ) (rest len : ℕ) → len < 18 → len < length into → 128 ≤ rest → take len into ++ spelling_within (18 - len) rest ≡ target → take (len + 1) (set into len (rest % 128 + 128)) ++ spelling_within (18 - (len + 1)) (rest / 128) ≡ target
writes_on target into rest len room within high before =
    let more : 18 - len ≡ suc (18 - (len + 1)) = omega arith in
    let front : take (len + 1) (set into len (rest % 128 + 128)) ≡ take len into ++ (rest % 128 + 128) ∷ [] = take_more_set into len (rest % 128 + 128) within in
    let here : spelling_within (18 - len) rest ≡ (rest % 128 + 128) ∷ spelling_within (18 - (len + 1)) (rest / 128) = ap (λ k. spelling_within k rest) more ∙ spelled-high (18 - (len + 1)) rest high in
    rw front (append_assoc (take len into) ((rest % 128 + 128) ∷ []) (spelling_within (18 - (len + 1)) (rest / 128)) ∙ ap (λ t. take len into ++ t) (sym here) ∙ before)

pub stays_behind : (into old : List ℕ) (len v : ℕ) → drop len into ≡ drop len old → drop (len + 1) (set into len v) ≡ drop (len + 1) old
stays_behind into old len v before =
    drop-set-lt (len + 1) into len v (omega arith) ∙ sym (drop-drop 1 len into) ∙ ap (λ t. drop 1 t) before ∙ drop-drop 1 len old

pub finishes : (target into old : List ℕ) (rest len : ℕ) → len ≤ 18 → len < length into → rest < 128 → take len into ++ spelling_within (18 - len) rest ≡ target → drop len into ≡ drop len old → (set into len rest ≡ target ++ drop (len + 1) old) × (len + 1 ≡ length target)
finishes target into old rest len room within low before with_byte =
    let text : take len into ++ rest ∷ [] ≡ target = ap (λ t. take len into ++ t) (sym (spelled-low (18 - len) rest low)) ∙ before in
    let after : drop (len + 1) into ≡ drop (len + 1) old = sym (drop-drop 1 len into) ∙ ap (λ t. drop 1 t) with_byte ∙ drop-drop 1 len old in
    let split : set into len rest ≡ take len into ++ rest ∷ drop (len + 1) into = rw add-one (set_split into len rest within) in
    let joined : take len into ++ rest ∷ drop (len + 1) old ≡ (take len into ++ rest ∷ []) ++ drop (len + 1) old = sym (append_assoc (take len into) (rest ∷ []) (drop (len + 1) old)) in
    let len-is : length (take len into ++ rest ∷ []) ≡ len + 1 = length-append (take len into) (rest ∷ []) ∙ ap (λ k. k + 1) (length-take-le len into (omega arith)) in
    (split ∙ ap (λ t. take len into ++ rest ∷ t) after ∙ joined ∙ ap (λ t. t ++ drop (len + 1) old) text, sym len-is ∙ ap length text)

-- what is left to write has so many bits
pub rest_below : (rest len : ℕ) → len < 18 → rest < 2 ^ (128 - 7 * len) → rest / 128 < 2 ^ (128 - 7 * (len + 1))
rest_below rest len room lt =
    let e : 128 - 7 * len ≡ (128 - 7 * (len + 1)) + 7 = omega arith in
    let p : 2 ^ (128 - 7 * len) ≡ 2 ^ (128 - 7 * (len + 1)) * 128 = ap (λ n. 2 ^ n) e ∙ pow-add 2 (128 - 7 * (len + 1)) 7 in
    let q : rest < 2 ^ (128 - 7 * (len + 1)) * 128 = rw p at lt in
    omega arith

pub none_left : (rest len : ℕ) → len ≤ 18 → 18 ≤ len → rest < 2 ^ (128 - 7 * len) → rest < 4
none_left rest len up low lt =
    let e : 128 - 7 * len ≡ 2 = omega arith in
    let q : rest < 2 ^ 2 = rw e at lt in
    q
