-- A number's bytes from the lowest on, and the loop that writes them.
use Rattle.std.proofs.Common.{◌≡◌, ◌≢◌, ℕ, zero, suc, ◌+◌, ◌-◌, ◌*◌, ◌/◌, ◌%◌, ◌^◌, ◌<◌, ◌≤◌, ◌⊎◌, List, [], ◌∷◌, ◌++◌, length, get_or, take, drop, set, refl, sym, ap, ◌∙◌, append_assoc, append-nil, lit<, arith, inl, inr}
use Rattle.std.proofs.Math.Nat.{pow-suc}
use Rattle.std.proofs.lemmas.Bool.{ne_eqb, cases_lt}
use Rattle.std.proofs.lemmas.List.{take_more_set, length-take-le, take-append-drop, take_at, get_or_append_left}
use Rattle.std.proofs.lemmas.Nat.{pow-add}
use Rattle.ox_name.specs.Unlock.{bytes_within, commitment_of, bytes_value}

pub bytes_within-none : (more : ℕ) → bytes_within more 0 ≡ []
bytes_within-none zero = refl
bytes_within-none (suc more) = refl

pub bytes_within-some : (more n : ℕ) → 0 < n → bytes_within (suc more) n ≡ (n % 256) ∷ bytes_within more (n / 256)
bytes_within-some more n some = rw (ne_eqb n 0 (omega arith)) refl

value_of : (more n : ℕ) → n < 256 ^ more → bytes_value (bytes_within more n) ≡ n
value_of zero n lt = omega arith
value_of (suc more) n lt =
    elim (cases_lt 0 n) [
      | inl some ↦
          let p : 256 ^ suc more ≡ 256 ^ more * 256 = pow-suc 256 more in
          let q : n < 256 ^ more * 256 = rw p at lt in
          let r : n / 256 < 256 ^ more = omega arith in
          let ih : bytes_value (bytes_within more (n / 256)) ≡ n / 256 = value_of more (n / 256) r in
          let e : n % 256 + 256 * (n / 256) ≡ n = omega arith in
          ap bytes_value (bytes_within-some more n some) ∙ ap (λ k. n % 256 + 256 * k) ih ∙ e
      | inr none ↦ let e : n ≡ 0 = omega arith in rw e refl
    ]

short : (more n : ℕ) → length (bytes_within more n) ≤ more
short zero n = omega arith
short (suc more) n =
    elim (cases_lt 0 n) [
      | inl some ↦ let ih = short more (n / 256) in rw (bytes_within-some more n some) (omega (arith, ih))
      | inr none ↦ let e : n ≡ 0 = omega arith in rw e (omega arith)
    ]

get_or-last : (b : ℕ) (bs : List ℕ) → 0 < length bs → get_or (b ∷ bs) (length (b ∷ bs) - 1) 0 ≡ get_or bs (length bs - 1) 0
get_or-last b [] h = absurd (omega arith)
get_or-last b (c ∷ cs) h =
    let e : suc (suc (length cs)) - 1 ≡ suc (length cs) = omega arith in
    let f : suc (length cs) - 1 ≡ length cs = omega arith in
    rw (e, f) refl

-- the last byte isn't 0
ends_high : (more n : ℕ) → 0 < n → n < 256 ^ more → (0 < length (bytes_within more n)) × (get_or (bytes_within more n) (length (bytes_within more n) - 1) 0 ≢ 0)
ends_high zero n some lt = absurd (omega arith)
ends_high (suc more) n some lt =
    let p : 256 ^ suc more ≡ 256 ^ more * 256 = pow-suc 256 more in
    let q : n < 256 ^ more * 256 = rw p at lt in
    let r : n / 256 < 256 ^ more = omega arith in
    elim (cases_lt 0 (n / 256)) [
      | inl rest ↦
          let ih = ends_high more (n / 256) rest r in
          rw (bytes_within-some more n some) (omega arith, λ z. ih.1 (sym (get_or-last (n % 256) (bytes_within more (n / 256)) ih.0) ∙ z))
      | inr none ↦
          let e : n / 256 ≡ 0 = omega arith in
          let one : bytes_within (suc more) n ≡ (n % 256) ∷ [] = bytes_within-some more n some ∙ ap (λ t. (n % 256) ∷ t) (ap (bytes_within more) e ∙ bytes_within-none more) in
          rw one (lit< tt, omega arith)
    ]

pub commitment-value : (n : ℕ) → n < 2 ^ 128 → bytes_value (commitment_of n) ≡ n
unfolding commitment_of
commitment-value n lt = value_of 16 n lt

pub commitment-ends_high : (n : ℕ) → n < 2 ^ 128 → (length (commitment_of n) ≡ 0) ⊎ (get_or (commitment_of n) (length (commitment_of n) - 1) 0 ≢ 0)
unfolding commitment_of
commitment-ends_high n lt =
    elim (cases_lt 0 n) [
      | inl some ↦ inr (ends_high 16 n some lt).1
      | inr none ↦ let e : n ≡ 0 = omega arith in inl (ap length (ap (bytes_within 16) e))
    ]

-- ---- the loop

pub writes_on : (target into : List ℕ) (rest len : ℕ) → len < 16 → len < length into → 0 < rest → take len into ++ bytes_within (16 - len) rest ≡ target → take (len + 1) (set into len (rest % 256)) ++ bytes_within (16 - (len + 1)) (rest / 256) ≡ target
writes_on target into rest len room within some before =
    let more : 16 - len ≡ suc (16 - (len + 1)) = omega arith in
    let front : take (len + 1) (set into len (rest % 256)) ≡ take len into ++ (rest % 256) ∷ [] = take_more_set into len (rest % 256) within in
    let here : bytes_within (16 - len) rest ≡ (rest % 256) ∷ bytes_within (16 - (len + 1)) (rest / 256) = ap (λ k. bytes_within k rest) more ∙ bytes_within-some (16 - (len + 1)) rest some in
    rw front (append_assoc (take len into) ((rest % 256) ∷ []) (bytes_within (16 - (len + 1)) (rest / 256)) ∙ ap (λ t. take len into ++ t) (sym here) ∙ before)

pub rest_below : (rest len : ℕ) → len < 16 → rest < 2 ^ (128 - 8 * len) → rest / 256 < 2 ^ (128 - 8 * (len + 1))
rest_below rest len room lt =
    let e : 128 - 8 * len ≡ (128 - 8 * (len + 1)) + 8 = omega arith in
    let p : 2 ^ (128 - 8 * len) ≡ 2 ^ (128 - 8 * (len + 1)) * 256 = ap (λ n. 2 ^ n) e ∙ pow-add 2 (128 - 8 * (len + 1)) 8 in
    let q : rest < 2 ^ (128 - 8 * (len + 1)) * 256 = rw p at lt in
    omega arith

pub has_room : (rest len : ℕ) → len ≤ 16 → 0 < rest → rest < 2 ^ (128 - 8 * len) → len < 16
has_room rest len up some lt =
    elim (cases_lt len 16) [
      | inl below ↦ below
      | inr above ↦
          let e : 128 - 8 * len ≡ 0 = omega arith in
          let q : rest < 2 ^ 0 = rw e at lt in
          absurd (omega arith)
    ]

pub all_written : (target into old : List ℕ) (rest len : ℕ) → rest ≤ 0 → len ≤ length into → take len into ++ bytes_within (16 - len) rest ≡ target → drop len into ≡ drop len old → (into ≡ target ++ drop len old) × (len ≡ length target)
all_written target into old rest len none within before behind =
    let e : rest ≡ 0 = omega arith in
    let no : bytes_within (16 - len) rest ≡ [] = ap (bytes_within (16 - len)) e ∙ bytes_within-none (16 - len) in
    let all : take len into ≡ target = sym (append-nil (take len into)) ∙ ap (λ t. take len into ++ t) (sym no) ∙ before in
    (sym (take-append-drop len into) ∙ ap (λ t. t ++ drop len into) all ∙ ap (λ t. target ++ t) behind, sym (length-take-le len into within) ∙ ap length all)

pub value_in : (n len : ℕ) (new rest : List ℕ) → n < 2 ^ 128 → len ≡ length (commitment_of n) → new ≡ commitment_of n ++ rest → bytes_value (take len new) ≡ n
value_in n len new rest lt long is = ap bytes_value (ap (take len) is ∙ take_at (commitment_of n) rest len (sym long)) ∙ commitment-value n lt

pub end_in : (n len : ℕ) (new rest : List ℕ) → n < 2 ^ 128 → len ≡ length (commitment_of n) → new ≡ commitment_of n ++ rest → (len ≡ 0) ⊎ (get_or new (len - 1) 0 ≢ 0)
end_in n len new rest lt long is =
    elim (cases_lt 0 len) [
      | inl some ↦
          elim (commitment-ends_high n lt) [
            | inl none ↦ inl (long ∙ none)
            | inr high ↦
                let at : get_or new (len - 1) 0 ≡ get_or (commitment_of n) (length (commitment_of n) - 1) 0 = ap (λ t. get_or t (len - 1) 0) is ∙ get_or_append_left (commitment_of n) rest 0 (len - 1) (omega arith) ∙ ap (λ k. get_or (commitment_of n) (k - 1) 0) long in
                inr (λ z. high (sym at ∙ z))
          ]
      | inr none ↦ inl (omega arith)
    ]
