-- The grammar and the reader: what is read stands there, what stands there is read, and when each fault comes.
use Rattle.std.proofs.Common.{◌≡◌, ◌≢◌, ℕ, zero, suc, ◌+◌, ◌-◌, ◌*◌, ◌/◌, ◌%◌, ◌^◌, ◌<◌, ◌≤◌, List, [], ◌∷◌, ◌++◌, length, take, get_or, Result, Ok, Err, All, refl, sym, ap, subst, ◌∙◌, lit<, add-one, arith, inl, inr}
use Rattle.std.proofs.lemmas.Bool.{lt-ltb, le-ltb, le-leb, lt-leb, cases_lt}
use Rattle.std.proofs.Math.Nat.{pow-suc}
use Rattle.std.proofs.lemmas.List.Elements.{All-nil, All-cons, All-head, All-tail}
use Rattle.ox_varint.specs.declared.VarintFault.{VarintFault}
use Rattle.ox_varint.specs.declared.VarintFault.TheVariants.{Truncated, Overflow}
use Rattle.ox_varint.specs.Varint.{IsVarint, IsShortest, GoesOn, with_byte, varint_within, varint_at, spelling_within, varint, ReadsBack}
use Rattle.ox_varint.proofs.WriteLoop.{spelled-low, spelled-high}

abbrev pub IsBytes : List ℕ → Type 0
IsBytes bytes = (i : ℕ) → get_or bytes i 0 < 256

abbrev ok_of : ℕ → ℕ → Result (ℕ × ℕ) VarintFault
ok_of n k = Ok (n, k)

within-last : (more b : ℕ) (bs : List ℕ) → b ≤ 3 → varint_within more (b ∷ bs) ≡ ok_of b 1
within-last zero b bs low = rw (le-leb b 3 low) refl
within-last (suc more) b bs low = let lt : b < 128 = omega arith in rw (lt-ltb b 128 lt) refl

within-low : (more b : ℕ) (bs : List ℕ) → b < 128 → varint_within (suc more) (b ∷ bs) ≡ ok_of b 1
within-low more b bs low = rw (lt-ltb b 128 low) refl

within-high : (more b : ℕ) (bs : List ℕ) → 128 ≤ b → varint_within (suc more) (b ∷ bs) ≡ with_byte b (varint_within more bs)
within-high more b bs high = rw (le-ltb b 128 high) refl

within-over : (b : ℕ) (bs : List ℕ) → 3 < b → varint_within zero (b ∷ bs) ≡ Err Overflow
within-over b bs high = rw (lt-leb b 3 high) refl

ok_of-parts : (m j n k : ℕ) → ok_of m j ≡ ok_of n k → (m ≡ n) × (j ≡ k)
ok_of-parts m j n k e = let p : ◌≡◌ {A = ℕ × ℕ} (m, j) (n, k) = cc in (ap (λ (x : ℕ × ℕ). x.0) p, ap (λ (x : ℕ × ℕ). x.1) p)

IsVarint-cons : (b : ℕ) (text : List ℕ) (high n : ℕ) → 128 ≤ b → b < 256 → n + 128 ≡ b + 128 * high → IsVarint text high → IsVarint (b ∷ text) n
IsVarint-cons b [] high n low up e h = absurd h
IsVarint-cons b (c ∷ cs) high n low up e h = (low, up, (high, (e, h)))

pub record Found (more : ℕ) (bytes : List ℕ) (n len : ℕ) : Type 0 where
  pub spelled : IsVarint (take len bytes) n
  pub some : 0 < len
  pub within : len ≤ length bytes
  pub short : len ≤ more + 1

found-one : (more b : ℕ) (bs : List ℕ) (n len : ℕ) → b < 128 → ok_of b 1 ≡ ok_of n len → Found more (b ∷ bs) n len
found-one more b bs n len low e =
    let p = ok_of-parts b 1 n len e in
    let F : ℕ → Type 0 = λ (k : ℕ). Found more (b ∷ bs) n k in
    subst F p.1 (record { spelled = (low, sym p.0); some = omega arith; within = omega arith; short = omega arith })

found-behind : (more b : ℕ) (bs : List ℕ) (r : Result (ℕ × ℕ) VarintFault) (n len : ℕ) → 128 ≤ b → b < 256 → ((m j : ℕ) → r ≡ ok_of m j → Found more bs m j) → with_byte b r ≡ ok_of n len → Found (suc more) (b ∷ bs) n len
found-behind more b bs (Err fault) n len high up rest e = absurd cc
found-behind more b bs (Ok x) n len high up rest e =
    let p = ok_of-parts (b - 128 + 128 * x.0) (x.1 + 1) n len e in
    let f = rest x.0 x.1 refl in
    let F : ℕ → Type 0 = λ (k : ℕ). Found (suc more) (b ∷ bs) n k in
    let j : suc x.1 ≡ len = sym (add-one x.1) ∙ p.1 in
    let q : b - 128 + 128 * x.0 ≡ n = p.0 in
    let w : x.1 ≤ length bs = f.within in
    let s : x.1 ≤ more + 1 = f.short in
    subst F j (record { spelled = IsVarint-cons b (take x.1 bs) x.0 n high up (omega arith) f.spelled; some = omega arith; within = omega arith; short = omega arith })

pub is_found : (more : ℕ) (bytes : List ℕ) (n len : ℕ) → IsBytes bytes → varint_within more bytes ≡ ok_of n len → Found more bytes n len
is_found zero [] n len fits e = absurd cc
is_found (suc more) [] n len fits e = absurd cc
is_found zero (b ∷ bs) n len fits e =
    elim (cases_lt 3 b) [
      | inl over ↦ let x : Err Overflow ≡ ok_of n len = sym (within-over b bs over) ∙ e in absurd cc
      | inr low ↦ found-one zero b bs n len (omega arith) (sym (within-last zero b bs low) ∙ e)
    ]
is_found (suc more) (b ∷ bs) n len fits e =
    elim (cases_lt b 128) [
      | inl low ↦ found-one (suc more) b bs n len low (sym (within-low more b bs low) ∙ e)
      | inr high ↦ found-behind more b bs (varint_within more bs) n len high (fits 0) (λ m j h. is_found more bs m j (λ i. fits (suc i)) h) (sym (within-high more b bs high) ∙ e)
    ]

pub is_read : (more : ℕ) (text rest : List ℕ) (n : ℕ) → IsVarint text n → length text ≤ suc more → n < 4 * 128 ^ more → varint_within more (text ++ rest) ≡ ok_of n (length text)
is_read more [] rest n h short lt = absurd h
is_read zero (b ∷ []) rest n h short lt = within-last zero b rest (omega (arith, h.1)) ∙ ap (λ k. ok_of k 1) (sym h.1)
is_read (suc more) (b ∷ []) rest n h short lt = within-low more b rest h.0 ∙ ap (λ k. ok_of k 1) (sym h.1)
is_read zero (b ∷ c ∷ bs) rest n h short lt = absurd (omega arith)
is_read (suc more) (b ∷ c ∷ bs) rest n (low, up, (high, (e, h))) short lt =
    let p : 128 ^ suc more ≡ 128 ^ more * 128 = pow-suc 128 more in
    let q : n < 4 * (128 ^ more * 128) = rw p at lt in
    let r : high < 4 * 128 ^ more = omega arith in
    let ih : varint_within more ((c ∷ bs) ++ rest) ≡ ok_of high (suc (length bs)) = is_read more (c ∷ bs) rest high h (omega arith) r in
    let v : b - 128 + 128 * high ≡ n = omega arith in
    let k : suc (length bs) + 1 ≡ suc (suc (length bs)) = omega arith in
    within-high more b ((c ∷ bs) ++ rest) low ∙ ap (with_byte b) ih ∙ rw (v, k) refl

-- ---- the faults

behind-fault : (b : ℕ) (r : Result (ℕ × ℕ) VarintFault) (fault : VarintFault) → with_byte b r ≡ Err fault → r ≡ Err fault
behind-fault b (Ok x) fault e = absurd cc
behind-fault b (Err f) fault e = e

pub truncated : (more : ℕ) (bytes : List ℕ) → varint_within more bytes ≡ Err Truncated → (length bytes ≤ more) × All GoesOn bytes
truncated more [] e = (omega arith, All-nil GoesOn)
truncated zero (b ∷ bs) e =
    elim (cases_lt 3 b) [
      | inl over ↦ let x : Err Overflow ≡ Err Truncated = sym (within-over b bs over) ∙ e in absurd cc
      | inr low ↦ let x : ok_of b 1 ≡ Err Truncated = sym (within-last zero b bs low) ∙ e in absurd cc
    ]
truncated (suc more) (b ∷ bs) e =
    elim (cases_lt b 128) [
      | inl low ↦ let x : ok_of b 1 ≡ Err Truncated = sym (within-low more b bs low) ∙ e in absurd cc
      | inr high ↦
          let ih = truncated more bs (behind-fault b (varint_within more bs) Truncated (sym (within-high more b bs high) ∙ e)) in
          let len : length bs ≤ more = ih.0 in
          (omega arith, All-cons GoesOn b bs high ih.1)
    ]

pub truncates : (more : ℕ) (bytes : List ℕ) → length bytes ≤ more → All GoesOn bytes → varint_within more bytes ≡ Err Truncated
truncates zero [] short all = refl
truncates (suc more) [] short all = refl
truncates zero (b ∷ bs) short all = absurd (omega arith)
truncates (suc more) (b ∷ bs) short all =
    within-high more b bs (All-head GoesOn b bs all) ∙ ap (with_byte b) (truncates more bs (omega arith) (All-tail GoesOn b bs all))

pub overflowed : (more : ℕ) (bytes : List ℕ) → varint_within more bytes ≡ Err Overflow → (more < length bytes) × All GoesOn (take more bytes) × (3 < get_or bytes more 0)
overflowed zero [] e = absurd cc
overflowed (suc more) [] e = absurd cc
overflowed zero (b ∷ bs) e =
    elim (cases_lt 3 b) [
      | inl over ↦ (omega arith, All-nil GoesOn, over)
      | inr low ↦ let x : ok_of b 1 ≡ Err Overflow = sym (within-last zero b bs low) ∙ e in absurd cc
    ]
overflowed (suc more) (b ∷ bs) e =
    elim (cases_lt b 128) [
      | inl low ↦ let x : ok_of b 1 ≡ Err Overflow = sym (within-low more b bs low) ∙ e in absurd cc
      | inr high ↦
          let ih = overflowed more bs (behind-fault b (varint_within more bs) Overflow (sym (within-high more b bs high) ∙ e)) in
          let len : more < length bs = ih.0 in
          (omega arith, All-cons GoesOn b (take more bs) high ih.1, ih.2)
    ]

pub overflows : (more : ℕ) (bytes : List ℕ) → more < length bytes → All GoesOn (take more bytes) → 3 < get_or bytes more 0 → varint_within more bytes ≡ Err Overflow
overflows more [] long all over = absurd (omega arith)
overflows zero (b ∷ bs) long all over = within-over b bs over
overflows (suc more) (b ∷ bs) long all over =
    within-high more b bs (All-head GoesOn b (take more bs) all) ∙ ap (with_byte b) (overflows more bs (omega arith) (All-tail GoesOn b (take more bs) all) over)

-- ---- the spelling that is written

pub spelled-is : (more n : ℕ) → n < 4 * 128 ^ more → IsVarint (spelling_within more n) n
spelled-is zero n lt = (omega arith, refl)
spelled-is (suc more) n lt =
    elim (cases_lt n 128) [
      | inl low ↦ rw (spelled-low (suc more) n low) (low, refl)
      | inr high ↦
          let p : 128 ^ suc more ≡ 128 ^ more * 128 = pow-suc 128 more in
          let q : n < 4 * (128 ^ more * 128) = rw p at lt in
          let r : n / 128 < 4 * 128 ^ more = omega arith in
          rw (spelled-high more n high) (IsVarint-cons (n % 128 + 128) (spelling_within more (n / 128)) (n / 128) n (omega arith) (omega arith) (omega arith) (spelled-is more (n / 128) r))
    ]

pub spelled-long : (more n : ℕ) → 0 < length (spelling_within more n)
spelled-long zero n = lit< tt
spelled-long (suc more) n =
    elim (cases_lt n 128) [
      | inl low ↦ rw (spelled-low (suc more) n low) (lit< tt)
      | inr high ↦ rw (spelled-high more n high) (omega arith)
    ]

pub spelled-short : (more n : ℕ) → length (spelling_within more n) ≤ more + 1
spelled-short zero n = omega arith
spelled-short (suc more) n =
    elim (cases_lt n 128) [
      | inl low ↦ rw (spelled-low (suc more) n low) (omega arith)
      | inr high ↦ let ih : length (spelling_within more (n / 128)) ≤ more + 1 = spelled-short more (n / 128) in rw (spelled-high more n high) (omega arith)
    ]

get_or-last : (b : ℕ) (bs : List ℕ) → 0 < length bs → get_or (b ∷ bs) (length (b ∷ bs) - 1) 0 ≡ get_or bs (length bs - 1) 0
get_or-last b [] h = absurd (omega arith)
get_or-last b (c ∷ cs) h =
    let e : suc (suc (length cs)) - 1 ≡ suc (length cs) = omega arith in
    let f : suc (length cs) - 1 ≡ length cs = omega arith in
    rw (e, f) refl

spelled-last : (more n : ℕ) → 0 < n → get_or (spelling_within more n) (length (spelling_within more n) - 1) 0 ≢ 0
spelled-last zero n h = omega arith
spelled-last (suc more) n h =
    elim (cases_lt n 128) [
      | inl low ↦ rw (spelled-low (suc more) n low) (omega arith)
      | inr high ↦
          let up : 0 < n / 128 = omega arith in
          rw (spelled-high more n high) (λ z. spelled-last more (n / 128) up (sym (get_or-last (n % 128 + 128) (spelling_within more (n / 128)) (spelled-long more (n / 128))) ∙ z))
    ]

pub spelled-shortest : (more n : ℕ) → IsShortest (spelling_within more n)
spelled-shortest more n =
    elim (cases_lt n 128) [
      | inl low ↦ inl (ap length (spelled-low more n low))
      | inr high ↦ inr (spelled-last more n (omega arith))
    ]

pub varint-is : (n : ℕ) → n < 2 ^ 128 → IsVarint (varint n) n
unfolding varint
varint-is n lt = spelled-is 18 n lt

pub varint-shortest : (n : ℕ) → IsShortest (varint n)
unfolding varint
varint-shortest n = spelled-shortest 18 n

pub varint-short : (n : ℕ) → length (varint n) ≤ 19
unfolding varint
varint-short n = spelled-short 18 n

pub varint-long : (n : ℕ) → 0 < length (varint n)
unfolding varint
varint-long n = spelled-long 18 n

-- what was written is read back with its length, whatever follows it
pub varint_at-varint : ReadsBack
unfolding varint_at
varint_at-varint n rest lt = is_read 18 (varint n) rest n (varint-is n lt) (varint-short n) lt
