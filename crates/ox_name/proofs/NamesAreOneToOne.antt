-- Names and numbers, both ways.
use Rattle.std.proofs.Common.{◌≡◌, ℕ, zero, suc, ◌+◌, ◌-◌, ◌*◌, ◌/◌, ◌%◌, ◌^◌, ◌<◌, ◌≤◌, List, [], ◌∷◌, ◌++◌, length, replicate, All, refl, sym, ap, subst, ◌∙◌, append_assoc, append-nil, lit<, lit≤, arith, inl, inr}
use Rattle.std.proofs.lemmas.Bool.{lt-ltb, le-ltb, cases_lt}
use Rattle.std.proofs.lemmas.List.{length_push}
use Rattle.std.proofs.lemmas.List.Elements.{All-nil, All-cons, All-head, All-tail, All-push}
use Rattle.ox_name.specs.Name.{IsLetter, IsName, number_with, number_after, number_of, name_within, name_of, first_of, AreOneToOne}

pub number_after-append : (n : ℕ) (xs ys : List ℕ) → number_after n (xs ++ ys) ≡ number_after (number_after n xs) ys
number_after-append n [] ys = refl
number_after-append n (x ∷ xs) ys = number_after-append (number_with n x) xs ys

number_of-push : (xs : List ℕ) (c : ℕ) → 0 < length xs → number_of (xs ++ c ∷ []) ≡ number_with (number_of xs) c
number_of-push [] c long = absurd (omega arith)
number_of-push (x ∷ xs) c long = number_after-append (x - 65) xs (c ∷ [])

pub lettered-low : (more n : ℕ) → n < 26 → name_within more n ≡ (65 + n) ∷ []
lettered-low zero n low = refl
lettered-low (suc more) n low = rw (lt-ltb n 26 low) refl

pub lettered-high : (more n : ℕ) → 26 ≤ n → name_within (suc more) n ≡ name_within more (n / 26 - 1) ++ (65 + n % 26) ∷ []
lettered-high more n high = rw (le-ltb n 26 high) refl

lettered-long : (more n : ℕ) → 0 < length (name_within more n)
lettered-long zero n = lit< tt
lettered-long (suc more) n =
    elim (cases_lt n 26) [
      | inl low ↦ rw (lettered-low (suc more) n low) (lit< tt)
      | inr high ↦ rw (lettered-high more n high) (omega (arith, length_push (name_within more (n / 26 - 1)) (65 + n % 26)))
    ]

pub lettered-short : (more n : ℕ) → length (name_within more n) ≤ more + 1
lettered-short zero n = omega arith
lettered-short (suc more) n =
    elim (cases_lt n 26) [
      | inl low ↦ rw (lettered-low (suc more) n low) (omega arith)
      | inr high ↦
          let ih = lettered-short more (n / 26 - 1) in
          rw (lettered-high more n high) (omega (arith, ih, length_push (name_within more (n / 26 - 1)) (65 + n % 26)))
    ]

number_of-lettered : (more n : ℕ) → number_of (name_within more n) ≡ n
number_of-lettered zero n = omega arith
number_of-lettered (suc more) n =
    elim (cases_lt n 26) [
      | inl low ↦ ap number_of (lettered-low (suc more) n low) ∙ omega arith
      | inr high ↦
          let m : ℕ = n / 26 - 1 in
          let c : ℕ = 65 + n % 26 in
          let ih : number_of (name_within more m) ≡ m = number_of-lettered more m in
          let e : number_with m c ≡ n = omega arith in
          ap number_of (lettered-high more n high) ∙ number_of-push (name_within more m) c (lettered-long more m) ∙ ap (λ k. number_with k c) ih ∙ e
    ]

-- the number of the first name with so many letters more than one, by recursion
abbrev pub least : ℕ → ℕ
least zero = 0
least (suc more) = 26 * (least more + 1)

pub least_all : 2 ^ 128 ≤ least 28
least_all = lit≤ tt

least-add : (a d : ℕ) → least a ≤ least (a + d)
least-add a zero = let e : a + 0 ≡ a = omega arith in rw e (omega arith)
least-add a (suc d) =
    let e : a + suc d ≡ suc (a + d) = omega arith in
    let ih : least a ≤ least (a + d) = least-add a d in
    rw e (omega arith)

pub least-mono : (a b : ℕ) → a ≤ b → least a ≤ least b
least-mono a b le = let e : a + (b - a) ≡ b = omega arith in subst (λ (k : ℕ). least a ≤ least k) e (least-add a (b - a))

pub rest_below : (rest more : ℕ) → 26 ≤ rest → rest < least (suc more) → rest / 26 - 1 < least more
rest_below rest more high lt = omega arith

lettered-is : (more n : ℕ) → n < least (suc more) → All IsLetter (name_within more n)
lettered-is zero n lt = All-cons IsLetter (65 + n) [] (omega arith, omega arith) (All-nil IsLetter)
lettered-is (suc more) n lt =
    elim (cases_lt n 26) [
      | inl low ↦ rw (lettered-low (suc more) n low) (All-cons IsLetter (65 + n) [] (omega arith, omega arith) (All-nil IsLetter))
      | inr high ↦
          let A : List ℕ → Type 0 = λ (t : List ℕ). All IsLetter t in
          subst A (sym (lettered-high more n high)) (All-push IsLetter (name_within more (n / 26 - 1)) (65 + n % 26) (lettered-is more (n / 26 - 1) (rest_below n (suc more) high lt)) (omega arith, omega arith))
    ]

-- ---- from letters to the number and back

lettered-number_after : (cs : List ℕ) (more n : ℕ) → All IsLetter cs → name_within (more + length cs) (number_after n cs) ≡ name_within more n ++ cs
lettered-number_after [] more n all = let e : more + 0 ≡ more = omega arith in rw e (sym (append-nil (name_within more n)))
lettered-number_after (c ∷ cs) more n all =
    let e : more + suc (length cs) ≡ suc more + length cs = omega arith in
    let letter = All-head IsLetter c cs all in
    let low : 65 ≤ c = letter.0 in
    let up : c ≤ 90 = letter.1 in
    let m : ℕ = number_with n c in
    let front : m / 26 - 1 ≡ n = omega arith in
    let last : 65 + m % 26 ≡ c = omega arith in
    let high : 26 ≤ m = omega arith in
    let here : name_within (suc more) m ≡ name_within more n ++ c ∷ [] = lettered-high more m high ∙ rw (front, last) refl in
    ap (λ k. name_within k (number_after m cs)) e ∙ lettered-number_after cs (suc more) m (All-tail IsLetter c cs all) ∙ ap (λ t. t ++ cs) here ∙ append_assoc (name_within more n) (c ∷ []) cs

lettered-number_of : (more : ℕ) (text : List ℕ) → IsName text → length text ≤ suc more → name_within more (number_of text) ≡ text
lettered-number_of more [] is short = absurd (omega (arith, is.0))
lettered-number_of more (c ∷ cs) is short =
    let k : ℕ = more - length cs in
    let e : k + length cs ≡ more = omega arith in
    let letter = All-head IsLetter c cs is.1 in
    let low : 65 ≤ c = letter.0 in
    let up : c ≤ 90 = letter.1 in
    let head : 65 + (c - 65) ≡ c = omega arith in
    ap (λ j. name_within j (number_after (c - 65) cs)) (sym e) ∙ lettered-number_after cs k (c - 65) (All-tail IsLetter c cs is.1) ∙ ap (λ t. t ++ cs) (lettered-low k (c - 65) (omega arith)) ∙ ap (λ x. x ∷ cs) head

pub number_after-ge : (n : ℕ) (cs : List ℕ) → n ≤ number_after n cs
number_after-ge n [] = omega arith
number_after-ge n (c ∷ cs) = omega (arith, number_after-ge (number_with n c) cs)

number_after-least : (cs : List ℕ) (more n : ℕ) → least more ≤ n → least (more + length cs) ≤ number_after n cs
number_after-least [] more n le = let e : more + 0 ≡ more = omega arith in rw e le
number_after-least (c ∷ cs) more n le =
    let e : more + suc (length cs) ≡ suc more + length cs = omega arith in
    rw e (number_after-least cs (suc more) (number_with n c) (omega arith))

is_short : (text : List ℕ) → IsName text → number_of text < 2 ^ 128 → length text ≤ 28
is_short [] is lt = omega arith
is_short (c ∷ cs) is lt =
    elim (cases_lt (length cs) 28) [
      | inl short ↦ omega arith
      | inr long ↦
          let e : 0 + length cs ≡ length cs = omega arith in
          let low : least (0 + length cs) ≤ number_after (c - 65) cs = number_after-least cs 0 (c - 65) (omega arith) in
          let up : least 28 ≤ least (length cs) = least-mono 28 (length cs) long in
          let low' : least (length cs) ≤ number_after (c - 65) cs = rw e at low in
          let all : 2 ^ 128 ≤ least 28 = least_all in
          absurd (omega arith)
    ]

-- ---- the laws

pub name_of-is : (n : ℕ) → n < 2 ^ 128 → IsName (name_of n)
unfolding name_of
name_of-is n lt = (lettered-long 27 n, lettered-is 27 n (omega (arith, least_all)))

pub number_of-name_of : (n : ℕ) → number_of (name_of n) ≡ n
unfolding name_of
number_of-name_of n = number_of-lettered 27 n

pub name_of-short : (n : ℕ) → length (name_of n) ≤ 28
unfolding name_of
name_of-short n = lettered-short 27 n

name_of-number_of : (text : List ℕ) → IsName text → number_of text < 2 ^ 128 → name_of (number_of text) ≡ text
unfolding name_of
name_of-number_of text is lt = lettered-number_of 27 text is (is_short text is lt)

one_name : (a b : List ℕ) → IsName a → IsName b → number_of a ≡ number_of b → a ≡ b
one_name a b is_a is_b e =
    let more : ℕ = length a + length b in
    sym (lettered-number_of more a is_a (omega arith)) ∙ ap (name_within more) e ∙ lettered-number_of more b is_b (omega arith)

pub one_to_one : AreOneToOne
one_to_one = record {
  named = name_of-is;
  numbered = λ n lt. number_of-name_of n;
  only = name_of-number_of;
  apart = one_name;
}

-- ---- the first names of each length

number_after-replicate : (k n more : ℕ) → n ≡ least more → number_after n (replicate k 65) ≡ least (more + k)
number_after-replicate zero n more e = let f : more + 0 ≡ more = omega arith in e ∙ ap least (sym f)
number_after-replicate (suc k) n more e =
    let f : more + suc k ≡ suc more + k = omega arith in
    number_after-replicate k (number_with n 65) (suc more) (omega arith) ∙ ap least (sym f)

pub first_of-least : (more : ℕ) → first_of more ≡ least more
first_of-least more = let f : 0 + more ≡ more = omega arith in number_after-replicate more 0 0 refl ∙ ap least f

pub first_of-mono : (a b : ℕ) → a ≤ b → first_of a ≤ first_of b
first_of-mono a b le = rw (first_of-least a, first_of-least b) (least-mono a b le)
