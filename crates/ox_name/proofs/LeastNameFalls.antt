-- How the least name falls from height to height.
use Rattle.std.proofs.Common.{◌≡◌, ℕ, ◌+◌, ◌-◌, ◌*◌, ◌/◌, ◌%◌, ◌<◌, ◌≤◌, refl, ap, ◌∙◌, arith, inl, inr}
use Rattle.std.proofs.Math.Nat.{div-le_of_le-mul, div-le_self}
use Rattle.std.proofs.lemmas.Bool.{cases_lt, lt-ltb, le-ltb, le-leb, lt-leb}
use Rattle.std.proofs.lemmas.Nat.{mul-le, mod_below, div_below, div-add-mod', div-mul-add, mod-mul-add}
use Rattle.ox_name.specs.Name.{first_of}
use Rattle.ox_name.specs.Unlock.{least_between, least_after, least_name}
use Rattle.ox_name.proofs.NamesAreOneToOne.{first_of-mono}

-- a later place is lower, and none is below the first name with one letter less
div-mono : (a b n : ℕ) → 0 < n → a ≤ b → a / n ≤ b / n
div-mono a b n some le =
    let d : b / n * n + b % n ≡ b = div-add-mod' b n in
    let r : b % n < n = mod_below b n some in
    let s : a < (b / n + 1) * n = (let e : (b / n + 1) * n ≡ b / n * n + n = omega arith in omega (arith, d, r, le, e)) in
    omega (arith, div_below a n (b / n + 1) some s)

least_between-later : (more interval a b : ℕ) → 0 < interval → a ≤ b → least_between more interval b ≤ least_between more interval a
least_between-later more interval a b some le =
    let d : ℕ = first_of more - first_of (more - 1) in
    let product : (first_of more - first_of (more - 1)) * a ≤ (first_of more - first_of (more - 1)) * b = mul-le (first_of more - first_of (more - 1)) a (first_of more - first_of (more - 1)) b (omega arith) le in
    let quotient = div-mono ((first_of more - first_of (more - 1)) * a) ((first_of more - first_of (more - 1)) * b) interval some product in
    omega (arith, quotient)

least_between-least : (more interval place : ℕ) → place < interval → first_of (more - 1) ≤ least_between more interval place
least_between-least more interval place within =
    let product : (first_of more - first_of (more - 1)) * place ≤ (first_of more - first_of (more - 1)) * interval = mul-le (first_of more - first_of (more - 1)) place (first_of more - first_of (more - 1)) interval (omega arith) (omega arith) in
    let turned : (first_of more - first_of (more - 1)) * interval ≡ interval * (first_of more - first_of (more - 1)) = omega arith in
    let quotient : (first_of more - first_of (more - 1)) * place / interval ≤ first_of more - first_of (more - 1) = div-le_of_le-mul interval (omega (arith, product, turned)) in
    let mono : first_of (more - 1) ≤ first_of more = first_of-mono (more - 1) more (omega arith) in
    omega (arith, quotient, mono)

least_between-start : (more interval : ℕ) → least_between more interval 0 ≡ first_of more
least_between-start more interval =
    let none : (first_of more - first_of (more - 1)) * 0 ≡ 0 = omega arith in
    let quotient = div-le_self ((first_of more - first_of (more - 1)) * 0) interval in
    omega (arith, none, quotient)

least_between-most : (more interval place : ℕ) → least_between more interval place ≤ first_of more
least_between-most more interval place = omega arith

after-within : (interval p : ℕ) → p < 12 * interval → least_after interval p ≡ least_between (12 - p / interval) interval (p % interval)
after-within interval p h = rw (lt-leb (12 * interval) p h) refl

after-past : (interval p : ℕ) → 12 * interval ≤ p → least_after interval p ≡ 0
after-past interval p h = rw (le-leb (12 * interval) p h) refl

after-most : (interval p : ℕ) → least_after interval p ≤ first_of 12
after-most interval p =
    elim (cases_lt p (12 * interval)) [
      | inl h ↦ rw (after-within interval p h) (let top = first_of-mono (12 - p / interval) 12 (omega arith) in let most = least_between-most (12 - p / interval) interval (p % interval) in omega (arith, top, most))
      | inr h ↦ rw (after-past interval p h) (omega arith)
    ]

after-later : (interval p q : ℕ) → p ≤ q → least_after interval q ≤ least_after interval p
after-later interval p q le =
    elim (cases_lt q (12 * interval)) [
      | inr h ↦ rw (after-past interval q h) (omega arith)
      | inl h ↦
          let some : 0 < interval = omega arith in
          let early : p < 12 * interval = omega arith in
          let steps : p / interval ≤ q / interval = div-mono p q interval some le in
          let last : q / interval < 12 = div_below q interval 12 some h in
          let place : p % interval < interval = mod_below p interval some in
          rw (after-within interval q h, after-within interval p early) (elim (cases_lt (p / interval) (q / interval)) [
            | inl less ↦
                let most = least_between-most (12 - q / interval) interval (q % interval) in
                let least = least_between-least (12 - p / interval) interval (p % interval) place in
                let mono : first_of (12 - q / interval) ≤ first_of (12 - p / interval - 1) = first_of-mono (12 - q / interval) (12 - p / interval - 1) (omega arith) in
                omega (arith, most, least, mono)
            | inr same ↦
                let e : q / interval ≡ p / interval = omega arith in
                let dp = div-add-mod' p interval in
                let dq = div-add-mod' q interval in
                let ep : q / interval * interval ≡ p / interval * interval = ap (λ n. n * interval) e in
                rw e (least_between-later (12 - p / interval) interval (p % interval) (q % interval) some (omega (arith, dp, dq, ep, le)))
          ])
    ]

pub least-falls : (start interval low high : ℕ) → low ≤ high → least_name start interval high ≤ least_name start interval low
unfolding least_name
least-falls start interval low high le =
    elim (cases_lt (low + 1) start) [
      | inl early ↦ rw (lt-ltb (low + 1) start early) (elim (cases_lt (high + 1) start) [
        | inl h ↦ rw (lt-ltb (high + 1) start h) (omega arith)
        | inr h ↦ rw (le-ltb (high + 1) start h) (after-most interval (high + 1 - start))
      ])
      | inr late ↦
          let h : start ≤ high + 1 = omega arith in
          rw (le-ltb (low + 1) start late, le-ltb (high + 1) start h) (after-later interval (low + 1 - start) (high + 1 - start) (omega arith))
    ]

pub least-at_start : (start interval gone height : ℕ) → 0 < interval → gone ≤ 12 → height + 1 ≡ start + gone * interval → least_name start interval height ≡ first_of (12 - gone)
unfolding least_name
least-at_start start interval gone height some within at =
    let late : start ≤ height + 1 = omega (arith, at) in
    let p : height + 1 - start ≡ gone * interval = omega (arith, at) in
    rw (le-ltb (height + 1) start late, p) (elim (cases_lt gone 12) [
      | inl less ↦
          let inside : gone * interval < 12 * interval = (let m : (gone + 1) * interval ≤ 12 * interval = mul-le (gone + 1) interval 12 interval (omega arith) (omega arith) in let e : (gone + 1) * interval ≡ gone * interval + interval = omega arith in omega (arith, m, e, some)) in
          let zero_more : gone * interval + 0 ≡ gone * interval = omega arith in
          let d : gone * interval / interval ≡ gone = rw zero_more at (div-mul-add gone interval 0 some) in
          let m : gone * interval % interval ≡ 0 = rw zero_more at (mod-mul-add gone interval 0 some) in
          after-within interval (gone * interval) inside ∙ (rw (d, m) (least_between-start (12 - gone) interval))
      | inr most ↦ let e : gone ≡ 12 = omega arith in rw e (after-past interval (12 * interval) (omega arith))
    ])
