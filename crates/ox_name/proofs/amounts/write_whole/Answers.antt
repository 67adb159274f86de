use Rattle.std.proofs.Common.{◌≡◌, ℕ, ◌+◌, ◌-◌, ◌*◌, ◌/◌, ◌%◌, ◌^◌, ◌<◌, ◌≤◌, ◌++◌, take, reverse, suc, refl, sym, ap, ◌∙◌, append-nil, lit<, lit≤, arith, inl, inr}
use Rattle.std.proofs.Math.Nat.{pow-suc, pow-le-pow_right}
use Rattle.std.proofs.lemmas.Bool.{cases_lt}
use Rattle.std.proofs.lemmas.Fmt.{decimal_digit, decimal_step_wide}
use Rattle.std.specs.Fmt.{decimal}
use Rattle.ox_name.proofs.ReversedDigits.{digit_more, stays_behind, turned_all}
use Rattle.ox_name.proofs.amounts.write_whole.Goals as goal

pub loop-rest-init : goal.loop-rest-init
loop-rest-init c = let big : 2 ^ 128 ≤ 10 ^ 39 = lit≤ tt in (omega arith, omega arith, append-nil (decimal c.args.whole), refl)

wide : (rest len : ℕ) → rest < 10 ^ (39 - len) → rest < 10 ^ 64
wide rest len lt = let up : 10 ^ (39 - len) ≤ 10 ^ 64 = pow-le-pow_right {n = 10} (lit< tt) {i = 39 - len} {j = 64} (omega arith) in omega arith

below : (rest len : ℕ) → len < 38 → rest < 10 ^ (39 - len) → rest / 10 < 10 ^ (39 - (len + 1))
below rest len room lt =
    let more : 39 - len ≡ suc (39 - (len + 1)) = omega arith in
    let p : 10 ^ (39 - len) ≡ 10 ^ (39 - (len + 1)) * 10 = ap (λ k. 10 ^ k) more ∙ pow-suc 10 (39 - (len + 1)) in
    let lt' : rest < 10 ^ (39 - (len + 1)) * 10 = rw p at lt in
    omega arith

not_last : (rest len : ℕ) → len ≤ 38 → 10 ≤ rest → rest < 10 ^ (39 - len) → len < 38
not_last rest len up high lt =
    elim (cases_lt len 38) [
      | inl below ↦ below
      | inr above ↦
          let e : 39 - len ≡ 1 = omega arith in
          let lt' : rest < 10 ^ 1 = rw e at lt in
          absurd (omega arith)
    ]

pub loop-rest-preserved : goal.loop-rest-preserved
loop-rest-preserved c =
    let into = c.loop-rest.into in
    let rest = c.loop-rest.rest in
    let len = c.loop-rest.len in
    let high : 10 ≤ c.loop-rest.rest = omega arith in
    let room : c.loop-rest.len < 38 = not_last rest len c.loop-rest.invariant.0 high c.loop-rest.invariant.1 in (
      omega arith,
      below rest len room c.loop-rest.invariant.1,
      digit_more (decimal c.args.whole) (decimal (rest / 10)) into len (48 + rest % 10) (omega arith) (ap (λ t. t ++ reverse (take len into)) (sym (decimal_step_wide rest high (wide rest len c.loop-rest.invariant.1))) ∙ c.loop-rest.invariant.2),
      stays_behind into c.args.into.now len _ c.loop-rest.invariant.3,
    )

pub returns-clause-length : goal.returns-clause-length
returns-clause-length c =
    let front = ap (λ t. t ++ reverse (take c.loop-rest.len c.loop-rest.into)) (sym (decimal_digit c.loop-rest.rest (omega arith))) ∙ c.loop-rest.invariant.2 in
    (turned_all (decimal c.args.whole) c.loop-rest.into c.args.into.now c.loop-rest.len (48 + c.loop-rest.rest) (omega arith) front c.loop-rest.invariant.3).1

pub returns-clause-written : goal.returns-clause-written
returns-clause-written c =
    let front = ap (λ t. t ++ reverse (take c.loop-rest.len c.loop-rest.into)) (sym (decimal_digit c.loop-rest.rest (omega arith))) ∙ c.loop-rest.invariant.2 in
    c.turn_front.ensures ∙ (turned_all (decimal c.args.whole) c.loop-rest.into c.args.into.now c.loop-rest.len (48 + c.loop-rest.rest) (omega arith) front c.loop-rest.invariant.3).0
