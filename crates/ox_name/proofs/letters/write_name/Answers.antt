use Rattle.std.proofs.Common.{◌≡◌, ℕ, ◌+◌, ◌-◌, ◌/◌, ◌%◌, ◌<◌, ◌≤◌, List, [], ◌∷◌, ◌++◌, length, take, drop, reverse, suc, refl, sym, ap, subst, ◌∙◌, append-nil, arith, inl, inr}
use Rattle.std.proofs.lemmas.Bool.{cases_lt}
use Rattle.std.proofs.lemmas.List.{take_at}
use Rattle.ox_name.specs.Name.{IsName, number_of, name_of, name_within}
use Rattle.ox_name.proofs.NamesAreOneToOne.{least, least_all, lettered-low, lettered-high, rest_below, name_of-is, number_of-name_of}
use Rattle.ox_name.proofs.ReversedDigits.{digit_more, stays_behind, turned_all}
use Rattle.ox_name.proofs.letters.write_name.Goals as goal

pub loop-rest-init : goal.loop-rest-init
unfolding name_of
loop-rest-init c = (omega arith, omega (arith, least_all), append-nil (name_within 27 c.args.name), refl)

-- the next letter from the end
next : (target into : List ℕ) (rest len : ℕ) → len < 27 → len < length into → 26 ≤ rest → name_within (27 - len) rest ++ reverse (take len into) ≡ target → (name_within (27 - (len + 1)) (rest / 26 - 1) ++ (65 + rest % 26) ∷ []) ++ reverse (take len into) ≡ target
next target into rest len room within high before =
    let more : 27 - len ≡ suc (27 - (len + 1)) = omega arith in
    let here : name_within (27 - len) rest ≡ name_within (27 - (len + 1)) (rest / 26 - 1) ++ (65 + rest % 26) ∷ [] = ap (λ k. name_within k rest) more ∙ lettered-high (27 - (len + 1)) rest high in
    ap (λ t. t ++ reverse (take len into)) (sym here) ∙ before

below : (rest len : ℕ) → len < 27 → 26 ≤ rest → rest < least (28 - len) → rest / 26 - 1 < least (28 - (len + 1))
below rest len room high lt =
    let more : 28 - len ≡ suc (28 - (len + 1)) = omega arith in
    rest_below rest (28 - (len + 1)) high (rw more at lt)

not_last : (rest len : ℕ) → len ≤ 27 → 26 ≤ rest → rest < least (28 - len) → len < 27
not_last rest len up high lt =
    elim (cases_lt len 27) [
      | inl below ↦ below
      | inr above ↦
          let e : 28 - len ≡ 1 = omega arith in
          let lt' : rest < least 1 = rw e at lt in
          absurd (omega arith)
    ]

pub loop-rest-preserved : goal.loop-rest-preserved
loop-rest-preserved c =
    let into = c.loop-rest.into in
    let rest = c.loop-rest.rest in
    let len = c.loop-rest.len in
    let high : 26 ≤ c.loop-rest.rest = omega arith in
    let room : c.loop-rest.len < 27 = not_last rest len c.loop-rest.invariant.0 high c.loop-rest.invariant.1 in (
      omega arith,
      below rest len room high c.loop-rest.invariant.1,
      digit_more (name_of c.args.name) (name_within (27 - (len + 1)) (rest / 26 - 1)) into len (65 + rest % 26) (omega arith) (next (name_of c.args.name) into rest len room (omega arith) high c.loop-rest.invariant.2),
      stays_behind into c.args.into.now len _ c.loop-rest.invariant.3,
    )

ends : (target into : List ℕ) (rest len : ℕ) → rest < 26 → name_within (27 - len) rest ++ reverse (take len into) ≡ target → ((65 + rest) ∷ []) ++ reverse (take len into) ≡ target
ends target into rest len low before = ap (λ t. t ++ reverse (take len into)) (sym (lettered-low (27 - len) rest low)) ∙ before

pub returns-clause-length : goal.returns-clause-length
returns-clause-length c =
    let front = ends (name_of c.args.name) c.loop-rest.into c.loop-rest.rest c.loop-rest.len (omega arith) c.loop-rest.invariant.2 in
    (turned_all (name_of c.args.name) c.loop-rest.into c.args.into.now c.loop-rest.len (65 + c.loop-rest.rest) (omega arith) front c.loop-rest.invariant.3).1

pub returns-clause-written : goal.returns-clause-written
returns-clause-written c =
    let front = ends (name_of c.args.name) c.loop-rest.into c.loop-rest.rest c.loop-rest.len (omega arith) c.loop-rest.invariant.2 in
    c.turn_front.ensures ∙ (turned_all (name_of c.args.name) c.loop-rest.into c.args.into.now c.loop-rest.len (65 + c.loop-rest.rest) (omega arith) front c.loop-rest.invariant.3).0

pub returns-clause-letters : goal.returns-clause-letters
returns-clause-letters c =
    let all = ap (take (c.loop-rest.len + 1)) (returns-clause-written c) ∙ take_at (name_of c.args.name) (drop (c.loop-rest.len + 1) c.args.into.now) (c.loop-rest.len + 1) (sym (returns-clause-length c)) in
    let P : List ℕ → Type 0 = λ (t : List ℕ). IsName t in
    subst P (sym all) (name_of-is c.args.name (omega arith))

pub returns-clause-number : goal.returns-clause-number
returns-clause-number c =
    let all = ap (take (c.loop-rest.len + 1)) (returns-clause-written c) ∙ take_at (name_of c.args.name) (drop (c.loop-rest.len + 1) c.args.into.now) (c.loop-rest.len + 1) (sym (returns-clause-length c)) in
    ap number_of all ∙ number_of-name_of c.args.name
