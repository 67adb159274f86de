use Rattle.std.proofs.Common.{◌≡◌, ℕ, zero, suc, ◌+◌, ◌-◌, ◌*◌, ◌/◌, ◌%◌, ◌^◌, ◌<◌, ◌≤◌, false, nat_le, inl, inr, refl, sym, ap, subst, ◌∙◌, arith, lit<, lit≤, add-suc, add-one, add-zero, suc-mul, mul-add, zero-mul, mul-zero, div-add-mod', min, mul-le-mul_left, le_refl}
use Rattle.std.proofs.Math.Nat.{div-eq_of_lt, pow-le-pow_right}
use Rattle.std.proofs.lemmas.Bool.{cases_lt, lt-leb, le-leb}
use Rattle.std.proofs.lemmas.Nat.{div-mul-add, mod_below, div_below, le-div}
use Rattle.ox_sat.specs.declared.profiles.Profile.{Profile}
use Rattle.ox_sat.specs.declared.profiles.ProfileName.{ProfileName}
use Rattle.ox_sat.specs.declared.profiles.ProfileName.TheVariants.{Mainnet, Regtest, Lab}
use Rattle.ox_sat.specs.Profiles.{profile_named, IsProfile}
use Rattle.ox_sat.specs.Heights.{first_at, Mints, last_from, height_minting}

-- what one block of each of the first epochs mints, together
unfoldable pub minted_in : ℕ → ℕ
minted_in zero = 0
minted_in (suc epoch) = minted_in epoch + 5000000000 / 2 ^ epoch

-- what the proofs need of a profile's numbers
pub record Counts (p : Profile) : Type 0 where
  pub halving : 0 < p.halving
  pub short : p.halving ≤ 210000
  pub period : 0 < p.period
  pub cycle : 0 < p.cycle
  pub supply : p.halving * 9999999989 ≡ p.supply
  pub few : p.supply ≤ 2099999997690000

counts_named : (name : ProfileName) → Counts (profile_named name)
counts_named Mainnet = record { halving = lit< tt; short = lit≤ tt; period = lit< tt; cycle = lit< tt; supply = refl; few = lit≤ tt }
counts_named Regtest = record { halving = lit< tt; short = lit≤ tt; period = lit< tt; cycle = lit< tt; supply = refl; few = lit≤ tt }
counts_named Lab = record { halving = lit< tt; short = lit≤ tt; period = lit< tt; cycle = lit< tt; supply = refl; few = lit≤ tt }

pub counts : (p : Profile) → IsProfile p → Counts p
counts p known = let P : Profile → Type 0 = λ q. Counts q in subst P (sym known.is) (counts_named known.name)

pub minted_in-zero : minted_in 0 ≡ 0
unfolding minted_in
minted_in-zero = refl

pub minted_in-more : (epoch : ℕ) → minted_in (epoch + 1) ≡ minted_in epoch + 5000000000 / 2 ^ epoch
unfolding minted_in
minted_in-more epoch = rw add-one refl

pub minted_in-all : minted_in 33 ≡ 9999999989
unfolding minted_in
minted_in-all = refl

-- no subsidy is left from epoch 33 on
pub nothing_after : (epoch : ℕ) → 33 ≤ epoch → 5000000000 / 2 ^ epoch ≡ 0
nothing_after epoch late =
    let power : 2 ^ 33 ≤ 2 ^ epoch = pow-le-pow_right (lit< tt) late in
    let small : 5000000000 < 2 ^ 33 = lit< tt in
    let below : 5000000000 < 2 ^ epoch = omega (arith, small, power) in
    div-eq_of_lt below

minted_in-late : (more : ℕ) → minted_in (33 + more) ≡ 9999999989
minted_in-late zero = minted_in-all
minted_in-late (suc more) =
    let none : 5000000000 / 2 ^ (33 + more) ≡ 0 = nothing_after (33 + more) (omega arith) in
    let step : minted_in (33 + more + 1) ≡ minted_in (33 + more) + 5000000000 / 2 ^ (33 + more) = minted_in-more (33 + more) in
    let same : minted_in (33 + suc more) ≡ minted_in (33 + more + 1) = ap minted_in (omega arith) in
    omega (arith, none, step, same, minted_in-late more)

pub minted_in-after : (epoch : ℕ) → 33 ≤ epoch → minted_in epoch ≡ 9999999989
minted_in-after epoch late = ap minted_in (let e : epoch ≡ 33 + (epoch - 33) = omega arith in e) ∙ minted_in-late (epoch - 33)

minted_in-adds : (epoch more : ℕ) → minted_in epoch ≤ minted_in (epoch + more)
minted_in-adds epoch zero = rw add-zero (le_refl _)
minted_in-adds epoch (suc more) =
    let step : minted_in (epoch + more + 1) ≡ minted_in (epoch + more) + 5000000000 / 2 ^ (epoch + more) = minted_in-more (epoch + more) in
    let same : minted_in (epoch + suc more) ≡ minted_in (epoch + more + 1) = ap minted_in (omega arith) in
    omega (arith, step, same, minted_in-adds epoch more)

pub minted_in-le : (low high : ℕ) → low ≤ high → minted_in low ≤ minted_in high
minted_in-le low high h =
    let same : minted_in (low + (high - low)) ≡ minted_in high = ap minted_in (omega arith) in
    omega (arith, same, minted_in-adds low (high - low))

pub minted_in-most : (epoch : ℕ) → minted_in epoch ≤ 9999999989
minted_in-most epoch =
    let all : minted_in (33 + epoch) ≡ 9999999989 = minted_in-after (33 + epoch) (omega arith) in
    omega (arith, all, minted_in-le epoch (33 + epoch) (omega arith))

-- within an epoch each block mints the same
first_within : (p : Profile) (epoch r : ℕ) → r ≤ p.halving → first_at p (epoch * p.halving + r) ≡ first_at p (epoch * p.halving) + r * (5000000000 / 2 ^ epoch)
unfolding first_at
first_within p epoch zero h = rw (zero-mul, add-zero, add-zero) refl
first_within p epoch (suc r) h =
    let same : (epoch * p.halving + r) / p.halving ≡ epoch = div-mul-add epoch p.halving r (omega arith) in
    let before : first_at p (epoch * p.halving + r) ≡ first_at p (epoch * p.halving) + r * (5000000000 / 2 ^ epoch) = first_within p epoch r (omega arith) in
    rw (add-suc (epoch * p.halving) r, same, before, suc-mul) (omega arith)

-- an epoch's first block begins where the epochs before end
first_whole : (p : Profile) (epoch : ℕ) → first_at p (epoch * p.halving) ≡ p.halving * minted_in epoch
unfolding first_at minted_in
first_whole p zero = rw (zero-mul, mul-zero) refl
first_whole p (suc epoch) = rw (suc-mul, mul-add, first_within p epoch p.halving (le_refl _), first_whole p epoch) refl

-- the sum over all blocks is one over epochs and one over the blocks of the last
pub first_by_epochs : (p : Profile) (epoch r : ℕ) → r ≤ p.halving → first_at p (epoch * p.halving + r) ≡ p.halving * minted_in epoch + r * (5000000000 / 2 ^ epoch)
first_by_epochs p epoch r h = rw (first_within p epoch r h, first_whole p epoch) refl

pub first_split : (p : Profile) (height : ℕ) → Counts p → first_at p height ≡ p.halving * minted_in (height / p.halving) + height % p.halving * (5000000000 / 2 ^ (height / p.halving))
first_split p height c =
    let inside : height % p.halving < p.halving = mod_below height p.halving c.halving in
    let parts : height / p.halving * p.halving + height % p.halving ≡ height = div-add-mod' height p.halving in
    ap (first_at p) (sym parts) ∙ first_by_epochs p (height / p.halving) (height % p.halving) (omega arith)

first_adds : (p : Profile) (low more : ℕ) → first_at p low ≤ first_at p (low + more)
unfolding first_at
first_adds p low zero = rw add-zero (le_refl _)
first_adds p low (suc more) = rw add-suc (let h : first_at p low ≤ first_at p (low + more) = first_adds p low more in omega arith)

pub first_le : (p : Profile) (low high : ℕ) → low ≤ high → first_at p low ≤ first_at p high
first_le p low high h =
    let same : first_at p (low + (high - low)) ≡ first_at p high = ap (first_at p) (omega arith) in
    omega (arith, same, first_adds p low (high - low))

-- what the epochs mint together is the supply
pub whole_supply : (p : Profile) (epoch : ℕ) → Counts p → 33 ≤ epoch → p.halving * minted_in epoch ≡ p.supply
whole_supply p epoch c late = rw (minted_in-after epoch late) c.supply

pub first_late : (p : Profile) (height : ℕ) → Counts p → 33 * p.halving ≤ height → first_at p height ≡ p.supply
first_late p height c late =
    let over : 33 ≤ height / p.halving = le-div 33 height p.halving c.halving late in
    rw (first_split p height c, nothing_after (height / p.halving) over, whole_supply p (height / p.halving) c over) (rw mul-zero (rw add-zero refl))

pub first_most : (p : Profile) (height : ℕ) → Counts p → first_at p height ≤ p.supply
first_most p height c =
    let all : first_at p (height + 33 * p.halving) ≡ p.supply = first_late p (height + 33 * p.halving) c (omega arith) in
    omega (arith, all, first_le p height (height + 33 * p.halving) (omega arith))

-- the last height whose first satoshi isn't above is the one that mints
last_is : (p : Profile) (sat height bound : ℕ) → Mints p height sat → height ≤ bound → last_from p sat bound ≡ height
unfolding last_from
last_is p sat height zero m h = omega arith
last_is p sat height (suc bound) m h =
    elim (cases_lt height (suc bound)) [
      | inl before ↦
          let later : first_at p (height + 1) ≤ first_at p (suc bound) = first_le p (height + 1) (suc bound) (omega arith) in
          let above : nat_le (first_at p (suc bound)) sat ≡ false = lt-leb _ _ (let below : sat < first_at p (height + 1) = m.below in omega arith) in
          rw above (last_is p sat height bound m (omega arith))
      | inr at ↦
          let same : suc bound ≡ height = omega arith in
          let begun : first_at p (suc bound) ≤ sat = rw same m.from in
          rw (le-leb _ _ begun) same
    ]

pub minting_is : (p : Profile) (sat height : ℕ) → Counts p → Mints p height sat → height ≡ height_minting p sat
minting_is p sat height c m =
    elim (cases_lt (33 * p.halving) height) [
      | inl over ↦
          let from : first_at p height ≤ sat = m.from in
          let below : sat < first_at p (height + 1) = m.below in
          absurd (omega (arith, from, below, first_late p height c (omega arith), first_late p (height + 1) c (omega arith)))
      | inr within ↦ sym (last_is p sat height (33 * p.halving) m within)
    ]

-- one epoch more
pub grows : (p : Profile) (epoch : ℕ) → p.halving * minted_in (epoch + 1) ≡ p.halving * minted_in epoch + p.halving * (5000000000 / 2 ^ epoch)
grows p epoch = rw (minted_in-more epoch, mul-add) refl

pub within_supply : (p : Profile) (epoch : ℕ) → Counts p → p.halving * minted_in epoch ≤ p.supply
within_supply p epoch c =
    let most : p.halving * minted_in epoch ≤ p.halving * 9999999989 = mul-le-mul_left p.halving (minted_in-most epoch) in
    omega (arith, most, c.supply)

pub minted_in-capped : (epoch : ℕ) → minted_in (min epoch 33) ≡ minted_in epoch
minted_in-capped epoch =
    elim (cases_lt epoch 33) [
      | inl early ↦ ap minted_in (omega arith)
      | inr late ↦ minted_in-after (min epoch 33) (omega arith) ∙ sym (minted_in-after epoch late)
    ]

positive_part : (a b n : ℕ) → n < a * b → 0 < b
positive_part a zero n h = absurd (let none : a * 0 ≡ 0 = mul-zero a in omega (arith, none, h))
positive_part a (suc b) n h = omega arith

-- the height of a satoshi that is so many above the first of an epoch
pub mints_from : (p : Profile) (epoch rest sat each : ℕ) → each ≡ 5000000000 / 2 ^ epoch → p.halving * minted_in epoch + rest ≡ sat → rest < p.halving * each → Mints p (epoch * p.halving + rest / each) sat
mints_from p epoch rest sat each is split inside =
    let some : 0 < each = positive_part p.halving each rest inside in
    let blocks : rest / each < p.halving = div_below rest each p.halving some inside in
    let whole : rest / each * each + rest % each ≡ rest = div-add-mod' rest each in
    let left : rest % each < each = mod_below rest each some in
    let here : first_at p (epoch * p.halving + rest / each) ≡ p.halving * minted_in epoch + rest / each * each = first_by_epochs p epoch (rest / each) (omega arith) ∙ rw is refl in
    let next : first_at p (epoch * p.halving + (rest / each + 1)) ≡ p.halving * minted_in epoch + (rest / each + 1) * each = first_by_epochs p epoch (rest / each + 1) (omega arith) ∙ rw is refl in
    let place : first_at p (epoch * p.halving + rest / each + 1) ≡ first_at p (epoch * p.halving + (rest / each + 1)) = ap (first_at p) (omega arith) in
    let one_more : (rest / each + 1) * each ≡ rest / each * each + each = rw (add-one, suc-mul) refl in
    record {
      from = omega (arith, here, whole, split);
      below = omega (arith, place, next, one_more, whole, left, split);
    }

-- an epoch of which something is left to go is one of the first 33, and so is the next
pub epoch_more : (p : Profile) (epoch rest sat each : ℕ) → Counts p → each ≡ 5000000000 / 2 ^ epoch → p.halving * minted_in epoch + rest ≡ sat → sat < p.supply → p.halving * each ≤ rest → (epoch + 1 < 33) × (p.halving * minted_in (epoch + 1) + (rest - p.halving * each) ≡ sat)
epoch_more p epoch rest sat each c is split below over =
    let more : p.halving * minted_in (epoch + 1) ≡ p.halving * minted_in epoch + p.halving * each = grows p epoch ∙ rw is refl in
    let within : epoch + 1 < 33 = elim (cases_lt (epoch + 1) 33) [
      | inl early ↦ early
      | inr late ↦ absurd (omega (arith, more, split, below, over, whole_supply p (epoch + 1) c late))
    ] in
    (within, omega (arith, more, split, over))
