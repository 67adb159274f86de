-- An audit of a sound index balances.
use Rattle.std.proofs.Common.{◌≡◌, ℕ, zero, suc, ◌+◌, Bool, true, false, cond, List, [], ◌∷◌, ◌++◌, length, refl, ap, arith, nat_lt, length-append}
use Rattle.std.specs.Prelude.{◌==◌, All, filter, if◌then◌else◌, not}
use Rattle.std.proofs.lemmas.Bool.Decides.{Decides-eqb, nat_tests}
use Rattle.std.proofs.lemmas.List.Elements.{All-map, All-weaker}
use Rattle.std.proofs.lemmas.List.Filters.{length-filter_both}
use Rattle.std.proofs.lemmas.List.Sums.{length-filter, sum_by-cons}
use Rattle.ox_sat.specs.declared.profiles.Profile.{Profile}
use Rattle.ox_sat.specs.Heights.{first_at}
use Rattle.ox_rules.specs.Outputs.{sats_held, times}
use Rattle.ox_etching.specs.declared.row.RuneRow.{RuneRow}
use Rattle.ox_ledger.specs.Balanced.{IsSettled}
use Rattle.ox_model.specs.Audit.{audit_of, rune_audit}
use Rattle.ox_model.specs.Index.{Index, runes_of}
use Rattle.ox_model.specs.Sound.{IsSound}
use Rattle.ox_model.specs.declared.audit.RuneAudit.{RuneAudit}

-- ---- satoshis

times-cons : (sat one : ℕ) (sats : List ℕ) → times sat (one ∷ sats) ≡ cond (one == sat) 1 0 + times sat sats
times-cons sat one sats = sum_by-cons (λ (s : ℕ). cond (s == sat) 1 0) one sats

-- all but one number
abbrev others : ℕ → List ℕ → List ℕ
others one sats = filter (λ s. not (s == one)) sats

left_out : (sat one first : ℕ) (sats : List ℕ) → times sat (others one sats) ≡ cond (sat == one) 0 (times sat sats)
    → times sat (others one (first ∷ sats)) ≡ cond (sat == one) 0 (times sat (first ∷ sats))
left_out sat one first sats rest = by_test (first == one) refl where
  by_test : (b : Bool) → (first == one) ≡ b → times sat (cond (not b) (first ∷ others one sats) (others one sats)) ≡ cond (sat == one) 0 (times sat (first ∷ sats))
  by_test true is = let same : first ≡ one = (Decides-eqb first one).0 is in grind (arith, nat_tests, rest, same, times-cons sat first sats)
  by_test false is = grind (arith, nat_tests, rest, is, times-cons sat first sats, times-cons sat first (others one sats))

times-others : (sat one : ℕ) (sats : List ℕ) → times sat (others one sats) ≡ cond (sat == one) 0 (times sat sats)
times-others sat one [] = by_test (sat == one) where
  by_test : (b : Bool) → times sat [] ≡ cond b 0 (times sat [])
  by_test true = refl
  by_test false = refl
times-others sat one (first ∷ sats) = left_out sat one first sats (times-others sat one sats)

length-others : (one : ℕ) (sats : List ℕ) → length (others one sats) + times one sats ≡ length sats
length-others one sats =
    let some = length-filter (λ (s : ℕ). s == one) sats in
    let both = length-filter_both (λ (s : ℕ). s == one) (λ (s : ℕ). not (s == one)) (λ s. refl) sats in
    omega (arith, some, both)

none_below : (sats : List ℕ) → ((sat : ℕ) → times sat sats ≡ 0) → length sats ≡ 0
none_below [] none = refl
none_below (sat ∷ sats) none =
    let one : ℕ = 1 in
    let here : cond (sat == sat) 1 0 ≡ one = ap {B = ℕ} (λ (b : Bool). cond b 1 0) ((Decides-eqb sat sat).1 refl) in
    absurd (omega (arith, none sat, here, times-cons sat sat sats))

-- a list that holds each number below a bound once, and no other, is as long as the bound
length_below : (bound : ℕ) (sats : List ℕ) → ((sat : ℕ) → times sat sats ≡ (if nat_lt sat bound then 1 else 0)) → length sats ≡ bound
length_below zero sats once = none_below sats (λ sat. grind (arith, nat_tests, once sat))
length_below (suc bound) sats once =
    let fewer : length (others bound sats) ≡ bound = length_below bound (others bound sats) (λ sat. grind (arith, nat_tests, once sat, times-others sat bound sats)) in
    let last : times bound sats ≡ 1 = grind (arith, nat_tests, once bound) in
    omega (arith, fewer, last, length-others bound sats)

pub satoshis_balance : (p : Profile) (index : Index) → IsSound p index → (audit_of p index).claimable ≡ (audit_of p index).lost + (audit_of p index).outputs
satoshis_balance p index sound =
    let all = length_below (first_at p (length index.hashes)) (sats_held index.outs ++ index.lost) sound.sats.once in
    omega (arith, all, length-append (sats_held index.outs) index.lost)

-- ---- runes

pub runes_balance : (p : Profile) (index : Index) → IsSound p index
    → All (λ (rune : RuneAudit). rune.held + rune.burned ≡ rune.premine + rune.minted) (audit_of p index).runes
runes_balance p index sound =
    let Balances : RuneAudit → Type 0 = λ rune. rune.held + rune.burned ≡ rune.premine + rune.minted in
    All-map Balances (rune_audit index) index.runes
    (All-weaker (IsSettled (runes_of index)) (λ (row : RuneRow). Balances (rune_audit index row)) (λ row settled. omega (arith, settled)) index.runes sound.runes.balanced.settled)
