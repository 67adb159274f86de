-- A satoshi that no block of a sound index mints is nowhere.
use Rattle.std.proofs.Common.{◌≡◌, ℕ, suc, ◌+◌, ◌≤◌, ◌==◌, Bool, true, false, cond, not, ltb, le-ltb, le_refl, List, [], ◌∷◌, ◌++◌, length, map, Some, None, refl, sym, ap, ◌∙◌, arith}
use Rattle.std.specs.List.{position_or_len}
use Rattle.std.specs.Option.{option_map, option_map_or}
use Rattle.std.specs.FinMap.{entries}
use Rattle.std.proofs.lemmas.List.Sums.{sum_by-cons}
use Rattle.ox_block.specs.declared.block.OutPoint.{OutPoint}
use Rattle.ox_sat.specs.declared.profiles.Profile.{Profile}
use Rattle.ox_sat.specs.Heights.{first_at}
use Rattle.ox_rules.specs.declared.place.Place.TheVariants.{Out, Lost}
use Rattle.ox_rules.specs.declared.rows.OutRow.{OutRow}
use Rattle.ox_rules.specs.Outputs.{sats_of, sats_held, times}
use Rattle.ox_rules.specs.Where.{place_in, place_among}
use Rattle.ox_rules.proofs.Conservation.{times-append}
use Rattle.ox_model.specs.Index.{Index}
use Rattle.ox_model.specs.Sound.{IsSound}
use Rattle.ox_model.specs.Where.{where_is}

-- a satoshi that stands no times in a list is passed by to its end
passed_by : (sat : ℕ) (sats : List ℕ) → times sat sats ≡ 0 → position_or_len (λ s. s == sat) sats ≡ length sats
passed_by sat [] none = refl
passed_by sat (x ∷ sats) none = by (x == sat) (sym (sum_by-cons (λ s. cond (s == sat) 1 0) x sats) ∙ none) (passed_by sat sats)
  where
    by : (same : Bool) → cond same 1 0 + times sat sats ≡ 0 → (times sat sats ≡ 0 → position_or_len (λ s. s == sat) sats ≡ length sats)
        → cond (not same) (1 + position_or_len (λ s. s == sat) sats) 0 ≡ suc (length sats)
    by true e rest = absurd (omega (arith, e))
    by false e rest = let r : position_or_len (λ s. s == sat) sats ≡ length sats = rest (omega (arith, e)) in omega (arith, r)

pub in_no_place : (sat : ℕ) (sats : List ℕ) → times sat sats ≡ 0 → place_in sats sat ≡ None
in_no_place sat sats none =
    ap (λ n. cond (ltb n (length sats)) (Some n) None) (passed_by sat sats none)
    ∙ ap (λ b. cond b (Some (length sats)) None) (le-ltb (length sats) (length sats) (le_refl (length sats)))

in_no_output : (sat : ℕ) (outs : List (OutPoint × OutRow)) → times sat (sats_of (map (λ e. e.1) outs)) ≡ 0 → place_among outs sat ≡ None
in_no_output sat [] none = refl
in_no_output sat (e ∷ outs) none =
    let parts : times sat e.1.sats + times sat (sats_of (map (λ e. e.1) outs)) ≡ 0 = sym (times-append sat e.1.sats (sats_of (map (λ e. e.1) outs))) ∙ none in
    ap (λ place. option_map_or (λ offset. Some (Out e.0 offset)) place (place_among outs sat)) (in_no_place sat e.1.sats (omega (arith, parts)))
    ∙ in_no_output sat outs (omega (arith, parts))

pub nowhere : (p : Profile) (index : Index) (sat : ℕ) → IsSound p index → first_at p (length index.hashes) ≤ sat → where_is index sat ≡ None
nowhere p index sat sound late =
    let none : times sat (sats_held index.outs ++ index.lost) ≡ 0 = sound.sats.once sat ∙ ap (λ b. cond b 1 0) (le-ltb sat (first_at p (length index.hashes)) late) in
    let parts : times sat (sats_held index.outs) + times sat index.lost ≡ 0 = sym (times-append sat (sats_held index.outs) index.lost) ∙ none in
    ap (λ place. option_map_or (λ place. Some place) place (option_map Lost (place_in index.lost sat))) (in_no_output sat (entries index.outs) (omega (arith, parts)))
    ∙ ap (option_map Lost) (in_no_place sat index.lost (omega (arith, parts)))
