-- What the parts of a sound index have to be to take in a block.
use Rattle.std.proofs.Common.{◌≡◌, ◌≢◌, ℕ, ◌<◌, List, [], ◌∷◌, length, sym, subst, arith}
use Rattle.std.specs.List.{AllByRecursion}
use Rattle.std.proofs.lemmas.List.Elements.{All-from_recursion}
use Rattle.ox_sat.specs.Heights.{first_at}
use Rattle.ox_sat.specs.Profiles.{IsProfile}
use Rattle.ox_sat.specs.declared.profiles.Profile.{Profile}
use Rattle.ox_etching.specs.declared.row.RuneRow.{RuneRow}
use Rattle.ox_transfer.specs.Apart.{HoldsOnce}
use Rattle.ox_model.specs.Index.{Index}
use Rattle.ox_model.specs.Sound.{IsSound}
use Rattle.ox_model.proofs.FreePlaces.{open_first}
use Rattle.ox_index.specs.Held.{Held, NoneOf}
use Rattle.ox_index.specs.declared.lengths.Lengths.{Lengths}
use Rattle.ox_index.proofs.Steps.{holds_once}
use Rattle.ox_index.proofs.Whole.{Whole, blocks_are, held_are}

none_of : (height : ℕ) (runes : List RuneRow) → AllByRecursion (λ (row : RuneRow). row.id.block ≡ height → row.id.tx < 0) runes
    → AllByRecursion (λ (row : RuneRow). row.id.block ≢ height) runes
none_of height [] before = tt
none_of height (row ∷ runes) before = ((λ same. let below : row.id.tx < 0 = before.0 same in absurd (omega arith)), none_of height runes before.1)

module _ (p : Profile) (index : Index) (items : List (List ℕ)) (held : Held) (sats : List ℕ) (lengths : Lengths) (whole : Whole index items held sats lengths) (known : IsProfile p) (sound : IsSound p index) where
  pub once_here : HoldsOnce (first_at p lengths.blocks) held.outs
  once_here =
      subst (λ (n : ℕ). HoldsOnce (first_at p n) held.outs) (sym (blocks_are index items held sats lengths whole))
      (subst (λ (h : Held). HoldsOnce (first_at p (length index.hashes)) h.outs) (sym (held_are index items held sats lengths whole)) (holds_once p index sound))

  pub none_here : NoneOf p lengths.blocks held.runes.runes
  none_here =
      subst (λ (n : ℕ). NoneOf p n held.runes.runes) (sym (blocks_are index items held sats lengths whole))
      (subst (λ (h : Held). NoneOf p (length index.hashes) h.runes.runes) (sym (held_are index items held sats lengths whole))
      (λ start. All-from_recursion (λ (row : RuneRow). row.id.block ≢ length index.hashes) index.runes
      (none_of (length index.hashes) index.runes (open_first p index known sound.runes start))))
