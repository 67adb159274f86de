-- An index whose parts are what they were is what it was.
use Rattle.std.proofs.Common.{◌≡◌, ◌∙◌, ℕ, List, length, sym, ap, subst, Option, Some, None}
use Rattle.std.specs.Option.{option_map_or}
use Rattle.std.specs.Prelude.{Ok}
use Rattle.ox_block.specs.declared.block.Block.{Block}
use Rattle.ox_sat.specs.declared.profiles.Profile.{Profile}
use Rattle.ox_rules.specs.Transfer.{transfer_of}
use Rattle.ox_rules.specs.Why.{Refuses}
use Rattle.ox_rules.specs.declared.why.Why.{Why}
use Rattle.ox_model.specs.Index.{Index}
use Rattle.ox_model.specs.Sound.{IsSound}
use Rattle.ox_model.specs.Step.{admission, index_after}
use Rattle.ox_index.specs.Held.{Held}
use Rattle.ox_index.specs.Lengths.{AreWithin, index_to}
use Rattle.ox_index.specs.declared.lengths.Lengths.{Lengths}
use Rattle.ox_index.proofs.Steps.{after_unmoved}
use Rattle.ox_index.proofs.Whole.{Whole, blocks_are, held_are}

module _ (p q : Profile) (items items' : List (List ℕ)) (held held' : Held) (lost lost' : List ℕ) (lengths : Lengths) (of_p : q ≡ p) (of_items : items' ≡ items) (of_held : held' ≡ held) (of_lost : lost' ≡ lost) where
  same_index : index_to items' held' lost' lengths ≡ index_to items held lost lengths
  same_index = λ i. index_to (of_items i) (of_held i) (of_lost i) lengths

  pub still_sound : IsSound p (index_to items held lost lengths) → IsSound q (index_to items' held' lost' lengths)
  still_sound sound =
      subst (λ (r : Profile). IsSound r (index_to items' held' lost' lengths)) (sym of_p) (subst (IsSound p) (sym same_index) sound)

pub still_within : (items items' : List (List ℕ)) (lost lost' : List ℕ) (lengths : Lengths) → items' ≡ items → lost' ≡ lost → AreWithin items lost lengths → AreWithin items' lost' lengths
still_within items items' lost lost' lengths of_items of_lost within =
    subst (λ (l : List (List ℕ)). AreWithin l lost' lengths) (sym of_items) (subst (λ (l : List ℕ). AreWithin items l lengths) (sym of_lost) within)

-- where there is no mark
pub none_shown : (f : Lengths → Option Index) (marked : Option Lengths) → marked ≡ None → option_map_or f marked None ≡ None
none_shown f marked none = ap (λ (m : Option Lengths). option_map_or f m None) none

pub none_marked : {A : Type 0} (marked : Option Lengths) (lengths : Lengths) → marked ≡ None → marked ≡ Some lengths → A
none_marked marked lengths none some = absurd (cc (sym none ∙ some))

-- a block whose satoshis can't be moved from what an index holds
pub unmoved_here : (p q : Profile) (index : Index) (items : List (List ℕ)) (held : Held) (sats : List ℕ) (lengths : Lengths) → Whole index items held sats lengths → (block : Block) (why : Why)
    → p ≡ q → admission q index.hashes block ≡ Ok tt → Refuses why (transfer_of p lengths.blocks block.txs held.outs) → Refuses why (index_after q index block)
unmoved_here p q index items held sats lengths whole block why of_p begun refuses =
    after_unmoved q index block why begun
    (subst (λ (h : Held). Refuses why (transfer_of q (length index.hashes) block.txs h.outs)) (held_are index items held sats lengths whole)
    (subst (λ (n : ℕ). Refuses why (transfer_of q n block.txs held.outs)) (blocks_are index items held sats lengths whole)
    (subst (λ (r : Profile). Refuses why (transfer_of r lengths.blocks block.txs held.outs)) of_p refuses)))
