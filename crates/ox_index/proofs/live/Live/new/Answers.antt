use Rattle.std.proofs.Common.{◌≡◌, ◌∙◌, sym, subst}
use Rattle.ox_model.specs.Index.{Index, no_blocks}
use Rattle.ox_model.specs.Sound.{IsSound}
use Rattle.ox_model.proofs.Soundness.{sound_first}
use Rattle.ox_sat.specs.declared.profiles.Profile.{Profile}
use Rattle.ox_index.specs.Lengths.{index_of_parts}
use Rattle.ox_index.specs.Parts.{held_in}
use Rattle.ox_index.proofs.live.Live.new.Goals as goal

pub unmarked-requires : goal.unmarked-requires
unmarked-requires c =
    let p = c.args.p.now in
    let index : Index = index_of_parts c.new-2.result.items (held_in c.in_ok-parts.parts) c.empty.result in
    let is : index ≡ no_blocks p = λ i. index_of_parts (c.new-2.ensures.items i) (c.in_ok-parts.ensures.held i) (c.empty.ensures i) in
    subst (λ (q : Profile). IsSound q index) (sym c.in_ok-parts.ensures.profile) (subst (IsSound p) (sym is) (sound_first p))

pub returns-clause-profile : goal.returns-clause-profile
returns-clause-profile c = c.unmarked.ensures.profile ∙ c.in_ok-parts.ensures.profile

pub returns-clause-index : goal.returns-clause-index
returns-clause-index c =
    c.unmarked.ensures.index ∙ (λ i. index_of_parts (c.new-2.ensures.items i) (c.in_ok-parts.ensures.held i) (c.empty.ensures i))
