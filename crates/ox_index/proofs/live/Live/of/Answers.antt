use Rattle.std.proofs.Common.{◌≡◌, ◌∙◌, sym, subst}
use Rattle.ox_model.specs.Index.{Index}
use Rattle.ox_model.specs.Sound.{IsSound}
use Rattle.ox_sat.specs.declared.profiles.Profile.{Profile}
use Rattle.ox_plain.specs.Plain.{index_in as stands}
use Rattle.ox_index.specs.Lengths.{index_of_parts}
use Rattle.ox_index.specs.Parts.{held_in}
use Rattle.ox_index.proofs.Emptying.{sats_once}
use Rattle.ox_index.proofs.live.Live.of.Goals as goal

pub parts_of-requires-clause-once : goal.parts_of-requires-clause-once
parts_of-requires-clause-once c = sats_once c.args.p.now (stands c.args.index) c.requires.sound

pub parts_of-requires-clause-balanced : goal.parts_of-requires-clause-balanced
parts_of-requires-clause-balanced c = c.requires.sound.runes.balanced

pub unmarked-requires : goal.unmarked-requires
unmarked-requires c =
    let index : Index = index_of_parts c.into_vec.result.items (held_in c.in_ok-parts.parts) c.in_ok-lost.lost in
    let is : index ≡ stands c.args.index = λ i. index_of_parts ((c.into_vec.ensures ∙ c.replace-hashes.ensures.value) i) (c.in_ok-parts.ensures.held i) (c.in_ok-lost.ensures i) in
    subst (λ (q : Profile). IsSound q index) (sym c.in_ok-parts.ensures.profile) (subst (IsSound c.args.p.now) (sym is) c.requires.sound)

pub returns-clause-profile : goal.returns-clause-profile
returns-clause-profile c = c.unmarked.ensures.profile ∙ c.in_ok-parts.ensures.profile

pub returns-clause-index : goal.returns-clause-index
returns-clause-index c =
    c.unmarked.ensures.index
    ∙ (λ i. index_of_parts ((c.into_vec.ensures ∙ c.replace-hashes.ensures.value) i) (c.in_ok-parts.ensures.held i) (c.in_ok-lost.ensures i))

pub returns-clause-no_mark : goal.returns-clause-no_mark
returns-clause-no_mark c = c.unmarked.ensures.no_mark
