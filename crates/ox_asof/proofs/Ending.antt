-- Changes that end in an index, and so do those behind them where they are undone.
use Rattle.std.proofs.Common.{List, [], ◌∷◌}
use Rattle.std.specs.List.{AllByRecursion}
use Rattle.ox_sat.specs.declared.profiles.Profile.{Profile}
use Rattle.ox_ledger.specs.Part.{balances_of}
use Rattle.ox_model.specs.Change.{outputs_changed, undone}
use Rattle.ox_model.specs.Ends.{AllEnd}
use Rattle.ox_model.specs.Index.{Index}
use Rattle.ox_model.specs.Sound.{IsSound}
use Rattle.ox_model.specs.declared.change.Change.{Change}
use Rattle.ox_asof.specs.Said.{AreRising}
use Rattle.ox_asof.specs.Undone.{undone_by}

pub sound_undone : (p : Profile) (index : Index) (changes : List Change) → IsSound p index → AllEnd p index changes → IsSound p (undone_by index changes)
sound_undone p index [] sound all = sound
sound_undone p index (change ∷ changes) sound all = sound_undone p (undone index change) changes all.0.sound all.1

pub outputs_rise : (p : Profile) (index : Index) (changes : List Change) → AllEnd p index changes → AllByRecursion (λ (change : Change). AreRising (outputs_changed change)) changes
outputs_rise p index [] all = tt
outputs_rise p index (change ∷ changes) all = ((all.0.leads.gone.rising, all.0.leads.came.rising), outputs_rise p (undone index change) changes all.1)

pub balances_rise : (p : Profile) (index : Index) (changes : List Change) → AllEnd p index changes → AllByRecursion (λ (change : Change). AreRising (balances_of change.runes)) changes
balances_rise p index [] all = tt
balances_rise p index (change ∷ changes) all =
    ((all.0.leads.runes.balances.gone.rising, all.0.leads.runes.balances.came.rising), balances_rise p (undone index change) changes all.1)
