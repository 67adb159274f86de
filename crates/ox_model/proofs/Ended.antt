-- That each change ends in its index is one fact, and the changes lead down the older indexes.
use Rattle.std.proofs.Common.{List, [], ◌∷◌}
use Rattle.std.specs.FinMap as map
use Rattle.std.specs.Coded.{codes}
use Rattle.std.proofs.Props.{props}
use Rattle.ox_sat.specs.declared.profiles.Profile.{Profile}
use Rattle.ox_etching.specs.declared.row.RuneRow.{RuneRow}
use Rattle.ox_ledger.specs.Part.{Continues, counts_of, with_counts}
use Rattle.ox_model.specs.Change.{undone}
use Rattle.ox_model.specs.Ends.{AllEnd, EndsIn, LeadDown, older_by}
use Rattle.ox_model.specs.Index.{Index}
use Rattle.ox_model.specs.Sound.{IsSound}
use Rattle.ox_model.specs.declared.change.Change.{Change}

-- that an index is sound is one fact
pub IsSound-prop : (p : Profile) (index : Index) → IsProp (IsSound p index)
IsSound-prop p index = hlevel (codes, map.code, props)

row_set : IsSet RuneRow
row_set = hlevel codes

continues-prop : (before after : List RuneRow) → IsProp (Continues before after)
continues-prop [] after = hlevel codes
continues-prop (old ∷ before) [] = hlevel codes
continues-prop (old ∷ before) (new ∷ after) = hlevel (row_set new (with_counts old (counts_of new)), continues-prop before after)

ends-prop : (p : Profile) (index : Index) (change : Change) → IsProp (EndsIn p index change)
ends-prop p index change = hlevel (codes, map.code, props, continues-prop)

pub AllEnd-prop : (p : Profile) (index : Index) (changes : List Change) → IsProp (AllEnd p index changes)
AllEnd-prop p index [] = hlevel (codes, map.code)
AllEnd-prop p index (change ∷ changes) = hlevel (ends-prop p index change, AllEnd-prop p (undone index change) changes)

pub lead_down : (p : Profile) (index : Index) (changes : List Change) → AllEnd p index changes → LeadDown index (older_by index changes) changes
lead_down p index [] all = tt
lead_down p index (change ∷ changes) all = (all.0.leads, lead_down p (undone index change) changes all.1)
