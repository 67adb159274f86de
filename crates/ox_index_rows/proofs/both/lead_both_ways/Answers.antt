use Rattle.std.proofs.Common.{sym, subst}
use Rattle.ox_sat.specs.declared.profiles.Profile.{Profile}
use Rattle.ox_model.specs.Change.{IsChange}
use Rattle.ox_model.specs.Ends.{EndsIn}
use Rattle.ox_model.specs.Index.{Index}
use Rattle.ox_model.specs.Sound.{IsSound}
use Rattle.ox_model.specs.declared.change.Change.{Change}
use Rattle.ox_model.proofs.Changes.{goes_undone}
use Rattle.ox_index.specs.Live.{index_in, profile_in}
use Rattle.ox_index_rows.proofs.both.lead_both_ways.Goals as goal

pub go_back_and_on-requires : goal.go_back_and_on-requires
go_back_and_on-requires g c =
    let before : Index = index_in c.args.live.now in
    let after : Index = index_in c.connect.new.self in
    let change : Change = c.in-Ok.change in
    let is : IsChange before after change = c.in-Ok.ensures.change in
    let back = sym (goes_undone before after change is) in
    subst (λ (p : Profile). EndsIn p after change) (sym c.connect.ensures.profile) (record {
      leads = subst (λ (i : Index). IsChange i after change) back is;
      sound = subst (IsSound (profile_in c.args.live.now)) back c.args.live.now.sound;
    })
