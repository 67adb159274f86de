use Rattle.std.proofs.Common.{◌≡◌, sym, subst}
use Rattle.ox_sat.specs.declared.profiles.Profile.{Profile}
use Rattle.ox_model.specs.Change.{IsChange, undone}
use Rattle.ox_model.specs.Ends.{BeginsIn}
use Rattle.ox_model.specs.Index.{Index}
use Rattle.ox_model.specs.Sound.{IsSound}
use Rattle.ox_model.specs.declared.change.Change.{Change}
use Rattle.ox_model.proofs.Changes.{goes_redone}
use Rattle.ox_index.specs.Live.{index_in, profile_in}
use Rattle.ox_index_rows.proofs.both.go_back_and_on.Goals as goal

pub again-requires : goal.again-requires
again-requires g c =
    let after : Index = index_in c.args.live.now in
    let there : Index = index_in c.back.new.self in
    let change : Change = c.args.change.now in
    let is : IsChange (undone after change) after change = c.requires.leads in
    let same : there ≡ undone after change = c.in-Ok.ensures.ok in
    let on = sym (goes_redone (undone after change) after change is) in
    subst (λ (p : Profile). BeginsIn p there change) (sym c.back.ensures.profile)
    (subst (λ (i : Index). BeginsIn (profile_in c.args.live.now) i change) (sym same) (record {
      leads = subst (λ (i : Index). IsChange (undone after change) i change) on is;
      sound = subst (IsSound (profile_in c.args.live.now)) on c.args.live.now.sound;
    }))
