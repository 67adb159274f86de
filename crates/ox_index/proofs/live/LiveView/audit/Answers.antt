use Rattle.std.proofs.Common.{◌≡◌, ◌∙◌, ℕ, length, sym, ap}
use Rattle.std.proofs.lemmas.List.{length-take-le}
use Rattle.ox_sat.specs.Heights.{first_at}
use Rattle.ox_index.specs.Live.{index_in, profile_in}
use Rattle.ox_index.specs.declared.live.Live.{Live}
use Rattle.ox_index.proofs.Audits.{adds_up, lost_within}
use Rattle.ox_index.proofs.live.LiveView.audit.Goals as goal

all_claimed : (live : Live) (claimable : ℕ) → claimable ≡ first_at (profile_in live) live.shown.blocks → claimable ≡ first_at (profile_in live) (length (index_in live).hashes)
all_claimed live claimable is = is ∙ ap (first_at (profile_in live)) (sym (length-take-le live.shown.blocks live.hashes.items live.within.hashes_there))

all_lost : (live : Live) → live.shown.lost ≡ length (index_in live).lost
all_lost live = sym (length-take-le live.shown.lost live.lost live.within.lost_there)

pub overflow_sub-result : goal.overflow_sub-result
overflow_sub-result c =
    let live = c.args.self.now in
    lost_within (profile_in live) (index_in live) live.sound c.first-claimable.result live.shown.lost
    (all_claimed live c.first-claimable.result c.first-claimable.ensures.value) (all_lost live)

pub returns : goal.returns
returns c =
    let live = c.args.self.now in
    adds_up (profile_in live) (index_in live) live.sound c.first-claimable.result live.shown.lost
    (all_claimed live c.first-claimable.result c.first-claimable.ensures.value) (all_lost live) _ c.in_ok-audits_of.ensures
