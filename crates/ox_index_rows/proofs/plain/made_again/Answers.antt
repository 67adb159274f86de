use Rattle.std.proofs.Common.{◌∙◌, sym, subst}
use Rattle.ox_model.specs.Sound.{IsSound}
use Rattle.ox_sat.specs.Profiles.{IsProfile}
use Rattle.ox_plain.specs.Plain.{index_in as stands}
use Rattle.ox_index.specs.Live.{profile_in}
use Rattle.ox_index_rows.proofs.plain.made_again.Goals as goal

pub read_again-requires : goal.read_again-requires
read_again-requires c =
    let p = profile_in c.args.live.now in
    c.sound_data_can_be_put.ensures.index p (stands c.in_ok-plain.plain) c.args.live.now.parts.known (subst (IsSound p) (sym c.in_ok-plain.ensures) c.args.live.now.sound)

pub of-requires-clause-known : goal.of-requires-clause-known
of-requires-clause-known c = subst IsProfile (sym c.profile.ensures) c.args.live.now.parts.known

pub of-requires-clause-sound : goal.of-requires-clause-sound
of-requires-clause-sound c =
    rw c.profile.ensures (subst (IsSound (profile_in c.args.live.now)) (sym (c.in_ok-read.ensures ∙ c.in_ok-plain.ensures)) c.args.live.now.sound)
