use Rattle.std.proofs.Common.{◌∙◌, ap, inr, length}
use Rattle.ox_gated.specs.WritesOn.{writes_then}
use Rattle.ox_model.specs.Stack.{Stack}
use Rattle.ox_drill.specs.Chain.{drill_commands}
use Rattle.ox_drill.proofs.Parts.{drilled_all, drills_all}
use Rattle.ox_drill.proofs.Profile.{profile_kept}
use Rattle.ox_drill.proofs.drill.drill_store.Goals as goal

pub line_of-requires : goal.line_of-requires
line_of-requires g c =
    let profile = λ (s : Stack). s.profile in
    c.live.ensures.profile ∙ ap profile c.in_ok-store-2.ensures.carries.leads ∙ profile_kept c.in_ok-store.store.stack (drill_commands c.args.n) ∙ ap profile c.in_ok-store.ensures.stack

pub returns-clause-in_turn : goal.returns-clause-in_turn
returns-clause-in_turn g c told =
    let told_made = c.in_ok-store.ensures.writes.calls.as_told ∙ told in
    inr (
      length (drill_commands c.args.n),
      drills_all g.S.Site c.args.n c.in_ok-store.store c.in_ok-store-2.store c.args.site.now c.make_store.new.site c.carry_all.new.site c.in_ok-store.ensures.writes
          (c.in_ok-store.ensures.in_step told) c.in_ok-store.ensures.stack told_made c.in_ok-store-2.ensures.carries,
    )

pub returns-in-Ok-clause-in_turn : goal.returns-in-Ok-clause-in_turn
returns-in-Ok-clause-in_turn g c told =
    let told_made = c.in_ok-store.ensures.writes.calls.as_told ∙ told in
    drills_all g.S.Site c.args.n c.in_ok-store.store c.in_ok-store-2.store c.args.site.now c.make_store.new.site c.carry_all.new.site c.in_ok-store.ensures.writes
    (c.in_ok-store.ensures.in_step told) c.in_ok-store.ensures.stack told_made c.in_ok-store-2.ensures.carries

pub returns-in-Ok-clause-drilled : goal.returns-in-Ok-clause-drilled
returns-in-Ok-clause-drilled g c told =
    drilled_all g.S.Site c.args.n c.in_ok-store.store c.in_ok-store-2.store c.make_store.new.site c.carry_all.new.site c.in_ok-store.ensures.stack (c.in_ok-store.ensures.writes.calls.as_told ∙ told) c.in_ok-store-2.ensures.carries

pub returns-in-Ok-clause-writes : goal.returns-in-Ok-clause-writes
returns-in-Ok-clause-writes g c =
    writes_then g.S.Site g.met.S.Site.logs_now c.args.site.now c.make_store.new.site c.carry_all.new.site c.in_ok-store.ensures.writes c.in_ok-store-2.ensures.stops.writes
