use Rattle.std.proofs.Common.{refl, subst, sym}
use Rattle.std.specs.Prelude.{Result, Err}
use Rattle.ox_feed.specs.declared.command.Command.{Command}
use Rattle.ox_rules.specs.declared.refusal.Refusal.{Refusal}
use Rattle.ox_app.specs.Carry.{TakesTurn}
use Rattle.ox_app.specs.Fold.{turn_by}
use Rattle.ox_app.proofs.Carrying.{turn_refused}
use Rattle.ox_app.proofs.carry.carry_asked.Goals as goal

pub returns-in-Ok : goal.returns-in-Ok
returns-in-Ok g c =
    subst (λ (asked : Result Command Refusal). TakesTurn g.S.Site c.args.store (turn_by c.args.store.stack asked) c.carry_command.result c.args.site.now c.carry_command.new.site)
    (sym c.in-Ok.is) c.carry_command.ensures

pub returns-in-Err : goal.returns-in-Err
returns-in-Err g c =
    subst (λ (asked : Result Command Refusal). TakesTurn g.S.Site c.args.store (turn_by c.args.store.stack asked) c.refuse.result c.args.site.now c.args.site.now)
    (sym c.in-Err.is)
    (turn_refused g.S.Site g.met.S.Site.only_now g.met.S.Site.logs_now c.args.site.now c.args.store c.requires.holds
    (Err c.in-Err.refusal) c.in-Err.refusal c.args.store c.refuse.result refl refl c.refuse.ensures.store c.refuse.ensures.answer c.refuse.ensures.stops)
