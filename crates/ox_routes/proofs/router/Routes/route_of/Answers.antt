use Rattle.std.proofs.Common.{sym, ap, ◌∙◌, option_map}
use Rattle.ox_routes.proofs.Table.{router_finds}
use Rattle.ox_routes.proofs.router.Routes.route_of.Goals as goal

pub returns-in-Ok : goal.returns-in-Ok
returns-in-Ok c = ap (option_map (λ e. e.value)) (sym c.in-Ok.ensures.found) ∙ router_finds c.args.self.now.router c.args.self.now.holds c.args.text.now

pub returns-in-Err : goal.returns-in-Err
returns-in-Err c = ap (option_map (λ e. e.value)) (sym c.in-Err.ensures.missing) ∙ router_finds c.args.self.now.router c.args.self.now.holds c.args.text.now
