use Rattle.ox_routes.proofs.Table.{one_route}
use Rattle.ox_routes.proofs.router.one_row_takes_a_path.Goals as goal

pub returns : goal.returns
returns c = one_route
