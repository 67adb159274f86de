use Rattle.std.proofs.Common.{refl}
use Rattle.ox_model.specs.Machine.{stack_of}
use Rattle.ox_desk.proofs.Machines.{served_alike}
use Rattle.ox_desk.specs.Servers.{server_of, server_on}
use Rattle.ox_desk.proofs.laws.machines_serve_as_their_stacks.Goals as goal

pub returns : goal.returns
returns c = λ machine log. c.like_servers_serve_alike.ensures server_of server_on served_alike machine (stack_of machine) refl log
