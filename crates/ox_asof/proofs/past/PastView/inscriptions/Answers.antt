use Rattle.std.proofs.Common.{ap}
use Rattle.ox_asof.specs.declared.lengths.Lengths.{Lengths}
use Rattle.ox_asof.proofs.past.PastView.inscriptions.Goals as goal

pub returns : goal.returns
returns g c = ap (λ (l : Lengths). l.inscriptions) c.args.self.now.counted
