use Rattle.std.proofs.Common.{ap}
use Rattle.std.specs.Prelude.{Some}
use Rattle.ox_model.specs.Stack.{Stack}
use Rattle.ox_follow.specs.Frame.{plain}
use Rattle.ox_follow.specs.World.{Leader}
use Rattle.ox_pieces.specs.Stood.{rules_of}
use Rattle.ox_pieces.proofs.PiecesOfLeaders.{answers_base}
use Rattle.ox_pieces.proofs.leader.Leader.next.Goals as goal

pub returns-in-Less-clause-answer : goal.returns-in-Less-clause-answer
returns-in-Less-clause-answer c =
    let leader = c.args.self.now in
    answers_base (rules_of leader.state) leader c.self.inside.records c.self.inside.records c.args.at c.self.inside.head.generation (Some (plain c.base.result))
    (ap (λ (l : Leader Stack). l.generation) c.self.view_is) c.in-Less.ensures (c.base.ensures.base c.args.at)
