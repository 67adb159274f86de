use Rattle.std.proofs.Common.{◌∙◌, ap, sym}
use Rattle.ox_model.specs.Stack.{Stack}
use Rattle.ox_follow.specs.World.{Leader}
use Rattle.ox_pieces.specs.Stood.{rules_of}
use Rattle.ox_pieces.proofs.PiecesOfLeaders.{behind_level, behind_none, behind_record}
use Rattle.ox_pieces.proofs.leader.Leader.behind.Goals as goal

pub returns-in-Some-clause-piece : goal.returns-in-Some-clause-piece
returns-in-Some-clause-piece c =
    let leader = c.args.self.now in
    behind_record (rules_of leader.state) leader c.self.inside.records c.as_slice.result.now c.args.at c.in-Some.record.now c.as_slice-in-Some.result.now
    (ap (λ (l : Leader Stack). l.payloads) (sym c.self.view_is)) c.as_slice.ensures c.in-Some.ensures.lookup.0 c.in-Some.ensures.lookup.1 c.as_slice-in-Some.ensures

pub returns-in-None-clause-piece : goal.returns-in-None-clause-piece
returns-in-None-clause-piece c =
    let leader = c.args.self.now in
    behind_level (rules_of leader.state) leader c.self.inside.records c.as_slice.result.now c.args.at (ap (λ (l : Leader Stack). l.payloads) (sym c.self.view_is)) (c.if-at-len.true ∙ c.len.ensures)

pub returns-in-None-2-clause-piece : goal.returns-in-None-2-clause-piece
returns-in-None-2-clause-piece c =
    let leader = c.args.self.now in
    behind_none (rules_of leader.state) leader c.self.inside.records c.as_slice.result.now c.args.at (ap (λ (l : Leader Stack). l.payloads) (sym c.self.view_is)) c.as_slice.ensures c.in-None-2.ensures.lookup.0 (λ is. c.if-at-len.false (is ∙ sym c.len.ensures))
