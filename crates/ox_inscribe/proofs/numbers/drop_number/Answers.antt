use Rattle.std.proofs.Common.{◌∙◌}
use Rattle.ox_inscribe.proofs.MapLaws.{removed}
use Rattle.ox_inscribe.proofs.numbers.drop_number.Goals as goal

pub returns-then-pop_number : goal.returns-then-pop_number
returns-then-pop_number g c = λ q.
    removed {R = g.K.Ord.cmp} g.met.K.Ord.total c.pop_number.new.map c.remove.new.self c.args.key c.remove.ensures.updates.0 (c.pop_number.ensures.empty c.if-pop_number.true) q
    ∙ c.pop_number.ensures.numbers q
