use Rattle.std.proofs.Common.{Ok, ap, sym, ◌∙◌, List, ℕ}
use Rattle.ox_rows.proofs.Ahead.{left_behind}
use Rattle.ox_rows.proofs.next.front_by.Goals as goal

pub returns-clause-read : goal.returns-clause-read
returns-clause-read g c =
    let l = left_behind (g.B.Reads.at c.args.by) (g.met.B.Reads.fronts c.args.by) c.args.bytes.now (c.in_ok-value.value, c.in_ok-value.rest.now) c.in_ok-value.ensures in
    c.in_ok-value.ensures ∙ ap (λ (rest : List ℕ). Ok (c.in_ok-value.value, rest)) (sym l.0)

pub returns-clause-within : goal.returns-clause-within
returns-clause-within g c = (left_behind (g.B.Reads.at c.args.by) (g.met.B.Reads.fronts c.args.by) c.args.bytes.now (c.in_ok-value.value, c.in_ok-value.rest.now) c.in_ok-value.ensures).1
