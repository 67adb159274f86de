use Rattle.std.proofs.Common.{ℕ, List, ◌++◌, ap, ◌∙◌, append_assoc}
use Rattle.ox_rows.proofs.laws.longer_fronts_read_alike.Goals as goal

pub returns : goal.returns
returns g c =
    λ bytes more rest x e.
    let p = g.met.T.Readable.fronts bytes (x, rest) e in
    ap g.T.Readable.at (ap (λ (t : List ℕ). t ++ more) p.parts ∙ append_assoc p.front rest more) ∙ p.again (rest ++ more)
