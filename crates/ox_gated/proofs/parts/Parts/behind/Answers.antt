use Rattle.std.proofs.Common.{◌≤◌, ◌+◌, ◌∙◌, sym, ap, subst}
use Rattle.ox_gated.specs.Parts.{HasWalked, Unread, Walked, body_in, walker_behind}
use Rattle.std.specs.Prelude.{[]}
use Rattle.ox_gated.proofs.BodyRead.{walked_behind}
use Rattle.ox_gated.proofs.parts.Parts.behind.Goals as goal

pub returns-clause-walked : goal.returns-clause-walked
returns-clause-walked c files are right =
    let within = subst (λ (p : Unread). 90 + p.size ≤ p.len) c.self.view_is c.self.invariant.3 in
    let same = c.at.ensures ∙ ap walker_behind c.self.view_is in
    subst (λ (w : Walked). HasWalked w (body_in c.args.self files) [] files) (sym same) (walked_behind c.args.self files within are right)
