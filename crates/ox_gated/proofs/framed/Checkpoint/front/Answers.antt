use Rattle.std.proofs.Common.{◌≡◌, ◌∙◌, ◌+◌, List, ℕ, length, ap, subst}
use Rattle.ox_gated.specs.Layout.{Whole, body_before, layout_of}
use Rattle.ox_gated.proofs.WholeFile.{length-head_bytes}
use Rattle.ox_gated.proofs.framed.Checkpoint.front.Goals as goal

pub returns-clause-size : goal.returns-clause-size
returns-clause-size c =
    subst (λ (w : Whole). length c.as_slice.result.now + 1 ≡ (layout_of w.head.version).body_at) c.self.view_is
    (ap (λ (l : List ℕ). length l + 1) (c.as_slice.ensures ∙ c.self.invariant.0) ∙ length-head_bytes c.self.inside.head (body_before c.self.inside.behind))
