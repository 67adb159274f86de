use Rattle.std.proofs.Common.{◌∙◌, ◌++◌, ◌∷◌, [], ℕ, List, ap, append_assoc}
use Rattle.std.specs.Prelude.{replicate}
use Rattle.std.proofs.lemmas.List.{replicate_more}
use Rattle.ox_memsite.proofs.replay.append_fill.Goals as goal

pub loop-preserved : goal.loop-preserved
loop-preserved c =
    let before = c.args.bytes.now.items in
    c.in_ok-push.ensures.items
    ∙ ap (λ (l : List ℕ). l ++ c.args.fill ∷ []) c.loop.invariant
    ∙ append_assoc before (replicate c.loop.counter c.args.fill) (c.args.fill ∷ [])
    ∙ ap (λ (l : List ℕ). before ++ l) (replicate_more c.loop.counter c.args.fill)
