use Rattle.std.proofs.Common.{ℕ, ◌++◌, List, sym, ap, ◌∙◌, append_assoc, append-nil}
use Rattle.ox_replies.specs.Named.{without_escapes}
use Rattle.ox_query.proofs.RuneParts.{nothing_read}
use Rattle.ox_query.proofs.rune_named.without_escapes.Goals as goal

pub loop-front-preserved : goal.loop-front-preserved
loop-front-preserved c =
    ap (λ (t : List ℕ). t ++ without_escapes c.in-Some.behind.now) c.in_ok-append.ensures.ok
    ∙ append_assoc c.loop-front.read c.in-Some.front.now (without_escapes c.in-Some.behind.now)
    ∙ ap (λ (t : List ℕ). c.loop-front.read ++ t) (sym c.in-Some.ensures.0) ∙ c.loop-front.invariant

pub returns : goal.returns
returns c =
    sym (append-nil c.loop-front.read) ∙ ap (λ (t : List ℕ). c.loop-front.read ++ t) (sym (ap without_escapes c.in_default.ensures ∙ nothing_read)) ∙ c.loop-front.invariant
