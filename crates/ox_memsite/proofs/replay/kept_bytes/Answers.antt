use Rattle.std.proofs.Common.{◌≡◌, ◌∙◌, ap, sym, List, ℕ, ◌++◌, ◌∷◌, [], get_or, false}
use Rattle.std.specs.Prelude.{slice_get}
use Rattle.ox_memsite.specs.Kept.{kept_at}
use Rattle.ox_memsite.proofs.Filled.{filled_more}
use Rattle.ox_memsite.proofs.replay.kept_bytes.Goals as goal

pub loop-place-preserved : goal.loop-place-preserved
loop-place-preserved c =
    let byte : c.kept_byte.result ≡ kept_at c.args.fill (get_or c.args.uncovered.now c.loop-place.place false) (slice_get c.args.bytes.now c.loop-place.place) =
    c.kept_byte.ensures ∙ ap (kept_at c.args.fill (get_or c.args.uncovered.now c.loop-place.place false)) c.byte_at.ensures in
    c.in_ok-push.ensures.items ∙ ap (λ (b : ℕ). c.loop-place.kept.items ++ b ∷ []) byte
    ∙ ap (λ (l : List ℕ). l ++ kept_at c.args.fill (get_or c.args.uncovered.now c.loop-place.place false) (slice_get c.args.bytes.now c.loop-place.place) ∷ []) c.loop-place.invariant
    ∙ sym (filled_more c.args.fill c.args.uncovered.now c.args.bytes.now c.loop-place.place false c.loop-place-test.true)
