use Rattle.std.proofs.Common.{◌≡◌, ◌++◌, ◌∙◌, ℕ, List, ap, sym, subst, All}
use Rattle.std.proofs.lemmas.List.Sorted.{All-permutation}
use Rattle.ox_range.specs.Runs.{numbers_of}
use Rattle.ox_rules.specs.Outputs.{times}
use Rattle.ox_sound.specs.Keeps.{sats_in}
use Rattle.ox_sound.specs.Once.{IsRun}
use Rattle.ox_sound.proofs.KeepsPassLemmas.{found_weaker}
use Rattle.ox_sound.proofs.TileLemmas.{times_permuted}
use Rattle.ox_sound.proofs.moved_sats.in_order.Goals as goal

pub joined-requires : goal.joined-requires
joined-requires c =
    subst (All IsRun) (sym c.deref.ensures.value)
    (All-permutation IsRun c.in_ok-runs.runs.items c.sort_unstable_by_key.new.self.items c.sort_unstable_by_key.ensures.permutation c.in_ok-runs.ensures.runs)

pub returns : goal.returns
returns c =
    found_weaker c.joined.result (λ (list : List ℕ). list ≡ numbers_of c.deref.result.now) (λ (list : List ℕ). (sat : ℕ) → times sat list ≡ times sat (sats_in c.args.rows.now ++ c.args.more.now))
    (λ list is sat.
    ap (times sat) (is ∙ ap numbers_of c.deref.ensures.value)
    ∙ times_permuted sat c.in_ok-runs.runs.items c.sort_unstable_by_key.new.self.items c.sort_unstable_by_key.ensures.permutation ∙ ap (times sat) c.in_ok-runs.ensures.numbers)
    c.joined.ensures
