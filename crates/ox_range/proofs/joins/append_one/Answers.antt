use Rattle.std.proofs.Common.{[], ◌∷◌, ◌+◌, ◌<◌, ◌^◌, arith, lit<}
use Rattle.ox_range.specs.Runs.{GoesOn, AreRunsOf}
use Rattle.ox_range.proofs.RunLemmas.{numbers-append}
use Rattle.ox_range.proofs.CutLemmas.{run_alone, joined_maximal, joined_numbers, append_maximal}
use Rattle.ox_range.proofs.KeptLemmas.{kept_joined}
use Rattle.ox_range.proofs.joins.append_one.Goals as goal

pub overflow_add-run : goal.overflow_add-run
overflow_add-run c =
    let kept : AreRunsOf (c.in-One.run' ∷ []) c.in-One.run'.count = rw c.in-One.is at c.requires.kept.are_runs in
    let run = run_alone c.in-One.run' kept.maximal in
    omega (arith, run)

pub from_slice-requires : goal.from_slice-requires
from_slice-requires c =
    let kept : AreRunsOf (c.in-One.run' ∷ []) c.in-One.run'.count = rw c.in-One.is at c.requires.kept.are_runs in
    let fits : c.in-One.run'.count + c.args.next.count < 2 ^ 64 = rw c.in-One.is at c.requires.fits in
    let apart : ¬ GoesOn (c.in-One.run' ∷ []) (c.args.next ∷ []) = λ on. c.if-run-next.false on.meets in
    kept_joined (c.in-One.run' ∷ []) (c.args.next ∷ []) (c.in-One.run' ∷ c.args.next ∷ []) c.in-One.run'.count c.args.next.count kept c.requires.next fits
    (append_maximal (c.in-One.run' ∷ []) (c.args.next ∷ []) kept.maximal c.requires.next.maximal apart) (numbers-append (c.in-One.run' ∷ []) (c.args.next ∷ []))

pub returns-then-run-next-clause-numbers : goal.returns-then-run-next-clause-numbers
returns-then-run-next-clause-numbers c =
    let on : GoesOn (c.in-One.run' ∷ []) (c.args.next ∷ []) = record { some = lit< tt; more = lit< tt; meets = c.if-run-next.true } in
    rw c.in-One.is (joined_numbers (c.in-One.run' ∷ []) (c.args.next ∷ []) on)

pub returns-then-run-next-clause-kept : goal.returns-then-run-next-clause-kept
returns-then-run-next-clause-kept c =
    let kept : AreRunsOf (c.in-One.run' ∷ []) c.in-One.run'.count = rw c.in-One.is at c.requires.kept.are_runs in
    let fits : c.in-One.run'.count + c.args.next.count < 2 ^ 64 = rw c.in-One.is at c.requires.fits in
    let on : GoesOn (c.in-One.run' ∷ []) (c.args.next ∷ []) = record { some = lit< tt; more = lit< tt; meets = c.if-run-next.true } in
    record {
      are_runs = kept_joined (c.in-One.run' ∷ []) (c.args.next ∷ []) (record { first = c.in-One.run'.first; count = c.in-One.run'.count + c.args.next.count } ∷ []) c.in-One.run'.count c.args.next.count kept c.requires.next fits
          (joined_maximal (c.in-One.run' ∷ []) (c.args.next ∷ []) kept.maximal c.requires.next.maximal on) (joined_numbers (c.in-One.run' ∷ []) (c.args.next ∷ []) on);
      compact = tt;
    }

pub returns-in_ok-two-in-One-clause-numbers : goal.returns-in_ok-two-in-One-clause-numbers
returns-in_ok-two-in-One-clause-numbers c = rw (c.in_ok-two-in-One.ensures.same, c.in-One.is) (numbers-append (c.in-One.run' ∷ []) (c.args.next ∷ []))
