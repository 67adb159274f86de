use Rattle.std.proofs.Common.{◌∷◌, [], ◌≤◌, ◌∙◌, sym, arith}
use Rattle.std.proofs.lemmas.List.{drop_all}
use Rattle.ox_range.specs.Few.{runs_in}
use Rattle.ox_range.specs.Runs.{numbers_of, AreRunsOf}
use Rattle.ox_range.proofs.RunLemmas.{numbers-none}
use Rattle.ox_range.proofs.CutLemmas.{run_alone, one_cut}
use Rattle.ox_range.proofs.KeptLemmas.{kept_empty}
use Rattle.ox_range.proofs.cuts.split.Goals as goal

pub returns-then-place-len-clause-rest : goal.returns-then-place-len-clause-rest
returns-then-place-len-clause-rest c =
    numbers-none ∙ sym (drop_all c.args.place (numbers_of (runs_in c.args.runs.now)) (omega (arith, c.requires.kept.are_runs.len, c.if-place-len.true, c.len.ensures)))

pub returns-then-place-len-clause-rest_kept : goal.returns-then-place-len-clause-rest_kept
returns-then-place-len-clause-rest_kept c = kept_empty

pub from_numbers-requires : goal.from_numbers-requires
from_numbers-requires c =
    let kept : AreRunsOf (c.in-One.run' ∷ []) c.in-One.run'.count = rw c.in-One.is at c.requires.kept.are_runs in
    let within : c.args.place ≤ c.in-One.run'.count = rw c.in-One.is at c.requires.within in
    let run = run_alone c.in-One.run' kept.maximal in
    omega (arith, run, within)

pub overflow_add-first : goal.overflow_add-first
overflow_add-first c =
    let kept : AreRunsOf (c.in-One.run' ∷ []) c.in-One.run'.count = rw c.in-One.is at c.requires.kept.are_runs in
    let within : c.args.place ≤ c.in-One.run'.count = rw c.in-One.is at c.requires.within in
    let run = run_alone c.in-One.run' kept.maximal in
    omega (arith, run, within)

pub from_numbers-requires-in-One : goal.from_numbers-requires-in-One
from_numbers-requires-in-One c =
    let kept : AreRunsOf (c.in-One.run' ∷ []) c.in-One.run'.count = rw c.in-One.is at c.requires.kept.are_runs in
    let within : c.args.place ≤ c.in-One.run'.count = rw c.in-One.is at c.requires.within in
    let run = run_alone c.in-One.run' kept.maximal in
    omega (arith, run, within)

pub returns-in-One-clause-front : goal.returns-in-One-clause-front
returns-in-One-clause-front c =
    let within : c.args.place ≤ c.in-One.run'.count = rw c.in-One.is at c.requires.within in
    rw c.in-One.is (c.from_numbers.ensures.numbers ∙ (one_cut c.in-One.run' c.args.place within).0)

pub returns-in-One-clause-rest : goal.returns-in-One-clause-rest
returns-in-One-clause-rest c =
    let within : c.args.place ≤ c.in-One.run'.count = rw c.in-One.is at c.requires.within in
    rw c.in-One.is (c.from_numbers-in-One.ensures.numbers ∙ (one_cut c.in-One.run' c.args.place within).1)
