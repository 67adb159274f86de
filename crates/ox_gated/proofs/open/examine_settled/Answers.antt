use Rattle.std.proofs.Common.{◌∙◌, refl, subst}
use Rattle.std.specs.Prelude.{IfErr, IfOk}
use Rattle.ox_outside.proofs.Counts.{stops_as}
use Rattle.ox_outside.specs.Files.{Files}
use Rattle.ox_gated.specs.Opened.{IsExamined, IsUnpicked}
use Rattle.ox_gated.specs.Pick.{choice_of}
use Rattle.ox_gated.proofs.Looking.{until_then}
use Rattle.ox_gated.proofs.OpenedHolds.{settled_on}
use Rattle.ox_gated.proofs.Writing.{all_worked}
use Rattle.ox_gated.proofs.open.examine_settled.Goals as goal

pub returns-in-Ok : goal.returns-in-Ok
returns-in-Ok g c =
    let first = c.in-Ok.ensures in
    let same = first.looks.nothing.files in
    let told_on = first.looks.calls.as_told in
    let next = c.examine.ensures in
    let result = c.examine.result in
    let mid = c.settle.new.site in
    let new = c.examine.new.site in
    record {
      examines = record {
        examined = λ told. subst (λ (f : Files). IfOk result (λ x. IsExamined x f)) same (next.examined (told_on ∙ told));
        size = next.size;
        lawful = next.lawful;
        fault = λ told. subst (λ (f : Files). IfErr result (IsUnpicked (choice_of f.a f.b))) same (next.fault (told_on ∙ told));
        behind = next.behind;
        run = until_then g.S.Site result c.args.site.now mid new first.looks (all_worked _ _ first.counted) next.run;
      };
      settled = λ none. settled_on g.S.Site mid new next.run.looks first.settled;
    }

pub returns-in-Err : goal.returns-in-Err
returns-in-Err g c =
    let first = c.in-Err.ensures in
    record {
      examines = record {
        examined = λ told. tt;
        size = tt;
        lawful = tt;
        fault = λ told. tt;
        behind = tt;
        run = record { looks = first.looks; failed = λ disk. first.failed; counted = stops_as _ ⊥ ⊥ _ ⊥ ⊥ _ _ (λ failed. refl) (λ no. no) (λ no. no) first.counted };
      };
      settled = λ none. absurd (none refl);
    }
