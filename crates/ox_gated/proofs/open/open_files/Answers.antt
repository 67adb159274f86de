use Rattle.std.proofs.Common.{◌≡◌, ◌∙◌, sym, subst}
use Rattle.std.proofs.lemmas.Result.{IfOk-weaker}
use Rattle.std.specs.Prelude.{Result, Ok, Err, IfOk, IfErr, IsTrue}
use Rattle.ox_outside.specs.Files.{Files, file_of}
use Rattle.ox_gated.specs.Layout.{is_lawful}
use Rattle.ox_gated.specs.Opened.{IsFault, found_of}
use Rattle.ox_gated.specs.OldReading.{current_as}
use Rattle.ox_gated.specs.Reading.{Found, Fault}
use Rattle.ox_gated.specs.declared.head.Head.{Head}
use Rattle.ox_gated.proofs.Looking.{given, until_as, until_then}
use Rattle.ox_gated.proofs.OneWrite.{err_as, went_well}
use Rattle.ox_gated.proofs.OpenedHolds.{unpicked_fault, all_headed, as_is, all_hold, settled_on}
use Rattle.ox_gated.proofs.open.open_files.Goals as goal

pub returns-in-Err : goal.returns-in-Err
returns-in-Err g c =
    let e = c.in-Err.ensures in
    let fault = c.in-Err.fault in
    record {
      opens = record {
        found = λ told. tt;
        holds = λ told. tt;
        lawful = tt;
        settled = λ none. e.settled (λ disk. none (err_as _ _ disk));
        reads = record {
          not_store = λ told. unpicked_fault c.args.only (g.S.Site.seen c.args.site.now) fault (e.examines.fault told);
          behind = e.examines.behind;
          run = until_as g.S.Site (Err fault) (Err fault) c.args.site.now c.examine_settled.new.site (λ disk. err_as _ _ disk) (λ disk. err_as _ _ disk) e.examines.run;
        };
      };
      head = tt;
      generation = λ followed. tt;
    }

pub returns-in-Ok : goal.returns-in-Ok
returns-in-Ok g c =
    let first = c.in-Ok.ensures.examines in
    let looks = first.run.looks in
    let read = c.read_current.ensures in
    let result = c.read_current.result in
    let e = c.in-Ok.examined in
    let mid = c.examine_settled.new.site in
    let new = c.read_current.new.site in
    let files = g.S.Site.seen c.args.site.now in
    let settled = settled_on g.S.Site mid new read.reads.run.looks (c.in-Ok.ensures.settled (given e)) in
    let found = λ (told : IsTrue (g.S.Site.told c.args.site.now)).
    subst (λ (f : Files). IfOk result (λ o. current_as c.args.only e.file (file_of f e.file) e.opening ≡ Ok (found_of o))) looks.nothing.files (read.found (looks.calls.as_told ∙ told)) in
    record {
      opens = record {
        found = λ told. subst (λ (r : Result Found Fault). IfOk result (λ o. r ≡ Ok (found_of o))) (sym (as_is files e.file e.opening (first.examined told).picks c.args.only)) (found told);
        holds = λ told.
            let is = first.examined told in
            all_hold files e.file e.opening is.picks g.S.Site new (read.reads.run.looks.nothing.files ∙ looks.nothing.files) settled c.args.only result e.other_closed is.closed read.tail (found told);
        lawful = IfOk-weaker result _ _ (λ o is. subst (λ (h : Head). IsTrue (is_lawful h)) (sym is) first.lawful) read.head;
        settled = λ none. settled;
        reads = record {
          not_store = λ told.
              let fault = subst (λ (f : Files). IfErr result (IsFault (current_as c.args.only e.file (file_of f e.file) e.opening))) looks.nothing.files (read.reads.not_store (looks.calls.as_told ∙ told)) in
              subst (λ (r : Result Found Fault). IfErr result (IsFault r)) (sym (as_is files e.file e.opening (first.examined told).picks c.args.only)) fault;
          behind = read.reads.behind;
          run = until_then g.S.Site result c.args.site.now mid new looks (went_well _ _ _ _ first.run.counted) read.reads.run;
        };
      };
      head = all_headed c.args.only result e.other_closed read.tail read.version;
      generation = read.generation;
    }
