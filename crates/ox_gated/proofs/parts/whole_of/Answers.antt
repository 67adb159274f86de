use Rattle.std.proofs.Common.{◌∙◌, sym, ap, subst}
use Rattle.std.proofs.lemmas.Bool.{eqb-true}
use Rattle.std.specs.Prelude.{Result, Ok, Err, None, IsTrue}
use Rattle.ox_gated.specs.Layout.{is_lawful}
use Rattle.ox_gated.specs.Opened.{IsFault}
use Rattle.ox_gated.specs.Reading.{Found, Fault}
use Rattle.ox_gated.specs.Tail.{Kept}
use Rattle.ox_gated.specs.declared.fault.GateFault.{GateFault}
use Rattle.ox_gated.specs.declared.head.Head.{Head}
use Rattle.ox_gated.specs.declared.open.Opened.{Opened}
use Rattle.ox_gated.specs.declared.parts.Begun.TheVariants as begins
use Rattle.ox_gated.proofs.Looking.{given, until_as}
use Rattle.ox_gated.proofs.OneWrite.{err_as}
use Rattle.ox_gated.proofs.OpenedHolds.{all_hold, as_is, as_led, settled_on}
use Rattle.ox_gated.proofs.parts.whole_of.Goals as goal

pub returns-in-Ok : goal.returns-in-Ok
returns-in-Ok g c =
    let e = c.args.examined.now in
    let old = c.args.site.now in
    let new = c.read_current.new.site in
    let files = g.S.Site.seen old in
    let opened = c.in-Ok.opened in
    let first = c.in-Ok.ensures in
    let run = first.reads.run in
    let result : Result Opened GateFault = Ok opened in
    record {
      begun = λ told.
          let picks = (c.requires.examined told).picks in
          as_led files e.file e.opening picks c.requires.plain ∙ as_is files e.file e.opening picks None ∙ first.found told;
      holds = λ told settled.
          let is = c.requires.examined told in
          all_hold files e.file e.opening is.picks g.S.Site new run.looks.nothing.files (settled_on g.S.Site old new run.looks settled) None result e.other_closed is.closed first.tail (first.found told);
      whole = record {
        head = ap (λ (t : Kept). t.head) first.tail;
        version = eqb-true opened.head.version 2 first.version;
        lawful = subst (λ (h : Head). IsTrue (is_lawful h)) (sym first.head) c.requires.lawful;
      };
      reads = record {
        not_store = λ told. tt;
        behind = tt;
        run = until_as g.S.Site result (Ok (begins.Whole opened)) old new (λ disk. absurd (given opened disk)) (λ disk. absurd (given _ disk)) run;
      };
    }

pub returns-in-Err : goal.returns-in-Err
returns-in-Err g c =
    let e = c.args.examined.now in
    let fault = c.in-Err.fault in
    let first = c.in-Err.ensures.reads in
    record {
      begun = λ told. tt;
      holds = λ told settled. tt;
      whole = tt;
      reads = record {
        not_store = λ told.
            let files = g.S.Site.seen c.args.site.now in
            let picks = (c.requires.examined told).picks in
            subst (λ (r : Result Found Fault). IsFault r fault) (sym (as_led files e.file e.opening picks c.requires.plain ∙ as_is files e.file e.opening picks None)) (first.not_store told);
        behind = first.behind;
        run = until_as g.S.Site (Err fault) (Err fault) c.args.site.now c.read_current.new.site (λ disk. err_as _ _ disk) (λ disk. err_as _ _ disk) first.run;
      };
    }
