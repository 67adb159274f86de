use Rattle.std.proofs.Common.{◌∙◌, ap, sym}
use Rattle.std.specs.Prelude.{Err, IsErrOf}
use Rattle.ox_outside.proofs.Counts.{stops_as, stops_at_none}
use Rattle.ox_gated.specs.Parts.{Unread, Walked}
use Rattle.ox_gated.specs.declared.fault.Halt.TheVariants as halts
use Rattle.ox_store.specs.declared.fault.OpenFault.TheVariants as opens
use Rattle.ox_store.proofs.Exits.{no_fault, same_fault}
use Rattle.ox_store.proofs.PartsLemmas.{counts_of, misfit, misfit_on_rows, names_on_rows, rows_halted, same_halt, stood_on_rows}
use Rattle.ox_store.proofs.parts.stand_on_rows.Goals as goal

pub of_rows-requires-clause-ready : goal.of_rows-requires-clause-ready
of_rows-requires-clause-ready g c = (c.requires.may.most, c.requires.may.parts)

pub returns-in-Ok-Some : goal.returns-in-Ok-Some
returns-in-Ok-Some g c =
    let parts = c.args.parts in
    let left = c.of_rows.new.source.parts in
    let walker = c.behind.result in
    let head = c.head-head.result in
    let standing = c.in-Ok-Some.standing in
    let read = c.in-Ok-Some.ensures in
    let p = c.profile_of_head.result in
    let counts = counts_of p head.depth _ standing c.in-Ok-Some.field-0-is read.counts in record {
      stood = λ told. stood_on_rows g.S.Site parts left walker head c.args.site.now (record {
        told = told;
        are = c.requires.may.parts told;
        intact = c.requires.intact told;
        unread = c.requires.may.unread;
        same = read.went.same;
        walker_is = c.behind.ensures.walker;
        walked = c.behind.ensures.walked;
        head_is = c.head-head.ensures.head;
      }) p standing c.profile_of_head.ensures.value (λ bytes left. rw c.in-Ok-Some.field-0-is at (read.stack bytes left));
      names = names_on_rows head walker.head standing p (ap (λ (w : Walked). w.head) c.behind.ensures.walker ∙ ap (λ (u : Unread). u.head) read.went.same ∙ sym c.head-head.ensures.head)
          c.head-head.ensures.lawful c.head-head.ensures.version c.profile_of_head.ensures.value counts.0 counts.1;
      not_store = λ told. tt;
      failed = λ is. absurd (no_fault _ _ is);
      counted = stops_at_none _ _ _ _ _ read.went.counted;
      looks = read.went.looks;
    }

pub returns-in-Ok-None : goal.returns-in-Ok-None
returns-in-Ok-None g c =
    let parts = c.args.parts in
    let read = c.in-Ok-None.ensures in record {
      stood = λ told. tt;
      names = tt;
      not_store = λ told.
          misfit_on_rows g.S.Site parts c.head-head.result c.args.site.now c.profile_of_head.result c.body_at.result told (c.requires.may.parts told) (c.requires.intact told) c.requires.may.unread
          c.head-head.ensures.head c.profile_of_head.ensures.value (λ bytes left. rw c.in-Ok-None.field-0-is at (read.stack bytes left)) c.body_at.ensures
          ∙ ap (λ (f : _). misfit f c.body_at.result) (sym c.file-file.ensures);
      failed = λ is. absurd (cc (same_fault _ _ is));
      counted = stops_at_none _ _ _ _ _ read.went.counted;
      looks = read.went.looks;
    }

pub returns-in-Err : goal.returns-in-Err
returns-in-Err g c =
    let halted = rows_halted g.S.Site (record { parts = c.args.parts; most = c.args.most }) c.of_rows.new.source c.in-Err.fault c.args.site.now c.of_rows.new.world c.in-Err.ensures.ended in record {
      stood = λ told. tt;
      names = tt;
      not_store = λ told. tt;
      failed = λ is. halted.failed (sym c.halt_of.ensures ∙ same_halt _ _ (same_fault _ _ is));
      counted = stops_as _ ⊥ ⊥ (IsErrOf (Err (opens.Halt c.halt_of.result)) (opens.Halt halts.Disk)) ⊥ ⊥ _ _ (λ is. ap (λ (h : _). Err (opens.Halt h)) (c.halt_of.ensures ∙ is)) (λ no. no) (λ no. no) halted.counted;
      looks = halted.looks;
    }
