use Rattle.std.proofs.Common.{◌∙◌, ap, subst, sym}
use Rattle.std.specs.Prelude.{Err, IsErrOf}
use Rattle.ox_outside.proofs.Counts.{stops_as, stops_at_none}
use Rattle.ox_gated.specs.declared.fault.GateFault.TheVariants as gates
use Rattle.ox_gated.specs.declared.fault.Halt.TheVariants as halts
use Rattle.ox_files.specs.Stands.{stands}
use Rattle.ox_store.specs.Fault.{IsMisfit, fault_in}
use Rattle.ox_store.specs.declared.fault.OpenFault.{OpenFault}
use Rattle.ox_store.specs.declared.fault.OpenFault.TheVariants as opens
use Rattle.ox_store.proofs.Exits.{no_fault, same_fault}
use Rattle.ox_store.proofs.OldStores.{none_failed}
use Rattle.ox_store.proofs.PartsLemmas.{is_lawful_behind, misfit_of_gate, misfit_of_record, names_end, names_more, not_disk_in, stands_all, stood_more}
use Rattle.ox_store.proofs.parts.next_step.Goals as goal

pub next-requires : goal.next-requires
next-requires g c = record { there = λ told. (c.requires.stood told).walked.there }

pub of-requires : goal.of-requires
of-requires g c = is_lawful_behind c.in-Err.fault c.in-Err.ensures.nothing_before

pub returns-in-Ok : goal.returns-in-Ok
returns-in-Ok g c =
    let next = c.next.new.self in
    let one = c.in-Ok-Some.record in
    let first = c.in-Ok-Some.ensures in
    let on = rw c.in-Ok-Some.field-0-is at first.walker in
    let stood = c.args.stood in record {
      stood = λ told.
          let s = c.requires.stood told in
          stood_more (g.S.Site.seen c.args.site.now) (g.S.Site.seen c.next.new.site) stood.walker next one stood.standing c.in-Ok.standing s on (rw c.in-Ok-Some.field-0-is at (first.step told s.body s.records s.walked)) c.in-Ok.ensures.stack;
      names = names_more stood.walker next one stood.standing c.in-Ok.standing on c.in-Ok.ensures.stack c.requires.names;
      not_store = λ told. tt;
      failed = λ is. absurd (no_fault _ _ is);
      counted = stops_at_none _ _ _ _ _ (none_failed _ _ _ _ first.run.counted);
      looks = c.next.ensures.run.looks;
    }

pub returns-in-Ok-Some : goal.returns-in-Ok-Some
returns-in-Ok-Some g c =
    let next = c.next.new.self in
    let one = c.in-Ok-Some.record in
    let first = c.in-Ok-Some.ensures in
    let stood = c.args.stood in
    let why = c.in-Err-stand_after.unjudged in
    let files = g.S.Site.seen c.args.site.now in
    let on = rw c.in-Ok-Some.field-0-is at first.walker in
    let is = c.in_file.ensures ∙ ap (λ (f : _). fault_in f why) c.file-file.ensures in record {
      stood = λ told. tt;
      names = tt;
      not_store = λ told.
          let s = c.requires.stood told in
          subst (λ (f : OpenFault). IsMisfit (stands files) f) (sym is)
          (misfit_of_record files (g.S.Site.seen c.next.new.site) stood.walker next one stood.standing why s c.next.ensures.run.looks.nothing.files on (rw c.in-Ok-Some.field-0-is at (first.step told s.body s.records s.walked)) c.in-Err-stand_after.ensures.place);
      failed = λ disk. absurd (not_disk_in stood.walker.file why (sym is ∙ same_fault _ _ disk));
      counted = stops_at_none _ _ _ _ _ (none_failed _ _ _ _ first.run.counted);
      looks = c.next.ensures.run.looks;
    }

pub returns-in-Ok-None : goal.returns-in-Ok-None
returns-in-Ok-None g c =
    let next = c.next.new.self in
    let first = c.in-Ok-None.ensures in
    let on = rw c.in-Ok-None.field-0-is at first.walker in
    let stood = c.args.stood in record {
      stood = λ told.
          let s = c.requires.stood told in
          stands_all g.S.Site (g.S.Site.seen c.args.site.now) stood.walker next stood.standing c.next.new.site s on (rw c.in-Ok-None.field-0-is at (first.step told s.body s.records s.walked));
      names = names_end stood.walker next stood.standing on c.requires.names;
      not_store = λ told. tt;
      failed = λ is. absurd (no_fault _ _ is);
      counted = stops_at_none _ _ _ _ _ (none_failed _ _ _ _ first.run.counted);
      looks = c.next.ensures.run.looks;
    }

pub returns : goal.returns
returns g c =
    let first = c.in-Err.ensures in
    let stood = c.args.stood in record {
      stood = λ told. tt;
      names = tt;
      not_store = λ told.
          let s = c.requires.stood told in
          misfit_of_gate (g.S.Site.seen c.args.site.now) stood.walker stood.standing c.in-Err.fault c.of.result s (first.not_store told s.body s.records s.walked) first.nothing_before c.of.ensures.misfit;
      failed = λ is. first.run.failed (ap Err (c.of.ensures.disk (same_fault _ _ is)));
      counted = stops_as (IsErrOf (Err c.in-Err.fault) (gates.Halt halts.Disk)) ⊥ ⊥ (IsErrOf (Err c.of.result) (opens.Halt halts.Disk)) ⊥ ⊥ _ _
          (λ is. ap Err (c.of.ensures.disk_alone (same_fault _ _ is))) (λ no. no) (λ no. no) first.run.counted;
      looks = c.next.ensures.run.looks;
    }
