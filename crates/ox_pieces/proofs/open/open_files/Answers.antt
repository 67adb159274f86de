use Rattle.std.proofs.Common.{ap}
use Rattle.std.specs.Prelude.{Err, IsErrOf}
use Rattle.ox_outside.proofs.Counts.{stops_as}
use Rattle.ox_gated.specs.declared.fault.GateFault.TheVariants as gates
use Rattle.ox_gated.specs.declared.fault.Halt.TheVariants as halts
use Rattle.ox_store.specs.declared.fault.OpenFault.TheVariants as faults
use Rattle.ox_store.proofs.Exits.{same_fault}
use Rattle.ox_pieces.specs.Stood.{led_reading}
use Rattle.ox_pieces.proofs.open.open_files.Goals as goal

pub returns-in-Err : goal.returns-in-Err
returns-in-Err g c = record {
  found = λ told. tt;
  stack = tt;
  head = tt;
  lawful = tt;
  holds = λ told. tt;
  not_store = λ told.
      let files = g.S.Site.seen c.args.site.now in
      c.of.ensures.misfit (led_reading files) (c.in-Err.ensures.opens.reads.not_store told);
  failed = λ is. c.in-Err.ensures.opens.reads.run.failed (ap Err (c.of.ensures.disk (same_fault _ _ is)));
  counted = stops_as (IsErrOf (Err c.in-Err.fault) (gates.Halt halts.Disk)) ⊥ ⊥ (IsErrOf (Err c.of.result) (faults.Halt halts.Disk)) ⊥ ⊥ _ _
      (λ is. ap Err (c.of.ensures.disk_alone (same_fault _ _ is))) (λ no. no) (λ no. no) c.in-Err.ensures.opens.reads.run.counted;
  settled = λ other. c.in-Err.ensures.opens.settled (λ is. other (ap Err (c.of.ensures.disk_alone (same_fault _ _ is))));
  looks = c.open.ensures.opens.reads.run.looks;
}
