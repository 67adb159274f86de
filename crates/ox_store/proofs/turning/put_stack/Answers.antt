use Rattle.std.proofs.Common.{◌∙◌, [], ap, arith, refl, sym}
use Rattle.std.specs.Prelude.{Err, IsErrOf}
use Rattle.ox_gated.specs.declared.fault.Halt.TheVariants as halts
use Rattle.ox_index.specs.Chain.{stack_in}
use Rattle.ox_index.specs.Live.{index_in, profile_in}
use Rattle.ox_index.proofs.KeptBlocks.{length-older_by}
use Rattle.ox_files.specs.Body.{body_of, body_rows}
use Rattle.ox_store.proofs.Exits.{no_fault, same_fault}
use Rattle.ox_store.proofs.TurningLemmas.{ends_as, ends_so, ends_well, goes_pouring, shut_so, stands_alike}
use Rattle.ox_store.proofs.WritingLemmas.{body_of_stack}
use Rattle.ox_store.proofs.WritingLemmas as writings
use Rattle.ox_store.proofs.turning.put_stack.Goals as goal

pub put_body-requires-clause-end : goal.put_body-requires-clause-end
put_body-requires-clause-end g c =
    let stack = stack_in c.args.chain.now in
    let live = c.live.result.now in
    writings.ends_so stack.profile (profile_in live) stack.index (index_in live) c.changes.result.now.kept c.live.ensures.profile c.live.ensures.index c.changes.ensures.end

pub returns-in-Ok : goal.returns-in-Ok
returns-in-Ok g c =
    let chain = c.args.chain.now in
    let index = index_in c.live.result.now in
    let changes = c.changes.result.now.kept in
    let body = body_rows (body_of index changes) in
    let ends = ends_well g.S.Site c.args.filling.now c.args.site.now ⊥ c.put_body.new.sink c.put_body.new.world (λ no. no) c.in-Ok.ensures.went in
    let so = ends_as g.S.Site _ _ _ _ _ _ (λ no. absurd no) (λ is. no_fault _ _ is) ends in record {
      taken = (
        body,
        c.in-Ok.ensures.ok [] c.requires,
        body_of_stack (stack_in chain) index changes body c.live.ensures.index c.changes.ensures.lead c.changes.ensures.end
            (omega (arith, length-older_by (index_in chain.live) chain.changes.kept, chain.kept)) chain.live.sound c.in-Ok.ensures.fits refl,
      );
      kept = ends.kept;
      shut = shut_so g.S.Site _ _ _ _ _ ends;
      stands = λ stack told is. stands_alike (g.S.Site.seen c.args.site.now) (g.S.Site.seen c.put_body.new.world) stack (ends.on.alike told) is;
      goes = λ stack. goes_pouring g.S.Site stack _ _ _ _ so.on so.counted so.rose;
    }

pub returns-in-Err : goal.returns-in-Err
returns-in-Err g c =
    let ends = ends_so g.S.Site c.args.filling.now c.args.site.now c.in-Err.fault c.put_body.new.sink c.put_body.new.world c.in-Err.ensures.ended in record {
      taken = tt;
      kept = ends.kept;
      shut = shut_so g.S.Site _ _ _ _ _ ends;
      stands = λ stack told is. stands_alike (g.S.Site.seen c.args.site.now) (g.S.Site.seen c.put_body.new.world) stack (ends.on.alike told) is;
      goes = λ stack. let so = ends_as g.S.Site _ _ _ (IsErrOf (Err c.halt_of.result) halts.Disk) _ _ (λ is. ap Err (c.halt_of.ensures ∙ is)) (λ is. sym c.halt_of.ensures ∙ same_fault _ _ is) ends in
          goes_pouring g.S.Site stack _ _ _ _ so.on so.counted so.rose;
    }
