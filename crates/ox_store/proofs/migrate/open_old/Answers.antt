use Rattle.std.proofs.Common.{◌≡◌, subst, sym}
use Rattle.std.proofs.lemmas.Result.{IfOk-weaker}
use Rattle.ox_gated.specs.OldReading.{old_reading}
use Rattle.ox_gated.specs.Opened.{found_of}
use Rattle.ox_gated.specs.Tail.{Kept}
use Rattle.ox_store.proofs.OldStores.{on_ok_of, stays_old, tail_found}
use Rattle.ox_store.proofs.migrate.open_old.Goals as goal

pub returns-in-Ok-clause-stays : goal.returns-in-Ok-clause-stays
returns-in-Ok-clause-stays g c told =
    on_ok_of c.old_store_of.result (stays_old (g.S.Site.seen c.args.site.now) (found_of c.in-Ok.opened) (c.in-Ok.ensures.opens.found told) c.in-Ok.ensures.generation)

pub returns-in-Ok-clause-tail : goal.returns-in-Ok-clause-tail
returns-in-Ok-clause-tail g c told found is =
    let opened = c.in-Ok.opened in
    let first = c.in-Ok.ensures.opens in
    let at = tail_found opened.tail (g.S.Site.seen c.args.site.now) (g.S.Site.seen c.open_old.new.site) found first.reads.run.looks.nothing.files (first.holds told).keeps is in
    IfOk-weaker c.old_store_of.result _ _ (λ old same. subst (λ (t : Kept). (t.file ≡ found.file) × (t.head ≡ found.head)) (sym same) at) c.old_store_of.ensures.tail

pub returns-in-Err-clause-fault : goal.returns-in-Err-clause-fault
returns-in-Err-clause-fault g c told = c.fault_of.ensures.fault (old_reading (g.S.Site.seen c.args.site.now)) (c.in-Err.ensures.opens.reads.not_store told)
