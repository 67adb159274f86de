use Rattle.std.proofs.lemmas.Result.{err_from_is_err_and}
use Rattle.ox_outside.proofs.Calls.{looks_call}
use Rattle.ox_outside.proofs.Counts.{file_call, stops_after}
use Rattle.ox_gated.proofs.OneWrite.{both_settled, file_worked, looks_one, on_failed, on_none, rose_after}
use Rattle.ox_gated.proofs.Writing.{ends_failed}
use Rattle.ox_gated.proofs.open.settle.Goals as goal

pub returns-in_err-sync : goal.returns-in_err-sync
returns-in_err-sync g c =
    let result = c.from_residual.result in
    let p = err_from_is_err_and result c.from_residual.ensures.1 in
    let e = c.sync.ensures in record {
      settled = on_none result p.0 p.1 _;
      looks = looks_one g.S.Site g.met.S.Site.only_now c.args.site.now c.sync.new.self e.files e.call;
      failed = on_failed result p.0 p.1 _ c.in_err-sync.ensures.failed;
      counted = ends_failed _ result p.0 _ _ p.1 (file_call _ _ _ e.counted);
    }

pub returns : goal.returns
returns g c =
    let first = c.in_ok-sync.ensures in
    let last = c.sync-2.ensures in
    let old = c.args.site.now in
    let mid = c.sync.new.self in
    let new = c.sync-2.new.self in record {
      settled = both_settled c.sync-2.result (g.S.Site.may_leave mid) (g.S.Site.may_leave new) (g.S.Site.seen old) (g.S.Site.seen mid) (g.S.Site.seen new) first.files.files last.files.files last.files.crash first.durable last.durable;
      looks = looks_call g.S.Site old mid new (looks_one g.S.Site g.met.S.Site.only_now old mid first.files first.call) last.files last.call;
      failed = rose_after c.sync-2.result (g.S.Site.counts old) (g.S.Site.counts mid) (g.S.Site.counts new) first.call.none_fell last.failed;
      counted = stops_after _ _ _ _ _ _ (file_worked _ _ _ first.counted) (file_call _ _ _ last.counted);
    }
