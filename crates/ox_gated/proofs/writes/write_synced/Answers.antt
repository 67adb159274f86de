use Rattle.std.proofs.Common.{◌∙◌}
use Rattle.std.proofs.lemmas.Result.{err_from_is_err_and}
use Rattle.ox_outside.proofs.Counts.{file_call, stops_after}
use Rattle.ox_gated.proofs.OneWrite.{durable_then, file_worked, moments_one, moments_synced, on_failed, on_none, others_left, rose_after, writes_one}
use Rattle.ox_gated.proofs.Pieces.{when_ok}
use Rattle.ox_gated.proofs.Writing.{ends_failed, writes_call}
use Rattle.ox_gated.proofs.writes.write_synced.Goals as goal

pub returns-in_err-write : goal.returns-in_err-write
returns-in_err-write g c =
    let p = err_from_is_err_and c.from_residual.result c.from_residual.ensures.1 in
    let e = c.write.ensures in record {
      written = λ told. on_none c.from_residual.result p.0 p.1 _;
      durable = on_none c.from_residual.result p.0 p.1 _;
      others = others_left c.args.file _ _ _ _ e.crash;
      moments = λ settled. moments_one g.S.Site g.met.S.Site.only_now c.args.site.now c.write.new.self c.args.file _ _ e.crash settled e.call;
      failed = on_failed c.from_residual.result p.0 p.1 _ c.in_err-write.ensures.failed;
      counted = ends_failed _ c.from_residual.result p.0 _ _ p.1 (file_call _ _ _ e.counted);
      writes = writes_one g.S.Site g.met.S.Site.only_now g.met.S.Site.logs_now c.args.site.now c.write.new.self e.logged e.call;
    }

pub returns : goal.returns
returns g c =
    let first = c.in_ok-write.ensures in
    let last = c.sync.ensures in record {
      written = λ told. when_ok c.sync.result _ (last.files.files ∙ first.written told);
      durable = durable_then c.sync.result c.args.file _ _ _ last.files.files last.durable;
      others = λ r left. others_left c.args.file _ _ _ _ first.crash r (last.files.crash r left);
      moments = λ settled. moments_synced g.S.Site g.met.S.Site.only_now c.args.site.now c.write.new.self c.args.file _ _ first.crash settled c.sync.new.self first.call last.call last.files.crash;
      failed = rose_after c.sync.result (g.S.Site.counts c.args.site.now) (g.S.Site.counts c.write.new.self) (g.S.Site.counts c.sync.new.self) first.call.none_fell last.failed;
      counted = stops_after _ _ _ _ _ _ (file_worked _ _ _ first.counted) (file_call _ _ _ last.counted);
      writes = writes_call g.S.Site g.met.S.Site.logs_now c.args.site.now c.write.new.self c.sync.new.self (writes_one g.S.Site g.met.S.Site.only_now g.met.S.Site.logs_now c.args.site.now c.write.new.self first.logged first.call) last.files.as_logged last.call;
    }
