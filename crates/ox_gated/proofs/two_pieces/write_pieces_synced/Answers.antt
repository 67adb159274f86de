use Rattle.std.proofs.Common.{◌∙◌}
use Rattle.std.proofs.lemmas.Result.{err_from_is_err_and}
use Rattle.ox_outside.proofs.Counts.{file_call, no_fault_then, none_fell_then, stops_after, then_rose}
use Rattle.ox_gated.proofs.OneWrite.{durable_then, file_worked, on_failed, on_none, others_left, others_then, rose_after, writes_one}
use Rattle.ox_gated.proofs.Pieces.{when_ok, written_then, after_first, after_second, after_sync}
use Rattle.ox_gated.proofs.Writing.{ends_failed, writes_call}
use Rattle.ox_gated.proofs.two_pieces.write_pieces_synced.Goals as goal

pub returns-in_err-write : goal.returns-in_err-write
returns-in_err-write g c =
    let p = err_from_is_err_and c.from_residual.result c.from_residual.ensures.1 in
    let e = c.write.ensures in record {
      written = λ told. on_none c.from_residual.result p.0 p.1 _;
      durable = on_none c.from_residual.result p.0 p.1 _;
      others = others_left c.args.file _ _ _ _ e.crash;
      moments = λ settled. after_first g.S.Site g.met.S.Site.only_now c.args.site.now c.args.file c.args.at c.args.front.now c.args.behind.now settled c.write.new.self e.crash e.call;
      failed = on_failed c.from_residual.result p.0 p.1 _ c.in_err-write.ensures.failed;
      counted = ends_failed _ c.from_residual.result p.0 _ _ p.1 (file_call _ _ _ e.counted);
      writes = writes_one g.S.Site g.met.S.Site.only_now g.met.S.Site.logs_now c.args.site.now c.write.new.self e.logged e.call;
    }

pub returns-in_err-write-2 : goal.returns-in_err-write-2
returns-in_err-write-2 g c =
    let result = c.from_residual-in_err-write-2.result in
    let p = err_from_is_err_and result c.from_residual-in_err-write-2.ensures.1 in
    let first = c.in_ok-write.ensures in
    let second = c.write-2.ensures in record {
      written = λ told. on_none result p.0 p.1 _;
      durable = on_none result p.0 p.1 _;
      others = others_then c.args.file _ _ _ _ _ _ _ first.crash second.crash;
      moments = λ settled. after_second g.S.Site g.met.S.Site.only_now c.args.site.now c.args.file c.args.at c.args.front.now c.args.behind.now settled c.write.new.self c.write-2.new.self first.crash second.crash first.call second.call;
      failed = on_failed result p.0 p.1 _ (then_rose _ _ _ first.call.none_fell.disk c.in_err-write-2.ensures.failed);
      counted = ends_failed _ result p.0 _ _ p.1 (stops_after _ _ _ _ _ _ (file_worked _ _ _ first.counted) (file_call _ _ _ second.counted));
      writes = writes_call g.S.Site g.met.S.Site.logs_now c.args.site.now c.write.new.self c.write-2.new.self (writes_one g.S.Site g.met.S.Site.only_now g.met.S.Site.logs_now c.args.site.now c.write.new.self first.logged first.call) second.logged second.call;
    }

pub returns : goal.returns
returns g c =
    let first = c.in_ok-write.ensures in
    let second = c.in_ok-write-2.ensures in
    let last = c.sync.ensures in record {
      written = λ told.
          when_ok c.sync.result _ (last.files.files ∙ written_then _ _ _ c.args.file c.args.at c.args.front.now c.args.behind.now (c.requires.place told) (first.written told) (second.written (first.call.as_told ∙ told)));
      durable = durable_then c.sync.result c.args.file _ _ _ last.files.files last.durable;
      others = λ r left. others_then c.args.file _ _ _ _ _ _ _ first.crash second.crash r (last.files.crash r left);
      moments = λ settled.
          after_sync g.S.Site g.met.S.Site.only_now c.args.site.now c.args.file c.args.at c.args.front.now c.args.behind.now settled c.write.new.self c.write-2.new.self c.sync.new.self first.crash second.crash last.files.crash first.call second.call last.call;
      failed = rose_after c.sync.result (g.S.Site.counts c.args.site.now) (g.S.Site.counts c.write-2.new.self) (g.S.Site.counts c.sync.new.self) (none_fell_then _ (g.S.Site.counts c.write.new.self) _ first.call.none_fell second.call.none_fell) last.failed;
      counted = stops_after _ _ _ _ _ _ (no_fault_then _ _ _ (file_worked _ _ _ first.counted) (file_worked _ _ _ second.counted)) (file_call _ _ _ last.counted);
      writes =
          let one = writes_one g.S.Site g.met.S.Site.only_now g.met.S.Site.logs_now c.args.site.now c.write.new.self first.logged first.call in
          let both = writes_call g.S.Site g.met.S.Site.logs_now c.args.site.now c.write.new.self c.write-2.new.self one second.logged second.call in
          writes_call g.S.Site g.met.S.Site.logs_now c.args.site.now c.write-2.new.self c.sync.new.self both last.files.as_logged last.call;
    }
