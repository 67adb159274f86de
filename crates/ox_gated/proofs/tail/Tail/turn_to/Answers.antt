use Rattle.std.proofs.Common.{◌≡◌, ◌∙◌, ap, subst}
use Rattle.std.proofs.lemmas.Result.{IfOk-weaker, on_ok_weaker}
use Rattle.ox_outside.specs.Files.{file_of, other}
use Rattle.ox_outside.specs.Runs.{LeavesOnly}
use Rattle.ox_outside.specs.declared.site.Which.{Which}
use Rattle.ox_gated.specs.Layout.{Whole}
use Rattle.ox_gated.specs.OtherFile.{KeptBoth, IsOldOrNew, ReadsNew, filled_with, first_gate_at, tail_of_other}
use Rattle.ox_gated.specs.Tail.{Kept}
use Rattle.ox_gated.proofs.Turning.{turn_filling, turn_opening}
use Rattle.std.proofs.lemmas.Result.{err_from_is_err_and}
use Rattle.ox_outside.proofs.Counts.{no_fault_then, none_fell_then, stops_after, then_rose}
use Rattle.ox_gated.proofs.OneWrite.{if_none, on_failed, on_none, rose_after}
use Rattle.ox_gated.proofs.Turning.{turn_closing}
use Rattle.ox_gated.proofs.Writing.{all_worked, ends_failed}
use Rattle.ox_gated.specs.WritesOn.{writes_then}
use Rattle.ox_gated.proofs.tail.Tail.turn_to.Goals as goal

pub returns-in_err-closed : goal.returns-in_err-closed
returns-in_err-closed g c =
    let result = c.from_residual.result in
    let p = err_from_is_err_and result c.from_residual.ensures.1 in record {
      holds = λ told. if_none result p.0 p.1 _;
      turned = λ told. on_none result p.0 p.1 _;
      spared = λ told. on_none result p.0 p.1 _;
      kept = if_none result p.0 p.1 _;
      any_moment = λ told.
          turn_closing g.S.Site (other c.args.self.file) c.args.checkpoint.now c.args.site.now c.close_other.new.site (c.close_other.ensures.any_moment told);
      failed = on_failed result p.0 p.1 _ (c.in_err-closed.ensures.failed);
      counted = ends_failed _ result p.0 _ _ p.1 (c.close_other.ensures.counted);
      writes = c.close_other.ensures.writes;
    }

pub returns-in_err-filled : goal.returns-in_err-filled
returns-in_err-filled g c =
    let result = c.from_residual-in_err-filled.result in
    let p = err_from_is_err_and result c.from_residual-in_err-filled.ensures.1 in record {
      holds = λ told. if_none result p.0 p.1 _;
      turned = λ told. on_none result p.0 p.1 _;
      spared = λ told. on_none result p.0 p.1 _;
      kept = if_none result p.0 p.1 _;
      any_moment = λ told.
          let first = c.in_ok-closed.ensures in
          turn_filling g.S.Site (other c.args.self.file) c.args.checkpoint.now c.args.site.now c.close_other.new.site c.fill_other.new.site (first.alike told) (first.any_moment told) (c.fill_other.ensures.any_moment (first.writes.calls.as_told ∙ told));
      failed = on_failed result p.0 p.1 _ (then_rose _ _ _ c.in_ok-closed.ensures.writes.calls.none_fell.disk c.in_err-filled.ensures.failed);
      counted = ends_failed _ result p.0 _ _ p.1 (stops_after _ _ _ _ _ _ (all_worked _ _ c.in_ok-closed.ensures.counted) c.fill_other.ensures.counted);
      writes = writes_then g.S.Site g.met.S.Site.logs_now c.args.site.now c.close_other.new.site c.fill_other.new.site c.in_ok-closed.ensures.writes c.fill_other.ensures.writes;
    }

pub returns : goal.returns
returns g c =
    let first = c.in_ok-closed.ensures in
    let second = c.in_ok-filled.ensures in
    let whole = c.args.checkpoint.now in
    let result = c.open_other.result in record {
      holds = λ told. c.open_other.ensures.holds (second.writes.calls.as_told ∙ first.writes.calls.as_told ∙ told);
      turned = λ told.
          let told1 = first.writes.calls.as_told ∙ told in
          let new = g.S.Site.seen c.open_other.new.site in
          let file_is : other c.in_ok-filled.filled.tail.file ≡ other c.args.self.file = ap (λ (b : KeptBoth). other b.tail.file) second.kept ∙ ap (λ (t : Kept). other t.file) first.kept in
          let whole_is : filled_with c.in_ok-filled.filled whole.body ≡ whole = ap (λ (b : KeptBoth). filled_with b whole.body) second.kept in
          on_ok_weaker result
          (λ reads. subst (λ (w : Which). ReadsNew w whole new) file_is (subst (λ (x : Whole). ReadsNew (other c.in_ok-filled.filled.tail.file) x new) whole_is reads))
          (c.open_other.ensures.opened (second.writes.calls.as_told ∙ told1) whole.body (second.holds told1));
      spared = λ told.
          let first = c.in_ok-closed.ensures in
          let second = c.in_ok-filled.ensures in
          let told1 = first.writes.calls.as_told ∙ told in
          let told2 = second.writes.calls.as_told ∙ told1 in
          let to = g.S.Site.seen c.open_other.new.site in
          let from = g.S.Site.seen c.args.site.now in
          let mid1 = g.S.Site.seen c.close_other.new.site in
          let mid2 = g.S.Site.seen c.fill_other.new.site in
          let closed_is : c.in_ok-closed.closed.file ≡ c.args.self.file = ap (λ (t : Kept). t.file) first.kept in
          let filled_is : c.in_ok-filled.filled.tail.file ≡ c.args.self.file = ap (λ (b : KeptBoth). b.tail.file) second.kept ∙ closed_is in
          on_ok_weaker c.open_other.result
          (λ third. subst (λ (w : Which). file_of to w ≡ file_of mid2 w) filled_is third
          ∙ subst (λ (w : Which). file_of mid2 w ≡ file_of mid1 w) closed_is (second.spared told1)
          ∙ first.spared told)
          (c.open_other.ensures.spared told2);
      kept = IfOk-weaker result _ _
          (λ tail is. is ∙ ap (λ (b : KeptBoth). tail_of_other b.tail.file b.head b.gate) second.kept ∙ ap (λ (t : Kept). tail_of_other t.file whole.head (first_gate_at whole.head whole.body)) first.kept)
          c.open_other.ensures.kept;
      any_moment = λ told.
          let first = c.in_ok-closed.ensures in
          let second = c.in_ok-filled.ensures in
          let whole = c.args.checkpoint.now in
          let told1 = first.writes.calls.as_told ∙ told in
          let told2 = second.writes.calls.as_told ∙ told1 in
          let from = c.fill_other.new.site in
          let file_is : other c.in_ok-filled.filled.tail.file ≡ other c.args.self.file = ap (λ (b : KeptBoth). other b.tail.file) second.kept ∙ ap (λ (t : Kept). other t.file) first.kept in
          let whole_is : filled_with c.in_ok-filled.filled whole.body ≡ whole = ap (λ (b : KeptBoth). filled_with b whole.body) second.kept in
          let third = c.open_other.ensures.any_moment told2 whole.body (second.holds told1) in
          turn_opening g.S.Site (other c.args.self.file) whole c.args.site.now c.close_other.new.site from (first.alike told) c.open_other.new.site (second.alike told1) (first.any_moment told) (second.any_moment told1)
          (subst (λ (w : Which). LeavesOnly g.S.Site from c.open_other.new.site (λ r. IsOldOrNew w whole (g.S.Site.seen from) r.files)) file_is
          (subst (λ (x : Whole). LeavesOnly g.S.Site from c.open_other.new.site (λ r. IsOldOrNew (other c.in_ok-filled.filled.tail.file) x (g.S.Site.seen from) r.files)) whole_is third));
      failed = rose_after result (g.S.Site.counts c.args.site.now) (g.S.Site.counts c.fill_other.new.site) (g.S.Site.counts c.open_other.new.site) (none_fell_then _ (g.S.Site.counts c.close_other.new.site) _ first.writes.calls.none_fell second.writes.calls.none_fell) c.open_other.ensures.failed;
      counted = stops_after _ _ _ _ _ _ (no_fault_then _ _ _ (all_worked _ _ first.counted) (all_worked _ _ second.counted)) c.open_other.ensures.counted;
      writes = writes_then g.S.Site g.met.S.Site.logs_now c.args.site.now c.fill_other.new.site c.open_other.new.site (writes_then g.S.Site g.met.S.Site.logs_now c.args.site.now c.close_other.new.site c.fill_other.new.site first.writes second.writes) c.open_other.ensures.writes;
    }
