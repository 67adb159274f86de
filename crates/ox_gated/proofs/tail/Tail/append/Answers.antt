use Rattle.std.proofs.Common.{◌≡◌, ◌∙◌, ◌+◌, List, ℕ, sym, ap, subst, arith}
use Rattle.ox_gated.specs.Tail.{Kept, Holds}
use Rattle.ox_gated.specs.Written.{with_write, with_open_gate, with_record_behind}
use Rattle.ox_gated.proofs.AppendKeepsTail.{first_within, fits_behind, framed_at, moments_first, moments_both, staged_within, staged_settled, reads_after, holds_after}
use Rattle.std.proofs.lemmas.Result.{err_from_is_err_and}
use Rattle.ox_outside.proofs.Counts.{no_fault_then, stops_after, stops_at_none, then_rose}
use Rattle.ox_gated.proofs.OneWrite.{if_none, on_failed, on_none}
use Rattle.ox_gated.proofs.Writing.{all_worked, ends_failed}
use Rattle.ox_gated.specs.WritesOn.{writes_then}
use Rattle.ox_gated.proofs.tail.Tail.append.Goals as goal

pub write_synced-requires : goal.write_synced-requires
write_synced-requires g c told =
    let i = c.self.inside in
    let tail : Kept = record { file = i.file; head = i.head; first = i.first; records = i.records; gate = i.gate; other_closed = i.other_closed } in
    let f = framed_at tail c.args.self c.args.framed.now c.as_slice-bytes.result.now c.self.view_is c.as_slice-bytes.ensures c.requires.framed in
    let h : Holds g.S.Site tail c.args.site.now = subst (λ (t : Kept). Holds g.S.Site t c.args.site.now) (sym c.self.view_is) (c.requires.holds told) in
    first_within c.args.framed.now.payload c.as_slice-bytes.result.now (g.S.Site.seen c.args.site.now) tail h.keeps f

pub write_synced-requires-2 : goal.write_synced-requires-2
write_synced-requires-2 g c told_mid =
    let first = c.in_ok-write_synced.ensures in
    let told = sym first.writes.calls.as_told ∙ told_mid in
    let i = c.self.inside in
    let tail : Kept = record { file = i.file; head = i.head; first = i.first; records = i.records; gate = i.gate; other_closed = i.other_closed } in
    let f = framed_at tail c.args.self c.args.framed.now c.as_slice-bytes.result.now c.self.view_is c.as_slice-bytes.ensures c.requires.framed in
    let h : Holds g.S.Site tail c.args.site.now = subst (λ (t : Kept). Holds g.S.Site t c.args.site.now) (sym c.self.view_is) (c.requires.holds told) in
    staged_within g.S.Site c.args.framed.now.payload c.as_slice-bytes.result.now tail f c.args.site.now c.write_synced.new.site h (first.written told)

pub overflow_add-result-2 : goal.overflow_add-result-2
overflow_add-result-2 g c =
    let i = c.self.inside in
    let tail : Kept = record { file = i.file; head = i.head; first = i.first; records = i.records; gate = i.gate; other_closed = i.other_closed } in
    let fits = fits_behind tail c.args.self c.args.framed.now c.as_slice-bytes.result.now c.self.view_is c.as_slice-bytes.ensures c.requires.framed c.requires.fits in
    omega (arith, fits)

pub returns-in_err-write_synced : goal.returns-in_err-write_synced
returns-in_err-write_synced g c =
    let result = c.from_residual.result in
    let p = err_from_is_err_and result c.from_residual.ensures.1 in record {
      holds = λ told. if_none result p.0 p.1 _;
      appended = λ told. on_none result p.0 p.1 _;
      files = λ told. on_none result p.0 p.1 _;
      kept = if_none result p.0 p.1 _;
      any_moment = λ told.
          let i = c.self.inside in
          let tail : Kept = record { file = i.file; head = i.head; first = i.first; records = i.records; gate = i.gate; other_closed = i.other_closed } in
          let f = framed_at tail c.args.self c.args.framed.now c.as_slice-bytes.result.now c.self.view_is c.as_slice-bytes.ensures c.requires.framed in
          let h : Holds g.S.Site tail c.args.site.now = subst (λ (t : Kept). Holds g.S.Site t c.args.site.now) (sym c.self.view_is) (c.requires.holds told) in
          moments_first g.S.Site c.args.framed.now.payload c.as_slice-bytes.result.now tail f c.args.site.now c.write_synced.new.site h (c.write_synced.ensures.moments h.settled);
      failed = on_failed result p.0 p.1 _ c.in_err-write_synced.ensures.failed;
      counted = ends_failed _ result p.0 _ _ p.1 c.write_synced.ensures.counted;
      writes = c.write_synced.ensures.writes;
    }

pub returns-in_err-write_synced-2 : goal.returns-in_err-write_synced-2
returns-in_err-write_synced-2 g c =
    let result = c.from_residual-in_err-write_synced-2.result in
    let p = err_from_is_err_and result c.from_residual-in_err-write_synced-2.ensures.1 in record {
      holds = λ told. if_none result p.0 p.1 _;
      appended = λ told. on_none result p.0 p.1 _;
      files = λ told. on_none result p.0 p.1 _;
      kept = if_none result p.0 p.1 _;
      any_moment = λ told.
          let i = c.self.inside in
          let tail : Kept = record { file = i.file; head = i.head; first = i.first; records = i.records; gate = i.gate; other_closed = i.other_closed } in
          let f = framed_at tail c.args.self c.args.framed.now c.as_slice-bytes.result.now c.self.view_is c.as_slice-bytes.ensures c.requires.framed in
          let h : Holds g.S.Site tail c.args.site.now = subst (λ (t : Kept). Holds g.S.Site t c.args.site.now) (sym c.self.view_is) (c.requires.holds told) in
          let first = c.in_ok-write_synced.ensures in
          let settled = staged_settled g.S.Site c.args.framed.now.payload c.as_slice-bytes.result.now tail f c.args.site.now c.write_synced.new.site h (first.written told) first.durable first.others in
          moments_both g.S.Site c.args.framed.now.payload c.as_slice-bytes.result.now tail f c.args.site.now c.write_synced.new.site h c.write_synced-2.new.site (first.moments h.settled) (first.written told) (c.write_synced-2.ensures.moments settled);
      failed = on_failed result p.0 p.1 _ (then_rose _ _ _ c.in_ok-write_synced.ensures.writes.calls.none_fell.disk c.in_err-write_synced-2.ensures.failed);
      counted = ends_failed _ result p.0 _ _ p.1 (stops_after _ _ _ _ _ _ (all_worked _ _ c.in_ok-write_synced.ensures.counted) c.write_synced-2.ensures.counted);
      writes = writes_then g.S.Site g.met.S.Site.logs_now c.args.site.now c.write_synced.new.site c.write_synced-2.new.site c.in_ok-write_synced.ensures.writes c.write_synced-2.ensures.writes;
    }

pub returns : goal.returns
returns g c = record {
  holds = λ told.
      let i = c.self.inside in
      let tail : Kept = record { file = i.file; head = i.head; first = i.first; records = i.records; gate = i.gate; other_closed = i.other_closed } in
      let f = framed_at tail c.args.self c.args.framed.now c.as_slice-bytes.result.now c.self.view_is c.as_slice-bytes.ensures c.requires.framed in
      let h : Holds g.S.Site tail c.args.site.now = subst (λ (t : Kept). Holds g.S.Site t c.args.site.now) (sym c.self.view_is) (c.requires.holds told) in
      let first = c.in_ok-write_synced.ensures in
      let second = c.in_ok-write_synced-2.ensures in
      let told_mid = first.writes.calls.as_told ∙ told in
      let settled = staged_settled g.S.Site c.args.framed.now.payload c.as_slice-bytes.result.now tail f c.args.site.now c.write_synced.new.site h (first.written told) first.durable first.others in
      holds_after g.S.Site c.args.framed.now.payload c.as_slice-bytes.result.now tail f c.args.site.now c.write_synced.new.site h c.write_synced-2.new.site (first.written told) (second.written told_mid) settled second.durable second.others;
  appended = λ told.
      let i = c.self.inside in
      let tail : Kept = record { file = i.file; head = i.head; first = i.first; records = i.records; gate = i.gate; other_closed = i.other_closed } in
      let f = framed_at tail c.args.self c.args.framed.now c.as_slice-bytes.result.now c.self.view_is c.as_slice-bytes.ensures c.requires.framed in
      let h : Holds g.S.Site tail c.args.site.now = subst (λ (t : Kept). Holds g.S.Site t c.args.site.now) (sym c.self.view_is) (c.requires.holds told) in
      let first = c.in_ok-write_synced.ensures in
      let told_mid = first.writes.calls.as_told ∙ told in
      reads_after g.S.Site c.args.framed.now.payload c.as_slice-bytes.result.now tail f c.args.site.now c.write_synced.new.site h c.write_synced-2.new.site (first.written told) (c.in_ok-write_synced-2.ensures.written told_mid);
  files = λ told.
      let i = c.self.inside in
      let old = g.S.Site.seen c.args.site.now in
      let first = c.in_ok-write_synced.ensures in
      let told_mid = first.writes.calls.as_told ∙ told in
      let written = c.in_ok-write_synced-2.ensures.written told_mid ∙ ap (with_open_gate i.file i.gate) (first.written told ∙ ap (λ (l : List ℕ). with_write i.file (i.gate + 1) l old) c.as_slice-bytes.ensures) in
      subst (λ (t : Kept). g.S.Site.seen c.write_synced-2.new.site ≡ with_record_behind t.file t.gate c.args.framed.now.bytes old) c.self.view_is written;
  kept = (ap (λ (t : Kept). t.file) c.self.view_is, ap (λ (t : Kept). t.head) c.self.view_is, ap (λ (t : Kept). t.records + 1) c.self.view_is);
  any_moment = λ told.
      let i = c.self.inside in
      let tail : Kept = record { file = i.file; head = i.head; first = i.first; records = i.records; gate = i.gate; other_closed = i.other_closed } in
      let f = framed_at tail c.args.self c.args.framed.now c.as_slice-bytes.result.now c.self.view_is c.as_slice-bytes.ensures c.requires.framed in
      let h : Holds g.S.Site tail c.args.site.now = subst (λ (t : Kept). Holds g.S.Site t c.args.site.now) (sym c.self.view_is) (c.requires.holds told) in
      let first = c.in_ok-write_synced.ensures in
      let settled = staged_settled g.S.Site c.args.framed.now.payload c.as_slice-bytes.result.now tail f c.args.site.now c.write_synced.new.site h (first.written told) first.durable first.others in
      moments_both g.S.Site c.args.framed.now.payload c.as_slice-bytes.result.now tail f c.args.site.now c.write_synced.new.site h c.write_synced-2.new.site (first.moments h.settled) (first.written told) (c.in_ok-write_synced-2.ensures.moments settled);
  failed = tt;
  counted = stops_at_none _ _ _ _ _ (no_fault_then _ _ _ (all_worked _ _ c.in_ok-write_synced.ensures.counted) (all_worked _ _ c.in_ok-write_synced-2.ensures.counted));
  writes = writes_then g.S.Site g.met.S.Site.logs_now c.args.site.now c.write_synced.new.site c.write_synced-2.new.site c.in_ok-write_synced.ensures.writes c.in_ok-write_synced-2.ensures.writes;
}
