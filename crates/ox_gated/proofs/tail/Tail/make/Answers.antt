use Rattle.std.proofs.Common.{◌≡◌, ◌∙◌, ◌≤◌, ◌+◌, ℕ, List, [], ◌∷◌, ◌++◌, length, true, refl, sym, ap, subst, append_assoc, arith}
use Rattle.ox_outside.specs.Files.{Files}
use Rattle.ox_outside.specs.declared.site.Which.TheVariants.{A}
use Rattle.ox_gated.specs.Layout.{is_closed, head_bytes, checkpoint_bytes}
use Rattle.ox_gated.specs.Reading.{is_any, reading}
use Rattle.ox_gated.specs.Tail.{Kept, Keeps, Holds, new_files}
use Rattle.ox_gated.specs.declared.head.Head.{Head}
use Rattle.ox_gated.proofs.NewFiles.{stands_made, made_is, first_b, made_settled, made_keeps}
use Rattle.std.proofs.lemmas.Result.{err_from_is_err_and}
use Rattle.ox_outside.proofs.Counts.{file_call, no_fault_then, none_fell_then, stops_after, stops_at_none, then_rose}
use Rattle.ox_gated.proofs.Writing.{writes_call, all_worked, ends_failed}
use Rattle.ox_gated.specs.WritesOn.{writes_then}
use Rattle.ox_gated.proofs.OneWrite.{file_worked, if_none, on_failed, on_none}
use Rattle.ox_gated.proofs.tail.Tail.make.Goals as goal

pub returns-in_err-write_synced : goal.returns-in_err-write_synced
returns-in_err-write_synced g c =
    let result = c.from_residual.result in
    let p = err_from_is_err_and result c.from_residual.ensures.1 in record {
      made = λ told. if_none result p.0 p.1 _;
      holds = λ told. if_none result p.0 p.1 _;
      stands = λ told. on_none result p.0 p.1 _;
      kept = if_none result p.0 p.1 _;
      failed = on_failed result p.0 p.1 _ (c.in_err-write_synced.ensures.failed);
      counted = ends_failed _ result p.0 _ _ p.1 (c.write_synced.ensures.counted);
      writes =
          c.write_synced.ensures.writes;
    }

pub returns-in_err-write : goal.returns-in_err-write
returns-in_err-write g c =
    let result = c.from_residual-in_err-write.result in
    let p = err_from_is_err_and result c.from_residual-in_err-write.ensures.1 in record {
      made = λ told. if_none result p.0 p.1 _;
      holds = λ told. if_none result p.0 p.1 _;
      stands = λ told. on_none result p.0 p.1 _;
      kept = if_none result p.0 p.1 _;
      failed = on_failed result p.0 p.1 _ (then_rose _ _ _ c.in_ok-write_synced.ensures.writes.calls.none_fell.disk c.in_err-write.ensures.failed);
      counted = ends_failed _ result p.0 _ _ p.1 (stops_after _ _ _ _ _ _ (all_worked _ _ c.in_ok-write_synced.ensures.counted) (file_call _ _ _ c.write.ensures.counted));
      writes =
          writes_call g.S.Site g.met.S.Site.logs_now c.args.site.now c.write_synced.new.site c.write.new.self c.in_ok-write_synced.ensures.writes c.write.ensures.logged c.write.ensures.call;
    }

pub returns-in_err-write_pieces_synced : goal.returns-in_err-write_pieces_synced
returns-in_err-write_pieces_synced g c =
    let result = c.from_residual-in_err-write_pieces_synced.result in
    let p = err_from_is_err_and result c.from_residual-in_err-write_pieces_synced.ensures.1 in record {
      made = λ told. if_none result p.0 p.1 _;
      holds = λ told. if_none result p.0 p.1 _;
      stands = λ told. on_none result p.0 p.1 _;
      kept = if_none result p.0 p.1 _;
      failed = on_failed result p.0 p.1 _ (then_rose _ _ _ (none_fell_then _ _ _ c.in_ok-write_synced.ensures.writes.calls.none_fell c.in_ok-write.ensures.call.none_fell).disk c.in_err-write_pieces_synced.ensures.failed);
      counted = ends_failed _ result p.0 _ _ p.1 (stops_after _ _ _ _ _ _ (no_fault_then _ _ _ (all_worked _ _ c.in_ok-write_synced.ensures.counted) (file_worked _ _ _ c.in_ok-write.ensures.counted)) c.write_pieces_synced.ensures.counted);
      writes =
          let closed = writes_call g.S.Site g.met.S.Site.logs_now c.args.site.now c.write_synced.new.site c.write.new.self c.in_ok-write_synced.ensures.writes c.in_ok-write.ensures.logged c.in_ok-write.ensures.call in
          writes_then g.S.Site g.met.S.Site.logs_now c.args.site.now c.write.new.self c.write_pieces_synced.new.site closed c.write_pieces_synced.ensures.writes;
    }

pub returns-in_err-write_synced-2 : goal.returns-in_err-write_synced-2
returns-in_err-write_synced-2 g c =
    let result = c.from_residual-in_err-write_synced-2.result in
    let p = err_from_is_err_and result c.from_residual-in_err-write_synced-2.ensures.1 in record {
      made = λ told. if_none result p.0 p.1 _;
      holds = λ told. if_none result p.0 p.1 _;
      stands = λ told. on_none result p.0 p.1 _;
      kept = if_none result p.0 p.1 _;
      failed = on_failed result p.0 p.1 _ (then_rose _ _ _ (none_fell_then _ _ _ (none_fell_then _ _ _ c.in_ok-write_synced.ensures.writes.calls.none_fell c.in_ok-write.ensures.call.none_fell) c.in_ok-write_pieces_synced.ensures.writes.calls.none_fell).disk c.in_err-write_synced-2.ensures.failed);
      counted = ends_failed _ result p.0 _ _ p.1 (stops_after _ _ _ _ _ _ (no_fault_then _ _ _ (no_fault_then _ _ _ (all_worked _ _ c.in_ok-write_synced.ensures.counted) (file_worked _ _ _ c.in_ok-write.ensures.counted)) (all_worked _ _ c.in_ok-write_pieces_synced.ensures.counted)) c.write_synced-2.ensures.counted);
      writes =
          let closed = writes_call g.S.Site g.met.S.Site.logs_now c.args.site.now c.write_synced.new.site c.write.new.self c.in_ok-write_synced.ensures.writes c.in_ok-write.ensures.logged c.in_ok-write.ensures.call in
          let whole = writes_then g.S.Site g.met.S.Site.logs_now c.args.site.now c.write.new.self c.write_pieces_synced.new.site closed c.in_ok-write_pieces_synced.ensures.writes in
          writes_then g.S.Site g.met.S.Site.logs_now c.args.site.now c.write_pieces_synced.new.site c.write_synced-2.new.site whole c.write_synced-2.ensures.writes;
    }

pub returns : goal.returns
returns g c = record {
  made = λ told.
      let b = c.behind-behind.ensures in
      let pieces = c.front-front.result.now ++ c.behind-behind.result.now in
      let w = c.args.checkpoint.now in
      let bytes_are : pieces ≡ checkpoint_bytes w.head w.body = (λ i. c.front-front.ensures.bytes i ++ b.bytes i) ∙ sym (append_assoc (head_bytes w.head w.body) w.body (0 ∷ [])) in
      let told1 = c.in_ok-write_synced.ensures.writes.calls.as_told ∙ told in
      let told2 = c.in_ok-write.ensures.call.as_told ∙ told1 in
      let told3 = c.in_ok-write_pieces_synced.ensures.writes.calls.as_told ∙ told2 in
      let last = made_is pieces _ _ _ _ (g.S.Site.seen c.write_synced-2.new.site) (c.requires.empty told) (c.in_ok-write_synced.ensures.written told) (c.in_ok-write.ensures.written told1) (c.in_ok-write_pieces_synced.ensures.written told2) (c.in_ok-write_synced-2.ensures.written told3) in
      let is : g.S.Site.seen c.write_synced-2.new.site ≡ new_files w = last ∙ ap (λ (l : List ℕ). record { a = 1 ∷ l; b = 0 ∷ [] }) bytes_are in
      is;
  holds = λ told.
      let b = c.behind-behind.ensures in
      let pieces = c.front-front.result.now ++ c.behind-behind.result.now in
      let w = c.args.checkpoint.now in
      let bytes_are : pieces ≡ checkpoint_bytes w.head w.body = (λ i. c.front-front.ensures.bytes i ++ b.bytes i) ∙ sym (append_assoc (head_bytes w.head w.body) w.body (0 ∷ [])) in
      let told1 = c.in_ok-write_synced.ensures.writes.calls.as_told ∙ told in
      let told2 = c.in_ok-write.ensures.call.as_told ∙ told1 in
      let told3 = c.in_ok-write_pieces_synced.ensures.writes.calls.as_told ∙ told2 in
      let last = made_is pieces _ _ _ _ (g.S.Site.seen c.write_synced-2.new.site) (c.requires.empty told) (c.in_ok-write_synced.ensures.written told) (c.in_ok-write.ensures.written told1) (c.in_ok-write_pieces_synced.ensures.written told2) (c.in_ok-write_synced-2.ensures.written told3) in
      let is : g.S.Site.seen c.write_synced-2.new.site ≡ new_files w = last ∙ ap (λ (l : List ℕ). record { a = 1 ∷ l; b = 0 ∷ [] }) bytes_are in
      let b_same = first_b _ _ (c.requires.empty told) (c.in_ok-write_synced.ensures.written told) ∙ sym (ap (λ (f : Files). f.b) last) in
      let tail : Kept = record { file = A; head = w.head; first = length c.front-front.result.now + length c.behind-behind.result.now; records = 0; gate = length c.front-front.result.now + length c.behind-behind.result.now; other_closed = true } in
      let keeps : Keeps tail (reading is_any (g.S.Site.seen c.write_synced-2.new.site)) =
      subst (Keeps tail) (sym (ap (reading is_any) is ∙ stands_made w.head w.body b.lawful b.depth b.generation (omega (arith, b.small)) is_any refl)) (made_keeps w.head w.body _ (omega (arith, c.front-front.ensures.size, b.size))) in
      subst (λ (h : Head). Holds g.S.Site (record tail { head = h }) c.write_synced-2.new.site) (sym c.head.ensures) (
      record {
        settled = made_settled (g.S.Site.may_leave c.write_synced.new.site) (g.S.Site.may_leave c.write.new.self) (g.S.Site.may_leave c.write_pieces_synced.new.site) (g.S.Site.may_leave c.write_synced-2.new.site)
            (g.S.Site.seen c.write_synced.new.site) (g.S.Site.seen c.write_synced-2.new.site) c.in_ok-write_synced.ensures.durable c.in_ok-write.ensures.crash c.in_ok-write_pieces_synced.ensures.others c.in_ok-write_synced-2.ensures.others c.in_ok-write_synced-2.ensures.durable b_same;
        some_a = subst (λ (f : Files). 1 ≤ length f.a) (sym is) (omega arith);
        some_b = subst (λ (f : Files). 1 ≤ length f.b) (sym is) (omega arith);
        keeps = keeps;
        closed = sym (ap (λ (f : Files). is_closed f.b) is);
      }
      );
  stands = λ told reads read.
      let b = c.behind-behind.ensures in
      let pieces = c.front-front.result.now ++ c.behind-behind.result.now in
      let w = c.args.checkpoint.now in
      let bytes_are : pieces ≡ checkpoint_bytes w.head w.body = (λ i. c.front-front.ensures.bytes i ++ b.bytes i) ∙ sym (append_assoc (head_bytes w.head w.body) w.body (0 ∷ [])) in
      let told1 = c.in_ok-write_synced.ensures.writes.calls.as_told ∙ told in
      let told2 = c.in_ok-write.ensures.call.as_told ∙ told1 in
      let told3 = c.in_ok-write_pieces_synced.ensures.writes.calls.as_told ∙ told2 in
      let last = made_is pieces _ _ _ _ (g.S.Site.seen c.write_synced-2.new.site) (c.requires.empty told) (c.in_ok-write_synced.ensures.written told) (c.in_ok-write.ensures.written told1) (c.in_ok-write_pieces_synced.ensures.written told2) (c.in_ok-write_synced-2.ensures.written told3) in
      let is : g.S.Site.seen c.write_synced-2.new.site ≡ new_files w = last ∙ ap (λ (l : List ℕ). record { a = 1 ∷ l; b = 0 ∷ [] }) bytes_are in
      ap (reading reads) is ∙ stands_made w.head w.body b.lawful b.depth b.generation (omega (arith, b.small)) reads read;
  kept = (refl, c.head.ensures, refl);
  failed = tt;
  counted = stops_at_none _ _ _ _ _ (no_fault_then _ _ _ (no_fault_then _ _ _ (no_fault_then _ _ _ (all_worked _ _ c.in_ok-write_synced.ensures.counted) (file_worked _ _ _ c.in_ok-write.ensures.counted)) (all_worked _ _ c.in_ok-write_pieces_synced.ensures.counted)) (all_worked _ _ c.in_ok-write_synced-2.ensures.counted));
  writes =
      let closed = writes_call g.S.Site g.met.S.Site.logs_now c.args.site.now c.write_synced.new.site c.write.new.self c.in_ok-write_synced.ensures.writes c.in_ok-write.ensures.logged c.in_ok-write.ensures.call in
      let whole = writes_then g.S.Site g.met.S.Site.logs_now c.args.site.now c.write.new.self c.write_pieces_synced.new.site closed c.in_ok-write_pieces_synced.ensures.writes in
      writes_then g.S.Site g.met.S.Site.logs_now c.args.site.now c.write_pieces_synced.new.site c.write_synced-2.new.site whole c.write_synced-2.ensures.writes;
}
