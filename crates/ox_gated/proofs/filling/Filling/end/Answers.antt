use Rattle.std.proofs.Common.{◌≡◌, ◌∙◌, ◌+◌, ◌<◌, [], ℕ, length, sym, ap, subst, arith}
use Rattle.std.proofs.lemmas.Result.{err_from_is_err_and}
use Rattle.ox_outside.proofs.Counts.{no_fault_then, stops_after, stops_at_none, then_rose}
use Rattle.ox_outside.specs.Files.{file_of, other}
use Rattle.ox_gated.specs.Filling.{HasTaken, Poured, PoursOn, StaysShut}
use Rattle.ox_gated.specs.Layout.{head_bytes, head_front}
use Rattle.ox_gated.specs.OtherFile.{HoldsBoth, KeptBoth}
use Rattle.ox_gated.specs.Pouring.{pours_then}
use Rattle.ox_gated.proofs.BehindGate.{some_shut}
use Rattle.ox_gated.proofs.FilledByPieces.{ended_holds, front_is, gate_is}
use Rattle.ox_gated.proofs.OneWrite.{if_none, on_failed}
use Rattle.ox_gated.proofs.TakenPieces.{taken_within}
use Rattle.ox_gated.proofs.Writing.{all_worked, ends_failed}
use Rattle.ox_gated.proofs.filling.Filling.end.Goals as goal

pub pour-requires-clause-shut : goal.pour-requires-clause-shut
pour-requires-clause-shut g c told =
    let was = c.requires.taken.1 in
    subst (λ (p : Poured). StaysShut g.S.Site p.tail c.args.site.now) (sym c.self.view_is) (was.stays told)

pub pour-requires-clause-within : goal.pour-requires-clause-within
pour-requires-clause-within g c told =
    let i = c.self.inside in
    let k : Poured = record { tail = i.tail; size = i.size; hasher = i.hasher } in
    let body = c.requires.taken.0 in
    let was : HasTaken g.S.Site k c.args.site.now body = subst (λ (p : Poured). HasTaken g.S.Site p c.args.site.now body) (sym c.self.view_is) c.requires.taken.1 in
    taken_within g.S.Site k c.args.site.now body was told

pub pour-requires-2-clause-shut : goal.pour-requires-2-clause-shut
pour-requires-2-clause-shut g c told_mid =
    let first = c.in_ok-pour.ensures.pours in
    first.stays (sym first.writes.calls.as_told ∙ told_mid)

pub pour-requires-2-clause-within : goal.pour-requires-2-clause-within
pour-requires-2-clause-within g c told_mid =
    let first = c.in_ok-pour.ensures.pours in
    some_shut (file_of (g.S.Site.seen c.pour.new.site) (other c.self.inside.tail.file)) (first.stays (sym first.writes.calls.as_told ∙ told_mid)).now

pub settle_beside-requires : goal.settle_beside-requires
settle_beside-requires g c =
    let next = c.in_ok-pour-2.ensures.pours in
    record { shut = λ told_mid. next.stays (sym next.writes.calls.as_told ∙ told_mid) }

pub beside-requires : goal.beside-requires
beside-requires g c =
    let i = c.self.inside in
    let k : Poured = record { tail = i.tail; size = i.size; hasher = i.hasher } in
    let body = c.requires.taken.0 in
    let was : HasTaken g.S.Site k c.args.site.now body = subst (λ (p : Poured). HasTaken g.S.Site p c.args.site.now body) (sym c.self.view_is) c.requires.taken.1 in
    let gate = gate_is c.args.head.now c.requires.version [] in record {
      lawful = c.requires.head;
      generation = subst (λ (p : Poured). p.tail.head.generation < c.args.head.now.generation) (sym c.self.view_is) c.requires.generation;
      gate = omega (arith, was.short, gate);
    }

pub returns-in_err-pour : goal.returns-in_err-pour
returns-in_err-pour g c =
    let result = c.from_residual.result in
    let p = err_from_is_err_and result c.from_residual.ensures.1 in record {
      holds = λ told body taken. if_none result p.0 p.1 _;
      kept = λ body taken. if_none result p.0 p.1 _;
      pours = subst (λ (k : Poured). PoursOn g.S.Site k.tail c.args.site.now c.pour.new.site) c.self.view_is c.pour.ensures.pours;
      failed = on_failed result p.0 p.1 _ c.in_err-pour.ensures.failed;
      counted = ends_failed _ result p.0 _ _ p.1 c.pour.ensures.counted;
    }

pub returns-in_err-pour-2 : goal.returns-in_err-pour-2
returns-in_err-pour-2 g c =
    let result = c.from_residual-in_err-pour-2.result in
    let p = err_from_is_err_and result c.from_residual-in_err-pour-2.ensures.1 in
    let first = c.in_ok-pour.ensures in record {
      holds = λ told body taken. if_none result p.0 p.1 _;
      kept = λ body taken. if_none result p.0 p.1 _;
      pours = subst (λ (k : Poured). PoursOn g.S.Site k.tail c.args.site.now c.pour-2.new.site) c.self.view_is
          (pours_then g.S.Site g.met.S.Site.logs_now c.self.inside.tail c.args.site.now c.pour.new.site c.pour-2.new.site first.pours c.pour-2.ensures.pours);
      failed = on_failed result p.0 p.1 _ (then_rose _ _ _ first.pours.writes.calls.none_fell.disk c.in_err-pour-2.ensures.failed);
      counted = ends_failed _ result p.0 _ _ p.1 (stops_after _ _ _ _ _ _ (all_worked _ _ first.counted) c.pour-2.ensures.counted);
    }

pub returns-in_err-settle_beside : goal.returns-in_err-settle_beside
returns-in_err-settle_beside g c =
    let result = c.from_residual-in_err-settle_beside.result in
    let p = err_from_is_err_and result c.from_residual-in_err-settle_beside.ensures.1 in
    let first = c.in_ok-pour.ensures in
    let next = c.in_ok-pour-2.ensures in
    let both = pours_then g.S.Site g.met.S.Site.logs_now c.self.inside.tail c.args.site.now c.pour.new.site c.pour-2.new.site first.pours next.pours in record {
      holds = λ told body taken. if_none result p.0 p.1 _;
      kept = λ body taken. if_none result p.0 p.1 _;
      pours = subst (λ (k : Poured). PoursOn g.S.Site k.tail c.args.site.now c.settle_beside.new.site) c.self.view_is
          (pours_then g.S.Site g.met.S.Site.logs_now c.self.inside.tail c.args.site.now c.pour-2.new.site c.settle_beside.new.site both c.settle_beside.ensures.pours);
      failed = on_failed result p.0 p.1 _ (then_rose _ _ _ both.writes.calls.none_fell.disk c.in_err-settle_beside.ensures.failed);
      counted = ends_failed _ result p.0 _ _ p.1 (stops_after _ _ _ _ _ _ (no_fault_then _ _ _ (all_worked _ _ first.counted) (all_worked _ _ next.counted)) c.settle_beside.ensures.counted);
    }

pub returns : goal.returns
returns g c =
    let i = c.self.inside in
    let k : Poured = record { tail = i.tail; size = i.size; hasher = i.hasher } in
    let head = c.args.head.now in
    let first = c.in_ok-pour.ensures in
    let next = c.in_ok-pour-2.ensures in
    let last = c.in_ok-settle_beside.ensures in
    let both = pours_then g.S.Site g.met.S.Site.logs_now i.tail c.args.site.now c.pour.new.site c.pour-2.new.site first.pours next.pours in record {
      holds = λ told body taken.
          let was : HasTaken g.S.Site k c.args.site.now body = subst (λ (p : Poured). HasTaken g.S.Site p c.args.site.now body) (sym c.self.view_is) taken in
          let at : 90 + i.size ≡ 90 + length body = ap (λ (n : ℕ). 90 + n) was.size in
          let made : c.summed_front-front.result ≡ head_bytes head body = front_is head c.requires.version body c.summed_front-front.result (head_front head i.size) c.finalize.result (ap (head_front head) was.size) (c.finalize.ensures body was.hashed) c.summed_front-front.ensures in
          let told_1 = first.pours.writes.calls.as_told ∙ told in
          let told_2 = next.pours.writes.calls.as_told ∙ told_1 in
          subst (λ (b : KeptBoth). HoldsBoth g.S.Site b body c.settle_beside.new.site) (sym c.beside.ensures)
          (ended_holds head c.requires.version body g.S.Site i.tail (90 + i.size) at c.summed_front-front.result made c.args.site.now c.pour.new.site c.pour-2.new.site c.settle_beside.new.site (was.stands told) (was.stays told) (first.written told) (next.written told_1) last.files (last.pours.stays told_2) (last.settled told_2));
      kept = λ body taken.
          let was : HasTaken g.S.Site k c.args.site.now body = subst (λ (p : Poured). HasTaken g.S.Site p c.args.site.now body) (sym c.self.view_is) taken in
          let at = ap (λ (n : ℕ). 90 + n) was.size ∙ sym (gate_is head c.requires.version body) in
          let tail = ap (λ (p : Poured). p.tail) c.self.view_is in
          c.beside.ensures ∙ (λ j. record { tail = tail j; head = head; gate = at j });
      pours = subst (λ (p : Poured). PoursOn g.S.Site p.tail c.args.site.now c.settle_beside.new.site) c.self.view_is
          (pours_then g.S.Site g.met.S.Site.logs_now i.tail c.args.site.now c.pour-2.new.site c.settle_beside.new.site both last.pours);
      failed = tt;
      counted = stops_at_none _ _ _ _ _ (no_fault_then _ _ _ (no_fault_then _ _ _ (all_worked _ _ first.counted) (all_worked _ _ next.counted)) (all_worked _ _ last.counted));
    }
