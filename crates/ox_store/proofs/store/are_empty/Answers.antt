use Rattle.std.proofs.Common.{◌∙◌}
use Rattle.std.proofs.lemmas.Bool.{eqb-true}
use Rattle.std.proofs.lemmas.Result.{err_from_is_err_and}
use Rattle.ox_outside.proofs.Calls.{looks_call, looks_none}
use Rattle.ox_outside.proofs.Counts.{file_call, no_fault_then, stops_after, stops_at_none, then_rose}
use Rattle.ox_gated.proofs.Writing.{all_worked, ends_failed}
use Rattle.ox_store.proofs.EmptyFiles.{both_empty, some_there}
use Rattle.ox_store.proofs.Exits.{no_value}
use Rattle.ox_store.proofs.store.are_empty.Goals as goal

pub returns-in_err-a : goal.returns-in_err-a
returns-in_err-a g c =
    let old = c.args.site.now in
    let left = c.from_residual.result in
    let p = err_from_is_err_and left c.from_residual.ensures.1 in record {
      empty = λ told. no_value left p.0 _ p.1;
      looks = looks_call g.S.Site old old c.len.new.self (looks_none g.S.Site g.met.S.Site.only_now old) c.len.ensures.files c.len.ensures.call;
      failed = rw p.1 c.in_err-a.ensures.failed;
      counted = ends_failed _ left p.0 _ _ p.1 (file_call c.len.result _ _ c.len.ensures.counted);
    }

pub returns-in_err-b : goal.returns-in_err-b
returns-in_err-b g c =
    let old = c.args.site.now in
    let left = c.from_residual-in_err-b.result in
    let p = err_from_is_err_and left c.from_residual-in_err-b.ensures.1 in record {
      empty = λ told. no_value left p.0 _ p.1;
      looks = looks_call g.S.Site old c.len.new.self c.len-2.new.self
          (looks_call g.S.Site old old c.len.new.self (looks_none g.S.Site g.met.S.Site.only_now old) c.len.ensures.files c.len.ensures.call) c.len-2.ensures.files c.len-2.ensures.call;
      failed = rw p.1 (then_rose _ _ _ c.len.ensures.call.none_fell.disk c.in_err-b.ensures.failed);
      counted = ends_failed _ left p.0 _ _ p.1 (stops_after _ _ _ _ _ _ (all_worked _ _ (file_call _ _ _ c.in_ok-a.ensures.counted)) (file_call c.len-2.result _ _ c.len-2.ensures.counted));
    }

pub returns-then-a-eq0 : goal.returns-then-a-eq0
returns-then-a-eq0 g c =
    let old = c.args.site.now in record {
      empty = λ told. both_empty (g.S.Site.seen c.args.site.now) (g.S.Site.seen c.len.new.self) c.in_ok-a.a c.in_ok-b.b c.len.ensures.files.files (c.in_ok-a.ensures.length told) c.if-a-eq0.true
          (c.in_ok-b.ensures.length (c.len.ensures.call.as_told ∙ told));
      looks = looks_call g.S.Site old c.len.new.self c.len-2.new.self
          (looks_call g.S.Site old old c.len.new.self (looks_none g.S.Site g.met.S.Site.only_now old) c.len.ensures.files c.len.ensures.call) c.len-2.ensures.files c.len-2.ensures.call;
      failed = tt;
      counted = stops_at_none _ _ _ _ _ (no_fault_then _ _ _ (all_worked _ _ (file_call _ _ _ c.in_ok-a.ensures.counted)) (all_worked _ _ (file_call _ _ _ c.in_ok-b.ensures.counted)));
    }

pub returns-else-a-eq0 : goal.returns-else-a-eq0
returns-else-a-eq0 g c =
    let old = c.args.site.now in record {
      empty = λ told. (λ is. absurd (c.if-a-eq0.false (eqb-true c.in_ok-a.a 0 is)), λ is. absurd (some_there (g.S.Site.seen c.args.site.now) c.in_ok-a.a (c.in_ok-a.ensures.length told) c.if-a-eq0.false is));
      looks = looks_call g.S.Site old c.len.new.self c.len-2.new.self
          (looks_call g.S.Site old old c.len.new.self (looks_none g.S.Site g.met.S.Site.only_now old) c.len.ensures.files c.len.ensures.call) c.len-2.ensures.files c.len-2.ensures.call;
      failed = tt;
      counted = stops_at_none _ _ _ _ _ (no_fault_then _ _ _ (all_worked _ _ (file_call _ _ _ c.in_ok-a.ensures.counted)) (all_worked _ _ (file_call _ _ _ c.in_ok-b.ensures.counted)));
    }
