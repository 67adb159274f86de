use Rattle.std.proofs.Common.{◌≡◌, ◌∙◌, ◌+◌, ℕ, [], ◌∷◌, Ok, ap, sym, subst, arith}
use Rattle.std.specs.Prelude.{Err}
use Rattle.std.proofs.lemmas.Result.{err_from_is_err_and}
use Rattle.ox_feed.specs.declared.command.Command.TheVariants.{Connect}
use Rattle.ox_block.specs.Spelling.{spell}
use Rattle.ox_drill.specs.Blocks.{behind_of}
use Rattle.ox_drill.specs.Chain.{blocks_from, connects, drill_block}
use Rattle.ox_drill.specs.Drill.{Carries}
use Rattle.ox_drill.specs.declared.blocks.Behind.{Behind}
use Rattle.ox_drill.proofs.Lists.{connects_in_hand, connects_left, connects_next, length-connects}
use Rattle.ox_drill.proofs.Parts.{carries_broken, carries_none, carries_same, carries_then, stops_none, stops_then, stops_with}
use Rattle.ox_drill.proofs.carry.connect_blocks.Goals as goal

pub loop-done-init : goal.loop-done-init
unfolding blocks_from
loop-done-init g c =
    let same : c.args.behind.now.height + 0 ≡ c.args.behind.now.height = omega arith in
    record {
      next = c.requires.place ∙ sym (ap behind_of same);
      carries = carries_none g.S.Site c.args.store c.args.site.now c.requires.in_step;
      stops = stops_none g.S.Site g.met.S.Site.logs_now c.args.store c.args.site.now g.met.S.Site.only_now;
    }

pub connect_next-requires-clause-few : goal.connect_next-requires-clause-few
connect_next-requires-clause-few g c =
    omega (arith, c.requires.few, c.loop-done-test.true, c.loop-done.invariant.carries.few, length-connects c.args.behind.now.height c.loop-done._done)

pub loop-done-preserved : goal.loop-done-preserved
loop-done-preserved g c =
    let done = c.loop-done._done in
    let kept = c.loop-done.invariant in
    let old = c.args.site.now in
    let last = c.in_ok-store.store in
    let height = c.args.behind.now.height in
    let here : c.loop-done.behind.height ≡ height + done = ap (λ (b : Behind). b.height) kept.next in
    let next : c.loop-done.behind.height + 1 ≡ height + (done + 1) = omega (arith, here) in
    let carried = subst (λ (h : ℕ). Carries g.S.Site c.loop-done.store (Connect (spell (drill_block h)) ∷ []) (Ok last) c.loop-done.site c.connect_next.new.site) here c.in_ok-store.ensures.carries in
    record {
      next = c.in_ok-store.ensures.next ∙ ap behind_of next;
      carries = carries_same g.S.Site c.args.store _ _ (Ok last) old c.connect_next.new.site (connects_next height done)
          (carries_then g.S.Site c.args.store c.loop-done.store (connects (blocks_from height done)) (Connect (spell (drill_block (height + done))) ∷ []) (Ok last) old c.loop-done.site c.connect_next.new.site
          kept.stops.writes.calls.as_told kept.carries carried);
      stops = stops_then g.S.Site g.met.S.Site.logs_now c.loop-done.store (Ok last) old c.loop-done.site c.connect_next.new.site kept.stops c.in_ok-store.ensures.stops;
    }

pub returns-in_err-store-clause-carries : goal.returns-in_err-store-clause-carries
returns-in_err-store-clause-carries g c =
    let done = c.loop-done._done in
    let kept = c.loop-done.invariant in
    let height = c.args.behind.now.height in
    let fault = c.in_err-store.field-0.0 in
    let p = err_from_is_err_and c.from_residual.result c.from_residual.ensures.1 in
    let here : c.loop-done.behind.height ≡ height + done = ap (λ (b : Behind). b.height) kept.next in
    let carried = subst (λ (h : ℕ). Carries g.S.Site c.loop-done.store (Connect (spell (drill_block h)) ∷ []) (Err fault) c.loop-done.site c.connect_next.new.site) here c.in_err-store.ensures.carries in
    carries_broken g.S.Site c.args.store c.loop-done.store (connects (blocks_from height done)) (Connect (spell (drill_block (height + done))) ∷ []) (connects_left height done c.args.count) _
    c.from_residual.result fault p.0 c.args.site.now c.loop-done.site c.connect_next.new.site p.1
    kept.stops.writes.calls.as_told (connects_in_hand height done c.args.count c.loop-done-test.true) kept.carries carried

pub returns-in_err-store-clause-stops : goal.returns-in_err-store-clause-stops
returns-in_err-store-clause-stops g c =
    let fault = c.in_err-store.field-0.0 in
    let p = err_from_is_err_and c.from_residual.result c.from_residual.ensures.1 in
    stops_then g.S.Site g.met.S.Site.logs_now c.loop-done.store c.from_residual.result c.args.site.now c.loop-done.site c.connect_next.new.site c.loop-done.invariant.stops
    (stops_with g.S.Site c.from_residual.result fault p.0 c.loop-done.site c.connect_next.new.site p.1 p.2 c.in_err-store.ensures.stops)

pub returns-clause-carries : goal.returns-clause-carries
returns-clause-carries g c =
    let all : c.loop-done._done ≡ c.args.count = omega (arith, c.loop-done-test.false, c.loop-done.auto._done-end) in
    carries_same g.S.Site c.args.store _ _ (Ok c.loop-done.store) c.args.site.now c.loop-done.site
    (ap (λ (n : ℕ). connects (blocks_from c.args.behind.now.height n)) all) c.loop-done.invariant.carries
