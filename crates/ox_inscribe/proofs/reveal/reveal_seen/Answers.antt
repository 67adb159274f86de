use Rattle.std.proofs.Common.{arith, sym, ap, subst, ◌∙◌, ◌++◌, ◌-◌, ◌<◌, ◌∷◌, [], suc, ℕ, List, length, length-append, take}
use Rattle.std.specs.Prelude.{reverse, All}
use Rattle.ox_inscribe.specs.Reveal.{row_of}
use Rattle.ox_inscribe.specs.Scenes.{revealing}
use Rattle.ox_inscribe.specs.declared.sightings.Sighting.{Sighting}
use Rattle.ox_inscribe.proofs.FrontLaws.{still_front}
use Rattle.ox_inscribe.proofs.TurnLaws.{rows_more, fees_more, rows_end, fees_end, popped_seen, none_left}
use Rattle.ox_inscribe.proofs.reveal.reveal_seen.Goals as goal

pub reveal_one-requires : goal.reveal_one-requires
reveal_one-requires c =
    let one = c.in-Some.one in
    let shown = popped_seen c.loop-one.seen.items c.pop.new.self.items one c.in-Some.ensures.items in
    let all = subst (λ (seen : List Sighting). All (λ (s : Sighting). s.says.marks < 128) seen) shown c.loop-one.invariant.marks in record {
      before = omega (arith, c.loop-one.invariant.before, c.loop-one.invariant.longer);
      marks = all 0 one (omega arith);
    }

pub returns-in_err-reveal_one-clause-front : goal.returns-in_err-reveal_one-clause-front
returns-in_err-reveal_one-clause-front c = still_front c.args.rows.now.rows c.loop-one.rows.rows c.reveal_one.new.rows.rows c.loop-one.invariant.front c.in_err-reveal_one.ensures.front

pub returns-in_err-reveal_one-clause-jubilee : goal.returns-in_err-reveal_one-clause-jubilee
returns-in_err-reveal_one-clause-jubilee c = c.in_err-reveal_one.ensures.jubilee ∙ c.loop-one.invariant.jubilee

pub loop-one-preserved : goal.loop-one-preserved
loop-one-preserved c =
    let tx = revealing c.args.scene.now in
    let base = c.args.rows.now.rows in
    let earlier = c.loop-one.rows.rows in
    let one = c.in-Some.one in
    let shown = popped_seen c.loop-one.seen.items c.pop.new.self.items one c.in-Some.ensures.items in
    let pushed = c.in_ok-reveal_one.ensures.rows ∙ ap (λ (n : ℕ). earlier ++ row_of tx (take n earlier) earlier (length earlier - n) one ∷ []) c.loop-one.invariant.before in record {
      rows = rows_more tx base earlier c.reveal_one.new.rows.rows _ one (reverse c.pop.new.self.items) (reverse c.loop-one.seen.items) shown c.loop-one.invariant.front c.loop-one.invariant.longer pushed c.loop-one.invariant.rows;
      fees = fees_more tx base earlier c.reveal_one.new.rows.rows c.loop-one.fees.items c.reveal_one.new.fees.items _ one (reverse c.pop.new.self.items) (reverse c.loop-one.seen.items) shown c.loop-one.invariant.front c.loop-one.invariant.longer pushed c.in_ok-reveal_one.ensures.fees c.loop-one.invariant.fees;
      before = c.loop-one.invariant.before;
      longer = omega (arith, ap length pushed ∙ length-append earlier _, c.loop-one.invariant.longer);
      front = still_front base earlier c.reveal_one.new.rows.rows c.loop-one.invariant.front c.in_ok-reveal_one.ensures.front;
      jubilee = c.in_ok-reveal_one.ensures.jubilee ∙ c.loop-one.invariant.jubilee;
      marks =
          let all = subst (λ (seen : List Sighting). All (λ (s : Sighting). s.says.marks < 128) seen) shown c.loop-one.invariant.marks in
          λ k d within. all (suc k) d (omega arith);
    }

pub returns-clause-rows : goal.returns-clause-rows
returns-clause-rows c = rows_end (revealing c.args.scene.now) c.args.rows.now.rows c.loop-one.rows.rows _ _ (reverse c.loop-one.seen.items) (none_left c.loop-one.seen.items (sym c.loop-one.seen.ok.0 ∙ c.in_default.ensures.cases.0)) c.loop-one.invariant.rows

pub returns-clause-fees : goal.returns-clause-fees
returns-clause-fees c = fees_end (revealing c.args.scene.now) c.args.rows.now.rows c.loop-one.rows.rows c.loop-one.fees.items _ _ (reverse c.loop-one.seen.items) (none_left c.loop-one.seen.items (sym c.loop-one.seen.ok.0 ∙ c.in_default.ensures.cases.0)) c.loop-one.invariant.fees

pub returns-clause-front : goal.returns-clause-front
returns-clause-front c = c.loop-one.invariant.front

pub returns-clause-jubilee : goal.returns-clause-jubilee
returns-clause-jubilee c = c.loop-one.invariant.jubilee
