use Rattle.std.proofs.Common.{◌≡◌, ◌∙◌, ◌≤◌, ℕ, ap, arith, refl}
use Rattle.std.specs.Prelude.{Err, IsErrOf, Result}
use Rattle.ox_outside.specs.Counts.{IsFailure}
use Rattle.ox_outside.proofs.Counts.{stops_as, stops_at_none}
use Rattle.ox_gated.specs.declared.fault.Halt.TheVariants as halts
use Rattle.ox_index.proofs.Tips.{tip_says}
use Rattle.ox_rules.specs.Text.{tip_line}
use Rattle.ox_app.specs.declared.carry.CarriedLine.{CarriedLine}
use Rattle.ox_app.specs.declared.stop.Stop.{Stop}
use Rattle.ox_app.specs.declared.stop.Stop.TheVariants as stops
use Rattle.ox_app.proofs.Stops.{all_shown, unstopped}
use Rattle.ox_app.proofs.carry.commit.Goals as goal

at_most : (m n : ℕ) → m ≡ n → m ≤ n
at_most m n is = omega (arith, is)

pub returns-in-Ok : goal.returns-in-Ok
returns-in-Ok g c = record {
  answer = c.ok_line_in-answer.ensures ∙ ap tip_line c.tip.ensures ∙ tip_says c.args.ready.stack.index.hashes;
  leads = c.in-Ok.ensures.stack;
  one_more = at_most _ _ c.in-Ok.ensures.one_more;
  holds = c.in-Ok.ensures.holds;
  stands = c.in-Ok.ensures.stands;
  any_moment = c.commit.ensures.any_moment;
  stops = tt;
  failed = λ is. absurd (unstopped (stops.Halt halts.Disk) is);
  counted = stops_at_none _ _ _ _ _ (all_shown _ _ c.in-Ok.ensures.counted);
  writes = c.commit.ensures.writes;
}

pub returns-in-Err : goal.returns-in-Err
returns-in-Err g c =
    let failed : Result CarriedLine Stop = Err (stops.Halt halts.Disk) in
    record {
      answer = tt;
      leads = tt;
      one_more = tt;
      holds = λ told. tt;
      stands = λ told before stood leads. tt;
      any_moment = c.commit.ensures.any_moment;
      stops = refl;
      failed = λ is. c.in-Err.ensures.failed;
      counted =
          stops_as (IsFailure c.commit.result) ⊥ ⊥ (IsErrOf failed (stops.Halt halts.Disk)) (IsErrOf failed stops.HearFault) (IsErrOf failed stops.ShowFault) _ _
          (λ is. refl) (λ no. absurd no) (λ no. absurd no) c.commit.ensures.counted;
      writes = c.commit.ensures.writes;
    }
