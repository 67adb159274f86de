use Rattle.std.proofs.Common.{◌≡◌, ◌∙◌, ◌+◌, ◌-◌, ◌≤◌, ℕ, ap, arith, drop, refl, sym}
use Rattle.std.specs.Ordering.{is_lt}
use Rattle.ox_sound.specs.Rows.{rise}
use Rattle.ox_sound.proofs.AmountLemmas.{no_balance}
use Rattle.ox_sound.proofs.HeldLemmas.{rise_end, rise_on, rise_stop}
use Rattle.ox_sound.proofs.held.do_rise.Goals as goal

pub loop-next-init : goal.loop-next-init
loop-next-init c = refl

pub returns-then-not-is_lt : goal.returns-then-not-is_lt
returns-then-not-is_lt c =
    let low : 1 ≤ c.loop-next.next = c.loop-next.auto.next in
    let next : c.loop-next.next ≡ c.loop-next.next - 1 + 1 = omega (arith, low) in
    let not_less = ap is_lt (sym c.cmp.ensures) ∙ sym c.is_lt.ensures ∙ c.if-not-is_lt.true in
    sym (rise_stop c.args.balances.now (c.loop-next.next - 1) c.loop-next.next no_balance next c.loop-next-test.true not_less) ∙ c.loop-next.invariant

pub loop-next-preserved : goal.loop-next-preserved
loop-next-preserved c =
    let low : 1 ≤ c.loop-next.next = c.loop-next.auto.next in
    let next : c.loop-next.next ≡ c.loop-next.next - 1 + 1 = omega (arith, low) in
    let same : c.loop-next.next + 1 - 1 ≡ c.loop-next.next = omega arith in
    let less = ap is_lt (sym c.cmp.ensures) ∙ sym c.is_lt.ensures ∙ c.if-not-is_lt.false in
    ap (λ (n : ℕ). rise (drop n c.args.balances.now)) same ∙ sym (rise_on c.args.balances.now (c.loop-next.next - 1) c.loop-next.next no_balance next c.loop-next-test.true less) ∙ c.loop-next.invariant

pub returns : goal.returns
returns c =
    let low : 1 ≤ c.loop-next.next = c.loop-next.auto.next in
    sym (rise_end c.args.balances.now (c.loop-next.next - 1) (omega (arith, low, c.loop-next-test.false))) ∙ c.loop-next.invariant
