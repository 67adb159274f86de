use Rattle.std.proofs.Common.{◌≤◌, ◌≡◌, ◌++◌, ℕ, false, length, arith, rules, sym, subst}
use Rattle.ox_outside.specs.Event.{was_opened}
use Rattle.ox_memsite.specs.Room.{channels_in}
use Rattle.ox_memsite.specs.World.{World, log_of, events_of}
use Rattle.ox_memsite.proofs.Kept.{one_counted, unopened}
use Rattle.ox_memsite.proofs.site.MemSite.next_number.Goals as goal

pub returns-clause-number : goal.returns-clause-number
returns-clause-number c =
    let is : c.in-Ok.number ≡ length c.self.inside.channels.items = search rules in
    let some = one_counted _ _ _ _ _ _ _ _ _ _ c.self.invariant in
    omega (arith, is, some)

pub returns-clause-new : goal.returns-clause-new
returns-clause-new c =
    let is : c.in-Ok.number ≡ length c.self.inside.channels.items = search rules in
    let new = unopened _ _ _ _ _ _ _ _ _ _ c.self.invariant in
    subst (λ (w : World). was_opened c.in-Ok.number (log_of w) ≡ false) c.self.view_is (
    subst (λ (n : ℕ). was_opened n (events_of c.self.inside.past.items ++ events_of c.self.inside.steps.filled) ≡ false) (sym is) new)

pub returns-clause-past : goal.returns-clause-past
returns-clause-past c =
    let is : c.in-Ok.number ≡ length c.self.inside.channels.items = search rules in
    let past : channels_in (events_of c.self.inside.past.items ++ events_of c.self.inside.steps.filled) ≤ c.in-Ok.number = omega (arith, is, c.self.invariant.numbers) in
    subst (λ (w : World). channels_in (log_of w) ≤ c.in-Ok.number) c.self.view_is past
