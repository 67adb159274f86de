use Rattle.std.proofs.Common.{◌≡◌, ◌-◌, ◌<◌, ◌^◌, sum, subst, arith}
use Rattle.ox_allocation.specs.declared.parts.Parts.{Parts}
use Rattle.ox_allocation.specs.Dealing.{next_parts}
use Rattle.ox_allocation.proofs.PartLemmas.{next_each}
use Rattle.ox_allocation.proofs.parts.Parts.take_next.Goals as goal

pub next_even-requires : goal.next_even-requires
next_even-requires c = subst (λ (parts : Parts). sum (next_parts parts 1) < 2 ^ 128) c.in-Even.is c.requires

pub returns-in-Even : goal.returns-in-Even
returns-in-Even c =
    let less : c.saturating_sub.result ≡ c.in-Even.extra - 1 = omega (arith, c.saturating_sub.ensures) in
    λ count. rw (c.in-Even.is, less) (c.next_even.ensures count)

pub returns-in-Each : goal.returns-in-Each
returns-in-Each c = λ count. rw c.in-Each.is (next_each _ _ _ count c.min-part.ensures)
