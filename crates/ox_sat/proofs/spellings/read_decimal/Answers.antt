use Rattle.std.proofs.Common.{◌≡◌, sym, ◌∙◌, arith}
use Rattle.std.proofs.lemmas.Fmt.{decimal_injective}
use Rattle.ox_sat.proofs.Epochs.{counts}
use Rattle.ox_sat.proofs.Numbers.{small_decimal}
use Rattle.ox_sat.proofs.spellings.read_decimal.Goals as goal

pub returns-in_err-height-clause-none : goal.returns-in_err-height-clause-none
returns-in_err-height-clause-none c = rw c.from_residual.ensures (λ h o within is_height is_offset. c.in_err-height.ensures.none h (small_decimal c.args.p.now h o (counts c.args.p.now c.requires) within).0 is_height)

pub returns-else-offset-subsidy-clause-none : goal.returns-else-offset-subsidy-clause-none
returns-else-offset-subsidy-clause-none c = λ h o within is_height is_offset.
    let small = small_decimal c.args.p.now h o (counts c.args.p.now c.requires) within in
    let height : c.in_ok-height.height ≡ h = decimal_injective c.in_ok-height.height h c.in_ok-height.ensures.small small.0 (sym c.in_ok-height.ensures.reads ∙ is_height) in
    let offset : c.in_ok-offset.offset ≡ o = decimal_injective c.in_ok-offset.offset o c.in_ok-offset.ensures.small small.1 (sym c.in_ok-offset.ensures.reads ∙ is_offset) in
    let over = rw (c.subsidy.ensures.value, height, offset) at c.if-offset-subsidy.false in
    absurd (omega (arith, over, within))
