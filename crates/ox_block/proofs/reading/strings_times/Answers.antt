use Rattle.std.proofs.Common.{◌≡◌, refl, arith, subst, sym, ap, ◌∙◌, ◌-◌, length, take}
use Rattle.ox_block.specs.Witness.{AreStrings, strings_in}
use Rattle.ox_block.proofs.StringsInTurn.{cut}
use Rattle.ox_block.proofs.reading.strings_times.Goals as goal

pub overflow_sub-bytes : goal.overflow_sub-bytes
overflow_sub-bytes c = (cut c.args.count c.args.bytes.now c.in_ok-behind.behind.now (λ i. omega (arith, c.type_inv.bytes i)) c.in_ok-behind.ensures).within

pub copy-requires : goal.copy-requires
copy-requires c =
    let cut_out = cut c.args.count c.args.bytes.now c.in_ok-behind.behind.now (λ i. omega (arith, c.type_inv.bytes i)) c.in_ok-behind.ensures in
    subst (AreStrings c.args.count) (sym c.split_at.ensures.front) cut_out.strings

pub returns : goal.returns
returns c =
    let cut_out = cut c.args.count c.args.bytes.now c.in_ok-behind.behind.now (λ i. omega (arith, c.type_inv.bytes i)) c.in_ok-behind.ensures in
    let items : strings_in c.args.count (take (length c.args.bytes.now - length c.in_ok-behind.behind.now) c.args.bytes.now) ≡ c.in_ok-copy.field-0 = ap (strings_in c.args.count) (sym c.split_at.ensures.front) ∙ sym c.in_ok-copy.ensures in
    cut_out.read ∙ rw (items, ← c.split_at.ensures.back) refl
