use Rattle.std.proofs.Common.{◌≡◌, ◌∙◌, ℕ, ◌+◌, ◌/◌, ◌<◌, length, sym, ap, subst, drop, take, arith}
use Rattle.ox_outputs.specs.Cells.{StartList, first_at, starts_from}
use Rattle.ox_outputs.proofs.CellLemmas.{first_seen, halved, seen_cut}
use Rattle.ox_outputs.proofs.cell.Cell.halves.Goals as goal

pub returns : goal.returns
returns c =
    let s = c.self.inside.starts.items in
    let n : ℕ = c.len-count.result / 2 in
    let long : c.len-count.result ≡ length c.args.self.now = c.len-count.ensures in
    let half = halved c.len-count.result (subst (λ (q : ℕ). 1 < q) (sym long) c.requires) in
    let whole : length c.deref.result.now ≡ length s = ap (λ (l : StartList). length l) c.deref.ensures.value in
    let seen : length s ≡ length c.args.self.now = ap (λ (l : StartList). length l) c.self.view_is in
    let rest : length c.split_at.result.1.now + n ≡ length c.deref.result.now = c.split_at.ensures.back_len in
    let some : 0 < length c.split_at.result.1.now = omega (arith, whole, seen, rest, long, half.1) in
    let front : c.in_ok-low.low ≡ take n s = c.in_ok-low.ensures ∙ c.split_at.ensures.front ∙ ap (take n) c.deref.ensures.value in
    let high = starts_from c.offset-middle.result c.in_ok-high.high in
    let back : high ≡ drop n s = c.in_ok-high.ensures ∙ c.split_at.ensures.back ∙ ap (drop n) c.deref.ensures.value in
    seen_cut c.args.self.now s c.in_ok-low.low high n c.offset-middle.result c.self.view_is c.self.invariant.0 half.0 (subst (λ (q : ℕ). n < q) long half.1) front back
    (c.offset-middle.ensures ∙ first_seen c.split_at.result.1.now c.index-high-0.result c.index-high-0.is some ∙ ap (λ (l : StartList). first_at l 0) (sym c.in_ok-high.ensures))
