use Rattle.std.proofs.Common.{◌≡◌, ◌∙◌, ◌++◌, ap, arith, drop, length, length-drop, take_all, ◌-◌}
use Rattle.ox_range.proofs.CutLemmas.{joined_items}
use Rattle.ox_range.proofs.joins.extend_joined.Goals as goal

pub returns-clause-items : goal.returns-clause-items
returns-clause-items c =
    let seam : c.len-seam.result - 1 ≡ length c.args.runs.now.items - 1 = omega (arith, c.len-seam.ensures) in
    let behind = take_all (length c.args.tail.now - 1) (drop 1 c.args.tail.now) (omega (arith, length-drop 1 c.args.tail.now)) in
    let items : c.extend_from_slice.new.self.items ≡ c.args.runs.now.items ++ drop 1 c.args.tail.now = c.in_ok-extend_from_slice.ensures.items ∙ ap (λ xs. c.args.runs.now.items ++ xs) behind in
    rw seam (joined_items c.args.runs.now.items c.args.tail.now c.extend_from_slice.new.self.items c.index_mut.result.now c.requires.meets items (rw seam at c.index_mut.ensures.value))
