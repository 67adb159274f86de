use Rattle.std.proofs.Common.{length, ◌∙◌, ap, arith}
use Rattle.ox_block.specs.Hashes.{root_of, next_row}
use Rattle.ox_block.proofs.RowsOfHashes.{length-paired, root_above, root_only, is_root}
use Rattle.ox_block.proofs.roots.root_of_row.Goals as goal

pub returns-then-hashes-eq1 : goal.returns-then-hashes-eq1
returns-then-hashes-eq1 c = root_only c.args.hashes.now (omega arith)

pub rows-init : goal.rows-init
rows-init c =
    let less = length-paired c.args.hashes.now in
    let many = ap (λ (xs : _). length xs) c.in_ok-row.ensures in
    (omega (arith, less.0, less.1, many), ap root_of c.in_ok-row.ensures ∙ root_above c.args.hashes.now (omega arith))

pub rows-smaller : goal.rows-smaller
rows-smaller c =
    let less = length-paired c.rows.row.items in
    let many = ap (λ (xs : _). length xs) (c.in_ok-row-2.ensures ∙ ap next_row c.deref.ensures.value) in
    omega (arith, less.0, less.1, many)

pub rows-preserved : goal.rows-preserved
rows-preserved c =
    let less = length-paired c.rows.row.items in
    let is = c.in_ok-row-2.ensures ∙ ap next_row c.deref.ensures.value in
    let many = ap (λ (xs : _). length xs) is in
    (omega (arith, less.0, less.1, many), ap root_of is ∙ root_above c.rows.row.items (omega arith) ∙ c.rows.invariant.1)

pub returns : goal.returns
returns c = is_root c.rows.row.items c.args.hashes.now c.index.result.now c.rows.invariant.0 (omega arith) c.index.ensures c.rows.invariant.1
