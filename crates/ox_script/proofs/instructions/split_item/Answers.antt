use Rattle.std.proofs.Common.{◌<◌, ◌≤◌, ◌∷◌, length, take, drop, sym, ap, ◌∙◌, arith}
use Rattle.std.proofs.lemmas.List.{drop-drop, length-drop}
use Rattle.ox_script.specs.Script.{Push, width_of, count_of, reach, items_of, is_cut}
use Rattle.ox_script.proofs.ScriptLemmas.{items_of-op, is_cut-op, items_of-short, is_cut-short, items_of-push, is_cut-push}
use Rattle.ox_script.proofs.instructions.split_item.Goals as goal

pub returns-then-op-gt-OP_PUSHDATA4-clause-items : goal.returns-then-op-gt-OP_PUSHDATA4-clause-items
returns-then-op-gt-OP_PUSHDATA4-clause-items c = items_of-op _ _ (omega arith)

pub returns-then-op-gt-OP_PUSHDATA4-clause-whole : goal.returns-then-op-gt-OP_PUSHDATA4-clause-whole
returns-then-op-gt-OP_PUSHDATA4-clause-whole c = is_cut-op _ _ (omega arith)

pub returns-in_err-count-clause-cut : goal.returns-in_err-count-clause-cut
returns-in_err-count-clause-cut c =
    let op = c.args.op in
    let rest = c.args.rest.now in
    let short : length rest < reach op rest = omega (arith, c.in_err-count.ensures.none) in
    rw c.from_residual.ensures (items_of-short op rest (omega arith) short, is_cut-short op rest (omega arith) short)

pub returns-then-count-rest-clause-cut : goal.returns-then-count-rest-clause-cut
returns-then-count-rest-clause-cut c =
    let op = c.args.op in
    let rest = c.args.rest.now in
    let left = ap length c.in_ok-count.ensures.rest ∙ length-drop (width_of op) rest in
    let short : length rest < reach op rest = omega (arith, left, c.in_ok-count.ensures.count, c.in_ok-count.ensures.fits) in
    (items_of-short op rest (omega arith) short, is_cut-short op rest (omega arith) short)

pub returns-clause-items : goal.returns-clause-items
returns-clause-items c =
    let op = c.args.op in
    let rest = c.args.rest.now in
    let left = ap length c.in_ok-count.ensures.rest ∙ length-drop (width_of op) rest in
    let whole : reach op rest ≤ length rest = omega (arith, left, c.in_ok-count.ensures.count, c.in_ok-count.ensures.fits) in
    let after = drop-drop (count_of op rest) (width_of op) rest in
    items_of-push op rest (omega arith) whole ∙ rw (c.split_at.ensures.front, c.split_at.ensures.back, c.in_ok-count.ensures.rest, c.in_ok-count.ensures.count) (ap (λ bytes. Push (take (count_of op rest) (drop (width_of op) rest)) ∷ items_of bytes) (sym after))

pub returns-clause-whole : goal.returns-clause-whole
returns-clause-whole c =
    let op = c.args.op in
    let rest = c.args.rest.now in
    let left = ap length c.in_ok-count.ensures.rest ∙ length-drop (width_of op) rest in
    let whole : reach op rest ≤ length rest = omega (arith, left, c.in_ok-count.ensures.count, c.in_ok-count.ensures.fits) in
    let after = drop-drop (count_of op rest) (width_of op) rest in
    is_cut-push op rest (omega arith) whole ∙ rw (c.split_at.ensures.back, c.in_ok-count.ensures.rest, c.in_ok-count.ensures.count) (ap is_cut (sym after))
