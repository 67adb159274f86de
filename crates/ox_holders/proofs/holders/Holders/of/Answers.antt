use Rattle.std.proofs.Common.{◌∙◌, ◌<◌, ◌≤◌, List, length, ap, sym, arith}
use Rattle.std.proofs.lemmas.List.{take_all}
use Rattle.ox_block.specs.declared.block.OutPoint.{OutPoint}
use Rattle.ox_rules.specs.declared.rows.OutRow.{OutRow}
use Rattle.ox_holders.specs.Keys.{is_in}
use Rattle.ox_holders.proofs.Rows.{empty-has, in-table}
use Rattle.ox_holders.proofs.Steps.{none-in, none_past, of_next}
use Rattle.ox_holders.proofs.holders.Holders.of.Goals as goal
use Rattle.ox_holders.proofs.holders.Holders.of.Goals.{in-Some+in_ok-put, in_default}

pub loop-n-init : goal.loop-n-init
loop-n-init c = λ script place.
    c.new-holders.ensures.each script place ∙ empty-has script place ∙ sym (none-in script place)

pub loop-n-preserved : goal.loop-n-preserved
loop-n-preserved c = λ script place.
    let rows : List (OutPoint × OutRow) = c.args.rows.now in
    let low : c.loop-n.n < length rows = omega arith in
    elim c.match-get.branch [
      | in-Some+in_ok-put w ↦
          rw w.holders-is (of_next _ _ rows c.loop-n.n (w.in-Some.at.now, w.in-Some.row.now) script place low (sym w.in-Some.ensures)
          (w.in_ok-put.ensures script place) (c.loop-n.invariant script place))
      | in_default w ↦ absurd (none_past rows c.loop-n.n (sym w.in_default.ensures) low)
    ]

pub returns : goal.returns
returns c = λ outs is. record {
  each = λ script at.
      let all : length c.args.rows.now ≤ c.loop-n.n = omega arith in
      c.loop-n.invariant script at
      ∙ ap (λ rows. is_in rows script at) (take_all c.loop-n.n c.args.rows.now all ∙ is)
      ∙ in-table outs script at;
}
