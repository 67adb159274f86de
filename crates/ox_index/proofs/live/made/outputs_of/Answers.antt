use Rattle.std.proofs.Common.{◌∙◌, List, subst}
use Rattle.std.specs.FinMap.{from_entries}
use Rattle.ox_block.specs.declared.block.OutPoint.{OutPoint}
use Rattle.ox_rules.specs.Outputs.{Outputs}
use Rattle.ox_rules.specs.declared.rows.OutRow.{OutRow}
use Rattle.ox_outputs.specs.Table.{rows_in}
use Rattle.ox_index.proofs.Emptying.{Parted, all_left, all_placed, gone_from, next_may, none_taken, one_placed}
use Rattle.ox_index.proofs.live.made.outputs_of.Goals as goal

pub loop-at-init : goal.loop-at-init
loop-at-init c = all_left c.args.rows.entries (rows_in c.new-outputs.result) c.new-outputs.ensures.rows

pub place-requires : goal.place-requires
place-requires c =
    let all : Outputs = from_entries c.args.rows.entries in
    let placed = rows_in c.loop-at.outputs in
    next_may all placed c.in-Some.at c.in-Some.row c.pop_first.new.self.entries (subst (λ (es : List (OutPoint × OutRow)). Parted all placed es) c.in-Some.ensures.removal c.loop-at.invariant) c.requires

pub loop-at-preserved : goal.loop-at-preserved
loop-at-preserved c =
    let all : Outputs = from_entries c.args.rows.entries in
    let placed = rows_in c.loop-at.outputs in
    let left = c.pop_first.new.self.entries in
    one_placed all placed c.in-Some.at c.in-Some.row left (subst (λ (es : List (OutPoint × OutRow)). Parted all placed es) c.in-Some.ensures.removal c.loop-at.invariant)
    (rows_in c.place.new.self) (gone_from c.in-Some.at left _ (c.in-Some.ensures.updates.0 c.in-Some.at)) c.in_ok-place.ensures.ok

pub returns : goal.returns
returns c =
    let all : Outputs = from_entries c.args.rows.entries in
    let placed = rows_in c.loop-at.outputs in
    let none = none_taken c.loop-at.rows.entries (λ some. cc (c.in_default.ensures.variant.1 some)) in
    c.in_ok-begin.ensures.rows ∙ all_placed all placed (subst (λ (es : List (OutPoint × OutRow)). Parted all placed es) none c.loop-at.invariant)
