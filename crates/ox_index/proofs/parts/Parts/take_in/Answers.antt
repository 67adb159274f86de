use Rattle.std.proofs.Common.{◌≡◌, ◌∙◌, sym, ap, subst, Some}
use Rattle.ox_ledger.specs.Ledger.{mark_in, runes_in}
use Rattle.ox_ledger.specs.Runes.{Runes}
use Rattle.std.specs.Prelude.{List}
use Rattle.std.proofs.lemmas.Result.{err_from_is_err_and}
use Rattle.ox_inscribe.specs.declared.row.InsRow.{InsRow}
use Rattle.ox_outputs.specs.Table.{marked_in, rows_in}
use Rattle.ox_index.specs.Held.{NoneOf, held_then}
use Rattle.ox_index.specs.Parts.{held_in, mark_of}
use Rattle.ox_index.proofs.Marks.{marked_some, same_held, undue_begun}
use Rattle.ox_rules.specs.Outputs.{Outputs as Rows}
use Rattle.ox_rules.specs.Transfer.{transfer_of}
use Rattle.ox_rules.specs.Why.{Refuses}
use Rattle.ox_index.proofs.parts.Parts.take_in.Goals as goal

pub invariant_of-self : goal.invariant_of-self
invariant_of-self c =
    let self = c.args.self.now in record {
      known = self.known;
      counted = c.begin-2.ensures.profile ∙ self.counted;
      numbered = c.begin.ensures.jubilee ∙ self.numbered;
      undue = ap (λ (r : Runes). r.due) c.begin-2.ensures.runes ∙ self.undue;
      undue_then = undue_begun (mark_in c.begin-2.new.self) (runes_in self.ledger) c.begin-2.ensures.mark self.undue;
    }

pub follow-requires-clause-moved : goal.follow-requires-clause-moved
follow-requires-clause-moved c =
    let self = c.args.self.now in record {
      outs = rows_in c.expect.new.self;
      marked =
          let rows = c.begin.ensures.mark ∙ ap (λ (r : List InsRow). Some r) (sym c.begin.ensures.rows) in
          let runes = c.begin-2.ensures.mark ∙ ap (λ (r : Runes). Some r) (sym c.begin-2.ensures.runes) in
          λ i. held_then (c.in_ok-moved.ensures.mark i) (rows i) (runes i);
      moves = c.in_ok-moved.ensures.moved;
    }

pub follow-requires-clause-none : goal.follow-requires-clause-none
follow-requires-clause-none c =
    subst (λ (r : Runes). NoneOf c.args.self.now.profile c.args.height r.runes) (sym c.begin-2.ensures.runes) c.requires.none

pub cancel-requires : goal.cancel-requires
cancel-requires c =
    let marked : held_then (marked_in c.transfer.new.table) c.begin.new.self.mark (mark_in c.begin-2.new.self) ≡ Some (held_in c.args.self.now) = λ i. held_then ((c.in_ok-moved.ensures.mark ∙ ap (λ (r : Rows). Some r) c.expect.ensures.rows) i) (c.begin.ensures.mark i) (c.begin-2.ensures.mark i) in
    marked_some (mark_of c.follow.new.self) (held_in c.args.self.now) (c.follow.ensures.mark ∙ marked)

pub returns-in_err-moved-clause-refused : goal.returns-in_err-moved-clause-refused
returns-in_err-moved-clause-refused c =
    let self = c.args.self.now in
    let p = err_from_is_err_and c.from_residual.result c.from_residual.ensures.1 in
    let refused = subst (λ (r : Rows). Refuses c.in_err-moved.field-0.0 (transfer_of self.profile c.args.height c.args.block.now.txs r)) c.expect.ensures.rows c.in_err-moved.ensures.refused in
    rw (p.1, p.2) refused

pub returns-in-Ok-clause-ok : goal.returns-in-Ok-clause-ok
returns-in-Ok-clause-ok c =
    c.in-Ok.ensures.ok (held_in c.args.self.now) (λ i. held_then ((c.in_ok-moved.ensures.mark ∙ ap (λ (r : Rows). Some r) c.expect.ensures.rows) i) (c.begin.ensures.mark i) (c.begin-2.ensures.mark i))

pub returns-in-Ok-clause-mark : goal.returns-in-Ok-clause-mark
returns-in-Ok-clause-mark c =
    c.follow.ensures.mark ∙ (λ i. held_then ((c.in_ok-moved.ensures.mark ∙ ap (λ (r : Rows). Some r) c.expect.ensures.rows) i) (c.begin.ensures.mark i) (c.begin-2.ensures.mark i))

pub returns-in-Err-clause-err : goal.returns-in-Err-clause-err
returns-in-Err-clause-err c =
    let marked = c.follow.ensures.mark ∙ (λ i. held_then ((c.in_ok-moved.ensures.mark ∙ ap (λ (r : Rows). Some r) c.expect.ensures.rows) i) (c.begin.ensures.mark i) (c.begin-2.ensures.mark i)) in
    same_held (held_in c.cancel.new.self) (held_in c.args.self.now) (c.cancel.ensures.held ∙ marked)
