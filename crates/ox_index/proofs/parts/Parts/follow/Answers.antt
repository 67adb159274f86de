use Rattle.std.proofs.Common.{◌≡◌, ◌∙◌, List, length, sym, ap, subst, arith, length-append, Option}
use Rattle.ox_inscribe.proofs.MoveLaws.{transfer_moves}
use Rattle.ox_inscribe.specs.declared.row.InsRow.{InsRow}
use Rattle.ox_ledger.proofs.BlockStays.{nothing_due}
use Rattle.ox_ledger.proofs.GoOnLemmas.{runes_go_on}
use Rattle.ox_ledger.specs.Ledger.{mark_in, runes_in}
use Rattle.ox_ledger.specs.Part.{Continues}
use Rattle.ox_ledger.specs.Runes.{Runes}
use Rattle.ox_sat.specs.declared.profiles.Profile.{Profile}
use Rattle.ox_outputs.specs.Table.{rows_in}
use Rattle.ox_transfer.specs.Parts.{transferred_of}
use Rattle.ox_index.specs.Held.{Held, IsTold, NoneOf, held_then}
use Rattle.ox_index.specs.Parts.{held_in, mark_of}
use Rattle.std.proofs.lemmas.Result.{IfOk-weaker}
use Rattle.ox_inscribe.specs.Reveal.{reveal_of}
use Rattle.ox_ledger.specs.Block.{runes_after}
use Rattle.ox_outputs.specs.Table.{marked_in}
use Rattle.ox_index.proofs.Marks.{marked_some, same_held, undue_either}
use Rattle.ox_index.proofs.Told.{taken_by}
use Rattle.ox_index.proofs.parts.Parts.follow.Goals as goal

pub reveal-requires : goal.reveal-requires
reveal-requires c =
    let self = c.args.self.now in
    transfer_moves self.profile c.args.height c.args.block.now.txs c.requires.moved.outs (transferred_of c.args.moved (rows_in self.outputs)) c.requires.moved.moves

pub move_runes-requires-clause-none : goal.move_runes-requires-clause-none
move_runes-requires-clause-none c =
    let self = c.args.self.now in
    subst (λ (p : Profile). NoneOf p c.args.height (runes_in self.ledger).runes) (sym self.counted) c.requires.none

pub invariant_of-self-2 : goal.invariant_of-self-2
invariant_of-self-2 c =
    let self = c.args.self.now in
    let p = self.ledger.profile in
    let txs = c.args.block.now.txs in
    let moved = c.args.moved.txs in
    let old = runes_in self.ledger in record {
      known = self.known;
      counted = c.move_runes.ensures.profile ∙ self.counted;
      numbered = c.reveal.ensures.jubilee ∙ self.numbered;
      undue = undue_either c.move_runes.result (mark_in self.ledger) (runes_after p c.args.height txs moved old) (runes_in c.move_runes.new.ledger)
          c.move_runes.ensures.ok c.move_runes.ensures.err (nothing_due p c.args.height txs moved old) self.undue_then;
      undue_then = λ x is. self.undue_then x (sym c.move_runes.ensures.mark ∙ is);
    }

pub changed-requires-clause-marked : goal.changed-requires-clause-marked
changed-requires-clause-marked c =
    let self = c.args.self.now in
    marked_some _ _ ((λ i. held_then (marked_in self.outputs) (c.reveal.ensures.mark i) (c.move_runes.ensures.mark i)) ∙ c.requires.moved.marked)

pub changed-requires-clause-from : goal.changed-requires-clause-from
changed-requires-clause-from c =
    omega (arith, c.len-before.ensures, ap (λ (l : List InsRow). length l) c.in_ok-reveal.ensures.rows, length-append c.args.self.now.shelf.rows (reveal_of c.args.self.now.shelf.rows c.args.height c.args.block.now.txs c.args.moved.txs))

pub changed-requires-clause-continues : goal.changed-requires-clause-continues
changed-requires-clause-continues c =
    let self = c.args.self.now in
    let marked = (λ i. held_then (marked_in self.outputs) (c.reveal.ensures.mark i) (c.move_runes.ensures.mark i)) ∙ c.requires.moved.marked in
    let on : Continues (runes_in self.ledger).runes (runes_in c.move_runes.new.ledger).runes =
    subst (λ (r : Runes). Continues (runes_in self.ledger).runes r.runes) (sym c.in_ok-move_runes.ensures.ok)
    (runes_go_on.block self.ledger.profile c.args.height c.args.block.now.txs c.args.moved.txs (runes_in self.ledger)) in
    λ before is. subst (λ (h : Held). Continues h.runes.runes (runes_in c.move_runes.new.ledger).runes) (same_held _ before (sym marked ∙ is)) on

pub returns-clause-ok : goal.returns-clause-ok
returns-clause-ok c =
    let self = c.args.self.now in
    let same_mark : held_then (marked_in self.outputs) c.reveal.new.self.mark (mark_in c.move_runes.new.ledger) ≡ mark_of self = λ i. held_then (marked_in self.outputs) (c.reveal.ensures.mark i) (c.move_runes.ensures.mark i) in
    let now : Held = record { outs = rows_in self.outputs; inscriptions = c.reveal.new.self.rows; runes = runes_in c.move_runes.new.ledger } in
    IfOk-weaker c.changed.result _ _
    (λ change told before is.
    taken_by self.profile c.args.height c.args.block.now c.args.moved (mark_of self) (held_in self) before c.reveal.new.self.rows (runes_in c.move_runes.new.ledger) c.len-before.result change
    c.requires.moved is c.in_ok-reveal.ensures.rows
    (subst (λ (p : Profile). runes_in c.move_runes.new.ledger ≡ runes_after p c.args.height c.args.block.now.txs c.args.moved.txs (runes_in self.ledger)) self.counted c.in_ok-move_runes.ensures.ok)
    c.len-before.ensures c.hash.ensures
    (subst (λ (m : Option Held). IsTold m now c.hash.result c.args.moved.lost c.len-before.result change) same_mark told))
    c.changed.ensures
