use Rattle.std.proofs.Common.{◌≢◌, ◌∙◌, ◌++◌, ◌<◌, [], ap, false, length, subst, sym, List}
use Rattle.std.specs.Prelude.{All}
use Rattle.std.proofs.lemmas.List.Elements.{All-from_recursion}
use Rattle.ox_etching.specs.declared.row.RuneRow.{RuneRow}
use Rattle.ox_ledger.specs.Balanced.{AreDistinct}
use Rattle.ox_ledger.specs.Part.{CountChange, counts_at, rows_at_end}
use Rattle.ox_ledger.specs.Runes.{Placement, Runes}
use Rattle.ox_ledger.specs.Tables.{runes_of}
use Rattle.ox_ledger.proofs.PartMoves.{begins_distinct, begins_filled, begins_within}
use Rattle.ox_ledger.proofs.tables.Tables.again.Goals as goal

pub exchange-requires : goal.exchange-requires
exchange-requires c =
    subst (λ (l : List Placement). All (λ (new : Placement). new.1 ≢ []) l) (sym c.as_slice-2.ensures) (begins_filled c.args.part.now (runes_of c.args.self.now) c.requires)

pub recount_all-requires : goal.recount_all-requires
recount_all-requires c =
    let rows = ap (λ (s : Runes). s.runes) c.in_ok-exchange.ensures.ok in
    subst (λ (l : List CountChange). All (λ (change : CountChange). change.place < length c.exchange.new.self.runes.now) l) (sym c.as_slice-3.ensures)
    (subst (λ (r : List RuneRow). All (λ (change : CountChange). change.place < length r) c.args.part.now.counts) (sym rows)
    (All-from_recursion (λ (change : CountChange). change.place < length c.args.self.now.runes.now) c.args.part.now.counts (begins_within c.args.part.now (runes_of c.args.self.now) c.requires)))

pub push_all-requires-clause-ids : goal.push_all-requires-clause-ids
push_all-requires-clause-ids c =
    let rows = ap (λ (s : Runes). s.runes) c.in_ok-exchange.ensures.ok in
    let is = ap (λ r. r.now) c.in_ok-recount_all.ensures.ok ∙ (λ i. rows_at_end (counts_at false) (c.as_slice-3.ensures i) 0 (rows i)) in
    subst (λ (l : List RuneRow). AreDistinct (λ row. row.id) (c.recount_all.new.self.now ++ l)) (sym c.as_slice-4.ensures)
    (begins_distinct (λ row. row.id) c.args.part.now (runes_of c.args.self.now) c.requires c.recount_all.new.self.now is c.requires.balanced.ids)

pub push_all-requires-clause-names : goal.push_all-requires-clause-names
push_all-requires-clause-names c =
    let rows = ap (λ (s : Runes). s.runes) c.in_ok-exchange.ensures.ok in
    let is = ap (λ r. r.now) c.in_ok-recount_all.ensures.ok ∙ (λ i. rows_at_end (counts_at false) (c.as_slice-3.ensures i) 0 (rows i)) in
    subst (λ (l : List RuneRow). AreDistinct (λ row. row.name) (c.recount_all.new.self.now ++ l)) (sym c.as_slice-4.ensures)
    (begins_distinct (λ row. row.name) c.args.part.now (runes_of c.args.self.now) c.requires c.recount_all.new.self.now is c.requires.balanced.names)
