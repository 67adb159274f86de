use Rattle.std.proofs.Common.{◌∙◌, arith}
use Rattle.std.proofs.lemmas.List.{nil_from_length}
use Rattle.ox_ledger.specs.Runes.{place_all}
use Rattle.ox_ledger.specs.Tables.{runes_of}
use Rattle.ox_ledger.proofs.TablesLemmas.{can_next, placed_all, placed_next}
use Rattle.ox_ledger.proofs.tables.Tables.place_all.Goals as goal

pub loop-at-preserved : goal.loop-at-preserved
loop-at-preserved c =
    let items = c.loop-at.at-iterator.rest.items in
    let rest = c.next.new.self.rest.items in
    record {
      whole = placed_next (runes_of c.loop-at.self) (runes_of c.place.new.self) (place_all (runes_of c.args.self.now) c.args.new.items) items rest (c.in-Some.at, c.in-Some.balances) c.loop-at.invariant.whole
          c.in-Some.ensures.steps.0 c.in_ok-place.ensures.ok;
      can = can_next (runes_of c.loop-at.self) (runes_of c.place.new.self) items rest (c.in-Some.at, c.in-Some.balances) c.loop-at.invariant.can c.in-Some.ensures.steps.0 c.in_ok-place.ensures.ok;
      mark = c.place.ensures.mark ∙ c.loop-at.invariant.mark;
    }

pub returns-clause-ok : goal.returns-clause-ok
returns-clause-ok c =
    placed_all (runes_of c.loop-at.self) (place_all (runes_of c.args.self.now) c.args.new.items) c.loop-at.at-iterator.rest.items c.loop-at.invariant.whole
    (nil_from_length c.loop-at.at-iterator.rest.items (omega (arith, c.in-None.ensures.steps.0, c.loop-at.at-iterator.rest.ok.0)))
