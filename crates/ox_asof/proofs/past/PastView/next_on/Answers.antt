use Rattle.std.proofs.Common.{refl, ap, arith}
use Rattle.ox_asof.specs.Undone.{undone_by}
use Rattle.ox_asof.specs.declared.lengths.Lengths.{Lengths}
use Rattle.ox_asof.proofs.Numbering.{on_rises}
use Rattle.ox_asof.proofs.Undoing.{inscriptions_front}
use Rattle.ox_asof.proofs.Walking.{all_on, empty_is, found_first, further_on, low_on, none_further, none_next, room, some_is}
use Rattle.ox_asof.proofs.past.PastView.next_on.Goals as goal

pub loop-found-init : goal.loop-found-init
loop-found-init g c = record { low = omega arith; none = λ s above less. absurd (omega (arith, above, less)) }

pub numbers_below-numbers-requires : goal.numbers_below-numbers-requires
numbers_below-numbers-requires g c =
    let past = c.args.self.now in
    let index = g.V.View.index past.view.now in
    on_rises index.inscriptions c.in-Some.found c.in-Some.all.now
    (all_on (undone_by index past.undone).inscriptions index.inscriptions past.lengths.inscriptions c.args.sat (inscriptions_front index past.undone) (ap (λ (l : Lengths). l.inscriptions) past.counted)
    c.loop-found.from c.in-Some.found c.in-Some.all.now c.loop-found.invariant.low c.loop-found.invariant.none c.in-Some.ensures)

pub returns-then-not-is_empty : goal.returns-then-not-is_empty
returns-then-not-is_empty g c =
    let past = c.args.self.now in
    let index = g.V.View.index past.view.now in
    found_first (undone_by index past.undone).inscriptions index.inscriptions past.lengths.inscriptions c.args.sat (inscriptions_front index past.undone) (ap (λ (l : Lengths). l.inscriptions) past.counted)
    c.loop-found.from c.in-Some.found c.in-Some.all.now c.loop-found.invariant.low c.loop-found.invariant.none c.in-Some.ensures
    c.numbers_below-numbers.result.now c.numbers_below-numbers.ensures (some_is c.numbers_below-numbers.result.now c.is_empty.result c.is_empty.ensures c.if-not-is_empty.true)

pub overflow_add-from : goal.overflow_add-from
overflow_add-from g c =
    let past = c.args.self.now in
    let index = g.V.View.index past.view.now in
    let fits = room (undone_by index past.undone).inscriptions index.inscriptions past.lengths.inscriptions c.args.sat (inscriptions_front index past.undone) (ap (λ (l : Lengths). l.inscriptions) past.counted)
    c.loop-found.from c.in-Some.found c.in-Some.all.now c.loop-found.invariant.low c.loop-found.invariant.none c.in-Some.ensures
    (g.V.View.chain past.view.now) index (g.met.V.View.known past.view.now) (g.met.V.View.sound past.view.now) refl in
    omega (arith, fits)

pub loop-found-smaller : goal.loop-found-smaller
loop-found-smaller g c =
    let past = c.args.self.now in
    let index = g.V.View.index past.view.now in
    let fits = room (undone_by index past.undone).inscriptions index.inscriptions past.lengths.inscriptions c.args.sat (inscriptions_front index past.undone) (ap (λ (l : Lengths). l.inscriptions) past.counted)
    c.loop-found.from c.in-Some.found c.in-Some.all.now c.loop-found.invariant.low c.loop-found.invariant.none c.in-Some.ensures
    (g.V.View.chain past.view.now) index (g.met.V.View.known past.view.now) (g.met.V.View.sound past.view.now) refl in
    let further = further_on (undone_by index past.undone).inscriptions index.inscriptions past.lengths.inscriptions c.args.sat (inscriptions_front index past.undone) (ap (λ (l : Lengths). l.inscriptions) past.counted)
    c.loop-found.from c.in-Some.found c.in-Some.all.now c.loop-found.invariant.low c.loop-found.invariant.none c.in-Some.ensures in
    omega (arith, fits, further)

pub loop-found-preserved : goal.loop-found-preserved
loop-found-preserved g c =
    let past = c.args.self.now in
    let index = g.V.View.index past.view.now in
    let low = low_on (undone_by index past.undone).inscriptions index.inscriptions past.lengths.inscriptions c.args.sat (inscriptions_front index past.undone) (ap (λ (l : Lengths). l.inscriptions) past.counted)
    c.loop-found.from c.in-Some.found c.in-Some.all.now c.loop-found.invariant.low c.loop-found.invariant.none c.in-Some.ensures in
    record {
      low = omega (arith, low);
      none = none_further (undone_by index past.undone).inscriptions index.inscriptions past.lengths.inscriptions c.args.sat (inscriptions_front index past.undone) (ap (λ (l : Lengths). l.inscriptions) past.counted)
          c.loop-found.from c.in-Some.found c.in-Some.all.now c.loop-found.invariant.low c.loop-found.invariant.none c.in-Some.ensures
          c.numbers_below-numbers.result.now c.numbers_below-numbers.ensures (empty_is c.numbers_below-numbers.result.now c.is_empty.result c.is_empty.ensures c.if-not-is_empty.false);
    }

pub returns : goal.returns
returns g c =
    let past = c.args.self.now in
    let index = g.V.View.index past.view.now in
    none_next (undone_by index past.undone).inscriptions index.inscriptions past.lengths.inscriptions c.args.sat (inscriptions_front index past.undone) (ap (λ (l : Lengths). l.inscriptions) past.counted)
    c.loop-found.from c.loop-found.invariant.none c.in_default.ensures
