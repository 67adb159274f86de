use Rattle.std.proofs.Common.{ap, arith}
use Rattle.std.specs.BTreeMap.{get}
use Rattle.std.specs.Ordering.{nat_cmp}
use Rattle.ox_asof.specs.declared.lengths.Lengths.{Lengths}
use Rattle.ox_asof.proofs.Showing.{kept_shown, same_shown, shown_within}
use Rattle.ox_asof.proofs.past.PastView.rune.Goals as goal

pub rune-requires : goal.rune-requires
rune-requires g c =
    let past = c.args.self.now in
    omega (arith, c.requires, shown_within past.has_runes (g.V.View.index past.view.now) past.undone)

pub returns-in-Some : goal.returns-in-Some
returns-in-Some g c =
    let past = c.args.self.now in
    kept_shown past.has_runes (g.V.View.index past.view.now) past.undone past.lengths.runes c.args.n (get nat_cmp past.rows) (ap (λ (l : Lengths). l.runes) past.counted) past.recounted c.requires
    c.in-Some.row.now c.in-Some.ensures.value

pub returns-in-None : goal.returns-in-None
returns-in-None g c =
    let past = c.args.self.now in
    same_shown past.has_runes (g.V.View.index past.view.now) past.undone past.lengths.runes c.args.n (get nat_cmp past.rows) (ap (λ (l : Lengths). l.runes) past.counted) past.recounted c.requires
    c.rune.result.now c.in-None.ensures.value c.rune.ensures
