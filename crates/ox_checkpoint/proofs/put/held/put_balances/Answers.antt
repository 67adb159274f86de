use Rattle.std.proofs.Common.{◌∙◌, ◌<◌, ◌^◌, ◌++◌, List, ℕ, length, ap, subst}
use Rattle.std.specs.Prelude.{All}
use Rattle.std.specs.FinMap.{entries}
use Rattle.std.specs.Int.{w32, to_le_bytes}
use Rattle.std.specs.List.{flat_map}
use Rattle.std.proofs.lemmas.Result.{on_ok_weaker}
use Rattle.ox_block.specs.declared.block.OutPoint.{OutPoint}
use Rattle.ox_rules.specs.declared.rows.OutRow.{OutRow}
use Rattle.ox_ledger.specs.Runes.{Placement}
use Rattle.ox_index.specs.Live.{index_in, profile_in}
use Rattle.ox_rows.specs.RowFits.{FitsPlacement}
use Rattle.ox_rows.specs.RowSpelling.{placement}
use Rattle.ox_checkpoint.specs.Held.{held_at}
use Rattle.ox_checkpoint.proofs.HeldLemmas.{held_count, held_fit, held_is, held_rows}
use Rattle.ox_checkpoint.proofs.PutLemmas.{none_fit, none_listed}
use Rattle.ox_checkpoint.proofs.PutsLemmas.{puts_as, puts_rows, puts_then}
use Rattle.ox_checkpoint.proofs.put.held.put_balances.Goals as goal

pub returns-then-count-eq0-clause-put : goal.returns-then-count-eq0-clause-put
returns-then-count-eq0-clause-put g c =
    let live = c.args.live.now in
    let holds = g.K.Sink.holds in
    let went = g.K.Sink.went in
    let held = entries (index_in live).bal in
    let count = c.count_held-count.result in
    let long = held_count (profile_in live) (index_in live) c.args.order.now count live.sound c.requires.order c.count_held-count.ensures in
    let none = g.met.K.Sink.no_call c.args.sink.now c.args.world.now c.requires.taken.0 c.requires.taken.1 in
    puts_as holds went (none_listed placement held count long c.if-count-eq0.true) (puts_rows holds went _ c.args.sink.now c.args.world.now c.args.buffer.now.rows _ none c.in_ok-put_count.ensures.ok)

pub returns-then-count-eq0-clause-fits : goal.returns-then-count-eq0-clause-fits
returns-then-count-eq0-clause-fits g c =
    let live = c.args.live.now in
    let held = entries (index_in live).bal in
    let count = c.count_held-count.result in
    let long = held_count (profile_in live) (index_in live) c.args.order.now count live.sound c.requires.order c.count_held-count.ensures in
    (subst (λ n. n < 2 ^ 32) long c.in_ok-put_count.ensures.fits, none_fit FitsPlacement held count long c.if-count-eq0.true)

pub returns-clause-put : goal.returns-clause-put
returns-clause-put g c =
    let live = c.args.live.now in
    let holds = g.K.Sink.holds in
    let went = g.K.Sink.went in
    let bal = (index_in live).bal in
    let order = c.args.order.now in
    let count = c.count_held-count.result in
    let all = held_is (profile_in live) (index_in live) order live.sound c.requires.order in
    let long = held_count (profile_in live) (index_in live) order count live.sound c.requires.order c.count_held-count.ensures in
    let rows = flat_map (λ (placed : OutPoint × OutRow). flat_map placement (held_at bal placed)) order in
    let same = ap (λ (n : ℕ). to_le_bytes w32 n ++ rows) long
    ∙ ap (λ (l : List ℕ). to_le_bytes w32 (length (entries bal)) ++ l) (held_rows bal order ∙ ap (λ (l : List Placement). flat_map placement l) all) in
    let none = g.met.K.Sink.no_call c.args.sink.now c.args.world.now c.requires.taken.0 c.requires.taken.1 in
    let counted = puts_rows holds went _ c.args.sink.now c.args.world.now c.args.buffer.now.rows _ none c.in_ok-put_count.ensures.ok in
    on_ok_weaker c.put_rows.result (λ put. puts_as holds went same (puts_then holds went g.met.K.Sink.then_went _ _ counted put)) c.put_rows.ensures.put

pub returns-clause-fits : goal.returns-clause-fits
returns-clause-fits g c =
    let live = c.args.live.now in
    let bal = (index_in live).bal in
    let order = c.args.order.now in
    let all = held_is (profile_in live) (index_in live) order live.sound c.requires.order in
    let long = held_count (profile_in live) (index_in live) order c.count_held-count.result live.sound c.requires.order c.count_held-count.ensures in
    on_ok_weaker c.put_rows.result (λ fit. (subst (λ n. n < 2 ^ 32) long c.in_ok-put_count.ensures.fits, subst (All FitsPlacement) all (held_fit bal order fit))) c.put_rows.ensures.fits
