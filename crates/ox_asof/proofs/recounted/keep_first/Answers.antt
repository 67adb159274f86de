use Rattle.std.proofs.Common.{◌+◌, take}
use Rattle.std.specs.BTreeMap.{get}
use Rattle.std.specs.Option.{option_or}
use Rattle.std.specs.Ordering.{nat_cmp}
use Rattle.std.proofs.lemmas.List.{take_more}
use Rattle.ox_ledger.specs.declared.part.CountChange.{CountChange}
use Rattle.ox_asof.specs.Past.{counted_before}
use Rattle.ox_asof.proofs.Recounting.{one_further, recounted_alike}
use Rattle.ox_asof.proofs.recounted.keep_first.Goals as goal

-- stands for the change behind the last
none : CountChange
none = record { place = 0; before = record { mints = 0; burned = 0 }; after = record { mints = 0; burned = 0 } }

pub loop-change-preserved : goal.loop-change-preserved
unfolding none
loop-change-preserved g c = λ counts are.
    let changes = c.args.changes.now in
    let n = c.loop-change.change-index in
    recounted_alike (g.V.View.index c.args.view.now).runes c.args.end _ (λ place. option_or (counts place) (counted_before (take (n + 1) changes) place)) (get nat_cmp c.keep_one.new.rows)
    (λ place. one_further counts (take n changes) (take (n + 1) changes) _ place (take_more changes n none c.loop-change-test.true))
    (c.in_ok-keep_one.ensures (λ place. option_or (counts place) (counted_before (take n changes) place)) (c.loop-change.invariant counts are))
