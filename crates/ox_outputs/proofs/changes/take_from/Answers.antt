use Rattle.std.proofs.Common.{◌≡◌, ◌∙◌, ℕ, ap, refl, Option, None}
use Rattle.std.specs.FinMap as map
use Rattle.ox_block.specs.declared.block.OutPoint.{OutPoint}
use Rattle.ox_rules.specs.Outputs.{Outputs}
use Rattle.ox_outputs.specs.Located.{LeadTo}
use Rattle.ox_outputs.specs.Locator.{live_at}
use Rattle.ox_outputs.specs.Slots.{SlotList, outpoint_at, rows_of, put_slot}
use Rattle.ox_outputs.proofs.SlotLemmas.{get-put_slot}
use Rattle.ox_outputs.proofs.RowLemmas.{leave_rows, runs_alike, stay_same}
use Rattle.ox_outputs.proofs.changes.take_from.Goals as goal

-- the starts lead to all runs where the slot at an outpoint is emptied
less_led : (live live' : ℕ → Option ℕ) (slots slots' : SlotList) (at : OutPoint) → LeadTo live slots (rows_of slots) → ((q : ℕ) → live' q ≡ live q) → rows_of slots' ≡ put_slot (rows_of slots) at None → ((p : ℕ) → outpoint_at slots' p ≡ outpoint_at slots p) → LeadTo live' slots' (rows_of slots')
less_led live live' slots slots' at lead same rows places =
    let less = rows_of slots' in
    runs_alike live live' slots slots' less less
    (leave_rows live slots (rows_of slots) less at lead (λ q. ap (λ (o : Outputs). map.get o q) rows ∙ get-put_slot (rows_of slots) at None q))
    same (stay_same less slots slots' places) refl

pub returns-in-Some-clause-runs : goal.returns-in-Some-clause-runs
returns-in-Some-clause-runs c =
    let at = c.args.spot.at in
    less_led (live_at c.args.locator.now) (live_at c.leave.new.self) c.args.slots.now c.exchange-taken.new.self at c.requires.runs c.leave.ensures.live (c.exchange-taken.ensures.rows at c.requires.spot) c.exchange-taken.ensures.places

pub returns-in_default-clause-runs : goal.returns-in_default-clause-runs
returns-in_default-clause-runs c =
    let at = c.args.spot.at in
    less_led (live_at c.args.locator.now) (live_at c.args.locator.now) c.args.slots.now c.exchange-taken.new.self at c.requires.runs (λ q. refl) (c.exchange-taken.ensures.rows at c.requires.spot) c.exchange-taken.ensures.places
