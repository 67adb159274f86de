-- What outputs hold that count once each fits: no more than all satoshis, and of each rune no more
-- than all outputs hold of it.
use Rattle.std.proofs.Common.{◌≡◌, ◌∙◌, ℕ, ◌+◌, ◌^◌, ◌<◌, List, [], ◌∷◌, length, length-append, map, refl, sym, ap, ap₂, arith, Option, Some, None}
use Rattle.std.specs.Prelude.{unwrap_or}
use Rattle.std.specs.List.{cons_option, fold}
use Rattle.std.specs.List.Sorted.{IsStrictlySortedBy}
use Rattle.std.specs.Option.{option_map_or}
use Rattle.std.specs.FinMap.{entries, get}
use Rattle.ox_block.specs.declared.block.OutPoint.{OutPoint}
use Rattle.ox_sat.specs.Profiles.{IsProfile}
use Rattle.ox_sat.specs.declared.profiles.Profile.{Profile}
use Rattle.ox_sat.proofs.Epochs.{counts, first_most}
use Rattle.ox_rules.specs.Outputs.{Outputs, outpoint_cmp, sats_of}
use Rattle.ox_rules.specs.declared.rows.OutRow.{OutRow}
use Rattle.ox_rules.proofs.MapSums.{total}
use Rattle.ox_rules.proofs.Orders.{outpoints_exact, outpoints_total}
use Rattle.ox_runestone.specs.declared.stone.RuneId.{RuneId}
use Rattle.ox_allocation.specs.Balances.{Balance, amount_in}
use Rattle.ox_ledger.specs.Balanced.{amount_held}
use Rattle.ox_ledger.specs.Runes.{BalanceMap, balances_at, joined_with}
use Rattle.ox_ledger.proofs.Brought.{AllRise, amount-joined_with, at_rises}
use Rattle.ox_ledger.proofs.Held.{amount_held-cons, amount_of, total_is}
use Rattle.ox_ledger.proofs.StepLemmas.{amounts_fit}
use Rattle.ox_model.specs.Index.{Index, runes_of}
use Rattle.ox_model.specs.Sound.{IsSound}
use Rattle.ox_model.proofs.Audits.{satoshis_balance}
use Rattle.ox_held.specs.Held.{rows_at, sats_at}
use Rattle.ox_held.proofs.Sums.{at_most_all, total_at}

-- ---- satoshis

abbrev count_of : OutRow → ℕ
count_of row = length row.sats

count_found : (found : Option OutRow) (rows : List OutRow) → length (sats_of (cons_option found rows)) ≡ option_map_or count_of found 0 + length (sats_of rows)
count_found None rows = omega arith
count_found (Some row) rows = length-append row.sats (sats_of rows)

counted_at : (outs : Outputs) (places : List OutPoint) → length (sats_at outs places) ≡ total_at outpoints_total outpoints_exact count_of outs places
counted_at outs [] = refl
counted_at outs (at ∷ places) =
    count_found (get outs at) (rows_at outs places)
    ∙ ap (λ n. option_map_or count_of (get outs at) 0 + n) (counted_at outs places)

counted_all : (es : List (OutPoint × OutRow)) → total outpoints_total count_of es ≡ length (sats_of (map (λ e. e.1) es))
counted_all [] = refl
counted_all (e ∷ es) =
    ap (λ n. length e.1.sats + n) (counted_all es) ∙ sym (length-append e.1.sats (sats_of (map (λ x. x.1) es)))

pub sats_fit : (p : Profile) (index : Index) (places : List OutPoint) → IsProfile p → IsSound p index → IsStrictlySortedBy outpoint_cmp places
    → length (sats_at index.outs places) < 2 ^ 64
sats_fit p index places known sound rising =
    let profile = counts p known in
    let most = at_most_all outpoints_total outpoints_exact count_of places index.outs rising in
    let some = counted_at index.outs places in
    let all = counted_all (entries index.outs) in
    let held = satoshis_balance p index sound in
    let claimed = first_most p (length index.hashes) profile in
    omega (arith, most, some, all, held, claimed, profile.few)

-- ---- runes

amount_found : (found : Option (List Balance)) (id : RuneId) → amount_in (unwrap_or found []) id ≡ option_map_or (amount_of id) found 0
amount_found None id = refl
amount_found (Some balances) id = refl

amounts_at : (bal : BalanceMap) (places : List OutPoint) (id : RuneId)
    → amount_held (map (balances_at bal) places) id ≡ total_at outpoints_total outpoints_exact (amount_of id) bal places
amounts_at bal [] id = refl
amounts_at bal (at ∷ places) id =
    amount_held-cons (balances_at bal at) (map (balances_at bal) places) id
    ∙ ap₂ (λ a b. a + b) (amount_found (get bal at) id) (amounts_at bal places id)

pub runes_fit : (p : Profile) (index : Index) (places : List OutPoint) (id : RuneId) → IsSound p index → IsStrictlySortedBy outpoint_cmp places
    → amount_held (map (balances_at index.bal) places) id < 2 ^ 128
runes_fit p index places id sound rising =
    let most = at_most_all outpoints_total outpoints_exact (amount_of id) places index.bal rising in
    let some = amounts_at index.bal places id in
    let all = total_is (entries index.bal) id in
    let fits = amounts_fit (runes_of index) sound.runes.balanced id in
    omega (arith, most, some, all, fits)

-- joined they are the same amounts
pub amount_joined : (bal : BalanceMap) (places : List OutPoint) (pool : List Balance) (id : RuneId) → AllRise bal
    → amount_in (fold joined_with pool (map (balances_at bal) places)) id ≡ amount_in pool id + amount_held (map (balances_at bal) places) id
amount_joined bal [] pool id rise = omega arith
amount_joined bal (at ∷ places) pool id rise =
    let rest = amount_joined bal places (joined_with pool (balances_at bal at)) id rise in
    let here = amount-joined_with pool (balances_at bal at) id (at_rises bal at rise) in
    let sums = amount_held-cons (balances_at bal at) (map (balances_at bal) places) id in
    omega (arith, rest, here, sums)
