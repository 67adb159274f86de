-- What outputs hold of a rune, after one was spent and after one was made.
use Rattle.std.proofs.Common.{◌≡◌, ◌∙◌, ℕ, ◌+◌, Bool, true, false, cond, List, [], ◌∷◌, ◌++◌, map, refl, sym, ap, arith, Option, Some, None, Ordering}
use Rattle.std.specs.Prelude.{unwrap_or}
use Rattle.std.specs.Option.{option_map_or}
use Rattle.std.specs.Ordering.{eq_by_cmp, is_eq}
use Rattle.std.specs.declared.cmp.Ordering.TheVariants.{Less, Equal, Greater}
use Rattle.std.specs.FinMap.{entries, get, get-remove, insert, remove, same_map, values}
use Rattle.std.proofs.lemmas.List.Sums.{sum_by-append, sum_by-cons}
use Rattle.ox_block.specs.declared.block.OutPoint.{OutPoint}
use Rattle.ox_runestone.specs.declared.stone.RuneId.{RuneId}
use Rattle.ox_rules.proofs.MapSums.{total, total_insert, total_remove}
use Rattle.ox_rules.proofs.Orders.{outpoints_total, outpoints_exact}
use Rattle.ox_rules.specs.Outputs.{outpoint_cmp}
use Rattle.ox_allocation.specs.Balances.{Balance, amount_in}
use Rattle.ox_ledger.specs.Balanced.{amount_held}
use Rattle.ox_ledger.specs.Runes.{BalanceMap, balances_at, with_balances}

abbrev pub amount_of : RuneId → List Balance → ℕ
amount_of id balances = amount_in balances id

abbrev pub amount_held_in : BalanceMap → RuneId → ℕ
amount_held_in bal id = amount_held (values bal) id

pub total_is : (es : List (OutPoint × List Balance)) (id : RuneId)
    → amount_held (map (λ e. e.1) es) id ≡ total outpoints_total (amount_of id) es
total_is [] id = refl
total_is (e ∷ es) id = sum_by-cons (amount_of id) e.1 (map (λ e. e.1) es) ∙ ap (λ n. amount_in e.1 id + n) (total_is es id)

-- an output without balances holds nothing
weight : (found : Option (List Balance)) (id : RuneId) → option_map_or (amount_of id) found 0 ≡ amount_in (unwrap_or found []) id
weight None id = refl
weight (Some balances) id = refl

held-insert : (bal : BalanceMap) (at : OutPoint) (balances : List Balance) (id : RuneId)
    → amount_held_in (insert bal at balances) id + amount_in (balances_at bal at) id ≡ amount_held_in bal id + amount_in balances id
held-insert bal at balances id =
    let sums = total_insert outpoints_total (amount_of id) bal at balances in
    let was = weight (get bal at) id in
    let now = total_is (entries (insert bal at balances)) id in
    let before = total_is (entries bal) id in
    omega (arith, sums, was, now, before)

none_there : (found : Option (List Balance)) (b : Bool) → (b ≡ true → found ≡ None) → cond b None found ≡ found
none_there found true none = sym (none refl)
none_there found false none = refl

tie : (r : Ordering) → is_eq r ≡ true → r ≡ Equal
tie Less is = absurd (cc is)
tie Equal is = refl
tie Greater is = absurd (cc is)

-- nothing is taken out where nothing stands
remove-none : (bal : BalanceMap) (at : OutPoint) → get bal at ≡ None → remove bal at ≡ bal
remove-none bal at none = same_map outpoints_total outpoints_exact (remove bal at) bal (λ q.
    get-remove outpoints_total bal at q
    ∙ none_there (get bal q) (eq_by_cmp outpoint_cmp q at) (λ is. ap (get bal) (outpoints_exact q at (tie (outpoint_cmp q at) is)) ∙ none))

pub held-remove : (bal : BalanceMap) (at : OutPoint) (id : RuneId)
    → amount_held_in (remove bal at) id + amount_in (balances_at bal at) id ≡ amount_held_in bal id
held-remove bal at id = by_found (get bal at) refl where
  by_found : (found : Option (List Balance)) → get bal at ≡ found → amount_held_in (remove bal at) id + amount_in (unwrap_or (get bal at) []) id ≡ amount_held_in bal id
  by_found None none =
      let same = ap (λ (m : BalanceMap). amount_held_in m id) (remove-none bal at none) in
      let nothing : amount_in (unwrap_or (get bal at) []) id ≡ 0 = ap (λ (f : Option (List Balance)). amount_in (unwrap_or f []) id) none in
      omega (arith, same, nothing)
  by_found (Some balances) there =
      let sums = total_remove outpoints_total outpoints_exact (amount_of id) bal at balances there in
      let now = total_is (entries (remove bal at)) id in
      let before = total_is (entries bal) id in
      let some : amount_in (unwrap_or (get bal at) []) id ≡ amount_in balances id = ap (λ (f : Option (List Balance)). amount_in (unwrap_or f []) id) there in
      omega (arith, sums, now, before, some)

pub held-with_balances : (bal : BalanceMap) (at : OutPoint) (balances : List Balance) (id : RuneId)
    → amount_held_in (with_balances bal at balances) id + amount_in (balances_at bal at) id ≡ amount_held_in bal id + amount_in balances id
held-with_balances bal at [] id = omega (arith, held-remove bal at id)
held-with_balances bal at (one ∷ balances) id = held-insert bal at (one ∷ balances) id

pub amount_held-append : (a b : List (List Balance)) (id : RuneId) → amount_held (a ++ b) id ≡ amount_held a id + amount_held b id
amount_held-append a b id = sum_by-append (amount_of id) a b

pub amount_held-cons : (one : List Balance) (more : List (List Balance)) (id : RuneId) → amount_held (one ∷ more) id ≡ amount_in one id + amount_held more id
amount_held-cons one more id = sum_by-cons (amount_of id) one more
