-- What the tables of the ledger show together.
use Rattle.std.proofs.Common.{◌≡◌, ◌≢◌, ◌∙◌, ℕ, zero, suc, ◌+◌, ◌<◌, ◌≤◌, Bool, true, false, true≢false, List, [], ◌∷◌, ◌++◌, length, map, take, drop, refl, sym, ap, subst, Option, Some, None, is_some, arith, append_assoc, append-nil}
use Rattle.std.specs.Prelude.{IsSome, slice_get, unwrap_or, ◌==◌, if◌then◌else◌}
use Rattle.std.specs.Option.{IfSome, IsSomeAnd, option_map}
use Rattle.std.specs.FinMap.{empty, get, get-empty, same_map}
use Rattle.ox_block.specs.declared.block.OutPoint.{OutPoint}
use Rattle.ox_block.specs.declared.block.TxOut.{TxOut}
use Rattle.ox_block.specs.declared.block.Txid.{Txid}
use Rattle.ox_runestone.specs.declared.stone.Artifact.{Artifact}
use Rattle.ox_runestone.specs.declared.stone.Artifact.TheVariants.{Stone, Cenotaph}
use Rattle.ox_runestone.specs.declared.stone.RuneId.{RuneId}
use Rattle.ox_script.specs.Shape.{is_return}
use Rattle.ox_marked.specs.Marked.{content_in, mark_in}
use Rattle.ox_rules.specs.Outputs.{outpoint_cmp}
use Rattle.ox_rules.proofs.Orders.{outpoints_total, outpoints_exact}
use Rattle.ox_allocation.specs.Allocation.{amount_at, amount_burned, balances_from, gifts_from}
use Rattle.ox_allocation.specs.Balances.{Balance, amount_in, balances_by, is_same}
use Rattle.ox_allocation.specs.Gifts.{Gift}
use Rattle.ox_allocation.proofs.Amounts.{zero_from}
use Rattle.ox_etching.specs.declared.row.RuneRow.{RuneRow}
use Rattle.ox_ledger.specs.Balanced.{amount_held}
use Rattle.ox_ledger.specs.Runes.{BalanceMap, Placement, Runes, balances_at, burn, burn_of, dealt_by, mint_more, place, place_all, placements, with_balances}
use Rattle.ox_ledger.specs.Shown.{IsAbsent, held_in, held_then}
use Rattle.ox_ledger.specs.Steps.{CanPlace, CanPlaceAll, given_out}
use Rattle.ox_ledger.specs.Tables.{runes_then}
use Rattle.ox_ledger.proofs.Held.{amount_held-cons}
use Rattle.ox_ledger.proofs.HolderLemmas.{Held, get-held_in, held_before, held_same, remove_none, then_is}
use Rattle.ox_ledger.proofs.TableLemmas.{value_in}

-- ---- marks

abbrev Bals : Type 0
Bals = Option BalanceMap

abbrev Rows : Type 0
Rows = Option (List RuneRow)

abbrev Dues : Type 0
Dues = Option (List Placement)

pub marks_in : (a : Bals) (b : Rows) (c : Dues) → IsSome (runes_then a b c) → IsSome a × IsSome b × IsSome c
marks_in None b c some = absurd (true≢false (sym some))
marks_in (Some x) None c some = absurd (true≢false (sym some))
marks_in (Some x) (Some y) None some = absurd (true≢false (sym some))
marks_in (Some x) (Some y) (Some z) some = (refl, refl, refl)

pub no_holders_mark : (a : Bals) (b : Rows) (c : Dues) → a ≡ None → runes_then a b c ≡ None
no_holders_mark a b c none = ap (λ (o : Bals). runes_then o b c) none

pub all_marks : (a : Bals) (b : Rows) (c : Dues) (state : Runes) → a ≡ Some state.bal → b ≡ Some state.runes → c ≡ Some state.due → runes_then a b c ≡ Some state
all_marks a b c state first second third = λ i. runes_then (first i) (second i) (third i)

pub same_marks : (a a' : Bals) (b b' : Rows) (c c' : Dues) → a' ≡ a → b' ≡ b → c' ≡ c → runes_then a' b' c' ≡ runes_then a b c
same_marks a a' b b' c c' first second third = λ i. runes_then (first i) (second i) (third i)

marked_by : (b : Bool) (m : BalanceMap) (f : OutPoint → Option (List Balance)) → IsSome {T = BalanceMap} (if b then Some m else None) → IsSome {T = OutPoint → Option (List Balance)} (if b then Some f else None)
marked_by true m f some = refl
marked_by false m f some = absurd (true≢false (sym some))

pub is_marked : (map : Held) → IsSome (held_then map) → IsSome (mark_in outpoint_cmp map)
is_marked map some = marked_by map.marked (held_before map) _ some

-- ---- no runes

pub held_none : (map : Held) → ((q : OutPoint) → content_in outpoint_cmp map q ≡ None) → held_in map ≡ empty
held_none map none = same_map outpoints_total outpoints_exact (held_in map) empty (λ q. get-held_in map q ∙ none q ∙ sym (get-empty outpoint_cmp q))

pub none_without : (o : Option Runes) → is_some o ≡ false → o ≡ None
none_without None is = refl
none_without (Some state) is = absurd (true≢false is)

-- ---- marks of what outputs hold

some_and : {A : Type 0} (P : A → Type 0) (o : Option A) → IsSomeAnd o P → IsSome o
some_and P None is = absurd is
some_and P (Some a) is = refl

if_and : {A : Type 0} (P Q : A → Type 0) (o : Option A) → ((a : A) → P a → Q a) → IsSomeAnd o P → IfSome o Q
if_and P Q None step is = absurd is
if_and P Q (Some a) step is = step a is

-- a mark that is set shows what outputs hold
pub begun : (old new : Held) → ((q : OutPoint) → content_in outpoint_cmp new q ≡ content_in outpoint_cmp old q) → IsSomeAnd (mark_in outpoint_cmp new) (λ at. (q : OutPoint) → at q ≡ content_in outpoint_cmp new q)
    → held_then new ≡ Some (held_in old)
begun old new same is =
    then_is new new (some_and _ (mark_in outpoint_cmp new) is)
    (if_and (λ at. (q : OutPoint) → at q ≡ content_in outpoint_cmp new q) (λ at. (q : OutPoint) → content_in outpoint_cmp new q ≡ at q) (mark_in outpoint_cmp new) (λ at all q. sym (all q)) is)
    ∙ ap Some (held_same old new same)

-- ---- steps of loops

pub placed_next : (state next all : Runes) (items rest : List Placement) (one : Placement) → place_all state items ≡ all → items ≡ one ∷ rest → next ≡ place state one → place_all next rest ≡ all
unfolding place_all
placed_next state next all items rest one whole is step = ap (λ (s : Runes). place_all s rest) step ∙ sym (ap (place_all state) is) ∙ whole

pub placed_all : (state all : Runes) (items : List Placement) → place_all state items ≡ all → items ≡ [] → state ≡ all
unfolding place_all
placed_all state all items whole none = sym (ap (place_all state) none) ∙ whole

pub can_first : (state : Runes) (items rest : List Placement) (one : Placement) → CanPlaceAll state items → items ≡ one ∷ rest → CanPlace state one.0
can_first state items rest one can is = (subst (λ (l : List Placement). CanPlaceAll state l) is can).0

pub can_next : (state next : Runes) (items rest : List Placement) (one : Placement) → CanPlaceAll state items → items ≡ one ∷ rest → next ≡ place state one → CanPlaceAll next rest
can_next state next items rest one can is step =
    subst (λ (s : Runes). CanPlaceAll s rest) (sym step) (subst (λ (l : List Placement). CanPlaceAll state l) is can).1

abbrev undue_with : Runes → List Placement → Runes
undue_with state due = record { bal = state.bal; runes = state.runes; due = due }

-- what can be placed does not depend on what is due
pub can_undue : (state : Runes) (due new : List Placement) → CanPlaceAll state new → CanPlaceAll (undue_with state due) new
can_undue state due [] can = tt
can_undue state due (one ∷ new) can = (record { proper = can.0.proper; fits = can.0.fits }, can_undue (place state one) due new can.1)

pub take_next : {A : Type 0} (xs : List A) (i : ℕ) (x : A) → slice_get xs i ≡ Some x → take i xs ++ x ∷ [] ≡ take (i + 1) xs
take_next [] i x is = let none : None ≡ Some x = is in absurd (cc none)
take_next (y ∷ xs) zero x is = let same : y ≡ x = value_in y x is in λ i. sym same i ∷ []
take_next (y ∷ xs) (suc n) x is = (λ i. y ∷ take_next xs n x is i) ∙ ap (λ k. take k (y ∷ xs)) (let e : suc (n + 1) ≡ suc n + 1 = omega arith in e)

pub copied : (list copies new : List Placement) (place : ℕ) (one : Placement) (copy : List Balance) → slice_get list place ≡ Some one → copies ≡ take place list → new ≡ copies ++ (one.0, copy) ∷ [] → copy ≡ one.1
    → new ≡ take (place + 1) list
copied list copies new place one copy is so_far more same =
    more ∙ (λ i. so_far i ++ (one.0, same i) ∷ []) ∙ take_next list place one is

pub placement_next : (txid : Txid) (index : ℕ) (new more all : List Placement) (items rest : List (List Balance)) (one : List Balance) → new ++ placements txid index items ≡ all → items ≡ one ∷ rest
    → more ≡ new ++ (record { txid = txid; index = index }, one) ∷ [] → more ++ placements txid (index + 1) rest ≡ all
unfolding placements
placement_next txid index new more all items rest one whole is pushed =
    ap (λ (l : List Placement). l ++ placements txid (index + 1) rest) pushed
    ∙ append_assoc new ((record { txid = txid; index = index }, one) ∷ []) (placements txid (index + 1) rest)
    ∙ ap (λ (l : List (List Balance)). new ++ placements txid index l) (sym is) ∙ whole

pub placement_all : (txid : Txid) (index : ℕ) (new all : List Placement) (items : List (List Balance)) → new ++ placements txid index items ≡ all → items ≡ [] → new ≡ all
unfolding placements
placement_all txid index new all items whole none =
    sym (append-nil new) ∙ ap (λ (l : List (List Balance)). new ++ placements txid index l) (sym none) ∙ whole

pub placements_next : (txid : Txid) (index : ℕ) (items rest : List (List Balance)) (one : List Balance) → items ≡ one ∷ rest → placements txid index items ≡ (record { txid = txid; index = index }, one) ∷ placements txid (index + 1) rest
unfolding placements
placements_next txid index items rest one is = ap (placements txid index) is

pub placements_none : (txid : Txid) (index : ℕ) (items : List (List Balance)) → items ≡ [] → placements txid index items ≡ []
unfolding placements
placements_none txid index items none = ap (placements txid index) none

abbrev none_each : List TxOut → List (List Balance)
none_each outputs = map (λ (output : TxOut). []) outputs

pub none_next : (outputs : List TxOut) (i : ℕ) → i < length outputs → none_each (take i outputs) ++ [] ∷ [] ≡ none_each (take (i + 1) outputs)
none_next [] i less = absurd (omega (arith, less))
none_next (output ∷ outputs) zero less = refl
none_next (output ∷ outputs) (suc n) less =
    (λ i. [] ∷ none_next outputs n (omega (arith, less)) i) ∙ ap (λ k. none_each (take k (output ∷ outputs))) (let e : suc (n + 1) ≡ suc n + 1 = omega arith in e)

-- ---- what is due

abbrev pub owed : List Placement → RuneId → ℕ
owed due id = amount_held (map (λ (new : Placement). new.1) due) id

abbrev given_in : List Placement → List (List Balance)
given_in due = map (λ (new : Placement). new.1) due

pub owed_next : (due : List Placement) (k : ℕ) (one : Placement) (id : RuneId) → slice_get due k ≡ Some one → owed (take (k + 1) due) id ≡ owed (take k due) id + amount_in one.1 id
owed_next [] k one id is = let none : None ≡ Some one = is in absurd (cc none)
owed_next (first ∷ due) zero one id is =
    let same : first ≡ one = value_in first one is in
    let here : amount_in first.1 id ≡ amount_in one.1 id = ap (λ (p : Placement). amount_in p.1 id) same in
    let sums = amount_held-cons first.1 [] id in
    omega (arith, here, sums)
owed_next (first ∷ due) (suc n) one id is =
    let rest = owed_next due n one id is in
    let e : suc n + 1 ≡ suc (n + 1) = omega arith in
    let longer : owed (take (suc n + 1) (first ∷ due)) id ≡ owed (take (suc (n + 1)) (first ∷ due)) id = ap (λ k. owed (take k (first ∷ due)) id) e in
    let more = amount_held-cons first.1 (given_in (take (n + 1) due)) id in
    let less = amount_held-cons first.1 (given_in (take n due)) id in
    omega (arith, rest, longer, more, less)

pub owed_upto : (due : List Placement) (n : ℕ) (id : RuneId) → owed (take n due) id ≤ owed due id
owed_upto [] zero id = omega arith
owed_upto [] (suc n) id = omega arith
owed_upto (first ∷ due) zero id = omega arith
owed_upto (first ∷ due) (suc n) id =
    let rest = owed_upto due n id in
    let less = amount_held-cons first.1 (given_in (take n due)) id in
    let more = amount_held-cons first.1 (given_in due) id in
    omega (arith, rest, less, more)

-- ---- what a mint keeps

kept_by : {A : Type 0} (of : RuneRow → A) (f : RuneRow → RuneRow) → ((row : RuneRow) → of (f row) ≡ of row) → (runes : List RuneRow) (place : ℕ) → option_map of (slice_get (map f runes) place) ≡ option_map of (slice_get runes place)
kept_by of f keeps [] place = refl
kept_by of f keeps (row ∷ runes) zero = ap Some (keeps row)
kept_by of f keeps (row ∷ runes) (suc place) = kept_by of f keeps runes place

minted_keeps : {A : Type 0} (of : RuneRow → A) → ((row : RuneRow) (n : ℕ) → of (record row { mints = n }) ≡ of row) → (id : RuneId) (row : RuneRow) → of (mint_more id row) ≡ of row
minted_keeps of keeps id row = by_test (is_same row.id id) where
  by_test : (b : Bool) → of (if b then record row { mints = row.mints + 1 } else row) ≡ of row
  by_test true = keeps row (row.mints + 1)
  by_test false = refl

pub absent_minted : {A : Type 0} (of : RuneRow → A) → ((row : RuneRow) (n : ℕ) → of (record row { mints = n }) ≡ of row) → (id : RuneId) (runes : List RuneRow) (value : A)
    → IsAbsent of runes value → IsAbsent of (map (mint_more id) runes) value
absent_minted of keeps id runes value absent place has = absent place (sym (kept_by of (mint_more id) (minted_keeps of keeps id) runes place) ∙ has)

-- ---- a pool of nothing

no_amounts : (f : RuneId → ℕ) → balances_by f [] ≡ []
unfolding balances_by
no_amounts f = refl

either_none : (b : Bool) (f : RuneId → ℕ) → (if b then [] else balances_by f []) ≡ []
either_none true f = refl
either_none false f = no_amounts f

none_from : (place : ℕ) (gifts : List Gift) (outputs : List TxOut) → balances_from place [] gifts outputs ≡ none_each outputs
unfolding balances_from
none_from place gifts [] = refl
none_from place gifts (output ∷ outputs) =
    let first = either_none (is_return output.script) (amount_at place gifts) in
    let rest = none_from (place + 1) gifts outputs in
    λ i. first i ∷ rest i

-- no runes are dealt of a pool without any
pub none_dealt : (artifact : Option Artifact) (etching : Option RuneId) (outputs : List TxOut) → dealt_by artifact [] etching outputs ≡ record { given = none_each outputs; burned = [] }
none_dealt None etching outputs = λ i. record {
  given = none_from 0 (gifts_from [] [] None None outputs) outputs i;
  burned = no_amounts (amount_burned [] outputs (gifts_from [] [] None None outputs)) i;
}
none_dealt (Some (Stone stone)) etching outputs = λ i. record {
  given = none_from 0 (gifts_from [] stone.edicts etching stone.pointer outputs) outputs i;
  burned = no_amounts (amount_burned [] outputs (gifts_from [] stone.edicts etching stone.pointer outputs)) i;
}
none_dealt (Some (Cenotaph mint name)) etching outputs = refl

burn_none : (runes : List RuneRow) → burn [] runes ≡ runes
burn_none [] = refl
burn_none (row ∷ runes) =
    let first : burn_of [] row ≡ row = (let e : row.burned + 0 ≡ row.burned = omega arith in λ i. record row { burned = e i }) in
    let rest = burn_none runes in
    λ i. first i ∷ rest i

-- nothing burns where an output holds nothing
pub burn_at_none : (bal : BalanceMap) (at : OutPoint) (runes : List RuneRow) → get bal at ≡ None → burn (balances_at bal at) runes ≡ runes
burn_at_none bal at runes none = ap (λ (o : Option (List Balance)). burn (unwrap_or o []) runes) none ∙ burn_none runes

-- an output without runes where nothing stands changes nothing
pub place_none : (state : Runes) (at : OutPoint) → get state.bal at ≡ None → place state (at, []) ≡ state
place_none state at none =
    let burned = burn_at_none state.bal at state.runes none in
    let bal : with_balances state.bal at [] ≡ state.bal = sym (remove_none state.bal at none) in
    λ i. record { bal = bal i; runes = burned i; due = state.due }

pub place_all_none : (state : Runes) (txid : Txid) (first : ℕ) (outputs : List TxOut)
    → ((index : ℕ) → index < first + length outputs → get state.bal (record { txid = txid; index = index }) ≡ None) → place_all state (placements txid first (none_each outputs)) ≡ state
unfolding place_all placements
place_all_none state txid first [] none = refl
place_all_none state txid first (output ∷ outputs) none =
    ap (λ (s : Runes). place_all s (placements txid (first + 1) (none_each outputs))) (place_none state (record { txid = txid; index = first }) (none first (omega arith)))
    ∙ place_all_none state txid (first + 1) outputs (λ index less. none index (omega (arith, less)))

pub nothing_given : (tx : ℕ) (txid : Txid) (outputs : List TxOut) (artifact : Option Artifact) (pool : List Balance) (etching : Option RuneId) (mid : Runes) → pool ≡ [] → tx ≢ 0
    → ((index : ℕ) → index < length outputs → get mid.bal (record { txid = txid; index = index }) ≡ None)
    → mid ≡ given_out tx txid mid (dealt_by artifact pool etching outputs).given (dealt_by artifact pool etching outputs).burned
nothing_given tx txid outputs artifact pool etching mid empty other none = sym (by_place (tx == 0) refl) where
  dealt : dealt_by artifact pool etching outputs ≡ record { given = none_each outputs; burned = [] }
  dealt = ap (λ (p : List Balance). dealt_by artifact p etching outputs) empty ∙ none_dealt artifact etching outputs

  by_place : (b : Bool) → (tx == 0) ≡ b
      → let all = dealt_by artifact pool etching outputs in
      let new = placements txid 0 all.given in
      ◌≡◌ {A = Runes}
      (if b then record { bal = mid.bal; runes = burn all.burned mid.runes; due = mid.due ++ new }
      else place_all (record { bal = mid.bal; runes = burn all.burned mid.runes; due = mid.due }) new)
      mid
  by_place true is = absurd (other (zero_from tx is))
  by_place false is =
      (λ i. place_all (record { bal = mid.bal; runes = burn (dealt i).burned mid.runes; due = mid.due }) (placements txid 0 (dealt i).given))
      ∙ (λ i. place_all (record { bal = mid.bal; runes = burn_none mid.runes i; due = mid.due }) (placements txid 0 (none_each outputs)))
      ∙ place_all_none mid txid 0 outputs (λ index less. none index (omega (arith, less)))

-- ---- a list from a place on

drop_next : {A : Type 0} (xs : List A) (i : ℕ) (x : A) → slice_get xs i ≡ Some x → x ∷ drop (i + 1) xs ≡ drop i xs
drop_next [] i x is = let none : None ≡ Some x = is in absurd (cc none)
drop_next (y ∷ xs) zero x is = let same : x ≡ y = sym (value_in y x is) in λ i. same i ∷ xs
drop_next (y ∷ xs) (suc n) x is = ap (λ k. x ∷ drop k (y ∷ xs)) (let e : suc n + 1 ≡ suc (n + 1) = omega arith in e) ∙ drop_next xs n x is

pub dropped_next : {A : Type 0} (xs : List A) (i : ℕ) (x : A) (rows new : List A) (all : List A) → slice_get xs i ≡ Some x → rows ++ drop i xs ≡ all → new ≡ rows ++ x ∷ [] → new ++ drop (i + 1) xs ≡ all
dropped_next xs i x rows new all there whole more =
    ap (λ l. l ++ drop (i + 1) xs) more ∙ append_assoc rows (x ∷ []) (drop (i + 1) xs) ∙ ap (λ l. rows ++ l) (drop_next xs i x there) ∙ whole

pub dropped_more : (mark : Option (List RuneRow)) (xs : List RuneRow) (i : ℕ) (x : RuneRow) (rows new : List RuneRow) → slice_get xs i ≡ Some x → new ≡ rows ++ x ∷ []
    → IfSome mark (λ before. rows ++ drop i xs ≡ drop (length before) xs) → IfSome mark (λ before. new ++ drop (i + 1) xs ≡ drop (length before) xs)
dropped_more None xs i x rows new there more whole = tt
dropped_more (Some before) xs i x rows new there more whole = dropped_next xs i x rows new (drop (length before) xs) there whole more
