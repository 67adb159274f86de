-- What a map of balances with a mark shows, as a finite map.
use Rattle.std.proofs.Common.{◌≡◌, ◌∙◌, ℕ, Bool, Bor, ◌⊎◌, inl, inr, true, false, true≢false, cond, List, [], ◌∷◌, refl, sym, ap, subst, arith, ◌+◌, ◌≤◌, Option, Some, None, is_some, Ordering}
use Rattle.std.specs.Prelude.{IsSome, if◌then◌else◌, length, ◌==◌, Result, Ok, Err, OnOk}
use Rattle.std.specs.Option.{IfSome, option_copied, unwrap_or}
use Rattle.std.specs.Ordering.{eq_by_cmp, is_eq}
use Rattle.std.specs.Map.{lookup}
use Rattle.std.specs.BTreeMap.{is_at}
use Rattle.std.specs.declared.cmp.Ordering.TheVariants.{Less, Equal, Greater}
use Rattle.std.specs.Cmp.{eq_by_cmp_equiv}
use Rattle.std.specs.FinMap.{empty, get, get-empty, get-insert, get-remove, remove, same_map}
use Rattle.ox_block.specs.declared.block.OutPoint.{OutPoint}
use Rattle.ox_marked.specs.Marked.{Logged, before_in, content_in, mark_in}
use Rattle.ox_rules.specs.Outputs.{outpoint_cmp}
use Rattle.ox_rules.proofs.Orders.{outpoints_total, outpoints_exact}
use Rattle.std.proofs.lemmas.Bool.{cases_lt}
use Rattle.std.specs.Prelude.{slice_index_or, drop, ◌^◌, ◌<◌}
use Rattle.std.proofs.lemmas.List.{at_drop_more, at_drop_all}
use Rattle.ox_block.specs.declared.block.TxIn.{TxIn}
use Rattle.ox_block.specs.declared.block.Txid.{Txid}
use Rattle.ox_runestone.specs.declared.stone.RuneId.{RuneId}
use Rattle.ox_allocation.specs.Balances.{Balance, amount_in, with_more}
use Rattle.ox_allocation.specs.Dealing.{with_all}
use Rattle.ox_allocation.proofs.Amounts.{zero_from}
use Rattle.ox_allocation.proofs.Rests.{IsBurning, burned_fits, burns_all, burns_on}
use Rattle.ox_ledger.specs.Runes.{BalanceMap, Brought, balances_at, brought_by, joined_with, with_balances}
use Rattle.ox_ledger.proofs.Brought.{AllRise, Rise, amount-joined_with, at_rises, remove_rises}
use Rattle.ox_ledger.proofs.Held.{amount_held_in, held-remove}
use Rattle.ox_ledger.specs.Shown.{held_in, held_then, with_change, with_changes}

abbrev pub Held : Type 0
Held = Logged OutPoint (List Balance)

abbrev Changes : Type 0
Changes = List (OutPoint × Option (List Balance))

pub get-with_change : (bal : BalanceMap) (at : OutPoint) (value : Option (List Balance)) (q : OutPoint) → get (with_change bal at value) q ≡ cond (eq_by_cmp outpoint_cmp q at) value (get bal q)
get-with_change bal at None q = get-remove outpoints_total bal at q
get-with_change bal at (Some balances) q = get-insert outpoints_total bal at balances q

change_first : (b : Bool) (value : Option (List Balance)) (later : Option (Option (List Balance))) (below rest : Option (List Balance)) → rest ≡ unwrap_or later below
    → cond b value rest ≡ unwrap_or (cond b (Some value) later) below
change_first true value later below rest is = refl
change_first false value later below rest is = is

pub get-with_changes : (bal : BalanceMap) (changes : Changes) (q : OutPoint) → get (with_changes bal changes) q ≡ unwrap_or (lookup (is_at (outpoint_cmp q)) changes) (get bal q)
get-with_changes bal [] q = refl
get-with_changes bal (change ∷ changes) q =
    get-with_change (with_changes bal changes) change.0 change.1 q
    ∙ change_first (eq_by_cmp outpoint_cmp q change.0) change.1 (lookup (is_at (outpoint_cmp q)) changes) (get bal q) _ (get-with_changes bal changes q)

pub get-held_in : (map : Held) (q : OutPoint) → get (held_in map) q ≡ content_in outpoint_cmp map q
get-held_in map q = get-with_changes empty map.entries q ∙ ap (unwrap_or (lookup (is_at (outpoint_cmp q)) map.entries)) (get-empty outpoint_cmp q)

-- the balances before what was put, and what they show
abbrev pub held_before : Held → BalanceMap
held_before map = with_changes (held_in map) map.log

abbrev pub values_before : Held → OutPoint → Option (List Balance)
values_before map = before_in outpoint_cmp map.log (content_in outpoint_cmp map)

pub get-held_before : (map : Held) (q : OutPoint) → get (held_before map) q ≡ values_before map q
get-held_before map q = get-with_changes (held_in map) map.log q ∙ ap (unwrap_or (lookup (is_at (outpoint_cmp q)) map.log)) (get-held_in map q)

-- a map in which something was put at an outpoint
pub held_put : (old new : Held) (at : OutPoint) (value : Option (List Balance))
    → ((q : OutPoint) → content_in outpoint_cmp new q ≡ cond (is_eq (outpoint_cmp at q)) value (content_in outpoint_cmp old q)) → held_in new ≡ with_change (held_in old) at value
held_put old new at value is = same_map outpoints_total outpoints_exact (held_in new) (with_change (held_in old) at value) (λ q.
    get-held_in new q ∙ is q
    ∙ ap (λ (b : Bool). cond b value (content_in outpoint_cmp old q)) ((eq_by_cmp_equiv outpoints_total).symm at q)
    ∙ ap (λ (r : Option (List Balance)). cond (eq_by_cmp outpoint_cmp q at) value r) (sym (get-held_in old q))
    ∙ sym (get-with_change (held_in old) at value q))

pub held_same : (old new : Held) → ((q : OutPoint) → content_in outpoint_cmp new q ≡ content_in outpoint_cmp old q) → held_in new ≡ held_in old
held_same old new is = same_map outpoints_total outpoints_exact (held_in new) (held_in old) (λ q. get-held_in new q ∙ is q ∙ sym (get-held_in old q))

equal : (r : Ordering) → is_eq r ≡ true → r ≡ Equal
equal Less p = absurd (true≢false (sym p))
equal Equal p = refl
equal Greater p = absurd (true≢false (sym p))

-- to remove what isn't there changes nothing
pub remove_none : (bal : BalanceMap) (at : OutPoint) → get bal at ≡ None → bal ≡ remove bal at
remove_none bal at none = same_map outpoints_total outpoints_exact bal (remove bal at) (λ q. by_test q (eq_by_cmp outpoint_cmp q at) refl ∙ sym (get-remove outpoints_total bal at q)) where
  by_test : (q : OutPoint) (b : Bool) → eq_by_cmp outpoint_cmp q at ≡ b → get bal q ≡ cond b None (get bal q)
  by_test q true is = ap (get bal) (outpoints_exact q at (equal (outpoint_cmp q at) is)) ∙ none
  by_test q false is = refl

abbrev Values : Type 0
Values = OutPoint → Option (List Balance)

-- what a map shows
abbrev Shows : BalanceMap → Values → Type 0
Shows bal f = (q : OutPoint) → get bal q ≡ f q

abbrev mark_by : Bool → Values → Option Values
mark_by b f = if b then Some f else None

abbrev balances_by_mark : Bool → BalanceMap → Option BalanceMap
balances_by_mark b bal = if b then Some bal else None

by_marks : (a b : Bool) (f g : Values) (m n : BalanceMap) → Shows m f → Shows n g → mark_by a f ≡ mark_by b g → balances_by_mark a m ≡ balances_by_mark b n
by_marks true true f g m n shows too is = ap Some (same_map outpoints_total outpoints_exact m n (λ q. shows q ∙ ap (λ (o : Option Values). unwrap_or o (λ k. None) q) is ∙ sym (too q)))
by_marks true false f g m n shows too is = absurd (true≢false (ap is_some is))
by_marks false true f g m n shows too is = absurd (true≢false (sym (ap is_some is)))
by_marks false false f g m n shows too is = refl

-- the balances at a mark that stays
pub then_same : (old new : Held) → mark_in outpoint_cmp new ≡ mark_in outpoint_cmp old → held_then new ≡ held_then old
then_same old new is = by_marks new.marked old.marked _ _ (held_before new) (held_before old) (get-held_before new) (get-held_before old) is

then_none_by : (b : Bool) (f : Values) (m : BalanceMap) → mark_by b f ≡ None → balances_by_mark b m ≡ None
then_none_by true f m is = absurd (true≢false (ap is_some is))
then_none_by false f m is = refl

pub then_none : (map : Held) → mark_in outpoint_cmp map ≡ None → held_then map ≡ None
then_none map is = then_none_by map.marked _ (held_before map) is

then_is_by : (b : Bool) (f : Values) (m bal : BalanceMap) → Shows m f → IsSome (mark_by b f) → IfSome (mark_by b f) (λ at. (q : OutPoint) → get bal q ≡ at q) → balances_by_mark b m ≡ Some bal
then_is_by true f m bal shows some is = ap Some (same_map outpoints_total outpoints_exact m bal (λ q. shows q ∙ sym (is q)))
then_is_by false f m bal shows some is = absurd (true≢false (sym some))

if_some : {A : Type 0} (o : Option A) (P Q : A → Type 0) → ((a : A) → P a → Q a) → IfSome o P → IfSome o Q
if_some None P Q step is = is
if_some (Some a) P Q step is = step a is

-- balances that are those at a mark
pub then_is : (old new : Held) → IsSome (mark_in outpoint_cmp old) → IfSome (mark_in outpoint_cmp old) (λ at. (q : OutPoint) → content_in outpoint_cmp new q ≡ at q) → held_then old ≡ Some (held_in new)
then_is old new some is =
    then_is_by old.marked (values_before old) (held_before old) (held_in new) (get-held_before old) some
    (if_some (mark_by old.marked (values_before old)) (λ at. (q : OutPoint) → content_in outpoint_cmp new q ≡ at q) (λ at. (q : OutPoint) → get (held_in new) q ≡ at q) (λ at at_is q. get-held_in new q ∙ at_is q) is)

-- what is said of an Ok
pub on_ok : {T E : Type 0} {P Q : Type 0} (r : Result T E) → (P → Q) → OnOk r P → OnOk r Q
on_ok (Ok x) step is = step is
on_ok (Err e) step is = is

-- no output is given an empty list
pub with_none : (bal : BalanceMap) (at : OutPoint) (balances : List Balance) → (length balances == 0) ≡ true → remove bal at ≡ with_balances bal at balances
with_none bal at [] is = refl
with_none bal at (one ∷ balances) is = let none = zero_from (length (one ∷ balances)) is in absurd (omega (arith, none))

pub with_some : (bal : BalanceMap) (at : OutPoint) (balances : List Balance) → (length balances == 0) ≡ false → with_change bal at (Some balances) ≡ with_balances bal at balances
with_some bal at [] is = absurd (true≢false is)
with_some bal at (one ∷ balances) is = refl

-- ---- balances that join a pool

-- the pool with what is still to come
abbrev pub Joins : List Balance → List Balance → List Balance → Type 0
Joins all rest pool = IsBurning all rest pool

joined_is : (pool balances : List Balance) → joined_with pool balances ≡ with_all pool balances
unfolding joined_with with_all
joined_is pool [] = refl
joined_is pool (one ∷ balances) = joined_is (with_more pool one.0 one.1) balances

next_of : (all pool balances : List Balance) (i : ℕ) (d : Balance) → i < length balances → Joins all (drop i balances) pool → Joins all (slice_index_or balances i d ∷ drop (i + 1) balances) pool
next_of all pool balances i d less joins = subst (λ (rest : List Balance). Joins all rest pool) (at_drop_more (λ l. l) balances i d less) joins

pub joins_fit : (all pool balances : List Balance) (i : ℕ) (d : Balance) → i < length balances → Joins all (drop i balances) pool
    → amount_in pool (slice_index_or balances i d).0 + (slice_index_or balances i d).1 < 2 ^ 128
joins_fit all pool balances i d less joins = burned_fits all (slice_index_or balances i d) (drop (i + 1) balances) pool (next_of all pool balances i d less joins)

pub joins_on : (all pool new balances : List Balance) (i : ℕ) (d : Balance) → i < length balances → Joins all (drop i balances) pool
    → new ≡ with_more pool (slice_index_or balances i d).0 (slice_index_or balances i d).1 → Joins all (drop (i + 1) balances) new
joins_on all pool new balances i d less joins more = burns_on all (slice_index_or balances i d) (drop (i + 1) balances) pool new (next_of all pool balances i d less joins) more

pub joins_all : (start pool balances : List Balance) (i : ℕ) → length balances ≤ i → Joins (with_all start balances) (drop i balances) pool → pool ≡ joined_with start balances
joins_all start pool balances i past joins =
    burns_all (with_all start balances) pool (subst (λ (rest : List Balance). Joins (with_all start balances) rest pool) (at_drop_all (λ l. l) balances i past) joins)
    ∙ sym (joined_is start balances)

-- nothing joins where an output holds nothing
pub none_joins : (pool : List Balance) (bal : BalanceMap) (at : OutPoint) → get bal at ≡ None → pool ≡ joined_with pool (balances_at bal at)
unfolding joined_with
none_joins pool bal at none = sym (ap (λ (o : Option (List Balance)). joined_with pool (unwrap_or o [])) none)

-- ---- inputs that bring balances

-- What is still to be brought: with it all is as it shall be.
pub record Gathers (all : Brought) (rest : List TxIn) (bal : BalanceMap) (pool : List Balance) : Type 0 where
  pub whole : brought_by rest bal pool ≡ all
  pub fits : (id : RuneId) → amount_in pool id + amount_held_in bal id < 2 ^ 128
  pub rise : AllRise bal

pub gathers_fit : (all : Brought) (input : TxIn) (rest : List TxIn) (bal : BalanceMap) (pool : List Balance) → Gathers all (input ∷ rest) bal pool
    → (id : RuneId) → amount_in pool id + amount_in (balances_at bal input.from) id < 2 ^ 128
gathers_fit all input rest bal pool gathers id =
    let fits = gathers.fits id in
    let left = held-remove bal input.from id in
    omega (arith, fits, left)

pub gathers_proper : (all : Brought) (input : TxIn) (rest : List TxIn) (bal : BalanceMap) (pool : List Balance) → Gathers all (input ∷ rest) bal pool → Rise (balances_at bal input.from)
gathers_proper all input rest bal pool gathers = at_rises bal input.from gathers.rise

gathers_there : (all : Brought) (input : TxIn) (rest : List TxIn) (bal : BalanceMap) (pool : List Balance) → Gathers all (input ∷ rest) bal pool
    → Gathers all rest (remove bal input.from) (joined_with pool (balances_at bal input.from))
unfolding brought_by
gathers_there all input rest bal pool gathers = record {
  whole = gathers.whole;
  fits = λ id.
      let fits = gathers.fits id in
      let left = held-remove bal input.from id in
      let joined = amount-joined_with pool (balances_at bal input.from) id (at_rises bal input.from gathers.rise) in
      omega (arith, fits, left, joined);
  rise = remove_rises bal input.from gathers.rise;
}

pub gathers_on : (all : Brought) (input : TxIn) (rest : List TxIn) (bal left : BalanceMap) (pool new : List Balance) → Gathers all (input ∷ rest) bal pool
    → left ≡ remove bal input.from → new ≡ joined_with pool (balances_at bal input.from) → Gathers all rest left new
gathers_on all input rest bal left pool new gathers gone more =
    subst (λ (b : BalanceMap). Gathers all rest b new) (sym gone) (subst (λ (p : List Balance). Gathers all rest (remove bal input.from) p) (sym more) (gathers_there all input rest bal pool gathers))

pub next_input : (all : Brought) (inputs : List TxIn) (i : ℕ) (input : TxIn) (bal : BalanceMap) (pool : List Balance) → i < length inputs → input ≡ slice_index_or inputs i input
    → Gathers all (drop i inputs) bal pool → Gathers all (input ∷ drop (i + 1) inputs) bal pool
next_input all inputs i input bal pool less is gathers =
    subst (λ (rest : List TxIn). Gathers all rest bal pool) (at_drop_more (λ l. l) inputs i input less ∙ ap (λ (x : TxIn). x ∷ drop (i + 1) inputs) (sym is)) gathers

pub gathers_all : (all : Brought) (bal : BalanceMap) (pool : List Balance) → Gathers all [] bal pool → record { pool = pool; bal = bal } ≡ all
unfolding brought_by
gathers_all all bal pool gathers = gathers.whole

-- ---- outpoints of one transaction

-- nothing stands at the first so many
abbrev pub AreFree : Held → Txid → ℕ → Type 0
AreFree map txid count = (index : ℕ) → index < count → get (held_in map) (record { txid = txid; index = index }) ≡ None

-- one more at which a look-up finds nothing
pub one_more_free : (map : Held) (txid : Txid) (count : ℕ) → AreFree map txid count → content_in outpoint_cmp map (record { txid = txid; index = count }) ≡ None → AreFree map txid (count + 1)
one_more_free map txid count free none index less = by_last (cases_lt index count) where
  by_last : (index < count) ⊎ (count ≤ index) → get (held_in map) (record { txid = txid; index = index }) ≡ None
  by_last (inl before) = free index before
  by_last (inr last) = get-held_in map (record { txid = txid; index = index })
      ∙ ap (λ (i : ℕ). content_in outpoint_cmp map (record { txid = txid; index = i })) (omega (arith, less, last)) ∙ none

pub copied_none : {T : Type 0} (found : Option (Bor T)) → is_some found ≡ false → option_copied found ≡ None
copied_none None is = refl
copied_none (Some value) is = absurd (true≢false is)

pub copied_some : {T : Type 0} (found : Option (Bor T)) → is_some found ≡ true → option_copied found ≡ None → ⊥
copied_some None is none = true≢false (sym is)
copied_some (Some value) is none = true≢false (ap is_some none)
