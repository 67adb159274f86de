-- What the parts of the test of a change say together.
use Rattle.std.proofs.Common.{◌≡◌, ◌∙◌, ℕ, ◌+◌, ◌<◌, ap₂, Bool, true, false, cond, not, List, [], ◌∷◌, ◌++◌, get_or, length, take, refl, sym, ap, subst, Option, Some, None, Ordering, Result, Ok, Err}
use Rattle.std.specs.Prelude.{◌&&◌, ◌||◌, ◌==◌, if◌then◌else◌, is_some, nat_lt, IfOk, IfSome, IsTrue}
use Rattle.std.specs.BTreeMap.{is_at}
use Rattle.std.specs.FinMap.{find, get}
use Rattle.std.specs.Map.{lookup}
use Rattle.std.specs.Ordering.{is_eq}
use Rattle.std.specs.declared.cmp.Ordering.TheVariants.{Equal}
use Rattle.std.proofs.lemmas.List.{append-nil, take_more}
use Rattle.ox_block.specs.declared.block.OutPoint.{OutPoint}
use Rattle.ox_range.specs.Numbers.{numbers_from}
use Rattle.ox_range.specs.Runs.{numbers_of}
use Rattle.ox_range.specs.declared.runs.Run.{Run}
use Rattle.ox_range.proofs.RunLemmas.{numbers-append, numbers-cons, numbers-none}
use Rattle.ox_rules.specs.Differences.{other_end}
use Rattle.ox_rules.specs.Outputs.{outpoint_cmp}
use Rattle.ox_rules.proofs.DifferenceLemmas.{or_else}
use Rattle.ox_rules.proofs.Orders.{outpoints_exact, outpoints_total}
use Rattle.ox_plain.specs.Tables.{table_of}
use Rattle.ox_sound.proofs.ExchangeLemmas.{get_other}
use Rattle.ox_sound.proofs.TableLemmas.{get_back}
use Rattle.std.specs.List.{list_all, list_any}
use Rattle.std.proofs.lemmas.Bool.{and_from, and_parts}
use Rattle.ox_sat.specs.declared.profiles.Profile.{Profile}
use Rattle.ox_runestone.specs.declared.stone.RuneId.{RuneId}
use Rattle.ox_allocation.specs.Balances.{Balance, id_cmp, is_same}
use Rattle.ox_etching.specs.declared.row.RuneRow.{RuneRow}
use Rattle.ox_ledger.specs.Part.{change_at, row_at_end, rows_at_end}
use Rattle.ox_ledger.specs.declared.part.CountChange.{CountChange}
use Rattle.ox_ledger.specs.Runes.{Placement, by_id}
use Rattle.ox_model.specs.Change.{redone}
use Rattle.ox_model.specs.Index.{Index}
use Rattle.ox_model.specs.declared.change.Change.{Change}
use Rattle.ox_sound.specs.Keeps.{KeepsAmounts, KeepsRunes, balances_keep, count_keeps, has_new_id, is_named_apart, new_runes_keep}
use Rattle.ox_sound.specs.Rows.{are_amounts, are_known, ids_differ, is_amount, is_bounded, names_differ, rise}
use Rattle.ox_sound.proofs.CountedLemmas.{later, stays_fixed}

-- ---- new runes

all_apart : (runes : List RuneRow) → list_all (is_named_apart []) runes ≡ true
all_apart [] = refl
all_apart (row ∷ runes) = all_apart runes

pub nothing_new : (p : Profile) (height : ℕ) (runes appended : List RuneRow) → appended ≡ [] → new_runes_keep p height runes appended ≡ true
unfolding ids_differ names_differ
nothing_new p height runes appended none = ap (new_runes_keep p height runes) none ∙ all_apart runes

apart_is : (met : ℕ → Bool) (appended : List RuneRow) → ((name : ℕ) → met name ≡ list_any (λ (row : RuneRow). row.name == name) appended) → (runes : List RuneRow)
    → list_all (λ (row : RuneRow). not (met row.name)) runes ≡ list_all (is_named_apart appended) runes
apart_is met appended are [] = refl
apart_is met appended are (row ∷ runes) = ap₂ (λ (a b : Bool). a && b) (ap not (are row.name)) (apart_is met appended are runes)

pub all_new : (p : Profile) (height : ℕ) (runes appended : List RuneRow) (met : ℕ → Bool) → list_all (λ (row : RuneRow). has_new_id p height row && is_bounded row) appended ≡ true
    → ids_differ appended ≡ true → names_differ appended ≡ true → ((name : ℕ) → met name ≡ list_any (λ (row : RuneRow). row.name == name) appended)
    → list_all (λ (row : RuneRow). not (met row.name)) runes ≡ true → new_runes_keep p height runes appended ≡ true
all_new p height runes appended met rows ids names are apart =
    and_from (ids_differ appended && names_differ appended && list_all (λ (row : RuneRow). has_new_id p height row && is_bounded row) appended) (list_all (is_named_apart appended) runes)
    (and_from (ids_differ appended && names_differ appended) (list_all (λ (row : RuneRow). has_new_id p height row && is_bounded row) appended)
    (and_from (ids_differ appended) (names_differ appended) ids names) rows)
    (sym (apart_is met appended are runes) ∙ apart)

-- ---- runes that are there after

found_in_two : (first second : List RuneRow) (id : RuneId) → is_some (by_id (first ++ second) id) ≡ (is_some (by_id first id) || is_some (by_id second id))
unfolding by_id
found_in_two [] second id = refl
found_in_two (row ∷ first) second id = by_test (found_in_two first second id) (is_same row.id id) where
  by_test : is_some (by_id (first ++ second) id) ≡ (is_some (by_id first id) || is_some (by_id second id)) → (b : Bool)
      → is_some (if b then Some row else by_id (first ++ second) id) ≡ (is_some (if b then Some row else by_id first id) || is_some (by_id second id))
  by_test rest true = refl
  by_test rest false = rest

some_if : (b : Bool) (x : RuneRow) (rest : Option RuneRow) → is_some (if b then Some x else rest) ≡ (if b then true else is_some rest)
some_if true x rest = refl
some_if false x rest = refl

still_found : (changes : List CountChange) (place : ℕ) (rows : List RuneRow) (id : RuneId) → is_some (by_id (rows_at_end later changes place rows) id) ≡ is_some (by_id rows id)
unfolding by_id rows_at_end
still_found changes place [] id = refl
still_found changes place (row ∷ rows) id =
    let same : is_same (row_at_end later (change_at changes place) row).id id ≡ is_same row.id id =
    ap (λ (q : RuneId). is_same q id) (stays_fixed (λ (r : RuneRow). r.id) (λ r n m. refl) (change_at changes place) row) in
    some_if (is_same (row_at_end later (change_at changes place) row).id id) (row_at_end later (change_at changes place) row) (by_id (rows_at_end later changes (place + 1) rows) id)
    ∙ ap₂ (λ (t u : Bool). if t then true else u) same (still_found changes (place + 1) rows id)
    ∙ sym (some_if (is_same row.id id) row (by_id rows id))

-- a rune is there after where it was, or is new
pub found_after : (before : Index) (change : Change) (id : RuneId) → is_some (by_id (redone before change).runes id) ≡ (is_some (by_id before.runes id) || is_some (by_id change.runes.appended id))
found_after before change id =
    found_in_two (rows_at_end later change.runes.counts 0 before.runes) change.runes.appended id
    ∙ ap (λ (b : Bool). b || is_some (by_id change.runes.appended id)) (still_found change.runes.counts 0 before.runes id)

each_known : (f g : RuneId → Bool) → ((id : RuneId) → f id ≡ g id) → (balances : List Balance) → list_all (is_amount f) balances ≡ list_all (is_amount g) balances
each_known f g same [] = refl
each_known f g same (b ∷ balances) = ap₂ (λ (s t : Bool). s && t) (ap (λ (t : Bool). nat_lt 0 b.1 && t) (same b.0)) (each_known f g same balances)

all_known : (f g : RuneId → Bool) → ((id : RuneId) → f id ≡ g id) → (rows : List Placement) → list_all (λ (row : Placement). are_amounts f row.1) rows ≡ list_all (λ (row : Placement). are_amounts g row.1) rows
all_known f g same [] = refl
all_known f g same (row ∷ rows) = ap₂ (λ (s t : Bool). s && t) (ap (λ (t : Bool). nat_lt 0 (length row.1) && rise row.1 && t) (each_known f g same row.1)) (all_known f g same rows)

-- balances of runes that are found are of runes that are there after
pub balances_after : (before : Index) (change : Change)
    → list_all (λ (row : Placement). are_amounts (λ id. is_some (by_id before.runes id) || is_some (by_id change.runes.appended id)) row.1) change.runes.after ≡ true
    → balances_keep (redone before change).runes change.runes.after ≡ true
unfolding are_known
balances_after before change all =
    all_known (λ (id : RuneId). is_some (by_id (redone before change).runes id)) (λ (id : RuneId). is_some (by_id before.runes id) || is_some (by_id change.runes.appended id))
    (found_after before change) change.runes.after ∙ all

-- ---- a rune among others

pub found_in_front : (id : RuneId) (left front back : List RuneRow) → left ≡ front ++ back → is_some (by_id front id) ≡ true → is_some (by_id left id) ≡ true
found_in_front id left front back cut some =
    ap (λ (rows : List RuneRow). is_some (by_id rows id)) cut ∙ found_in_two front back id ∙ ap (λ (b : Bool). b || is_some (by_id back id)) some

or_last : (a b : Bool) → b ≡ true → (a || b) ≡ true
or_last true b is = refl
or_last false b is = is

some_last : (b : Bool) (x : RuneRow) (rest : Option RuneRow) → is_some rest ≡ true → is_some (if b then Some x else rest) ≡ true
some_last true x rest is = refl
some_last false x rest is = is

pub found_behind : (id : RuneId) (left front back rest : List RuneRow) (row : RuneRow) → left ≡ front ++ back → back ≡ row ∷ rest → is_some (by_id rest id) ≡ true → is_some (by_id left id) ≡ true
unfolding by_id
found_behind id left front back rest row cut first some =
    ap (λ (rows : List RuneRow). is_some (by_id rows id)) cut ∙ found_in_two front back id
    ∙ or_last (is_some (by_id front id)) (is_some (by_id back id)) (ap (λ (rows : List RuneRow). is_some (by_id rows id)) first ∙ some_last (is_same row.id id) row (by_id rest id) some)

pub found_here : (id : RuneId) (left front back rest : List RuneRow) (row : RuneRow) → left ≡ front ++ back → back ≡ row ∷ rest → id_cmp row.id id ≡ Equal → is_some (by_id left id) ≡ true
unfolding by_id
found_here id left front back rest row cut first same =
    ap (λ (rows : List RuneRow). is_some (by_id rows id)) cut ∙ found_in_two front back id
    ∙ or_last (is_some (by_id front id)) (is_some (by_id back id))
    (ap (λ (rows : List RuneRow). is_some (by_id rows id)) first ∙ ap (λ (r : Ordering). is_some (if is_eq r then Some row else by_id rest id)) same)

-- ---- satoshis

pub joined_more : (runs : List Run) (i : ℕ) (d : Run) (list new : List ℕ) → i < length runs → list ≡ numbers_of (take i runs) → new ≡ list ++ numbers_from (get_or runs i d).first (get_or runs i d).count → new ≡ numbers_of (take (i + 1) runs)
joined_more runs i d list new h before is =
    let one : numbers_of (get_or runs i d ∷ []) ≡ numbers_from (get_or runs i d).first (get_or runs i d).count =
    numbers-cons (get_or runs i d) [] ∙ ap (λ (ns : List ℕ). numbers_from (get_or runs i d).first (get_or runs i d).count ++ ns) numbers-none ∙ append-nil (numbers_from (get_or runs i d).first (get_or runs i d).count) in
    is ∙ ap (λ (ns : List ℕ). ns ++ numbers_from (get_or runs i d).first (get_or runs i d).count) before
    ∙ ap (λ (ns : List ℕ). numbers_of (take i runs) ++ ns) (sym one) ∙ sym (numbers-append (take i runs) (get_or runs i d ∷ [])) ∙ ap numbers_of (sym (take_more runs i d h))

pub found_weaker : {E : Type 0} (r : Result (Option (List ℕ)) E) (P Q : List ℕ → Type 0) → ((list : List ℕ) → P list → Q list) → IfOk r (λ found. IfSome found P) → IfOk r (λ found. IfSome found Q)
found_weaker (Ok None) P Q step is = is
found_weaker (Ok (Some list)) P Q step is = step list is
found_weaker (Err e) P Q step is = is

-- ---- outpoints

either : {X : Type 0} (came went stood : Option X) → (is_some came || (is_some stood && not (is_some went))) ≡ is_some (or_else came (cond (is_some went) None stood))
either (Some x) went stood = refl
either None None None = refl
either None None (Some x) = refl
either None (Some x) None = refl
either None (Some x) (Some y) = refl

pub stands_either : {X : Type 0} (entries : List (OutPoint × X)) (gone came : List (OutPoint × X)) (at : OutPoint) (a b g : Bool) → a ≡ is_some (find outpoint_cmp at came)
    → b ≡ is_some (lookup (is_at (outpoint_cmp at)) entries) → g ≡ is_some (find outpoint_cmp at gone)
    → (a || (b && not g)) ≡ is_some (get (other_end (table_of entries) (record { gone = came; came = gone })) at)
stands_either entries gone came at a b g comes stood went =
    ap (λ (t : Bool). t || (b && not g)) comes
    ∙ ap (λ (t : Bool). is_some (find outpoint_cmp at came) || (t && not g)) (stood ∙ ap is_some (sym (get_back entries at)))
    ∙ ap (λ (t : Bool). is_some (find outpoint_cmp at came) || (is_some (get (table_of entries) at) && not t)) went
    ∙ either (find outpoint_cmp at came) (find outpoint_cmp at gone) (get (table_of entries) at)
    ∙ sym (ap is_some (get_other outpoints_total outpoints_exact (table_of entries) (record { gone = gone; came = came }) at))

-- ---- all of it

pub answer_weaker : {E : Type 0} (r : Result Bool E) (P Q : Type 0) → (P → Q) → IfOk r (λ keep. IsTrue keep → P) → IfOk r (λ keep. IsTrue keep → Q)
answer_weaker (Ok keep) P Q step is = λ yes. step (is yes)
answer_weaker (Err e) P Q step is = is

pub either_found : (a b x y : Bool) → (a ≡ true → x ≡ true) → (b ≡ true → y ≡ true) → (a || b) ≡ true → (x || y) ≡ true
either_found true b x y first second is = ap (λ (t : Bool). t || y) (first refl)
either_found false b x y first second is = or_last x y (second is)

pub runes_keep : (p : Profile) (before : Index) (change : Change) (runes appended : List RuneRow) (counts : List CountChange) (came : List Placement) (height : ℕ)
    → runes ≡ before.runes → appended ≡ change.runes.appended → counts ≡ change.runes.counts → came ≡ change.runes.after → height ≡ length before.hashes
    → list_all (count_keeps runes) counts ≡ true → list_all (λ (row : Placement). are_amounts (λ id. is_some (by_id runes id) || is_some (by_id appended id)) row.1) came ≡ true
    → new_runes_keep p height runes appended ≡ true → KeepsAmounts runes change.runes → KeepsRunes p before change
runes_keep p before change runes appended counts came height rs news cs bs hs counted balanced new amounts = record {
  new = ap (λ (n : ℕ). new_runes_keep p n before.runes change.runes.appended) (sym hs) ∙ ap₂ (new_runes_keep p height) (sym rs) (sym news) ∙ new;
  counts = ap₂ (λ (r : List RuneRow) (c : List CountChange). list_all (count_keeps r) c) (sym rs) (sym cs) ∙ counted;
  balances = balances_after before change
      (ap (λ (r : List RuneRow). list_all (λ (row : Placement). are_amounts (λ id. is_some (by_id r id) || is_some (by_id change.runes.appended id)) row.1) change.runes.after) (sym rs)
      ∙ ap₂ (λ (a : List RuneRow) (b : List Placement). list_all (λ (row : Placement). are_amounts (λ id. is_some (by_id runes id) || is_some (by_id a id)) row.1) b) (sym news) (sym bs) ∙ balanced);
  amounts = subst (λ (r : List RuneRow). KeepsAmounts r change.runes) rs amounts;
}

each_second : (a b : RuneRow → Bool) (rows : List RuneRow) → list_all (λ (row : RuneRow). a row && b row) rows ≡ true → list_all b rows ≡ true
each_second a b [] is = refl
each_second a b (row ∷ rows) is =
    let parts = and_parts (a row && b row) (list_all (λ (r : RuneRow). a r && b r) rows) is in
    and_from (b row) (list_all b rows) (and_parts (a row) (b row) parts.0).1 (each_second a b rows parts.1)

pub new_bounded : (p : Profile) (height : ℕ) (runes appended mine : List RuneRow) → appended ≡ mine → new_runes_keep p height runes appended ≡ true → list_all is_bounded mine ≡ true
new_bounded p height runes appended mine same is =
    let rows = list_all (λ (row : RuneRow). has_new_id p height row && is_bounded row) appended in
    let first = and_parts (ids_differ appended && names_differ appended && rows) (list_all (is_named_apart appended) runes) is in
    let second = and_parts (ids_differ appended && names_differ appended) rows first.0 in
    ap (list_all is_bounded) (sym same) ∙ each_second (has_new_id p height) is_bounded appended second.1
