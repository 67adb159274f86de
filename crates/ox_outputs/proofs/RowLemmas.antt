-- The runs of outputs, where each of their satoshis stands once.
use Rattle.std.proofs.Common.{◌≡◌, ◌≢◌, ◌∙◌, ℕ, ◌+◌, ◌<◌, ◌≤◌, ◌==◌, Bool, true, false, cond, List, [], ◌∷◌, length, refl, sym, ap, subst, arith, Option, Some, None, inl, inr, ⊎_elim, Ordering, nat_lt, T}
use Rattle.std.specs.Prelude.{◌⊎◌, ◌&&◌, ◌||◌, nat_le, if◌then◌else◌}
use Rattle.std.specs.Ordering.{nat_cmp, is_eq, is_lt, eq_by_cmp}
use Rattle.std.specs.declared.cmp.Ordering.TheVariants.{Less, Equal, Greater}
use Rattle.std.specs.Cmp.{eq_by_cmp_equiv}
use Rattle.std.specs.BTreeMap.{is_at}
use Rattle.std.specs.List.{position_or_len, list_any}
use Rattle.std.specs.Option.{option_and_then, option_map_or, option_map}
use Rattle.std.specs.FinMap.{entries, entries_sorted, get, get-entries, find, is_sorted}
use Rattle.std.specs.FinMap.Entries.{below_all, find_tied}
use Rattle.std.proofs.lemmas.Bool.{cases_lt, cases_eq, ne_eqb, eq-eqb}
use Rattle.std.proofs.lemmas.Bool.Decides.{nat_tests}
use Rattle.std.proofs.lemmas.Cmp.{nat_cmp_total}
use Rattle.ox_block.specs.declared.block.OutPoint.{OutPoint}
use Rattle.ox_range.specs.declared.runs.Run.{Run}
use Rattle.ox_range.specs.Numbers.{numbers_from}
use Rattle.ox_range.specs.Runs.{numbers_of, runs_of, runs_with}
use Rattle.ox_range.proofs.RunLemmas.{numbers-none, numbers-cons, numbers_of-runs_of, position_some, position_none}
use Rattle.ox_rules.specs.declared.rows.OutRow.{OutRow}
use Rattle.ox_rules.specs.declared.place.Place.{Place}
use Rattle.ox_rules.specs.declared.place.Place.TheVariants.{Out}
use Rattle.ox_rules.specs.Outputs.{Outputs, outpoint_cmp, times, MayStand}
use Rattle.ox_rules.specs.Where.{place_in, place_among}
use Rattle.ox_rules.proofs.Orders.{outpoints_total, outpoints_exact}
use Rattle.ox_rules.proofs.Conservation.{times-append}
use Rattle.ox_rules.proofs.Transfers.{counts_numbers}
use Rattle.ox_outputs.specs.Slots.{SlotList, outpoint_at, row_at, slot_at, rows_of}
use Rattle.ox_outputs.specs.Slots.{Slot}
use Rattle.ox_outputs.specs.Starts.{is_among, firsts_of, BeginsLast}
use Rattle.ox_outputs.specs.Located.{StandOnce, LeadTo, begins, begins_in, counted, standing, place_held}
use Rattle.ox_outputs.proofs.SlotLemmas.{equal}
use Rattle.ox_outputs.proofs.PlaceLemmas.{AreApart, get-at_place, is_same, same_or_not, not_both}
use Rattle.ox_outputs.proofs.StartLemmas.{either_true, same_as, stands_so}

-- ---- runs have numbers

abbrev pub AreSome : List Run → Type 0
AreSome [] = Unit {0}
AreSome (run ∷ runs) = (0 < run.count) × AreSome runs

some_either : (b : Bool) (xs ys : List Run) → AreSome xs → AreSome ys → AreSome (cond b xs ys)
some_either true xs ys one two = one
some_either false xs ys one two = two

some_with : (number : ℕ) (runs : List Run) → AreSome runs → AreSome (runs_with number runs)
some_with number [] some = (omega arith, tt)
some_with number (run ∷ runs) some = some_either (number + 1 == run.first) _ _ (omega arith, some.1) (omega arith, some)

pub some_runs : (numbers : List ℕ) → AreSome (runs_of numbers)
unfolding runs_of
some_runs [] = tt
some_runs (number ∷ numbers) = some_with number (runs_of numbers) (some_runs numbers)

-- ---- how often a number stands in runs

times_cons : (x : ℕ) (run : Run) (runs : List Run) → times x (numbers_of (run ∷ runs)) ≡ times x (numbers_from run.first run.count) + times x (numbers_of runs)
times_cons x run runs = ap (times x) (numbers-cons run runs) ∙ times-append x (numbers_from run.first run.count) (numbers_of runs)

one_here : (t x f e : ℕ) → t + (if nat_lt x f then 1 else 0) ≡ (if nat_lt x e then 1 else 0) → f ≤ x → x < e → t ≡ 1
one_here t x f e is low high = grind (arith, nat_tests)

low_here : (t x f e : ℕ) → t + (if nat_lt x f then 1 else 0) ≡ (if nat_lt x e then 1 else 0) → 1 ≤ t → f ≤ x
low_here t x f e is some = grind (arith, nat_tests)

high_here : (t x f e : ℕ) → t + (if nat_lt x f then 1 else 0) ≡ (if nat_lt x e then 1 else 0) → 1 ≤ t → x < e
high_here t x f e is some = grind (arith, nat_tests)

within_one : (x first count : ℕ) → first ≤ x → x < first + count → times x (numbers_from first count) ≡ 1
within_one x first count low high = one_here _ x first (first + count) (counts_numbers x first count) low high

one_within : (x first count : ℕ) → 1 ≤ times x (numbers_from first count) → (first ≤ x) × (x < first + count)
one_within x first count some = (low_here _ x first (first + count) (counts_numbers x first count) some, high_here _ x first (first + count) (counts_numbers x first count) some)

-- ---- the numbers of a run

number_itself : (a : ℕ) → is_at (nat_cmp a) a ≡ true
number_itself a = (eq_by_cmp_equiv nat_cmp_total).refl a

behind : (a b : Bool) → b ≡ true → (a || b) ≡ true
behind true b is = refl
behind false b is = is

-- a number that a run begins with stands in the runs
pub hit : (f : ℕ) (runs : List Run) → AreSome runs → is_among (firsts_of runs) f ≡ true → 1 ≤ times f (numbers_of runs)
hit f [] some is = absurd (cc is)
hit f (run ∷ runs) some is = ⊎_elim
    (λ here. let first = same_as f run.first here in
    let one = within_one f run.first run.count (omega (arith, first)) (omega (arith, first, some.0)) in
    omega (arith, one, times_cons f run runs))
    (λ more. omega (arith, hit f runs some.1 more, times_cons f run runs))
    (either_true (is_at (nat_cmp f) run.first) (is_among (firsts_of runs) f) is)

-- whether the run of these that begins with this number has this satoshi
abbrev pub has_from : List Run → ℕ → ℕ → Bool
has_from runs first sat =
    list_any (λ run. (run.first == first) && (nat_le first sat && nat_lt sat (first + run.count)))
    runs

record IsFrom (run : Run) (first sat : ℕ) : Type 0 where
  pub same : run.first ≡ first
  pub low : first ≤ sat
  pub high : sat < first + run.count

from_tests : (run : Run) (first sat : ℕ) → ((run.first == first) && (nat_le first sat && nat_lt sat (first + run.count))) ≡ true → IsFrom run first sat
from_tests run first sat is = record {
  same = grind (arith, nat_tests);
  low = grind (arith, nat_tests);
  high = grind (arith, nat_tests);
}

tests_from : (run : Run) (sat : ℕ) → run.first ≤ sat → sat < run.first + run.count → ((run.first == run.first) && (nat_le run.first sat && nat_lt sat (run.first + run.count))) ≡ true
tests_from run sat low high = grind (arith, nat_tests)

from_either : (run : Run) (runs : List Run) (first sat : ℕ) → has_from (run ∷ runs) first sat ≡ true → IsFrom run first sat ⊎ (has_from runs first sat ≡ true)
from_either run runs first sat is = ⊎_elim
    (λ here. inl (from_tests run first sat here))
    (λ more. inr more)
    (either_true _ _ is)

-- the run begins at its satoshi or before
pub from_low : (runs : List Run) (first sat : ℕ) → has_from runs first sat ≡ true → first ≤ sat
from_low [] first sat is = absurd (cc is)
from_low (run ∷ runs) first sat is = ⊎_elim (λ here. here.low) (λ more. from_low runs first sat more) (from_either run runs first sat is)

-- and is one of the runs
pub from_among : (runs : List Run) (first sat : ℕ) → has_from runs first sat ≡ true → is_among (firsts_of runs) first ≡ true
from_among [] first sat is = absurd (cc is)
from_among (run ∷ runs) first sat is = ⊎_elim
    (λ here. ap (λ (b : Bool). b || is_among (firsts_of runs) first) (ap (is_at (nat_cmp first)) here.same ∙ number_itself first))
    (λ more. behind (is_at (nat_cmp first) run.first) (is_among (firsts_of runs) first) (from_among runs first sat more))
    (from_either run runs first sat is)

-- all numbers in between stand there
pub from_within : (runs : List Run) (first sat g : ℕ) → has_from runs first sat ≡ true → first ≤ g → g ≤ sat → 1 ≤ times g (numbers_of runs)
from_within [] first sat g is low high = absurd (cc is)
from_within (run ∷ runs) first sat g is low high = ⊎_elim
    (λ here. let one = within_one g run.first run.count (omega (arith, here.same, low)) (omega (arith, here.same, here.high, high)) in
    omega (arith, one, times_cons g run runs))
    (λ more. omega (arith, from_within runs first sat g more low high, times_cons g run runs))
    (from_either run runs first sat is)

-- so a number with which another run begins would stand there twice
pub from_twice : (runs : List Run) (first sat g : ℕ) → AreSome runs → has_from runs first sat ≡ true → first < g → g ≤ sat → is_among (firsts_of runs) g ≡ true → 2 ≤ times g (numbers_of runs)
from_twice [] first sat g some is low high among = absurd (cc is)
from_twice (run ∷ runs) first sat g some is low high among = ⊎_elim
    (λ here. ⊎_elim
    (λ is. absurd (let same = same_as g run.first is in omega (arith, same, here.same, low)))
    (λ other. let one = within_one g run.first run.count (omega (arith, here.same, low)) (omega (arith, here.same, here.high, high)) in
    omega (arith, one, hit g runs some.1 other, times_cons g run runs))
    begun)
    (λ more. ⊎_elim
    (λ is. let same = same_as g run.first is in
    let one = within_one g run.first run.count (omega (arith, same)) (omega (arith, same, some.0)) in
    omega (arith, one, from_within runs first sat g more (omega (arith, low)) high, times_cons g run runs))
    (λ other. omega (arith, from_twice runs first sat g some.1 more low high other, times_cons g run runs))
    begun)
    (from_either run runs first sat is)
  where
    begun : (is_at (nat_cmp g) run.first ≡ true) ⊎ (is_among (firsts_of runs) g ≡ true)
    begun = either_true (is_at (nat_cmp g) run.first) (is_among (firsts_of runs) g) among

-- a number of runs stands in one of them
pub met : (sat : ℕ) (runs : List Run) → 1 ≤ times sat (numbers_of runs) → (first : ℕ) × (has_from runs first sat ≡ true)
met sat [] is = absurd (let none = ap (times sat) numbers-none in omega (arith, none, is))
met sat (run ∷ runs) is = ⊎_elim
    (λ here. let within = one_within sat run.first run.count (omega (arith, here)) in
    (run.first, ap (λ (b : Bool). b || has_from runs run.first sat) (tests_from run sat within.0 within.1)))
    (λ there. let more = met sat runs (omega (arith, there, times_cons sat run runs, is)) in
    (more.0, behind _ _ more.1))
    (cases_lt 0 (times sat (numbers_from run.first run.count)))

-- ---- the runs of a row

pub times_row : (sat : ℕ) (sats : List ℕ) → times sat (numbers_of (runs_of sats)) ≡ times sat sats
times_row sat sats = ap (times sat) (numbers_of-runs_of sats)

-- the row of which a run begins so
pub record IsBegun (outs : Outputs) (at : OutPoint) (f : ℕ) : Type 0 where
  pub row : OutRow
  pub there : get outs at ≡ Some row
  pub is : is_among (firsts_of (runs_of row.sats)) f ≡ true

pub begun_in : (outs : Outputs) (at : OutPoint) (f : ℕ) → begins outs at f ≡ true → IsBegun outs at f
begun_in outs at f is = by_row (get outs at) refl is where
  by_row : (o : Option OutRow) → get outs at ≡ o → option_map_or (λ (row : OutRow). is_among (firsts_of (runs_of row.sats)) f) o false ≡ true → IsBegun outs at f
  by_row None none is = absurd (cc is)
  by_row (Some row) there is = record { row = row; there = there; is = is }

pub in_row : (outs : Outputs) (at : OutPoint) (row : OutRow) (f : ℕ) → get outs at ≡ Some row → begins outs at f ≡ is_among (firsts_of (runs_of row.sats)) f
in_row outs at row f there = ap (λ (o : Option OutRow). option_map_or (λ (row : OutRow). is_among (firsts_of (runs_of row.sats)) f) o false) there

begun_times : (outs : Outputs) (at : OutPoint) (f : ℕ) → (b : IsBegun outs at f) → 1 ≤ times f b.row.sats
begun_times outs at f b = omega (arith, hit f (runs_of b.row.sats) (some_runs b.row.sats) b.is, times_row f b.row.sats)

one_row : (outs : Outputs) (a b : OutPoint) (r q : OutRow) → a ≡ b → get outs a ≡ Some r → get outs b ≡ Some q → r ≡ q
one_row outs a b r q same one two = let both : Some r ≡ Some q = sym one ∙ ap (get outs) same ∙ two in cc both

-- The starts are those of the runs of the outputs, all of them and no other: each with the place of
-- its output's slot.
pub record AreRuns (starts : ℕ → Option ℕ) (slots : SlotList) (outs : Outputs) : Type 0 where
  pub sound : (first place : ℕ) → starts first ≡ Some place
      → option_map_or (λ (at : OutPoint). begins outs at first) (outpoint_at slots place) false ≡ true
  pub complete : LeadTo starts slots outs

-- the output that a start is of
pub record IsOf (outs : Outputs) (slots : SlotList) (place f : ℕ) : Type 0 where
  pub at : OutPoint
  pub slot : outpoint_at slots place ≡ Some at
  pub is : begins outs at f ≡ true

of_output : (outs : Outputs) (slots : SlotList) (place f : ℕ) → option_map_or (λ (at : OutPoint). begins outs at f) (outpoint_at slots place) false ≡ true → IsOf outs slots place f
of_output outs slots place f is = by_slot (outpoint_at slots place) refl is where
  by_slot : (o : Option OutPoint) → outpoint_at slots place ≡ o → option_map_or (λ (at : OutPoint). begins outs at f) o false ≡ true → IsOf outs slots place f
  by_slot None none is = absurd (cc is)
  by_slot (Some at) slot is = record { at = at; slot = slot; is = is }

pub of_start : (starts : ℕ → Option ℕ) (slots : SlotList) (outs : Outputs) → AreRuns starts slots outs → (f place : ℕ) → starts f ≡ Some place → IsOf outs slots place f
of_start starts slots outs runs f place is = of_output outs slots place f (runs.sound f place is)

-- and the other way round
is_of : (outs : Outputs) (slots : SlotList) (place f : ℕ) (at : OutPoint) → outpoint_at slots place ≡ Some at → begins outs at f ≡ true → option_map_or (λ (at : OutPoint). begins outs at f) (outpoint_at slots place) false ≡ true
is_of outs slots place f at slot is = ap (λ (o : Option OutPoint). option_map_or (λ (at : OutPoint). begins outs at f) o false) slot ∙ is

-- the start of a run of an output
pub record IsAt (starts : ℕ → Option ℕ) (slots : SlotList) (at : OutPoint) (f : ℕ) : Type 0 where
  pub place : ℕ
  pub is : starts f ≡ Some place
  pub slot : outpoint_at slots place ≡ Some at

pub start_of : (starts : ℕ → Option ℕ) (slots : SlotList) (outs : Outputs) → LeadTo starts slots outs → (f : ℕ) (at : OutPoint) → begins outs at f ≡ true → IsAt starts slots at f
start_of starts slots outs lead f at begun = by_start (starts f) refl (lead f at begun) where
  by_start : (o : Option ℕ) → starts f ≡ o → option_and_then (λ (place : ℕ). outpoint_at slots place) o ≡ Some at → IsAt starts slots at f
  by_start None none is = absurd (cc is)
  by_start (Some place) is slot = record { place = place; is = is; slot = slot }

is_at_start : (starts : ℕ → Option ℕ) (slots : SlotList) (at : OutPoint) (f place : ℕ) → starts f ≡ Some place → outpoint_at slots place ≡ Some at → option_and_then (λ (place : ℕ). outpoint_at slots place) (starts f) ≡ Some at
is_at_start starts slots at f place is slot = ap (option_and_then (λ (place : ℕ). outpoint_at slots place)) is ∙ slot

-- how a run of the row in a slot begins
pub begun_at_place : (slots : SlotList) (place first : ℕ) → AreApart slots → option_map_or (λ (row : OutRow). is_among (firsts_of (runs_of row.sats)) first) (row_at slots place) false ≡ begins_in slots place first
begun_at_place slots place first apart = by_slot (slot_at slots place) refl where
  by_slot : (o : Option Slot) → slot_at slots place ≡ o → option_map_or (λ (row : OutRow). is_among (firsts_of (runs_of row.sats)) first) (row_at slots place) false ≡ begins_in slots place first
  by_slot None none =
      ap (λ (o : Option Slot). option_map_or (λ (row : OutRow). is_among (firsts_of (runs_of row.sats)) first) (option_and_then (λ (s : Slot). s.row) o) false) none
      ∙ sym (ap (λ (o : Option Slot). option_map_or (λ (at : OutPoint). begins (rows_of slots) at first) (option_map (λ (s : Slot). s.at) o) false) none)
  by_slot (Some slot) there =
      let here : outpoint_at slots place ≡ Some slot.at = ap (option_map (λ (s : Slot). s.at)) there in
      sym (ap (λ (o : Option OutRow). option_map_or (λ (row : OutRow). is_among (firsts_of (runs_of row.sats)) first) o false) (get-at_place slots place slot.at apart here))
      ∙ sym (ap (λ (o : Option OutPoint). option_map_or (λ (at : OutPoint). begins (rows_of slots) at first) o false) here)

-- of starts that lead to the runs of all rows, those that count are the starts of their runs
module _ (slots : SlotList) where
  standing_lead : (starts : ℕ → Option ℕ) → LeadTo starts slots (rows_of slots) → LeadTo (standing slots starts) slots (rows_of slots)
  standing_lead starts lead f at begun =
      let s = start_of starts slots (rows_of slots) lead f at begun in
      is_at_start (standing slots starts) slots at f s.place
      (ap (counted slots f) s.is ∙ ap (λ (b : Bool). cond b (Some s.place) None) (is_of (rows_of slots) slots s.place f at s.slot begun)) s.slot

  pub standing_runs : (starts : ℕ → Option ℕ) → LeadTo starts slots (rows_of slots) → AreRuns (standing slots starts) slots (rows_of slots)
  standing_runs starts lead = record {
    sound = λ f place is. (stands_so slots f (starts f) place is).1;
    complete = standing_lead starts lead;
  }

  -- so where the same count, they lead to all runs still
  pub lead_still : (starts starts' : ℕ → Option ℕ) → LeadTo starts slots (rows_of slots) → ((q : ℕ) → standing slots starts' q ≡ standing slots starts q) → LeadTo starts' slots (rows_of slots)
  lead_still starts starts' lead same f at begun =
      let s = start_of (standing slots starts) slots (rows_of slots) (standing_lead starts lead) f at begun in
      is_at_start starts' slots at f s.place (stands_so slots f (starts' f) s.place (same f ∙ s.is)).0 s.slot

-- ---- no run begins within another

within_none : (outs : Outputs) (at other : OutPoint) (row : OutRow) (first sat f : ℕ) → StandOnce outs → get outs at ≡ Some row → has_from (runs_of row.sats) first sat ≡ true → IsBegun outs other f → first < f → f ≤ sat → ⊥
within_none outs at other row first sat f once there held b low high = ⊎_elim
    (λ same. let is : is_among (firsts_of (runs_of row.sats)) f ≡ true = ap (λ (r : OutRow). is_among (firsts_of (runs_of r.sats)) f) (sym (one_row outs other at b.row row same b.there there)) ∙ b.is in
    let twice = from_twice (runs_of row.sats) first sat f (some_runs row.sats) held low high is in
    omega (arith, twice, once.alone at row f there, times_row f row.sats))
    (λ differ. let one = from_within (runs_of row.sats) first sat f held (omega (arith, low)) high in
    let most = once.apart other at b.row row f (λ e. not_both other at e differ) b.there there in
    omega (arith, one, most, begun_times outs other f b, times_row f row.sats))
    (same_or_not other at)

-- so the run that has a satoshi begins last of those that begin before it
pub begins_last : (starts : ℕ → Option ℕ) (slots : SlotList) (outs : Outputs) → AreRuns starts slots outs → StandOnce outs → (at : OutPoint) (row : OutRow) (first sat : ℕ) → get outs at ≡ Some row → has_from (runs_of row.sats) first sat ≡ true → BeginsLast starts first sat
begins_last starts slots outs runs once at row first sat there held = (from_low (runs_of row.sats) first sat held, last) where
  last : (f slot : ℕ) → starts f ≡ Some slot → f ≤ sat → f ≤ first
  last f slot is high = ⊎_elim
      (λ low. absurd (let o = of_start starts slots outs runs f slot is in within_none outs at o.at row first sat f once there held (begun_in outs o.at f o.is) low high))
      (λ fine. fine)
      (cases_lt first f)

-- ---- a row goes, and one comes

tested : {A : Type 0} (b c : Bool) (x y : A) → b ≡ c → cond b x y ≡ cond c x y
tested b c x y is = ap (λ (d : Bool). cond d x y) is

same_itself : (a : OutPoint) → is_same a a ≡ true
same_itself a = (eq_by_cmp_equiv outpoints_total).refl a

none_is : {A : Type 0} (x : A) → ◌≡◌ {A = Option A} None (Some x) → ⊥
none_is x is = absurd (cc is)

less : {A : Type 0} (b : Bool) (o : Option A) (s : A) → cond b None o ≡ Some s → (b ≡ false) × (o ≡ Some s)
less true o s is = absurd (cc is)
less false o s is = (refl, is)

-- which outpoint it is
which : (q at : OutPoint) → (q ≡ at) ⊎ (is_same q at ≡ false)
which q at = same_or_not q at

elsewhere : (outs outs' : Outputs) (q at : OutPoint) (f : ℕ) (new : Option OutRow) → get outs' q ≡ cond (is_same q at) new (get outs q) → is_same q at ≡ false → begins outs' q f ≡ begins outs q f
elsewhere outs outs' q at f new is other = ap (λ (o : Option OutRow). option_map_or (λ (row : OutRow). is_among (firsts_of (runs_of row.sats)) f) o false) (is ∙ tested (is_same q at) false new (get outs q) other)

here_is : (outs outs' : Outputs) (at : OutPoint) (new : Option OutRow) → get outs' at ≡ cond (is_same at at) new (get outs at) → get outs' at ≡ new
here_is outs outs' at new is = is ∙ tested (is_same at at) true new (get outs at) (same_itself at)

pub leave_rows : (live : ℕ → Option ℕ) (slots : SlotList) (outs outs' : Outputs) (at : OutPoint) → LeadTo live slots outs → ((q : OutPoint) → get outs' q ≡ cond (is_same q at) None (get outs q)) → LeadTo live slots outs'
leave_rows live slots outs outs' at lead gets f q is = ⊎_elim
    (λ same. absurd (let b = begun_in outs' q f is in none_is b.row (sym (ap (get outs') same ∙ here_is outs outs' at None (gets at)) ∙ b.there)))
    (λ other. lead f q (sym (elsewhere outs outs' q at f None (gets q) other) ∙ is))
    (which q at)

module _ (live live' : ℕ → Option ℕ) (slots : SlotList) (outs outs' : Outputs) (at : OutPoint) (row : OutRow) (place : ℕ) (gets : (q : OutPoint) → get outs' q ≡ cond (is_same q at) (Some row) (get outs q)) (may : MayStand at row.sats outs) where
  stands : get outs' at ≡ Some row
  stands = here_is outs outs' at (Some row) (gets at)

  -- no run of another output begins as those of satoshis do that may stand
  not_there : (f : ℕ) (q : OutPoint) → is_same q at ≡ false → begins outs q f ≡ true → (b : Bool) → is_among (firsts_of (runs_of row.sats)) f ≡ b → b ≡ false
  not_there f q other is false among = refl
  not_there f q other is true among = absurd (
      let b = begun_in outs q f is in
      let new = hit f (runs_of row.sats) (some_runs row.sats) among in
      let most = may.apart q b.row f (λ same. not_both q at same other) b.there in
      omega (arith, begun_times outs q f b, new, most, times_row f row.sats))

  pub arrive_rows : LeadTo live slots outs → outpoint_at slots place ≡ Some at → ((q : ℕ) → live' q ≡ cond (is_among (firsts_of (runs_of row.sats)) q) (Some place) (live q)) → LeadTo live' slots outs'
  arrive_rows lead slot comes f q is = ⊎_elim
      (λ same. let new = sym (in_row outs' at row f stands) ∙ ap (λ (a : OutPoint). begins outs' a f) (sym same) ∙ is in
      is_at_start live' slots q f place (comes f ∙ tested (is_among (firsts_of (runs_of row.sats)) f) true (Some place) (live f) new) (slot ∙ ap (λ (a : OutPoint). Some a) (sym same)))
      (λ other. let was = sym (elsewhere outs outs' q at f (Some row) (gets q) other) ∙ is in
      let s = start_of live slots outs lead f q was in
      is_at_start live' slots q f s.place (comes f ∙ tested (is_among (firsts_of (runs_of row.sats)) f) false (Some place) (live f) (not_there f q other was (is_among (firsts_of (runs_of row.sats)) f) refl) ∙ s.is) s.slot)
      (which q at)

-- ---- no satoshi stands twice

pub once_taken : (outs outs' : Outputs) (at : OutPoint) → StandOnce outs → ((q : OutPoint) → get outs' q ≡ cond (is_same q at) None (get outs q)) → StandOnce outs'
once_taken outs outs' at once gets = record {
  alone = λ q row sat is. once.alone q row sat (less (is_same q at) (get outs q) row (sym (gets q) ∙ is)).1;
  apart = λ a b r q sat differ is js. once.apart a b r q sat differ (less (is_same a at) (get outs a) r (sym (gets a) ∙ is)).1 (less (is_same b at) (get outs b) q (sym (gets b) ∙ js)).1;
}

-- what stands at an outpoint after a row was put at one
after : (outs outs' : Outputs) (at q : OutPoint) (row r : OutRow) → get outs' q ≡ cond (is_same q at) (Some row) (get outs q) → get outs' q ≡ Some r → ((q ≡ at) × (r ≡ row)) ⊎ ((is_same q at ≡ false) × (get outs q ≡ Some r))
after outs outs' at q row r gets is = ⊎_elim
    (λ same. let here = gets ∙ tested (is_same q at) true (Some row) (get outs q) (ap (λ (a : OutPoint). is_same a at) same ∙ same_itself at) in
    let one : Some r ≡ Some row = sym is ∙ here in inl (same, cc one))
    (λ other. inr (other, sym (gets ∙ tested (is_same q at) false (Some row) (get outs q) other) ∙ is))
    (which q at)

times_as : (sat : ℕ) (r row : OutRow) → r ≡ row → times sat r.sats ≡ times sat row.sats
times_as sat r row is = ap (λ (r : OutRow). times sat r.sats) is

differs : (q at : OutPoint) → is_same q at ≡ false → q ≢ at
differs q at other same = not_both q at same other

pub once_placed : (outs outs' : Outputs) (at : OutPoint) (row : OutRow) → StandOnce outs → MayStand at row.sats outs → ((q : OutPoint) → get outs' q ≡ cond (is_same q at) (Some row) (get outs q)) → StandOnce outs'
once_placed outs outs' at row once may gets = record { alone = alone; apart = apart } where
  alone : (q : OutPoint) (r : OutRow) (sat : ℕ) → get outs' q ≡ Some r → times sat r.sats ≤ 1
  alone q r sat is = ⊎_elim
      (λ new. let most = may.once sat in omega (arith, most, times_as sat r row new.1))
      (λ old. once.alone q r sat old.1)
      (after outs outs' at q row r (gets q) is)

  apart : (a b : OutPoint) (r q : OutRow) (sat : ℕ) → a ≢ b → get outs' a ≡ Some r → get outs' b ≡ Some q → times sat r.sats + times sat q.sats ≤ 1
  apart a b r q sat differ is js = ⊎_elim
      (λ new. ⊎_elim
      (λ too. absurd (differ (new.0 ∙ sym too.0)))
      (λ old. let most = may.apart b q sat (differs b at old.0) old.1 in omega (arith, most, times_as sat r row new.1))
      (after outs outs' at b row q (gets b) js))
      (λ was. ⊎_elim
      (λ too. let most = may.apart a r sat (differs a at was.0) was.1 in omega (arith, most, times_as sat q row too.1))
      (λ old. once.apart a b r q sat differ was.1 old.1)
      (after outs outs' at b row q (gets b) js))
      (after outs outs' at a row r (gets a) is)

-- ---- where a satoshi is

times_same : (x y : ℕ) (ys : List ℕ) → (y == x) ≡ true → times x (y ∷ ys) ≡ 1 + times x ys
times_same x y ys is =
    let one : times x (y ∷ []) ≡ 1 = ap (λ (b : Bool). 0 + (if b then 1 else 0)) is in
    omega (arith, times-append x (y ∷ []) ys, one)

times_other : (x y : ℕ) (ys : List ℕ) → (y == x) ≡ false → times x (y ∷ ys) ≡ times x ys
times_other x y ys is =
    let zero : times x (y ∷ []) ≡ 0 = ap (λ (b : Bool). 0 + (if b then 1 else 0)) is in
    omega (arith, times-append x (y ∷ []) ys, zero)

absent_place : (x : ℕ) (xs : List ℕ) → times x xs ≡ 0 → position_or_len (λ n. n == x) xs ≡ length xs
absent_place x [] none = refl
absent_place x (y ∷ ys) none = ⊎_elim
    (λ same. absurd (let one = times_same x y ys (eq-eqb y x same) in omega (arith, one, none)))
    (λ other. let differ = ne_eqb y x other in
    let rest = times_other x y ys differ in
    let more = absent_place x ys (omega (arith, rest, none)) in
    rw differ (omega (arith, more)))
    (cases_eq y x)

present_place : (x : ℕ) (xs : List ℕ) → 1 ≤ times x xs → position_or_len (λ n. n == x) xs < length xs
present_place x [] some = absurd (omega (arith, some))
present_place x (y ∷ ys) some = ⊎_elim
    (λ same. rw (eq-eqb y x same) (omega arith))
    (λ other. let differ = ne_eqb y x other in
    let rest = times_other x y ys differ in
    let more = present_place x ys (omega (arith, rest, some)) in
    rw differ (omega (arith, more)))
    (cases_eq y x)

place_some : (sats : List ℕ) (sat : ℕ) → 1 ≤ times sat sats → (offset : ℕ) × (place_in sats sat ≡ Some offset)
place_some sats sat some = (position_or_len (λ n. n == sat) sats, sym (position_some sats sat (position_or_len (λ n. n == sat) sats) refl (present_place sat sats some)))

absent_from : (sats : List ℕ) (sat : ℕ) → times sat sats ≡ 0 → place_in sats sat ≡ None
absent_from sats sat none = sym (position_none sats sat (absent_place sat sats none))

present_in : (sats : List ℕ) (sat offset : ℕ) → place_in sats sat ≡ Some offset → 1 ≤ times sat sats
present_in sats sat offset is = ⊎_elim
    (λ some. omega (arith, some))
    (λ zero. absurd (none_is offset (sym (absent_from sats sat (omega (arith, zero))) ∙ is)))
    (cases_lt 0 (times sat sats))

first_true : (a b : Bool) → T (a && b) → T a
first_true true b p = tt
first_true false b p = absurd p

second_true : (a b : Bool) → T (a && b) → T b
second_true true b p = p
second_true false b p = absurd p

less_order : (r : Ordering) → T (is_lt r) → is_eq r ≡ false
less_order Less p = refl
less_order Equal p = absurd p
less_order Greater p = absurd p

absent_key : (x : OutPoint) (es : List (OutPoint × OutRow)) → T (below_all outpoint_cmp x es) → find outpoint_cmp x es ≡ None
absent_key x [] below = refl
absent_key x (e ∷ es) below =
    ap (λ (b : Bool). cond b (Some e.1) (find outpoint_cmp x es)) (less_order (outpoint_cmp x e.0) (first_true _ _ below)) ∙ absent_key x es (second_true _ _ below)

-- a row behind another is found behind it
found_behind : (e : OutPoint × OutRow) (es : List (OutPoint × OutRow)) (k : OutPoint) (x : OutRow) → T (is_sorted outpoint_cmp (e ∷ es)) → find outpoint_cmp k es ≡ Some x → find outpoint_cmp k (e ∷ es) ≡ Some x
found_behind e es k x sorted is = by_test (eq_by_cmp outpoint_cmp k e.0) refl where
  by_test : (b : Bool) → eq_by_cmp outpoint_cmp k e.0 ≡ b → cond (eq_by_cmp outpoint_cmp k e.0) (Some e.1) (find outpoint_cmp k es) ≡ Some x
  by_test true tied = absurd (none_is x (sym (absent_key e.0 es (first_true _ _ sorted)) ∙ find_tied outpoint_cmp outpoints_total k e.0 (equal _ tied) es ∙ is))
  by_test false other = tested (eq_by_cmp outpoint_cmp k e.0) false (Some e.1) (find outpoint_cmp k es) other ∙ is

found_front : (e : OutPoint × OutRow) (es : List (OutPoint × OutRow)) → find outpoint_cmp e.0 (e ∷ es) ≡ Some e.1
found_front e es = tested (eq_by_cmp outpoint_cmp e.0 e.0) true (Some e.1) (find outpoint_cmp e.0 es) (same_itself e.0)

passed : (e : OutPoint × OutRow) (sat : ℕ) (rest : Option Place) → place_in e.1.sats sat ≡ None → option_map_or (λ offset. Some (Out e.0 offset)) (place_in e.1.sats sat) rest ≡ rest
passed e sat rest none = ap (λ (o : Option ℕ). option_map_or (λ offset. Some (Out e.0 offset)) o rest) none

none_among : (es : List (OutPoint × OutRow)) (sat : ℕ) → T (is_sorted outpoint_cmp es) → ((k : OutPoint) (x : OutRow) → find outpoint_cmp k es ≡ Some x → place_in x.sats sat ≡ None) → place_among es sat ≡ None
none_among [] sat sorted none = refl
none_among (e ∷ es) sat sorted none =
    passed e sat (place_among es sat) (none e.0 e.1 (found_front e es))
    ∙ none_among es sat (second_true _ _ sorted) (λ k x is. none k x (found_behind e es k x sorted is))

one_first : (b : Bool) (e : OutPoint × OutRow) (es : List (OutPoint × OutRow)) (sat : ℕ) (at : OutPoint) (row : OutRow) (offset : ℕ) → eq_by_cmp outpoint_cmp at e.0 ≡ b → cond b (Some e.1) (find outpoint_cmp at es) ≡ Some row → place_in row.sats sat ≡ Some offset → (e.0 ≢ at → place_in e.1.sats sat ≡ None) → (find outpoint_cmp at es ≡ Some row → place_among es sat ≡ Some (Out at offset)) → place_among (e ∷ es) sat ≡ Some (Out at offset)
one_first true e es sat at row offset tied is holds none more =
    let same : at ≡ e.0 = outpoints_exact at e.0 (equal _ tied) in
    let one : e.1 ≡ row = cc is in
    ap (λ (o : Option ℕ). option_map_or (λ offset. Some (Out e.0 offset)) o (place_among es sat)) (ap (λ (r : OutRow). place_in r.sats sat) one ∙ holds)
    ∙ ap (λ (a : OutPoint). Some (Out a offset)) (sym same)
one_first false e es sat at row offset other is holds none more =
    passed e sat (place_among es sat) (none (λ same. not_both at e.0 (sym same) other)) ∙ more is

one_among : (es : List (OutPoint × OutRow)) (sat : ℕ) (at : OutPoint) (row : OutRow) (offset : ℕ) → T (is_sorted outpoint_cmp es) → find outpoint_cmp at es ≡ Some row → place_in row.sats sat ≡ Some offset → ((k : OutPoint) (x : OutRow) → find outpoint_cmp k es ≡ Some x → k ≢ at → place_in x.sats sat ≡ None) → place_among es sat ≡ Some (Out at offset)
one_among [] sat at row offset sorted is holds none = absurd (none_is row is)
one_among (e ∷ es) sat at row offset sorted is holds none =
    one_first (eq_by_cmp outpoint_cmp at e.0) e es sat at row offset refl is holds (none e.0 e.1 (found_front e es))
    (λ more. one_among es sat at row offset (second_true _ _ sorted) more holds (λ k x found. none k x (found_behind e es k x sorted found)))

not_held : (sats : List ℕ) (sat : ℕ) → place_in sats sat ≡ None → 1 ≤ times sat sats → ⊥
not_held sats sat none some = let m = place_some sats sat some in none_is m.0 (sym none ∙ m.1)

-- what is found is the slot of the run that begins last
abbrev pub FindsLast : (ℕ → Option ℕ) → ℕ → Option ℕ → Type 0
FindsLast live sat found = (first slot : ℕ) → live first ≡ Some slot → BeginsLast live first sat → found ≡ Some slot

module _ (live : ℕ → Option ℕ) (slots : SlotList) (outs : Outputs) (sat : ℕ) (found : Option ℕ) (runs : AreRuns live slots outs) (once : StandOnce outs) (last : FindsLast live sat found) where
  -- the slot of the output that holds it
  found_of : (k : OutPoint) (x : OutRow) → get outs k ≡ Some x → 1 ≤ times sat x.sats → (slot : ℕ) × (found ≡ Some slot) × (outpoint_at slots slot ≡ Some k)
  found_of k x there some =
      let m = met sat (runs_of x.sats) (omega (arith, some, times_row sat x.sats)) in
      let s = start_of live slots outs runs.complete m.0 k (in_row outs k x m.0 there ∙ from_among (runs_of x.sats) m.0 sat m.1) in
      (s.place, last m.0 s.place s.is (begins_last live slots outs runs once k x m.0 sat there m.1), s.slot)

  pub found_none : found ≡ None → place_among (entries outs) sat ≡ None
  found_none none = none_among (entries outs) sat (entries_sorted outs) (λ k x is. ⊎_elim
      (λ some. absurd (let f = found_of k x (get-entries outs k ∙ is) (omega (arith, some)) in none_is f.0 (sym none ∙ f.1)))
      (λ zero. absent_from x.sats sat (omega (arith, zero)))
      (cases_lt 0 (times sat x.sats)))

  -- the output whose slot is found holds it, or none does
  only_there : (slot : ℕ) (at : OutPoint) (row : OutRow) → found ≡ Some slot → outpoint_at slots slot ≡ Some at → get outs at ≡ Some row → (o : Option ℕ) → place_in row.sats sat ≡ o → option_map (λ (offset : ℕ). Out at offset) o ≡ place_among (entries outs) sat
  only_there slot at row is here there (Some offset) held =
      sym (one_among (entries outs) sat at row offset (entries_sorted outs) (sym (get-entries outs at) ∙ there) held
      (λ k x found differ. let most = once.apart k at x row sat differ (get-entries outs k ∙ found) there in absent_from x.sats sat (omega (arith, most, present_in row.sats sat offset held))))
  only_there slot at row is here there None held = sym (none_among (entries outs) sat (entries_sorted outs) (λ k x found. ⊎_elim
      (λ some. absurd (
      let f = found_of k x (get-entries outs k ∙ found) (omega (arith, some)) in
      let one : Some f.0 ≡ Some slot = sym f.1 ∙ is in
      let same : Some k ≡ Some at = sym f.2 ∙ ap (outpoint_at slots) (cc one) ∙ here in
      let row_is = one_row outs k at x row (cc same) (get-entries outs k ∙ found) there in
      not_held row.sats sat held (omega (arith, some, times_as sat x row row_is))))
      (λ zero. absent_from x.sats sat (omega (arith, zero)))
      (cases_lt 0 (times sat x.sats))))

  pub found_exact : (slot : ℕ) (r : Option Place) → found ≡ Some slot → (first : ℕ) × (first ≤ sat) × (live first ≡ Some slot) → ((at : OutPoint) → outpoint_at slots slot ≡ Some at → r ≡ place_held at (get outs at) sat) → r ≡ place_among (entries outs) sat
  found_exact slot r is at held =
      let o = of_start live slots outs runs at.0 slot at.2 in
      let b = begun_in outs o.at at.0 o.is in
      held o.at o.slot ∙ ap (λ (x : Option OutRow). place_held o.at x sat) b.there
      ∙ only_there slot o.at b.row is o.slot b.there (place_in b.row.sats sat) refl

-- ---- the same runs, the same rows

-- each slot that holds one of these rows is there still
abbrev pub Stay : Outputs → SlotList → SlotList → Type 0
Stay outs old new = (place : ℕ) (at : OutPoint) (row : OutRow) → outpoint_at old place ≡ Some at → get outs at ≡ Some row → outpoint_at new place ≡ Some at

pub stay_same : (outs : Outputs) (old new : SlotList) → ((p : ℕ) → outpoint_at new p ≡ outpoint_at old p) → Stay outs old new
stay_same outs old new same p at row is there = same p ∙ is

pub stay_kept : (outs : Outputs) (old new : SlotList) → ((p : ℕ) (q : OutPoint) → outpoint_at old p ≡ Some q → outpoint_at new p ≡ Some q) → Stay outs old new
stay_kept outs old new keeps p at row is there = keeps p at is

pub runs_alike : (live live' : ℕ → Option ℕ) (slots slots' : SlotList) (outs outs' : Outputs) → LeadTo live slots outs → ((q : ℕ) → live' q ≡ live q) → Stay outs slots slots' → outs' ≡ outs → LeadTo live' slots' outs'
runs_alike live live' slots slots' outs outs' lead same stay is = subst (LeadTo live' slots') (sym is) still where
  still : LeadTo live' slots' outs
  still f at begun =
      let s = start_of live slots outs lead f at begun in
      let b = begun_in outs at f begun in
      is_at_start live' slots' at f s.place (same f ∙ s.is) (stay s.place at b.row s.slot b.there)

pub once_alike : (outs outs' : Outputs) → StandOnce outs → outs' ≡ outs → StandOnce outs'
once_alike outs outs' once is = subst StandOnce (sym is) once

-- rows seen from those that differ at one outpoint
pub gets_again : (rows outs : Outputs) (at : OutPoint) (row : OutRow) → get rows at ≡ Some row → ((q : OutPoint) → is_same q at ≡ false → get outs q ≡ get rows q) → (q : OutPoint) → get rows q ≡ cond (is_same q at) (Some row) (get outs q)
gets_again rows outs at row there others q = ⊎_elim
    (λ same. ap (get rows) same ∙ there ∙ sym (tested (is_same q at) true (Some row) (get outs q) (ap (λ (a : OutPoint). is_same a at) same ∙ same_itself at)))
    (λ other. sym (others q other) ∙ sym (tested (is_same q at) false (Some row) (get outs q) other))
    (which q at)

pub elsewhere_is : {A : Type 0} (b : Bool) (x y : A) → b ≡ false → cond b x y ≡ y
elsewhere_is b x y is = tested b false x y is
