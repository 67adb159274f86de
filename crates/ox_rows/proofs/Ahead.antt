-- What is ahead, while rows are read from it.
use Rattle.std.proofs.Common.{◌≡◌, ℕ, ◌-◌, ◌≤◌, ◌<◌, Bool, false, true, eqb, List, [], ◌++◌, length, drop, Result, Ok, Err, Option, Ordering, refl, sym, ap, subst, ◌∙◌, append_assoc, arith}
use Rattle.std.specs.Prelude.{not}
use Rattle.std.proofs.lemmas.Bool.{ne_eqb}
use Rattle.std.proofs.lemmas.List.{append-nil, drop_at, length-append}
use Rattle.ox_bytes.specs.declared.fault.ReadError.TheVariants as errors
use Rattle.ox_bytes.specs.Reading.{◌>>=◌, Reader, times, unless}
use Rattle.ox_bytes.proofs.TimesLoop.{with_front, ends}
use Rattle.ox_rows.specs.Front.{ReadsFronts}
use Rattle.ox_rows.specs.Coming.{Calls, CallsUntil, ComesOn, GivesNext, IsAhead, Lengthens, Stops}
use Rattle.ox_rows.specs.Reading.{falls, rising_at}
use Rattle.ox_rows.specs.declared.next.NextFault.{NextFault}
use Rattle.ox_rows.specs.declared.next.NextFault.TheVariants as faults
use Rattle.ox_rows.proofs.Loops.{rising_ends_at_key, rising_ends_at_value}

-- ---- the window

-- what is behind a value are the last bytes, as many as there are left
pub left_behind : {A : Type 0} (read : Reader A) → ReadsFronts read → (bytes : List ℕ) (x : A × List ℕ) → read bytes ≡ Ok x → (drop (length bytes - length x.1) bytes ≡ x.1) × (length x.1 ≤ length bytes)
left_behind read reads bytes x e =
    let p = reads bytes x e in
    let all : length bytes ≡ length (p.front ++ x.1) = ap length p.parts in
    let n = length bytes - length x.1 in
    let long : length p.front ≡ n = omega (arith, all, length-append p.front x.1) in
    (ap (drop n) p.parts ∙ drop_at p.front x.1 n long, omega (arith, all, length-append p.front x.1))

-- what is read of the window is read of all that is ahead
pub read_ahead : {A : Type 0} {Comes : List ℕ → Type 0} (read : Reader A) → ReadsFronts read → (window bytes : List ℕ) (x : A) (left : ℕ) → read window ≡ Ok (x, drop (length window - left) window) → IsAhead Comes window bytes
    → (after : List ℕ) × IsAhead Comes (drop (length window - left) window) after × (read bytes ≡ Ok (x, after))
read_ahead read reads window bytes x left e ahead =
    let behind = drop (length window - left) window in
    let p = reads window (x, behind) e in
    let all : bytes ≡ p.front ++ (behind ++ ahead.rest) = ahead.is ∙ ap (λ (t : List ℕ). t ++ ahead.rest) p.parts ∙ append_assoc p.front behind ahead.rest in
    (behind ++ ahead.rest, record { rest = ahead.rest; comes = ahead.comes; is = refl }, ap read all ∙ p.again (behind ++ ahead.rest))

-- one call of a source
pub lengthens_by : {Comes : List ℕ → Type 0} (old rest : List ℕ) (came : Bool) (new all : List ℕ) → all ≡ old ++ rest → ComesOn Comes old rest came new → Lengthens Comes old all came new
lengthens_by old rest came new all is on = record {
  ahead = record { rest = on.behind; comes = on.comes; is = is ∙ on.same };
  none = λ no. is ∙ ap (λ (r : List ℕ). old ++ r) (on.none no) ∙ append-nil old;
  some = λ yes. omega (arith, on.some yes, ap length is, length-append old rest);
}

-- and one more
pub lengthens_more : {Before Comes : List ℕ → Type 0} (old all mid new : List ℕ) (came : Bool) → Lengthens Before old all true mid → Lengthens Comes mid all came new → Lengthens Comes old all true new
lengthens_more old all mid new came first next = record { ahead = next.ahead; none = first.none; some = first.some }

-- behind an empty window there is something exactly where more came
pub end_is : {Comes : List ℕ → Type 0} (old bytes : List ℕ) (came : Bool) (new : List ℕ) → eqb (length old) 0 ≡ true → Lengthens Comes old bytes came new → eqb (length bytes) 0 ≡ not came
end_is old bytes true new empty on = ne_eqb (length bytes) 0 (λ z. let some = on.some refl in omega arith)
end_is old bytes false new empty on = ap (λ (b : List ℕ). eqb (length b) 0) (on.none refl) ∙ empty

-- ---- one call behind the other

pub stops_as : {A B F : Type 0} (e : NextFault F) (part : Result (A × List ℕ) ℕ) (all : Result (B × List ℕ) ℕ) → ((left : ℕ) → part ≡ Err left → all ≡ Err left) → Stops e part → Stops e all
stops_as (faults.Read errors.Memory) part all stop h = tt
stops_as (faults.Read (errors.Fault f)) part all stop h = stop f.left h
stops_as (faults.Source fault) part all stop h = tt

-- the first of two readings fails
pub stops_first : {A B F : Type 0} (e : NextFault F) (part : Result (A × List ℕ) ℕ) (next : A × List ℕ → Result (B × List ℕ) ℕ) → Stops e part → Stops e (part >>= next)
stops_first e part next = stops_as e part (part >>= next) (λ left h. ap (λ (r : Result _ ℕ). r >>= next) h)

-- the first of two readings is done
pub gives_then : {A X Y F : Type 0} (view : X → Y) (ahead : List ℕ → Type 0) (result : Result X (NextFault F)) (part : Result (A × List ℕ) ℕ) (next : A × List ℕ → Result (Y × List ℕ) ℕ) (a : A × List ℕ) → part ≡ Ok a
    → GivesNext view ahead result (next a) → GivesNext view ahead result (part >>= next)
gives_then view ahead result part next a e h = subst (λ (r : Result _ ℕ). GivesNext view ahead result (r >>= next)) (sym e) h

module _ {S W F : Type 0} (went : S → W → S → W → Type 0) (ended : S → W → F → S → W → Type 0) (then_went : (s t u : S) (w v x : W) → went s w t v → went t v u x → went s w u x)
    (then_ended : (s t u : S) (w v x : W) (fault : F) → went s w t v → ended t v fault u x → ended s w fault u x) where
  pub until_then : (s t u : S) (w v x : W) (e : NextFault F) → went s w t v → CallsUntil went ended t v e u x → CallsUntil went ended s w e u x
  until_then s t u w v x (faults.Read e) first next = then_went s t u w v x first next
  until_then s t u w v x (faults.Source fault) first next = then_ended s t u w v x fault first next

  pub calls_then : {X : Type 0} (s t u : S) (w v x : W) (result : Result X (NextFault F)) → went s w t v → Calls went ended t v result u x → Calls went ended s w result u x
  calls_then s t u w v x (Ok y) first next = then_went s t u w v x first next
  calls_then s t u w v x (Err e) first next = until_then s t u w v x e first next

-- ---- loops

-- some values were read, and those and the ones that are still read are all
abbrev pub SoFar : {A : Type 0} → (List ℕ → Type 0) → (List ℕ → Type 0) → List A → Reader (List A) → Reader (List A) → Type 0
SoFar Before Now front all still = (bytes : List ℕ) → Before bytes → (after : List ℕ) × Now after × (with_front front (still after) ≡ all bytes)

none_in_front : {A : Type 0} (read : Result (List A × List ℕ) ℕ) → with_front [] read ≡ read
none_in_front (Ok x) = refl
none_in_front (Err e) = refl

pub none_yet : {A : Type 0} (Before : List ℕ → Type 0) (front : List A) (read : ℕ → Reader (List A)) (count : ℕ) → front ≡ [] → SoFar Before Before front (read count) (read (count - 0))
none_yet {A} Before front read count none bytes before =
    let all : count - 0 ≡ count = omega arith in
    (bytes, before, ap (λ (f : List A). with_front f (read (count - 0) bytes)) none ∙ none_in_front (read (count - 0) bytes) ∙ ap (λ (n : ℕ). read n bytes) all)

pub values_end : {A F : Type 0} (read : Reader A) (e : NextFault F) (front : List A) (count i : ℕ) (bytes : List ℕ) (total : Result (List A × List ℕ) ℕ) → i < count → Stops e (read bytes)
    → with_front front (times read (count - i) bytes) ≡ total → Stops e total
values_end read (faults.Read e) front count i bytes total lt h so_far = ends read e front count i bytes total lt h so_far
values_end read (faults.Source fault) front count i bytes total lt h so_far = tt

module _ {K X F : Type 0} (cmp : K → K → Ordering) (rk : Reader K) (rx : Reader X) where
  pub key_ends : (e : NextFault F) (front : List (K × X)) (count i : ℕ) (last : Option K) (bytes : List ℕ) (total : Result (List (K × X) × List ℕ) ℕ) → i < count → Stops e (unless (falls cmp last) rk bytes)
      → with_front front (rising_at cmp rk rx last (count - i) bytes) ≡ total → Stops e total
  key_ends (faults.Read e) front count i last bytes total lt h so_far = rising_ends_at_key cmp rk rx e front count i last bytes total lt h so_far
  key_ends (faults.Source fault) front count i last bytes total lt h so_far = tt

  pub value_ends : (e : NextFault F) (front : List (K × X)) (count i : ℕ) (last : Option K) (bytes behind : List ℕ) (k : K) (total : Result (List (K × X) × List ℕ) ℕ) → i < count
      → unless (falls cmp last) rk bytes ≡ Ok (k, behind) → Stops e (rx behind) → with_front front (rising_at cmp rk rx last (count - i) bytes) ≡ total → Stops e total
  value_ends (faults.Read e) front count i last bytes behind k total lt key h so_far = rising_ends_at_value cmp rk rx e front count i last bytes behind k total lt key h so_far
  value_ends (faults.Source fault) front count i last bytes behind k total lt key h so_far = tt
