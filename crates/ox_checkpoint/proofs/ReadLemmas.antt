-- What is read of bytes, as an option.
use Rattle.std.proofs.Common.{◌≡◌, ◌∙◌, ℕ, suc, ◌+◌, ◌-◌, ◌<◌, ◌≤◌, true, false, List, [], ◌∷◌, length, drop, take, refl, sym, ap, arith, length-append, Some, None, Result, Ok, Err}
use Rattle.std.specs.Prelude.{◌==◌}
use Rattle.std.specs.Result.{result_ok}
use Rattle.std.proofs.lemmas.Bool.{eqb-true, false≢true}
use Rattle.std.proofs.lemmas.List.{length-drop, take_all}
use Rattle.ox_bytes.specs.Reading.{◌>>=◌, Reader, times}
use Rattle.ox_bytes.specs.declared.fault.ReadError.TheVariants as errors
use Rattle.ox_bytes.proofs.Laws.{Law}
use Rattle.ox_bytes.proofs.TimesLoop.{ends, is_done, with_front}
use Rattle.ox_model.specs.Index.{Index}
use Rattle.ox_model.specs.declared.change.Change.{Change}
use Rattle.ox_rows.specs.Answer.{BeginWith, front_of, with_places}
use Rattle.ox_rows.specs.Reading.{list_at}
use Rattle.ox_rows.specs.RowReading.{change_at, index_at}
use Rattle.ox_files.specs.Body.{Body, body_at, body_of, whole}

pub ok_from : {X : Type 0} (r : Result X ℕ) (x : X) → Some x ≡ result_ok r → r ≡ Ok x
ok_from (Ok y) x is = let same : y ≡ x = sym (cc is) in ap (λ z. Ok z) same
ok_from (Err left) x is = absurd (cc is)

pub record Fault {X : Type 0} (r : Result X ℕ) : Type 0 where
  pub left : ℕ
  pub is : r ≡ Err left

pub fault_from : {X : Type 0} (r : Result X ℕ) → None ≡ result_ok r → Fault r
fault_from (Ok y) is = absurd (cc is)
fault_from (Err left) is = record { left = left; is = refl }

-- ---- the front of bytes

-- the bytes from a place on
rest_from : (bytes : List ℕ) (at : ℕ) → take (length bytes - at) (drop at bytes) ≡ drop at bytes
rest_from bytes at = take_all (length bytes - at) (drop at bytes) (omega (arith, length-drop at bytes))

module _ {A : Type 0} {F : A → Type 0} {s : A → List ℕ} {read : Reader A} (law : Law F s read) where
  pub front_read : (bytes : List ℕ) (x : A × ℕ) → BeginWith F s bytes x → Some (x.0, take (length bytes - x.1) (drop x.1 bytes)) ≡ result_ok (read bytes)
  front_read bytes x is =
      ap (λ (rest : List ℕ). Some (x.0, rest)) (rest_from bytes x.1)
      ∙ sym (ap result_ok (ap read is.begin ∙ law.again x.0 (drop x.1 bytes) is.fits))

pub front_within : {A : Type 0} {F : A → Type 0} {s : A → List ℕ} (bytes : List ℕ) (x : A × ℕ) → BeginWith F s bytes x → x.1 ≤ length bytes
front_within {s = s} bytes x is =
    let long : length bytes ≡ length (s x.0) + length (drop x.1 bytes) = ap (λ (l : List ℕ). length l) is.begin ∙ length-append (s x.0) (drop x.1 bytes) in
    let taken : x.1 ≡ length (s x.0) = is.taken in
    omega (arith, long, taken)

no_value : {A : Type 0} (n at : ℕ) (r : Result (A × List ℕ) ℕ) → with_places n r ≡ Err at → None ≡ result_ok r
no_value n at (Ok x) is = absurd (cc is)
no_value n at (Err left) is = refl

pub front_fails : {A : Type 0} (read : Reader A) (bytes : List ℕ) (at : ℕ) → front_of read bytes ≡ Err at → None ≡ result_ok (read bytes)
front_fails read bytes at is = no_value (length bytes) at (read bytes) is

-- ---- nothing behind

none_left : {A : Type 0} (rest : List A) → (length rest == 0) ≡ true → rest ≡ []
none_left [] is = refl
none_left (b ∷ rest) is = let none : suc (length rest) ≡ 0 = eqb-true (suc (length rest)) 0 is in absurd (omega (arith, none))

pub whole_some : {A : Type 0} (r : Result (A × List ℕ) ℕ) (x : A) (rest : List ℕ) → Some (x, rest) ≡ result_ok r → true ≡ (length rest == 0) → Some x ≡ whole r
whole_some r x rest is none =
    sym (ap whole (ok_from r (x, rest) is) ∙ ap (λ (l : List ℕ). whole (Ok (x, l))) (none_left rest (sym none)))

more_left : {A : Type 0} (x : A) (rest : List ℕ) → false ≡ (length rest == 0) → None ≡ whole (Ok (x, rest))
more_left x [] some = absurd (false≢true some)
more_left x (b ∷ rest) some = refl

pub whole_more : {A : Type 0} (r : Result (A × List ℕ) ℕ) (x : A) (rest : List ℕ) → Some (x, rest) ≡ result_ok r → false ≡ (length rest == 0) → None ≡ whole r
whole_more r x rest is some = more_left x rest some ∙ sym (ap whole (ok_from r (x, rest) is))

pub whole_none : {A : Type 0} (r : Result (A × List ℕ) ℕ) → None ≡ result_ok r → None ≡ whole r
whole_none r is = let fault = fault_from r is in sym (ap whole fault.is)

-- ---- a body

abbrev Front : Type 0
Front = (List Change → Body) × List ℕ

abbrev front_at : Index × List ℕ → Result Front ℕ
front_at x = Ok (body_of x.0, x.1)

abbrev rest_at : Front → Result (Body × List ℕ) ℕ
rest_at f = list_at change_at f.1 >>= λ x. Ok (f.0 x.0, x.1)

abbrev body_by : Index → List Change × List ℕ → Result (Body × List ℕ) ℕ
body_by index x = Ok (body_of index x.0, x.1)

pub body_read : (bytes rest behind : List ℕ) (index : Index) (changes : List Change) → Some (index, rest) ≡ result_ok (index_at bytes) → Some (changes, behind) ≡ result_ok (list_at change_at rest)
    → Some (body_of index changes, behind) ≡ result_ok (body_at bytes)
unfolding body_at
body_read bytes rest behind index changes first second =
    sym (ap (λ (r : Result (Index × List ℕ) ℕ). result_ok (r >>= front_at >>= rest_at)) (ok_from (index_at bytes) (index, rest) first)
    ∙ ap (λ (r : Result (List Change × List ℕ) ℕ). result_ok (r >>= body_by index)) (ok_from (list_at change_at rest) (changes, behind) second))

pub no_index : (bytes : List ℕ) → None ≡ result_ok (index_at bytes) → None ≡ whole (body_at bytes)
unfolding body_at
no_index bytes is =
    let fault = fault_from (index_at bytes) is in
    sym (ap (λ (r : Result (Index × List ℕ) ℕ). whole (r >>= front_at >>= rest_at)) fault.is)

pub no_changes : (bytes rest : List ℕ) (index : Index) → Some (index, rest) ≡ result_ok (index_at bytes) → None ≡ result_ok (list_at change_at rest) → None ≡ whole (body_at bytes)
unfolding body_at
no_changes bytes rest index first is =
    let fault = fault_from (list_at change_at rest) is in
    sym (ap (λ (r : Result (Index × List ℕ) ℕ). whole (r >>= front_at >>= rest_at)) (ok_from (index_at bytes) (index, rest) first)
    ∙ ap (λ (r : Result (List Change × List ℕ) ℕ). whole (r >>= body_by index)) fault.is)

-- ---- a list of changes

abbrev Total : Type 0
Total = Result (List Change × List ℕ) ℕ

pub stops : (front : List Change) (count i : ℕ) (bytes : List ℕ) (total : Total) → i < count → None ≡ result_ok (change_at bytes)
    → with_front front (times change_at (count - i) bytes) ≡ total → None ≡ result_ok total
stops front count i bytes total less is so_far =
    let fault = fault_from (change_at bytes) is in
    sym (ap result_ok (ends change_at (errors.Fault (record { left = fault.left })) front count i bytes total less fault.is so_far))

pub all_read : (front : List Change) (count i : ℕ) (bytes : List ℕ) (total : Total) → count ≤ i
    → with_front front (times change_at (count - i) bytes) ≡ total → Some (front, bytes) ≡ result_ok total
all_read front count i bytes total past so_far = sym (ap result_ok (is_done change_at front count i bytes total past so_far))
