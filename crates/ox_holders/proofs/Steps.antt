-- From the outputs of one table to those of the next.
use Rattle.std.proofs.Common.{◌≡◌, ◌≢◌, ◌∙◌, ℕ, ◌+◌, ◌<◌, Bool, true, false, cond, List, [], ◌∷◌, length, take, get_or, refl, sym, ap, inl, inr, arith}
use Rattle.std.specs.List.{list_any}
use Rattle.std.proofs.lemmas.List.{take_more}
use Rattle.std.proofs.lemmas.List.Folds.{list_any-append}
use Rattle.std.specs.Prelude.{◌&&◌, ◌||◌, not, Some, None, unwrap_or, slice_get}
use Rattle.std.proofs.lemmas.Option.{get_or_from_slice_get, slice_get-get_or}
use Rattle.std.specs.FinMap.{get}
use Rattle.std.proofs.lemmas.Bool.{and_parts, or_cases, or_parts, cases_Bool}
use Rattle.ox_block.specs.declared.block.OutPoint.{OutPoint}
use Rattle.ox_rules.specs.declared.rows.OutRow.{OutRow}
use Rattle.ox_rules.specs.Differences.{AreGone}
use Rattle.ox_rules.specs.Outputs.{Outputs}
use Rattle.ox_holders.specs.Keys.{is_in, is_row}
use Rattle.ox_holders.specs.Outputs.{has_output}
use Rattle.ox_holders.proofs.Rows.{has-parts, has-from, in-found, found-in, same_tests}

pub taken_out : (b x : Bool) → cond b false x ≡ (x && not b)
taken_out true true = refl
taken_out true false = refl
taken_out false true = refl
taken_out false false = refl

pub put_in : (b x : Bool) → cond b true x ≡ (x || b)
put_in true true = refl
put_in true false = refl
put_in false true = refl
put_in false false = refl

pub out_again : (x b c : Bool) → ((x && not b) && not c) ≡ (x && not (b || c))
out_again true true c = refl
out_again true false c = refl
out_again false b c = refl

pub in_again : (x b c : Bool) → ((x || b) || c) ≡ (x || (b || c))
in_again true b c = refl
in_again false b c = refl

not_kept : (h g : Bool) → (h && not g) ≡ false → h ≡ true → g ≡ true
not_kept true true e h = refl
not_kept true false e h = absurd (cc e)
not_kept false g e h = absurd (cc h)

not_true : (b : Bool) → not b ≡ true → b ≡ false
not_true true e = absurd (cc e)
not_true false e = refl

apart : (b : Bool) → b ≡ true → b ≡ false → ⊥
apart b p q = cc (p, q)

one_row : (row other : OutRow) → Some row ≡ Some other → row ≡ other
one_row row other e = ap (λ o. unwrap_or o row) e

or_none : (b : Bool) → (b || false) ≡ b
or_none true = refl
or_none false = refl

pub in-none : (x : Bool) (script : List ℕ) (at : OutPoint) → x ≡ (x || is_in [] script at)
unfolding is_in
in-none x script at = sym (or_none x)

pub out-none : (x : Bool) (script : List ℕ) (at : OutPoint) → x ≡ (x && not (is_in [] script at))
unfolding is_in
out-none true script at = refl
out-none false script at = refl

pub none-in : (script : List ℕ) (at : OutPoint) → is_in [] script at ≡ false
unfolding is_in
none-in script at = refl

-- one row more
pub in-more : (rows : List (OutPoint × OutRow)) (i : ℕ) (d : OutPoint × OutRow) (script : List ℕ) (at : OutPoint) → i < length rows
    → is_in (take (i + 1) rows) script at
    ≡ (is_in (take i rows) script at || is_row (get_or rows i d).0 (get_or rows i d).1 script at)
unfolding is_in
in-more rows i d script at low =
    let test : OutPoint × OutRow → Bool = λ e. is_row e.0 e.1 script at in
    ap (list_any test) (take_more rows i d low)
    ∙ list_any-append test (take i rows) (get_or rows i d ∷ [])
    ∙ ap (λ b. list_any test (take i rows) || b) (or_none (test (get_or rows i d)))

pub join_next : (new old first : Bool) (rows : List (OutPoint × OutRow)) (i : ℕ) (e : OutPoint × OutRow) (script : List ℕ) (at : OutPoint)
    → i < length rows → e ≡ get_or rows i e → new ≡ (old || is_row e.0 e.1 script at)
    → old ≡ (first || is_in (take i rows) script at) → new ≡ (first || is_in (take (i + 1) rows) script at)
join_next new old first rows i e script at low is so before =
    let one : Bool = is_row e.0 e.1 script at in
    let some : Bool = is_in (take i rows) script at in
    so ∙ ap (λ b. b || one) before ∙ in_again first some one
    ∙ ap (λ b. first || b) (ap (λ x. some || is_row x.0 x.1 script at) is ∙ sym (in-more rows i e script at low))

pub leave_next : (new old first : Bool) (rows : List (OutPoint × OutRow)) (i : ℕ) (e : OutPoint × OutRow) (script : List ℕ) (at : OutPoint)
    → i < length rows → e ≡ get_or rows i e → new ≡ (old && not (is_row e.0 e.1 script at))
    → old ≡ (first && not (is_in (take i rows) script at)) → new ≡ (first && not (is_in (take (i + 1) rows) script at))
leave_next new old first rows i e script at low is so before =
    let one : Bool = is_row e.0 e.1 script at in
    let some : Bool = is_in (take i rows) script at in
    so ∙ ap (λ b. b && not one) before ∙ out_again first some one
    ∙ ap (λ b. first && not b) (ap (λ x. some || is_row x.0 x.1 script at) is ∙ sym (in-more rows i e script at low))

pub of_next : (new old : Bool) (rows : List (OutPoint × OutRow)) (n : ℕ) (e : OutPoint × OutRow) (script : List ℕ) (at : OutPoint)
    → n < length rows → slice_get rows n ≡ Some e → new ≡ (old || is_row e.0 e.1 script at)
    → old ≡ is_in (take n rows) script at → new ≡ is_in (take (n + 1) rows) script at
of_next new old rows n e script at low is so before =
    let some : Bool = is_in (take n rows) script at in
    so ∙ ap (λ b. b || is_row e.0 e.1 script at) before
    ∙ ap (λ x. some || is_row x.0 x.1 script at) (sym (get_or_from_slice_get rows n e e is)) ∙ sym (in-more rows n e script at low)

pub none_past : (rows : List (OutPoint × OutRow)) (n : ℕ) → slice_get rows n ≡ None → n < length rows → ⊥
none_past [] n none low = omega (arith, low)
none_past (e ∷ es) n none low = let some = slice_get-get_or (e ∷ es) n e low in cc (some, none)

pub stepped :
    (before after : Outputs) (gone came : List (OutPoint × OutRow)) (script : List ℕ) (at : OutPoint) →
    AreGone before after gone → AreGone after before came →
    ((has_output before script at && not (is_in gone script at)) || is_in came script at) ≡ has_output after script at
stepped before after gone came script at are_gone are_came =
    let h : Bool = has_output before script at in
    let g : Bool = is_in gone script at in
    let c : Bool = is_in came script at in
    same_tests ((h && not g) || c) (has_output after script at)
    (λ is. elim (or_cases (h && not g) c is) [
      | inr new ↦
          let found = in-found came script at are_came.rising new in
          has-from after script at found.0 ((are_came.rows at found.0).0 found.1).0 found.2
      | inl old ↦
          let both = and_parts h (not g) old in
          let has = has-parts before script at both.0 in
          elim (cases_Bool (has_output after script at)) [
            | inl is_so ↦ is_so
            | inr is_not ↦
                let differs : get after at ≢ Some has.0 = λ e. apart _ (has-from after script at has.0 e has.2) is_not in
                absurd (apart g
                (found-in gone script at has.0 ((are_gone.rows at has.0).1 (has.1, differs)) has.2)
                (not_true g both.1))
          ]
    ])
    (λ is. let now = has-parts after script at is in
    elim (cases_Bool ((h && not g) || c)) [
      | inl is_so ↦ is_so
      | inr is_not ↦
          let parts = or_parts (h && not g) c is_not in
          let old : (get before at ≢ Some now.0) → ⊥ = λ differs. apart c
          (found-in came script at now.0 ((are_came.rows at now.0).1 (now.1, differs)) now.2) parts.1 in
          absurd (old (λ same.
          let left : g ≡ true = not_kept h g parts.0 (has-from before script at now.0 same now.2) in
          let found = in-found gone script at are_gone.rising left in
          let both = (are_gone.rows at found.0).0 found.1 in
          let one : now.0 ≡ found.0 = one_row now.0 found.0 (sym same ∙ both.0) in
          both.1 (now.1 ∙ ap Some one)))
    ])
