-- A mint is open exactly where the terms say so.
use Rattle.std.proofs.Common.{◌≡◌, ◌∙◌, ◌↔◌, ◌≤◌, ◌<◌, inl, inr, ℕ, Bool, true, false, cond, ◌&&◌, refl, sym, ap, subst, arith, Option, Some, None, nat_lt}
use Rattle.std.specs.Prelude.{IsSome, unwrap_or}
use Rattle.std.specs.Option.{option_map}
use Rattle.std.proofs.lemmas.Bool.Decides.{nat_tests}
use Rattle.ox_runestone.specs.declared.stone.Terms.{Terms}
use Rattle.ox_etching.specs.declared.row.RuneRow.{RuneRow}
use Rattle.ox_etching.specs.Mintable.{IsMintable}
use Rattle.ox_etching.specs.Minted.{has_come, height_behind, is_ahead, is_open, is_within, minted, minted_by}

some_same : {A : Type 0} (x y : A) → Some x ≡ Some y → x ≡ y
some_same x y is = cc

and_both : (a b : Bool) → (a && b) ≡ true → (a ≡ true) × (b ≡ true)
and_both true true e = (refl, refl)
and_both true false e = absurd (cc e)
and_both false b e = absurd (cc e)

come : (height first : ℕ) (start : Option ℕ) → has_come height start ≡ true → start ≡ Some first → first ≤ height
come height first None h e = absurd (cc e)
come height first (Some s) h e =
    let same : s ≡ first = some_same s first e in
    grind (arith, nat_tests, same, h)

has : (height : ℕ) (start : Option ℕ) → ((first : ℕ) → start ≡ Some first → first ≤ height) → has_come height start ≡ true
has height None each = refl
has height (Some s) each =
    let le : s ≤ height = each s refl in
    grind (arith, nat_tests, le)

ahead : (height first : ℕ) (end : Option ℕ) → is_ahead height end ≡ true → end ≡ Some first → height < first
ahead height first None h e = absurd (cc e)
ahead height first (Some s) h e =
    let same : s ≡ first = some_same s first e in
    grind (arith, nat_tests, same, h)

is : (height : ℕ) (end : Option ℕ) → ((first : ℕ) → end ≡ Some first → height < first) → is_ahead height end ≡ true
is height None each = refl
is height (Some s) each =
    let lt : height < s = each s refl in
    grind (arith, nat_tests, lt)

module _ (row : RuneRow) (height : ℕ) where
  opened : (terms : Terms) → row.terms ≡ Some terms → is_open row terms height ≡ true → IsMintable row height
  opened terms given e =
      let both = and_both (nat_lt row.mints (unwrap_or terms.cap 0)) (is_within terms row.id.block height) e in
      let s = has_come height terms.height_start in
      let t = has_come height (option_map (height_behind row.id.block) terms.offset_start) in
      let u = is_ahead height terms.height_end in
      let v = is_ahead height (option_map (height_behind row.id.block) terms.offset_end) in
      let one = and_both ((s && t) && u) v both.1 in
      let two = and_both (s && t) u one.0 in
      let three = and_both s t two.0 in
      let less = both.0 in
      record {
        terms = terms;
        given = given;
        below = grind (arith, nat_tests, less);
        begun = λ start at. elim at [
          | inl first ↦ come height start terms.height_start three.0 first
          | inr first ↦ come height start (option_map (height_behind row.id.block) terms.offset_start) three.1 (ap (option_map (height_behind row.id.block)) first.1 ∙ ap (λ (n : ℕ). Some n) (sym first.2))
        ];
        not_ended = λ end at. elim at [
          | inl first ↦ ahead height end terms.height_end two.1 first
          | inr first ↦ ahead height end (option_map (height_behind row.id.block) terms.offset_end) one.1 (ap (option_map (height_behind row.id.block)) first.1 ∙ ap (λ (n : ℕ). Some n) (sym first.2))
        ];
      }

  by_test : (terms : Terms) (b : Bool) → is_open row terms height ≡ b → row.terms ≡ Some terms → IsSome (cond b (Some (unwrap_or terms.amount 0)) None) → IsMintable row height
  by_test terms true e given some = opened terms given e
  by_test terms false e given some = absurd (cc some)

  by_terms : (o : Option Terms) → row.terms ≡ o → IsSome (minted_by row height o) → IsMintable row height
  by_terms None given some = absurd (cc some)
  by_terms (Some terms) given some = by_test terms (is_open row terms height) refl given some

  -- a start or an end by an offset
  named : (o : Option ℕ) (n : ℕ) → option_map (height_behind row.id.block) o ≡ Some n → (offset : ℕ) × (o ≡ Some offset) × (n ≡ height_behind row.id.block offset)
  named None n e = absurd (cc e)
  named (Some offset) n e = (offset, refl, sym (some_same _ _ e))

  opens : (m : IsMintable row height) → is_open row m.terms height ≡ true
  opens m =
      let less : nat_lt row.mints (unwrap_or m.terms.cap 0) ≡ true = (let lt = m.below in grind (arith, nat_tests, lt)) in
      let a = has height m.terms.height_start (λ first e. m.begun first (inl e)) in
      let b = has height (option_map (height_behind row.id.block) m.terms.offset_start) (λ first e. m.begun first (inr (named m.terms.offset_start first e))) in
      let c = is height m.terms.height_end (λ first e. m.not_ended first (inl e)) in
      let d = is height (option_map (height_behind row.id.block) m.terms.offset_end) (λ first e. m.not_ended first (inr (named m.terms.offset_end first e))) in
      rw (less, a, b, c, d) refl

  minted_then : (m : IsMintable row height) → IsSome (minted row height)
  minted_then m = subst (λ (o : Option Terms). IsSome (minted_by row height o)) (sym m.given)
      (subst (λ (b : Bool). IsSome (cond b (Some (unwrap_or m.terms.amount 0)) None)) (sym (opens m)) refl)

  pub opening : IsSome (minted row height) ↔ IsMintable row height
  opening = (by_terms row.terms refl, minted_then)
