-- Which of two files is current: by the tests on their gates and heads, and by what is so of the one and the other.
use Rattle.std.proofs.Common.{◌≡◌, ◌≢◌, ◌∙◌, ◌≤◌, ◌<◌, inl, inr, ℕ, Bool, true, false, List, [], ◌∷◌, length, ◌==◌, if◌then◌else◌, Option, Some, None, refl, ap, subst, arith}
use Rattle.std.specs.Prelude.{Ok, Err, nat_lt}
use Rattle.std.proofs.lemmas.Bool.{ltb-true, ltb-false, eqb-false, lt-ltb, ne_eqb, le-ltb}
use Rattle.ox_bytes.proofs.Laws.{ok_is}
use Rattle.ox_outside.specs.Files.{Files}
use Rattle.ox_outside.specs.declared.site.Which.{Which}
use Rattle.ox_outside.specs.declared.site.Which.TheVariants.{A, B}
use Rattle.ox_gated.specs.Layout.{is_closed, head_of}
use Rattle.ox_gated.specs.Pick.{Choice, lone_choice, greater_of, choice_by, choice_of, Shut, Beside, Picked}
use Rattle.ox_gated.specs.declared.head.Opening.{Opening}

abbrev same_generation : Choice
same_generation = Err (B, 10)

abbrev chose : Which → Opening → Choice
chose file opening = Ok (file, opening)

there : (bytes : List ℕ) → (length bytes == 0) ≡ false → 1 ≤ length bytes
there [] some = absurd (cc some)
there (x ∷ bytes) some = omega arith

module _ (files : Files) (choice : Which × Opening) where
  abbrev Why : Type 0
  Why = Picked files choice.0 choice.1

  lone_b : (o : Option Opening) → head_of files.b ≡ o → is_closed files.b ≡ false → Shut files.a → lone_choice B o ≡ Ok choice → Why
  lone_b None head opened shut is = absurd (cc is)
  lone_b (Some o) head opened shut is =
      subst (λ (c : Which × Opening). Picked files c.0 c.1) (ok_is {F = Which × ℕ} _ _ is) (record { opened = opened; head = head; beside = inl shut })

  lone_a : (o : Option Opening) → head_of files.a ≡ o → is_closed files.a ≡ false → Shut files.b → lone_choice A o ≡ Ok choice → Why
  lone_a None head opened shut is = absurd (cc is)
  lone_a (Some o) head opened shut is =
      subst (λ (c : Which × Opening). Picked files c.0 c.1) (ok_is {F = Which × ℕ} _ _ is) (record { opened = opened; head = head; beside = inl shut })

  with_a : (x : Bool) → (length files.a == 0) ≡ x → is_closed files.a ≡ true → is_closed files.b ≡ false → (if x then Err (A, 0) else lone_choice B (head_of files.b)) ≡ Ok choice → Why
  with_a true none ca cb is = absurd (cc is)
  with_a false some ca cb is = lone_b (head_of files.b) refl cb (ca, there files.a some) is

  with_b : (x : Bool) → (length files.b == 0) ≡ x → is_closed files.a ≡ false → is_closed files.b ≡ true → (if x then Err (B, 0) else lone_choice A (head_of files.a)) ≡ Ok choice → Why
  with_b true none ca cb is = absurd (cc is)
  with_b false some ca cb is = lone_a (head_of files.a) refl ca (cb, there files.b some) is

  module _ (ca : is_closed files.a ≡ false) (cb : is_closed files.b ≡ false) (oa ob : Opening) (ha : head_of files.a ≡ Some oa) (hb : head_of files.b ≡ Some ob) where
    by_less : (x : Bool) → nat_lt oa.head.generation ob.head.generation ≡ x → oa.head.generation ≢ ob.head.generation → (if x then chose B ob else chose A oa) ≡ Ok choice → Why
    by_less true less differ is =
        subst (λ (c : Which × Opening). Picked files c.0 c.1) (ok_is {F = Which × ℕ} _ _ is) (record { opened = cb; head = hb; beside = inr (ca, (oa, ha, ltb-true oa.head.generation ob.head.generation less)) })
    by_less false no_less differ is =
        let le = ltb-false oa.head.generation ob.head.generation no_less in
        subst (λ (c : Which × Opening). Picked files c.0 c.1) (ok_is {F = Which × ℕ} _ _ is) (record { opened = ca; head = ha; beside = inr (cb, (ob, hb, grind (arith, le, differ))) })

    by_same : (x : Bool) → (oa.head.generation == ob.head.generation) ≡ x → (if x then same_generation else if nat_lt oa.head.generation ob.head.generation then chose B ob else chose A oa) ≡ Ok choice → Why
    by_same true same is = absurd (cc is)
    by_same false differs is = by_less (nat_lt oa.head.generation ob.head.generation) refl (eqb-false oa.head.generation ob.head.generation differs) is

  by_heads : (oa ob : Option Opening) → head_of files.a ≡ oa → head_of files.b ≡ ob → is_closed files.a ≡ false → is_closed files.b ≡ false → greater_of oa ob ≡ Ok choice → Why
  by_heads None ob ha hb ca cb is = absurd (cc is)
  by_heads (Some oa) None ha hb ca cb is = absurd (cc is)
  by_heads (Some oa) (Some ob) ha hb ca cb is = by_same ca cb oa ob ha hb (oa.head.generation == ob.head.generation) refl is

  by_gates : (x y : Bool) → is_closed files.a ≡ x → is_closed files.b ≡ y → choice_by x y files.a files.b ≡ Ok choice → Why
  by_gates true true ca cb is = absurd (cc is)
  by_gates true false ca cb is = with_a (length files.a == 0) refl ca cb is
  by_gates false true ca cb is = with_b (length files.b == 0) refl ca cb is
  by_gates false false ca cb is = by_heads (head_of files.a) (head_of files.b) refl refl ca cb is

  pub picked : choice_of files.a files.b ≡ Ok choice → Picked files choice.0 choice.1
  picked is = by_gates (is_closed files.a) (is_closed files.b) refl refl is

-- ---- and the other way round

not_empty : (bytes : List ℕ) → 1 ≤ length bytes → (length bytes == 0) ≡ false
not_empty bytes some = ne_eqb (length bytes) 0 (λ none. absurd (omega (arith, none, some)))

greater_b : (oa ob : Opening) → oa.head.generation < ob.head.generation → greater_of (Some oa) (Some ob) ≡ Ok (B, ob)
greater_b oa ob less =
    ap (λ (x : Bool). if x then same_generation else if nat_lt oa.head.generation ob.head.generation then chose B ob else chose A oa) (ne_eqb oa.head.generation ob.head.generation (λ same. absurd (omega (arith, same, less))))
    ∙ ap (λ (x : Bool). if x then chose B ob else chose A oa) (lt-ltb oa.head.generation ob.head.generation less)

greater_a : (oa ob : Opening) → ob.head.generation < oa.head.generation → greater_of (Some oa) (Some ob) ≡ Ok (A, oa)
greater_a oa ob less =
    ap (λ (x : Bool). if x then same_generation else if nat_lt oa.head.generation ob.head.generation then chose B ob else chose A oa) (ne_eqb oa.head.generation ob.head.generation (λ same. absurd (omega (arith, same, less))))
    ∙ ap (λ (x : Bool). if x then chose B ob else chose A oa) (le-ltb oa.head.generation ob.head.generation (omega (arith, less)))

picks_a : (files : Files) (opening : Opening) → is_closed files.a ≡ false → head_of files.a ≡ Some opening → Beside opening files.b → choice_of files.a files.b ≡ Ok (A, opening)
picks_a files opening opened head beside = elim beside [
  | inl shut ↦
      (λ i. choice_by (opened i) (shut.0 i) files.a files.b)
      ∙ ap (λ (x : Bool). if x then Err (B, 0) else lone_choice A (head_of files.a)) (not_empty files.b shut.1)
      ∙ ap (lone_choice A) head
  | inr lesser ↦
      (λ i. choice_by (opened i) (lesser.0 i) files.a files.b)
      ∙ (λ i. greater_of (head i) (lesser.1.1 i))
      ∙ greater_a opening lesser.1.0 lesser.1.2
]

picks_b : (files : Files) (opening : Opening) → is_closed files.b ≡ false → head_of files.b ≡ Some opening → Beside opening files.a → choice_of files.a files.b ≡ Ok (B, opening)
picks_b files opening opened head beside = elim beside [
  | inl shut ↦
      (λ i. choice_by (shut.0 i) (opened i) files.a files.b)
      ∙ ap (λ (x : Bool). if x then Err (A, 0) else lone_choice B (head_of files.b)) (not_empty files.a shut.1)
      ∙ ap (lone_choice B) head
  | inr lesser ↦
      (λ i. choice_by (lesser.0 i) (opened i) files.a files.b)
      ∙ (λ i. greater_of (lesser.1.1 i) (head i))
      ∙ greater_b lesser.1.0 opening lesser.1.2
]

pub picks : (files : Files) (file : Which) (opening : Opening) → Picked files file opening → choice_of files.a files.b ≡ Ok (file, opening)
picks files A opening why = picks_a files opening why.opened why.head why.beside
picks files B opening why = picks_b files opening why.opened why.head why.beside
