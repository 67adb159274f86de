-- Four fields that were read together are the next four of those that a value is made of.
use Rattle.std.proofs.Common.{◌≡◌, ℕ, List, Result, Ok, Err, refl, sym, ap, ◌∙◌}
use Rattle.ox_bytes.specs.declared.fault.ReadError.{ReadError}
use Rattle.ox_bytes.specs.declared.fault.ReadError.TheVariants as errors
use Rattle.ox_bytes.specs.Reading.{◌>>=◌, Reader, Fails}
use Rattle.ox_rows.specs.Reading.{four, four_at}

-- what is read, made into another value
abbrev then_made : {P X : Type 0} → (P → X) → Result (P × List ℕ) ℕ → Result (X × List ℕ) ℕ
then_made f read = read >>= λ p. Ok (f p.0, p.1)

-- the next field behind what was read
abbrev next : {A X : Type 0} → Result ((A → X) × List ℕ) ℕ → Reader A → Result (X × List ℕ) ℕ
next read field = read >>= λ f. field f.1 >>= λ x. Ok (f.0 x.0, x.1)

made_last : {A X Y : Type 0} (h : X → Y) (k : A → X) (r : Result (A × List ℕ) ℕ) → then_made h (r >>= λ x. Ok (k x.0, x.1)) ≡ (r >>= λ x. Ok (h (k x.0), x.1))
made_last h k (Ok x) = refl
made_last h k (Err f) = refl

made_next : {A X Y : Type 0} (h : X → Y) (r : Result ((A → X) × List ℕ) ℕ) (field : Reader A) → then_made h (next r field) ≡ next (then_made (λ k x. h (k x)) r) field
made_next h (Ok f) field = made_last h f.0 (field f.1)
made_next h (Err f) field = refl

module _ {A B C D X : Type 0} (ra : Reader A) (rb : Reader B) (rc : Reader C) (rd : Reader D) where
  -- all four, of what begins so
  abbrev pub all_four : Result ((A → B → C → D → X) × List ℕ) ℕ → Result (X × List ℕ) ℕ
  all_four r = next (next (next (next r ra) rb) rc) rd

  made_four : (f : A → B → C → D → X) (bytes : List ℕ) → then_made (λ (q : A × B × C × D). f q.0 q.1 q.2 q.3) (four_at ra rb rc rd bytes) ≡ all_four (Ok (f, bytes))
  unfolding four_at
  made_four f bytes =
      let h = λ (q : A × B × C × D). f q.0 q.1 q.2 q.3 in
      let r0 : Result ((A → B → C → D → A × B × C × D) × List ℕ) ℕ = Ok (four, bytes) in
      let r1 = next r0 ra in
      let r2 = next r1 rb in
      let r3 = next r2 rc in
      made_next {A = D} {X = A × B × C × D} {Y = X} h r3 rd
      ∙ ap (λ (r : Result ((D → X) × List ℕ) ℕ). next r rd) (made_next {A = C} {X = D → A × B × C × D} {Y = D → X} (λ k x. h (k x)) r2 rc
      ∙ ap (λ (r : Result ((C → D → X) × List ℕ) ℕ). next r rc) (made_next {A = B} {X = C → D → A × B × C × D} {Y = C → D → X} (λ k x y. h (k x y)) r1 rb
      ∙ ap (λ (r : Result ((B → C → D → X) × List ℕ) ℕ). next r rb) (made_next {A = A} {X = B → C → D → A × B × C × D} {Y = B → C → D → X} (λ k x y z. h (k x y z)) r0 ra)))

  pub first_go : (f : A → B → C → D → X) (bytes : List ℕ) {after : List ℕ} {q : A × B × C × D} → four_at ra rb rc rd bytes ≡ Ok (q, after) → all_four (Ok (f, bytes)) ≡ Ok (f q.0 q.1 q.2 q.3, after)
  first_go f bytes read = sym (made_four f bytes) ∙ ap (then_made (λ (q : A × B × C × D). f q.0 q.1 q.2 q.3)) read

  pub first_stop : (f : A → B → C → D → X) (bytes : List ℕ) {left : ℕ} → four_at ra rb rc rd bytes ≡ Err left → all_four (Ok (f, bytes)) ≡ Err left
  first_stop f bytes read = sym (made_four f bytes) ∙ ap (then_made (λ (q : A × B × C × D). f q.0 q.1 q.2 q.3)) read

  pub four_go : {r : Result ((A → B → C → D → X) × List ℕ) ℕ} {f : A → B → C → D → X} {bytes after : List ℕ} {q : A × B × C × D} → r ≡ Ok (f, bytes) → four_at ra rb rc rd bytes ≡ Ok (q, after)
      → all_four r ≡ Ok (f q.0 q.1 q.2 q.3, after)
  four_go {r} {f} {bytes} begun read = ap all_four begun ∙ first_go f bytes read

  pub four_stop : {r : Result ((A → B → C → D → X) × List ℕ) ℕ} {f : A → B → C → D → X} {bytes : List ℕ} {left : ℕ} → r ≡ Ok (f, bytes) → four_at ra rb rc rd bytes ≡ Err left → all_four r ≡ Err left
  four_stop {r} {f} {bytes} begun read = ap all_four begun ∙ first_stop f bytes read

  pub four_stopped : {r : Result ((A → B → C → D → X) × List ℕ) ℕ} {left : ℕ} → r ≡ Err left → all_four r ≡ Err left
  four_stopped stopped = ap all_four stopped

module _ {A X : Type 0} (field : Reader A) where
  pub one_go : {r : Result ((A → X) × List ℕ) ℕ} {f : A → X} {bytes after : List ℕ} {x : A} → r ≡ Ok (f, bytes) → field bytes ≡ Ok (x, after) → next r field ≡ Ok (f x, after)
  one_go {r} {f} begun read = ap (λ (r : Result ((A → X) × List ℕ) ℕ). next r field) begun ∙ ap (then_made f) read

  pub one_stop : {r : Result ((A → X) × List ℕ) ℕ} {f : A → X} {bytes : List ℕ} {left : ℕ} → r ≡ Ok (f, bytes) → field bytes ≡ Err left → next r field ≡ Err left
  one_stop {r} {f} begun read = ap (λ (r : Result ((A → X) × List ℕ) ℕ). next r field) begun ∙ ap (then_made f) read

  pub one_stopped : {r : Result ((A → X) × List ℕ) ℕ} {left : ℕ} → r ≡ Err left → next r field ≡ Err left
  one_stopped stopped = ap (λ (r : Result ((A → X) × List ℕ) ℕ). next r field) stopped

-- where a part fails, what fails with it does
pub fails_as : {A B : Type 0} (e : ReadError) (part : Result A ℕ) (all : Result B ℕ) → ((left : ℕ) → part ≡ Err left → all ≡ Err left) → Fails e part → Fails e all
fails_as errors.Memory part all stop h = tt
fails_as (errors.Fault f) part all stop h = stop f.left h
