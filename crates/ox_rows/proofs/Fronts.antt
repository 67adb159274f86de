-- What is read from the front of bytes, with how many it takes.
use Rattle.std.proofs.Common.{◌≡◌, ℕ, ◌-◌, List, ◌++◌, length, drop, Result, Ok, Err, refl, sym, ap, subst, ◌∙◌, arith, length-append}
use Rattle.std.specs.Prelude.{IfOk}
use Rattle.std.proofs.lemmas.List.{drop_at}
use Rattle.ox_bytes.specs.Reading.{Reader}
use Rattle.ox_bytes.proofs.Laws.{IsBytes, Law, ok_is}
use Rattle.ox_rows.specs.declared.fault.RowsFault.{RowsFault}
use Rattle.ox_rows.specs.Answer.{Answers, BeginWith, front_of, with_places}

placed : {A : Type 0} (n : ℕ) (r : Result (A × List ℕ) ℕ) (x : A × ℕ) → with_places n r ≡ Ok x → (y : A × List ℕ) × (r ≡ Ok y) × ((y.0, n - length y.1) ≡ x)
placed n (Ok y) x e = (y, refl, ok_is {F = ℕ} (y.0, n - length y.1) x e)
placed n (Err d) x e = absurd cc

module _ {A : Type 0} (F : A → Type 0) (s : A → List ℕ) (read : Reader A) (law : Law F s read) where
  pub begins : (bytes : List ℕ) (x : A × ℕ) → IsBytes bytes → front_of read bytes ≡ Ok x → BeginWith F s bytes x
  begins bytes x fits e =
      let p = placed (length bytes) (read bytes) x e in
      let t = law.takes bytes p.0 fits p.1 in
      let long : length bytes - length p.0.1 ≡ length (s p.0.0) = omega (arith, ap length t.0.parts, length-append (s p.0.0) p.0.1) in
      let behind : drop (length bytes - length p.0.1) bytes ≡ p.0.1 = ap (drop (length bytes - length p.0.1)) t.0.parts ∙ drop_at (s p.0.0) p.0.1 (length bytes - length p.0.1) (sym long) in
      subst (BeginWith F s bytes) p.2 (record { fits = t.1; taken = long; begin = t.0.parts ∙ ap (λ (rest : List ℕ). s p.0.0 ++ rest) (sym behind) })

  pub again_front : (x : A) (rest : List ℕ) → F x → front_of read (s x ++ rest) ≡ Ok (x, length (s x))
  again_front x rest fits =
      let long : length (s x ++ rest) - length rest ≡ length (s x) = omega (arith, length-append (s x) rest) in
      ap (with_places (length (s x ++ rest))) (law.again x rest fits) ∙ ap (λ (n : ℕ). Ok (x, n)) long

  pub found_front : {X : Type 0} (view : X → A × ℕ) (bytes : List ℕ) (r : Result X RowsFault) → IsBytes bytes → Answers view r (front_of read bytes) → IfOk r (λ x. BeginWith F s bytes (view x))
  found_front view bytes (Ok x) fits h = begins bytes (view x) fits h
  found_front view bytes (Err e) fits h = tt
