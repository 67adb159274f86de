-- The two laws of a reader: what is read is spelled so, and what is spelled so is read, whatever follows it.
use Rattle.std.proofs.Common.{◌≡◌, ℕ, zero, suc, ◌+◌, ◌^◌, ◌<◌, ◌≤◌, Bool, true, false, cond, ltb, eqb, List, [], ◌∷◌, ◌++◌, length, get_or, take, drop, Result, Ok, Err, refl, sym, ap, subst, ◌∙◌, append_assoc, arith, inl, inr, ◌⊎◌}
use Rattle.std.specs.Int.{Width, w16, w32, w64, byte_len, from_le_bytes, to_le_bytes}
use Rattle.std.specs.List.{flat_map, AllByRecursion}
use Rattle.std.proofs.lemmas.Bool.{cases_lt, ltb-true, ltb-false, le-ltb, lt-ltb, eqb-true, eqb-false}
use Rattle.std.proofs.lemmas.List.{take_at, drop_at, take-append-drop, length-append, length-take, get_or-drop, get_or-take, get_or_past}
use Rattle.std.proofs.lemmas.List.Concat.{flat_map-cons}
use Rattle.std.proofs.lemmas.Nat.{le_bytes_2, le_bytes_4, le_bytes_8, from_le_bytes-to_le_bytes_2, from_le_bytes-to_le_bytes_4, from_le_bytes-to_le_bytes_8}
use Rattle.ox_bytes.specs.declared.compact.CompactFault.{CompactFault}
use Rattle.ox_bytes.specs.declared.compact.CompactFault.TheVariants.{Short, NotShortest}
use Rattle.ox_bytes.specs.Spelling.{compact, string}
use Rattle.ox_bytes.specs.Reading.{◌>>=◌, Reading, Reader, number_at, run_at, long_size, size_of, result_at, compact_at, string_at, both, reading_map, unless, times, counted_list}

abbrev pub IsBytes : List ℕ → Type 0
IsBytes bytes = (i : ℕ) → get_or bytes i 0 < 256

pub IsBytes-drop : (n : ℕ) (bytes : List ℕ) → IsBytes bytes → IsBytes (drop n bytes)
IsBytes-drop n bytes h i = rw get_or-drop (h (n + i))

pub IsBytes-take : (n : ℕ) (bytes : List ℕ) → IsBytes bytes → IsBytes (take n bytes)
IsBytes-take n bytes h i =
    elim (cases_lt i n) [
      | inl lt ↦ rw (get_or-take n bytes i 0 lt) (h i)
      | inr le ↦ rw (get_or_past (take n bytes) i 0 (omega (arith, length-take n bytes))) (omega arith)
    ]

pub IsBytes-rest : (b : ℕ) (bytes : List ℕ) → IsBytes (b ∷ bytes) → IsBytes bytes
IsBytes-rest b bytes h i = h (suc i)

-- the value of a step that did not fail
pub bind_ok : {A B F : Type 0} (r : Result A F) (f : A → Result B F) (y : B) → (r >>= f) ≡ Ok y → (x : A) × (r ≡ Ok x) × (f x ≡ Ok y)
bind_ok (Ok x) f y e = (x, refl, e)
bind_ok (Err d) f y e = absurd cc

-- which way a choice went
pub chosen : {A : Type 0} (b : Bool) (x y z : A) → cond b x y ≡ z → ((b ≡ true) × (x ≡ z)) ⊎ ((b ≡ false) × (y ≡ z))
chosen true x y z e = inl (refl, e)
chosen false x y z e = inr (refl, e)

-- a test that did not fail
pub guard_ok : {A F : Type 0} (b : Bool) (d : F) (r : Result A F) (y : A) → cond b (Err d) r ≡ Ok y → (b ≡ false) × (r ≡ Ok y)
guard_ok true d r y e = absurd cc
guard_ok false d r y e = (refl, e)

abbrev pub ok_of : {A F : Type 0} → A → Result A F
ok_of x = Ok x

pub ok_is : {A F : Type 0} (x y : A) → ok_of {F = F} x ≡ ok_of y → x ≡ y
ok_is x y e = cc

-- what a reader took from the front
pub record Takes (bytes text rest : List ℕ) : Type 0 where
  pub parts : bytes ≡ text ++ rest
  pub rest_fits : IsBytes rest

pub Takes-then : (a x b y c : List ℕ) → Takes a x b → Takes b y c → Takes a (x ++ y) c
Takes-then a x b y c p q = record { parts = p.parts ∙ ap (λ (t : List ℕ). x ++ t) q.parts ∙ sym (append_assoc x y c); rest_fits = q.rest_fits }

pub record Law {X F : Type 0} (Fits : X → Type 0) (spell : X → List ℕ) (read : Reading X F) : Type 0 where
  pub takes : (bytes : List ℕ) (x : X × List ℕ) → IsBytes bytes → read bytes ≡ Ok x → Takes bytes (spell x.0) x.1 × Fits x.0
  pub again : (x : X) (rest : List ℕ) → Fits x → read (spell x ++ rest) ≡ Ok (x, rest)

-- ---- numbers

pub record IsWide (w : Width) (limit : ℕ) : Type 0 where
  pub len : (n : ℕ) → length (to_le_bytes w n) ≡ byte_len w
  pub back : (bytes : List ℕ) → length bytes ≡ byte_len w → IsBytes bytes → to_le_bytes w (from_le_bytes w bytes) ≡ bytes
  pub again : (n : ℕ) → n < limit → from_le_bytes w (to_le_bytes w n) ≡ n
  pub below : (bytes : List ℕ) → IsBytes bytes → from_le_bytes w bytes < limit

pub wide16 : IsWide w16 (2 ^ 16)
wide16 = record {
  len = λ n. refl;
  back = λ bytes len fits. le_bytes_2 bytes _ len fits refl;
  again = λ n lt. from_le_bytes-to_le_bytes_2 n lt;
  below = λ bytes fits. omega (arith, fits 0, fits 1);
}

pub wide32 : IsWide w32 (2 ^ 32)
wide32 = record {
  len = λ n. refl;
  back = λ bytes len fits. le_bytes_4 bytes _ len fits refl;
  again = λ n lt. from_le_bytes-to_le_bytes_4 n lt;
  below = λ bytes fits. omega (arith, fits 0, fits 1, fits 2, fits 3);
}

pub wide64 : IsWide w64 (2 ^ 64)
wide64 = record {
  len = λ n. refl;
  back = λ bytes len fits. le_bytes_8 bytes _ len fits refl;
  again = λ n lt. from_le_bytes-to_le_bytes_8 n lt;
  below = λ bytes fits. omega (arith, fits 0, fits 1, fits 2, fits 3, fits 4, fits 5, fits 6, fits 7);
}

-- the bytes of a number, where there are enough
number_front : (w : Width) (limit : ℕ) (wide : IsWide w limit) (bytes : List ℕ) → IsBytes bytes → byte_len w ≤ length bytes
    → Takes bytes (to_le_bytes w (from_le_bytes w (take (byte_len w) bytes))) (drop (byte_len w) bytes) × (from_le_bytes w (take (byte_len w) bytes) < limit)
number_front w limit wide bytes fits long =
    let front : to_le_bytes w (from_le_bytes w (take (byte_len w) bytes)) ≡ take (byte_len w) bytes = wide.back (take (byte_len w) bytes) (omega (arith, length-take (byte_len w) bytes)) (IsBytes-take (byte_len w) bytes fits) in
    (record { parts = rw front (sym (take-append-drop (byte_len w) bytes)); rest_fits = IsBytes-drop (byte_len w) bytes fits }, wide.below (take (byte_len w) bytes) (IsBytes-take (byte_len w) bytes fits))

pub number_law : (w : Width) (limit : ℕ) → IsWide w limit → Law (λ n. n < limit) (to_le_bytes w) (number_at w)
unfolding number_at
number_law w limit wide = record {
  takes = λ bytes x fits e.
      let g = guard_ok (ltb (length bytes) (byte_len w)) (length bytes) (Ok (from_le_bytes w (take (byte_len w) bytes), drop (byte_len w) bytes)) x e in
      let is = ok_is {F = ℕ} (from_le_bytes w (take (byte_len w) bytes), drop (byte_len w) bytes) x g.1 in
      subst (λ (y : ℕ × List ℕ). Takes bytes (to_le_bytes w y.0) y.1 × (y.0 < limit)) is (number_front w limit wide bytes fits (ltb-false _ _ g.0));
  again = λ n rest lt.
      let len = wide.len n in
      let long : ltb (length (to_le_bytes w n ++ rest)) (byte_len w) ≡ false = le-ltb _ _ (omega (arith, length-append (to_le_bytes w n) rest)) in
      rw (long, take_at (to_le_bytes w n) rest (byte_len w) len, drop_at (to_le_bytes w n) rest (byte_len w) len, wide.again n lt) refl;
}

pub number_short : (w : Width) (bytes : List ℕ) (left : ℕ) → number_at w bytes ≡ Err left → length bytes < byte_len w
unfolding number_at
number_short w bytes left e =
    elim (chosen (ltb (length bytes) (byte_len w)) (Err (length bytes)) (Ok (from_le_bytes w (take (byte_len w) bytes), drop (byte_len w) bytes)) (Err left) e) [
      | inl p ↦ ltb-true _ _ p.0
      | inr p ↦ absurd (let no = p.1 in cc)
    ]

-- ---- runs of bytes

pub run_law : (n : ℕ) → Law (λ (text : List ℕ). length text ≡ n) (λ (text : List ℕ). text) (run_at n)
unfolding run_at
run_law n = record {
  takes = λ bytes x fits e.
      let g = guard_ok (ltb (length bytes) n) (length bytes) (Ok (take n bytes, drop n bytes)) x e in
      let is = ok_is {F = ℕ} (take n bytes, drop n bytes) x g.1 in
      let long : n ≤ length bytes = ltb-false _ _ g.0 in
      subst (λ (y : List ℕ × List ℕ). Takes bytes y.0 y.1 × (length y.0 ≡ n)) is (record { parts = sym (take-append-drop n bytes); rest_fits = IsBytes-drop n bytes fits }, omega (arith, length-take n bytes));
  again = λ text rest len.
      let long : ltb (length (text ++ rest)) n ≡ false = le-ltb _ _ (omega (arith, length-append text rest)) in
      rw (long, take_at text rest n len, drop_at text rest n len) refl;
}

-- ---- compact sizes

pub compact_1 : (n : ℕ) → n < 253 → compact n ≡ n ∷ []
compact_1 n lt = rw (lt-ltb n 253 lt) refl

pub compact_2 : (n : ℕ) → 253 ≤ n → n < 2 ^ 16 → compact n ≡ 253 ∷ to_le_bytes w16 n
compact_2 n le lt = rw (le-ltb n 253 le, lt-ltb n (2 ^ 16) lt) refl

pub compact_4 : (n : ℕ) → 2 ^ 16 ≤ n → n < 2 ^ 32 → compact n ≡ 254 ∷ to_le_bytes w32 n
compact_4 n le lt =
    let more : 253 ≤ n = omega arith in
    rw (le-ltb n 253 more, le-ltb n (2 ^ 16) le, lt-ltb n (2 ^ 32) lt) refl

pub compact_8 : (n : ℕ) → 2 ^ 32 ≤ n → compact n ≡ 255 ∷ to_le_bytes w64 n
compact_8 n le =
    let more : 253 ≤ n = omega arith in
    let most : 2 ^ 16 ≤ n = omega arith in
    rw (le-ltb n 253 more, le-ltb n (2 ^ 16) most, le-ltb n (2 ^ 32) le) refl

long_takes : (w : Width) (limit : ℕ) (wide : IsWide w limit) (least : ℕ) (bytes : List ℕ) (x : ℕ × List ℕ) → IsBytes bytes → long_size w least bytes ≡ Ok x
    → Takes bytes (to_le_bytes w x.0) x.1 × (least ≤ x.0) × (x.0 < limit)
unfolding long_size
long_takes w limit wide least bytes x fits e =
    let n = from_le_bytes w (take (byte_len w) bytes) in
    let g = guard_ok (ltb (length bytes) (byte_len w)) Short (cond (ltb n least) (Err NotShortest) (Ok (n, drop (byte_len w) bytes))) x e in
    let h = guard_ok (ltb n least) NotShortest (Ok (n, drop (byte_len w) bytes)) x g.1 in
    let is = ok_is {F = CompactFault} (n, drop (byte_len w) bytes) x h.1 in
    let front = number_front w limit wide bytes fits (ltb-false _ _ g.0) in
    subst (λ (y : ℕ × List ℕ). Takes bytes (to_le_bytes w y.0) y.1 × (least ≤ y.0) × (y.0 < limit)) is (front.0, ltb-false _ _ h.0, front.1)

long_again : (w : Width) (limit : ℕ) (wide : IsWide w limit) (least n : ℕ) (rest : List ℕ) → least ≤ n → n < limit → long_size w least (to_le_bytes w n ++ rest) ≡ Ok (n, rest)
unfolding long_size
long_again w limit wide least n rest le lt =
    let len = wide.len n in
    let long : ltb (length (to_le_bytes w n ++ rest)) (byte_len w) ≡ false = le-ltb _ _ (omega (arith, length-append (to_le_bytes w n) rest)) in
    rw (long, take_at (to_le_bytes w n) rest (byte_len w) len, drop_at (to_le_bytes w n) rest (byte_len w) len, wide.again n lt, le-ltb n least le) refl

long_parts : (first tag : ℕ) (rest text after : List ℕ) (n : ℕ) → first ≡ tag → compact n ≡ tag ∷ text → rest ≡ text ++ after → first ∷ rest ≡ compact n ++ after
long_parts first tag rest text after n is spelled parts = ap (λ (f : ℕ). f ∷ rest) is ∙ ap (λ (t : List ℕ). tag ∷ t) parts ∙ sym (ap (λ (t : List ℕ). t ++ after) spelled)

size_takes : (bytes : List ℕ) (x : ℕ × List ℕ) → IsBytes bytes → size_of bytes ≡ Ok x → Takes bytes (compact x.0) x.1 × (x.0 < 2 ^ 64)
unfolding size_of
size_takes [] x fits e = absurd cc
size_takes (first ∷ rest) x fits e =
    let rest_fits = IsBytes-rest first rest fits in
    elim (chosen (ltb first 253) (Ok (first, rest)) (cond (eqb first 253) (long_size w16 253 rest) (cond (eqb first 254) (long_size w32 (2 ^ 16) rest) (long_size w64 (2 ^ 32) rest))) (Ok x) e) [
      | inl p ↦
          let lt : first < 253 = ltb-true _ _ p.0 in
          subst (λ (y : ℕ × List ℕ). Takes (first ∷ rest) (compact y.0) y.1 × (y.0 < 2 ^ 64)) (ok_is {F = CompactFault} (first, rest) x p.1)
          (record { parts = sym (ap (λ (t : List ℕ). t ++ rest) (compact_1 first lt)); rest_fits = rest_fits }, omega arith)
      | inr p ↦
          elim (chosen (eqb first 253) (long_size w16 253 rest) (cond (eqb first 254) (long_size w32 (2 ^ 16) rest) (long_size w64 (2 ^ 32) rest)) (Ok x) p.1) [
            | inl q ↦
                let t = long_takes w16 (2 ^ 16) wide16 253 rest x rest_fits q.1 in
                (record { parts = long_parts first 253 rest (to_le_bytes w16 x.0) x.1 x.0 (eqb-true _ _ q.0) (compact_2 x.0 t.1 t.2) t.0.parts; rest_fits = t.0.rest_fits }, omega (arith, t.2))
            | inr q ↦
                elim (chosen (eqb first 254) (long_size w32 (2 ^ 16) rest) (long_size w64 (2 ^ 32) rest) (Ok x) q.1) [
                  | inl r ↦
                      let t = long_takes w32 (2 ^ 32) wide32 (2 ^ 16) rest x rest_fits r.1 in
                      (record { parts = long_parts first 254 rest (to_le_bytes w32 x.0) x.1 x.0 (eqb-true _ _ r.0) (compact_4 x.0 t.1 t.2) t.0.parts; rest_fits = t.0.rest_fits }, omega (arith, t.2))
                  | inr r ↦
                      let t = long_takes w64 (2 ^ 64) wide64 (2 ^ 32) rest x rest_fits r.1 in
                      let is : first ≡ 255 = omega (arith, fits 0, ltb-false _ _ p.0, eqb-false _ _ q.0, eqb-false _ _ r.0) in
                      (record { parts = long_parts first 255 rest (to_le_bytes w64 x.0) x.1 x.0 is (compact_8 x.0 t.1) t.0.parts; rest_fits = t.0.rest_fits }, t.2)
                ]
          ]
    ]

size_again : (n : ℕ) (rest : List ℕ) → n < 2 ^ 64 → size_of (compact n ++ rest) ≡ Ok (n, rest)
unfolding size_of
size_again n rest lt =
    elim (cases_lt n 253) [
      | inl small ↦ ap (λ (t : List ℕ). size_of (t ++ rest)) (compact_1 n small) ∙ rw (lt-ltb n 253 small) refl
      | inr le ↦
          elim (cases_lt n (2 ^ 16)) [
            | inl small ↦ ap (λ (t : List ℕ). size_of (t ++ rest)) (compact_2 n le small) ∙ long_again w16 (2 ^ 16) wide16 253 n rest le small
            | inr le ↦
                elim (cases_lt n (2 ^ 32)) [
                  | inl small ↦ ap (λ (t : List ℕ). size_of (t ++ rest)) (compact_4 n le small) ∙ long_again w32 (2 ^ 32) wide32 (2 ^ 16) n rest le small
                  | inr le ↦ ap (λ (t : List ℕ). size_of (t ++ rest)) (compact_8 n le) ∙ long_again w64 (2 ^ 64) wide64 (2 ^ 32) n rest le lt
                ]
          ]
    ]

pub size_law : Law (λ n. n < 2 ^ 64) compact size_of
size_law = record { takes = size_takes; again = size_again }

begun_ok : {X F : Type 0} (left : ℕ) (r : Result X F) (x : X) → result_at left r ≡ Ok x → r ≡ Ok x
begun_ok left (Ok y) x e = ap (λ (z : _). Ok z) (ok_is {F = ℕ} y x e)
begun_ok left (Err d) x e = absurd cc

pub compact_law : Law (λ n. n < 2 ^ 64) compact compact_at
unfolding compact_at
compact_law = record {
  takes = λ bytes x fits e. size_takes bytes x fits (begun_ok (length bytes) (size_of bytes) x e);
  again = λ n rest lt. ap (result_at (length (compact n ++ rest))) (size_again n rest lt);
}

-- ---- readers of readers

pub both_law : {A B F : Type 0} (FA : A → Type 0) (FB : B → Type 0) (sa : A → List ℕ) (sb : B → List ℕ) (ra : Reading A F) (rb : Reading B F)
    → Law FA sa ra → Law FB sb rb → Law (λ (p : A × B). FA p.0 × FB p.1) (λ (p : A × B). sa p.0 ++ sb p.1) (both ra rb)
both_law {A} {B} {F} FA FB sa sb ra rb la lb = record {
  takes = λ bytes z fits e.
      let a = bind_ok (ra bytes) (λ x. rb x.1 >>= λ y. Ok ((x.0, y.0), y.1)) z e in
      let b = bind_ok (rb a.0.1) (λ y. Ok ((a.0.0, y.0), y.1)) z a.2 in
      let ta = la.takes bytes a.0 fits a.1 in
      let tb = lb.takes a.0.1 b.0 ta.0.rest_fits b.1 in
      subst (λ (y : (A × B) × List ℕ). Takes bytes (sa y.0.0 ++ sb y.0.1) y.1 × (FA y.0.0 × FB y.0.1)) (ok_is {F = F} ((a.0.0, b.0.0), b.0.1) z b.2)
      (Takes-then bytes (sa a.0.0) a.0.1 (sb b.0.0) b.0.1 ta.0 tb.0, (ta.1, tb.1));
  again = λ p rest fits.
      ap (both ra rb) (append_assoc (sa p.0) (sb p.1) rest) ∙ rw (la.again p.0 (sb p.1 ++ rest) fits.0, lb.again p.1 rest fits.1) refl;
}

pub reading_map_law : {A B F : Type 0} (f : A → B) (g : B → A) (FA : A → Type 0) (FB : B → Type 0) (sa : A → List ℕ) (sb : B → List ℕ) (ra : Reading A F)
    → ((a : A) → FA a → FB (f a)) → ((a : A) → FA a → sb (f a) ≡ sa a) → ((b : B) → FB b → FA (g b)) → ((b : B) → FB b → f (g b) ≡ b)
    → Law FA sa ra → Law FB sb (reading_map f ra)
reading_map_law {A} {B} {F} f g FA FB sa sb ra fits_f spells fits_g back la = record {
  takes = λ bytes z fits e.
      let a = bind_ok (ra bytes) (λ x. Ok (f x.0, x.1)) z e in
      let ta = la.takes bytes a.0 fits a.1 in
      subst (λ (y : B × List ℕ). Takes bytes (sb y.0) y.1 × FB y.0) (ok_is {F = F} (f a.0.0, a.0.1) z a.2)
      (subst (λ (t : List ℕ). Takes bytes t a.0.1) (sym (spells a.0.0 ta.1)) ta.0, fits_f a.0.0 ta.1);
  again = λ b rest fits.
      let text : sb b ≡ sa (g b) = sym (ap sb (back b fits)) ∙ spells (g b) (fits_g b fits) in
      ap (λ (t : List ℕ). reading_map f ra (t ++ rest)) text ∙ rw (la.again (g b) rest (fits_g b fits)) (ap (λ (y : B). Ok (y, rest)) (back b fits));
}

pub unless_law : {A : Type 0} (refused : A → Bool) (FA : A → Type 0) (sa : A → List ℕ) (ra : Reader A)
    → Law FA sa ra → Law (λ (a : A). FA a × (refused a ≡ false)) sa (unless refused ra)
unless_law {A} refused FA sa ra la = record {
  takes = λ bytes z fits e.
      let a = bind_ok (ra bytes) (λ x. cond (refused x.0) (Err (length bytes)) (Ok x)) z e in
      let g = guard_ok (refused a.0.0) (length bytes) (Ok a.0) z a.2 in
      let ta = la.takes bytes a.0 fits a.1 in
      subst (λ (y : A × List ℕ). Takes bytes (sa y.0) y.1 × (FA y.0 × (refused y.0 ≡ false))) (ok_is {F = ℕ} a.0 z g.1) (ta.0, (ta.1, g.0));
  again = λ a rest fits. rw (la.again a rest fits.0, fits.1) refl;
}

times_take : {A F : Type 0} (FA : A → Type 0) (sa : A → List ℕ) (ra : Reading A F) → Law FA sa ra → (n : ℕ) (bytes : List ℕ) (z : List A × List ℕ) → IsBytes bytes → times ra n bytes ≡ Ok z
    → Takes bytes (flat_map sa z.0) z.1 × ((length z.0 ≡ n) × AllByRecursion FA z.0)
unfolding times
times_take {A} {F} FA sa ra la zero bytes z fits e =
    subst (λ (y : List A × List ℕ). Takes bytes (flat_map sa y.0) y.1 × ((length y.0 ≡ 0) × AllByRecursion FA y.0)) (ok_is {F = F} ([], bytes) z e) (record { parts = refl; rest_fits = fits }, (refl, tt))
times_take {A} {F} FA sa ra la (suc n) bytes z fits e =
    let a = bind_ok (ra bytes) (λ x. times ra n x.1 >>= λ xs. Ok (x.0 ∷ xs.0, xs.1)) z e in
    let b = bind_ok (times ra n a.0.1) (λ xs. Ok (a.0.0 ∷ xs.0, xs.1)) z a.2 in
    let first = la.takes bytes a.0 fits a.1 in
    let others = times_take FA sa ra la n a.0.1 b.0 first.0.rest_fits b.1 in
    let whole = Takes-then bytes (sa a.0.0) a.0.1 (flat_map sa b.0.0) b.0.1 first.0 others.0 in
    subst (λ (y : List A × List ℕ). Takes bytes (flat_map sa y.0) y.1 × ((length y.0 ≡ suc n) × AllByRecursion FA y.0)) (ok_is {F = F} (a.0.0 ∷ b.0.0, b.0.1) z b.2)
    (rw flat_map-cons whole, (ap suc others.1.0, (first.1, others.1.1)))

times_again : {A F : Type 0} (FA : A → Type 0) (sa : A → List ℕ) (ra : Reading A F) → Law FA sa ra → (xs : List A) (rest : List ℕ) → AllByRecursion FA xs → times ra (length xs) (flat_map sa xs ++ rest) ≡ Ok (xs, rest)
unfolding times
times_again FA sa ra la [] rest fits = refl
times_again FA sa ra la (x ∷ xs) rest fits =
    let regrouped : flat_map sa (x ∷ xs) ++ rest ≡ sa x ++ (flat_map sa xs ++ rest) = ap (λ (t : List ℕ). t ++ rest) (flat_map-cons sa x xs) ∙ append_assoc (sa x) (flat_map sa xs) rest in
    ap (times ra (suc (length xs))) regrouped ∙ rw (la.again x (flat_map sa xs ++ rest) fits.0, times_again FA sa ra la xs rest fits.1) refl

pub times_law : {A F : Type 0} (FA : A → Type 0) (sa : A → List ℕ) (ra : Reading A F) → Law FA sa ra → (n : ℕ) → Law (λ (xs : List A). (length xs ≡ n) × AllByRecursion FA xs) (flat_map sa) (times ra n)
times_law {A} FA sa ra la n = record {
  takes = times_take FA sa ra la n;
  again = λ xs rest fits. subst (λ (k : ℕ). times ra k (flat_map sa xs ++ rest) ≡ Ok (xs, rest)) fits.0 (times_again FA sa ra la xs rest fits.1);
}

pub counted_list_law : {A F : Type 0} (FN : ℕ → Type 0) (sn : ℕ → List ℕ) (rn : Reading ℕ F) (FA : A → Type 0) (sa : A → List ℕ) (ra : Reading A F)
    → Law FN sn rn → Law FA sa ra → Law (λ (xs : List A). FN (length xs) × AllByRecursion FA xs) (λ (xs : List A). sn (length xs) ++ flat_map sa xs) (counted_list rn ra)
counted_list_law {A} {F} FN sn rn FA sa ra ln la = record {
  takes = λ bytes z fits e.
      let n = bind_ok (rn bytes) (λ x. times ra x.0 x.1) z e in
      let tn = ln.takes bytes n.0 fits n.1 in
      let t = times_take FA sa ra la n.0.0 n.0.1 z tn.0.rest_fits n.2 in
      let whole = Takes-then bytes (sn n.0.0) n.0.1 (flat_map sa z.0) z.1 tn.0 t.0 in
      (subst (λ (k : ℕ). Takes bytes (sn k ++ flat_map sa z.0) z.1) (sym t.1.0) whole, (subst FN (sym t.1.0) tn.1, t.1.1));
  again = λ xs rest fits.
      ap (counted_list rn ra) (append_assoc (sn (length xs)) (flat_map sa xs) rest) ∙ rw (ln.again (length xs) (flat_map sa xs ++ rest) fits.0) (times_again FA sa ra la xs rest fits.1);
}

-- a byte string is as many bytes as it has
string_take : (bytes : List ℕ) (z : List ℕ × List ℕ) → IsBytes bytes → string_at bytes ≡ Ok z → Takes bytes (string z.0) z.1 × (length z.0 < 2 ^ 64)
unfolding string_at
string_take bytes z fits e =
    let n = bind_ok (compact_at bytes) (λ x. run_at x.0 x.1) z e in
    let tn = compact_law.takes bytes n.0 fits n.1 in
    let t = (run_law n.0.0).takes n.0.1 z tn.0.rest_fits n.2 in
    let whole = Takes-then bytes (compact n.0.0) n.0.1 z.0 z.1 tn.0 t.0 in
    (subst (λ (k : ℕ). Takes bytes (compact k ++ z.0) z.1) (sym t.1) whole, subst (λ (k : ℕ). k < 2 ^ 64) (sym t.1) tn.1)

string_repeats : (text rest : List ℕ) → length text < 2 ^ 64 → string_at (string text ++ rest) ≡ Ok (text, rest)
unfolding string_at
string_repeats text rest lt =
    ap string_at (append_assoc (compact (length text)) text rest) ∙ rw (compact_law.again (length text) (text ++ rest) lt) ((run_law (length text)).again text rest refl)

pub string_law : Law (λ (text : List ℕ). length text < 2 ^ 64) string string_at
string_law = record { takes = string_take; again = string_repeats }
