-- What is written reads back, and a longer front reads alike.
use Rattle.std.proofs.Common.{◌≡◌, ◌∙◌, ◌<◌, ◌≤◌, ◌^◌, ℕ, ◌+◌, ◌-◌, ◌==◌, ◌&&◌, ◌||◌, not, Bool, true, false, cond, ltb, List, [], ◌∷◌, ◌++◌, length, take, drop, Option, Some, None, Result, Ok, Err, refl, sym, ap, subst, arith, append_assoc, length-append, length-drop}
use Rattle.std.specs.Prelude.{◌≢◌, nat_le}
use Rattle.std.specs.Int.{Width, w16, w64, byte_len, from_le_bytes, to_le_bytes}
use Rattle.std.proofs.lemmas.Bool.{le-ltb, ltb-false, ltb-true, leb-true}
use Rattle.std.proofs.lemmas.Bool.Decides.{nat_tests}
use Rattle.std.proofs.lemmas.List.{take-append-le, drop-append-le}
use Rattle.ox_bytes.specs.Reading.{number_at, run_at, ◌>>=◌}
use Rattle.ox_bytes.proofs.Laws.{number_law, run_law, wide16, wide64, guard_ok, ok_is, number_short}
use Rattle.ox_follow.specs.declared.frame.Position.{Position}
use Rattle.ox_follow.specs.Position.{FitsPosition}
use Rattle.ox_follow.specs.Frame.{Frame, Base, Step, Have, Level, FitsFrame, position_bytes, with_length, spelled}
use Rattle.ox_follow.specs.Front.{Front, More, Bad, Whole, is_length, is_length_of, place_at, is_bad_place, has_bad_place, based, frame_behind, placed, frame_by, whole_or_bad, by_run, by_kind, by_size, by_length, front_of}

abbrev Field : Type 0
Field = Result (ℕ × List ℕ) ℕ

-- ---- a longer front

abbrev with_more : List ℕ → ℕ × List ℕ → Field
with_more more x = Ok (x.0, x.1 ++ more)

number_on : (w : Width) (bytes more : List ℕ) (x : ℕ × List ℕ) → number_at w bytes ≡ Ok x → number_at w (bytes ++ more) ≡ with_more more x
unfolding number_at
number_on w bytes more x is =
    let g = guard_ok (ltb (length bytes) (byte_len w)) (length bytes) (Ok (from_le_bytes w (take (byte_len w) bytes), drop (byte_len w) bytes)) x is in
    let same = ok_is {F = ℕ} (from_le_bytes w (take (byte_len w) bytes), drop (byte_len w) bytes) x g.1 in
    let long : byte_len w ≤ length bytes = ltb-false _ _ g.0 in
    let longer : ltb (length (bytes ++ more)) (byte_len w) ≡ false = le-ltb _ _ (omega (arith, length-append bytes more, long)) in
    rw (longer, take-append-le (byte_len w) bytes more long, drop-append-le (byte_len w) bytes more long) (ap (with_more more) same)

run_on : (n : ℕ) (bytes more : List ℕ) (x : List ℕ × List ℕ) → run_at n bytes ≡ Ok x → run_at n (bytes ++ more) ≡ Ok (x.0, x.1 ++ more)
unfolding run_at
run_on n bytes more x is =
    let g = guard_ok (ltb (length bytes) n) (length bytes) (Ok (take n bytes, drop n bytes)) x is in
    let same = ok_is {F = ℕ} (take n bytes, drop n bytes) x g.1 in
    let long : n ≤ length bytes = ltb-false _ _ g.0 in
    let longer : ltb (length (bytes ++ more)) n ≡ false = le-ltb _ _ (omega (arith, length-append bytes more, long)) in
    let onto : List ℕ × List ℕ → Result (List ℕ × List ℕ) ℕ = λ y. Ok (y.0, y.1 ++ more) in
    rw (longer, take-append-le n bytes more long, drop-append-le n bytes more long) (ap onto same)

run_long : (n : ℕ) (bytes : List ℕ) (x : List ℕ × List ℕ) → run_at n bytes ≡ Ok x → n ≤ length bytes
unfolding run_at
run_long n bytes x is = ltb-false _ _ (guard_ok (ltb (length bytes) n) (length bytes) (Ok (take n bytes, drop n bytes)) x is).0

number_long : (w : Width) (bytes : List ℕ) (x : ℕ × List ℕ) → number_at w bytes ≡ Ok x → length bytes ≡ byte_len w + length x.1
unfolding number_at
number_long w bytes x is =
    let g = guard_ok (ltb (length bytes) (byte_len w)) (length bytes) (Ok (from_le_bytes w (take (byte_len w) bytes), drop (byte_len w) bytes)) x is in
    let same = ok_is {F = ℕ} (from_le_bytes w (take (byte_len w) bytes), drop (byte_len w) bytes) x g.1 in
    let long : byte_len w ≤ length bytes = ltb-false _ _ g.0 in
    subst (λ (y : ℕ × List ℕ). length bytes ≡ byte_len w + length y.1) same (omega (arith, long, length-drop (byte_len w) bytes))

place_on : (behind more : List ℕ) (x : ℕ × List ℕ) → place_at behind ≡ Ok x → place_at (behind ++ more) ≡ with_more more x
place_on behind more x is = by_generation (number_at w64 behind) refl is
  where
    by_generation : (read : Field) → number_at w64 behind ≡ read → (read >>= λ g. number_at w64 g.1) ≡ Ok x → place_at (behind ++ more) ≡ with_more more x
    by_generation (Ok g) read is = rw (number_on w64 behind more g read) (number_on w64 g.1 more x is)
    by_generation (Err left) read is = absurd (cc is)

place_short : (behind : List ℕ) (left : ℕ) → place_at behind ≡ Err left → length behind < 16
place_short behind left is = by_generation (number_at w64 behind) refl is
  where
    by_generation : (read : Field) → number_at w64 behind ≡ read → (read >>= λ g. number_at w64 g.1) ≡ Err left → length behind < 16
    by_generation (Ok g) read is =
        let all : length behind ≡ 8 + length g.1 = number_long w64 behind g read in
        let few : length g.1 < 8 = number_short w64 g.1 left is in
        omega (arith, all, few)
    by_generation (Err e) read is =
        let few : length behind < 8 = number_short w64 behind e read in
        omega (arith, few)

-- of two choices with one test
both_chosen : (b : Bool) (x y : Front) → cond b Bad x ≢ More → (x ≢ More → y ≡ x) → cond b Bad y ≡ cond b Bad x
both_chosen true x y some same = refl
both_chosen false x y some same = same some

no_more : (b : Bool) (y : Front) → cond b Bad More ≢ More → cond b Bad y ≡ cond b Bad More
no_more true y some = refl
no_more false y some = absurd (some refl)

by_run_on : (size kind : ℕ) (behind more : List ℕ) (read : Result (List ℕ × List ℕ) ℕ) → run_at (size - 1) behind ≡ read → by_run size kind read ≢ More
    → by_run size kind (run_at (size - 1) (behind ++ more)) ≡ by_run size kind read
by_run_on size kind behind more (Ok x) read some = ap (by_run size kind) (run_on (size - 1) behind more x read)
by_run_on size kind behind more (Err left) read some = absurd (some refl)

-- whether the kind is a base's
base_is_long : (kind size : ℕ) → kind == 1 ≡ true → is_length_of kind size ≡ true → 20 ≤ size
base_is_long kind size base fit = leb-true _ _ (sym (ap (λ (b : Bool). cond b (nat_le 20 size) (cond (kind == 2) (nat_le size 4294967312) ((kind == 3 || kind == 4) && size == 17))) base) ∙ fit)

bad_place_on : (kind size : ℕ) (behind more : List ℕ) → is_length_of kind size ≡ true
    → cond (has_bad_place kind behind) Bad (by_run size kind (run_at (size - 1) behind)) ≢ More
    → has_bad_place kind (behind ++ more) ≡ has_bad_place kind behind
bad_place_on kind size behind more fit some = by_base (kind == 1) refl some
  where
    bad : Bool → List ℕ → Bool
    bad base bytes = base && is_bad_place (place_at bytes)

    by_place : (read : Field) → place_at behind ≡ read → kind == 1 ≡ true → cond (is_bad_place read) Bad (by_run size kind (run_at (size - 1) behind)) ≢ More
        → is_bad_place (place_at (behind ++ more)) ≡ is_bad_place read
    by_place (Ok x) read base some = ap is_bad_place (place_on behind more x read)
    by_place (Err left) read base some = by_whole (run_at (size - 1) behind) refl some
      where
        by_whole : (run : Result (List ℕ × List ℕ) ℕ) → run_at (size - 1) behind ≡ run → by_run size kind run ≢ More → is_bad_place (place_at (behind ++ more)) ≡ false
        by_whole (Ok x) run some =
            let long : size - 1 ≤ length behind = run_long (size - 1) behind x run in
            let most : 20 ≤ size = base_is_long kind size base fit in
            let few : length behind < 16 = place_short behind left read in
            absurd (omega (arith, long, most, few))
        by_whole (Err e) run some = absurd (some refl)

    by_base : (base : Bool) → kind == 1 ≡ base → cond (base && is_bad_place (place_at behind)) Bad (by_run size kind (run_at (size - 1) behind)) ≢ More
        → (base && is_bad_place (place_at (behind ++ more))) ≡ (base && is_bad_place (place_at behind))
    by_base true is some = by_place (place_at behind) refl is some
    by_base false is some = refl

by_kind_on : (size kind : ℕ) (behind more : List ℕ) → by_kind size kind behind ≢ More → by_kind size kind (behind ++ more) ≡ by_kind size kind behind
by_kind_on size kind behind more some = by_fit (is_length_of kind size) refl some
  where
    by_fit : (fit : Bool) → is_length_of kind size ≡ fit → cond (not fit || has_bad_place kind behind) Bad (by_run size kind (run_at (size - 1) behind)) ≢ More
        → cond (not fit || has_bad_place kind (behind ++ more)) Bad (by_run size kind (run_at (size - 1) (behind ++ more)))
        ≡ cond (not fit || has_bad_place kind behind) Bad (by_run size kind (run_at (size - 1) behind))
    by_fit true is some =
        ap (λ (b : Bool). cond b Bad (by_run size kind (run_at (size - 1) (behind ++ more)))) (bad_place_on kind size behind more is some)
        ∙ both_chosen (has_bad_place kind behind) (by_run size kind (run_at (size - 1) behind)) (by_run size kind (run_at (size - 1) (behind ++ more))) some
        (by_run_on size kind behind more (run_at (size - 1) behind) refl)
    by_fit false is some = refl

by_size_on : (size : ℕ) (rest more : List ℕ) → by_size size rest ≢ More → by_size size (rest ++ more) ≡ by_size size rest
by_size_on size [] [] some = refl
by_size_on size [] (kind ∷ more) some = no_more (not (is_length size)) (by_kind size kind more) some
by_size_on size (kind ∷ behind) more some =
    both_chosen (not (is_length size)) (by_kind size kind behind) (by_kind size kind (behind ++ more)) some (by_kind_on size kind behind more)

by_length_on : (bytes more : List ℕ) (read : Field) → number_at w64 bytes ≡ read → by_length read ≢ More → by_length (number_at w64 (bytes ++ more)) ≡ by_length read
by_length_on bytes more (Ok x) read some = ap by_length (number_on w64 bytes more x read) ∙ by_size_on x.0 x.1 more some
by_length_on bytes more (Err left) read some = absurd (some refl)

pub read_alike : (bytes more : List ℕ) → front_of bytes ≢ More → front_of (bytes ++ more) ≡ front_of bytes
read_alike bytes more some = by_length_on bytes more (number_at w64 bytes) refl some

-- ---- how much stands there

-- of two choices with one test, where the first is Bad
not_chosen : (b : Bool) (x y : Front) → cond b Bad x ≡ y → (Bad ≡ y → ⊥) → x ≡ y
not_chosen true x y is other = absurd (other is)
not_chosen false x y is other = is

whole_as : (size : ℕ) (read : Option Frame) (frame : Frame) (used : ℕ) → whole_or_bad size read ≡ Whole frame used → used ≡ size
whole_as size None frame used is = absurd (cc is)
whole_as size (Some other) frame used is = sym (cc is)

never_more : (size : ℕ) (read : Option Frame) → whole_or_bad size read ≡ More → ⊥
never_more size None is = cc is
never_more size (Some other) is = cc is

whole_in_run : (size kind : ℕ) (behind : List ℕ) (frame : Frame) (used : ℕ) (read : Result (List ℕ × List ℕ) ℕ) → run_at (size - 1) behind ≡ read → by_run size kind read ≡ Whole frame used
    → (used ≡ 8 + size) × (size - 1 ≤ length behind)
whole_in_run size kind behind frame used (Ok run) read is =
    (whole_as (8 + size) (frame_by kind (number_at w64 run.0)) frame used is, run_long (size - 1) behind run read)
whole_in_run size kind behind frame used (Err left) read is = absurd (cc is)

whole_in_size : (size : ℕ) (rest : List ℕ) (frame : Frame) (used : ℕ) → by_size size rest ≡ Whole frame used → (used ≡ 8 + size) × (size ≤ length rest)
whole_in_size size [] frame used is = absurd (cc (not_chosen (not (is_length size)) More (Whole frame used) is (λ e. cc e)))
whole_in_size size (kind ∷ behind) frame used is =
    let of_kind : by_kind size kind behind ≡ Whole frame used = not_chosen (not (is_length size)) (by_kind size kind behind) (Whole frame used) is (λ e. cc e) in
    let of_run : by_run size kind (run_at (size - 1) behind) ≡ Whole frame used =
    not_chosen (not (is_length_of kind size) || has_bad_place kind behind) (by_run size kind (run_at (size - 1) behind)) (Whole frame used) of_kind (λ e. cc e) in
    let found = whole_in_run size kind behind frame used (run_at (size - 1) behind) refl of_run in
    let long : size - 1 ≤ length behind = found.1 in
    (found.0, omega (arith, long))

-- a frame takes more bytes than its length has, and they are there
pub whole_is_there : (bytes : List ℕ) (frame : Frame) (used : ℕ) → front_of bytes ≡ Whole frame used → (8 ≤ used) × (used ≤ length bytes)
whole_is_there bytes frame used is = by_read (number_at w64 bytes) refl is
  where
    by_read : (read : Field) → number_at w64 bytes ≡ read → by_length read ≡ Whole frame used → (8 ≤ used) × (used ≤ length bytes)
    by_read (Ok x) read is =
        let found = whole_in_size x.0 x.1 frame used is in
        let size : used ≡ 8 + x.0 = found.0 in
        let long : x.0 ≤ length x.1 = found.1 in
        let all : length bytes ≡ 8 + length x.1 = number_long w64 bytes x read in
        (omega (arith, size), omega (arith, size, long, all))
    by_read (Err left) read is = absurd (cc is)

short_run : (n : ℕ) (bytes : List ℕ) (left : ℕ) → run_at n bytes ≡ Err left → length bytes < n
unfolding run_at
short_run n bytes left is = by_test (ltb (length bytes) n) refl is
  where
    by_test : (b : Bool) → ltb (length bytes) n ≡ b → cond {A = Result (List ℕ × List ℕ) ℕ} b (Err (length bytes)) (Ok (take n bytes, drop n bytes)) ≡ Err left → length bytes < n
    by_test true short is = ltb-true _ _ short
    by_test false short is = absurd (cc is)

more_in_run : (size kind : ℕ) (behind : List ℕ) (read : Result (List ℕ × List ℕ) ℕ) → run_at (size - 1) behind ≡ read → by_run size kind read ≡ More → length behind < size - 1
more_in_run size kind behind (Ok run) read is = absurd (never_more (8 + size) (frame_by kind (number_at w64 run.0)) is)
more_in_run size kind behind (Err left) read is = short_run (size - 1) behind left read

-- a length that may stand there
length_most : (size : ℕ) → not (is_length size) ≡ false → size ≤ 4294967315
length_most size is = grind (arith, nat_tests)

chosen_other : (b : Bool) (x y : Front) → cond b Bad x ≡ y → (Bad ≡ y → ⊥) → b ≡ false
chosen_other true x y is other = absurd (other is)
chosen_other false x y is other = refl

more_in_size : (size : ℕ) (rest : List ℕ) → by_size size rest ≡ More → length rest ≤ 4294967315
more_in_size size [] is = omega arith
more_in_size size (kind ∷ behind) is =
    let few : size ≤ 4294967315 = length_most size (chosen_other (not (is_length size)) (by_kind size kind behind) More is (λ e. cc e)) in
    let of_kind : by_kind size kind behind ≡ More = not_chosen (not (is_length size)) (by_kind size kind behind) More is (λ e. cc e) in
    let of_run : by_run size kind (run_at (size - 1) behind) ≡ More =
    not_chosen (not (is_length_of kind size) || has_bad_place kind behind) (by_run size kind (run_at (size - 1) behind)) More of_kind (λ e. cc e) in
    let short : length behind < size - 1 = more_in_run size kind behind (run_at (size - 1) behind) refl of_run in
    omega (arith, few, short)

-- while neither a frame nor a fault stands there, the bytes are fewer than the longest frame has
pub more_is_short : (bytes : List ℕ) → front_of bytes ≡ More → length bytes ≤ 4294967323
more_is_short bytes is = by_read (number_at w64 bytes) refl is
  where
    by_read : (read : Field) → number_at w64 bytes ≡ read → by_length read ≡ More → length bytes ≤ 4294967323
    by_read (Ok x) read is =
        let few : length x.1 ≤ 4294967315 = more_in_size x.0 x.1 is in
        let all : length bytes ≡ 8 + length x.1 = number_long w64 bytes x read in
        omega (arith, few, all)
    by_read (Err left) read is =
        let few : length bytes < 8 = number_short w64 bytes left read in
        omega (arith, few)

pub none_in_front : front_of [] ≡ More
unfolding number_at
none_in_front = refl

-- ---- what is written

placed_back : (kind : ℕ) (at : Position) (tail : List ℕ) → FitsPosition at → frame_by kind (number_at w64 (position_bytes at ++ tail)) ≡ frame_behind kind at tail
placed_back kind at tail fit =
    let generation = to_le_bytes w64 at.generation in
    let place = to_le_bytes w64 at.place in
    ap (λ (l : List ℕ). frame_by kind (number_at w64 l)) (append_assoc generation place tail)
    ∙ ap (frame_by kind) ((number_law w64 (2 ^ 64) wide64).again at.generation (place ++ tail) fit.generation)
    ∙ ap (placed kind at.generation) ((number_law w64 (2 ^ 64) wide64).again at.place tail fit.place)

place_back : (at : Position) (tail : List ℕ) → FitsPosition at → place_at (position_bytes at ++ tail) ≡ Ok (at.place, tail)
place_back at tail fit =
    let generation = to_le_bytes w64 at.generation in
    let place = to_le_bytes w64 at.place in
    ap place_at (append_assoc generation place tail)
    ∙ ap (λ (f : Field). f >>= λ g. number_at w64 g.1) ((number_law w64 (2 ^ 64) wide64).again at.generation (place ++ tail) fit.generation)
    ∙ (number_law w64 (2 ^ 64) wide64).again at.place tail fit.place

-- a frame of this kind, by its parts
record IsSpelled (kind : ℕ) (at : Position) (tail : List ℕ) (frame : Frame) : Type 0 where
  position : FitsPosition at
  length_fits : is_length (17 + length tail) ≡ true
  kind_fits : is_length_of kind (17 + length tail) ≡ true
  place : (kind == 1 && not (at.place == 0)) ≡ false
  is : frame_behind kind at tail ≡ Some frame

short_enough : (n : ℕ) → is_length n ≡ true → n < 2 ^ 64
short_enough n is = grind (arith, nat_tests)

read_parts : (kind : ℕ) (at : Position) (tail more : List ℕ) (frame : Frame) → IsSpelled kind at tail frame
    → front_of (with_length (kind ∷ position_bytes at ++ tail) ++ more) ≡ Whole frame (length (with_length (kind ∷ position_bytes at ++ tail)))
read_parts kind at tail more frame is =
    let inner : List ℕ = kind ∷ position_bytes at ++ tail in
    let size : length inner ≡ 17 + length tail = omega (arith, length-append (position_bytes at) tail) in
    let behind : List ℕ = position_bytes at ++ tail in
    let whole : length behind ≡ length inner - 1 = omega arith in
    let long : is_length (length inner) ≡ true = ap is_length size ∙ is.length_fits in
    let fit : is_length_of kind (length inner) ≡ true = ap (is_length_of kind) size ∙ is.kind_fits in
    let place : has_bad_place kind (behind ++ more) ≡ false =
    ap (λ (l : List ℕ). has_bad_place kind l) (append_assoc (position_bytes at) tail more)
    ∙ ap (λ (f : Field). kind == 1 && is_bad_place f) (place_back at (tail ++ more) is.position) ∙ is.place in
    ap (λ (l : List ℕ). front_of l) (append_assoc (to_le_bytes w64 (length inner)) inner more)
    ∙ ap by_length ((number_law w64 (2 ^ 64) wide64).again (length inner) (inner ++ more) (short_enough (length inner) long))
    ∙ ap (λ (b : Bool). cond (not b) Bad (by_kind (length inner) kind (behind ++ more))) long
    ∙ ap (λ (b : Bool). cond (not b || has_bad_place kind (behind ++ more)) Bad (by_run (length inner) kind (run_at (length inner - 1) (behind ++ more)))) fit
    ∙ ap (λ (b : Bool). cond b Bad (by_run (length inner) kind (run_at (length inner - 1) (behind ++ more)))) place
    ∙ ap (by_run (length inner) kind) ((run_law (length inner - 1)).again behind more whole)
    ∙ ap (whole_or_bad (8 + length inner)) (placed_back kind at tail is.position ∙ is.is)
    ∙ ap (Whole frame) (sym (length-append (to_le_bytes w64 (length inner)) inner))

pub read_back : (frame : Frame) (more : List ℕ) → FitsFrame frame → front_of (spelled frame ++ more) ≡ Whole frame (length (spelled frame))
read_back (Base at profile depth body) more fit =
    let size : length (profile ∷ to_le_bytes w16 depth ++ body) ≡ 3 + length body = omega (arith, length-append (to_le_bytes w16 depth) body) in
    read_parts 1 at (profile ∷ to_le_bytes w16 depth ++ body) more (Base at profile depth body) (record {
      position = fit.0;
      length_fits = grind (arith, nat_tests, size, fit.3);
      kind_fits = grind (arith, nat_tests, size, fit.3);
      place = ap (λ (n : ℕ). not (n == 0)) fit.1;
      is = ap (based at profile) ((number_law w16 (2 ^ 16) wide16).again depth body fit.2);
    })
read_back (Step at payload) more fit = read_parts 2 at payload more (Step at payload) (record {
  position = fit.0;
  length_fits = grind (arith, nat_tests, fit.1);
  kind_fits = grind (arith, nat_tests, fit.1);
  place = refl;
  is = refl;
})
read_back (Have at) more fit = nothing_behind 3 at more (Have at) refl refl refl fit
  where
    nothing_behind : (kind : ℕ) (at : Position) (more : List ℕ) (frame : Frame) → is_length_of kind 17 ≡ true → kind == 1 ≡ false → frame_behind kind at [] ≡ Some frame → FitsPosition at
        → front_of (with_length (kind ∷ position_bytes at) ++ more) ≡ Whole frame (length (with_length (kind ∷ position_bytes at)))
    nothing_behind kind at more frame fit other is fits_at = read_parts kind at [] more frame (record {
      position = fits_at;
      length_fits = refl;
      kind_fits = fit;
      place = ap (λ (b : Bool). b && not (at.place == 0)) other;
      is = is;
    })
read_back (Level at) more fit = read_parts 4 at [] more (Level at) (record {
  position = fit;
  length_fits = refl;
  kind_fits = refl;
  place = refl;
  is = refl;
})
