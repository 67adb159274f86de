-- Rows taken apart by their flags, and put together again.
use Rattle.std.proofs.Common.{◌≡◌, ◌∙◌, ℕ, ◌+◌, ◌-◌, ◌<◌, ◌≤◌, Bool, true, false, cond, List, [], ◌∷◌, ◌++◌, length, take, drop, get_or, refl, sym, ap, ap₂, arith, append_assoc, length-append, take-append-drop, drop_at}
use Rattle.std.specs.Prelude.{not, filter, reverse}
use Rattle.std.specs.List.{list_any}
use Rattle.std.proofs.lemmas.Bool.{cond-true, cond-false, true≢false}
use Rattle.std.proofs.lemmas.List.{drop_more, drop_all, take_more, length-drop, length-map, same_from_push, reverse-append, reverse-reverse}
use Rattle.ox_inscribe.specs.Reveal.{Revealed, rows_of, in_order}
use Rattle.ox_inscribe.specs.Scenes.{fees_of, rows_if}
use Rattle.ox_inscribe.specs.declared.row.InsRow.{InsRow}
use Rattle.ox_inscribe.proofs.FrontLaws.{pushed_front}

if-cons : (passes : Bool → Bool) (flag : Bool) (flags : List Bool) (row : InsRow) (rows : List InsRow) → rows_if passes (flag ∷ flags) (row ∷ rows) ≡ cond (passes flag) (row ∷ rows_if passes flags rows) (rows_if passes flags rows)
unfolding rows_if
if-cons passes flag flags row rows = refl

if-none : (passes : Bool → Bool) (rows : List InsRow) → rows_if passes [] rows ≡ []
unfolding rows_if
if-none passes rows = refl

-- ---- what comes off the end

-- one flag and one row more, from the end
record OneBack (flags : List Bool) (rows : List InsRow) (behind : ℕ) (flag : Bool) (row : InsRow) : Type 0 where
  flags_split : drop (length flags - (behind + 1)) flags ≡ flag ∷ drop (length flags - behind) flags
  rows_split : drop (length rows - (behind + 1)) rows ≡ row ∷ drop (length rows - behind) rows

one_back : (flags : List Bool) (rows : List InsRow) (behind : ℕ) (d : Bool) (row : InsRow) → behind < length flags → length flags ≤ length rows → row ≡ get_or rows (length rows - behind - 1) row → OneBack flags rows behind (get_or flags (length flags - 1 - behind) d) row
one_back flags rows behind d row within each is =
    let k = length flags - (behind + 1) in
    let j = length rows - (behind + 1) in
    let k_on : k + 1 ≡ length flags - behind = omega arith in
    let j_on : j + 1 ≡ length rows - behind = omega arith in
    let k_same : k ≡ length flags - 1 - behind = omega arith in
    let j_same : length rows - behind - 1 ≡ j = omega arith in record {
      flags_split = drop_more flags k d (omega arith) ∙ ap₂ (λ (a b : ℕ). get_or flags a d ∷ drop b flags) k_same k_on;
      rows_split = drop_more rows j row (omega arith) ∙ ap₂ (λ (r : InsRow) (b : ℕ). r ∷ drop b rows) (sym (is ∙ ap (λ (n : ℕ). get_or rows n row) j_same)) j_on;
    }

pub part_more : (passes : Bool → Bool) (flags : List Bool) (rows : List InsRow) (part after : List InsRow) (behind : ℕ) (d : Bool) (row : InsRow) → behind < length flags → length flags ≤ length rows → row ≡ get_or rows (length rows - behind - 1) row
    → passes (get_or flags (length flags - 1 - behind) d) ≡ true → after ≡ part ++ row ∷ [] → part ≡ reverse (rows_if passes (drop (length flags - behind) flags) (drop (length rows - behind) rows))
    → after ≡ reverse (rows_if passes (drop (length flags - (behind + 1)) flags) (drop (length rows - (behind + 1)) rows))
part_more passes flags rows part after behind d row within each is pass pushed so_far =
    let back = one_back flags rows behind d row within each is in
    pushed ∙ ap (λ (front : List InsRow). front ++ row ∷ []) so_far
    ∙ sym (ap reverse (ap₂ (rows_if passes) back.flags_split back.rows_split ∙ if-cons passes _ _ row _ ∙ cond-true _ _ _ pass) ∙ reverse-append (row ∷ []) (rows_if passes (drop (length flags - behind) flags) (drop (length rows - behind) rows)))

pub part_same : (passes : Bool → Bool) (flags : List Bool) (rows : List InsRow) (part : List InsRow) (behind : ℕ) (d : Bool) (row : InsRow) → behind < length flags → length flags ≤ length rows → row ≡ get_or rows (length rows - behind - 1) row
    → passes (get_or flags (length flags - 1 - behind) d) ≡ false → part ≡ reverse (rows_if passes (drop (length flags - behind) flags) (drop (length rows - behind) rows))
    → part ≡ reverse (rows_if passes (drop (length flags - (behind + 1)) flags) (drop (length rows - (behind + 1)) rows))
part_same passes flags rows part behind d row within each is fail so_far =
    let back = one_back flags rows behind d row within each is in
    so_far ∙ sym (ap reverse (ap₂ (rows_if passes) back.flags_split back.rows_split ∙ if-cons passes _ _ row _ ∙ cond-false _ _ _ fail))

pub part_none : (passes : Bool → Bool) (flags : List Bool) (rows part : List InsRow) → part ≡ [] → part ≡ reverse (rows_if passes (drop (length flags - 0) flags) (drop (length rows - 0) rows))
part_none passes flags rows part none =
    let all : length flags ≤ length flags - 0 = omega arith in
    none ∙ sym (ap reverse (ap (λ (fs : List Bool). rows_if passes fs (drop (length rows - 0) rows)) (drop_all (length flags - 0) flags all) ∙ if-none passes _))

pub part_all : (passes : Bool → Bool) (flags : List Bool) (rows part : List InsRow) (behind : ℕ) → behind ≡ length flags
    → part ≡ reverse (rows_if passes (drop (length flags - behind) flags) (drop (length rows - behind) rows))
    → part ≡ reverse (rows_if passes flags (drop (length rows - length flags) rows))
part_all passes flags rows part behind is so_far =
    let none : length flags - behind ≡ 0 = omega (arith, is) in
    so_far ∙ ap₂ (λ (n m : ℕ). reverse (rows_if passes (drop n flags) (drop (length rows - m) rows))) none is

-- the row that comes off
pub popped : (whole rows new : List InsRow) (behind : ℕ) (row : InsRow) → rows ≡ take (length whole - behind) whole → behind < length whole → rows ≡ new ++ row ∷ [] → (new ≡ take (length whole - (behind + 1)) whole) × (row ≡ get_or whole (length whole - behind - 1) row)
popped whole rows new behind row is within split =
    let j = length whole - (behind + 1) in
    let j_on : length whole - behind ≡ j + 1 = omega arith in
    let j_same : j ≡ length whole - behind - 1 = omega arith in
    let both = same_from_push new (take j whole) row (get_or whole j row) (sym split ∙ is ∙ ap (λ (n : ℕ). take n whole) j_on ∙ take_more whole j row (omega arith)) in
    (both.0, both.1 ∙ ap (λ (n : ℕ). get_or whole n row) j_same)

-- ---- where nothing goes to the fees

pub none_goes : (flags : List Bool) (rows : List InsRow) → length flags ≡ length rows → list_any (λ fee. fee) flags ≡ false → rows_if not flags rows ++ rows_if (λ fee. fee) flags rows ≡ rows
unfolding rows_if
none_goes [] [] each none = refl
none_goes [] (row ∷ rows) each none = absurd (cc each)
none_goes (flag ∷ flags) [] each none = absurd (cc each)
none_goes (true ∷ flags) (row ∷ rows) each none = absurd (true≢false none)
none_goes (false ∷ flags) (row ∷ rows) each none = ap (λ (rest : List InsRow). row ∷ rest) (none_goes flags rows (cc each) none)

pub as_before : (flags : List Bool) (rows : List InsRow) → length flags ≤ length rows → list_any (λ fee. fee) flags ≡ false
    → rows ≡ take (length rows - length flags) rows ++ (rows_if not flags (drop (length rows - length flags) rows) ++ rows_if (λ fee. fee) flags (drop (length rows - length flags) rows))
as_before flags rows each none =
    let start = length rows - length flags in
    sym (ap (λ (back : List InsRow). take start rows ++ back) (none_goes flags (drop start rows) (omega (arith, length-drop start rows)) none) ∙ take-append-drop start rows)

-- a row goes back
pub put_more : (rows after all more left : List InsRow) (row : InsRow) → after ≡ rows ++ row ∷ [] → more ≡ left ++ row ∷ [] → rows ++ reverse more ≡ all → after ++ reverse left ≡ all
put_more rows after all more left row pushed is so_far =
    ap (λ (front : List InsRow). front ++ reverse left) pushed
    ∙ append_assoc rows (row ∷ []) (reverse left)
    ∙ ap (λ (back : List InsRow). rows ++ back) (sym (ap reverse is ∙ reverse-append left (row ∷ [])))
    ∙ so_far

pub together : (first second third front kept gone : List InsRow) (kept_now gone_now : List InsRow) → first ≡ front → second ≡ first ++ reverse kept → third ≡ second ++ reverse gone → kept ≡ reverse kept_now → gone ≡ reverse gone_now → third ≡ front ++ (kept_now ++ gone_now)
together first second third front kept gone kept_now gone_now is one other was_kept was_gone =
    other ∙ ap (λ (rows : List InsRow). rows ++ reverse gone) (one ∙ ap (λ (rows : List InsRow). rows ++ reverse kept) is)
    ∙ ap₂ (λ (a b : List InsRow). (front ++ a) ++ b) (ap reverse was_kept ∙ reverse-reverse kept_now) (ap reverse was_gone ∙ reverse-reverse gone_now)
    ∙ append_assoc front kept_now gone_now

-- ---- in the words of what is revealed

parted : (passes : Bool → Bool) (all : List Revealed) → rows_if passes (fees_of all) (rows_of all) ≡ rows_of (filter (λ (one : Revealed). passes one.in_fees) all)
unfolding rows_if
parted passes [] = refl
parted passes (one ∷ all) = by_pass (passes one.in_fees) (parted passes all) where
  by_pass : (b : Bool) → rows_if passes (fees_of all) (rows_of all) ≡ rows_of (filter (λ (one : Revealed). passes one.in_fees) all) → cond b (one.row ∷ rows_if passes (fees_of all) (rows_of all)) (rows_if passes (fees_of all) (rows_of all)) ≡ rows_of (cond b (one ∷ filter (λ (one : Revealed). passes one.in_fees) all) (filter (λ (one : Revealed). passes one.in_fees) all))
  by_pass true later = ap (λ (rest : List InsRow). one.row ∷ rest) later
  by_pass false later = later

-- there is a flag for each row that is new
pub flags_fit : (rows now : List InsRow) (fees : List Bool) (all : List Revealed) → now ≡ rows ++ rows_of all → fees ≡ fees_of all → (length now - length fees ≡ length rows) × (length fees ≤ length now)
flags_fit rows now fees all is flags =
    let rows_long = ap length is ∙ length-append rows (rows_of all) in
    let rows_many = length-map all (λ (one : Revealed). one.row) in
    let fees_many = length-map all (λ (one : Revealed). one.in_fees) in
    (omega (arith, rows_long, rows_many, ap length flags, fees_many), omega (arith, rows_long, rows_many, ap length flags, fees_many))

pub ordered_front : (rows now after : List InsRow) (fees : List Bool) (all : List Revealed) → now ≡ rows ++ rows_of all → fees ≡ fees_of all → take (length now - length fees) after ≡ take (length now - length fees) now → take (length rows) after ≡ rows
ordered_front rows now after fees all is flags front =
    let start = (flags_fit rows now fees all is flags).0 in
    sym (ap (λ (n : ℕ). take n after) start) ∙ front ∙ ap (λ (n : ℕ). take n now) start ∙ pushed_front rows now (rows_of all) is

pub ordered : (rows now after : List InsRow) (fees : List Bool) (all : List Revealed) → now ≡ rows ++ rows_of all → fees ≡ fees_of all
    → after ≡ take (length now - length fees) now ++ (rows_if not fees (drop (length now - length fees) now) ++ rows_if (λ fee. fee) fees (drop (length now - length fees) now))
    → after ≡ rows ++ in_order all
ordered rows now after fees all is flags done =
    let start = (flags_fit rows now fees all is flags).0 in
    let front = pushed_front rows now (rows_of all) is in
    let back : drop (length rows) now ≡ rows_of all = ap (drop (length rows)) is ∙ drop_at rows (rows_of all) (length rows) refl in
    done ∙ ap (λ (n : ℕ). take n now ++ (rows_if not fees (drop n now) ++ rows_if (λ fee. fee) fees (drop n now))) start
    ∙ ap₂ (λ (a b : List InsRow). a ++ (rows_if not fees b ++ rows_if (λ fee. fee) fees b)) front back
    ∙ ap (λ (fs : List Bool). rows ++ (rows_if not fs (rows_of all) ++ rows_if (λ fee. fee) fs (rows_of all))) flags
    ∙ ap₂ (λ (a b : List InsRow). rows ++ (a ++ b)) (parted not all) (parted (λ fee. fee) all)
