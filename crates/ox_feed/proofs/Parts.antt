-- How the lines of a feed follow from the pieces in which its bytes come.
use Rattle.std.proofs.Common.{◌≡◌, ℕ, ◌+◌, ◌-◌, ◌<◌, ◌≤◌, Bool, true, false, List, [], ◌∷◌, ◌++◌, length, take, drop, refl, sym, ap, ◌∙◌, arith, inl, inr, length-append, append_assoc}
use Rattle.std.specs.Prelude.{nat_le}
use Rattle.std.specs.List.{slice_split, onto_first}
use Rattle.std.proofs.lemmas.Bool.{cases_lt}
use Rattle.std.proofs.lemmas.List.{take-append-drop, take-append-le, append-nil, length-take, take_all}
use Rattle.std.proofs.lemmas.List.Elements.{All-head, All-tail, All-append, All-take, All-drop}
use Rattle.std.proofs.lemmas.List.Splits.{slice_split_at, slice_split_none, slice_split-cons_no, length-slice_split}
use Rattle.ox_feed.specs.Feed.{Feed, FeedLine, text, too_long, is_line_feed, line_limit, line_of, last_line, lines_of_parts, lines_of, GivesLine, Tells}
use Rattle.ox_feed.specs.Held.{HasNoFeed, line_as}

-- ---- parts between line feeds

first_of : (l : List (List ℕ)) → 0 < length l → (part : List ℕ) × (parts : List (List ℕ)) × (l ≡ part ∷ parts)
first_of [] some = absurd (omega arith)
first_of (part ∷ parts) some = (part, parts, refl)

-- there is always a first part
first_part : (xs : List ℕ) → (part : List ℕ) × (parts : List (List ℕ)) × (slice_split is_line_feed xs ≡ part ∷ parts)
first_part xs = first_of (slice_split is_line_feed xs) (omega (arith, length-slice_split is_line_feed xs))

abbrev Plain : ℕ → Type 0
Plain b = is_line_feed b ≡ false

-- bytes without a line feed go onto the first part
split-onto : (front xs part : List ℕ) (parts : List (List ℕ)) → HasNoFeed front → slice_split is_line_feed xs ≡ part ∷ parts
    → slice_split is_line_feed (front ++ xs) ≡ (front ++ part) ∷ parts
split-onto [] xs part parts none is = is
split-onto (b ∷ front) xs part parts none is =
    let rest = split-onto front xs part parts (All-tail Plain b front none) is in
    slice_split-cons_no is_line_feed b (front ++ xs) (All-head Plain b front none) ∙ ap (onto_first b) rest

lt-leb_no : (a b : ℕ) → b < a → nat_le a b ≡ false
lt-leb_no a b lt = grind arith

line_of-long : (xs : List ℕ) → line_limit < length xs → line_of xs ≡ too_long
line_of-long xs long = rw (lt-leb_no (length xs) line_limit long) refl

-- where the first of two parts is too long either way, it doesn't matter how long
same_long : (a b : List ℕ) (parts : List (List ℕ)) (ended : Bool) → line_limit < length a → line_limit < length b
    → lines_of_parts (a ∷ parts) ended ≡ lines_of_parts (b ∷ parts) ended
same_long [] b parts ended la lb = absurd (omega arith)
same_long (x ∷ a) [] parts ended la lb = absurd (omega arith)
same_long (x ∷ a) (y ∷ b) [] ended la lb = rw (line_of-long (x ∷ a) la, line_of-long (y ∷ b) lb) refl
same_long (x ∷ a) (y ∷ b) (next ∷ parts) ended la lb = rw (line_of-long (x ∷ a) la, line_of-long (y ∷ b) lb) refl

-- ---- lines

-- a line that a line feed ends
pub lines_of-line : (front rest : List ℕ) (ended : Bool) → HasNoFeed front → lines_of (front ++ 10 ∷ rest) ended ≡ line_of front ∷ lines_of rest ended
unfolding lines_of
lines_of-line front rest ended none =
    let first = first_part rest in
    rw (slice_split_at is_line_feed front 10 rest none refl, first.2) refl

-- the bytes behind the last line feed
pub lines_of-last : (front : List ℕ) (ended : Bool) → HasNoFeed front → lines_of front ended ≡ last_line front ended
unfolding lines_of
lines_of-last front ended none = rw (slice_split_none is_line_feed front none) refl

-- of a line that is too long, it doesn't matter how long it is
lines_of-longer : (front more rest : List ℕ) (ended : Bool) → HasNoFeed front → HasNoFeed more → line_limit < length front
    → lines_of (front ++ (more ++ rest)) ended ≡ lines_of (front ++ rest) ended
unfolding lines_of
lines_of-longer front more rest ended none none' long =
    let first = first_part rest in
    let part = first.0 in
    let a = split-onto more rest part first.1 none' first.2 in
    let b = split-onto front (more ++ rest) (more ++ part) first.1 none a in
    let c = split-onto front rest part first.1 none first.2 in
    rw (b, c) (same_long (front ++ (more ++ part)) (front ++ part) first.1 ended (omega (arith, length-append front (more ++ part))) (omega (arith, length-append front part)))

-- enough of a line is kept to show whether it is too long
pub lines_of-kept : (begun piece rest : List ℕ) (ended : Bool) → HasNoFeed begun → HasNoFeed piece → length begun ≤ line_limit + 1
    → lines_of (begun ++ (piece ++ rest)) ended ≡ lines_of ((begun ++ take (line_limit + 1 - length begun) piece) ++ rest) ended
lines_of-kept begun piece rest ended none none' size =
    let k = line_limit + 1 - length begun in
    let whole : take k piece ++ drop k piece ≡ piece = take-append-drop k piece in
    elim (cases_lt k (length piece)) [
      | inr fits ↦ rw (take_all k piece fits) (ap (λ (l : List ℕ). lines_of l ended) (sym (append_assoc begun piece rest)))
      | inl more ↦
          let front = begun ++ take k piece in
          let size' : line_limit < length front = omega (arith, length-append begun (take k piece), length-take k piece) in
          let none_front = All-append Plain begun (take k piece) none (All-take Plain k piece none') in
          let e = lines_of-longer front (drop k piece) rest ended none_front (All-drop Plain k piece none') size' in
          let split : begun ++ (piece ++ rest) ≡ front ++ (drop k piece ++ rest) =
          ap (λ (l : List ℕ). begun ++ (l ++ rest)) (sym whole) ∙ ap (λ (l : List ℕ). begun ++ l) (append_assoc (take k piece) (drop k piece) rest)
          ∙ sym (append_assoc begun (take k piece) (drop k piece ++ rest)) in
          ap (λ (l : List ℕ). lines_of l ended) split ∙ e
    ]

-- ---- what a reader of lines keeps

-- a line is cut off
pub cut_line : (begun piece line rest more : List ℕ) (ended : Bool) → HasNoFeed begun → HasNoFeed line → length begun ≤ line_limit + 1 → piece ≡ line ++ 10 ∷ rest
    → lines_of ((begun ++ piece) ++ more) ended ≡ line_of (begun ++ take (line_limit + 1 - length begun) line) ∷ lines_of (rest ++ more) ended
cut_line begun piece line rest more ended none none' size is =
    let kept = begun ++ take (line_limit + 1 - length begun) line in
    let same : (begun ++ piece) ++ more ≡ begun ++ (line ++ (10 ∷ rest ++ more)) =
    rw is (append_assoc begun (line ++ 10 ∷ rest) more ∙ ap (λ (l : List ℕ). begun ++ l) (append_assoc line (10 ∷ rest) more)) in
    let none_kept = All-append Plain begun _ none (All-take Plain (line_limit + 1 - length begun) line none') in
    ap (λ (l : List ℕ). lines_of l ended) same ∙ lines_of-kept begun line (10 ∷ rest ++ more) ended none none' size
    ∙ lines_of-line kept (rest ++ more) ended none_kept

-- no line is over
pub keep_bytes : (begun piece more : List ℕ) (ended : Bool) → HasNoFeed begun → HasNoFeed piece → length begun ≤ line_limit + 1
    → lines_of ((begun ++ piece) ++ more) ended ≡ lines_of ((begun ++ take (line_limit + 1 - length begun) piece) ++ more) ended
keep_bytes begun piece more ended none none' size =
    ap (λ (l : List ℕ). lines_of l ended) (append_assoc begun piece more) ∙ lines_of-kept begun piece more ended none none' size

pub tells_line : (line : FeedLine) (old : Feed) (heard : List ℕ) (new : Feed) → GivesLine line old heard new → Tells (line_as line) old heard new
tells_line (text bytes) old heard new gives = gives
tells_line too_long old heard new gives = gives

-- ---- the end of a feed

pub no_bytes : (begun piece : List ℕ) → length begun ≡ 0 → piece ≡ [] → lines_of ((begun ++ piece) ++ []) true ≡ []
unfolding lines_of
no_bytes [] piece empty gone = rw gone refl
no_bytes (b ∷ begun) piece empty gone = absurd (omega arith)

last_line-some : (bytes : List ℕ) → (length bytes ≡ 0 → ⊥) → last_line bytes true ≡ line_of bytes ∷ []
last_line-some [] some = absurd (some refl)
last_line-some (b ∷ bytes) some = refl

lines_of-none : lines_of [] true ≡ []
unfolding lines_of
lines_of-none = refl

-- the bytes behind the last line feed, where the feed has ended
pub last_bytes : (begun piece more : List ℕ) (ended : Bool) → HasNoFeed begun → (length begun ≡ 0 → ⊥) → piece ≡ [] → more ≡ [] → ended ≡ true
    → lines_of ((begun ++ piece) ++ more) ended ≡ line_of begun ∷ lines_of (piece ++ more) ended
last_bytes begun piece more ended none some gone quiet over =
    rw (gone, quiet, over, append-nil, append-nil, lines_of-none) (lines_of-last begun true none ∙ last_line-some begun some)

-- what a hearing has put into the front of its room
pub heard_front : (n len : ℕ) (into items : List ℕ) → n ≤ len → length into ≡ len
    → take n into ++ [] ≡ take n (take len (into ++ drop (length into) items))
heard_front n len into items le size =
    let whole : take len (into ++ drop (length into) items) ≡ into = rw (← size) (take-append-le (length into) into (drop (length into) items) (omega arith) ∙ take_all (length into) into (omega arith)) in
    rw (whole, append-nil) refl

last_line-open : (bytes : List ℕ) → last_line bytes false ≡ []
last_line-open [] = refl
last_line-open (b ∷ bytes) = refl

-- while the feed goes on, the line that has begun is none
pub no_line : (begun piece : List ℕ) → HasNoFeed begun → piece ≡ [] → lines_of ((begun ++ piece) ++ []) false ≡ []
no_line begun piece none gone = rw (gone, append-nil, append-nil) (lines_of-last begun false none ∙ last_line-open begun)
