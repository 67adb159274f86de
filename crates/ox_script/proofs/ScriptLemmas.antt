-- What the first item of a script is, and that the others are those of the bytes after it.
use Rattle.std.proofs.Common.{◌≡◌, ℕ, zero, suc, ◌<◌, ◌≤◌, Bool, true, false, ◌||◌, None, List, [], ◌∷◌, length, take, drop, refl, sym, ap, ◌∙◌}
use Rattle.std.proofs.lemmas.Bool.{lt-ltb, le-ltb}
use Rattle.std.proofs.lemmas.List.{nil_from_length}
use Rattle.ox_script.specs.Script.{Push, Op, Reading, GivesItem, width_of, count_of, reach, Parse, before, parse_past, items_of, is_cut}

-- passing bytes over is dropping them
pub parse_past-drop : (skipped : ℕ) (script : List ℕ)
    → parse_past skipped script ≡ parse_past 0 (drop skipped script)
parse_past-drop zero script = refl
parse_past-drop (suc skipped) [] = refl
parse_past-drop (suc skipped) (byte ∷ bytes) = parse_past-drop skipped bytes

parse-op : (op : ℕ) (rest : List ℕ) → 78 < op
    → parse_past 0 (op ∷ rest) ≡ before (Op op) (parse_past 0 rest)
parse-op op rest above = rw (lt-ltb 78 op above) refl

parse-short : (op : ℕ) (rest : List ℕ) → op ≤ 78 → length rest < reach op rest
    → parse_past 0 (op ∷ rest) ≡ record { items = []; cut = true }
parse-short op rest pushes short =
    rw (le-ltb 78 op pushes, lt-ltb (length rest) (reach op rest) short) refl

parse-push : (op : ℕ) (rest : List ℕ) → op ≤ 78 → reach op rest ≤ length rest
    → parse_past 0 (op ∷ rest) ≡ before (Push (take (count_of op rest) (drop (width_of op) rest)))
    (parse_past 0 (drop (reach op rest) rest))
parse-push op rest pushes whole =
    rw (le-ltb 78 op pushes, le-ltb (length rest) (reach op rest) whole)
    (ap (before (Push (take (count_of op rest) (drop (width_of op) rest))))
    (parse_past-drop (reach op rest) rest))

pub items_of-op : (op : ℕ) (rest : List ℕ) → 78 < op → items_of (op ∷ rest) ≡ Op op ∷ items_of rest
unfolding items_of
items_of-op op rest above = ap (λ (p : Parse). p.items) (parse-op op rest above)

pub is_cut-op : (op : ℕ) (rest : List ℕ) → 78 < op → is_cut (op ∷ rest) ≡ is_cut rest
unfolding is_cut
is_cut-op op rest above = ap (λ (p : Parse). p.cut) (parse-op op rest above)

pub items_of-short : (op : ℕ) (rest : List ℕ) → op ≤ 78 → length rest < reach op rest
    → items_of (op ∷ rest) ≡ []
unfolding items_of
items_of-short op rest pushes short = ap (λ (p : Parse). p.items) (parse-short op rest pushes short)

pub is_cut-short : (op : ℕ) (rest : List ℕ) → op ≤ 78 → length rest < reach op rest
    → is_cut (op ∷ rest) ≡ true
unfolding is_cut
is_cut-short op rest pushes short = ap (λ (p : Parse). p.cut) (parse-short op rest pushes short)

pub items_of-push : (op : ℕ) (rest : List ℕ) → op ≤ 78 → reach op rest ≤ length rest
    → items_of (op ∷ rest) ≡ Push (take (count_of op rest) (drop (width_of op) rest))
    ∷ items_of (drop (reach op rest) rest)
unfolding items_of
items_of-push op rest pushes whole = ap (λ (p : Parse). p.items) (parse-push op rest pushes whole)

pub is_cut-push : (op : ℕ) (rest : List ℕ) → op ≤ 78 → reach op rest ≤ length rest
    → is_cut (op ∷ rest) ≡ is_cut (drop (reach op rest) rest)
unfolding is_cut
is_cut-push op rest pushes whole = ap (λ (p : Parse). p.cut) (parse-push op rest pushes whole)

-- an empty script has no item, and is not cut
pub items_of-nil : items_of [] ≡ []
unfolding items_of
items_of-nil = refl

pub is_cut-nil : is_cut [] ≡ false
unfolding is_cut
is_cut-nil = refl

pub or_false : (met : Bool) → (met || false) ≡ met
or_false true = refl
or_false false = refl

pub or_true : (met : Bool) → (met || true) ≡ true
or_true true = refl
or_true false = refl

-- at the script's end nothing is given and nothing changes
pub GivesItem-end : (reading : Reading) (met : Bool) (rest : List ℕ) → record { left = items_of rest; ends_cut = met || is_cut rest; met_cut = met } ≡ reading → length rest ≡ 0 → GivesItem reading None reading
GivesItem-end reading met rest view none =
    let empty = nil_from_length rest none in
    let left = ap (λ (r : Reading). r.left) (sym view) ∙ ap items_of empty ∙ items_of-nil in
    let ends = ap (λ (r : Reading). r.ends_cut) (sym view) ∙ ap (λ b. met || is_cut b) empty ∙ ap (λ b. met || b) is_cut-nil ∙ or_false met in
    (left, left, refl, ap (λ (r : Reading). r.met_cut) (sym view) ∙ sym ends)

-- at a push that is cut short the end is met
pub GivesItem-cut : (reading : Reading) (met : Bool) (bytes : List ℕ) → record { left = items_of bytes; ends_cut = met || is_cut bytes; met_cut = met } ≡ reading → items_of bytes ≡ [] → is_cut bytes ≡ true → (reading.left ≡ []) × (items_of [] ≡ []) × (true ≡ reading.ends_cut) × (true ≡ reading.ends_cut)
GivesItem-cut reading met bytes view none cut =
    let left = ap (λ (r : Reading). r.left) (sym view) ∙ none in
    let ends = ap (λ (r : Reading). r.ends_cut) (sym view) ∙ ap (λ b. met || b) cut ∙ or_true met in
    (left, items_of-nil, sym ends, sym ends)
