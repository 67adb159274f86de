-- Each item is a part of its script.
use Rattle.std.proofs.Common.{◌≡◌, ℕ, zero, suc, Bool, true, false, cond, List, [], ◌∷◌, ◌++◌, take, drop, refl, sym, ap, ◌∙◌}
use Rattle.std.specs.Prelude.{nat_lt}
use Rattle.std.specs.List.{AllByRecursion}
use Rattle.std.proofs.lemmas.List.{append_assoc, take-append-drop}
use Rattle.ox_script.specs.Script.{Push, Op, IsPartOf, StandsIn, width_of, count_of, reach, is_short, Parse, before, parse_past, items_of}

-- one byte more was passed over
passed : (script front : List ℕ) (byte : ℕ) (rest : List ℕ) → script ≡ front ++ byte ∷ rest → script ≡ (front ++ byte ∷ []) ++ rest
passed script front byte rest is = is ∙ sym (append_assoc front (byte ∷ []) rest)

-- the bytes of a push
pushed_part : (script front : List ℕ) (op width count : ℕ) (rest : List ℕ) → script ≡ front ++ op ∷ rest → StandsIn script (take count (drop width rest))
pushed_part script front op width count rest is =
    let bytes = take count (drop width rest) in
    let back = drop count (drop width rest) in
    let split : rest ≡ take width rest ++ (bytes ++ back) = sym (take-append-drop width rest) ∙ ap (λ tail. take width rest ++ tail) (sym (take-append-drop count (drop width rest))) in
    let whole : script ≡ (front ++ op ∷ take width rest) ++ (bytes ++ back) = is ∙ ap (λ rest. front ++ op ∷ rest) split ∙ sym (append_assoc front (op ∷ take width rest) (bytes ++ back)) in
    (front ++ op ∷ take width rest, back, whole ∙ sym (append_assoc (front ++ op ∷ take width rest) bytes back))

either : (P : Parse → Type 0) (test : Bool) (first second : Parse)
    → P first → P second → P (cond test first second)
either P true first second holds_first holds_second = holds_first
either P false first second holds_first holds_second = holds_second

all_past : (script front : List ℕ) (skipped : ℕ) (rest : List ℕ) → script ≡ front ++ rest
    → AllByRecursion (IsPartOf script) (parse_past skipped rest).items
all_past script front skipped [] is = tt
all_past script front (suc skipped) (byte ∷ rest) is =
    all_past script (front ++ byte ∷ []) skipped rest (passed script front byte rest is)
all_past script front zero (op ∷ rest) is =
    let next = passed script front op rest is in
    let code = all_past script (front ++ op ∷ []) zero rest next in
    let push = all_past script (front ++ op ∷ []) (reach op rest) rest next in
    let part = pushed_part script front op (width_of op) (count_of op rest) rest is in
    let bytes = take (count_of op rest) (drop (width_of op) rest) in
    let All : Parse → Type 0 = λ p. AllByRecursion (IsPartOf script) p.items in
    let after_code = before (Op op) (parse_past zero rest) in
    let after_push = before (Push bytes) (parse_past (reach op rest) rest) in
    let none : Parse = record { items = []; cut = true } in
    either All (nat_lt 78 op) after_code (cond (is_short op rest) none after_push)
    ((front, rest, next), code) (either All (is_short op rest) none after_push tt (part, push))

pub all_parts : (script : List ℕ) → AllByRecursion (IsPartOf script) (items_of script)
unfolding items_of
all_parts script = all_past script [] 0 script refl
