-- The envelopes among items, item by item.
use Rattle.std.proofs.Common.{◌≡◌, ℕ, zero, suc, ◌+◌, Bool, true, false, cond, ◌||◌, List, [], ◌∷◌, ◌++◌, length, drop, Option, Some, None, refl, sym, ap, ◌∙◌, arith}
use Rattle.std.specs.Prelude.{is_some, slice_get, codes, ◌==◌, bytes_eq, if◌then◌else◌}
use Rattle.std.proofs.Common.{◌≢◌, ap₂}
use Rattle.std.proofs.Math.Bool.{or_assoc, or-false, or-true}
use Rattle.std.specs.Cmp.Lexicographic.{same_text}
use Rattle.std.specs.List.{filter_map, cons_option, list_any}
use Rattle.ox_envelope.specs.declared.search.Opened.{Opened}
use Rattle.ox_envelope.specs.declared.search.Opened.TheVariants.{Nothing, Empty, If, Whole}
use Rattle.std.proofs.lemmas.List.{append_assoc, append-nil}
use Rattle.std.proofs.lemmas.Bool.{cond-false, eqb-true, ne_eqb}
use Rattle.ox_script.specs.Script.{Instruction, Push, Op}
use Rattle.ox_envelope.specs.Envelope.{EnvelopePushes, no_pushes, is_number, bytes_pushed, pushes_number, envelope_of, is_opening, stretch, is_end, envelope_at, envelopes_past, envelopes_among}
use Rattle.ox_envelope.specs.Opening.{next_opened, with_more, envelopes_within}

-- the items of an opening that stand before the next item
abbrev pub read_so_far : Opened → List Instruction
read_so_far Nothing = []
read_so_far Empty = Push [] ∷ []
read_so_far If = Push [] ∷ Op 0x63 ∷ []
read_so_far Whole = Push [] ∷ Op 0x63 ∷ Push (codes "ord") ∷ []

-- passing items over is dropping them
pub envelopes_past-drop : (skipped : ℕ) (items : List Instruction) → envelopes_past skipped items ≡ envelopes_among (drop skipped items)
unfolding envelopes_among
envelopes_past-drop zero items = refl
envelopes_past-drop (suc skipped) [] = refl
envelopes_past-drop (suc skipped) (item ∷ items) = envelopes_past-drop skipped items

-- where no opening stands, the first item is passed over
pub not_opening : (item : Instruction) (rest : List Instruction) → is_opening (item ∷ rest) ≡ false → envelopes_among (item ∷ rest) ≡ envelopes_among rest
unfolding envelopes_among
not_opening item rest closed = cond-false _ _ _ closed

pub envelopes_among-nil : envelopes_among [] ≡ []
unfolding envelopes_among
envelopes_among-nil = refl

chosen : (ends : Bool) (envelope : EnvelopePushes) (after : List EnvelopePushes) → cond ends (envelope ∷ []) [] ++ after ≡ cond ends (envelope ∷ after) after
chosen true envelope after = refl
chosen false envelope after = refl

-- behind an opening an envelope begins
pub envelopes_among-opening : (rest : List Instruction) → envelopes_among (Push [] ∷ Op 0x63 ∷ Push (codes "ord") ∷ rest) ≡ envelopes_within no_pushes rest
unfolding envelopes_among envelopes_within
envelopes_among-opening rest =
    let count = length (stretch rest) in
    let passed : 3 + count ≡ suc (suc (count + 1)) = omega arith in
    let after = envelopes_past-drop (3 + count) (Op 0x63 ∷ Push (codes "ord") ∷ rest) ∙ ap (λ n. envelopes_among (drop n (Op 0x63 ∷ Push (codes "ord") ∷ rest))) passed in
    ap (λ envelopes. envelope_at rest ++ envelopes) after ∙ chosen (is_end (slice_get rest count)) (envelope_of (stretch rest)) (envelopes_among (drop (count + 1) rest))

-- an item that pushes is one more push
pushed_more : (before new : EnvelopePushes) (item : Instruction) (bytes : List ℕ) (inside : List Instruction) → bytes_pushed item ≡ Some bytes
    → new.pushes ≡ before.pushes ++ bytes ∷ [] → new.has_number ≡ (before.has_number || pushes_number item) → with_more before (envelope_of (item ∷ stretch inside)) ≡ with_more new (envelope_of (stretch inside))
pushed_more before new item bytes inside is pushes number =
    let all : before.pushes ++ filter_map bytes_pushed (item ∷ stretch inside) ≡ new.pushes ++ filter_map bytes_pushed (stretch inside) =
    ap (λ first. before.pushes ++ cons_option first (filter_map bytes_pushed (stretch inside))) is ∙ sym (append_assoc before.pushes (bytes ∷ []) (filter_map bytes_pushed (stretch inside))) ∙ ap (λ front. front ++ filter_map bytes_pushed (stretch inside)) (sym pushes) in
    let some : (before.has_number || list_any pushes_number (item ∷ stretch inside)) ≡ (new.has_number || list_any pushes_number (stretch inside)) =
    sym (or_assoc before.has_number (pushes_number item) (list_any pushes_number (stretch inside))) ∙ ap (λ first. first || list_any pushes_number (stretch inside)) (sym number) in
    ap₂ (λ (pushes : List (List ℕ)) (number : Bool). record { pushes = pushes; has_number = number }) all some

pub envelopes_within-push : (before new : EnvelopePushes) (item : Instruction) (bytes : List ℕ) (inside : List Instruction) → bytes_pushed item ≡ Some bytes
    → new.pushes ≡ before.pushes ++ bytes ∷ [] → new.has_number ≡ (before.has_number || pushes_number item) → envelopes_within before (item ∷ inside) ≡ envelopes_within new inside
unfolding envelopes_within
envelopes_within-push before new item bytes inside is pushes number =
    let front : stretch (item ∷ inside) ≡ item ∷ stretch inside = ap (λ (found : Option (List ℕ)). cond (is_some found) (item ∷ stretch inside) []) is in
    let count = length (stretch inside) in
    let passed : suc count + 1 ≡ suc (count + 1) = omega arith in
    let after = ap (λ n. envelopes_among (drop n (item ∷ inside))) passed in
    let same = pushed_more before new item bytes inside is pushes number in
    ap (λ pushes. cond (is_end (slice_get (item ∷ inside) (length pushes))) (with_more before (envelope_of pushes) ∷ envelopes_among (drop (length pushes + 1) (item ∷ inside))) (envelopes_among (drop (length pushes + 1) (item ∷ inside)))) front
    ∙ ap₂ (λ first rest. cond (is_end (slice_get inside count)) (first ∷ rest) rest) same after

with_more-nothing : (before : EnvelopePushes) → with_more before (envelope_of []) ≡ before
with_more-nothing before = ap₂ (λ (pushes : List (List ℕ)) (number : Bool). record { pushes = pushes; has_number = number }) (append-nil before.pushes) (or-false before.has_number)

-- another opcode is the stop
pub envelopes_within-stop : (before : EnvelopePushes) (op : ℕ) (inside : List Instruction) → bytes_pushed (Op op) ≡ None
    → envelopes_within before (Op op ∷ inside) ≡ (if op == 0x68 then before ∷ envelopes_among inside else envelopes_among inside)
unfolding envelopes_within
envelopes_within-stop before op inside is =
    let front : stretch (Op op ∷ inside) ≡ [] = ap (λ (found : Option (List ℕ)). cond (is_some found) (Op op ∷ stretch inside) []) is in
    ap (λ pushes. cond (is_end (slice_get (Op op ∷ inside) (length pushes))) (with_more before (envelope_of pushes) ∷ envelopes_among (drop (length pushes + 1) (Op op ∷ inside))) (envelopes_among (drop (length pushes + 1) (Op op ∷ inside)))) front
    ∙ ap (λ first. cond (op == 0x68) (first ∷ envelopes_among inside) (envelopes_among inside)) (with_more-nothing before)

pub envelopes_within-nil : (before : EnvelopePushes) → envelopes_within before [] ≡ []
unfolding envelopes_within envelopes_among
envelopes_within-nil before = refl

-- an empty push and another opcode than OP_IF are no opening
no_if : (op : ℕ) (rest : List Instruction) → (op == 0x63) ≡ false → is_opening (Push [] ∷ Op op ∷ rest) ≡ false
no_if op [] other = refl
no_if op (Push name ∷ rest) other = rw other refl
no_if op (Op second ∷ rest) other = refl

after_empty : (op : ℕ) (rest : List Instruction) (is_if : Bool) → (op == 0x63) ≡ is_if → envelopes_among (Push [] ∷ Op op ∷ rest) ≡ envelopes_among (read_so_far (if is_if then If else Nothing) ++ rest)
after_empty op rest true is = ap (λ op. envelopes_among (Push [] ∷ Op op ∷ rest)) (eqb-true op 0x63 is)
after_empty op rest false is = not_opening (Push []) (Op op ∷ rest) (no_if op rest is) ∙ not_opening (Op op) rest refl

after_if : (name : List ℕ) (rest : List Instruction) (is_ord : Bool) → bytes_eq name (codes "ord") ≡ is_ord → is_opening (Push name ∷ rest) ≡ false → envelopes_among (Push [] ∷ Op 0x63 ∷ Push name ∷ rest) ≡ envelopes_among (read_so_far (if is_ord then Whole else Nothing) ++ rest)
after_if name rest true is begins = ap (λ name. envelopes_among (Push [] ∷ Op 0x63 ∷ Push name ∷ rest)) (same_text name (codes "ord") (sym is))
after_if name rest false is begins = not_opening (Push []) (Op 0x63 ∷ Push name ∷ rest) is ∙ not_opening (Op 0x63) (Push name ∷ rest) refl ∙ not_opening (Push name) rest begins

-- reading one more item of an opening
pub read_more : (opened : Opened) (item : Instruction) (rest : List Instruction) → opened ≢ Whole → envelopes_among (read_so_far opened ++ item ∷ rest) ≡ envelopes_among (read_so_far (next_opened opened item) ++ rest)
read_more Nothing (Push []) rest part = refl
read_more Nothing (Push (byte ∷ bytes)) rest part = not_opening (Push (byte ∷ bytes)) rest refl
read_more Nothing (Op op) rest part = not_opening (Op op) rest refl
read_more Empty (Push []) rest part = not_opening (Push []) (Push [] ∷ rest) refl
read_more Empty (Push (byte ∷ bytes)) rest part = not_opening (Push []) (Push (byte ∷ bytes) ∷ rest) refl ∙ not_opening (Push (byte ∷ bytes)) rest refl
read_more Empty (Op op) rest part = after_empty op rest (op == 0x63) refl
read_more If (Push []) rest part = not_opening (Push []) (Op 0x63 ∷ Push [] ∷ rest) refl ∙ not_opening (Op 0x63) (Push [] ∷ rest) refl
read_more If (Push (byte ∷ bytes)) rest part = after_if (byte ∷ bytes) rest (bytes_eq (byte ∷ bytes) (codes "ord")) refl refl
read_more If (Op op) rest part = not_opening (Push []) (Op 0x63 ∷ Op op ∷ rest) refl ∙ not_opening (Op 0x63) (Op op ∷ rest) refl ∙ not_opening (Op op) rest refl
read_more Whole item rest part = absurd (part refl)

-- a part of an opening at the end is none
pub read_all : (opened : Opened) → opened ≢ Whole → envelopes_among (read_so_far opened ++ []) ≡ []
unfolding envelopes_among
read_all Nothing part = refl
read_all Empty part = refl
read_all If part = refl
read_all Whole part = absurd (part refl)

-- the same as a step of a loop: the items that are left begin with one more
pub read_step : (opened next : Opened) (item : Instruction) (left rest : List Instruction) (all : List EnvelopePushes) → envelopes_among (read_so_far opened ++ left) ≡ all → left ≡ item ∷ rest → opened ≢ Whole → next ≡ next_opened opened item
    → envelopes_among (read_so_far next ++ rest) ≡ all
read_step opened next item left rest all so_far begins part is =
    ap (λ opened. envelopes_among (read_so_far opened ++ rest)) is ∙ sym (read_more opened item rest part) ∙ ap (λ left. envelopes_among (read_so_far opened ++ left)) (sym begins) ∙ so_far

-- one more push, as a step of a loop
pub push_step : (before new : EnvelopePushes) (item : Instruction) (bytes : List ℕ) (left rest : List Instruction) (all : List EnvelopePushes) → envelopes_within before left ≡ all → left ≡ item ∷ rest → bytes_pushed item ≡ Some bytes
    → new.pushes ≡ before.pushes ++ bytes ∷ [] → new.has_number ≡ (before.has_number || pushes_number item) → envelopes_within new rest ≡ all
push_step before new item bytes left rest all so_far begins is pushes number =
    sym (envelopes_within-push before new item bytes rest is pushes number) ∙ ap (envelopes_within before) (sym begins) ∙ so_far

pushes_number-op : (op : ℕ) (bytes : List ℕ) (number : Bool) → is_number op ≡ number → bytes_pushed (Op op) ≡ Some bytes → number ≡ true
pushes_number-op op bytes true is some = refl
pushes_number-op op bytes false is some = let none : bytes_pushed (Op op) ≡ None = rw is refl in cc

-- bytes of the script that are pushed
pub bytes_step : (before new : EnvelopePushes) (item : Instruction) (bytes : List ℕ) (left rest : List Instruction) (all : List EnvelopePushes) → envelopes_within before left ≡ all → left ≡ item ∷ rest → item ≡ Push bytes
    → new.pushes ≡ before.pushes ++ bytes ∷ [] → new.has_number ≡ before.has_number → envelopes_within new rest ≡ all
bytes_step before new item bytes left rest all so_far begins is pushes number =
    push_step before new (Push bytes) bytes left rest all so_far (begins ∙ ap (λ item. item ∷ rest) is) refl pushes (number ∙ sym (or-false before.has_number))

-- a number that is pushed
pub number_step : (before new : EnvelopePushes) (item : Instruction) (op : ℕ) (bytes : List ℕ) (left rest : List Instruction) (all : List EnvelopePushes) → envelopes_within before left ≡ all → left ≡ item ∷ rest → item ≡ Op op → Some bytes ≡ bytes_pushed (Op op)
    → new.pushes ≡ before.pushes ++ bytes ∷ [] → new.has_number ≡ true → envelopes_within new rest ≡ all
number_step before new item op bytes left rest all so_far begins is some pushes number =
    let numbers = pushes_number-op op bytes (is_number op) refl (sym some) in
    push_step before new (Op op) bytes left rest all so_far (begins ∙ ap (λ item. item ∷ rest) is) (sym some) pushes (number ∙ sym (ap (λ number. before.has_number || number) numbers ∙ or-true before.has_number))

-- OP_ENDIF ends the envelope
pub end_step : (before : EnvelopePushes) (item : Instruction) (op : ℕ) (left rest : List Instruction) (all : List EnvelopePushes) → envelopes_within before left ≡ all → left ≡ item ∷ rest → item ≡ Op op → op ≡ 0x68 → all ≡ before ∷ envelopes_among rest
end_step before item op left rest all so_far begins is ends = sym so_far ∙ ap (envelopes_within before) (begins ∙ ap (λ item. item ∷ rest) (is ∙ ap Op ends)) ∙ envelopes_within-stop before 0x68 rest refl

-- another opcode voids it
pub void_step : (before : EnvelopePushes) (item : Instruction) (op : ℕ) (left rest : List Instruction) (all : List EnvelopePushes) → envelopes_within before left ≡ all → left ≡ item ∷ rest → item ≡ Op op → None ≡ bytes_pushed (Op op) → op ≢ 0x68 → all ≡ envelopes_among rest
void_step before item op left rest all so_far begins is none other = sym so_far ∙ ap (envelopes_within before) (begins ∙ ap (λ item. item ∷ rest) is) ∙ envelopes_within-stop before op rest (sym none) ∙ cond-false _ _ _ (ne_eqb op 0x68 other)
