-- What is written is deciphered as the same: the script's payload, its integers, and the edicts.
use Rattle.std.proofs.Common.{◌≡◌, ◌≢◌, ℕ, ◌+◌, ◌-◌, ◌*◌, ◌/◌, ◌%◌, ◌^◌, ◌<◌, ◌≤◌, List, [], ◌∷◌, ◌++◌, length, take, drop, true, false, cond, eqb, Some, refl, sym, ap, subst, ◌∙◌, append-nil, lit<, arith, inl, inr}
use Rattle.std.specs.List.{flat_map, AllByRecursion}
use Rattle.std.proofs.lemmas.Bool.{cases_lt, lt-ltb, le-ltb, le-leb, eq-eqb, ne_eqb}
use Rattle.std.proofs.lemmas.List.{drop-drop, drop_at, take_at, length-append}
use Rattle.ox_script.specs.Script.{Push, Op, width_of, count_of, reach, items_of, is_cut}
use Rattle.ox_script.proofs.ScriptLemmas.{items_of-op, is_cut-op, items_of-push, is_cut-push, items_of-nil, is_cut-nil}
use Rattle.ox_varint.specs.Varint.{varint}
use Rattle.ox_varint.proofs.GrammarLaws.{varint_at-varint, varint-long}
use Rattle.ox_runestone.specs.declared.stone.RuneId.{RuneId}
use Rattle.ox_runestone.specs.declared.stone.Edict.{Edict}
use Rattle.ox_runestone.specs.Payload.{is_stone, before, joined_pushes, payload_of, integers_of}
use Rattle.ox_runestone.specs.Message.{Field, Message, field_before, message_of, id_of, id_after, edict_before, edicts_after, edicts_of}
use Rattle.ox_runestone.specs.Spelling.{tags_and_values, deltas, body_for, push_head, push, joined_chunks, pushed_chunks, IsPushed, IsId, IsEdict, NotBelow, DontFall, DontFallAfter}
use Rattle.ox_runestone.proofs.PayloadLoops.{integers_of-nil, integers_of-more}

-- ---- pushes

pub record Pushes (script bytes rest : List ℕ) : Type 0 where
  pub items : items_of script ≡ Push bytes ∷ items_of rest
  pub whole : is_cut script ≡ is_cut rest

push_reads : (op : ℕ) (head bytes rest : List ℕ) → op ≤ 78 → width_of op ≡ length head → count_of op (head ++ (bytes ++ rest)) ≡ length bytes → Pushes (op ∷ head ++ (bytes ++ rest)) bytes rest
push_reads op head bytes rest low width count =
    let all : List ℕ = head ++ (bytes ++ rest) in
    let reach-is : reach op (head ++ (bytes ++ rest)) ≡ length head + length bytes = ap (λ w. w + count_of op (head ++ (bytes ++ rest))) width ∙ ap (λ c. length head + c) count in
    let long : length (head ++ (bytes ++ rest)) ≡ length head + (length bytes + length rest) = length-append head (bytes ++ rest) ∙ ap (λ n. length head + n) (length-append bytes rest) in
    let fits : reach op (head ++ (bytes ++ rest)) ≤ length (head ++ (bytes ++ rest)) = omega arith in
    let behind : drop (width_of op) (head ++ (bytes ++ rest)) ≡ bytes ++ rest = ap (λ w. drop w (head ++ (bytes ++ rest))) width ∙ drop_at head (bytes ++ rest) (length head) refl in
    let taken : take (count_of op (head ++ (bytes ++ rest))) (drop (width_of op) (head ++ (bytes ++ rest))) ≡ bytes = ap (λ c. take c (drop (width_of op) (head ++ (bytes ++ rest)))) count ∙ ap (take (length bytes)) behind ∙ take_at bytes rest (length bytes) refl in
    let left : drop (reach op (head ++ (bytes ++ rest))) (head ++ (bytes ++ rest)) ≡ rest = ap (λ r. drop r (head ++ (bytes ++ rest))) reach-is ∙ sym (drop-drop (length bytes) (length head) (head ++ (bytes ++ rest))) ∙ ap (drop (length bytes)) (drop_at head (bytes ++ rest) (length head) refl) ∙ drop_at bytes rest (length bytes) refl in
    record {
      items = items_of-push op all low fits ∙ ap (λ b. Push b ∷ items_of (drop (reach op (head ++ (bytes ++ rest))) (head ++ (bytes ++ rest)))) taken ∙ ap (λ r. Push bytes ∷ items_of r) left;
      whole = is_cut-push op all low fits ∙ ap is_cut left;
    }

head-direct : (count : ℕ) → count < 76 → push_head count ≡ count ∷ []
head-direct count low = rw (lt-ltb count 76 low) refl

head-one : (count : ℕ) → 76 ≤ count → count < 256 → push_head count ≡ 76 ∷ count ∷ []
head-one count high low = rw (le-ltb count 76 high, lt-ltb count 256 low) refl

head-two : (count : ℕ) → 256 ≤ count → push_head count ≡ 77 ∷ (count % 256) ∷ (count / 256) ∷ []
head-two count high = let h : 76 ≤ count = omega arith in rw (le-ltb count 76 h, le-ltb count 256 high) refl

width-direct : (op : ℕ) → op < 76 → width_of op ≡ 0
width-direct op low =
    let a : op ≢ 76 = omega arith in
    let b : op ≢ 77 = omega arith in
    let c : op ≢ 78 = omega arith in
    rw (ne_eqb op 76 a, ne_eqb op 77 b, ne_eqb op 78 c) refl

count-direct : (op : ℕ) (rest : List ℕ) → op < 76 → count_of op rest ≡ op
count-direct op rest low = rw (lt-ltb op 76 low) refl

push_back : (bytes rest : List ℕ) → length bytes ≤ 520 → Pushes (push bytes ++ rest) bytes rest
push_back bytes rest short =
    let P : List ℕ → Type 0 = λ (head : List ℕ). Pushes ((head ++ bytes) ++ rest) bytes rest in
    let count : ℕ = length bytes in
    elim (cases_lt (length bytes) 76) [
      | inl direct ↦
          let h : P (length bytes ∷ []) = push_reads (length bytes) [] bytes rest (omega arith) (width-direct (length bytes) direct) (count-direct (length bytes) (bytes ++ rest) direct) in
          subst P (sym (head-direct (length bytes) direct)) h
      | inr more ↦
          elim (cases_lt (length bytes) 256) [
            | inl one ↦
                let c : length bytes + 256 * 0 ≡ length bytes = omega arith in
                let h : P (76 ∷ length bytes ∷ []) = push_reads 76 (length bytes ∷ []) bytes rest (omega arith) refl c in
                subst P (sym (head-one (length bytes) more one)) h
            | inr two ↦
                let c : length bytes % 256 + 256 * (length bytes / 256 + 256 * 0) ≡ length bytes = omega arith in
                let h : P (77 ∷ (length bytes % 256) ∷ (length bytes / 256) ∷ []) = push_reads 77 ((length bytes % 256) ∷ (length bytes / 256) ∷ []) bytes rest (omega arith) refl c in
                subst P (sym (head-two (length bytes) two)) h
          ]
    ]

pub chunks_back : (chunks : List (List ℕ)) → AllByRecursion (λ (chunk : List ℕ). length chunk ≤ 520) chunks → (joined_pushes (items_of (pushed_chunks chunks)) ≡ Some (joined_chunks chunks)) × (is_cut (pushed_chunks chunks) ≡ false)
chunks_back [] short = (ap joined_pushes items_of-nil, is_cut-nil)
chunks_back (chunk ∷ chunks) short =
    let here = push_back chunk (pushed_chunks chunks) short.0 in
    let rest = chunks_back chunks short.1 in
    (ap joined_pushes here.items ∙ ap (before chunk) rest.0, here.whole ∙ rest.1)

pub stone_items : (script text : List ℕ) → script ≡ 0x6a ∷ 0x5d ∷ text → items_of script ≡ Op 0x6a ∷ Op 0x5d ∷ items_of text
stone_items script text is =
    ap items_of is ∙ items_of-op 0x6a (0x5d ∷ text) (lit< tt) ∙ ap (λ items. Op 0x6a ∷ items) (items_of-op 0x5d text (lit< tt))

pub stone_marked : (script text : List ℕ) → script ≡ 0x6a ∷ 0x5d ∷ text → is_stone script ≡ true
stone_marked script text is = rw (stone_items script text is) refl

pub payload_back : (script text payload : List ℕ) → script ≡ 0x6a ∷ 0x5d ∷ text → IsPushed text payload → payload_of script ≡ Some payload
unfolding payload_of
payload_back script text payload is pushed =
    let chunks = chunks_back pushed.chunks pushed.short in
    let cut : is_cut script ≡ false = ap is_cut is ∙ is_cut-op 0x6a (0x5d ∷ text) (lit< tt) ∙ is_cut-op 0x5d text (lit< tt) ∙ ap is_cut (sym pushed.text-is) ∙ chunks.1 in
    let items : joined_pushes (drop 2 (items_of script)) ≡ Some payload = ap (λ i. joined_pushes (drop 2 i)) (stone_items script text is) ∙ ap (λ t. joined_pushes (items_of t)) (sym pushed.text-is) ∙ chunks.0 ∙ ap Some pushed.payload-is in
    rw cut items

-- ---- integers

pub integers_back : (integers : List ℕ) → AllByRecursion (λ n. n < 2 ^ 128) integers → integers_of (flat_map varint integers) ≡ Some integers
integers_back [] all = integers_of-nil
integers_back (n ∷ integers) all =
    let rest : List ℕ = flat_map varint integers in
    let long : 0 < length (varint n ++ flat_map varint integers) = omega (arith, varint-long n, length-append (varint n) (flat_map varint integers)) in
    integers_of-more (varint n ++ rest) n (length (varint n)) long (varint-long n) (varint_at-varint n rest all.0)
    ∙ ap (λ b. before (n ∷ []) (integers_of b)) (drop_at (varint n) rest (length (varint n)) refl)
    ∙ ap (before (n ∷ [])) (integers_back integers all.1)

-- ---- the message

abbrev message_with : List Field → List ℕ → Message
message_with fields body = record { fields = fields; lone = false; body = body }

fields_back : (fields : List Field) (tail : List ℕ) → AllByRecursion (λ (f : Field). f.0 ≢ 0) fields → message_of (tags_and_values fields ++ tail) ≡ record { fields = fields ++ (message_of tail).fields; lone = (message_of tail).lone; body = (message_of tail).body }
fields_back [] tail tags = refl
fields_back (field ∷ fields) tail tags =
    rw (ne_eqb field.0 0 tags.0) (ap (field_before field) (fields_back fields tail tags.1))

-- the fields, and a body behind the tag 0 or nothing
pub message_back : (fields : List Field) (edicts : List Edict) → AllByRecursion (λ (f : Field). f.0 ≢ 0) fields → message_of (tags_and_values fields ++ body_for edicts) ≡ record { fields = fields; lone = false; body = deltas (record { block = 0; tx = 0 }) edicts }
message_back fields [] tags = fields_back fields [] tags ∙ ap (λ f. message_with f []) (append-nil fields)
message_back fields (edict ∷ edicts) tags =
    fields_back fields (body_for (edict ∷ edicts)) tags ∙ ap (λ f. message_with f (deltas (record { block = 0; tx = 0 }) (edict ∷ edicts))) (append-nil fields)

-- ---- edicts

pub id_back : (block tx : ℕ) → block < 2 ^ 64 → tx < 2 ^ 32 → (block ≡ 0 → tx ≡ 0) → id_of block tx ≡ Some (record { block = block; tx = tx })
id_back block tx small-block small-tx first =
    elim (cases_lt 0 block) [
      | inl some ↦ rw (lt-ltb block (2 ^ 64) small-block, lt-ltb tx (2 ^ 32) small-tx, lt-ltb 0 block some) refl
      | inr none ↦
          let no : block ≡ 0 = omega arith in
          let zero-tx : tx ≡ 0 = first no in
          rw (no, zero-tx) refl
    ]

pub after_back : (id next : RuneId) → NotBelow id next → IsId next → id_after id (next.block - id.block) (cond (eqb next.block id.block) (next.tx - id.tx) next.tx) ≡ Some next
after_back id next (inl below) is =
    let ne : next.block ≢ id.block = omega arith in
    let some : next.block - id.block ≢ 0 = omega arith in
    let sum : id.block + (next.block - id.block) ≡ next.block = omega arith in
    rw (ne_eqb next.block id.block ne, ne_eqb (next.block - id.block) 0 some, sum) (id_back next.block next.tx is.block is.tx is.first)
after_back id next (inr (same, low)) is =
    let none : next.block - id.block ≡ 0 = omega arith in
    let sum : id.block + (next.block - id.block) ≡ next.block = omega arith in
    let txs : id.tx + (next.tx - id.tx) ≡ next.tx = omega arith in
    rw (eq-eqb next.block id.block (sym same), eq-eqb (next.block - id.block) 0 none, sum, txs) (id_back next.block next.tx is.block is.tx is.first)

edicts_back_after : (outputs : ℕ) (id : RuneId) (edicts : List Edict) → AllByRecursion (IsEdict outputs) edicts → DontFallAfter id edicts → edicts_after outputs (Some id) (deltas id edicts) ≡ Some edicts
edicts_back_after outputs id [] all rising = refl
edicts_back_after outputs id (edict ∷ edicts) all rising =
    let next = after_back id edict.id rising.0 all.0.id in
    let rest = edicts_back_after outputs edict.id edicts all.1 rising.1 in
    ap (λ n. edict_before outputs n edict.amount edict.output (edicts_after outputs n (deltas edict.id edicts))) next
    ∙ ap (edict_before outputs (Some edict.id) edict.amount edict.output) rest
    ∙ rw (le-leb edict.output outputs all.0.output) refl

pub edicts_back : (outputs : ℕ) (edicts : List Edict) → AllByRecursion (IsEdict outputs) edicts → DontFall edicts → edicts_of outputs (deltas (record { block = 0; tx = 0 }) edicts) ≡ Some edicts
unfolding edicts_of
edicts_back outputs edicts all rising = edicts_back_after outputs (record { block = 0; tx = 0 }) edicts all rising
