-- A changed byte of a file with sums.
use Rattle.std.proofs.Common.{◌≡◌, ◌≢◌, ◌∙◌, ◌⊎◌, ◌≤◌, ◌<◌, ◌+◌, ◌-◌, inl, inr, ℕ, zero, suc, Bool, true, false, List, [], ◌∷◌, ◌++◌, length, get_or, take, drop, ◌==◌, ◌&&◌, if◌then◌else◌, Option, Some, None, refl, sym, ap, subst, arith, length-append, length-set, append_assoc}
use Rattle.std.specs.Prelude.{Result, Ok, Err, All, IsErr, nat_le, bytes_eq, set, slice_range}
use Rattle.std.specs.Int.{w64, to_le_bytes}
use Rattle.std.proofs.lemmas.Bool.{and_parts, cases_eq, cases_lt, eq-eqb, eqb-true}
use Rattle.std.proofs.lemmas.List.{take_at, drop_at, take-take, drop-take, take-set-le, drop-set-lt, get_or-take, get_or-drop, get_or-set_same, get_or-set_other, set-append_left, set-append_right}
use Rattle.std.proofs.lemmas.Slice.Eq.{bytes_eq-Decides}
use Rattle.std.proofs.Math.Seq.{drop-append-add}
use Rattle.sha2.specs.Sha256.{sha256}
use Rattle.ox_bytes.proofs.Laws.{wide64}
use Rattle.ox_outside.specs.Files.{Files, file_of, with_file}
use Rattle.ox_outside.specs.declared.site.Which.{Which}
use Rattle.ox_outside.specs.declared.site.Which.TheVariants.{A, B}
use Rattle.ox_gated.specs.Changed.{Collide, IsNoGate, StandForNothing}
use Rattle.ox_gated.specs.Layout.{Layout, has_layout, head_of, is_closed, is_summed, layout_of, plain, summed}
use Rattle.ox_gated.specs.Pick.{choice_of, choice_by, greater_of, lone_choice, Picked}
use Rattle.ox_gated.specs.Reading.{Chain, Fault, Found, body_reading, body_reading_at, chain, found_or_fault, is_present, of_picked, current_reading, reading}
use Rattle.ox_gated.specs.RecordLayout.{record_message, record_sum}
use Rattle.ox_gated.specs.declared.head.Head.{Head}
use Rattle.ox_gated.specs.declared.head.Opening.{Opening}
use Rattle.ox_gated.specs.declared.records.Record.{Record}
use Rattle.ox_gated.proofs.ChangedRecords.{Clash, Differs, changed_chain, differs_left, differs_right, set_differs}
use Rattle.ox_gated.proofs.CurrentByFront.{HeadThere, OfParts, body_on, body_wrong, head_there, parts_of}
use Rattle.ox_gated.proofs.LayoutLaws.{layout_plain, layout_summed}
use Rattle.ox_gated.proofs.OneFile.{file_of-with_file}
use Rattle.ox_gated.proofs.Stands.{ends_ok, judged, judged_ok, picked_with, reading_of, stands}

-- ---- an open file without a head

pub unpicked : (which : Which) (a b : List ℕ) → is_closed (file_of (record { a = a; b = b }) which) ≡ false → head_of (file_of (record { a = a; b = b }) which) ≡ None → (fault : Which × ℕ) × (choice_of a b ≡ Err fault)
unpicked A a b opened none = by (is_closed b) refl
  where
    with_b : (x : Bool) → (length b == 0) ≡ x → (fault : Which × ℕ) × ((if x then Err (B, 0) else lone_choice A (head_of a)) ≡ Err fault)
    with_b true is = ((B, 0), refl)
    with_b false is = ((A, 1), ap (lone_choice A) none)

    by : (y : Bool) → is_closed b ≡ y → (fault : Which × ℕ) × (choice_of a b ≡ Err fault)
    by true closed = let rest = with_b (length b == 0) refl in (rest.0, (λ i. choice_by (opened i) (closed i) a b) ∙ rest.1)
    by false closed = ((A, 1), (λ i. choice_by (opened i) (closed i) a b) ∙ ap (λ (o : Option Opening). greater_of o (head_of b)) none)
unpicked B a b opened none = by (is_closed a) refl
  where
    with_a : (x : Bool) → (length a == 0) ≡ x → (fault : Which × ℕ) × ((if x then Err (A, 0) else lone_choice B (head_of b)) ≡ Err fault)
    with_a true is = ((A, 0), refl)
    with_a false is = ((B, 1), ap (lone_choice B) none)

    by_head : (o : Option Opening) → (fault : Which × ℕ) × (greater_of o None ≡ Err fault)
    by_head None = ((A, 1), refl)
    by_head (Some o) = ((B, 1), refl)

    by : (x : Bool) → is_closed a ≡ x → (fault : Which × ℕ) × (choice_of a b ≡ Err fault)
    by true closed = let rest = with_a (length a == 0) refl in (rest.0, (λ i. choice_by (closed i) (opened i) a b) ∙ rest.1)
    by false closed = let rest = by_head (head_of a) in (rest.0, (λ i. choice_by (closed i) (opened i) a b) ∙ ap (greater_of (head_of a)) none ∙ rest.1)

no_head : (image : Files) (which : Which) → is_closed (file_of image which) ≡ false → head_of (file_of image which) ≡ None → StandForNothing image
no_head image which opened none reads =
    let lost = unpicked which image.a image.b opened none in
    subst (λ c. IsErr (of_picked (current_reading reads) image c)) (sym lost.1) refl

-- ---- what stands for nothing

judged_err : (read : Bool) (file : Which) (body : Result Found Fault) → IsErr body → IsErr (judged read file body)
judged_err true file body is = is
judged_err false file body is = refl

ends_err : (file : Which) (head : Head) (body : List ℕ) (records : List Record) (end : Result ℕ ℕ) → IsErr end → IsErr (found_or_fault file head body records end)
ends_err file head body records (Ok gate) is = absurd (cc is)
ends_err file head body records (Err at) is = refl

opened_still : (old : List ℕ) (at byte : ℕ) → at ≢ 0 → is_closed old ≡ false → is_closed (set old at byte) ≡ false
opened_still [] at byte some opened = absurd (cc opened)
opened_still (gate ∷ old) zero byte some opened = absurd (some refl)
opened_still (gate ∷ old) (suc at) byte some opened = opened

-- ---- a head with its sum

-- stretches of the first bytes of a file
first_range : (file : List ℕ) → take 57 (drop 1 (take 90 file)) ≡ take 57 (drop 1 file)
first_range file = ap (λ (l : List ℕ). take 57 l) (drop-take 1 89 file) ∙ take-take 57 89 (drop 1 file) (omega arith)

last_range : (file : List ℕ) → take 32 (drop 58 (take 90 file)) ≡ take 32 (drop 58 file)
last_range file = ap (λ (l : List ℕ). take 32 l) (drop-take 58 32 file) ∙ take-take 32 32 (drop 58 file) (omega arith)

pub record HeadSum (file : List ℕ) : Type 0 where
  pub letters : take 5 (drop 1 file) ≡ summed.letters
  pub sum : take 32 (drop 58 file) ≡ sha256 (take 57 (drop 1 file))

layout_parts : (layout : Layout) (file : List ℕ) → has_layout layout file ≡ true → (take 5 (drop 1 file) ≡ layout.letters) × (layout.is_head (take layout.body_at file) ≡ true)
layout_parts layout file has =
    let front = and_parts (nat_le layout.body_at (length file) && bytes_eq (slice_range file 1 6) layout.letters) (layout.is_head (take layout.body_at file)) has in
    let letters = and_parts (nat_le layout.body_at (length file)) (bytes_eq (slice_range file 1 6) layout.letters) front.0 in
    ((bytes_eq-Decides (slice_range file 1 6) layout.letters).0 letters.1, front.1)

head_sum : (file : List ℕ) → has_layout summed file ≡ true → HeadSum file
head_sum file has =
    let parts = layout_parts summed file has in
    let right = (bytes_eq-Decides (take 32 (drop 58 (take 90 file))) (sha256 (take 57 (drop 1 (take 90 file))))).0 parts.1 in
    record { letters = parts.0; sum = sym (last_range file) ∙ right ∙ ap sha256 (first_range file) }

fifth : (file : List ℕ) → get_or (take 5 (drop 1 file)) 4 0 ≡ get_or file 5 0
fifth file = get_or-take 5 (drop 1 file) 4 0 (omega arith) ∙ get_or-drop 1 file 4 0

module _ (old : List ℕ) (opening : Opening) (there : HeadThere old opening) (three : opening.head.version ≡ 3) (at byte : ℕ) (within : at < 90) (enough : 90 ≤ length old) (differs : Differs old at byte) where
  abbrev new : List ℕ
  new = set old at byte

  was : HeadSum old
  was = head_sum old (subst (λ (l : Layout). has_layout l old ≡ true) (layout_summed opening.head.version (eq-eqb opening.head.version 3 three)) there.has)

  version_was : get_or old 6 0 ≡ 3
  version_was = ap (λ (o : Opening). o.head.version) there.same ∙ three

  here : get_or new at 0 ≡ byte
  here = get_or-set_same old at byte 0 (omega (arith, within, enough))

  -- a byte can't make it another version
  version_still : (o : Opening) → HeadThere new o → o.head.version ≡ 3
  version_still o still = elim (cases_eq at 6) [
    | inl on ↦ by_layout (is_summed o.head.version) refl (λ fifth_is. absurd (omega (arith, on, fifth_is)))
    | inr off ↦ sym (ap (λ (x : Opening). x.head.version) still.same) ∙ get_or-set_other old at 6 byte 0 (λ same. off (sym same)) ∙ version_was
  ]
    where
      by_layout : (b : Bool) → is_summed o.head.version ≡ b → (at ≡ 5 → ⊥) → o.head.version ≡ 3
      by_layout true is not_five = eqb-true o.head.version 3 is
      by_layout false is not_five =
          let has = subst (λ (l : Layout). has_layout l new ≡ true) (layout_plain o.head.version is) still.has in
          let letters = (layout_parts plain new has).0 in
          let now : get_or new 5 0 ≡ 120 = sym (fifth new) ∙ ap (λ (l : List ℕ). get_or l 4 0) letters in
          let before : get_or old 5 0 ≡ 51 = sym (fifth old) ∙ ap (λ (l : List ℕ). get_or l 4 0) was.letters in
          let same : get_or new 5 0 ≡ get_or old 5 0 = get_or-set_other old at 5 byte 0 (λ five. not_five (sym five)) in
          absurd (omega (arith, now, before, same))

  sum_still : (o : Opening) → HeadThere new o → HeadSum new
  sum_still o still = head_sum new (subst (λ (l : Layout). has_layout l new ≡ true) (layout_summed o.head.version (eq-eqb o.head.version 3 (version_still o still))) still.has)

  -- in what is summed
  in_message : at ≢ 0 → at < 58 → HeadSum new → Collide old new
  in_message some less now =
      let k = at - 1 in
      let place : 1 + k ≡ at = omega (arith, some) in
      let byte_of = λ (l : List ℕ). get_or-take 57 (drop 1 l) k 0 (omega (arith, less, some)) ∙ get_or-drop 1 l k 0 ∙ ap (λ (n : ℕ). get_or l n 0) place in
      let same_sum : take 32 (drop 58 new) ≡ take 32 (drop 58 old) = ap (λ (l : List ℕ). take 32 l) (drop-set-lt 58 old at byte less) in
      record {
        before = take 57 (drop 1 old);
        after = take 57 (drop 1 new);
        is_before = inl refl;
        is_after = inl refl;
        differ = λ same. differs (sym here ∙ sym (byte_of new) ∙ ap (λ (l : List ℕ). get_or l k 0) same ∙ byte_of old);
        same = sym now.sum ∙ same_sum ∙ was.sum;
      }

  -- in the sum
  in_sum : 58 ≤ at → HeadSum new → ⊥
  in_sum from now =
      let k = at - 58 in
      let place : 58 + k ≡ at = omega (arith, from) in
      let byte_of = λ (l : List ℕ). get_or-take 32 (drop 58 l) k 0 (omega (arith, within, from)) ∙ get_or-drop 58 l k 0 ∙ ap (λ (n : ℕ). get_or l n 0) place in
      let message = λ (l : List ℕ). drop-take 1 57 l in
      let same_message : take 57 (drop 1 new) ≡ take 57 (drop 1 old) = sym (message new) ∙ ap (λ (l : List ℕ). drop 1 l) (take-set-le 58 old at byte from) ∙ message old in
      let same_sum = now.sum ∙ ap sha256 same_message ∙ sym was.sum in
      differs (sym here ∙ sym (byte_of new) ∙ ap (λ (l : List ℕ). get_or l k 0) same_sum ∙ byte_of old)

  head_changed : (o : Opening) → at ≢ 0 → HeadThere new o → Collide old new
  head_changed o some still = elim (cases_lt at 58) [
    | inl less ↦ in_message some less (sum_still o still)
    | inr from ↦ absurd (in_sum from (sum_still o still))
  ]

-- ---- messages of records

sum_is : (generation place : ℕ) (payload : List ℕ) → record_sum generation place payload ≡ sha256 (record_message generation place payload)
unfolding record_sum
sum_is generation place payload = refl

message_end : (generation place : ℕ) (payload : List ℕ) → drop 24 (record_message generation place payload) ≡ payload
message_end generation place payload =
    let g = to_le_bytes w64 generation in
    let p = to_le_bytes w64 place in
    let n = to_le_bytes w64 (length payload) in
    drop_at (g ++ p ++ n) payload 24 (omega (arith, length-append (g ++ p) n, length-append g p, wide64.len generation, wide64.len place, wide64.len (length payload)))

-- two payloads behind the same bytes that clash
module _ (generation start : ℕ) (front old new : List ℕ) (size : length front ≡ start) (clash : Clash generation start old new) where
  in_whole : (l payload : List ℕ) → payload ≡ slice_range l (clash.offset + 41) (clash.offset + 41 + length payload) → payload ≡ slice_range (front ++ l) (start + clash.offset + 41) (start + clash.offset + 41 + length payload)
  in_whole l payload is =
      let k = clash.offset + 41 in
      let many : start + clash.offset + 41 + length payload - (start + clash.offset + 41) ≡ k + length payload - k = omega arith in
      let place_is : start + clash.offset + 41 ≡ length front + k = omega (arith, size) in
      is ∙ sym ((λ i. take (many i) (drop (place_is i) (front ++ l))) ∙ ap (λ (x : List ℕ). take (k + length payload - k) x) (drop-append-add front l k))

  collide_of : Collide (front ++ old) (front ++ new)
  collide_of =
      let place = start + clash.offset in
      record {
        before = record_message generation place clash.before;
        after = record_message generation place clash.after;
        is_before = inr (inr (generation, place, place + 41 + length clash.before, ap (record_message generation place) (in_whole old clash.before clash.before_there)));
        is_after = inr (inr (generation, place, place + 41 + length clash.after, ap (record_message generation place) (in_whole new clash.after clash.after_there)));
        differ = λ same. clash.differ (sym (message_end generation place clash.after) ∙ ap (λ (l : List ℕ). drop 24 l) same ∙ message_end generation place clash.before);
        same = sym (sum_is generation place clash.after) ∙ clash.same ∙ sum_is generation place clash.before;
      }

-- ---- the whole file

module _ (files : Files) (found : Found) (opening : Opening) (why : Picked files found.file opening) (three : opening.head.version ≡ 3) (is : body_reading found.file (file_of files found.file) opening ≡ Ok found)
    (at byte : ℕ) (no_gate : IsNoGate found at) (differs : Differs (file_of files found.file) at byte) where
  abbrev which : Which
  which = found.file

  abbrev file : List ℕ
  file = file_of files which

  abbrev image : Files
  image = with_file files which (set file at byte)

  layout_is : layout_of opening.head.version ≡ summed
  layout_is = layout_summed opening.head.version (eq-eqb opening.head.version 3 three)

  p : OfParts summed which opening file found
  p = parts_of summed which opening file found (ap (λ (l : Layout). body_reading_at l which file opening) (sym layout_is) ∙ is)

  abbrev front : List ℕ
  front = p.front

  abbrev body : List ℕ
  body = p.body

  abbrev rest : List ℕ
  rest = p.rest

  abbrev behind : List ℕ
  behind = body ++ rest

  image_file : file_of image which ≡ set file at byte
  image_file = file_of-with_file files which (set file at byte)

  opened : is_closed (file_of image which) ≡ false
  opened = ap is_closed image_file ∙ opened_still file at byte no_gate.not_first why.opened

  there : HeadThere file opening
  there = head_there file opening why.head

  -- ---- in the head

  enough : 90 ≤ length file
  enough = omega (arith, ap length p.parts, p.size, length-append front behind)

  by_head : at < 90 → (o : Option Opening) → head_of (file_of image which) ≡ o → StandForNothing image ⊎ Collide file (set file at byte)
  by_head within None none = inl (no_head image which opened none)
  by_head within (Some o) some = inr (head_changed file opening there three at byte within enough differs o no_gate.not_first (subst (λ (l : List ℕ). HeadThere l o) image_file (head_there (file_of image which) o some)))

  -- ---- behind it

  differs_here : Differs (front ++ behind) at byte
  differs_here = subst (λ (l : List ℕ). Differs l at byte) p.parts differs

  reads_same : (t : List ℕ) → set file at byte ≡ front ++ t → (reads : ℕ → Bool) → reading reads image ≡ judged (reads opening.head.version) which (body_reading_at summed which (front ++ t) opening)
  reads_same t new reads =
      let long : (layout_of opening.head.version).body_at ≤ length front = omega (arith, ap (λ (l : Layout). l.body_at) layout_is, p.size) in
      let image_is : image ≡ with_file files which (front ++ t) = ap (with_file files which) new in
      ap (reading reads) image_is
      ∙ reading_of (with_file files which (front ++ t)) which opening reads (picked_with files which opening front t behind why p.parts long)
      ∙ ap (λ (l : List ℕ). judged (reads opening.head.version) which (body_reading which l opening)) (file_of-with_file files which (front ++ t))
      ∙ ap (λ (l : Layout). judged (reads opening.head.version) which (body_reading_at l which (front ++ t) opening)) layout_is

  nothing_by : (t : List ℕ) → set file at byte ≡ front ++ t → IsErr (body_reading_at summed which (front ++ t) opening) → StandForNothing image
  nothing_by t new wrong reads = subst (λ (r : Result Found Fault). IsErr r) (sym (reads_same t new reads)) (judged_err (reads opening.head.version) which (body_reading_at summed which (front ++ t) opening) wrong)

  module _ (past_head : 90 ≤ at) where
    abbrev at_behind : ℕ
    at_behind = at - length front

    new_behind : set file at byte ≡ front ++ set behind at_behind byte
    new_behind = ap (λ (l : List ℕ). set l at byte) p.parts ∙ set-append_right front behind (length front) at byte refl (omega (arith, p.size, past_head))

    differs_behind : Differs behind at_behind byte
    differs_behind = differs_right front behind at byte (omega (arith, p.size, past_head)) differs_here

    -- ---- in the body

    module _ (in_body : at_behind < length body) where
      abbrev body' : List ℕ
      body' = set body at_behind byte

      new_body : set file at byte ≡ front ++ (body' ++ rest)
      new_body = new_behind ∙ ap (λ (l : List ℕ). front ++ l) (set-append_left body rest at_behind byte in_body)

      size' : length body' ≡ opening.size
      size' = length-set body at_behind byte ∙ p.body_size

      body_range : (l t : List ℕ) → length l ≡ opening.size → l ≡ slice_range (front ++ (l ++ t)) 90 (90 + opening.size)
      body_range l t size =
          let many : 90 + opening.size - 90 ≡ opening.size = omega arith in
          sym (ap (λ (x : List ℕ). take (90 + opening.size - 90) x) (drop_at front (l ++ t) 90 p.size) ∙ ap (λ (k : ℕ). take k (l ++ t)) many ∙ take_at l t opening.size size)

      body_changed : (right : Bool) → summed.is_body front body' ≡ right → StandForNothing image ⊎ Collide file (set file at byte)
      body_changed true right = inr (
          record {
            before = body;
            after = body';
            is_before = inr (inl (90 + opening.size, body_range body rest p.body_size ∙ ap (λ (l : List ℕ). slice_range l 90 (90 + opening.size)) (sym p.parts)));
            is_after = inr (inl (90 + opening.size, body_range body' rest size' ∙ ap (λ (l : List ℕ). slice_range l 90 (90 + opening.size)) (sym new_body)));
            differ = set_differs body at_behind byte in_body (differs_left body rest at_behind byte in_body differs_behind);
            same = sym ((bytes_eq-Decides (take 32 (drop 26 front)) (sha256 body')).0 right) ∙ (bytes_eq-Decides (take 32 (drop 26 front)) (sha256 body)).0 p.right;
          }
          )
      body_changed false wrong = inl (nothing_by (body' ++ rest) new_body (subst (λ (r : Result Found Fault). IsErr r) (sym (body_wrong summed which opening front body' rest p.size size' wrong)) refl))

    -- ---- in the records

    module _ (past_body : length body ≤ at_behind) where
      abbrev start : ℕ
      start = 90 + opening.size

      abbrev at_rest : ℕ
      at_rest = at_behind - length body

      abbrev rest' : List ℕ
      rest' = set rest at_rest byte

      abbrev generation : ℕ
      generation = opening.head.generation

      abbrev first : Chain
      first = chain summed generation start rest

      ends : (gate : ℕ) × (first.end ≡ Ok gate) × (record { file = which; head = opening.head; body = body; records = first.records; gate = gate } ≡ found)
      ends = ends_ok which opening.head body first.records first.end found p.reads

      place_is : start + at_rest ≡ at
      place_is = omega (arith, p.size, p.body_size, past_head, past_body)

      new_rest : set file at byte ≡ front ++ (body ++ rest')
      new_rest = new_behind ∙ ap (λ (l : List ℕ). front ++ l) (set-append_right body rest (length body) at_behind byte refl past_body)

      less : start + at_rest < ends.0
      less = let before = no_gate.before_last in omega (arith, before, place_is, ap (λ (f : Found). f.gate) ends.2)

      none : All (λ (one : Record). start + at_rest ≢ one.place) first.records
      none =
          subst (λ (n : ℕ). All (λ (one : Record). n ≢ one.place) first.records) (sym place_is)
          (subst (λ (f : Found). All (λ (one : Record). at ≢ one.place) f.records) (sym ends.2) no_gate.no_record)

      differs_rest : Differs rest at_rest byte
      differs_rest = differs_right body rest at_behind byte past_body differs_behind

      records_changed : StandForNothing image ⊎ Collide file (set file at byte)
      records_changed = elim (changed_chain generation (length rest) start ends.0 rest at_rest byte (omega arith) ends.1 less none differs_rest) [
        | inl wrong ↦
            let reads = body_on summed which opening front body rest' p.size p.body_size p.right in
            let bad = ends_err which opening.head body (chain summed generation start rest').records (chain summed generation start rest').end wrong in
            inl (nothing_by (body ++ rest') new_rest (subst (λ (r : Result Found Fault). IsErr r) (sym reads) bad))
        | inr clash ↦
            let size : length (front ++ body) ≡ start = omega (arith, p.size, p.body_size, length-append front body) in
            let collide = collide_of generation start (front ++ body) rest rest' size clash in
            inr (subst (λ (l : List ℕ). Collide l (set file at byte)) (append_assoc front body rest ∙ sym p.parts)
            (subst (λ (l : List ℕ). Collide ((front ++ body) ++ rest) l) (append_assoc front body rest' ∙ sym new_rest) collide))
      ]

  file_changed : StandForNothing image ⊎ Collide file (set file at byte)
  file_changed = elim (cases_lt at 90) [
    | inl within ↦ by_head within (head_of (file_of image which)) refl
    | inr past ↦ elim (cases_lt (at - length front) (length body)) [
      | inl inside ↦ body_changed past inside (summed.is_body front (set body (at - length front) byte)) refl
      | inr behind_body ↦ records_changed past behind_body
    ]
  ]

pub changed : (files : Files) (found : Found) → reading is_present files ≡ Ok found → found.head.version ≡ 3 → (at byte : ℕ) → IsNoGate found at → Differs (file_of files found.file) at byte
    → StandForNothing (with_file files found.file (set (file_of files found.file) at byte)) ⊎ Collide (file_of files found.file) (set (file_of files found.file) at byte)
changed files found is three at byte no_gate differs =
    let s = (stands files found is_present is).0 in
    let read = reading_of files found.file s.opening is_present s.why in
    let body_is = (judged_ok (is_present s.opening.head.version) found.file (body_reading found.file (file_of files found.file) s.opening) found (sym read ∙ is)).1 in
    file_changed files found s.opening s.why (sym (ap (λ (h : Head). h.version) s.same_head) ∙ three) body_is at byte no_gate differs
