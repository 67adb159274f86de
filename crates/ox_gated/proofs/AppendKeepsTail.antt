-- The two writes of a record, by what the tail keeps.
use Rattle.std.proofs.Common.{◌≡◌, ◌∙◌, ◌≤◌, ◌<◌, ◌+◌, ◌^◌, inl, ℕ, List, [], ◌∷◌, ◌++◌, length, take, drop, refl, sym, ap, subst, arith, length-append}
use Rattle.std.specs.Prelude.{Result, Ok, Err}
use Rattle.std.proofs.lemmas.List.{length_push}
use Rattle.ox_outside.specs.Crash.{Remains, Only}
use Rattle.ox_outside.specs.Runs.{LeavesOnly}
use Rattle.ox_outside.specs.Files.{Files, file_of, with_file, other, with_bytes, Torn, TornFile}
use Rattle.ox_outside.specs.declared.site.Site.{Ghosts as Meanings}
use Rattle.ox_outside.specs.declared.site.Which.{Which}
use Rattle.ox_outside.specs.declared.site.Which.TheVariants.{A, B}
use Rattle.ox_outside.proofs.Calls.{leaves_then, leaves_weaker}
use Rattle.ox_gated.specs.Layout.{is_closed, layout_of}
use Rattle.ox_gated.specs.Reading.{Found, Fault, is_any, reading, with_payload, ReadsAlike, ReadsMore}
use Rattle.ox_gated.specs.Tail.{Framing, Kept, KeepsFound, Keeps, Holds, Fits, IsFramedBehind, IsSettled, IsBeforeOrAfter}
use Rattle.ox_gated.specs.declared.head.Head.{Head}
use Rattle.ox_gated.proofs.OneFile.{file_of-with_file, file_of-with_other, with_file-with_file, files_are}
use Rattle.ox_gated.proofs.RecordWrites.{here, behind, written, staged_bytes, staging_is_before, opening_is_either, opened_bytes, stands_appended, gate_within, gate_within_staged, length-written}

-- ---- by what is found

-- the files after the first write, and after the second
abbrev pub first_files : List ℕ → Files → Which → ℕ → Files
first_files bytes files file gate = with_file files file (with_bytes (gate + 1) bytes (file_of files file))

abbrev pub second_files : Files → Which → ℕ → Files
second_files staged_files file gate = with_file staged_files file (with_bytes gate (1 ∷ []) (file_of staged_files file))

module _ (files : Files) (found : Found) (is : reading is_any files ≡ Ok found) (payload : List ℕ) (fits : length payload < (layout_of found.head.version).payload_limit) where
  abbrev record_now : List ℕ
  record_now = written found.head found.gate payload

  abbrev later : List ℕ
  later = behind files found is payload fits

  abbrev before : List ℕ
  before = (here files found is payload fits).front

  first_of : (image : Files) → TornFile found.file (found.gate + 1) (length record_now) files image → ReadsAlike files image
  first_of image torn reads = ap (reading reads) (files_are files image found.file torn.others) ∙ staging_is_before files found is payload fits (file_of image found.file) torn.torn reads

  staged_files : (mid : Files) → mid ≡ first_files record_now files found.file found.gate → mid ≡ with_file files found.file (before ++ 0 ∷ (record_now ++ later))
  staged_files mid mid_is = mid_is ∙ ap (with_file files found.file) (staged_bytes files found is payload fits)

  staged_file : (mid : Files) → mid ≡ first_files record_now files found.file found.gate → file_of mid found.file ≡ before ++ 0 ∷ (record_now ++ later)
  staged_file mid mid_is = ap (λ (f : Files). file_of f found.file) (staged_files mid mid_is) ∙ file_of-with_file files found.file _

  second_of : (mid image : Files) → mid ≡ first_files record_now files found.file found.gate → TornFile found.file found.gate 1 mid image → IsBeforeOrAfter payload files image
  second_of mid image mid_is torn =
      let image_is = files_are mid image found.file torn.others ∙ ap (λ (f : Files). with_file f found.file (file_of image found.file)) (staged_files mid mid_is) ∙ with_file-with_file files found.file _ (file_of image found.file) in
      let here_torn = subst (λ (l : List ℕ). Torn found.gate 1 l (file_of image found.file)) (staged_file mid mid_is) torn.torn in
      subst (IsBeforeOrAfter payload files) (sym image_is) (opening_is_either files found is payload fits (file_of image found.file) here_torn)

  after_of : (mid last : Files) → mid ≡ first_files record_now files found.file found.gate → last ≡ second_files mid found.file found.gate → ReadsMore payload files last
  after_of mid last mid_is last_is reads =
      let opened_is = ap (λ (l : List ℕ). with_bytes found.gate (1 ∷ []) l) (staged_file mid mid_is) ∙ opened_bytes files found is payload fits in
      let final = before ++ 1 ∷ (record_now ++ later) in
      let last_whole : last ≡ with_file files found.file final =
      last_is ∙ ap (λ (l : List ℕ). with_file mid found.file l) opened_is ∙ ap (λ (f : Files). with_file f found.file final) (staged_files mid mid_is) ∙ with_file-with_file files found.file _ final in
      ap (reading reads) last_whole ∙ stands_appended files found is payload fits reads

  within_of : (mid : Files) → mid ≡ first_files record_now files found.file found.gate → found.gate ≤ length (file_of mid found.file)
  within_of mid mid_is = subst (λ (l : List ℕ). found.gate ≤ length l) (sym (staged_file mid mid_is)) (gate_within_staged files found is payload fits)

-- ---- by the tail

found_of : (tail : Kept) (r : Result Found Fault) → Keeps tail r → (found : Found) × (r ≡ Ok found) × KeepsFound tail found
found_of tail (Ok found) keeps = (found, refl, keeps)
found_of tail (Err fault) keeps = absurd keeps

module _ (payload bytes : List ℕ) (files : Files) (tail : Kept) (keeps : Keeps tail (reading is_any files)) (framed : IsFramedBehind tail (record { payload = payload; bytes = bytes })) where
  pub kept_found : (found : Found) × (reading is_any files ≡ Ok found) × KeepsFound tail found
  kept_found = found_of tail (reading is_any files) keeps

  abbrev found : Found
  found = kept_found.0

  abbrev k : KeepsFound tail found
  k = kept_found.2

  short : length payload < (layout_of found.head.version).payload_limit
  short = subst (λ (h : Head). length payload < (layout_of h.version).payload_limit) k.head framed.short

  bytes_are : bytes ≡ written found.head found.gate payload
  bytes_are = framed.bytes ∙ (λ i. written (k.head i) (k.gate i) payload)

  pub first_write : (image : Files) → TornFile tail.file (tail.gate + 1) (length bytes) files image → ReadsAlike files image
  first_write image torn =
      first_of files found kept_found.1 payload short image
      (subst (λ (l : List ℕ). TornFile found.file (found.gate + 1) (length l) files image) bytes_are
      (subst (λ (g : ℕ). TornFile found.file (g + 1) (length bytes) files image) k.gate (subst (λ (w : Which). TornFile w (tail.gate + 1) (length bytes) files image) k.file torn)))

  first_is : (mid : Files) → mid ≡ first_files bytes files tail.file tail.gate → mid ≡ first_files (written found.head found.gate payload) files found.file found.gate
  first_is mid mid_is = mid_is ∙ (λ i. first_files (bytes_are i) files (k.file i) (k.gate i))

  pub second_write : (mid image : Files) → mid ≡ first_files bytes files tail.file tail.gate → TornFile tail.file tail.gate 1 mid image → IsBeforeOrAfter payload files image
  second_write mid image mid_is torn =
      second_of files found kept_found.1 payload short mid image (first_is mid mid_is) (subst (λ (g : ℕ). TornFile found.file g 1 mid image) k.gate (subst (λ (w : Which). TornFile w tail.gate 1 mid image) k.file torn))

  pub after_both : (mid last : Files) → mid ≡ first_files bytes files tail.file tail.gate → last ≡ second_files mid tail.file tail.gate → ReadsMore payload files last
  after_both mid last mid_is last_is =
      after_of files found kept_found.1 payload short mid last (first_is mid mid_is) (last_is ∙ (λ i. second_files mid (k.file i) (k.gate i)))

  pub first_within : tail.gate + 1 ≤ length (file_of files tail.file)
  first_within =
      subst (λ (g : ℕ). g + 1 ≤ length (file_of files tail.file)) (sym k.gate) (subst (λ (w : Which). found.gate + 1 ≤ length (file_of files w)) (sym k.file) (gate_within files found kept_found.1 payload short))

  pub second_within : (mid : Files) → mid ≡ first_files bytes files tail.file tail.gate → tail.gate ≤ length (file_of mid tail.file)
  second_within mid mid_is =
      subst (λ (g : ℕ). g ≤ length (file_of mid tail.file)) (sym k.gate) (subst (λ (w : Which). found.gate ≤ length (file_of mid w)) (sym k.file) (within_of files found kept_found.1 payload short mid (first_is mid mid_is)))

-- ---- what a crash leaves after the calls

-- after a write that is synced
pub settled_after : (files : Files) (file : Which) (bytes : List ℕ) (old new : Remains → Type 0) (now : Files) → now ≡ with_file files file bytes → ((r : Remains) → old r → r.files ≡ files) → Only file (file_of now file) new
    → ((r : Remains) → new r → (q : Remains) × old q × (file_of r.files (other file) ≡ file_of q.files (other file))) → (r : Remains) → new r → r.files ≡ now
settled_after files file bytes old new now is settled only others r left =
    let from = others r left in
    let same_other : file_of r.files (other file) ≡ file_of files (other file) = from.2 ∙ ap (λ (f : Files). file_of f (other file)) (settled from.0 from.1) in
    let this : file_of r.files file ≡ bytes = only r left ∙ ap (λ (f : Files). file_of f file) is ∙ file_of-with_file files file bytes in
    files_are files r.files file same_other ∙ ap (with_file files file) this ∙ sym is

length_written : (at : ℕ) (bytes file : List ℕ) → 1 ≤ length bytes → 1 ≤ length (with_bytes at bytes file)
length_written at bytes file some = omega (arith, length-append (take at file ++ bytes) (drop (at + length bytes) file), length-append (take at file) bytes)

some_with : (files : Files) (file : Which) (bytes : List ℕ) → 1 ≤ length bytes → 1 ≤ length files.a → 1 ≤ length files.b → (1 ≤ length (with_file files file bytes).a) × (1 ≤ length (with_file files file bytes).b)
some_with files A bytes some a b = (some, b)
some_with files B bytes some a b = (a, some)

pub some_after : (files : Files) (file : Which) (at : ℕ) (bytes : List ℕ) (now : Files) → now ≡ with_file files file (with_bytes at bytes (file_of files file)) → 1 ≤ length bytes → 1 ≤ length files.a → 1 ≤ length files.b → (1 ≤ length now.a) × (1 ≤ length now.b)
some_after files file at bytes now is some a b =
    subst (λ (f : Files). (1 ≤ length f.a) × (1 ≤ length f.b)) (sym is) (some_with files file (with_bytes at bytes (file_of files file)) (length_written at bytes (file_of files file) some) a b)

pub closed_after : (files : Files) (file : Which) (bytes : List ℕ) (now : Files) → now ≡ with_file files file bytes → is_closed (file_of now (other file)) ≡ is_closed (file_of files (other file))
closed_after files file bytes now is = ap is_closed (ap (λ (f : Files). file_of f (other file)) is ∙ file_of-with_other files file bytes)

-- the tail behind a record of so many bytes
abbrev pub tail_behind : Kept → ℕ → Kept
tail_behind tail size = record tail { records = tail.records + 1; gate = tail.gate + size }

keeps_ok : (payload : List ℕ) (tail : Kept) (now : Result Found Fault) (found : Found) (size : ℕ) → KeepsFound tail found → size ≡ (layout_of found.head.version).before_payload + length payload → now ≡ with_payload payload (Ok found)
    → Keeps (tail_behind tail size) now
keeps_ok payload tail now found size k size_is is =
    subst (Keeps (tail_behind tail size)) (sym is) (
    record {
      file = k.file;
      head = k.head;
      first = k.first;
      records = ap (λ (n : ℕ). n + 1) k.records ∙ sym (length_push found.records (record { place = found.gate; payload = payload }));
      gate = λ i. k.gate i + size_is i;
    }
    )

pub keeps_after : (payload bytes : List ℕ) (files : Files) (tail : Kept) (keeps : Keeps tail (reading is_any files)) (framed : IsFramedBehind tail (record { payload = payload; bytes = bytes })) (now : Files) → ReadsMore payload files now
    → Keeps (tail_behind tail (length bytes)) (reading is_any now)
keeps_after payload bytes files tail keeps framed now is =
    let k = kept_found payload bytes files tail keeps framed in
    let size = ap length (bytes_are payload bytes files tail keeps framed) ∙ length-written k.0.head k.0.gate payload in
    keeps_ok payload tail (reading is_any now) k.0 (length bytes) k.2 size (is is_any ∙ ap (with_payload payload) k.1)

-- ---- the moments of the two writes

module _ {S : Type 0} (means : Meanings S)
    (payload bytes : List ℕ) (tail : Kept) (framed : IsFramedBehind tail (record { payload = payload; bytes = bytes })) (old mid : S) (holds : Holds means tail old) where
  abbrev pub AtFirst : Type 0
  AtFirst = LeavesOnly means old mid (λ r. TornFile tail.file (tail.gate + 1) (length bytes) (means.seen old) r.files)

  abbrev pub Staged : Type 0
  Staged = means.seen mid ≡ first_files bytes (means.seen old) tail.file tail.gate

  pub moments_first : AtFirst → LeavesOnly means old mid (λ r. IsBeforeOrAfter payload (means.seen old) r.files)
  moments_first first = leaves_weaker means old mid _ _ (λ r torn. inl (first_write payload bytes (means.seen old) tail holds.keeps framed r.files torn)) first

  pub moments_both : (new : S) → AtFirst → Staged → LeavesOnly means mid new (λ r. TornFile tail.file tail.gate 1 (means.seen mid) r.files)
      → LeavesOnly means old new (λ r. IsBeforeOrAfter payload (means.seen old) r.files)
  moments_both new first is second = leaves_then means old mid new _ (moments_first first)
      (leaves_weaker means mid new _ _ (λ r torn. second_write payload bytes (means.seen old) tail holds.keeps framed (means.seen mid) r.files is torn) second)

  pub staged_settled : Staged → Only tail.file (file_of (means.seen mid) tail.file) (means.may_leave mid)
      → ((r : Remains) → means.may_leave mid r → (q : Remains) × means.may_leave old q × (file_of r.files (other tail.file) ≡ file_of q.files (other tail.file))) → IsSettled means mid
  staged_settled is only others = settled_after (means.seen old) tail.file _ (means.may_leave old) (means.may_leave mid) (means.seen mid) is holds.settled only others

  pub staged_within : Staged → tail.gate ≤ length (file_of (means.seen mid) tail.file)
  staged_within is = second_within payload bytes (means.seen old) tail holds.keeps framed (means.seen mid) is

  some_bytes : 1 ≤ length bytes
  some_bytes = omega (arith, ap length framed.bytes, length-append ((layout_of tail.head.version).record_bytes tail.head.generation tail.gate payload) (0 ∷ []))

  module _ (new : S) (is : Staged) (last : means.seen new ≡ second_files (means.seen mid) tail.file tail.gate) where
    pub reads_after : ReadsMore payload (means.seen old) (means.seen new)
    reads_after = after_both payload bytes (means.seen old) tail holds.keeps framed (means.seen mid) (means.seen new) is last

    pub holds_after : IsSettled means mid → Only tail.file (file_of (means.seen new) tail.file) (means.may_leave new)
        → ((r : Remains) → means.may_leave new r → (q : Remains) × means.may_leave mid q × (file_of r.files (other tail.file) ≡ file_of q.files (other tail.file)))
        → Holds means (tail_behind tail (length bytes)) new
    holds_after settled only others =
        let some_mid = some_after (means.seen old) tail.file (tail.gate + 1) bytes (means.seen mid) is some_bytes holds.some_a holds.some_b in
        let some = some_after (means.seen mid) tail.file tail.gate (1 ∷ []) (means.seen new) last (omega arith) some_mid.0 some_mid.1 in
        record {
          settled = settled_after (means.seen mid) tail.file _ (means.may_leave mid) (means.may_leave new) (means.seen new) last settled only others;
          some_a = some.0;
          some_b = some.1;
          keeps = keeps_after payload bytes (means.seen old) tail holds.keeps framed (means.seen new) reads_after;
          closed = holds.closed ∙ sym (closed_after (means.seen mid) tail.file _ (means.seen new) last ∙ closed_after (means.seen old) tail.file _ (means.seen mid) is);
        }

-- ---- by the tail that a caller sees, and the slice of what is framed

pub fits_behind : (tail self : Kept) (framed : Framing) (slice : List ℕ) → tail ≡ self → slice ≡ framed.bytes → IsFramedBehind self framed → Fits self (length framed.payload) → tail.gate + length slice < 2 ^ 64
fits_behind tail self framed slice same bytes is fits =
    let size = ap length (bytes ∙ is.bytes) ∙ length-written self.head self.gate framed.payload in
    omega (arith, fits, size, ap (λ (t : Kept). t.gate) same)

pub framed_at : (tail self : Kept) (framed : Framing) (slice : List ℕ) → tail ≡ self → slice ≡ framed.bytes → IsFramedBehind self framed → IsFramedBehind tail (record { payload = framed.payload; bytes = slice })
framed_at tail self framed slice same bytes is = subst (λ (l : List ℕ). IsFramedBehind tail (record { payload = framed.payload; bytes = l })) (sym bytes) (subst (λ (t : Kept). IsFramedBehind t framed) (sym same) is)
