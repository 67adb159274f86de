-- Writes behind the closed gate beside a tail's file, and the sync that ends them.
use Rattle.std.proofs.Common.{◌≡◌, ◌∙◌, ◌≤◌, ◌+◌, ℕ, zero, suc, true, false, List, [], ◌∷◌, ◌++◌, length, take, drop, refl, sym, ap, subst, arith, length-append, append_assoc, take-append-drop}
use Rattle.std.proofs.lemmas.List.{take_at, length-take, append-nil}
use Rattle.std.specs.Prelude.{IsTrue, Result, Ok, Err, OnOk, OnErr, Some}
use Rattle.ox_outside.proofs.Calls.{leaves_at_first, leaves_on}
use Rattle.ox_outside.specs.Crash.{AddsNothing, Follows, OneCall, Only, Remains, Tears}
use Rattle.ox_outside.specs.Files.{Files, file_of, with_file, with_bytes, other, Torn, TornFile}
use Rattle.ox_outside.specs.Runs.{LeavesOnly}
use Rattle.ox_outside.specs.declared.site.Failed.{Failed}
use Rattle.ox_outside.specs.declared.site.Site.{Ghosts as Meanings}
use Rattle.ox_outside.specs.declared.site.Which.{Which}
use Rattle.ox_outside.specs.declared.site.Which.TheVariants.{A, B}
use Rattle.ox_gated.specs.Filling.{IsShutAs, PoursOn, StandsAt, StaysShut}
use Rattle.ox_gated.specs.Layout.{is_closed}
use Rattle.ox_gated.specs.OtherFile.{BeginsShut, IsSpared}
use Rattle.ox_gated.specs.Pick.{Beside}
use Rattle.ox_gated.specs.Reading.{ReadsAlike, is_any, reading}
use Rattle.ox_gated.specs.Tail.{Kept, Keeps, Holds, IsSettled}
use Rattle.ox_gated.proofs.OneFile.{file_of-with_file, file_of-with_other, files_are}
use Rattle.ox_gated.proofs.OneWrite.{writes_one}
use Rattle.ox_gated.proofs.OtherGate.{Chosen, chosen, beside_alike, shut_gate}
use Rattle.ox_gated.proofs.Turning.{at_other, both_some, shut_now}

-- ---- the bytes of the file

-- a write behind the first byte, torn or not, leaves the gate shut
pub torn_shut : (at n : ℕ) (old new : List ℕ) → 1 ≤ at → BeginsShut old → Torn at n old new → BeginsShut new
torn_shut zero n old new some shut torn = absurd (omega (arith, some))
torn_shut (suc at) n old [] some shut torn =
    let no : length (0 ∷ shut.0) ≤ 0 = subst (λ (l : List ℕ). length l ≤ 0) shut.1 torn.no_shorter in
    absurd (omega (arith, no))
torn_shut (suc at) n old (byte ∷ new) some shut torn =
    let same : byte ∷ take at new ≡ 0 ∷ take at shut.0 = torn.before ∙ ap (take (suc at)) shut.1 in
    (new, ap (λ (b : ℕ). b ∷ new) (head_is same))
  where
    head_or : List ℕ → ℕ
    head_or [] = 0
    head_or (x ∷ xs) = x

    head_is : {x y : ℕ} {xs ys : List ℕ} → x ∷ xs ≡ y ∷ ys → x ≡ y
    head_is same = ap head_or same

pub written_shut : (at : ℕ) (bytes old : List ℕ) → 1 ≤ at → BeginsShut old → BeginsShut (with_bytes at bytes old)
written_shut zero bytes old some shut = absurd (omega (arith, some))
written_shut (suc at) bytes old some shut =
    (take at shut.0 ++ bytes ++ drop (suc at + length bytes) old, ap (λ (l : List ℕ). take (suc at) l ++ bytes ++ drop (suc at + length bytes) old) shut.1)

-- ---- which of the files is which

spared_back : (file : Which) (old new : Files) → IsSpared (other (other file)) old new → IsSpared file old new
spared_back file old new same = sym (at_other new file) ∙ same ∙ at_other old file

spared_there : (file : Which) (old new : Files) → IsSpared file old new → IsSpared (other (other file)) old new
spared_there file old new same = at_other new file ∙ same ∙ sym (at_other old file)

-- ---- images with a closed gate beside the tail's file

module _ (files : Files) (tail : Kept) (keeps : Keeps tail (reading is_any files)) where
  abbrev here : Chosen files tail
  here = chosen files tail keeps

  pub shut_alike : (image : Files) → BeginsShut (file_of image (other tail.file)) → IsSpared tail.file files image → ReadsAlike files image
  shut_alike image shut same =
      beside_alike files image tail.file here.opening here.why same (subst (Beside here.opening) (sym shut.1) (shut_gate here.opening shut.0))

  opened_some : (bytes : List ℕ) → is_closed bytes ≡ false → 1 ≤ length bytes
  opened_some [] opened = absurd (cc opened)
  opened_some (gate ∷ rest) opened = omega arith

  some_current : 1 ≤ length (file_of files tail.file)
  some_current = opened_some (file_of files tail.file) here.why.opened

pub some_shut : (bytes : List ℕ) → BeginsShut bytes → 1 ≤ length bytes
some_shut bytes shut = subst (λ (l : List ℕ). 1 ≤ length l) (sym shut.1) (omega arith)

-- what a read gives after a write, whether it worked or not
reads_after : (file : Which) (at : ℕ) (bytes : List ℕ) (old new : Files) (result : Result (Unit {0}) Failed) → OnOk result (new ≡ with_file old file (with_bytes at bytes (file_of old file))) → OnErr result (TornFile file at (length bytes) old new) → 1 ≤ at → BeginsShut (file_of old file)
    → IsSpared (other file) old new × BeginsShut (file_of new file)
reads_after file at bytes old new (Ok done) is torn some shut = (
  ap (λ (f : Files). file_of f (other file)) is ∙ file_of-with_other old file (with_bytes at bytes (file_of old file)),
  subst BeginsShut (sym (ap (λ (f : Files). file_of f file) is ∙ file_of-with_file old file (with_bytes at bytes (file_of old file)))) (written_shut at bytes (file_of old file) some shut),
)
reads_after file at bytes old new (Err fault) is torn some shut = (torn.others, torn_shut at (length bytes) (file_of old file) (file_of new file) some shut torn.torn)

-- ---- calls

module _ {S : Type 0} (means : Meanings S) (only_now : (site : S) (r : Remains) → means.left_since site (means.clock site) r → means.may_leave site r) (logs_now : (site : S) (r : Remains) → means.may_leave site r → means.log site ≡ Some r.log) (tail : Kept) (old new : S) (shut : IsTrue (means.told old) → StaysShut means tail old)
    (same_log : means.log new ≡ means.log old) (call : OneCall means.told means.counts means.clock means.may_leave means.left_since old new) where
  at_first : IsTrue (means.told old) → LeavesOnly means old old (λ r. ReadsAlike (means.seen old) r.files)
  at_first told = leaves_at_first means old _ (λ r left. ((shut told).each r (only_now old r left)).alike)

  -- of a call after which the files read so, and a crash leaves such images
  module _ (reads : IsTrue (means.told old) → IsSpared tail.file (means.seen old) (means.seen new) × BeginsShut (file_of (means.seen new) (other tail.file)))
      (images : IsTrue (means.told old) → (r : Remains) → means.may_leave new r → IsSpared tail.file (means.seen old) r.files × BeginsShut (file_of r.files (other tail.file))) where
    alike_now : IsTrue (means.told old) → ReadsAlike (means.seen old) (means.seen new)
    alike_now told = shut_alike (means.seen old) tail (shut told).keeps (means.seen new) (reads told).1 (reads told).0

    alike_left : IsTrue (means.told old) → (r : Remains) → means.may_leave new r → ReadsAlike (means.seen old) r.files
    alike_left told r left = let is = images told r left in shut_alike (means.seen old) tail (shut told).keeps r.files is.1 is.0

    left_shut : IsTrue (means.told old) → (r : Remains) → means.may_leave new r → IsShutAs (other tail.file) (means.seen new) r.files
    left_shut told r left =
        let is = images told r left in
        record {
          shut = is.1;
          spared = spared_there tail.file (means.seen new) r.files (is.0 ∙ sym (reads told).0);
          alike = λ any. alike_left told r left any ∙ sym (alike_now told any);
        }

    pub pours_call : PoursOn means tail old new
    pours_call = record {
      writes = writes_one means only_now logs_now old new same_log call;
      stays = λ told. record {
        keeps = subst (Keeps tail) (sym (alike_now told is_any)) (shut told).keeps;
        closed = (shut told).closed;
        now = (reads told).1;
        each = left_shut told;
      };
      spared = λ told. (reads told).0;
      alike = alike_now;
      moments = λ told. leaves_on means old old new _ (at_first told) call (alike_left told);
    }

  -- one write behind the gate
  module _ (file : Which) (is : file ≡ other tail.file) (at : ℕ) (some : 1 ≤ at) (bytes : List ℕ) (result : Result (Unit {0}) Failed)
      (written : IsTrue (means.told old) → OnOk result (means.seen new ≡ with_file (means.seen old) file (with_bytes at bytes (file_of (means.seen old) file))))
      (cut_short : IsTrue (means.told old) → OnErr result (TornFile file at (length bytes) (means.seen old) (means.seen new)))
      (crash : Follows (Tears file at (length bytes)) (means.may_leave old) (means.may_leave new)) where
    abbrev beside : Which
    beside = other tail.file

    tears : Follows (Tears beside at (length bytes)) (means.may_leave old) (means.may_leave new)
    tears = subst (λ (f : Which). Follows (Tears f at (length bytes)) (means.may_leave old) (means.may_leave new)) is crash

    pub pours_write : PoursOn means tail old new
    pours_write = pours_call
        (λ told.
        let ok = subst (λ (f : Which). OnOk result (means.seen new ≡ with_file (means.seen old) f (with_bytes at bytes (file_of (means.seen old) f)))) is (written told) in
        let err = subst (λ (f : Which). OnErr result (TornFile f at (length bytes) (means.seen old) (means.seen new))) is (cut_short told) in
        let after = reads_after beside at bytes (means.seen old) (means.seen new) result ok err some (shut told).now in
        (spared_back tail.file (means.seen old) (means.seen new) after.0, after.1))
        (λ told r left.
        let q = tears r left in
        let was = (shut told).each q.0 q.1 in
        (spared_back tail.file (means.seen old) r.files (q.2.files.others ∙ was.spared), torn_shut at (length bytes) (file_of q.0.files beside) (file_of r.files beside) some was.shut q.2.files.torn))

  -- a sync
  module _ (nothing : AddsNothing means.seen means.log means.may_leave old new) where
    pub pours_sync : PoursOn means tail old new
    pours_sync = pours_call
        (λ told. (ap (λ (f : Files). file_of f tail.file) nothing.files, subst (λ (f : Files). BeginsShut (file_of f (other tail.file))) (sym nothing.files) (shut told).now))
        (λ told r left.
        let was = (shut told).each r (nothing.crash r left) in
        (spared_back tail.file (means.seen old) r.files was.spared, was.shut))

    -- of the file beside the tail's
    pub settled_beside : {T E : Type 0} (file : Which) → file ≡ other tail.file → (result : Result T E) → OnOk result (Only file (file_of (means.seen old) file) (means.may_leave new)) → IsTrue (means.told old) → OnOk result (IsSettled means new)
    settled_beside file is (Err fault) durable told = tt
    settled_beside file is (Ok done) durable told =
        λ r left.
        let only = subst (λ (f : Which). Only f (file_of (means.seen old) f) (means.may_leave new)) is durable in
        let was = (shut told).each r (nothing.crash r left) in
        files_are (means.seen old) r.files (other tail.file) was.spared
        ∙ ap (with_file (means.seen old) (other tail.file)) (only r left)
        ∙ with_own (means.seen old) (other tail.file)
        ∙ sym nothing.files
      where
        with_own : (files : Files) (file : Which) → with_file files file (file_of files file) ≡ files
        with_own files A = refl
        with_own files B = refl

-- ---- before it and behind it

module _ {S : Type 0} (means : Meanings S) (tail : Kept) (site : S) where
  -- a tail that holds, beside which the other file is closed
  pub shut_beside : Holds means tail site → tail.other_closed ≡ true → StaysShut means tail site
  shut_beside holds closed = record {
    keeps = holds.keeps;
    closed = closed;
    now = shut_now means tail site holds closed;
    each = λ r left.
        let same = holds.settled r left in
        record {
          shut = subst (λ (f : Files). BeginsShut (file_of f (other tail.file))) (sym same) (shut_now means tail site holds closed);
          spared = ap (λ (f : Files). file_of f (other (other tail.file))) same;
          alike = λ reads. ap (reading reads) same;
        };
  }

  -- and once all is settled it holds again
  pub holds_again : StaysShut means tail site → IsSettled means site → Holds means tail site
  holds_again shut settled =
      let some = both_some (means.seen site) tail.file (some_current (means.seen site) tail shut.keeps) (some_shut (file_of (means.seen site) (other tail.file)) shut.now) in
      record {
        settled = settled;
        some_a = some.0;
        some_b = some.1;
        keeps = shut.keeps;
        closed = shut.closed ∙ sym (ap is_closed shut.now.1);
      }

-- ---- what stands in the file

-- a piece behind the bytes that stand there
pub stands_on : (place : ℕ) (bytes piece old new : List ℕ) → StandsAt place bytes old → new ≡ with_bytes (place + length bytes) piece old → StandsAt place (bytes ++ piece) new
stands_on place bytes piece old new stands is =
    let front = stands.front ++ bytes in
    let long : length front ≡ place + length bytes = omega (arith, stands.here, length-append stands.front bytes) in
    let before : take (place + length bytes) old ≡ front = ap (take (place + length bytes)) stands.file_is ∙ take_at front stands.older (place + length bytes) long in
    let behind = drop (place + length bytes + length piece) old in
    record {
      front = stands.front;
      older = behind;
      here = stands.here;
      file_is = is ∙ ap (λ (l : List ℕ). l ++ piece ++ behind) before ∙ ap (λ (l : List ℕ). l ++ behind) (append_assoc stands.front bytes piece);
    }

pub stands_none : (place : ℕ) (file : List ℕ) → place ≤ length file → StandsAt place [] file
stands_none place file within = record {
  front = take place file;
  older = drop place file;
  here = omega (arith, length-take place file, within);
  file_is = sym (take-append-drop place file) ∙ ap (λ (l : List ℕ). l ++ drop place file) (sym (append-nil (take place file)));
}

-- the next piece begins no later than the file ends
pub stands_within : (place : ℕ) (bytes file : List ℕ) → StandsAt place bytes file → place + length bytes ≤ length file
stands_within place bytes file stands =
    omega (arith, stands.here, length-append (stands.front ++ bytes) stands.older, length-append stands.front bytes, ap length stands.file_is)
