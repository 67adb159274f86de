-- A write of a front of some bytes, done or not, is a write of all of them that was cut short.
use Rattle.std.proofs.Common.{◌≡◌, ◌∙◌, ℕ, ◌+◌, ◌-◌, ◌≤◌, List, ◌++◌, length, take, drop}
use Rattle.std.proofs.Common.{refl, sym, ap, subst, arith, length-append, length-drop}
use Rattle.std.specs.Prelude.{Result, Ok, Err, OnErr}
use Rattle.std.proofs.lemmas.List.{drop-drop, length-take, take-append-le, take-take}
use Rattle.std.proofs.Math.Seq.{drop-append_seam}
use Rattle.ox_outside.specs.Crash.{Remains, Tears, Follows}
use Rattle.ox_outside.specs.Files.{Files, file_of, with_file, with_bytes, other, Torn, TornFile}
use Rattle.ox_outside.specs.declared.site.Which.{Which}
use Rattle.ox_outside.specs.declared.site.Which.TheVariants.{A, B}

-- what holds whatever the answer holds of a failure
pub on_err : {T E : Type 0} {P : Type 0} (answer : Result T E) → P → OnErr answer P
on_err (Ok x) p = tt
on_err (Err e) p = p

-- ---- one file

-- what is torn in n places is torn in more
torn_wider : (at n more : ℕ) (old new : List ℕ) → n ≤ more → Torn at n old new
    → Torn at more old new
torn_wider at n more old new le torn =
    let places : at + more ≡ at + n + (more - n) = omega (arith, le) in
    let past : (file : List ℕ)
    → drop (at + more) file ≡ drop (more - n) (drop (at + n) file) =
    λ file. ap (λ (k : ℕ). drop k file) places ∙ sym (drop-drop (more - n) (at + n) file) in
    record {
      before = torn.before;
      after = past new ∙ ap (λ (l : List ℕ). drop (more - n) l) torn.after ∙ sym (past old);
      no_shorter = torn.no_shorter;
      no_longer = omega (arith, torn.no_longer, le);
    }

-- what was written may be what a write that was cut short left
written_torn : (at : ℕ) (bytes old : List ℕ) → at ≤ length old
    → Torn at (length bytes) old (with_bytes at bytes old)
written_torn at bytes old within =
    let rest = drop (at + length bytes) old in
    let front = take at old ++ bytes in
    let front_size : length (take at old ++ bytes) ≡ at + length bytes =
    omega (arith, length-append (take at old) bytes, length-take at old, within) in
    let long = length-append front rest in
    let left = length-drop (at + length bytes) old in
    record {
      before = take-append-le at front rest (omega (arith, front_size))
          ∙ take-append-le at (take at old) bytes (omega (arith, length-take at old, within))
          ∙ take-take at at old (omega arith);
      after = ap (λ (k : ℕ). drop k (front ++ rest)) (sym front_size) ∙ drop-append_seam front rest;
      no_shorter = omega (arith, long, front_size, left);
      no_longer = omega (arith, long, front_size, left);
    }

-- ---- both files

file_there : (file : Which) (files : Files) (bytes : List ℕ)
    → file_of (with_file files file bytes) file ≡ bytes
file_there A files bytes = refl
file_there B files bytes = refl

other_there : (file : Which) (files : Files) (bytes : List ℕ)
    → file_of (with_file files file bytes) (other file) ≡ file_of files (other file)
other_there A files bytes = refl
other_there B files bytes = refl

pub torn_file_wider : (file : Which) (at n more : ℕ) (old new : Files) → n ≤ more
    → TornFile file at n old new → TornFile file at more old new
torn_file_wider file at n more old new le torn = record {
  torn = torn_wider at n more (file_of old file) (file_of new file) le torn.torn;
  others = torn.others;
}

pub written_torn_file : (file : Which) (at more : ℕ) (bytes : List ℕ) (old new : Files)
    → at ≤ length (file_of old file) → length bytes ≤ more
    → new ≡ with_file old file (with_bytes at bytes (file_of old file))
    → TornFile file at more old new
written_torn_file file at more bytes old new within le written =
    let made = with_bytes at bytes (file_of old file) in
    let there : file_of new file ≡ with_bytes at bytes (file_of old file) =
    ap (λ (files : Files). file_of files file) written ∙ file_there file old made in
    record {
      torn = torn_wider at (length bytes) more (file_of old file) (file_of new file) le
          (subst (λ (l : List ℕ). Torn at (length bytes) (file_of old file) l) (sym there)
          (written_torn at bytes (file_of old file) within));
      others = ap (λ (files : Files). file_of files (other file)) written
          ∙ other_there file old made;
    }

-- ---- what a crash leaves

pub tears_wider : (file : Which) (at n more : ℕ) (old new : Remains → Type 0) → n ≤ more
    → Follows (Tears file at n) old new → Follows (Tears file at more) old new
tears_wider file at n more old new le follows r left =
    let q = follows r left in (
      q.0,
      q.1,
      record {
        files = torn_file_wider file at n more q.0.files r.files le q.2.files;
        log = q.2.log;
      },
    )
