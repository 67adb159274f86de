-- What the exact clauses of a write and of a sync say of the files of a site.
use Rattle.std.proofs.Common.{◌≡◌, ◌∙◌, ◌≤◌, ⊎_elim, ℕ, true, List, [], ◌∷◌, ◌++◌, length, Option, Some, refl, sym, ap, subst, arith}
use Rattle.std.specs.Prelude.{Result, Ok, Err, OnOk, OnErr}
use Rattle.std.proofs.lemmas.List.{append-nil}
use Rattle.ox_outside.specs.Crash.{Remains, OneCall, AddsNothing, Only, Tears, Follows}
use Rattle.ox_outside.specs.Disk.{Disk, IsImage, synced_disk}
use Rattle.ox_outside.specs.Event.{Event}
use Rattle.ox_outside.specs.Files.{Files, file_of, with_file, with_bytes, Torn, TornFile}
use Rattle.ox_outside.specs.declared.site.Failed.{Failed}
use Rattle.ox_outside.specs.declared.site.Which.{Which}
use Rattle.ox_outside.specs.declared.site.Which.TheVariants.{A, B}
use Rattle.ox_outside.proofs.Disk.{synced_image, torn_from, same_outside, written_same_outside, seen_is_image}
use Rattle.ox_memsite.specs.Laws.{disk_is}
use Rattle.ox_memsite.specs.World.{World, disk_step, disk_of, events_of, seen_of, log_of, MayLeave, LeftSince, counts_of, after_call, after_step, after_disk_fault, Ends}
use Rattle.ox_memsite.specs.declared.step.Step.{Step}
use Rattle.ox_memsite.specs.declared.step.Step.TheVariants as steps
use Rattle.ox_memsite.proofs.Kept.{disk_after-append, events_of-push, seen_torn, seen_synced}
use Rattle.ox_memsite.proofs.Moves.{one_call, failed_disk, starved_disk, did_one, failed_did}

-- the other file and the log, after a step on one file
disk_push : (first : Files) (done : List Step) (step : Step) (which : Which) → disk_of first (done ++ step ∷ []) which ≡ disk_step which (disk_of first done which) step
disk_push first done step which = disk_after-append which (synced_disk (file_of first which)) done (step ∷ [])

-- an image of one file
abbrev pub Image : World → Which → List ℕ → Type 0
Image w which image = IsImage (disk_of w.first w.steps which) image

-- what remains, by file
pub left_at : (w : World) (r : Remains) (which : Which) → MayLeave w r → Image w which (file_of r.files which)
left_at w r A left = left.a
left_at w r B left = left.b

seen_at : (w : World) (which : Which) → file_of (seen_of w) which ≡ (disk_of w.first w.steps which).seen
seen_at w A = refl
seen_at w B = refl

pub torn_same : (at n : ℕ) (file : List ℕ) → Torn at n file file
torn_same at n file = record { before = refl; after = refl; no_shorter = omega arith; no_longer = omega arith }

pub tears_same : (file : Which) (at n : ℕ) (r : Remains) → Tears file at n r r
tears_same file at n r = record { files = record { torn = torn_same at n _; others = refl }; log = refl }

-- ---- a sync

-- A sync of one file makes its disk solid and leaves the other.
sync_left : (w : World) (file : Which) (r : Remains) → MayLeave (after_step (steps.Synced file) (after_call w)) r → MayLeave w r × (file_of r.files file ≡ file_of (seen_of w) file)
sync_left w A r left =
    let disk = disk_of w.first w.steps A in
    let is : r.files.a ≡ disk.seen = synced_image disk.seen r.files.a (subst (λ (d : Disk). IsImage d r.files.a) (disk_push w.first w.steps (steps.Synced A) A) left.a) in (
      record {
        a = subst (λ (l : List ℕ). IsImage disk l) (sym is) (seen_is_image disk (disk_is w A));
        b = subst (λ (d : Disk). IsImage d r.files.b) (disk_push w.first w.steps (steps.Synced A) B) left.b;
        log = left.log ∙ ap (λ (l : List Event). w.past ++ l) (events_of-push w.steps (steps.Synced A) ∙ append-nil (events_of w.steps));
      },
      is,
    )
sync_left w B r left =
    let disk = disk_of w.first w.steps B in
    let is : r.files.b ≡ disk.seen = synced_image disk.seen r.files.b (subst (λ (d : Disk). IsImage d r.files.b) (disk_push w.first w.steps (steps.Synced B) B) left.b) in (
      record {
        a = subst (λ (d : Disk). IsImage d r.files.a) (disk_push w.first w.steps (steps.Synced B) A) left.a;
        b = subst (λ (l : List ℕ). IsImage disk l) (sym is) (seen_is_image disk (disk_is w B));
        log = left.log ∙ ap (λ (l : List Event). w.past ++ l) (events_of-push w.steps (steps.Synced B) ∙ append-nil (events_of w.steps));
      },
      is,
    )

sync_seen : (w : World) (file : Which) → seen_of (after_step (steps.Synced file) (after_call w)) ≡ seen_of w
sync_seen w file =
    let a = ap (λ (d : Disk). d.seen) (disk_push w.first w.steps (steps.Synced file) A) ∙ seen_synced A file (disk_of w.first w.steps A) in
    let b = ap (λ (d : Disk). d.seen) (disk_push w.first w.steps (steps.Synced file) B) ∙ seen_synced B file (disk_of w.first w.steps B) in
    λ i. record { a = a i; b = b i }

abbrev logged : World → Option (List Event)
logged w = Some (log_of w)

sync_adds_nothing : (w : World) (file : Which) → AddsNothing seen_of (λ w. Some (log_of w)) MayLeave w (after_step (steps.Synced file) (after_call w))
sync_adds_nothing w file = record {
  files = sync_seen w file;
  as_logged = ap (λ (l : List Event). Some (w.past ++ l)) (events_of-push w.steps (steps.Synced file) ∙ append-nil (events_of w.steps));
  crash = λ r left. (sync_left w file r left).0;
}

abbrev pub Syncs : {T : Type 0} → Which → Result T Failed → World → World → Type 0
Syncs file result old new = Ends (λ _ before after. after ≡ after_step (steps.Synced file) before) after_disk_fault after_disk_fault result old new

pub sync_durable : {T : Type 0} (file : Which) (result : Result T Failed) (old new : World) → Syncs file result old new → OnOk result (Only file (file_of (seen_of old) file) (MayLeave new))
sync_durable file (Ok x) old new ends = λ r left. (sync_left old file r (subst (λ (w : World). MayLeave w r) (ends.1) left)).1
sync_durable file (Err e) old new ends = tt

pub sync_files : {T : Type 0} (file : Which) (result : Result T Failed) (old new : World) → Syncs file result old new → AddsNothing seen_of (λ w. Some (log_of w)) MayLeave old new
sync_files file (Ok x) old new ends = subst (λ (w : World). AddsNothing seen_of (λ w. Some (log_of w)) MayLeave old w) (sym ends.1) (sync_adds_nothing old file)
sync_files file (Err e) old new ends = ⊎_elim
    (λ listed. subst (λ (w : World). AddsNothing seen_of (λ w. Some (log_of w)) MayLeave old w) (sym listed.1) (record { files = refl; as_logged = refl; crash = λ r left. record { a = left.a; b = left.b; log = left.log } }))
    (λ starved. subst (λ (w : World). AddsNothing seen_of (λ w. Some (log_of w)) MayLeave old w) (sym starved) (record { files = refl; as_logged = refl; crash = λ r left. record { a = left.a; b = left.b; log = left.log } }))
    ends

abbrev pub IsCall : World → World → Type 0
IsCall old new = OneCall (λ w. true) counts_of (λ w. length w.steps) MayLeave LeftSince old new

pub sync_call : {T : Type 0} (file : Which) (result : Result T Failed) (old new : World) → Syncs file result old new → IsCall old new
sync_call file (Ok x) old new ends = subst (λ (w : World). IsCall old w) (sym ends.1) (one_call old _ _ (did_one old (steps.Synced file)) (omega arith))
sync_call file (Err e) old new ends = ⊎_elim
    (λ listed. subst (λ (w : World). IsCall old w) (sym listed.1) (one_call old _ _ (failed_disk old) (omega arith)))
    (λ starved. subst (λ (w : World). IsCall old w) (sym starved) (one_call old _ _ (starved_disk old) (omega arith)))
    ends

-- ---- a write

abbrev pub Writes : {T : Type 0} → Which → ℕ → List ℕ → Result T Failed → World → World → Type 0
Writes file at bytes result old new = Ends (λ _ before after. after ≡ after_step (steps.Wrote file at bytes) before) (λ w. after_disk_fault (after_step (steps.Tore file at (length bytes)) w)) after_disk_fault result old new

wrote_seen : (w : World) (file : Which) (at : ℕ) (bytes : List ℕ) → seen_of (after_step (steps.Wrote file at bytes) (after_call w)) ≡ with_file (seen_of w) file (with_bytes at bytes (file_of (seen_of w) file))
wrote_seen w A at bytes =
    let a = ap (λ (d : Disk). d.seen) (disk_push w.first w.steps (steps.Wrote A at bytes) A) in
    let b = ap (λ (d : Disk). d.seen) (disk_push w.first w.steps (steps.Wrote A at bytes) B) in
    λ i. record { a = a i; b = b i }
wrote_seen w B at bytes =
    let a = ap (λ (d : Disk). d.seen) (disk_push w.first w.steps (steps.Wrote B at bytes) A) in
    let b = ap (λ (d : Disk). d.seen) (disk_push w.first w.steps (steps.Wrote B at bytes) B) in
    λ i. record { a = a i; b = b i }

tore_seen : (w : World) (file : Which) (at n : ℕ) → seen_of (after_disk_fault (after_step (steps.Tore file at n) (after_call w))) ≡ seen_of w
tore_seen w file at n =
    let a = ap (λ (d : Disk). d.seen) (disk_push w.first w.steps (steps.Tore file at n) A) ∙ seen_torn A file (disk_of w.first w.steps A) at n in
    let b = ap (λ (d : Disk). d.seen) (disk_push w.first w.steps (steps.Tore file at n) B) ∙ seen_torn B file (disk_of w.first w.steps B) at n in
    λ i. record { a = a i; b = b i }

quiet_log : (w : World) (step : Step) → events_of (w.steps ++ step ∷ []) ≡ events_of w.steps → w.past ++ events_of (w.steps ++ step ∷ []) ≡ log_of w
quiet_log w step is = ap (λ (l : List Event). w.past ++ l) is

-- what remains after a step that writes or tears one file
wrote_left : (w : World) (file : Which) (at : ℕ) (bytes : List ℕ) (r : Remains) → at ≤ length (file_of (seen_of w) file) → MayLeave (after_step (steps.Wrote file at bytes) (after_call w)) r
    → (q : Remains) × MayLeave w q × Tears file at (length bytes) q r
wrote_left w A at bytes r begins left =
    let disk = disk_of w.first w.steps A in
    let from = torn_from at (length bytes) disk (with_bytes at bytes disk.seen) (disk_is w A) begins (written_same_outside at bytes disk.seen) r.files.a (subst (λ (d : Disk). IsImage d r.files.a) (disk_push w.first w.steps (steps.Wrote A at bytes) A) left.a) in (
      record { files = record { a = from.0; b = r.files.b }; log = r.log },
      record {
        a = from.1;
        b = subst (λ (d : Disk). IsImage d r.files.b) (disk_push w.first w.steps (steps.Wrote A at bytes) B) left.b;
        log = left.log ∙ ap (λ (l : List Event). w.past ++ l) (events_of-push w.steps (steps.Wrote A at bytes) ∙ append-nil (events_of w.steps));
      },
      record { files = record { torn = from.2; others = refl }; log = refl },
    )
wrote_left w B at bytes r begins left =
    let disk = disk_of w.first w.steps B in
    let from = torn_from at (length bytes) disk (with_bytes at bytes disk.seen) (disk_is w B) begins (written_same_outside at bytes disk.seen) r.files.b (subst (λ (d : Disk). IsImage d r.files.b) (disk_push w.first w.steps (steps.Wrote B at bytes) B) left.b) in (
      record { files = record { a = r.files.a; b = from.0 }; log = r.log },
      record {
        a = subst (λ (d : Disk). IsImage d r.files.a) (disk_push w.first w.steps (steps.Wrote B at bytes) A) left.a;
        b = from.1;
        log = left.log ∙ ap (λ (l : List Event). w.past ++ l) (events_of-push w.steps (steps.Wrote B at bytes) ∙ append-nil (events_of w.steps));
      },
      record { files = record { torn = from.2; others = refl }; log = refl },
    )

tore_left : (w : World) (file : Which) (at n : ℕ) (r : Remains) → at ≤ length (file_of (seen_of w) file) → MayLeave (after_disk_fault (after_step (steps.Tore file at n) (after_call w))) r
    → (q : Remains) × MayLeave w q × Tears file at n q r
tore_left w A at n r begins left =
    let disk = disk_of w.first w.steps A in
    let from = torn_from at n disk disk.seen (disk_is w A) begins (same_outside at n disk.seen) r.files.a (subst (λ (d : Disk). IsImage d r.files.a) (disk_push w.first w.steps (steps.Tore A at n) A) left.a) in (
      record { files = record { a = from.0; b = r.files.b }; log = r.log },
      record {
        a = from.1;
        b = subst (λ (d : Disk). IsImage d r.files.b) (disk_push w.first w.steps (steps.Tore A at n) B) left.b;
        log = left.log ∙ ap (λ (l : List Event). w.past ++ l) (events_of-push w.steps (steps.Tore A at n) ∙ append-nil (events_of w.steps));
      },
      record { files = record { torn = from.2; others = refl }; log = refl },
    )
tore_left w B at n r begins left =
    let disk = disk_of w.first w.steps B in
    let from = torn_from at n disk disk.seen (disk_is w B) begins (same_outside at n disk.seen) r.files.b (subst (λ (d : Disk). IsImage d r.files.b) (disk_push w.first w.steps (steps.Tore B at n) B) left.b) in (
      record { files = record { a = r.files.a; b = from.0 }; log = r.log },
      record {
        a = subst (λ (d : Disk). IsImage d r.files.a) (disk_push w.first w.steps (steps.Tore B at n) A) left.a;
        b = from.1;
        log = left.log ∙ ap (λ (l : List Event). w.past ++ l) (events_of-push w.steps (steps.Tore B at n) ∙ append-nil (events_of w.steps));
      },
      record { files = record { torn = from.2; others = refl }; log = refl },
    )

module _ {T : Type 0} (file : Which) (at : ℕ) (bytes : List ℕ) where
  pub write_written : (result : Result T Failed) (old new : World) → Writes file at bytes result old new → OnOk result (seen_of new ≡ with_file (seen_of old) file (with_bytes at bytes (file_of (seen_of old) file)))
  write_written (Ok x) old new ends = ap seen_of (ends.1) ∙ wrote_seen old file at bytes
  write_written (Err e) old new ends = tt

  seen_failed : (result : Result T Failed) (old new : World) → Writes file at bytes result old new → OnErr result (seen_of new ≡ seen_of old)
  seen_failed (Ok x) old new ends = tt
  seen_failed (Err e) old new ends = ⊎_elim (λ listed. ap seen_of listed.1 ∙ tore_seen old file at (length bytes)) (λ starved. ap seen_of starved) ends

  pub write_cut_short : (result : Result T Failed) (old new : World) → Writes file at bytes result old new → OnErr result (TornFile file at (length bytes) (seen_of old) (seen_of new))
  write_cut_short (Ok x) old new ends = tt
  write_cut_short (Err e) old new ends =
      subst (λ (f : Files). TornFile file at (length bytes) (seen_of old) f) (sym (seen_failed (Err e) old new ends)) (record { torn = torn_same at (length bytes) _; others = refl })

  pub write_log : (result : Result T Failed) (old new : World) → Writes file at bytes result old new → log_of new ≡ log_of old
  write_log (Ok x) old new ends = ap log_of (ends.1) ∙ ap (λ (l : List Event). old.past ++ l) (events_of-push old.steps (steps.Wrote file at bytes) ∙ append-nil (events_of old.steps))
  write_log (Err e) old new ends = ⊎_elim
      (λ listed. ap log_of listed.1 ∙ ap (λ (l : List Event). old.past ++ l) (events_of-push old.steps (steps.Tore file at (length bytes)) ∙ append-nil (events_of old.steps)))
      (λ starved. ap log_of starved)
      ends

  pub write_crash : (result : Result T Failed) (old new : World) → at ≤ length (file_of (seen_of old) file) → Writes file at bytes result old new → Follows (Tears file at (length bytes)) (MayLeave old) (MayLeave new)
  write_crash (Ok x) old new begins ends r left = wrote_left old file at bytes r begins (subst (λ (w : World). MayLeave w r) (ends.1) left)
  write_crash (Err e) old new begins ends r left = ⊎_elim
      (λ listed. tore_left old file at (length bytes) r begins (subst (λ (w : World). MayLeave w r) listed.1 left))
      (λ starved. (r, (let l : MayLeave old r = subst (λ (w : World). MayLeave w r) starved left in l), tears_same file at (length bytes) r))
      ends

  pub write_call : (result : Result T Failed) (old new : World) → Writes file at bytes result old new → IsCall old new
  write_call (Ok x) old new ends = subst (λ (w : World). IsCall old w) (sym ends.1) (one_call old _ _ (did_one old (steps.Wrote file at bytes)) (omega arith))
  write_call (Err e) old new ends = ⊎_elim
      (λ listed. subst (λ (w : World). IsCall old w) (sym listed.1) (one_call old _ _ (failed_did old (steps.Tore file at (length bytes))) (omega arith)))
      (λ starved. subst (λ (w : World). IsCall old w) (sym starved) (one_call old _ _ (starved_disk old) (omega arith)))
      ends
