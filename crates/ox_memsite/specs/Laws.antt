-- The laws of a site, for a site in memory.
use Rattle.std.proofs.Common.{◌≡◌, ℕ, ◌≤◌, Bool, true, false, List, [], ◌∷◌, length, Some}
use Rattle.std.proofs.Common.{if◌then◌else◌, refl, sym, ap, subst}
use Rattle.std.proofs.Math.Nat.{le_refl, le_trans}
use Rattle.std.proofs.lemmas.List.{take_all}
use Rattle.ox_outside.specs.Crash.{Remains}
use Rattle.ox_outside.specs.Disk.{Disk, IsDisk, synced_disk}
use Rattle.ox_outside.specs.Event.{Event}
use Rattle.ox_outside.specs.Files.{file_of}
use Rattle.ox_outside.specs.declared.site.Which.{Which}
use Rattle.ox_outside.specs.declared.site.Which.TheVariants.{A, B}
use Rattle.ox_outside.proofs.Disk.{synced_is, after_write_is, after_torn_is, seen_is_image}
use Rattle.ox_memsite.specs.World.{World, is_same, disk_step, disk_after, disk_of, seen_of, log_of}
use Rattle.ox_memsite.specs.World.{Left, MayLeave, LeftSince}
use Rattle.ox_memsite.specs.declared.step.Step.{Step}
use Rattle.ox_memsite.specs.declared.step.Step.TheVariants as steps

one_of : (b : Bool) (x y : Disk) → IsDisk x → IsDisk y → IsDisk (if b then x else y)
one_of true x y is_x is_y = is_x
one_of false x y is_x is_y = is_y

step_is : (which : Which) (disk : Disk) (step : Step) → IsDisk disk
    → IsDisk (disk_step which disk step)
step_is which disk (steps.Wrote file at bytes) is =
    one_of (is_same which file) _ _ (after_write_is at bytes disk is) is
step_is which disk (steps.Tore file at n) is =
    one_of (is_same which file) _ _ (after_torn_is at n disk is) is
step_is which disk (steps.Synced file) is = one_of (is_same which file) _ _ (synced_is disk.seen) is
step_is which disk (steps.Heard channel bytes) is = is
step_is which disk (steps.Ended channel) is = is
step_is which disk (steps.Showed channel bytes) is = is
step_is which disk (steps.Broke channel) is = is
step_is which disk (steps.Opened channel door) is = is
step_is which disk (steps.GaveUp channel) is = is
step_is which disk (steps.Shut channel) is = is

after_is : (which : Which) (disk : Disk) (done : List Step) → IsDisk disk
    → IsDisk (disk_after which disk done)
after_is which disk [] is = is
after_is which disk (step ∷ done) is =
    after_is which (disk_step which disk step) done (step_is which disk step is)

pub disk_is : (w : World) (which : Which) → IsDisk (disk_of w.first w.steps which)
disk_is w which =
    after_is which (synced_disk (file_of w.first which)) w.steps (synced_is (file_of w.first which))

pub counts_now : (w : World) (t : ℕ) (r : Remains) → t ≤ length w.steps
    → MayLeave w r → LeftSince w t r
counts_now w t r le left =
    let all = sym (take_all _ w.steps (le_refl _)) in
    (length w.steps, le, le_refl _, subst (λ (l : List Step). Left w.first w.past l r) all left)

pub only_now : (w : World) (r : Remains) → LeftSince w (length w.steps) r → MayLeave w r
only_now w r left =
    subst (λ (l : List Step). Left w.first w.past l r) (take_all left.0 w.steps left.1) left.3

pub since_earlier : (w : World) (t u : ℕ) (r : Remains) → t ≤ u → LeftSince w u r → LeftSince w t r
since_earlier w t u r le left = (left.0, le_trans le left.1, left.2, left.3)

pub logs_now : (w : World) (r : Remains) → MayLeave w r → Some (log_of w) ≡ Some r.log
logs_now w r left = ap (λ (l : List Event). Some l) (sym left.log)

pub reads_now : (w : World) → (events : List Event) × (Some (log_of w) ≡ Some events)
    × MayLeave w (record { files = seen_of w; log = events })
reads_now w =
    let a = seen_is_image _ (disk_is w A) in
    let b = seen_is_image _ (disk_is w B) in
    (log_of w, refl, record { a = a; b = b; log = refl })
