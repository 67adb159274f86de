-- What a crash makes of a site is one of the things that the disk allows.
use Rattle.std.proofs.Common.{◌≡◌, ◌≤◌, ◌++◌, length, take, sym, subst}
use Rattle.std.specs.Prelude.{Result, Ok, Err, IfOk}
use Rattle.std.proofs.Math.Nat.{le_refl}
use Rattle.std.proofs.lemmas.List.{append-nil}
use Rattle.ox_outside.specs.declared.site.Which.TheVariants.{A, B}
use Rattle.ox_outside.proofs.Disk.{image_with_is}
use Rattle.ox_memsite.specs.Crashed.{site_after_crash, remains_of}
use Rattle.ox_memsite.specs.Laws.{disk_is}
use Rattle.ox_memsite.specs.World.{World, LeftSince, disk_of, events_of}
use Rattle.ox_memsite.specs.declared.crash.Choice.{Choice}

pub crashed_allowed : (w : World) (choice : Choice) → choice.moment ≤ length w.steps → LeftSince w choice.moment (remains_of (site_after_crash choice w))
crashed_allowed w choice le =
    let then_ : World = record w { steps = take choice.moment w.steps } in (
      choice.moment,
      le_refl choice.moment,
      le,
      record {
        a = image_with_is choice.fill choice.keep (disk_of w.first (take choice.moment w.steps) A) (disk_is then_ A);
        b = image_with_is choice.fill choice.keep (disk_of w.first (take choice.moment w.steps) B) (disk_is then_ B);
        log = append-nil (w.past ++ events_of (take choice.moment w.steps));
      },
    )

pub crash_allowed : {E : Type 0} (w : World) (choice : Choice) (result : Result World E) → choice.moment ≤ length w.steps → IfOk result (λ site. site ≡ site_after_crash choice w) → IfOk result (λ site. LeftSince w choice.moment (remains_of site))
crash_allowed w choice (Ok site) le is = subst (λ (s : World). LeftSince w choice.moment (remains_of s)) (sym is) (crashed_allowed w choice le)
crash_allowed w choice (Err e) le is = is
