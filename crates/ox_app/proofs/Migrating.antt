-- A migration in a run: what a crash leaves while the store is migrated, and while its line is shown.
use Rattle.std.proofs.Common.{◌≡◌, ◌∙◌, ◌⊎◌, ⊎_elim, inl, inr, ℕ, List, [], ◌∷◌, Some, refl, sym, ap}
use Rattle.std.specs.Prelude.{Result, Ok}
use Rattle.ox_outside.specs.Crash.{Remains}
use Rattle.ox_outside.specs.Event.{Event}
use Rattle.ox_outside.specs.Files.{Files}
use Rattle.ox_outside.specs.Log.{Grows}
use Rattle.ox_outside.specs.Runs.{LeavesOnly, OnlyTalks}
use Rattle.ox_outside.specs.declared.site.Site.{Ghosts as Meanings}
use Rattle.ox_outside.proofs.Calls.{leaves_at_first, leaves_then, leaves_weaker}
use Rattle.ox_outside.proofs.Log.{grows_none, grows_same, grows_weaker}
use Rattle.ox_gated.specs.Tail.{IsSettled}
use Rattle.ox_gated.specs.Writes.{OnlyWrites}
use Rattle.ox_model.specs.Stack.{Stack}
use Rattle.ox_files.specs.OldStands.{OldFault, old_stands}
use Rattle.ox_files.specs.Stands.{Misfit, stands}
use Rattle.ox_store.specs.Migrate.{IsOldOrMigrated}
use Rattle.ox_app.specs.Migrate.{LeavesMigrating}
use Rattle.ox_app.specs.Show.{ShowsFront}
use Rattle.ox_app.proofs.Images.{grows_from}

-- two readings of the same files at version 1
pub same_made : (standing : Result (Stack × ℕ) (OldFault Misfit)) (made made' : Stack × ℕ) → standing ≡ Ok made → standing ≡ Ok made' → made ≡ made'
same_made standing made made' e f = cc (sym e ∙ f)

module _ {S : Type 0} (means : Meanings S) where
  pub leaves_both : (old new : S) (P Q : Remains → Type 0) → LeavesOnly means old new P → LeavesOnly means old new Q → LeavesOnly means old new (λ r. P r × Q r)
  leaves_both old new P Q first second = record {
    later = first.later;
    each = λ r left. (first.each r left, second.each r left);
    before = λ t r le left. ⊎_elim (λ l. inl l) (λ p. ⊎_elim (λ l. inl l) (λ q. inr (p, q)) (second.before t r le left)) (first.before t r le left);
  }

  module _ (stack : Stack) (commands : ℕ) where
    abbrev LeavesFrom : S → Remains → Type 0
    LeavesFrom old r = Grows (LeavesMigrating means old stack commands r.files) (means.log old) (Some r.log)

    -- nothing was logged yet
    unlogged : (old : S) (r : Remains) → LeavesMigrating means old stack commands r.files [] → means.log old ≡ Some r.log → LeavesFrom old r
    unlogged old r leaves is =
        grows_same (LeavesMigrating means old stack commands r.files) (means.log old) (means.log old) (Some r.log)
        (grows_none (LeavesMigrating means old stack commands r.files) (means.log old) leaves) (sym is)

    either_store : (old : S) (r : Remains) → old_stands (means.seen old) ≡ Ok (stack, commands) → (means.may_leave old r ⊎ IsOldOrMigrated (means.seen old) r.files) → LeavesMigrating means old stack commands r.files []
    either_store old r stood (inl left) = inl (r, left, refl)
    either_store old r stood (inr (inl same)) = inr (inl (record { reads = same.0; stands_for = same.1 ∙ stood }))
    either_store old r stood (inr (inr (made, is, migrated))) =
        inr (inr (migrated ∙ ap (λ (m : Stack × ℕ). Ok m.0) (same_made (old_stands (means.seen old)) made (stack, commands) is stood)))

    logged_any : (old : S) (files : Files) (events : List Event) → stands files ≡ Ok stack → LeavesMigrating means old stack commands files events
    logged_any old files [] stood = inr (inr stood)
    logged_any old files (event ∷ events) stood = stood

    -- before the first call
    pub unmigrated_yet : ((site : S) (r : Remains) → means.left_since site (means.clock site) r → means.may_leave site r) → ((site : S) (r : Remains) → means.may_leave site r → means.log site ≡ Some r.log) → (old : S)
        → LeavesOnly means old old (LeavesFrom old)
    unmigrated_yet only_now logs_now old = leaves_at_first means old (LeavesFrom old) (λ r left. let may = only_now old r left in unlogged old r (inl (r, may, refl)) (logs_now old r may))

    -- while the store is migrated
    pub while_migrated : (old mid : S) → old_stands (means.seen old) ≡ Ok (stack, commands) → LeavesOnly means old mid (λ r. means.may_leave old r ⊎ IsOldOrMigrated (means.seen old) r.files) → OnlyWrites means old mid
        → LeavesOnly means old mid (LeavesFrom old)
    while_migrated old mid stood moments writes =
        leaves_weaker means old mid _ _ (λ r both. unlogged old r (either_store old r stood both.0) both.1) (leaves_both old mid _ _ moments writes.moments)

    -- and then its line is shown
    pub migrated_told : (line : List ℕ) (old mid new : S) (made : Stack × ℕ) → old_stands (means.seen old) ≡ Ok (stack, commands) → old_stands (means.seen old) ≡ Ok made → stands (means.seen mid) ≡ Ok made.0 → IsSettled means mid
        → LeavesOnly means old mid (λ r. means.may_leave old r ⊎ IsOldOrMigrated (means.seen old) r.files) → OnlyWrites means old mid → OnlyTalks means (ShowsFront line) mid new
        → LeavesOnly means old new (LeavesFrom old)
    migrated_told line old mid new made stood is migrated settled moments writes talks =
        let stands_now : stands (means.seen mid) ≡ Ok stack = migrated ∙ ap (λ (m : Stack × ℕ). Ok m.0) (same_made (old_stands (means.seen old)) made (stack, commands) is stood) in
        leaves_then means old mid new (LeavesFrom old) (while_migrated old mid stood moments writes)
        (leaves_weaker means mid new _ _ (λ r talked.
        grows_from (LeavesMigrating means old stack commands r.files) (means.log old) (means.log mid) (Some r.log) writes.as_logged
        (grows_weaker (ShowsFront line) (LeavesMigrating means old stack commands r.files) (means.log mid) (Some r.log)
        (λ events shows. logged_any old r.files events (ap stands (talked.files.2 ∙ settled talked.files.0 talked.files.1) ∙ stands_now)) talked.grown)) talks.moments)
