-- Runs of any subcommands, one after the other.
use Rattle.std.proofs.Common.{◌≡◌, ◌≢◌, ◌∙◌, List, [], ◌∷◌, take, Some, refl, sym, subst, ap}
use Rattle.std.specs.Prelude.{Result, Ok}
use Rattle.ox_outside.specs.Event.{Event}
use Rattle.ox_outside.specs.Files.{Files}
use Rattle.ox_outside.specs.Log.{Grows}
use Rattle.ox_outside.specs.Runs.{LeavesOnly}
use Rattle.ox_outside.specs.declared.site.Site.{Ghosts as Meanings}
use Rattle.ox_outside.proofs.Calls.{leaves_weaker}
use Rattle.ox_outside.proofs.Log.{grows_weaker}
use Rattle.ox_links.specs.Serving.{commands_in, served_by, state_after}
use Rattle.ox_model.specs.Machine.{Machine, stack_of}
use Rattle.ox_model.specs.Replies.{after}
use Rattle.ox_model.specs.Stack.{Stack}
use Rattle.ox_files.specs.Runs.{first_lines}
use Rattle.ox_files.specs.Stands.{Misfit, stands}
use Rattle.ox_desk.specs.Servers.{server_of, server_on}
use Rattle.ox_app.specs.Turns.{StandFor}
use Rattle.ox_store.specs.Grow.{growing}
use Rattle.ox_store.proofs.GrowingFiles.{growing_stands}
use Rattle.ox_app.specs.AnyRuns.{AnyInTurn, AnyRun, Fed, Grown, IsGrownInTurn, IsServedInTurn, KeepsStack, LastOfAny, LeadsOn, Served, Spared, SurvivesAny, SurvivesServed, left_by}
use Rattle.ox_app.specs.Grow.{GrowsFirst, LeavesGrowing}
use Rattle.ox_app.specs.Serve.{LeavesServing, SurvivesLinks}
use Rattle.ox_app.proofs.Serving.{links_of_machine}

-- a run leads on to a machine, for which the files stand that it left
record LeadsTo (machine : Machine) (files : Files) (run : AnyRun) : Type 0 where
  next : Machine
  leads : LeadsOn machine run next
  stood : stands (left_by files run) ≡ Ok (stack_of next)

leads_to : (machine : Machine) (files : Files) (run : AnyRun) → stands files ≡ Ok (stack_of machine) → SurvivesAny files run → LeadsTo machine files run
leads_to machine files (Fed run) is survives =
    let left = survives machine is in record {
      next = after machine (first_lines left.kept run);
      leads = (left.kept, record { counted = left.counted; acknowledged = left.acknowledged }, refl);
      stood = left.stands_for;
    }
leads_to machine files (Served run) is survives =
    let left = survives machine is in record {
      next = state_after server_of machine (take left.survives.kept (commands_in (served_by server_of machine left.links).answers));
      leads = record {
        links = left.links;
        own = left.own;
        logged = left.logged;
        only_own = left.only_own;
        kept = left.survives.kept;
        counted = left.survives.counted;
        acknowledged = left.survives.acknowledged;
        leads = refl;
      };
      stood = left.survives.stands_for;
    }
leads_to machine files (Grown left) is survives = record { next = machine; leads = refl; stood = survives (stack_of machine) is }
leads_to machine files Spared is survives = record { next = machine; leads = refl; stood = is }

pub last_of_any : (machine : Machine) (files : Files) (runs : List AnyRun) → stands files ≡ Ok (stack_of machine) → AnyInTurn files runs → LastOfAny machine files runs
last_of_any machine files [] is follow = record { end = machine; lead = refl; stands_for = is }
last_of_any machine files (run ∷ runs) is follow =
    let one = leads_to machine files run is follow.0 in
    let rest = last_of_any one.next (left_by files run) runs one.stood follow.1 in record {
      end = rest.end;
      lead = (one.next, one.leads, rest.lead);
      stands_for = rest.stands_for;
    }

-- ---- what `serve` leaves is a run in turn

same_stack_of : (standing : Result Stack Misfit) (a b : Stack) → standing ≡ Ok a → standing ≡ Ok b → a ≡ b
same_stack_of standing a b e f = cc (sym e ∙ f)

module _ {S : Type 0} (means : Meanings S) where
  served_by_events : (stack : Stack) (old : S) (files : Files) (events : List Event) → stands (means.seen old) ≡ Ok stack → LeavesServing means.may_leave old server_on stack StandFor files events → events ≢ []
      → SurvivesServed (means.seen old) (record { events = events; left = files })
  served_by_events stack old files [] stood leaves some = absurd (some refl)
  served_by_events stack old files (event ∷ events) stood survives some = λ other stood_other.
      links_of_machine other files (event ∷ events)
      (subst (λ (s : Stack). SurvivesLinks server_on s StandFor files (event ∷ events)) (same_stack_of (stands (means.seen old)) stack (stack_of other) stood stood_other) survives)

  pub served_in_turn : (stack : Stack) (old new : S) → stands (means.seen old) ≡ Ok stack
      → LeavesOnly means old new (λ r. Grows (LeavesServing means.may_leave old server_on stack StandFor r.files) (means.log old) (Some r.log))
      → IsServedInTurn means old new
  served_in_turn stack old new stood =
      leaves_weaker means old new _ _ (λ r.
      grows_weaker (LeavesServing means.may_leave old server_on stack StandFor r.files) (λ events. events ≢ [] → SurvivesServed (means.seen old) (record { events = events; left = r.files })) (means.log old) (Some r.log)
      (λ events leaves. served_by_events stack old r.files events stood leaves))

  -- ---- and so is what `grow` leaves

  grown_by_events : (stack : Stack) (old : S) (files : Files) (events : List Event) → stands (means.seen old) ≡ Ok stack → LeavesGrowing means old stack files events → events ≢ []
      → KeepsStack (means.seen old) files
  grown_by_events stack old files [] stood leaves some = absurd (some refl)
  grown_by_events stack old files (event ∷ events) stood leaves some = λ other stood_other.
      leaves.0 ∙ ap Ok (same_stack_of (stands (means.seen old)) stack other stood stood_other)

  pub grown_in_turn : (stack : Stack) (old new : S) → growing (means.seen old) ≡ Ok stack → GrowsFirst means stack old new → IsGrownInTurn means old new
  grown_in_turn stack old new grows =
      leaves_weaker means old new _ _ (λ r.
      grows_weaker (LeavesGrowing means old stack r.files) (λ events. events ≢ [] → KeepsStack (means.seen old) r.files) (means.log old) (Some r.log)
      (λ events leaves. grown_by_events stack old r.files events (growing_stands (means.seen old) stack grows) leaves))
