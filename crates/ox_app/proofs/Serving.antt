-- A server in a run of the program: what is shown behind its turns, what a crash leaves, and machines for stacks.
use Rattle.std.proofs.Common.{◌≡◌, ◌≢◌, ◌∙◌, ◌⊎◌, ◌≤◌, ℕ, zero, suc, List, [], ◌∷◌, ◌++◌, take, Option, Some, None, refl, sym, ap, subst, arith, inl, inr, ⊎_elim}
use Rattle.std.specs.Prelude.{Result, Ok, Err}
use Rattle.std.proofs.lemmas.List.{append-nil, append_cancel_left}
use Rattle.std.proofs.lemmas.List.Elements.{All-nil}
use Rattle.std.proofs.lemmas.Option.{same_Some}
use Rattle.ox_outside.specs.Counts.{Counts, IsFailure, NoneFell, StopsAtFault}
use Rattle.ox_outside.specs.Crash.{Remains}
use Rattle.ox_outside.specs.Event.{Event, channel_of}
use Rattle.ox_outside.specs.Files.{Files}
use Rattle.ox_outside.specs.Log.{Grows}
use Rattle.ox_outside.specs.Runs.{LeavesOnly, OnlyLooks, OnlyTalks}
use Rattle.ox_outside.specs.declared.site.Site.{Ghosts as Meanings}
use Rattle.ox_outside.proofs.Calls.{leaves_at_first, leaves_then, leaves_weaker}
use Rattle.ox_outside.proofs.Counts.{stops_after, stops_as, went_on}
use Rattle.ox_outside.proofs.Log.{grows_none, grows_same, grows_then, grows_weaker}
use Rattle.ox_gated.specs.declared.fault.Halt.TheVariants as halts
use Rattle.ox_links.specs.Serving.{Server, state_after}
use Rattle.ox_links.specs.Survives.{Survives}
use Rattle.ox_links.specs.Turned.{CutShort, IsFewer, RoseBy}
use Rattle.ox_turns.specs.Follows.{ShowsFrontsIn}
use Rattle.ox_model.specs.Machine.{Machine, stack_of}
use Rattle.ox_model.specs.Stack.{Stack}
use Rattle.ox_files.specs.Stands.{Misfit, stands}
use Rattle.ox_store.specs.Fault.{IsMisfit}
use Rattle.ox_store.specs.declared.fault.OpenFault.{OpenFault}
use Rattle.ox_store.specs.declared.fault.OpenFault.TheVariants as opens
use Rattle.ox_desk.specs.Servers.{HasStack, server_of, server_on}
use Rattle.ox_desk.proofs.Machines.{served_alike}
use Rattle.ox_app.specs.Turns.{Served, StandFor}
use Rattle.ox_app.specs.declared.server.ServeFault.{ServeFault}
use Rattle.ox_app.specs.declared.server.ServeFault.TheVariants as serves
use Rattle.ox_app.proofs.ServersAlike.{counted_alike, fewer_alike, fronts_alike, short_alike, survives_alike}
use Rattle.ox_app.specs.Serve.{LeavesServing, RunsServer, StandForMachine, SurvivesLinks, totals_line}
use Rattle.ox_app.specs.Show.{EndsAtFault, ShowsFront, ShowsReply}
use Rattle.ox_app.specs.Status.{IsRefusal, fault_status}
use Rattle.ox_app.specs.Subcommands.{IsTurns, serve_words}
use Rattle.ox_app.specs.Unopened.{LogsUnopened, UnopenedAs}
use Rattle.ox_app.specs.declared.status.Status.{Status}
use Rattle.ox_app.specs.declared.status.Status.TheVariants as ends
use Rattle.ox_app.proofs.Images.{grows_from, no_misfit}
use Rattle.ox_app.proofs.Subcommands.{same_number}

-- two things that are said of what a log gained
pub grows_both : (P Q : List Event → Type 0) (first now : Option (List Event)) → Grows P first now → Grows Q first now → Grows (λ events. P events × Q events) first now
grows_both P Q None now p q = p
grows_both P Q (Some log) now p q =
    let same : q.0 ≡ p.0 = append_cancel_left log q.0 p.0 (same_Some (log ++ q.0) (log ++ p.0) (sym q.1 ∙ p.1)) in
    (p.0, p.1, (p.2, subst Q same q.2))

-- ---- counts that go on

rose_later : (n old mid new : ℕ) → mid ≤ new → RoseBy n old mid → RoseBy n old new
rose_later n old mid new le (inl rose) = inl (omega (arith, rose, le))
rose_later n old mid new le (inr full) = inr (omega (arith, full, le))

rose_sooner : (n old mid new : ℕ) → old ≤ mid → RoseBy n mid new → RoseBy n old new
rose_sooner n old mid new le (inl rose) = inl (omega (arith, rose, le))
rose_sooner n old mid new le (inr full) = inr full

module _ {X C : Type 0} (server : Server X C) (first : X) (turns : ℕ) where
  served_later : (old mid new : Counts) (requests hits : ℕ) (links : List Event) → NoneFell mid new → Served server first turns old mid requests hits links → Served server first turns old new requests hits links
  served_later old mid new requests hits links fell served = record {
    turned = record {
      turns = served.turned.turns;
      many = served.turned.many;
      end = served.turned.end;
      made = served.turned.made;
      idles = record {
        doors = λ door. rose_later _ _ _ _ (fell.door_idles door) (served.turned.idles.doors door);
        links = λ channel. rose_later _ _ _ _ (fell.not_yets channel) (served.turned.idles.links channel);
      };
      logged = served.turned.logged;
    };
    requests_counted = served.requests_counted;
    hits_counted = served.hits_counted;
  }

  served_sooner : (old mid new : Counts) (requests hits : ℕ) (links : List Event) → NoneFell old mid → Served server first turns mid new requests hits links → Served server first turns old new requests hits links
  served_sooner old mid new requests hits links fell served = record {
    turned = record {
      turns = served.turned.turns;
      many = served.turned.many;
      end = served.turned.end;
      made = served.turned.made;
      idles = record {
        doors = λ door. rose_sooner _ _ _ _ (fell.door_idles door) (served.turned.idles.doors door);
        links = λ channel. rose_sooner _ _ _ _ (fell.not_yets channel) (served.turned.idles.links channel);
      };
      logged = served.turned.logged;
    };
    requests_counted = served.requests_counted;
    hits_counted = served.hits_counted;
  }

  -- ---- what is logged

  told_isnt_cut : (status : Status) → (status ≡ ends.Done) ⊎ (status ≡ ends.ShowFault) → (status ≡ ends.DiskFault) ⊎ (status ≡ ends.DoorFault) → ⊥
  told_isnt_cut status (inl a) (inl b) = let e : ends.Done ≡ ends.DiskFault = sym a ∙ b in cc e
  told_isnt_cut status (inl a) (inr b) = let e : ends.Done ≡ ends.DoorFault = sym a ∙ b in cc e
  told_isnt_cut status (inr a) (inl b) = let e : ends.ShowFault ≡ ends.DiskFault = sym a ∙ b in cc e
  told_isnt_cut status (inr a) (inr b) = let e : ends.ShowFault ≡ ends.DoorFault = sym a ∙ b in cc e

  told_has_memory : (status : Status) → (status ≡ ends.Done) ⊎ (status ≡ ends.ShowFault) → status ≡ ends.Memory → ⊥
  told_has_memory status (inl a) b = let e : ends.Done ≡ ends.Memory = sym a ∙ b in cc e
  told_has_memory status (inr a) b = let e : ends.ShowFault ≡ ends.Memory = sym a ∙ b in cc e

  -- all turns were made, and the line was shown, or a front of it
  pub runs_told : (status : Status) (old mid new : Counts) (requests hits : ℕ) (log then_ now : Option (List Event)) → (status ≡ ends.Done) ⊎ (status ≡ ends.ShowFault) → NoneFell mid new
      → Grows (Served server first turns old mid requests hits) log then_ → Grows (ShowsFrontsIn server first) log then_ → Grows (ShowsReply (totals_line requests hits) status) then_ now
      → Grows (RunsServer server first turns status old new) log now
  runs_told status old mid new requests hits log then_ now told fell served fronts shows =
      grows_then (λ events. Served server first turns old mid requests hits events × ShowsFrontsIn server first events) (ShowsReply (totals_line requests hits) status) (RunsServer server first turns status old new) log then_ now
      (λ x y made line. record {
        links = x;
        own = y;
        logged = refl;
        fronts = made.1;
        all = λ _. record { requests = requests; hits = hits; served = served_later old mid new requests hits x fell made.0; tells = line };
        cut = λ is. absurd (told_isnt_cut status told (inl is));
        fewer = λ is. absurd (told_isnt_cut status told (inr is));
        nothing = λ is. absurd (told_has_memory status told is);
      })
      (grows_both (Served server first turns old mid requests hits) (ShowsFrontsIn server first) log then_ served fronts) shows

  -- a fault of a file ended a turn
  runs_cut : (old new : Counts) (log now : Option (List Event)) → Grows (CutShort server first turns) log now → Grows (ShowsFrontsIn server first) log now
      → Grows (RunsServer server first turns ends.DiskFault old new) log now
  runs_cut old new log now cut fronts =
      grows_weaker (λ events. CutShort server first turns events × ShowsFrontsIn server first events) (RunsServer server first turns ends.DiskFault old new) log now
      (λ events both. record {
        links = events;
        own = [];
        logged = sym (append-nil events);
        fronts = both.1;
        all = λ told. absurd (told_isnt_cut ends.DiskFault told (inl refl));
        cut = λ _. (both.0, refl);
        fewer = λ is. cc is;
        nothing = λ is. cc is;
      })
      (grows_both (CutShort server first turns) (ShowsFrontsIn server first) log now cut fronts)

  -- a fault of a door ended the run between two turns
  runs_fewer : (old new : Counts) (log now : Option (List Event)) → Grows (IsFewer server first turns) log now → Grows (ShowsFrontsIn server first) log now
      → Grows (RunsServer server first turns ends.DoorFault old new) log now
  runs_fewer old new log now fewer fronts =
      grows_weaker (λ events. IsFewer server first turns events × ShowsFrontsIn server first events) (RunsServer server first turns ends.DoorFault old new) log now
      (λ events both. record {
        links = events;
        own = [];
        logged = sym (append-nil events);
        fronts = both.1;
        all = λ told. absurd (told_isnt_cut ends.DoorFault told (inr refl));
        cut = λ is. cc is;
        fewer = λ _. (both.0, refl);
        nothing = λ is. cc is;
      })
      (grows_both (IsFewer server first turns) (ShowsFrontsIn server first) log now fewer fronts)

  -- before the first turn nothing was logged, whatever ended the run
  none_cut : 1 ≤ turns → CutShort server first turns []
  none_cut some = record { turns = []; fewer = some; end = 0; made = refl; cut = []; is_cut = tt; logged = refl }

  none_fewer : 1 ≤ turns → IsFewer server first turns []
  none_fewer some = record { turns = []; fewer = some; end = 0; made = refl; logged = refl }

  pub runs_none : (status : Status) (old new : Counts) (log now : Option (List Event)) → 1 ≤ turns → ((status ≡ ends.Done) ⊎ (status ≡ ends.ShowFault) → ⊥) → now ≡ log → Grows (RunsServer server first turns status old new) log now
  runs_none status old new log now some untold same =
      grows_same (RunsServer server first turns status old new) log log now
      (grows_none (RunsServer server first turns status old new) log (record {
        links = [];
        own = [];
        logged = refl;
        fronts = λ channel one. ([], refl);
        all = λ told. absurd (untold told);
        cut = λ _. (none_cut some, refl);
        fewer = λ _. (none_fewer some, refl);
        nothing = λ _. refl;
      })) same

  pub runs_by_fault : (fault : ServeFault) (old new : Counts) (log now : Option (List Event)) → (fault ≡ serves.Memory → now ≡ log) → (fault ≢ serves.Memory → Grows (CutShort server first turns) log now)
      → (fault ≡ serves.DoorFault → Grows (IsFewer server first turns) log now) → Grows (ShowsFrontsIn server first) log now → 1 ≤ turns → Grows (RunsServer server first turns (fault_status fault) old new) log now
  runs_by_fault serves.DiskFault old new log now memory cut fewer fronts some = runs_cut old new log now (cut (λ e. cc e)) fronts
  runs_by_fault serves.DoorFault old new log now memory cut fewer fronts some = runs_fewer old new log now (fewer refl) fronts
  runs_by_fault serves.Memory old new log now memory cut fewer fronts some = runs_none ends.Memory old new log now some untold (memory refl)
    where
      untold : (ends.Memory ≡ ends.Done) ⊎ (ends.Memory ≡ ends.ShowFault) → ⊥
      untold (inl e) = cc e
      untold (inr e) = cc e

  -- the run is looked at from an earlier moment, at which as much was logged
  runs_sooner : (status : Status) (old mid new : Counts) (events : List Event) → NoneFell old mid → RunsServer server first turns status mid new events → RunsServer server first turns status old new events
  runs_sooner status old mid new events fell runs = record {
    links = runs.links;
    own = runs.own;
    logged = runs.logged;
    fronts = runs.fronts;
    all = λ told.
        let all = runs.all told in
        record { requests = all.requests; hits = all.hits; served = served_sooner old mid new all.requests all.hits runs.links fell all.served; tells = all.tells };
    cut = runs.cut;
    fewer = runs.fewer;
    nothing = runs.nothing;
  }

  pub runs_from : (status : Status) (old mid new : Counts) (log then_ now : Option (List Event)) → NoneFell old mid → then_ ≡ log → Grows (RunsServer server first turns status mid new) then_ now
      → Grows (RunsServer server first turns status old new) log now
  runs_from status old mid new log then_ now fell same grows =
      grows_from (RunsServer server first turns status old new) log then_ now same
      (grows_weaker (RunsServer server first turns status mid new) (RunsServer server first turns status old new) then_ now (λ events runs. runs_sooner status old mid new events fell runs) grows)

-- ---- what a crash leaves

take_none : {A : Type 0} (n : ℕ) → take n (let l : List A = [] in l) ≡ []
take_none zero = refl
take_none (suc n) = refl

left_nil : {A : Type 0} (a b : List A) → [] ≡ a ++ b → a ≡ []
left_nil [] b is = refl
left_nil (x ∷ a) b is = absurd (cc is)

module _ {S X C : Type 0} (means : Meanings S) (server : Server X C) (first : X) (stood : Files → X → Type 0) where
  abbrev Links : S → Remains → Type 0
  Links old r = Grows (SurvivesLinks server first stood r.files) (means.log old) (Some r.log)

  abbrev Lasts : S → Remains → Type 0
  Lasts old r = Grows (λ events. Survives server first stood events r.files) (means.log old) (Some r.log)

  links_alone : (files : Files) (events : List Event) → Survives server first stood events files → SurvivesLinks server first stood files events
  links_alone files events survives = record { links = events; own = []; logged = sym (append-nil events); only_own = All-nil (λ (event : Event). channel_of event ≡ 0); survives = survives }

  pub served_only : (old new : S) → LeavesOnly means old new (Lasts old) → LeavesOnly means old new (Links old)
  served_only old new =
      leaves_weaker means old new (Lasts old) (Links old) (λ r lasts. grows_weaker (λ events. Survives server first stood events r.files) (SurvivesLinks server first stood r.files) (means.log old) (Some r.log) (links_alone r.files) lasts)

  -- links are served, and then a line is shown
  pub served_then_talked : ((site : S) (t : ℕ) (r : Remains) → t ≤ means.clock site → means.may_leave site r → means.left_since site t r) → ((site : S) (r : Remains) → means.may_leave site r → means.log site ≡ Some r.log)
      → (line : List ℕ) (old mid new : S) → LeavesOnly means old mid (Lasts old) → OnlyTalks means (ShowsFront line) mid new → LeavesOnly means old new (Links old)
  served_then_talked counts_now logs_now line old mid new served talks =
      leaves_then means old mid new (Links old) (served_only old mid served)
      (leaves_weaker means mid new _ (Links old) (λ r talked.
      let q = talked.files.0 in
      let left = talked.files.1 in
      let lasts = served.each q (counts_now mid (means.clock old) q served.later left) in
      let lasts_mid = subst (λ (l : Option (List Event)). Grows (λ events. Survives server first stood events r.files) (means.log old) l) (sym (logs_now mid q left))
      (subst (λ (f : Files). Grows (λ events. Survives server first stood events f) (means.log old) (Some q.log)) (sym talked.files.2) lasts) in
      grows_then (λ events. Survives server first stood events r.files) (ShowsFront line) (SurvivesLinks server first stood r.files) (means.log old) (means.log mid) (Some r.log)
      (λ x y survives shows. record { links = x; own = y; logged = refl; only_own = shows.quiet.only; survives = survives }) lasts_mid talked.grown) talks.moments)

  stood_first : (files : Files) → SurvivesLinks server first stood files [] → stood files first
  stood_first files links =
      let none : links.links ≡ [] = left_nil links.links links.own links.logged in
      let survives = subst (λ (l : List Event). Survives server first stood l files) none links.survives in
      subst (λ (l : List C). stood files (state_after server first l)) (take_none survives.kept) survives.stands_for

  leaves_by_links : (may_leave : S → Remains → Type 0) (old : S) (files : Files) (events : List Event) → SurvivesLinks server first stood files events → LeavesServing may_leave old server first stood files events
  leaves_by_links may_leave old files [] links = inr (stood_first files links)
  leaves_by_links may_leave old files (event ∷ events) links = links

  abbrev Serves : S → Remains → Type 0
  Serves old r = Grows (LeavesServing means.may_leave old server first stood r.files) (means.log old) (Some r.log)

  serves_before : ((site : S) (r : Remains) → means.may_leave site r → means.log site ≡ Some r.log) → (old : S) (r : Remains) → means.may_leave old r → Serves old r
  serves_before logs_now old r left =
      grows_same (LeavesServing means.may_leave old server first stood r.files) (means.log old) (means.log old) (Some r.log)
      (grows_none (LeavesServing means.may_leave old server first stood r.files) (means.log old) (inl (r, left, refl))) (sym (logs_now old r left))

  -- the files are opened, and then links are served
  pub opened_then_served : ((site : S) (r : Remains) → means.may_leave site r → means.log site ≡ Some r.log) → (old mid new : S) → OnlyLooks means old mid → LeavesOnly means mid new (Links mid) → LeavesOnly means old new (Serves old)
  opened_then_served logs_now old mid new looks served =
      leaves_then means old mid new (Serves old)
      (leaves_weaker means old mid (means.may_leave old) (Serves old) (serves_before logs_now old) looks.moments)
      (leaves_weaker means mid new (Links mid) (Serves old) (λ r links.
      grows_from (LeavesServing means.may_leave old server first stood r.files) (means.log old) (means.log mid) (Some r.log) looks.nothing.as_logged
      (grows_weaker (SurvivesLinks server first stood r.files) (LeavesServing means.may_leave old server first stood r.files) (means.log mid) (Some r.log)
      (leaves_by_links means.may_leave old r.files) links)) served)

  -- they aren't opened, though they stand for a stack
  pub unopened_unserved : ((site : S) (r : Remains) → means.may_leave site r → means.log site ≡ Some r.log) → (stack : Stack) (fault : OpenFault) (old mid new : S) → stands (means.seen old) ≡ Ok stack → IsMisfit (stands (means.seen old)) fault
      → OnlyLooks means old mid → OnlyTalks means (LogsUnopened fault) mid new → LeavesOnly means old new (Serves old)
  unopened_unserved logs_now stack fault old mid new stood_old misfit looks talks =
      leaves_then means old mid new (Serves old)
      (leaves_weaker means old mid (means.may_leave old) (Serves old) (serves_before logs_now old) looks.moments)
      (leaves_weaker means mid new _ (Serves old) (λ r talked.
      grows_from (LeavesServing means.may_leave old server first stood r.files) (means.log old) (means.log mid) (Some r.log) looks.nothing.as_logged
      (grows_weaker (LogsUnopened fault) (LeavesServing means.may_leave old server first stood r.files) (means.log mid) (Some r.log)
      (λ events logs. subst (LeavesServing means.may_leave old server first stood r.files) (sym (no_misfit (stands (means.seen old)) stack fault events stood_old misfit logs))
      (inl (talked.files.0, looks.nothing.crash talked.files.0 talked.files.1, talked.files.2))) talked.grown)) talks.moments)

  -- nothing was called
  pub unserved : ((site : S) (r : Remains) → means.left_since site (means.clock site) r → means.may_leave site r) → ((site : S) (r : Remains) → means.may_leave site r → means.log site ≡ Some r.log) → (old : S) → LeavesOnly means old old (Serves old)
  unserved only_now logs_now old = leaves_at_first means old (Serves old) (λ r left. serves_before logs_now old r (only_now old r left))

-- ---- files that stand for a stack and aren't opened

pub memory_untold : (ends.Memory ≡ ends.Done) ⊎ (ends.Memory ≡ ends.ShowFault) → ⊥
memory_untold (inl e) = cc e
memory_untold (inr e) = cc e

disk_untold : (ends.DiskFault ≡ ends.Done) ⊎ (ends.DiskFault ≡ ends.ShowFault) → ⊥
disk_untold (inl e) = cc e
disk_untold (inr e) = cc e

-- how they are answered: no line is shown
pub record Unserved {S : Type 0} (means : Meanings S) (status : Status) (old new : S) : Type 0 where
  pub opened : status ≡ ends.NotStore → ⊥
  pub untold : (status ≡ ends.Done) ⊎ (status ≡ ends.ShowFault) → ⊥
  pub logged : means.log new ≡ means.log old

pub unserved_as : {S : Type 0} (means : Meanings S) (standing : Result Stack Misfit) (stack : Stack) (fault : OpenFault) (status : Status) (old new : S) → standing ≡ Ok stack → IsMisfit standing fault → UnopenedAs means fault status old new
    → Unserved means status old new
unserved_as means standing stack (opens.NotStore file at) status old new stood misfit says = absurd (none (sym stood ∙ misfit))
  where
    none : (let a : Result Stack Misfit = Ok stack in a) ≡ (let b : Result Stack Misfit = Err (record { file = file; at = at }) in b) → ⊥
    none e = cc e
unserved_as means standing stack (opens.Halt halts.Disk) status old new stood misfit says = record {
  opened = λ e. let f : ends.DiskFault ≡ ends.NotStore = sym says.0 ∙ e in cc f;
  untold = λ told. disk_untold (⊎_elim (λ e. inl (sym says.0 ∙ e)) (λ e. inr (sym says.0 ∙ e)) told);
  logged = says.1;
}
unserved_as means standing stack (opens.Halt halts.Memory) status old new stood misfit says = record {
  opened = λ e. let f : ends.Memory ≡ ends.NotStore = sym says.0 ∙ e in cc f;
  untold = λ told. memory_untold (⊎_elim (λ e. inl (sym says.0 ∙ e)) (λ e. inr (sym says.0 ∙ e)) told);
  logged = says.1;
}

-- ---- calls that failed

pub fault_stops : {T : Type 0} (fault : ServeFault) (result : Result T ServeFault) (old new : Counts) → result ≡ Err fault → StopsAtFault (result ≡ Err serves.DiskFault) ⊥ ⊥ old new → EndsAtFault (fault_status fault) old new
fault_stops {T} fault result old new is stopped =
    stops_as (result ≡ Err serves.DiskFault) ⊥ ⊥ (fault_status fault ≡ ends.DiskFault) (fault_status fault ≡ ends.HearFault) ((fault_status fault ≡ ends.ShowFault) ⊎ IsRefusal (fault_status fault)) old new
    (λ e. ap fault_status (same_fault (sym is ∙ e))) (λ no. absurd no) (λ no. absurd no) stopped
  where
    same_fault : (let a : Result T ServeFault = Err fault in a) ≡ (let b : Result T ServeFault = Err serves.DiskFault in b) → fault ≡ serves.DiskFault
    same_fault e = cc e

pub told_stops : {T U E : Type 0} (status : Status) (x : T) (served : Result T ServeFault) (shown : Result U E) (old mid new : Counts) → served ≡ Ok x → (IsFailure shown → status ≡ ends.ShowFault)
    → StopsAtFault (served ≡ Err serves.DiskFault) ⊥ ⊥ old mid → StopsAtFault ⊥ ⊥ (IsFailure shown) mid new → EndsAtFault status old new
told_stops {T} status x served shown old mid new is failed first then_ =
    stops_after (status ≡ ends.DiskFault) (status ≡ ends.HearFault) ((status ≡ ends.ShowFault) ⊎ IsRefusal status) old mid new
    (went_on (served ≡ Err serves.DiskFault) ⊥ ⊥ old mid (λ e. not_both (sym is ∙ e)) (λ no. no) (λ no. no) first)
    (stops_as ⊥ ⊥ (IsFailure shown) (status ≡ ends.DiskFault) (status ≡ ends.HearFault) ((status ≡ ends.ShowFault) ⊎ IsRefusal status) mid new
    (λ no. absurd no) (λ no. absurd no) (λ f. inl (failed f)) then_)
  where
    not_both : (let a : Result T ServeFault = Ok x in a) ≡ (let b : Result T ServeFault = Err serves.DiskFault in b) → ⊥
    not_both e = cc e

-- ---- machines for stacks

stand_alike : (files : Files) (machine : Machine) (stack : Stack) → HasStack machine stack → StandFor files stack → StandForMachine files machine
stand_alike files machine stack has stood = stood ∙ ap Ok (sym has)

module _ (machine : Machine) where
  fronts_of_machine : (log : List Event) → ShowsFrontsIn server_on (stack_of machine) log → ShowsFrontsIn server_of machine log
  fronts_of_machine = fronts_alike HasStack server_of server_on served_alike machine (stack_of machine) refl

  runs_of_machine : (turns : ℕ) (status : Status) (old new : Counts) (events : List Event) → RunsServer server_on (stack_of machine) turns status old new events → RunsServer server_of machine turns status old new events
  runs_of_machine turns status old new events runs = record {
    links = runs.links;
    own = runs.own;
    logged = runs.logged;
    fronts = fronts_of_machine runs.links runs.fronts;
    all = λ told.
        let all = runs.all told in
        record {
          requests = all.requests;
          hits = all.hits;
          served = counted_alike HasStack server_of server_on served_alike machine (stack_of machine) refl turns old new all.requests all.hits runs.links all.served;
          tells = all.tells;
        };
    cut = λ failed. let cut = runs.cut failed in (short_alike HasStack server_of server_on served_alike machine (stack_of machine) refl turns runs.links cut.0, cut.1);
    fewer = λ failed. let fewer = runs.fewer failed in (fewer_alike HasStack server_of server_on served_alike machine (stack_of machine) refl turns runs.links fewer.0, fewer.1);
    nothing = runs.nothing;
  }

  pub grows_of_machine : (turns : ℕ) (status : Status) (old new : Counts) (log now : Option (List Event)) → Grows (RunsServer server_on (stack_of machine) turns status old new) log now
      → Grows (RunsServer server_of machine turns status old new) log now
  grows_of_machine turns status old new log now =
      grows_weaker (RunsServer server_on (stack_of machine) turns status old new) (RunsServer server_of machine turns status old new) log now (runs_of_machine turns status old new)

  pub links_of_machine : (files : Files) (events : List Event) → SurvivesLinks server_on (stack_of machine) StandFor files events → SurvivesLinks server_of machine StandForMachine files events
  links_of_machine files events links = record {
    links = links.links;
    own = links.own;
    logged = links.logged;
    only_own = links.only_own;
    survives = survives_alike HasStack server_of server_on served_alike machine (stack_of machine) refl StandForMachine StandFor files (stand_alike files) links.links links.survives;
  }

  leaves_of_machine : {S : Type 0} (may_leave : S → Remains → Type 0) (old : S) (files : Files) (events : List Event)
      → LeavesServing may_leave old server_on (stack_of machine) StandFor files events → LeavesServing may_leave old server_of machine StandForMachine files events
  leaves_of_machine may_leave old files [] leaves = leaves
  leaves_of_machine may_leave old files (event ∷ events) links = links_of_machine files (event ∷ events) links

  pub serving_of_machine : {S : Type 0} (means : Meanings S) (old new : S)
      → LeavesOnly means old new (λ r. Grows (LeavesServing means.may_leave old server_on (stack_of machine) StandFor r.files) (means.log old) (Some r.log))
      → LeavesOnly means old new (λ r. Grows (LeavesServing means.may_leave old server_of machine StandForMachine r.files) (means.log old) (Some r.log))
  serving_of_machine means old new =
      leaves_weaker means old new _ _ (λ r.
      grows_weaker (LeavesServing means.may_leave old server_on (stack_of machine) StandFor r.files) (LeavesServing means.may_leave old server_of machine StandForMachine r.files) (means.log old) (Some r.log)
      (leaves_of_machine means.may_leave old r.files))

-- ---- words

second_of : (x a b : List ℕ) → x ∷ a ∷ [] ≡ x ∷ b ∷ [] → a ≡ b
second_of x a b is = cc is

pub turns_same : (m n : ℕ) → IsTurns m → IsTurns n → serve_words m ≡ serve_words n → m ≡ n
turns_same m n p q is = same_number m n (omega (arith, p.few)) (omega (arith, q.few)) (second_of _ _ _ is)
