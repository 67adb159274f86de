-- Of the calls of a run none fails but the last.
use Rattle.std.proofs.Common.{◌≡◌, ◌∙◌, ◌⊎◌, inl, inr, ℕ, false, eqb, refl, sym, ap, subst, arith}
use Rattle.std.specs.Prelude.{Result, Ok, Err, IsErrOf}
use Rattle.ox_outside.specs.Counts.{Counts, CountsShowing, FailsLast, IsFailure, NoFault, StopsAtFault}
use Rattle.ox_outside.proofs.Counts.{own_showing, stops_after, stops_as, went_on}
use Rattle.ox_outside.specs.declared.site.Site.{Ghosts as Meanings}
use Rattle.ox_feed.specs.declared.lines.FeedFault.{FeedFault}
use Rattle.ox_feed.specs.declared.lines.FeedFault.TheVariants as feeds
use Rattle.ox_gated.specs.declared.fault.Halt.TheVariants as halts
use Rattle.ox_store.specs.declared.fault.MakeFault.{MakeFault}
use Rattle.ox_store.specs.declared.fault.MakeFault.TheVariants as makes
use Rattle.ox_store.specs.declared.fault.OpenFault.{OpenFault}
use Rattle.ox_store.specs.declared.fault.OpenFault.TheVariants as opens
use Rattle.ox_app.specs.Fold.{stop_of}
use Rattle.ox_app.specs.Show.{EndsAtFault, EndsAtStop, MayFailToShow}
use Rattle.ox_app.specs.Status.{IsRefusal, code_of, status_of}
use Rattle.ox_app.specs.Unopened.{UnopenedAs}
use Rattle.ox_app.specs.declared.status.Status.{Status}
use Rattle.ox_app.specs.declared.status.Status.TheVariants as ends
use Rattle.ox_app.specs.declared.stop.Stop.{Stop}
use Rattle.ox_app.specs.declared.stop.Stop.TheVariants as stops
use Rattle.ox_app.proofs.Statuses.{ends_apart}

-- ---- parts that went on

-- of a part that ended well no call failed
pub part_went : {T : Type 0} (x : T) (old new : Counts) → EndsAtStop (Ok x) old new → NoFault old new
part_went {T} x old new stopped =
    went_on (IsErrOf {T = T} {E = Stop} (Ok x) (stops.Halt halts.Disk)) (IsErrOf {T = T} {E = Stop} (Ok x) stops.HearFault) (IsErrOf {T = T} {E = Stop} (Ok x) stops.ShowFault) old new
    (λ is. cc is) (λ is. cc is) (λ is. cc is) stopped

-- of showings that all worked none failed
pub all_shown : (old new : Counts) → StopsAtFault ⊥ ⊥ ⊥ old new → NoFault old new
all_shown old new stopped = went_on ⊥ ⊥ ⊥ old new (λ no. no) (λ no. no) (λ no. no) stopped

pub opened_well : {T : Type 0} (x : T) (old new : Counts) → StopsAtFault (IsErrOf {T = T} {E = OpenFault} (Ok x) (opens.Halt halts.Disk)) ⊥ ⊥ old new → NoFault old new
opened_well {T} x old new stopped = went_on (IsErrOf {T = T} {E = OpenFault} (Ok x) (opens.Halt halts.Disk)) ⊥ ⊥ old new (λ is. cc is) (λ no. no) (λ no. no) stopped

-- ---- parts that stopped

-- why a part stopped is why the whole did
pub part_stops : {T U : Type 0} (result : Result U Stop) (stop : Stop) (old mid new : Counts) → result ≡ Err stop → NoFault old mid → EndsAtStop {T = T} (Err stop) mid new → EndsAtStop result old new
part_stops {T} {U} result stop old mid new is none stopped =
    stops_after (IsErrOf result (stops.Halt halts.Disk)) (IsErrOf result stops.HearFault) (IsErrOf result stops.ShowFault) old mid new none
    (stops_as (IsErrOf {T = T} (Err stop) (stops.Halt halts.Disk)) (IsErrOf {T = T} (Err stop) stops.HearFault) (IsErrOf {T = T} (Err stop) stops.ShowFault)
    (IsErrOf result (stops.Halt halts.Disk)) (IsErrOf result stops.HearFault) (IsErrOf result stops.ShowFault) mid new
    (λ e. let same : stop ≡ stops.Halt halts.Disk = cc e in is ∙ ap Err same)
    (λ e. let same : stop ≡ stops.HearFault = cc e in is ∙ ap Err same)
    (λ e. let same : stop ≡ stops.ShowFault = cc e in is ∙ ap Err same) stopped)

-- a line that isn't heard
pub feed_stops : {T U : Type 0} (result : Result U Stop) (fault : FeedFault) (old new : Counts) → result ≡ Err (stop_of fault) → StopsAtFault ⊥ (IsErrOf {T = T} {E = FeedFault} (Err fault) feeds.HearFault) ⊥ old new → EndsAtStop result old new
feed_stops {T} {U} result fault old new is stopped =
    stops_as ⊥ (IsErrOf {T = T} {E = FeedFault} (Err fault) feeds.HearFault) ⊥ (IsErrOf result (stops.Halt halts.Disk)) (IsErrOf result stops.HearFault) (IsErrOf result stops.ShowFault) old new
    (λ no. absurd no)
    (λ e. let same : fault ≡ feeds.HearFault = cc e in is ∙ ap (λ (f : FeedFault). Err (stop_of f)) same)
    (λ no. absurd no) stopped

-- bytes that aren't shown whole
pub show_stops : {U E : Type 0} {T : Type 0} (answer : Result T E) (result : Result U Stop) (old mid new : Counts) → result ≡ Err stops.ShowFault → NoFault old mid → StopsAtFault ⊥ ⊥ (IsFailure answer) mid new → EndsAtStop result old new
show_stops answer result old mid new is none stopped =
    stops_after (IsErrOf result (stops.Halt halts.Disk)) (IsErrOf result stops.HearFault) (IsErrOf result stops.ShowFault) old mid new none
    (stops_as ⊥ ⊥ (IsFailure answer) (IsErrOf result (stops.Halt halts.Disk)) (IsErrOf result stops.HearFault) (IsErrOf result stops.ShowFault) mid new
    (λ no. absurd no) (λ no. absurd no) (λ failed. is) stopped)

-- a showing that failed stopped the bytes
pub piece_stops : {T E U F : Type 0} (answer : Result T E) (result : Result U F) (e : F) (old mid new : Counts) → result ≡ Err e → NoFault old mid → CountsShowing 0 answer mid new → StopsAtFault ⊥ ⊥ (IsFailure result) old new
piece_stops answer result e old mid new is none counted =
    stops_after ⊥ ⊥ (IsFailure result) old mid new none
    (stops_as ⊥ ⊥ (IsFailure answer) ⊥ ⊥ (IsFailure result) mid new (λ no. no) (λ no. no) (λ failed. subst IsFailure (sym is) tt) (own_showing answer mid new counted))

-- a part stops for one reason
-- two stops that differ, by how they end a run
pub stops_apart : (a b : Stop) → eqb (code_of (status_of (Err a))) (code_of (status_of (Err b))) ≡ false → a ≡ b → ⊥
stops_apart a b differ is = ends_apart (status_of (Err a)) (status_of (Err b)) differ (ap (λ (s : Stop). status_of (Err s)) is)

-- what is done wasn't stopped
pub unstopped : {T : Type 0} {done : T} (stop : Stop) → ◌≡◌ {A = Result T Stop} (Ok done) (Err stop) → ⊥
unstopped stop is = cc is

pub stopped_as : {T : Type 0} (result : Result T Stop) (stop other : Stop) → result ≡ Err stop → IsErrOf result other → stop ≡ other
stopped_as {T} result stop other is e =
    let both : ◌≡◌ {A = Result T Stop} (Err stop) (Err other) = sym is ∙ e in
    cc both

-- ---- runs

-- a run over a feed stopped as its stop says
pub status_stops : (result : Result (Unit {0}) Stop) (old mid new : Counts) → NoFault old mid → EndsAtStop result mid new → EndsAtFault (status_of result) old new
status_stops result old mid new none stopped =
    stops_after (status_of result ≡ ends.DiskFault) (status_of result ≡ ends.HearFault) ((status_of result ≡ ends.ShowFault) ⊎ IsRefusal (status_of result)) old mid new none
    (stops_as (IsErrOf result (stops.Halt halts.Disk)) (IsErrOf result stops.HearFault) (IsErrOf result stops.ShowFault)
    (status_of result ≡ ends.DiskFault) (status_of result ≡ ends.HearFault) ((status_of result ≡ ends.ShowFault) ⊎ IsRefusal (status_of result)) mid new
    (λ is. ap status_of is) (λ is. ap status_of is) (λ is. inl (ap status_of is)) stopped)

-- a failure, and then no other
fails_before : (failed : Type 0) (old mid new : ℕ) → FailsLast failed old mid → new ≡ mid → FailsLast failed old new
fails_before failed old mid new last same = record { most = omega (arith, same, last.most); unless = λ no. same ∙ last.unless no }

stops_before : (disk hear show : Type 0) (old mid new : Counts) → StopsAtFault disk hear show old mid → NoFault mid new → StopsAtFault disk hear show old new
stops_before disk hear show old mid new stopped none = record {
  of_disk = fails_before disk _ _ _ stopped.of_disk none.disk;
  of_hear = fails_before hear _ _ _ stopped.of_hear none.hear;
  of_show = fails_before show _ _ _ stopped.of_show none.show;
}

-- only a line of refusal is shown behind an opening that failed, and none where the disk did
shown_as : (status : Status) (old new : Counts) → StopsAtFault ⊥ ⊥ (status ≡ ends.NotStore) old new → EndsAtFault status old new
shown_as status old new stopped =
    stops_as ⊥ ⊥ (status ≡ ends.NotStore) (status ≡ ends.DiskFault) (status ≡ ends.HearFault) ((status ≡ ends.ShowFault) ⊎ IsRefusal status) old new
    (λ no. absurd no) (λ no. absurd no) (λ is. inr (inr (inr (inl is)))) stopped

pub unopened_stops : {S T : Type 0} (means : Meanings S) (fault : OpenFault) (status : Status) (old mid new : S) → UnopenedAs means fault status mid new
    → StopsAtFault (IsErrOf {T = T} {E = OpenFault} (Err fault) (opens.Halt halts.Disk)) ⊥ ⊥ (means.counts old) (means.counts mid)
    → StopsAtFault ⊥ ⊥ (status ≡ ends.NotStore) (means.counts mid) (means.counts new) → EndsAtFault status (means.counts old) (means.counts new)
unopened_stops {S} {T} means (opens.NotStore file at) status old mid new says first then_ =
    stops_after (status ≡ ends.DiskFault) (status ≡ ends.HearFault) ((status ≡ ends.ShowFault) ⊎ IsRefusal status) _ _ _
    (went_on (IsErrOf {T = T} {E = OpenFault} (Err (opens.NotStore file at)) (opens.Halt halts.Disk)) ⊥ ⊥ _ _ (λ is. cc is) (λ no. no) (λ no. no) first) (shown_as status _ _ then_)
unopened_stops {S} {T} means (opens.Halt halts.Disk) status old mid new says first then_ =
    stops_before (status ≡ ends.DiskFault) (status ≡ ends.HearFault) ((status ≡ ends.ShowFault) ⊎ IsRefusal status) _ _ _
    (stops_as (IsErrOf {T = T} {E = OpenFault} (Err (opens.Halt halts.Disk)) (opens.Halt halts.Disk)) ⊥ ⊥ (status ≡ ends.DiskFault) (status ≡ ends.HearFault) ((status ≡ ends.ShowFault) ⊎ IsRefusal status) _ _
    (λ is. says.0) (λ no. absurd no) (λ no. absurd no) first)
    (went_on ⊥ ⊥ (status ≡ ends.NotStore) _ _ (λ no. no) (λ no. no) (λ is. let e : ends.DiskFault ≡ ends.NotStore = sym says.0 ∙ is in cc e) then_)
unopened_stops {S} {T} means (opens.Halt halts.Memory) status old mid new says first then_ =
    stops_after (status ≡ ends.DiskFault) (status ≡ ends.HearFault) ((status ≡ ends.ShowFault) ⊎ IsRefusal status) _ _ _
    (went_on (IsErrOf {T = T} {E = OpenFault} (Err (opens.Halt halts.Memory)) (opens.Halt halts.Disk)) ⊥ ⊥ _ _ (λ is. cc is) (λ no. no) (λ no. no) first) (shown_as status _ _ then_)

-- where memory ran out, it wasn't the disk that failed
pub not_disk : {S T : Type 0} (means : Meanings S) (fault : OpenFault) (status : Status) (old new : S) → UnopenedAs means fault status old new → status ≡ ends.Memory → IsErrOf {T = T} (Err fault) (opens.Halt halts.Disk) → ⊥
not_disk means (opens.NotStore file at) status old new says is e = cc e
not_disk means (opens.Halt halts.Disk) status old new says is e = let same : ends.DiskFault ≡ ends.Memory = sym says.0 ∙ is in cc same
not_disk means (opens.Halt halts.Memory) status old new says is e = cc e

-- bytes are shown behind calls of which none failed
pub told_stops : (status : Status) (old mid new : Counts) → NoFault old mid → StopsAtFault ⊥ ⊥ (status ≡ ends.ShowFault) mid new → EndsAtFault status old new
told_stops status old mid new none told =
    stops_after (status ≡ ends.DiskFault) (status ≡ ends.HearFault) ((status ≡ ends.ShowFault) ⊎ IsRefusal status) old mid new none
    (stops_as ⊥ ⊥ (status ≡ ends.ShowFault) (status ≡ ends.DiskFault) (status ≡ ends.HearFault) ((status ≡ ends.ShowFault) ⊎ IsRefusal status) mid new
    (λ no. absurd no) (λ no. absurd no) (λ is. inl is) told)

-- ---- lines of refusal

pub said_stops : (status : Status) (old mid new : Counts) → IsRefusal status → NoFault old mid → MayFailToShow mid new → EndsAtFault status old new
said_stops status old mid new refuses none said =
    stops_after (status ≡ ends.DiskFault) (status ≡ ends.HearFault) ((status ≡ ends.ShowFault) ⊎ IsRefusal status) old mid new none
    (stops_as ⊥ ⊥ (Unit {0}) (status ≡ ends.DiskFault) (status ≡ ends.HearFault) ((status ≡ ends.ShowFault) ⊎ IsRefusal status) mid new
    (λ no. absurd no) (λ no. absurd no) (λ _. inr refuses) said)

-- a store that is made, and a drill that came to its line
pub made_well : {T : Type 0} (x : T) (old new : Counts) → StopsAtFault (IsErrOf {T = T} {E = MakeFault} (Ok x) (makes.Halt halts.Disk)) ⊥ ⊥ old new → NoFault old new
made_well {T} x old new stopped = went_on (IsErrOf {T = T} {E = MakeFault} (Ok x) (makes.Halt halts.Disk)) ⊥ ⊥ old new (λ is. cc is) (λ no. no) (λ no. no) stopped

pub make_disk_stops : {T : Type 0} (fault : MakeFault) (old new : Counts) → StopsAtFault (IsErrOf {T = T} (Err fault) (makes.Halt halts.Disk)) ⊥ ⊥ old new → EndsAtFault ends.DiskFault old new
make_disk_stops {T} fault old new stopped =
    stops_as (IsErrOf {T = T} (Err fault) (makes.Halt halts.Disk)) ⊥ ⊥ (ends.DiskFault ≡ ends.DiskFault) (ends.DiskFault ≡ ends.HearFault) ((ends.DiskFault ≡ ends.ShowFault) ⊎ IsRefusal ends.DiskFault) old new
    (λ is. refl) (λ no. absurd no) (λ no. absurd no) stopped

pub memory_made : (fault : MakeFault) → fault ≡ makes.Halt halts.Memory → fault ≡ makes.Halt halts.Disk → ⊥
memory_made fault is other = let e : makes.Halt halts.Memory ≡ makes.Halt halts.Disk = sym is ∙ other in cc e

pub none_made : (fault : MakeFault) → fault ≡ makes.NotEmpty → fault ≡ makes.Halt halts.Disk → ⊥
none_made fault is other = let e : makes.NotEmpty ≡ makes.Halt halts.Disk = sym is ∙ other in cc e

-- a store that isn't made for another reason than the disk
pub not_made : {T : Type 0} (fault : MakeFault) (old new : Counts) → (fault ≡ makes.Halt halts.Disk → ⊥) → StopsAtFault (IsErrOf {T = T} (Err fault) (makes.Halt halts.Disk)) ⊥ ⊥ old new → NoFault old new
not_made {T} fault old new other stopped =
    went_on (IsErrOf {T = T} (Err fault) (makes.Halt halts.Disk)) ⊥ ⊥ old new (λ is. let e : fault ≡ makes.Halt halts.Disk = cc is in other e) (λ no. no) (λ no. no) stopped
