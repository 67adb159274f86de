-- How a run that only talks goes on: the files that a crash leaves during it, and how its log grows.
use Rattle.std.proofs.Common.{◌≡◌, ◌∙◌, Bool, List, [], ◌++◌, Some, refl, sym, subst}
use Rattle.std.specs.Prelude.{IsTrue}
use Rattle.ox_outside.specs.Event.{Event}
use Rattle.ox_outside.specs.Files.{Files}
use Rattle.ox_outside.specs.Log.{Grows}
use Rattle.ox_outside.specs.Crash.{Remains, LeavesFiles, OneCall}
use Rattle.ox_outside.specs.Runs.{OnlyLooks, Talked, OnlyTalks}
use Rattle.ox_outside.specs.declared.site.Site.{Ghosts as Meanings}
use Rattle.ox_outside.proofs.Calls.{no_call, calls_then, then_call}
use Rattle.ox_outside.proofs.Calls.{leaves_on, leaves_at_first, leaves_then, leaves_weaker}
use Rattle.ox_outside.proofs.Log.{grows_none, grows_weaker, grows_then, grows_same}

-- the files that a crash leaves
module _ {S : Type 0} (seen : S → Files) (may_leave : S → Remains → Type 0) where
  pub leaves_files_none : (site : S) → LeavesFiles seen may_leave site site
  leaves_files_none site = record { files = refl; none_new = λ r left. (r, left, refl); none_gone = λ q left. (q, left, refl) }

  pub leaves_files_then : (old mid new : S) → LeavesFiles seen may_leave old mid → LeavesFiles seen may_leave mid new → LeavesFiles seen may_leave old new
  leaves_files_then old mid new first then_ = record {
    files = then_.files ∙ first.files;
    none_new = λ r left.
        let m = then_.none_new r left in
        let q = first.none_new m.0 m.1 in
        (q.0, q.1, m.2 ∙ q.2);
    none_gone = λ q left.
        let m = first.none_gone q left in
        let r = then_.none_gone m.0 m.1 in
        (r.0, r.1, m.2 ∙ r.2);
  }

-- what remains of a run that only talks
module _ {S : Type 0} (means : Meanings S) where
  talked_weaker : (P Q : List Event → Type 0) (old : S) → ((added : List Event) → P added → Q added) → (r : Remains) → Talked means P old r → Talked means Q old r
  talked_weaker P Q old weaker r talked = record { files = talked.files; grown = grows_weaker P Q (means.log old) (Some r.log) weaker talked.grown }

  -- after a first run with P', what remains of a second
  talked_then : (P' Q R : List Event → Type 0) (old mid : S) → ((x y : List Event) → P' x → Q y → R (x ++ y)) → LeavesFiles means.seen means.may_leave old mid
      → Grows P' (means.log old) (means.log mid) → (r : Remains) → Talked means Q mid r → Talked means R old r
  talked_then P' Q R old mid joins files grown r talked =
      let m = talked.files in
      let q = files.none_new m.0 m.1 in
      record { files = (q.0, q.1, m.2 ∙ q.2); grown = grows_then P' Q R (means.log old) (means.log mid) (Some r.log) joins grown talked.grown }

  -- what remains when a run has ended, where a crash leaves the log as it stands
  talked_now : (P : List Event → Type 0) (old new : S) (r : Remains) → means.log new ≡ Some r.log → LeavesFiles means.seen means.may_leave old new
      → Grows P (means.log old) (means.log new) → means.may_leave new r → Talked means P old r
  talked_now P old new r as_logged files grown left = record { files = files.none_new r left; grown = grows_same P (means.log old) (means.log new) (Some r.log) grown (sym as_logged) }

-- Runs that only talk. Some need laws of a site: that since a moment there is no other, that a crash leaves the log as
-- it stands, and that the files as they read are what a crash may leave of them.
module _ {S : Type 0} (means : Meanings S) where
  abbrev OnlyNow : Type 0
  OnlyNow = (site : S) (r : Remains) → means.left_since site (means.clock site) r → means.may_leave site r

  abbrev LogsNow : Type 0
  LogsNow = (site : S) (r : Remains) → means.may_leave site r → means.log site ≡ Some r.log

  abbrev ReadsNow : Type 0
  ReadsNow = (site : S) → IsTrue (means.told site) → (events : List Event) × (means.log site ≡ Some events) × means.may_leave site (record { files = means.seen site; log = events })

  abbrev Looks : S → S → Type 0
  Looks old new = OnlyLooks means old new

  abbrev Talks : (List Event → Type 0) → S → S → Type 0
  Talks P old new = OnlyTalks means P old new

  -- before the first call
  pub talks_none : OnlyNow → LogsNow → (P : List Event → Type 0) (site : S) → P [] → Talks P site site
  talks_none only_now logs_now P site none = record {
    calls = no_call means site;
    files = leaves_files_none means.seen means.may_leave site;
    moments = leaves_at_first means site (Talked means P site) (λ r left.
        let now = only_now site r left in
        talked_now means P site site r (logs_now site r now) (leaves_files_none means.seen means.may_leave site) (grows_none P (means.log site) none) now);
  }

  -- one call more
  pub talks_call : LogsNow → (P : List Event → Type 0) (old mid new : S) → Talks P old mid → LeavesFiles means.seen means.may_leave mid new
      → OneCall means.told means.counts means.clock means.may_leave means.left_since mid new → Grows P (means.log old) (means.log new) → Talks P old new
  talks_call logs_now P old mid new first files call grown =
      let both = leaves_files_then means.seen means.may_leave old mid new first.files files in
      record {
        calls = then_call means old mid new first.calls call;
        files = both;
        moments = leaves_on means old mid new (Talked means P old) first.moments call
            (λ r left. talked_now means P old new r (logs_now new r left) both grown left);
      }

  -- one call alone
  pub talks_once : OnlyNow → LogsNow → (P : List Event → Type 0) (old new : S) → P [] → LeavesFiles means.seen means.may_leave old new
      → OneCall means.told means.counts means.clock means.may_leave means.left_since old new → Grows P (means.log old) (means.log new) → Talks P old new
  talks_once only_now logs_now P old new none files call grown = talks_call logs_now P old old new (talks_none only_now logs_now P old none) files call grown

  -- two runs, one after the other, of which the first has added events with P' in the end
  pub talks_then : (P P' Q R : List Event → Type 0) (old mid new : S) → ((x : List Event) → P x → R x) → ((x y : List Event) → P' x → Q y → R (x ++ y))
      → Talks P old mid → Grows P' (means.log old) (means.log mid) → Talks Q mid new → Talks R old new
  talks_then P P' Q R old mid new before joins first grown then_ = record {
    calls = calls_then means old mid new first.calls then_.calls;
    files = leaves_files_then means.seen means.may_leave old mid new first.files then_.files;
    moments = leaves_then means old mid new (Talked means R old)
        (leaves_weaker means old mid (Talked means P old) (Talked means R old) (talked_weaker means P R old before) first.moments)
        (leaves_weaker means mid new (Talked means Q mid) (Talked means R old) (talked_then means P' Q R old mid joins first.files grown) then_.moments);
  }

  pub talks_weaker : (P Q : List Event → Type 0) (old new : S) → ((x : List Event) → P x → Q x) → Talks P old new → Talks Q old new
  talks_weaker P Q old new weaker talks = record {
    calls = talks.calls;
    files = talks.files;
    moments = leaves_weaker means old new (Talked means P old) (Talked means Q old) (talked_weaker means P Q old weaker) talks.moments;
  }

  -- A run that only looks is one that only talks, where a crash leaves all files that it left before: a run that syncs
  -- a file only looks too, and then a crash leaves fewer.
  pub looks_talk : LogsNow → (P : List Event → Type 0) (old new : S) → P [] → LeavesFiles means.seen means.may_leave old new → Looks old new → Talks P old new
  looks_talk logs_now P old new none files looks = record {
    calls = looks.calls;
    files = files;
    moments = leaves_weaker means old new (means.may_leave old) (Talked means P old) (λ r left.
        talked_now means P old old r (logs_now old r left) (leaves_files_none means.seen means.may_leave old) (grows_none P (means.log old) none) left) looks.moments;
  }

  -- So it is where the site tells its files, and a crash left of them what a read gives.
  pub looks_leave_files : ReadsNow → (old new : S) → IsTrue (means.told old) → ((r : Remains) → means.may_leave old r → r.files ≡ means.seen old) → Looks old new
      → LeavesFiles means.seen means.may_leave old new
  looks_leave_files reads_now old new tells settled looks = record {
    files = looks.nothing.files;
    none_new = λ r left. (r, looks.nothing.crash r left, refl);
    none_gone = λ q left.
        let now = reads_now new (subst (λ (b : Bool). IsTrue b) (sym looks.calls.as_told) tells) in
        (record { files = means.seen new; log = now.0 }, now.2, settled q left ∙ sym looks.nothing.files);
  }
