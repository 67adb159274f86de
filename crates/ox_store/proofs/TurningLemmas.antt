-- Files that stand for a stack stand for it while it is written into the other one.
use Rattle.std.proofs.Common.{◌≡◌, ◌∙◌, inl, inr, ⊎_elim, ℕ, true, ◌<◌, [], refl, sym, ap, subst, arith}
use Rattle.std.specs.Prelude.{IsTrue, Ok, Some}
use Rattle.ox_outside.specs.Counts.{Rose, StopsAtFault}
use Rattle.ox_outside.specs.Crash.{Remains}
use Rattle.ox_outside.specs.Files.{Files, other}
use Rattle.ox_outside.specs.Runs.{LeavesOnly}
use Rattle.ox_outside.specs.declared.site.Site.{Ghosts as Meanings}
use Rattle.ox_outside.specs.declared.site.Which.{Which}
use Rattle.ox_outside.proofs.Calls.{leaves_at_first, leaves_then, leaves_weaker}
use Rattle.ox_outside.proofs.Counts.{no_fault_yet, stops_after, stops_as, stops_at_none, then_rose, went_on}
use Rattle.ox_checkpoint.specs.Putting.{Ended}
use Rattle.ox_checkpoint.specs.declared.put.buffer.PutFault.{PutFault}
use Rattle.ox_checkpoint.specs.declared.put.buffer.PutFault.TheVariants as puts
use Rattle.ox_gated.specs.Filling.{Poured, Pours, PoursOn, PoursUntil, StaysShut}
use Rattle.ox_gated.specs.declared.fault.Halt.{Halt}
use Rattle.ox_gated.specs.declared.fault.Halt.TheVariants as halts
use Rattle.ox_gated.specs.Layout.{Whole}
use Rattle.ox_gated.specs.OtherFile.{IsOldOrNew, MayTurn, ReadsNew}
use Rattle.ox_gated.specs.Reading.{ReadsAlike, is_present}
use Rattle.ox_gated.specs.Tail.{Holds, Kept}
use Rattle.ox_gated.specs.Writes.{OnlyWrites}
use Rattle.ox_gated.specs.WritesOn.{writes_none, writes_then}
use Rattle.ox_gated.specs.declared.head.Head.{Head}
use Rattle.ox_model.specs.Stack.{Stack}
use Rattle.ox_files.specs.Stands.{in_file, stack_in, stack_in_file, stands}
use Rattle.ox_store.specs.Heads.{Names, next_head}
use Rattle.ox_store.specs.Turning.{Goes, HasGoneOn, IsOtherFile, IsSameFile, IsTurned, MayHaveTurned, StandsAsBefore, halt_in, tail_in}
use Rattle.ox_store.specs.declared.turning.Turned.{Turned}
use Rattle.ox_store.specs.declared.turning.Turned.TheVariants.{To, GivenUp}
use Rattle.ox_store.specs.Writing.{HasOneMore, HasTurned}
use Rattle.ox_store.proofs.HeadLemmas.{names_next}

-- ---- files

pub stands_alike : (files image : Files) (stack : Stack) → ReadsAlike files image → stands files ≡ Ok stack → stands image ≡ Ok stack
stands_alike files image stack alike is = ap stack_in (alike is_present) ∙ is

pub stands_new : (file : Which) (whole : Whole) (new : Files) (stack : Stack) → whole.head.version ≡ 3 → stack_in_file whole.head whole.body [] ≡ Ok stack → ReadsNew file whole new → stands new ≡ Ok stack
stands_new file whole new stack three leads reads = ap stack_in (reads is_present (ap is_present three)) ∙ ap (in_file file) leads

stands_either : (file : Which) (whole : Whole) (files image : Files) (stack : Stack) → whole.head.version ≡ 3 → stack_in_file whole.head whole.body [] ≡ Ok stack → stands files ≡ Ok stack
    → IsOldOrNew file whole files image → stands image ≡ Ok stack
stands_either file whole files image stack three leads is = ⊎_elim (λ alike. stands_alike files image stack alike is) (λ new. stands_new file whole image stack three leads new)

-- ---- calls

module _ {S : Type 0} (means : Meanings S) (stack : Stack) where
  pub goes_alike : (failed : Type 0) (old new : S) → OnlyWrites means old new → StopsAtFault failed ⊥ ⊥ (means.counts old) (means.counts new) → (failed → Rose (means.counts old).disk (means.counts new).disk)
      → (IsTrue (means.told old) → LeavesOnly means old new (λ r. ReadsAlike (means.seen old) r.files)) → Goes means stack failed old new
  goes_alike failed old new writes counted rose leaves = record {
    writes = writes;
    counted = counted;
    rose = rose;
    moments = λ told is. leaves_weaker means old new _ _ (λ r alike. stands_alike (means.seen old) r.files stack alike is) (leaves told);
  }

  pub goes_pouring : (tail : Kept) (failed : Type 0) (old new : S) → PoursOn means tail old new → StopsAtFault failed ⊥ ⊥ (means.counts old) (means.counts new) → (failed → Rose (means.counts old).disk (means.counts new).disk)
      → Goes means stack failed old new
  goes_pouring tail failed old new pours counted rose = goes_alike failed old new pours.writes counted rose pours.moments

  pub goes_opening : (file : Which) (whole : Whole) (failed : Type 0) (old new : S) → whole.head.version ≡ 3 → stack_in_file whole.head whole.body [] ≡ Ok stack → OnlyWrites means old new
      → StopsAtFault failed ⊥ ⊥ (means.counts old) (means.counts new) → (failed → Rose (means.counts old).disk (means.counts new).disk)
      → (IsTrue (means.told old) → LeavesOnly means old new (λ r. IsOldOrNew file whole (means.seen old) r.files)) → Goes means stack failed old new
  goes_opening file whole failed old new three leads writes counted rose leaves = record {
    writes = writes;
    counted = counted;
    rose = rose;
    moments = λ told is. leaves_weaker means old new _ _ (λ r either. stands_either file whole (means.seen old) r.files stack three leads is either) (leaves told);
  }

  pub goes_as : (first next : Type 0) (old new : S) → (first → next) → (next → first) → Goes means stack first old new → Goes means stack next old new
  goes_as first next old new to from goes = record {
    writes = goes.writes;
    counted = stops_as first ⊥ ⊥ next ⊥ ⊥ _ _ to (λ no. no) (λ no. no) goes.counted;
    rose = λ failed. goes.rose (from failed);
    moments = goes.moments;
  }

  module _ (logs_now : (site : S) (r : Remains) → means.may_leave site r → means.log site ≡ Some r.log) where
    pub goes_then : (first next : Type 0) (old mid new : S) → Goes means stack first old mid → ¬ first → (IsTrue (means.told old) → stands (means.seen old) ≡ Ok stack → stands (means.seen mid) ≡ Ok stack)
        → Goes means stack next mid new → Goes means stack next old new
    goes_then first next old mid new goes none stays then_ = record {
      writes = writes_then means logs_now old mid new goes.writes then_.writes;
      counted = stops_after _ _ _ _ _ _ (went_on first ⊥ ⊥ _ _ none (λ no. no) (λ no. no) goes.counted) then_.counted;
      rose = λ failed. then_rose _ _ _ goes.writes.calls.none_fell.disk (then_.rose failed);
      moments = λ told is. leaves_then means old mid new _ (goes.moments told is) (then_.moments (subst IsTrue (sym goes.writes.calls.as_told) told) (stays told is));
    }

    pub stands_then : (failed : Type 0) (old mid new : S) → Goes means stack failed old mid → StandsAsBefore means stack old mid → StandsAsBefore means stack mid new → StandsAsBefore means stack old new
    stands_then failed old mid new goes first next told is = next (subst IsTrue (sym goes.writes.calls.as_told) told) (first told is)

    pub goes_none : (only_now : (site : S) (r : Remains) → means.left_since site (means.clock site) r → means.may_leave site r) (failed : Type 0) (tail : Kept) (site : S)
        → ¬ failed → (IsTrue (means.told site) → Holds means tail site) → Goes means stack failed site site
    goes_none only_now failed tail site none holds = record {
      writes = writes_none means only_now logs_now site;
      counted = stops_at_none _ _ _ _ _ (no_fault_yet (means.counts site));
      rose = λ is. absurd (none is);
      moments = λ told is. leaves_at_first means site _ (λ r left. ap stands ((holds told).settled r (only_now site r left)) ∙ is);
    }

-- ---- what came of a body

module _ {S : Type 0} (means : Meanings S) where
  -- calls of a file that is filled, of which none failed, or the last one
  abbrev pub filled_on : Poured → S → Poured → S → Type 0
  filled_on k old l new = (l.tail ≡ k.tail) × Pours means k.tail old new

  abbrev pub filled_until : Poured → S → Halt → Poured → S → Type 0
  filled_until k old halt l new = (l.tail ≡ k.tail) × PoursUntil means k.tail old halt new

  pub record Ends (k : Poured) (old : S) (disk : Type 0) (l : Poured) (new : S) : Type 0 where
    pub kept : l.tail ≡ k.tail
    pub on : PoursOn means k.tail old new
    pub counted : StopsAtFault disk ⊥ ⊥ (means.counts old) (means.counts new)
    pub rose : disk → Rose (means.counts old).disk (means.counts new).disk

  pub ends_well : (k : Poured) (old : S) (disk : Type 0) (l : Poured) (new : S) → ¬ disk → filled_on k old l new → Ends k old disk l new
  ends_well k old disk l new none went = record {
    kept = went.0;
    on = went.1.on;
    counted = stops_at_none _ _ _ _ _ went.1.counted;
    rose = λ is. absurd (none is);
  }

  pub memory_is : (halt : Halt) → halt ≡ halts.Memory → halt ≡ halts.Disk → ⊥
  memory_is halt is disk = not_both_halts (sym is ∙ disk) where
    not_both_halts : halts.Memory ≡ halts.Disk → ⊥
    not_both_halts same = cc same

  pub ends_so : (k : Poured) (old : S) (fault : PutFault Halt) (l : Poured) (new : S) → Ended filled_on filled_until k old fault l new → Ends k old (halt_in fault ≡ halts.Disk) l new
  ends_so k old puts.Memory l new went = ends_well k old (halts.Memory ≡ halts.Disk) l new (memory_is halts.Memory refl) went
  ends_so k old (puts.Sink halt) l new ended = record { kept = ended.0; on = ended.1.on; counted = ended.1.counted; rose = ended.1.failed }

  pub ends_as : (k : Poured) (old : S) (first next : Type 0) (l : Poured) (new : S) → (first → next) → (next → first) → Ends k old first l new → Ends k old next l new
  ends_as k old first next l new to from ends = record {
    kept = ends.kept;
    on = ends.on;
    counted = stops_as first ⊥ ⊥ next ⊥ ⊥ _ _ to (λ no. no) (λ no. no) ends.counted;
    rose = λ is. ends.rose (from is);
  }

  pub shut_so : (k : Poured) (old : S) (disk : Type 0) (l : Poured) (new : S) → Ends k old disk l new → IsTrue (means.told old) → StaysShut means l.tail new
  shut_so k old disk l new ends told = subst (λ (t : Kept). StaysShut means t new) (sym ends.kept) (ends.on.stays told)

-- ---- the tail

not_two : (version : ℕ) → version ≡ 2 → version ≡ 3 → ⊥
not_two version two three = omega (arith, two, three)

same_more : (old after new : Kept) → HasOneMore old after → IsSameFile after new → HasOneMore old new
same_more old after new more same = record { file = same.file ∙ more.file; head = same.head ∙ more.head; records = same.records ∙ more.records }

-- at version 2 nothing turns behind a record
pub still_more : (old after new : Kept) → old.head.version ≡ 2 → HasOneMore old after → MayHaveTurned after new → HasOneMore old new
still_more old after new two more = ⊎_elim
    (λ same. same_more old after new more same)
    (λ turned. absurd (not_two after.head.version (ap (λ (h : Head). h.version) more.head ∙ two) turned.0.0))

-- nor behind a file that turned
pub still_turned : (old after new : Kept) → old.head.version ≡ 2 → HasTurned old after → MayHaveTurned after new → HasTurned old new
still_turned old after new two first = ⊎_elim
    (λ same. record { file = same.file ∙ first.file; head = same.head ∙ first.head; records = same.records ∙ first.records })
    (λ turned. absurd (not_two after.head.version (ap (λ (h : Head). h.version) first.head ∙ two) turned.0.0))

pub gone_on : (old after new : Kept) → HasOneMore old after → MayHaveTurned after new → HasGoneOn old new
gone_on old after new more = ⊎_elim
    (λ same. inl (same_more old after new more same))
    (λ turned. inr (after, more, turned.0, turned.1))

pub not_due : (version : ℕ) → version ≡ 3 → version ≡ 2 → ⊥
not_due version three two = omega (arith, two, three)

pub names_so : (old new : Head) (stack : Stack) → new ≡ old → Names old stack → Names new stack
names_so old new stack same names = subst (λ (h : Head). Names h stack) (sym same) names

pub may_have_turned : (old new : Kept) (head : Head) (turned : Turned) → MayTurn old → head ≡ next_head old.head → IsTurned old head turned → new ≡ tail_in turned → MayHaveTurned old new
may_have_turned old new head (To tail) may is turned same = inr (
  may,
  record {
    file = ap (λ (t : Kept). t.file) same ∙ turned.file;
    head = ap (λ (t : Kept). t.head) same ∙ turned.head ∙ is;
    records = ap (λ (t : Kept). t.records) same ∙ turned.records;
  },
)
may_have_turned old new head (GivenUp tail) may is turned same = inl (record {
  file = ap (λ (t : Kept). t.file) same ∙ turned.file;
  head = ap (λ (t : Kept). t.head) same ∙ turned.head;
  records = ap (λ (t : Kept). t.records) same ∙ turned.records;
})

pub other_so : (tail first second new : Kept) (head : Head) → first ≡ record tail { other_closed = true } → second ≡ first → IsOtherFile second head new → IsOtherFile tail head new
other_so tail first second new head closed same is = record {
  file = is.file ∙ ap (λ (t : Kept). other t.file) (same ∙ closed);
  head = is.head;
  records = is.records;
}

pub same_so : (tail first second new : Kept) → first ≡ record tail { other_closed = true } → second ≡ first → new ≡ second → IsSameFile tail new
same_so tail first second new closed same is = record {
  file = ap (λ (t : Kept). t.file) (is ∙ same ∙ closed);
  head = ap (λ (t : Kept). t.head) (is ∙ same ∙ closed);
  records = ap (λ (t : Kept). t.records) (is ∙ same ∙ closed);
}

pub lesser_so : (tail first second : Kept) (generation : ℕ) → first ≡ record tail { other_closed = true } → second ≡ first → tail.head.generation < generation → second.head.generation < generation
lesser_so tail first second generation closed same less = subst (λ (t : Kept). t.head.generation < generation) (sym (same ∙ closed)) less

pub names_turned : (old new : Kept) (stack : Stack) → Names old.head stack → MayHaveTurned old new → Names new.head stack
names_turned old new stack names = ⊎_elim
    (λ same. names_so old.head new.head stack same.head names)
    (λ turned. names_so (next_head old.head) new.head stack turned.1.head (names_next old.head stack names))
