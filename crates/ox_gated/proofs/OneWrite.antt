-- One write and its sync, and what is answered where a call failed.
use Rattle.std.proofs.Common.{◌≡◌, ◌∙◌, ℕ, sym, ap, subst}
use Rattle.std.specs.Prelude.{Result, Ok, Err, IfOk, OnOk, OnErr, IsErrOf, Some, None}
use Rattle.std.proofs.lemmas.Result.{on_err_weaker, on_ok_weaker}
use Rattle.ox_outside.specs.Counts.{Counts, CountsFile, IsFailure, Rose, StopsAtFault, NoFault, NoneFell}
use Rattle.ox_outside.specs.Crash.{Remains, Tears, Follows, Only, AddsNothing, OneCall}
use Rattle.ox_outside.specs.Files.{Files, file_of, other, TornFile}
use Rattle.ox_outside.specs.Runs.{LeavesOnly, OnlyLooks}
use Rattle.ox_outside.specs.declared.site.Site.{Ghosts as Meanings}
use Rattle.ox_outside.specs.declared.site.Which.{Which}
use Rattle.ox_outside.specs.declared.site.Which.TheVariants.{A, B}
use Rattle.ox_outside.proofs.Calls.{one_call, leaves_at_first, leaves_on, looks_call, looks_none}
use Rattle.ox_outside.proofs.Counts.{file_call, stops_as, then_rose, went_on}
use Rattle.ox_gated.specs.declared.fault.GateFault.{GateFault}
use Rattle.ox_gated.specs.declared.fault.GateFault.TheVariants as gates
use Rattle.ox_gated.specs.declared.fault.Halt.{Halt}
use Rattle.ox_gated.specs.declared.fault.Halt.TheVariants as halts
use Rattle.ox_gated.specs.Tail.{IsSettled}
use Rattle.ox_gated.specs.Writes.{OnlyWrites}
use Rattle.ox_gated.proofs.Pieces.{not_torn}
use Rattle.ox_gated.proofs.Writing.{all_worked}

-- ---- the answer of a `?` that returns

module _ {T E : Type 0} (result : Result T E) (e : E) (is : result ≡ Err e) where
  pub if_none : (P : T → Type 0) → IfOk result P
  if_none P = subst (λ (r : Result T E). IfOk r P) (sym is) tt

  pub on_none : (P : Type 0) → OnOk result P
  on_none P = subst (λ (r : Result T E). OnOk r P) (sym is) tt

  pub on_failed : (P : Type 0) → P → OnErr result P
  on_failed P p = subst (λ (r : Result T E). OnErr r P) (sym is) p

-- ---- counts

-- a call on a file that did its work
pub file_worked : {T E : Type 0} (x : T) (old new : Counts) → CountsFile {E = E} (Ok x) old new → NoFault old new
file_worked x old new counted = all_worked old new (file_call (Ok x) old new counted)

-- after calls of which no count fell
pub rose_after : {T E : Type 0} (result : Result T E) (old mid new : Counts) → NoneFell old mid → OnErr result (Rose mid.disk new.disk) → OnErr result (Rose old.disk new.disk)
rose_after result old mid new fell rose = on_err_weaker result (then_rose old.disk mid.disk new.disk fell.disk) rose

-- ---- what a crash leaves

-- a write into one file leaves the other one
pub others_left : (file : Which) (at n : ℕ) (old new : Remains → Type 0) → Follows (Tears file at n) old new → (r : Remains) → new r → (q : Remains) × old q × (file_of r.files (other file) ≡ file_of q.files (other file))
others_left file at n old new follows r left = let q = follows r left in (q.0, q.1, q.2.files.others)

-- and so do two
pub others_then : (file : Which) (at1 n1 at2 n2 : ℕ) (old mid new : Remains → Type 0) → Follows (Tears file at1 n1) old mid → Follows (Tears file at2 n2) mid new → (r : Remains) → new r → (q : Remains) × old q × (file_of r.files (other file) ≡ file_of q.files (other file))
others_then file at1 n1 at2 n2 old mid new first then_ r left =
    let m = others_left file at2 n2 mid new then_ r left in
    let q = others_left file at1 n1 old mid first m.0 m.1 in
    (q.0, q.1, m.2 ∙ q.2)

-- a synced file is what it was read as before the sync
pub durable_then : {T E : Type 0} (result : Result T E) (file : Which) (may_leave : Remains → Type 0) (mid new : Files) → new ≡ mid → OnOk result (Only file (file_of mid file) may_leave) → OnOk result (Only file (file_of new file) may_leave)
durable_then result file may_leave mid new same durable = subst (λ (f : Files). OnOk result (Only file (file_of f file) may_leave)) (sym same) durable

module _ {S : Type 0} (means : Meanings S) (only_now : (site : S) (r : Remains) → means.left_since site (means.clock site) r → means.may_leave site r) where
  -- a run of one call that only writes
  pub writes_one : (logs_now : (site : S) (r : Remains) → means.may_leave site r → means.log site ≡ Some r.log) (old new : S) → means.log new ≡ means.log old → OneCall means.told means.counts means.clock means.may_leave means.left_since old new → OnlyWrites means old new
  writes_one logs_now old new same call = record {
    calls = one_call means old new call;
    as_logged = same;
    moments = leaves_on means old old new _ (leaves_at_first means old _ (λ r left. logs_now old r (only_now old r left))) call (λ r left. sym same ∙ logs_now new r left);
  }

  module _ (old mid : S) (file : Which) (at n : ℕ) (first : Follows (Tears file at n) (means.may_leave old) (means.may_leave mid)) (settled : IsSettled means old) where
    torn_now : (r : Remains) → means.may_leave mid r → TornFile file at n (means.seen old) r.files
    torn_now r left =
        let q = first r left in
        subst (λ (f : Files). TornFile file at n f r.files) (settled q.0 q.1) q.2.files

    pub moments_one : OneCall means.told means.counts means.clock means.may_leave means.left_since old mid → LeavesOnly means old mid (λ r. TornFile file at n (means.seen old) r.files)
    moments_one call = leaves_on means old old mid _
        (leaves_at_first means old _ (λ r left. not_torn file at n (means.seen old) r.files (settled r (only_now old r left))))
        call torn_now

    pub moments_synced : (new : S) → OneCall means.told means.counts means.clock means.may_leave means.left_since old mid → OneCall means.told means.counts means.clock means.may_leave means.left_since mid new → ((r : Remains) → means.may_leave new r → means.may_leave mid r)
        → LeavesOnly means old new (λ r. TornFile file at n (means.seen old) r.files)
    moments_synced new call1 call2 crash = leaves_on means old mid new _ (moments_one call1) call2 (λ r left. torn_now r (crash r left))

  -- a run of one call that only looks
  pub looks_one : (old new : S) → AddsNothing means.seen means.log means.may_leave old new → OneCall means.told means.counts means.clock means.may_leave means.left_since old new → OnlyLooks means old new
  looks_one old new nothing call = looks_call means old old new (looks_none means only_now old) nothing call

-- two syncs, one of each file
pub both_settled : {T E : Type 0} (result : Result T E) (mid_leaves new_leaves : Remains → Type 0) (old mid new : Files) → mid ≡ old → new ≡ mid → ((r : Remains) → new_leaves r → mid_leaves r) → Only A old.a mid_leaves → OnOk result (Only B mid.b new_leaves) → OnOk result ((r : Remains) → new_leaves r → r.files ≡ new)
both_settled result mid_leaves new_leaves old mid new same1 same2 crash only_a durable = on_ok_weaker result
    (λ only_b r left.
    let a = only_a r (crash r left) in
    let b = only_b r left ∙ ap (λ (f : Files). f.b) same1 in
    (λ i. record { a = a i; b = b i }) ∙ sym (same2 ∙ same1))
    durable

-- ---- a read that failed

-- for want of memory
pub no_disk : {T : Type 0} (result : Result T Halt) (e : Halt) → result ≡ Err e → e ≡ halts.Memory → result ≡ Err halts.Disk → ⊥
no_disk result e is memory disk = cc

-- at a call
pub read_failed : {T U E : Type 0} (call : Result U E) (result : Result T Halt) (e : Halt) (old new : Counts) → result ≡ Err e → e ≡ halts.Disk → StopsAtFault (IsFailure call) ⊥ ⊥ old new → StopsAtFault (IsErrOf result halts.Disk) ⊥ ⊥ old new
read_failed call result e old new is disk stops = stops_as (IsFailure call) ⊥ ⊥ (result ≡ Err halts.Disk) ⊥ ⊥ old new (λ failed. is ∙ ap Err disk) (λ no. no) (λ no. no) stops

pub read_worked : {T : Type 0} (x : T) (old new : Counts) → StopsAtFault (IsErrOf {T = T} {E = Halt} (Ok x) halts.Disk) ⊥ ⊥ old new → NoFault old new
read_worked x old new stops = went_on _ ⊥ ⊥ old new (λ is. absurd (cc is)) (λ no. no) (λ no. no) stops

-- a refusal of the files is no fault of the disk
pub refused_alone : {T : Type 0} (fault : GateFault) (file : Which) (at : ℕ) → fault ≡ gates.NotStore file at None → IsErrOf {T = T} (Err fault) (gates.Halt halts.Disk) → ⊥
refused_alone fault file at is disk = let no = ap Err (sym is) ∙ disk in cc no

-- ---- what is answered on

abbrev err_or : {T E : Type 0} → E → Result T E → E
err_or e (Ok x) = e
err_or e (Err f) = f

-- the same fault, whatever else might have been answered
pub err_as : {T U E : Type 0} (e f : E) → IsErrOf {T = T} (Err e) f → IsErrOf {T = U} (Err e) f
err_as {T} {U} {E} e f is = let same : e ≡ f = ap (λ (r : Result T E). err_or e r) is in λ i. Err (same i)

-- calls behind which something was answered
pub went_well : {T E : Type 0} (x : T) (e : E) (old new : Counts) → StopsAtFault (IsErrOf (Ok x) e) ⊥ ⊥ old new → NoFault old new
went_well x e old new stops = went_on _ ⊥ ⊥ old new (λ is. absurd (cc is)) (λ no. no) (λ no. no) stops
