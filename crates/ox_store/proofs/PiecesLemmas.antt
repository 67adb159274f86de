-- A body that comes in pieces is a source.
use Rattle.std.proofs.Common.{◌≡◌, ◌∙◌, ℕ, ◌+◌, ◌-◌, ◌≤◌, ◌<◌, Bool, List, [], length, length-append, drop, take, sym, ap, subst, arith}
use Rattle.std.specs.Prelude.{IsErrOf, IsTrue, Result, Ok, Err}
use Rattle.std.specs.Result.{IfErr, IfOk, OnOk}
use Rattle.std.proofs.Math.Nat.{min-le_left}
use Rattle.std.proofs.lemmas.List.{drop_all, length-take}
use Rattle.ox_outside.specs.Counts.{Rose, StopsAtFault}
use Rattle.ox_outside.specs.Files.{Files, file_of}
use Rattle.ox_outside.specs.Runs.{OnlyLooks}
use Rattle.ox_outside.specs.declared.site.Site.{Ghosts as Meanings}
use Rattle.ox_outside.proofs.Counts.{stops_as}
use Rattle.ox_gated.specs.Layout.{summed_body_at}
use Rattle.ox_gated.specs.Parts.{AreParts, GoesOn, IsLeft, MovesOn, Unread, body_in, left_in}
use Rattle.ox_gated.specs.declared.fault.Halt.{Halt}
use Rattle.ox_gated.specs.declared.fault.Halt.TheVariants as halts
use Rattle.ox_rows.specs.Coming.{ComesOn}
use Rattle.ox_store.specs.Parts.{ReadsOn, ReadsUntil}
use Rattle.ox_store.proofs.Exits.{same_fault}
use Rattle.ox_store.proofs.OldStores.{none_failed}

-- ---- what comes

none_left : (parts : Unread) (files : Files) (rest : List ℕ) → rest ≡ left_in parts files → parts.read ≡ parts.size → rest ≡ []
none_left parts files rest is all =
    let on = drop summed_body_at (file_of files parts.file) in
    is ∙ ap (λ (n : ℕ). drop n (body_in parts files)) all
    ∙ drop_all parts.size (take parts.size on) (subst (λ (n : ℕ). n ≤ parts.size) (sym (length-take parts.size on)) (min-le_left parts.size (length on)))

module _ {S : Type 0} (means : Meanings S) (most : ℕ) (k l : Unread) (old new : S) (window later : List ℕ) where
  one_comes : (came : Bool) (rest : List ℕ) → MovesOn most came k l window later → IsLeft means k old rest → GoesOn means l new window later rest → ComesOn (IsLeft means l new) window rest came later
  one_comes came rest moved left goes = record {
    behind = goes.next;
    comes = goes.left;
    same = sym goes.same;
    none = λ no. none_left k (means.seen old) rest left.is (moved.none_left no).1;
    some = λ yes.
        let all : length later + length goes.next ≡ length window + length rest =
        sym (length-append later goes.next) ∙ ap (λ (l : List ℕ). length l) goes.same ∙ length-append window rest in
        let behind : length later ≡ length window + length moved.piece = ap (λ (l : List ℕ). length l) moved.behind ∙ length-append window moved.piece in
        let put : 1 ≤ length moved.piece = moved.put yes in
        omega (arith, all, behind, put);
  }

  pub comes_on : (r : Result Bool Halt) (rest : List ℕ) → IfOk r (λ came. MovesOn most came k l window later) → IsLeft means k old rest → OnOk r (GoesOn means l new window later rest)
      → IfOk r (λ came. ComesOn (IsLeft means l new) window rest came later)
  comes_on (Ok came) rest moved left goes = one_comes came rest moved left goes
  comes_on (Err halt) rest moved left goes = tt

  -- ---- what is still to be read

  one_falls : (came : Bool) → MovesOn most came k l window later → IsTrue came → l.size - l.read < k.size - k.read
  one_falls came moved is =
      let some : 1 ≤ length moved.piece = moved.put is in
      let inside : k.read + length moved.piece ≤ k.size = moved.inside in
      subst (λ (u : Unread). u.size - u.read < k.size - k.read) (sym moved.parts) (omega (arith, some, inside))

  pub falls_on : (r : Result Bool Halt) → IfOk r (λ came. MovesOn most came k l window later) → IfOk r (λ came. IsTrue came → l.size - l.read < k.size - k.read)
  falls_on (Ok came) moved = one_falls came moved
  falls_on (Err halt) moved = tt

  one_stays : (came : Bool) → MovesOn most came k l window later → l.size - l.read ≤ k.size - k.read
  one_stays came moved = subst (λ (u : Unread). u.size - u.read ≤ k.size - k.read) (sym moved.parts) (omega arith)

  pub stays_on : (r : Result Bool Halt) → IfOk r (λ came. MovesOn most came k l window later) → IfOk r (λ came. l.size - l.read ≤ k.size - k.read)
  stays_on (Ok came) moved = one_stays came moved
  stays_on (Err halt) moved = tt

  -- ---- the files

  one_ready : (came : Bool) → MovesOn most came k l window later → OnlyLooks means old new → (IsTrue (means.told old) → AreParts k (means.seen old)) → IsTrue (means.told new) → AreParts l (means.seen new)
  one_ready came moved looks are told =
      let before = are (sym looks.calls.as_told ∙ told) in
      let at : AreParts (record k { read = k.read + length moved.piece }) (means.seen old) = record { there = before.there; front = before.front; stand = before.stand } in
      subst (λ (u : Unread). AreParts u (means.seen new)) (sym moved.parts) (subst (AreParts (record k { read = k.read + length moved.piece })) (sym looks.nothing.files) at)

  pub ready_on : (r : Result Bool Halt) → 1 ≤ most → IfOk r (λ came. MovesOn most came k l window later) → OnlyLooks means old new → (IsTrue (means.told old) → AreParts k (means.seen old))
      → OnOk r ((1 ≤ most) × (IsTrue (means.told new) → AreParts l (means.seen new)))
  ready_on (Ok came) some moved looks are = (some, one_ready came moved looks are)
  ready_on (Err halt) some moved looks are = tt

  -- ---- the calls

  pub went_on : (r : Result Bool Halt) → IfOk r (λ came. MovesOn most came k l window later) → OnlyLooks means old new → StopsAtFault (IsErrOf r halts.Disk) ⊥ ⊥ (means.counts old) (means.counts new)
      → OnOk r (ReadsOn means k old l new)
  went_on (Ok came) moved looks counted = record {
    same = moved.parts ∙ sym (ap (λ (u : Unread). record k { read = u.read }) moved.parts);
    looks = looks;
    counted = none_failed came halts.Disk (means.counts old) (means.counts new) counted;
  }
  went_on (Err halt) moved looks counted = tt

  pub ended_on : (r : Result Bool Halt) → OnlyLooks means old new → (IsErrOf r halts.Disk → Rose (means.counts old).disk (means.counts new).disk)
      → StopsAtFault (IsErrOf r halts.Disk) ⊥ ⊥ (means.counts old) (means.counts new) → IfErr r (λ halt. ReadsUntil means old halt new)
  ended_on (Ok came) looks failed counted = tt
  ended_on (Err halt) looks failed counted = record {
    looks = looks;
    failed = λ disk. failed (ap Err disk);
    counted = stops_as (IsErrOf {T = Bool} (Err halt) halts.Disk) ⊥ ⊥ (halt ≡ halts.Disk) ⊥ ⊥ _ _ (λ is. same_fault halt halts.Disk is) (λ no. no) (λ no. no) counted;
  }

-- from any time before
pub are_still : (parts : Unread) (n : ℕ) (files : Files) → AreParts parts files → AreParts (record parts { read = n }) files
are_still parts n files are = record { there = are.there; front = are.front; stand = are.stand }
