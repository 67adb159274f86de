-- The other file is closed, filled and opened: what each step leaves, and what a crash leaves in it.
use Rattle.std.proofs.Common.{◌≡◌, ◌≢◌, ◌∙◌, ◌≤◌, ◌<◌, ◌+◌, ◌^◌, inl, inr, ⊎_elim, ℕ, Bool, true, false, List, [], ◌∷◌, ◌++◌, length, drop, refl, sym, ap, subst, arith}
use Rattle.std.specs.Prelude.{Result, Ok, Err, IsTrue}
use Rattle.std.proofs.lemmas.Bool.{cases_eq, eqb-true}
use Rattle.ox_outside.specs.Crash.{Remains, Only}
use Rattle.ox_outside.specs.Files.{Files, file_of, with_file, other, with_bytes, TornFile, Torn}
use Rattle.ox_outside.specs.Runs.{LeavesOnly}
use Rattle.ox_outside.specs.declared.site.Site.{Ghosts as Meanings}
use Rattle.ox_outside.specs.declared.site.Which.{Which}
use Rattle.ox_outside.specs.declared.site.Which.TheVariants.{A, B}
use Rattle.ox_outside.proofs.Calls.{leaves_then, leaves_weaker}
use Rattle.ox_gated.specs.Layout.{Whole, is_closed, head_of, is_lawful, checkpoint_bytes, layout_of}
use Rattle.ox_gated.specs.OtherFile.{BeginsShut, KeptBoth, HoldsBoth, filled_with, first_gate_at, ReadsNew, IsOldOrNew, tail_of_other}
use Rattle.ox_gated.specs.Reading.{Found, Fault, ReadsAlike, body_reading, is_any, reading}
use Rattle.ox_gated.specs.Tail.{Kept, Keeps, Holds, IsSettled}
use Rattle.ox_gated.specs.declared.head.Head.{Head}
use Rattle.ox_gated.proofs.AppendKeepsTail.{settled_after}
use Rattle.ox_gated.proofs.OneFile.{file_of-with_file, file_of-with_other}
use Rattle.ox_gated.specs.Pick.{Beside, Picked}
use Rattle.ox_gated.proofs.OtherGate.{Chosen, chosen, beside_alike, torn_gate, torn_behind, shut_gate, any_gate, open_gate}
use Rattle.ox_gated.proofs.Stands.{judged, reading_of}
use Rattle.ox_gated.proofs.WholeFile.{opening, head_whole, body_whole}

-- ---- the two files

pub at_other : (files : Files) (file : Which) → file_of files (other (other file)) ≡ file_of files file
at_other files A = refl
at_other files B = refl

stays_beside : (files : Files) (file : Which) (bytes : List ℕ) → file_of (with_file files (other file) bytes) file ≡ file_of files file
stays_beside files A bytes = refl
stays_beside files B bytes = refl

pub both_some : (files : Files) (file : Which) → 1 ≤ length (file_of files file) → 1 ≤ length (file_of files (other file)) → (1 ≤ length files.a) × (1 ≤ length files.b)
both_some files A this that = (this, that)
both_some files B this that = (that, this)

one_some : (files : Files) (file : Which) → 1 ≤ length files.a → 1 ≤ length files.b → 1 ≤ length (file_of files file)
one_some files A a b = a
one_some files B a b = b

some_parts : (bytes : List ℕ) → 1 ≤ length bytes → (gate : ℕ) × ((rest : List ℕ) × (bytes ≡ gate ∷ rest))
some_parts [] some = absurd (omega arith)
some_parts (gate ∷ rest) some = (gate, (rest, refl))

shut_parts : (bytes : List ℕ) → 1 ≤ length bytes → is_closed bytes ≡ true → (rest : List ℕ) × (bytes ≡ 0 ∷ rest)
shut_parts [] some closed = absurd (omega arith)
shut_parts (gate ∷ rest) some closed = (rest, ap (λ (g : ℕ). g ∷ rest) (eqb-true gate 0 closed))

-- a tail beside which the other file is closed keeps the rest
keeps_closed : (tail : Kept) (r : Result Found Fault) → Keeps tail r → Keeps (record tail { other_closed = true }) r
keeps_closed tail (Ok found) keeps = record { file = keeps.file; head = keeps.head; first = keeps.first; records = keeps.records; gate = keeps.gate }
keeps_closed tail (Err fault) keeps = absurd keeps

-- of a write into this file that is synced
pub record Wrote {S : Type 0} (means : Meanings S) (old new : S) (at : ℕ) (bytes : List ℕ) (file : Which) : Type 0 where
  pub written : means.seen new ≡ with_file (means.seen old) file (with_bytes at bytes (file_of (means.seen old) file))
  pub durable : Only file (file_of (means.seen new) file) (means.may_leave new)
  pub others : (r : Remains) → means.may_leave new r → (q : Remains) × means.may_leave old q × (file_of r.files (other file) ≡ file_of q.files (other file))

abbrev pub Tearing : {S : Type 0} → Meanings S → S → S → ℕ → ℕ → Which → Type 0
Tearing means old new at n file = LeavesOnly means old new (λ r. TornFile file at n (means.seen old) r.files)

module _ {S : Type 0} (means : Meanings S) (tail : Kept) (old : S) (holds : Holds means tail old) where
  abbrev files : Files
  files = means.seen old

  abbrev beside : Which
  beside = other tail.file

  abbrev here : Chosen files tail
  here = chosen files tail holds.keeps

  some_beside : 1 ≤ length (file_of files beside)
  some_beside = one_some files beside holds.some_a holds.some_b

  -- ---- while only the other file changes, and stays beside

  alike : (image : Files) → file_of image (other beside) ≡ file_of files (other beside) → Beside here.opening (file_of image beside) → ReadsAlike files image
  alike image same = beside_alike files image tail.file here.opening here.why (sym (at_other image tail.file) ∙ same ∙ at_other files tail.file)

  -- ---- closing

  closing : tail.other_closed ≡ false → (image : Files) → TornFile beside 0 1 files image → ReadsAlike files image
  closing is_open image torn =
      let parts = some_parts (file_of files beside) some_beside in
      let gate = parts.0 in
      let rest = parts.1.0 in
      let opened : is_closed (gate ∷ rest) ≡ false = sym (ap is_closed parts.1.1) ∙ sym holds.closed ∙ is_open in
      let was : Beside here.opening (gate ∷ rest) = subst (Beside here.opening) parts.1.1 here.why.beside in
      let byte = torn_gate gate rest (file_of image beside) (subst (λ (l : List ℕ). Torn 0 1 l (file_of image beside)) parts.1.1 torn.torn) in
      alike image torn.others (subst (Beside here.opening) (sym byte.1) (any_gate here.opening gate byte.0 rest opened was))

  pub close_moments : (new : S) (file : Which) → file ≡ beside → tail.other_closed ≡ false → Tearing means old new 0 1 file → LeavesOnly means old new (λ r. ReadsAlike files r.files)
  close_moments new file is is_open torn_there =
      let moments = subst (Tearing means old new 0 1) is torn_there in
      leaves_weaker means old new _ _ (λ r torn. closing is_open r.files torn) moments

  pub closed_is : (new : S) → Wrote means old new 0 (0 ∷ []) beside → (rest : List ℕ) × (means.seen new ≡ with_file files beside (0 ∷ rest))
  closed_is new wrote =
      let parts = some_parts (file_of files beside) some_beside in
      (parts.1.0, wrote.written ∙ ap (λ (l : List ℕ). with_file files beside (with_bytes 0 (0 ∷ []) l)) parts.1.1)

  -- ---- once the other file is closed, whatever it is behind its gate

  module _ (rest : List ℕ) (new : S) (is : means.seen new ≡ with_file files beside (0 ∷ rest)) where
    now_beside : file_of (means.seen new) beside ≡ 0 ∷ rest
    now_beside = ap (λ (f : Files). file_of f beside) is ∙ file_of-with_file files beside (0 ∷ rest)

    now_current : file_of (means.seen new) tail.file ≡ file_of files tail.file
    now_current = ap (λ (f : Files). file_of f tail.file) is ∙ stays_beside files tail.file (0 ∷ rest)

    pub shut_beside : BeginsShut (file_of (means.seen new) beside)
    shut_beside = (rest, now_beside)

    pub shut_alike : ReadsAlike files (means.seen new)
    shut_alike = beside_alike files (means.seen new) tail.file here.opening here.why now_current (subst (Beside here.opening) (sym now_beside) (shut_gate here.opening rest))

    pub shut_holds : IsSettled means new → Holds means (record tail { other_closed = true }) new
    shut_holds settled =
        let some = both_some (means.seen new) tail.file
        (subst (λ (l : List ℕ). 1 ≤ length l) (sym now_current) (one_some files tail.file holds.some_a holds.some_b))
        (subst (λ (l : List ℕ). 1 ≤ length l) (sym now_beside) (omega arith)) in
        record {
          settled = settled;
          some_a = some.0;
          some_b = some.1;
          keeps = subst (Keeps (record tail { other_closed = true })) (sym (shut_alike is_any)) (keeps_closed tail (reading is_any files) holds.keeps);
          closed = sym (ap is_closed now_beside);
        }

  -- of a write into the other file that is synced
  pub settled_beside : (at : ℕ) (bytes : List ℕ) (new : S) → Wrote means old new at bytes beside → IsSettled means new
  settled_beside at bytes new wrote = settled_after files beside _ (means.may_leave old) (means.may_leave new) (means.seen new) wrote.written holds.settled wrote.durable wrote.others

  -- the same of a file that is the other one
  module _ (file : Which) (is : file ≡ beside) (new : S) (wrote : Wrote means old new 0 (0 ∷ []) file) where
    wrote_beside : Wrote means old new 0 (0 ∷ []) beside
    wrote_beside = subst (Wrote means old new 0 (0 ∷ [])) is wrote

    pub close_shuts : BeginsShut (file_of (means.seen new) beside)
    close_shuts = let parts = closed_is new wrote_beside in shut_beside parts.0 new parts.1

    pub close_alike : ReadsAlike files (means.seen new)
    close_alike = let parts = closed_is new wrote_beside in shut_alike parts.0 new parts.1

    pub close_holds : (result : Kept) → result ≡ record tail { other_closed = true } → Holds means result new
    close_holds result kept =
        let parts = closed_is new wrote_beside in
        subst (λ (t : Kept). Holds means t new) (sym kept) (shut_holds parts.0 new parts.1 (settled_beside 0 (0 ∷ []) new wrote_beside))

  -- ---- filling

  module _ (shut : tail.other_closed ≡ true) where
    pub shut_now : (rest : List ℕ) × (file_of files beside ≡ 0 ∷ rest)
    shut_now = shut_parts (file_of files beside) some_beside (sym holds.closed ∙ shut)

    pub fill_within : 1 ≤ length (file_of files beside)
    fill_within = some_beside

    filling : (n : ℕ) (image : Files) → TornFile beside 1 n files image → ReadsAlike files image
    filling n image torn =
        let behind = torn_behind 0 n shut_now.0 (file_of image beside) (subst (λ (l : List ℕ). Torn 1 n l (file_of image beside)) shut_now.1 torn.torn) in
        alike image torn.others (subst (Beside here.opening) (sym behind.1) (shut_gate here.opening behind.0))

    pub fill_moments : (n : ℕ) (new : S) (file : Which) → file ≡ beside → Tearing means old new 1 n file → LeavesOnly means old new (λ r. ReadsAlike files r.files)
    fill_moments n new file is torn_there =
        let moments = subst (Tearing means old new 1 n) is torn_there in
        leaves_weaker means old new _ _ (λ r torn. filling n r.files torn) moments

    -- what an older, longer file had behind stays there
    filled_is : (bytes : List ℕ) (new : Files) → new ≡ with_file files beside (with_bytes 1 bytes (file_of files beside)) → (older : List ℕ) × (new ≡ with_file files beside (0 ∷ (bytes ++ older)))
    filled_is bytes new is =
        (drop (1 + length bytes) (0 ∷ shut_now.0), is ∙ ap (λ (l : List ℕ). with_file files beside (with_bytes 1 bytes l)) shut_now.1)

    module _ (file : Which) (is : file ≡ beside) (whole : Whole) (bytes : List ℕ) (bytes_are : bytes ≡ checkpoint_bytes whole.head whole.body) (new : S) (wrote : Wrote means old new 1 bytes file) where
      wrote_all : Wrote means old new 1 (checkpoint_bytes whole.head whole.body) beside
      wrote_all = subst (λ (l : List ℕ). Wrote means old new 1 l beside) bytes_are (subst (Wrote means old new 1 bytes) is wrote)

      all_is : (older : List ℕ) × (means.seen new ≡ with_file files beside (0 ∷ (checkpoint_bytes whole.head whole.body ++ older)))
      all_is = filled_is (checkpoint_bytes whole.head whole.body) (means.seen new) wrote_all.written

      pub fill_alike : ReadsAlike files (means.seen new)
      fill_alike = shut_alike (checkpoint_bytes whole.head whole.body ++ all_is.0) new all_is.1

      pub fill_holds : (gate : ℕ) → gate ≡ first_gate_at whole.head whole.body → HoldsBoth means (record { tail = tail; head = whole.head; gate = gate }) whole.body new
      fill_holds gate gate_is =
          let behind = checkpoint_bytes whole.head whole.body ++ all_is.0 in
          record {
            current = subst (λ (b : Bool). Holds means (record tail { other_closed = b }) new) (sym shut) (shut_holds behind new all_is.1 (settled_beside 1 (checkpoint_bytes whole.head whole.body) new wrote_all));
            filled = record { older = all_is.0; bytes = now_beside behind new all_is.1; gate_is = gate_is };
          }

-- ---- opening

module _ {S : Type 0} (means : Meanings S) (both : KeptBoth) (body : List ℕ) (old : S) (holds : HoldsBoth means both body old)
    (lawful : IsTrue (is_lawful both.head)) (depth : both.head.depth < 2 ^ 16) (generation : both.head.generation < 2 ^ 64) (greater : both.tail.head.generation < both.head.generation) (small : both.gate < 2 ^ 63 + (layout_of both.head.version).body_at) where
  abbrev were : Files
  were = means.seen old

  abbrev next : Which
  next = other both.tail.file

  abbrev now : Chosen were both.tail
  now = chosen were both.tail holds.current.keeps

  abbrev behind : List ℕ
  behind = checkpoint_bytes both.head body ++ holds.filled.older

  pub short : length body < 2 ^ 64
  short = omega (arith, small, holds.filled.gate_is)

  -- an image whose other file is open
  module _ (image : Files) (byte : ℕ) (some : byte ≢ 0) (same : file_of image (other next) ≡ file_of were (other next)) (parts : file_of image next ≡ byte ∷ behind) where
    same_current : file_of image (other next) ≡ file_of were both.tail.file
    same_current = same ∙ at_other were both.tail.file

    lesser : now.opening.head.generation < both.head.generation
    lesser = subst (λ (h : Head). h.generation < both.head.generation) now.same_head greater

    picked_new : Picked image next (opening both.head body lawful depth generation short)
    picked_new = record {
      opened = ap is_closed parts ∙ open_gate byte behind some;
      head = ap head_of parts ∙ head_whole both.head body lawful depth generation short byte holds.filled.older;
      beside = inr (ap is_closed same_current ∙ now.why.opened, (now.opening, ap head_of same_current ∙ now.why.head, lesser));
    }

    pub reads_new : ReadsNew next (filled_with both body) image
    reads_new reads read =
        let o = opening both.head body lawful depth generation short in
        reading_of image next o reads picked_new
        ∙ ap (λ (b : Bool). judged b next (body_reading next (file_of image next) o)) read
        ∙ ap (λ (l : List ℕ). body_reading next l o) parts
        ∙ body_whole both.head body lawful depth generation short byte holds.filled.older next

  open_either : (image : Files) → TornFile next 0 1 were image → IsOldOrNew next (filled_with both body) were image
  open_either image torn =
      let byte = torn_gate 0 behind (file_of image next) (subst (λ (l : List ℕ). Torn 0 1 l (file_of image next)) holds.filled.bytes torn.torn) in
      elim (cases_eq byte.0 0) [
        | inl shut ↦ inl (alike means both.tail old holds.current image torn.others (subst (Beside now.opening) (sym (byte.1 ∙ ap (λ (b : ℕ). b ∷ behind) shut)) (shut_gate now.opening behind)))
        | inr some ↦ inr (reads_new image byte.0 some torn.others byte.1)
      ]

  pub open_moments : (new : S) (file : Which) → file ≡ next → Tearing means old new 0 1 file → LeavesOnly means old new (λ r. IsOldOrNew next (filled_with both body) were r.files)
  open_moments new file is torn_there =
      let moments = subst (Tearing means old new 0 1) is torn_there in
      leaves_weaker means old new _ _ (λ r torn. open_either r.files torn) moments

  module _ (file : Which) (is : file ≡ next) (new : S) (wrote : Wrote means old new 0 (1 ∷ []) file) where
    wrote_next : Wrote means old new 0 (1 ∷ []) next
    wrote_next = subst (Wrote means old new 0 (1 ∷ [])) is wrote

    opened_is : means.seen new ≡ with_file were next (1 ∷ behind)
    opened_is = wrote_next.written ∙ ap (λ (l : List ℕ). with_file were next (with_bytes 0 (1 ∷ []) l)) holds.filled.bytes

    now_next : file_of (means.seen new) next ≡ 1 ∷ behind
    now_next = ap (λ (f : Files). file_of f next) opened_is ∙ file_of-with_file were next (1 ∷ behind)

    now_old : file_of (means.seen new) (other next) ≡ file_of were (other next)
    now_old = ap (λ (f : Files). file_of f (other next)) opened_is ∙ file_of-with_other were next (1 ∷ behind)

    pub open_reads : ReadsNew next (filled_with both body) (means.seen new)
    open_reads = reads_new (means.seen new) 1 (λ no. absurd (omega (arith, no))) now_old now_next

    pub open_holds : Holds means (tail_of_other both.tail.file both.head both.gate) new
    open_holds =
        let was = now_old ∙ at_other were both.tail.file in
        let some = both_some (means.seen new) next
        (subst (λ (l : List ℕ). 1 ≤ length l) (sym now_next) (omega arith))
        (subst (λ (l : List ℕ). 1 ≤ length l) (sym was) (one_some were both.tail.file holds.current.some_a holds.current.some_b)) in
        record {
          settled = settled_after were next _ (means.may_leave old) (means.may_leave new) (means.seen new) opened_is holds.current.settled wrote_next.durable wrote_next.others;
          some_a = some.0;
          some_b = some.1;
          keeps = subst (Keeps (tail_of_other both.tail.file both.head both.gate)) (sym (open_reads is_any refl)) (record { file = refl; head = refl; first = holds.filled.gate_is; records = refl; gate = holds.filled.gate_is });
          closed = sym (ap is_closed was ∙ now.why.opened);
        }

-- ---- the three together

then_alike : (before between image : Files) → ReadsAlike before between → ReadsAlike between image → ReadsAlike before image
then_alike before between image first then_ reads = then_ reads ∙ first reads

module _ {S : Type 0} (means : Meanings S) (next : Which) (whole : Whole) (old closed : S) where
  abbrev since : Remains → Type 0
  since r = IsOldOrNew next whole (means.seen old) r.files

  pub turn_closing : LeavesOnly means old closed (λ r. ReadsAlike (means.seen old) r.files) → LeavesOnly means old closed since
  turn_closing moments = leaves_weaker means old closed _ _ (λ r same. inl same) moments

  module _ (filled : S) (alike_closed : ReadsAlike (means.seen old) (means.seen closed)) where
    pub turn_filling : LeavesOnly means old closed (λ r. ReadsAlike (means.seen old) r.files) → LeavesOnly means closed filled (λ r. ReadsAlike (means.seen closed) r.files) → LeavesOnly means old filled since
    turn_filling first second = leaves_then means old closed filled since (turn_closing first)
        (leaves_weaker means closed filled _ _ (λ r same. inl (then_alike (means.seen old) (means.seen closed) r.files alike_closed same)) second)

    pub turn_opening : (opened : S) → ReadsAlike (means.seen closed) (means.seen filled) → LeavesOnly means old closed (λ r. ReadsAlike (means.seen old) r.files) → LeavesOnly means closed filled (λ r. ReadsAlike (means.seen closed) r.files)
        → LeavesOnly means filled opened (λ r. IsOldOrNew next whole (means.seen filled) r.files) → LeavesOnly means old opened since
    turn_opening opened alike_filled first second third = leaves_then means old filled opened since (turn_filling first second)
        (leaves_weaker means filled opened _ _ (λ r either. ⊎_elim (λ same. inl (then_alike (means.seen old) (means.seen filled) r.files (then_alike (means.seen old) (means.seen closed) (means.seen filled) alike_closed alike_filled) same)) (λ fresh. inr fresh) either) third)
