-- Two pieces that are written one behind the other make, and may leave, what one does.
use Rattle.std.proofs.Common.{◌≡◌, ◌∙◌, ◌≤◌, ◌+◌, max, ℕ, List, ◌++◌, length, take, drop, refl, sym, ap, subst, arith, length-append, append_assoc}
use Rattle.std.specs.Prelude.{Result, Ok, Err, OnOk}
use Rattle.std.proofs.Math.Nat.{le-max_left, le-max_right}
use Rattle.std.proofs.lemmas.List.{take-take, take_at, drop_at, drop-drop, length-take}
use Rattle.ox_outside.specs.Crash.{Remains, Tears, Follows, OneCall}
use Rattle.ox_outside.specs.Files.{Files, file_of, with_file, with_bytes, Torn, TornFile}
use Rattle.ox_outside.specs.Runs.{LeavesOnly}
use Rattle.ox_outside.specs.declared.site.Site.{Ghosts as Meanings}
use Rattle.ox_outside.specs.declared.site.Which.{Which}
use Rattle.ox_outside.proofs.Calls.{leaves_at_first, leaves_on, leaves_weaker}
use Rattle.ox_gated.specs.Tail.{IsSettled}
use Rattle.ox_gated.proofs.OneFile.{file_of-with_file, with_file-with_file}

-- ---- the bytes

pub written_both : (at : ℕ) (x y file : List ℕ) → at ≤ length file → with_bytes (at + length x) y (with_bytes at x file) ≡ with_bytes at (x ++ y) file
written_both at x y file within =
    let front = take at file ++ x in
    let long : length front ≡ at + length x = omega (arith, within, length-append (take at file) x, length-take at file) in
    let behind = drop (at + length x) file in
    let before : take (at + length x) (front ++ behind) ≡ front = take_at front behind (at + length x) long in
    let gone : drop (at + length x + length y) (front ++ behind) ≡ drop (at + length (x ++ y)) file =
    sym (drop-drop (length y) (at + length x) (front ++ behind))
    ∙ ap (drop (length y)) (drop_at front behind (at + length x) long)
    ∙ drop-drop (length y) (at + length x) file
    ∙ ap (λ (n : ℕ). drop n file) (omega (arith, length-append x y)) in
    (λ i. before i ++ y ++ gone i) ∙ ap (λ (l : List ℕ). l ++ drop (at + length (x ++ y)) file) (append_assoc (take at file) x y)

-- the files, after both
pub written_then : (files mid new : Files) (file : Which) (at : ℕ) (x y : List ℕ) → at ≤ length (file_of files file) → mid ≡ with_file files file (with_bytes at x (file_of files file)) → new ≡ with_file mid file (with_bytes (at + length x) y (file_of mid file)) → new ≡ with_file files file (with_bytes at (x ++ y) (file_of files file))
written_then files mid new file at x y within mid_is new_is =
    let first = with_bytes at x (file_of files file) in
    new_is
    ∙ ap (λ (f : Files). with_file f file (with_bytes (at + length x) y (file_of f file))) mid_is
    ∙ ap (λ (l : List ℕ). with_file (with_file files file first) file (with_bytes (at + length x) y l)) (file_of-with_file files file first)
    ∙ with_file-with_file files file first (with_bytes (at + length x) y first)
    ∙ ap (with_file files file) (written_both at x y (file_of files file) within)

pub when_ok : {T E : Type 0} (result : Result T E) (P : Type 0) → P → OnOk result P
when_ok (Ok x) P p = p
when_ok (Err e) P p = tt

-- ---- what a crash makes of them

torn_none : (at n : ℕ) (old : List ℕ) → Torn at n old old
torn_none at n old = record { before = refl; after = refl; no_shorter = omega arith; no_longer = le-max_left (length old) (at + n) }

max_then : (a b c d k : ℕ) → b ≤ max a k → c ≤ max b d → k ≤ d → c ≤ max a d
max_then a b c d k first then_ less = grind (arith, first, then_, less, le-max_left a d, le-max_right a d)

torn_then : (at m n : ℕ) (old mid new : List ℕ) → Torn at m old mid → Torn (at + m) n mid new → Torn at (m + n) old new
torn_then at m n old mid new first then_ =
    let same : at + m + n ≡ at + (m + n) = omega arith in
    record {
      before = sym (take-take at (at + m) new (omega arith)) ∙ ap (take at) then_.before ∙ take-take at (at + m) mid (omega arith) ∙ first.before;
      after = ap (λ (k : ℕ). drop k new) (sym same) ∙ then_.after ∙ sym (drop-drop n (at + m) mid) ∙ ap (drop n) first.after ∙ drop-drop n (at + m) old ∙ ap (λ (k : ℕ). drop k old) same;
      no_shorter = omega (arith, first.no_shorter, then_.no_shorter);
      no_longer = max_then (length old) (length mid) (length new) (at + (m + n)) (at + m) first.no_longer (subst (λ (k : ℕ). length new ≤ max (length mid) k) same then_.no_longer) (omega arith);
    }

both_torn : (file : Which) (at m n : ℕ) (old mid new : Files) → TornFile file at m old mid → TornFile file (at + m) n mid new → TornFile file at (m + n) old new
both_torn file at m n old mid new first then_ = record {
  torn = torn_then at m n (file_of old file) (file_of mid file) (file_of new file) first.torn then_.torn;
  others = then_.others ∙ first.others;
}

pub not_torn : (file : Which) (at n : ℕ) (old new : Files) → new ≡ old → TornFile file at n old new
not_torn file at n old new same = subst (λ (f : Files). TornFile file at n old f) (sym same) (record { torn = torn_none at n (file_of old file); others = refl })

module _ {S : Type 0} (means : Meanings S) (only_now : (site : S) (r : Remains) → means.left_since site (means.clock site) r → means.may_leave site r)
    (old : S) (file : Which) (at : ℕ) (x y : List ℕ) (settled : IsSettled means old) where
  abbrev files : Files
  files = means.seen old

  abbrev Both : Remains → Type 0
  Both r = TornFile file at (length x + length y) files r.files

  -- the first write
  module _ (mid : S) (first : Follows (Tears file at (length x)) (means.may_leave old) (means.may_leave mid)) where
    one_torn : (r : Remains) → means.may_leave mid r → TornFile file at (length x) files r.files
    one_torn r left =
        let q = first r left in
        subst (λ (f : Files). TornFile file at (length x) f r.files) (settled q.0 q.1) q.2.files

    widened : (r : Remains) → means.may_leave mid r → Both r
    widened r left = both_torn file at (length x) (length y) files r.files r.files (one_torn r left) (not_torn file (at + length x) (length y) r.files r.files refl)

    moments_mid : OneCall means.told means.counts means.clock means.may_leave means.left_since old mid → LeavesOnly means old mid Both
    moments_mid call = leaves_on means old old mid Both
        (leaves_at_first means old Both (λ r left. not_torn file at (length x + length y) files r.files (settled r (only_now old r left))))
        call widened

    -- and the second
    module _ (new : S) (second : Follows (Tears file (at + length x) (length y)) (means.may_leave mid) (means.may_leave new)) where
      two_torn : (r : Remains) → means.may_leave new r → Both r
      two_torn r left =
          let q = second r left in
          both_torn file at (length x) (length y) files q.0.files r.files (one_torn q.0 q.1) q.2.files

      moments_new : OneCall means.told means.counts means.clock means.may_leave means.left_since old mid → OneCall means.told means.counts means.clock means.may_leave means.left_since mid new → LeavesOnly means old new Both
      moments_new call1 call2 = leaves_on means old mid new Both (moments_mid call1) call2 two_torn

      moments_last : (last : S) → ((r : Remains) → means.may_leave last r → means.may_leave new r) → OneCall means.told means.counts means.clock means.may_leave means.left_since old mid → OneCall means.told means.counts means.clock means.may_leave means.left_since mid new → OneCall means.told means.counts means.clock means.may_leave means.left_since new last → LeavesOnly means old last Both
      moments_last last crash call1 call2 call3 = leaves_on means old new last Both (moments_new call1 call2) call3 (λ r left. two_torn r (crash r left))

  in_one : (new : S) → LeavesOnly means old new Both → LeavesOnly means old new (λ r. TornFile file at (length (x ++ y)) files r.files)
  in_one new so_far = leaves_weaker means old new _ _ (λ r torn. subst (λ (n : ℕ). TornFile file at n files r.files) (sym (length-append x y)) torn) so_far

  pub after_first : (mid : S) → Follows (Tears file at (length x)) (means.may_leave old) (means.may_leave mid) → OneCall means.told means.counts means.clock means.may_leave means.left_since old mid → LeavesOnly means old mid (λ r. TornFile file at (length (x ++ y)) files r.files)
  after_first mid first call = in_one mid (moments_mid mid first call)

  pub after_second : (mid new : S) → Follows (Tears file at (length x)) (means.may_leave old) (means.may_leave mid) → Follows (Tears file (at + length x) (length y)) (means.may_leave mid) (means.may_leave new)
      → OneCall means.told means.counts means.clock means.may_leave means.left_since old mid → OneCall means.told means.counts means.clock means.may_leave means.left_since mid new → LeavesOnly means old new (λ r. TornFile file at (length (x ++ y)) files r.files)
  after_second mid new first second call1 call2 = in_one new (moments_new mid first new second call1 call2)

  pub after_sync : (mid new last : S) → Follows (Tears file at (length x)) (means.may_leave old) (means.may_leave mid) → Follows (Tears file (at + length x) (length y)) (means.may_leave mid) (means.may_leave new) → ((r : Remains) → means.may_leave last r → means.may_leave new r)
      → OneCall means.told means.counts means.clock means.may_leave means.left_since old mid → OneCall means.told means.counts means.clock means.may_leave means.left_since mid new → OneCall means.told means.counts means.clock means.may_leave means.left_since new last → LeavesOnly means old last (λ r. TornFile file at (length (x ++ y)) files r.files)
  after_sync mid new last first second crash call1 call2 call3 = in_one last (moments_last mid first new second last crash call1 call2 call3)
