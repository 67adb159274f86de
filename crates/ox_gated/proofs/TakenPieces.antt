-- What a filling has taken, before the first piece and behind each more.
use Rattle.std.proofs.Common.{◌≡◌, ◌∙◌, ◌≤◌, ◌<◌, ◌+◌, ◌^◌, ℕ, List, [], ◌++◌, length, take, drop, refl, sym, ap, subst, arith, length-append}
use Rattle.std.proofs.lemmas.List.{length-take}
use Rattle.std.specs.Prelude.{IsTrue}
use Rattle.ox_outside.proofs.Counts.{no_fault_yet, stops_at_none}
use Rattle.ox_outside.specs.Files.{file_of, other, with_bytes}
use Rattle.ox_outside.specs.declared.site.Site.{Ghosts as Meanings}
use Rattle.ox_outside.specs.declared.site.Which.{Which}
use Rattle.sha2.specs.Hashers.{Holds256}
use Rattle.sha2.specs.declared.Sha256.{Sha256}
use Rattle.ox_gated.specs.Filling.{HasTaken, Poured, PoursOn, PoursUntil, StaysShut}
use Rattle.ox_gated.specs.Tail.{Kept}
use Rattle.ox_gated.specs.Written.{with_write}
use Rattle.ox_gated.specs.declared.fault.Halt.TheVariants as halts
use Rattle.ox_gated.proofs.BehindGate.{some_shut, stands_none, stands_on, stands_within}
use Rattle.ox_gated.proofs.FilledByPieces.{now_written}

length_first : (bytes file : List ℕ) → length bytes ≡ 89 → 1 ≤ length file → 90 ≤ length (with_bytes 1 bytes file)
length_first bytes file long some =
    omega (arith, long, some, length-append (take 1 file ++ bytes) (drop (1 + length bytes) file), length-append (take 1 file) bytes, length-take 1 file)

module _ {S : Type 0} (means : Meanings S) where
  -- zeros where the head comes
  pub begun : (tail : Kept) (bytes : List ℕ) (hasher : Sha256) (old new : S) → length bytes ≡ 89 → Holds256 hasher [] → (IsTrue (means.told old) → StaysShut means tail old) → PoursOn means tail old new → (IsTrue (means.told old) → means.seen new ≡ with_write (other tail.file) 1 bytes (means.seen old))
      → HasTaken means (record { tail = tail; size = 0; hasher = hasher }) new []
  begun tail bytes hasher old new long hashed shut pours written =
      let told_old : IsTrue (means.told new) → IsTrue (means.told old) = λ told. subst IsTrue pours.writes.calls.as_told told in
      let beside = other tail.file in
      record {
        size = refl;
        short = omega arith;
        hashed = hashed;
        stays = λ told. pours.stays (told_old told);
        stands = λ told.
            let was = some_shut (file_of (means.seen old) beside) (shut (told_old told)).now in
            stands_none 90 (file_of (means.seen new) beside) (subst (λ (l : List ℕ). 90 ≤ length l) (sym (now_written beside 1 bytes (means.seen old) (means.seen new) (written (told_old told)))) (length_first bytes (file_of (means.seen old) beside) long was));
      }

  module _ (k : Poured) (old : S) (body : List ℕ) (taken : HasTaken means k old body) where
    abbrev next : Which
    next = other k.tail.file

    pub taken_within : IsTrue (means.told old) → 90 + k.size ≤ length (file_of (means.seen old) next)
    taken_within told = omega (arith, taken.size, stands_within 90 body (file_of (means.seen old) next) (taken.stands told))

    -- a piece more
    pub taken_on : (piece : List ℕ) (hasher : Sha256) (new : S) → k.size + length piece < 2 ^ 63 → Holds256 hasher (body ++ piece) → PoursOn means k.tail old new → (IsTrue (means.told old) → means.seen new ≡ with_write next (90 + k.size) piece (means.seen old))
        → HasTaken means (record { tail = k.tail; size = k.size + length piece; hasher = hasher }) new (body ++ piece)
    taken_on piece hasher new short hashed pours written =
        let told_old : IsTrue (means.told new) → IsTrue (means.told old) = λ told. subst IsTrue pours.writes.calls.as_told told in
        record {
          size = omega (arith, taken.size, length-append body piece);
          short = short;
          hashed = hashed;
          stays = λ told. pours.stays (told_old told);
          stands = λ told.
              let is = now_written next (90 + k.size) piece (means.seen old) (means.seen new) (written (told_old told)) ∙ ap (λ (n : ℕ). with_bytes (90 + n) piece (file_of (means.seen old) next)) taken.size in
              stands_on 90 body piece (file_of (means.seen old) next) (file_of (means.seen new) next) (taken.stands (told_old told)) is;
        }

-- no call, for want of memory
pub until_none : {S : Type 0} (means : Meanings S) (tail : Kept) (site : S) → PoursOn means tail site site → PoursUntil means tail site halts.Memory site
until_none means tail site none = record {
  on = none;
  failed = λ disk. absurd (cc disk);
  counted = stops_at_none _ _ _ _ _ (no_fault_yet (means.counts site));
}
