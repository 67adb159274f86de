-- The disk's own image is what a read gives, a sync leaves no other, and a write lets a crash leave no more than a torn write.
use Rattle.std.proofs.Common.{◌≡◌, ◌∙◌, inl, inr, ℕ, zero, suc, ◌+◌, ◌-◌, ◌≤◌, min, max, Bool, true, false, List, [], ◌∷◌, ◌++◌, length, take, drop, refl, sym, ap, subst, arith, length-append, length-drop}
use Rattle.std.specs.Prelude.{replicate}
use Rattle.std.proofs.lemmas.Bool.{cases_lt}
use Rattle.std.proofs.lemmas.List.{length-replicate, length-take, take_all, take-take, drop_all}
use Rattle.ox_outside.specs.Files.{with_bytes, Torn}
use Rattle.ox_outside.specs.Disk.{Disk, synced_disk, solid_outside, after_write, after_torn, Keeps, IsImage, IsDisk, filled_bytes, image_with}

pub length-solid_outside : (at n : ℕ) (solid : List Bool) → length (solid_outside at n solid) ≡ length solid
length-solid_outside zero zero solid = refl
length-solid_outside zero (suc n) [] = refl
length-solid_outside zero (suc n) (s ∷ solid) = ap suc (length-solid_outside zero n solid)
length-solid_outside (suc at) n [] = refl
length-solid_outside (suc at) n (s ∷ solid) = ap suc (length-solid_outside at n solid)

pub length-with_bytes : (at : ℕ) (bytes file : List ℕ) → at ≤ length file → length (with_bytes at bytes file) ≡ max (length file) (at + length bytes)
length-with_bytes at bytes file le = omega (arith, length-append (take at file ++ bytes) (drop (at + length bytes) file), length-append (take at file) bytes, length-take at file, length-drop (at + length bytes) file)

written_no_shorter : (at : ℕ) (bytes file : List ℕ) → length file ≤ length (with_bytes at bytes file)
written_no_shorter at bytes file = omega (arith, length-append (take at file ++ bytes) (drop (at + length bytes) file), length-append (take at file) bytes, length-take at file, length-drop (at + length bytes) file)

written_no_longer : (at : ℕ) (bytes file : List ℕ) → length (with_bytes at bytes file) ≤ max (length file) (at + length bytes)
written_no_longer at bytes file = omega (arith, length-append (take at file ++ bytes) (drop (at + length bytes) file), length-append (take at file) bytes, length-take at file, length-drop (at + length bytes) file)

pub synced_is : (bytes : List ℕ) → IsDisk (synced_disk bytes)
synced_is bytes = record { no_shorter = omega (arith, length-replicate (length bytes) true); no_longer = omega arith }

pub after_write_is : (at : ℕ) (bytes : List ℕ) (disk : Disk) → IsDisk disk → IsDisk (after_write at bytes disk)
after_write_is at bytes disk is = record {
  no_shorter = omega (arith, is.no_shorter, length-solid_outside at (length bytes) disk.solid, written_no_shorter at bytes disk.seen);
  no_longer = omega (arith, is.no_longer, written_no_longer at bytes disk.seen);
}

pub after_torn_is : (at n : ℕ) (disk : Disk) → IsDisk disk → IsDisk (after_torn at n disk)
after_torn_is at n disk is = record {
  no_shorter = omega (arith, is.no_shorter, length-solid_outside at n disk.solid);
  no_longer = omega (arith, is.no_longer);
}

keeps_itself : (solid : List Bool) (seen : List ℕ) → length solid ≤ length seen → Keeps solid seen seen
keeps_itself [] seen le = tt
keeps_itself (s ∷ solid) [] le = absurd (omega arith)
keeps_itself (true ∷ solid) (b ∷ seen) le = (refl, keeps_itself solid seen (omega arith))
keeps_itself (false ∷ solid) (b ∷ seen) le = keeps_itself solid seen (omega arith)

-- a disk as it reads is one of its own images
pub seen_is_image : (disk : Disk) → IsDisk disk → IsImage disk disk.seen
seen_is_image disk is = record { no_shorter = is.no_shorter; no_longer = is.no_longer; kept = keeps_itself disk.solid disk.seen is.no_shorter }

keeps_all : (bytes image : List ℕ) → Keeps (replicate (length bytes) true) bytes image → length image ≤ length bytes → image ≡ bytes
keeps_all [] [] kept le = refl
keeps_all [] (c ∷ image) kept le = absurd (omega arith)
keeps_all (b ∷ bytes) [] kept le = absurd kept
keeps_all (b ∷ bytes) (c ∷ image) kept le = ap (λ (x : ℕ). x ∷ image) kept.0 ∙ ap (λ (l : List ℕ). b ∷ l) (keeps_all bytes image kept.1 (omega arith))

-- after a sync there is no other image
pub synced_image : (bytes image : List ℕ) → IsImage (synced_disk bytes) image → image ≡ bytes
synced_image bytes image is = keeps_all bytes image is.kept is.no_longer

-- an image after a write, with what was read before in the place of what was written
mended : ℕ → ℕ → List ℕ → List ℕ → List ℕ
mended zero zero seen image = image
mended zero (suc n) [] image = image
mended zero (suc n) (s ∷ seen) [] = []
mended zero (suc n) (s ∷ seen) (c ∷ image) = s ∷ mended zero n seen image
mended (suc at) n [] image = image
mended (suc at) n (s ∷ seen) [] = []
mended (suc at) n (s ∷ seen) (c ∷ image) = c ∷ mended at n seen image

length-mended : (at n : ℕ) (seen image : List ℕ) → length (mended at n seen image) ≡ length image
unfolding mended
length-mended zero zero seen image = refl
length-mended zero (suc n) [] image = refl
length-mended zero (suc n) (s ∷ seen) [] = refl
length-mended zero (suc n) (s ∷ seen) (c ∷ image) = ap suc (length-mended zero n seen image)
length-mended (suc at) n [] image = refl
length-mended (suc at) n (s ∷ seen) [] = refl
length-mended (suc at) n (s ∷ seen) (c ∷ image) = ap suc (length-mended at n seen image)

take-mended : (at n : ℕ) (seen image : List ℕ) → take at (mended at n seen image) ≡ take at image
unfolding mended
take-mended zero n seen image = refl
take-mended (suc at) n [] image = refl
take-mended (suc at) n (s ∷ seen) [] = refl
take-mended (suc at) n (s ∷ seen) (c ∷ image) = ap (λ (l : List ℕ). c ∷ l) (take-mended at n seen image)

drop_one : (k m : ℕ) (x : ℕ) (xs : List ℕ) → k ≡ suc m → drop k (x ∷ xs) ≡ drop m xs
drop_one k m x xs is = ap (λ (j : ℕ). drop j (x ∷ xs)) is

drop-mended : (at n : ℕ) (seen image : List ℕ) → drop (at + n) (mended at n seen image) ≡ drop (at + n) image
unfolding mended
drop-mended zero zero seen image = refl
drop-mended zero (suc n) [] image = refl
drop-mended zero (suc n) (s ∷ seen) [] = refl
drop-mended zero (suc n) (s ∷ seen) (c ∷ image) =
    drop_one (zero + suc n) (zero + n) s (mended zero n seen image) (omega arith) ∙ drop-mended zero n seen image ∙ sym (drop_one (zero + suc n) (zero + n) c image (omega arith))
drop-mended (suc at) n [] image = refl
drop-mended (suc at) n (s ∷ seen) [] = refl
drop-mended (suc at) n (s ∷ seen) (c ∷ image) =
    drop_one (suc at + n) (at + n) c (mended at n seen image) (omega arith) ∙ drop-mended at n seen image ∙ sym (drop_one (suc at + n) (at + n) c image (omega arith))

-- what is read now is what was read before, but for n places from this one on
abbrev pub SameOutside : ℕ → ℕ → List ℕ → List ℕ → Type 0
SameOutside at n [] new = Unit {0}
SameOutside at n (s ∷ seen) [] = ⊥
SameOutside zero zero (s ∷ seen) (b ∷ new) = (b ≡ s) × SameOutside zero zero seen new
SameOutside zero (suc n) (s ∷ seen) (b ∷ new) = SameOutside zero n seen new
SameOutside (suc at) n (s ∷ seen) (b ∷ new) = (b ≡ s) × SameOutside at n seen new

pub same_outside : (at n : ℕ) (seen : List ℕ) → SameOutside at n seen seen
same_outside at n [] = tt
same_outside zero zero (s ∷ seen) = (refl, same_outside zero zero seen)
same_outside zero (suc n) (s ∷ seen) = same_outside zero n seen
same_outside (suc at) n (s ∷ seen) = (refl, same_outside at n seen)

drop_zero : (k : ℕ) (rest seen : List ℕ) → k ≡ zero → rest ≡ drop k seen → seen ≡ rest
drop_zero k rest seen is_zero is = sym (is ∙ ap (λ (j : ℕ). drop j seen) is_zero)

written_outside : (at n : ℕ) (bytes seen rest : List ℕ) → length bytes ≡ n → rest ≡ drop (at + n) seen → SameOutside at n seen (take at seen ++ bytes ++ rest)
written_outside at n bytes [] rest long is = tt
written_outside zero zero [] (s ∷ seen) rest long is =
    subst (λ (l : List ℕ). SameOutside zero zero (s ∷ seen) l) (drop_zero (zero + zero) rest (s ∷ seen) (omega arith) is) (same_outside zero zero (s ∷ seen))
written_outside zero zero (b ∷ bytes) (s ∷ seen) rest long is = absurd (omega arith)
written_outside zero (suc n) [] (s ∷ seen) rest long is = absurd (omega arith)
written_outside zero (suc n) (b ∷ bytes) (s ∷ seen) rest long is =
    written_outside zero n bytes seen rest (omega arith) (is ∙ drop_one (zero + suc n) (zero + n) s seen (omega arith))
written_outside (suc at) n bytes (s ∷ seen) rest long is =
    (refl, written_outside at n bytes seen rest long (is ∙ drop_one (suc at + n) (at + n) s seen (omega arith)))

pub written_same_outside : (at : ℕ) (bytes seen : List ℕ) → SameOutside at (length bytes) seen (with_bytes at bytes seen)
written_same_outside at bytes seen = written_outside at (length bytes) bytes seen (drop (at + length bytes) seen) refl refl

keeps_before : (solid : List Bool) (seen new image : List ℕ) → length solid ≤ length seen → SameOutside zero zero seen new → Keeps solid new image → Keeps solid seen image
keeps_before [] seen new image le same kept = tt
keeps_before (x ∷ solid) [] new image le same kept = absurd (omega arith)
keeps_before (x ∷ solid) (s ∷ seen) [] image le same kept = absurd same
keeps_before (x ∷ solid) (s ∷ seen) (b ∷ new) [] le same kept = absurd kept
keeps_before (true ∷ solid) (s ∷ seen) (b ∷ new) (c ∷ image) le same kept = (kept.0 ∙ same.0, keeps_before solid seen new image (omega arith) same.1 kept.1)
keeps_before (false ∷ solid) (s ∷ seen) (b ∷ new) (c ∷ image) le same kept = keeps_before solid seen new image (omega arith) same.1 kept

keeps_mended : (at n : ℕ) (solid : List Bool) (seen new image : List ℕ) → length solid ≤ length seen → SameOutside at n seen new → Keeps (solid_outside at n solid) new image → Keeps solid seen (mended at n seen image)
unfolding mended
keeps_mended zero zero solid seen new image le same kept = keeps_before solid seen new image le same kept
keeps_mended zero (suc n) [] seen new image le same kept = tt
keeps_mended zero (suc n) (x ∷ solid) [] new image le same kept = absurd (omega arith)
keeps_mended zero (suc n) (x ∷ solid) (s ∷ seen) [] image le same kept = absurd same
keeps_mended zero (suc n) (x ∷ solid) (s ∷ seen) (b ∷ new) [] le same kept = absurd kept
keeps_mended zero (suc n) (true ∷ solid) (s ∷ seen) (b ∷ new) (c ∷ image) le same kept = (refl, keeps_mended zero n solid seen new image (omega arith) same kept)
keeps_mended zero (suc n) (false ∷ solid) (s ∷ seen) (b ∷ new) (c ∷ image) le same kept = keeps_mended zero n solid seen new image (omega arith) same kept
keeps_mended (suc at) n [] seen new image le same kept = tt
keeps_mended (suc at) n (x ∷ solid) [] new image le same kept = absurd (omega arith)
keeps_mended (suc at) n (x ∷ solid) (s ∷ seen) [] image le same kept = absurd same
keeps_mended (suc at) n (x ∷ solid) (s ∷ seen) (b ∷ new) [] le same kept = absurd kept
keeps_mended (suc at) n (true ∷ solid) (s ∷ seen) (b ∷ new) (c ∷ image) le same kept = (kept.0 ∙ same.0, keeps_mended at n solid seen new image (omega arith) same.1 kept.1)
keeps_mended (suc at) n (false ∷ solid) (s ∷ seen) (b ∷ new) (c ∷ image) le same kept = keeps_mended at n solid seen new image (omega arith) same.1 kept

keeps_front : (m : ℕ) (solid : List Bool) (seen image : List ℕ) → length solid ≤ m → Keeps solid seen image → Keeps solid seen (take m image)
keeps_front m [] seen image le kept = tt
keeps_front zero (x ∷ solid) seen image le kept = absurd (omega arith)
keeps_front (suc m) (x ∷ solid) [] image le kept = absurd kept
keeps_front (suc m) (x ∷ solid) (s ∷ seen) [] le kept = absurd kept
keeps_front (suc m) (true ∷ solid) (s ∷ seen) (c ∷ image) le kept = (kept.0, keeps_front m solid seen image (omega arith) kept.1)
keeps_front (suc m) (false ∷ solid) (s ∷ seen) (c ∷ image) le kept = keeps_front m solid seen image (omega arith) kept

-- Each image after a write of n bytes, whether it failed or not, is one from before it that the write has torn.
module _ (at n : ℕ) (old : Disk) (new : List ℕ) (is_disk : IsDisk old) (begins : at ≤ length old.seen) (same : SameOutside at n old.seen new) (image : List ℕ) where
  abbrev after : Disk
  after = record { seen = new; solid = solid_outside at n old.solid; longest = max old.longest (at + n) }

  whole : List ℕ
  whole = mended at n old.seen image

  length-whole : length whole ≡ length image
  unfolding whole
  length-whole = length-mended at n old.seen image

  at_most : ℕ
  at_most = min (length image) old.longest

  front : List ℕ
  front = take (min (length image) old.longest) whole

  length-front : length front ≡ min (length image) old.longest
  unfolding front
  length-front = omega (arith, length-take (min (length image) old.longest) whole, length-whole)

  front_image : IsImage after image → IsImage old front
  unfolding front whole
  front_image is =
      let short : length old.solid ≤ min (length image) old.longest = omega (arith, is.no_shorter, length-solid_outside at n old.solid, is_disk.no_shorter, is_disk.no_longer) in
      record {
        no_shorter = omega (arith, length-front, short);
        no_longer = omega (arith, length-front);
        kept = keeps_front (min (length image) old.longest) old.solid old.seen (mended at n old.seen image) short (keeps_mended at n old.solid old.seen new image is_disk.no_shorter same is.kept);
      }

  front_before : take at image ≡ take at front
  unfolding front whole
  front_before = elim (cases_lt old.longest (length image)) [
    | inl longer ↦ sym (take-take at (min (length image) old.longest) whole (omega (arith, is_disk.no_longer)) ∙ take-mended at n old.seen image)
    | inr fits ↦ sym (ap (λ (l : List ℕ). take at l) (take_all (min (length image) old.longest) whole (omega (arith, length-whole))) ∙ take-mended at n old.seen image)
  ]

  front_after : length image ≤ max old.longest (at + n) → drop (at + n) image ≡ drop (at + n) front
  unfolding front whole
  front_after within = elim (cases_lt old.longest (length image)) [
    | inl longer ↦ drop_all (at + n) image (omega arith) ∙ sym (drop_all (at + n) front (omega (arith, length-front)))
    | inr fits ↦ sym (ap (λ (l : List ℕ). drop (at + n) l) (take_all (min (length image) old.longest) whole (omega (arith, length-whole))) ∙ drop-mended at n old.seen image)
  ]

  pub torn_from : IsImage after image → (d : List ℕ) × IsImage old d × Torn at n d image
  torn_from is = (
    front,
    front_image is,
    record {
      before = front_before;
      after = front_after is.no_longer;
      no_shorter = omega (arith, length-front);
      no_longer = omega (arith, length-front, is.no_longer);
    },
  )

length-filled_bytes : (fill : ℕ) (solid : List Bool) (seen : List ℕ) → length solid ≤ length seen → length (filled_bytes fill solid seen) ≡ length solid
length-filled_bytes fill [] seen le = refl
length-filled_bytes fill (x ∷ solid) [] le = absurd (omega arith)
length-filled_bytes fill (true ∷ solid) (s ∷ seen) le = ap suc (length-filled_bytes fill solid seen (omega arith))
length-filled_bytes fill (false ∷ solid) (s ∷ seen) le = ap suc (length-filled_bytes fill solid seen (omega arith))

keeps_filled : (fill : ℕ) (solid : List Bool) (seen rest : List ℕ) → length solid ≤ length seen → Keeps solid seen (filled_bytes fill solid seen ++ rest)
keeps_filled fill [] seen rest le = tt
keeps_filled fill (x ∷ solid) [] rest le = absurd (omega arith)
keeps_filled fill (true ∷ solid) (s ∷ seen) rest le = (refl, keeps_filled fill solid seen rest (omega arith))
keeps_filled fill (false ∷ solid) (s ∷ seen) rest le = keeps_filled fill solid seen rest (omega arith)

-- The image that is all `fill` where it may be is one that the disk allows.
pub image_with_is : (fill keep : ℕ) (disk : Disk) → IsDisk disk → IsImage disk (image_with fill keep disk)
image_with_is fill keep disk is =
    let long = length-append (filled_bytes fill disk.solid disk.seen) (replicate (min keep disk.longest - length disk.solid) fill) in
    let front = length-filled_bytes fill disk.solid disk.seen is.no_shorter in
    let back = length-replicate (min keep disk.longest - length disk.solid) fill in
    record {
      no_shorter = omega (arith, long, front, back);
      no_longer = omega (arith, long, front, back, is.no_shorter, is.no_longer);
      kept = keeps_filled fill disk.solid disk.seen (replicate (min keep disk.longest - length disk.solid) fill) is.no_shorter;
    }
