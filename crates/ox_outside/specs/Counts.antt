-- What a site counts: the failures of each kind, and the times that it had nothing to give. No
-- count ever falls.
use Rattle.std.specs.Prelude.{◌≡◌, ◌≢◌, ℕ, ◌+◌, ◌<◌, ◌≤◌, ◌⊎◌, Result, Ok, Err}
use Rattle.ox_outside.specs.declared.site.Doorway.{Doorway}

pub record Counts : Type 0 where
  -- failures of calls on a file
  pub disk : ℕ
  -- failures of calls on a door
  pub door : ℕ
  -- failures of `hear` and of `show`, for each channel
  pub hear : ℕ → ℕ
  pub show : ℕ → ℕ
  -- for each channel, how often it had nothing to give or took nothing, and wasn't at its end
  pub not_yets : ℕ → ℕ
  -- for each door, how often nobody waited
  pub door_idles : Doorway → ℕ

pub record NoneFell (old new : Counts) : Type 0 where
  pub disk : old.disk ≤ new.disk
  pub door : old.door ≤ new.door
  pub hear : (channel : ℕ) → old.hear channel ≤ new.hear channel
  pub show : (channel : ℕ) → old.show channel ≤ new.show channel
  pub not_yets : (channel : ℕ) → old.not_yets channel ≤ new.not_yets channel
  pub door_idles : (door : Doorway) → old.door_idles door ≤ new.door_idles door

-- the greatest count, at which a count stays
abbrev pub greatest : ℕ
greatest = 18446744073709551615

-- a count rose in a call, or can rise no more
abbrev pub Rose : ℕ → ℕ → Type 0
Rose old new = (old < new) ⊎ (greatest ≤ new)

-- Of calls one after the other none failed but the last, if at all: `failed` says that it did.
pub record FailsLast (failed : Type 0) (old new : ℕ) : Type 0 where
  pub most : new ≤ old + 1
  pub unless : ¬ failed → new ≡ old

-- a call failed
abbrev pub IsFailure : {T E : Type 0} → Result T E → Type 0
IsFailure (Ok x) = ⊥
IsFailure (Err e) = Unit {0}

-- A call on a file counts its own failure, and no hearing or showing.
pub record CountsFile {T E : Type 0} (result : Result T E) (old new : Counts) : Type 0 where
  pub disk : FailsLast (IsFailure result) old.disk new.disk
  pub hear : (channel : ℕ) → new.hear channel ≡ old.hear channel
  pub show : (channel : ℕ) → new.show channel ≡ old.show channel

-- a hearing
pub record CountsHearing {T E : Type 0} (channel : ℕ) (result : Result T E) (old new : Counts)
    : Type 0 where
  pub disk : new.disk ≡ old.disk
  pub hear : FailsLast (IsFailure result) (old.hear channel) (new.hear channel)
  -- a link's hearing leaves the count of channel 0
  pub own : channel ≢ 0 → new.hear 0 ≡ old.hear 0
  pub show : (c : ℕ) → new.show c ≡ old.show c

-- a showing
pub record CountsShowing {T E : Type 0} (channel : ℕ) (result : Result T E) (old new : Counts)
    : Type 0 where
  pub disk : new.disk ≡ old.disk
  pub hear : (c : ℕ) → new.hear c ≡ old.hear c
  pub show : FailsLast (IsFailure result) (old.show channel) (new.show channel)
  pub own : channel ≢ 0 → new.show 0 ≡ old.show 0

-- What calls on files and on channel 0 did to the counts: none failed but the last, if at all, and
-- these say which kind it was.
pub record StopsAtFault (disk hear show : Type 0) (old new : Counts) : Type 0 where
  pub of_disk : FailsLast disk old.disk new.disk
  pub of_hear : FailsLast hear (old.hear 0) (new.hear 0)
  pub of_show : FailsLast show (old.show 0) (new.show 0)

-- calls on files and on channel 0 of which none failed
pub record NoFault (old new : Counts) : Type 0 where
  pub disk : new.disk ≡ old.disk
  pub hear : new.hear 0 ≡ old.hear 0
  pub show : new.show 0 ≡ old.show 0
