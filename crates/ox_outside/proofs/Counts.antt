-- How counts go on from call to call.
use Rattle.std.proofs.Common.{◌≡◌, ◌∙◌, ◌≢◌, ◌≤◌, ℕ, inl, inr, ⊎_elim, refl, arith}
use Rattle.std.specs.Prelude.{Result}
use Rattle.ox_outside.specs.Counts.{Counts, NoneFell, Rose, FailsLast, IsFailure, CountsFile}
use Rattle.ox_outside.specs.Counts.{CountsHearing, CountsShowing, StopsAtFault, NoFault}

pub none_fell_yet : (counts : Counts) → NoneFell counts counts
none_fell_yet counts = record {
  disk = omega arith;
  door = omega arith;
  hear = λ channel. omega arith;
  show = λ channel. omega arith;
  not_yets = λ channel. omega arith;
  door_idles = λ door. omega arith;
}

pub none_fell_then : (old mid new : Counts) → NoneFell old mid → NoneFell mid new → NoneFell old new
none_fell_then old mid new first then_ = record {
  disk = omega (arith, first.disk, then_.disk);
  door = omega (arith, first.door, then_.door);
  hear = λ channel. omega (arith, first.hear channel, then_.hear channel);
  show = λ channel. omega (arith, first.show channel, then_.show channel);
  not_yets = λ channel. omega (arith, first.not_yets channel, then_.not_yets channel);
  door_idles = λ door. omega (arith, first.door_idles door, then_.door_idles door);
}

-- a count that rose has risen still after more calls, and after calls before
pub rose_then : (old mid new : ℕ) → Rose old mid → mid ≤ new → Rose old new
rose_then old mid new rose le = ⊎_elim (λ less. inl (omega arith)) (λ full. inr (omega arith)) rose

pub then_rose : (old mid new : ℕ) → old ≤ mid → Rose mid new → Rose old new
then_rose old mid new le rose = ⊎_elim (λ less. inl (omega arith)) (λ full. inr (omega arith)) rose

-- ---- calls of which none failed but the last

pub none_made : (failed : Type 0) (count : ℕ) → FailsLast failed count count
none_made failed count = record { most = omega arith; unless = λ no. refl }

-- calls of which none failed, and then others
pub fails_after : (failed : Type 0) (old mid new : ℕ) → mid ≡ old → FailsLast failed mid new → FailsLast failed old new
fails_after failed old mid new same last = record {
  most = omega (arith, same, last.most);
  unless = λ no. last.unless no ∙ same;
}

-- what failed is told in other words
pub fails_as : (P Q : Type 0) (old new : ℕ) → (P → Q) → FailsLast P old new → FailsLast Q old new
fails_as P Q old new tells last = record { most = last.most; unless = λ no. last.unless (λ p. no (tells p)) }

-- none failed at all
pub none_fails : (failed : Type 0) (old new : ℕ) → new ≡ old → FailsLast failed old new
none_fails failed old new same = record { most = omega (arith, same); unless = λ no. same }

-- ---- calls on files and on channel 0

pub no_fault_yet : (counts : Counts) → NoFault counts counts
no_fault_yet counts = record { disk = refl; hear = refl; show = refl }

pub no_fault_then : (old mid new : Counts) → NoFault old mid → NoFault mid new → NoFault old new
no_fault_then old mid new first then_ = record {
  disk = then_.disk ∙ first.disk;
  hear = then_.hear ∙ first.hear;
  show = then_.show ∙ first.show;
}

-- after calls of which none failed
pub stops_after : (disk hear show : Type 0) (old mid new : Counts) → NoFault old mid → StopsAtFault disk hear show mid new → StopsAtFault disk hear show old new
stops_after disk hear show old mid new first then_ = record {
  of_disk = fails_after disk _ _ _ first.disk then_.of_disk;
  of_hear = fails_after hear _ _ _ first.hear then_.of_hear;
  of_show = fails_after show _ _ _ first.show then_.of_show;
}

-- no call failed, so none is told
pub stops_at_none : (disk hear show : Type 0) (old new : Counts) → NoFault old new → StopsAtFault disk hear show old new
stops_at_none disk hear show old new none = record {
  of_disk = none_fails disk _ _ none.disk;
  of_hear = none_fails hear _ _ none.hear;
  of_show = none_fails show _ _ none.show;
}

-- what ended the calls is told in other words
pub stops_as : (disk hear show disk2 hear2 show2 : Type 0) (old new : Counts) → (disk → disk2) → (hear → hear2) → (show → show2)
    → StopsAtFault disk hear show old new → StopsAtFault disk2 hear2 show2 old new
stops_as disk hear show disk2 hear2 show2 old new d h s stops = record {
  of_disk = fails_as disk disk2 _ _ d stops.of_disk;
  of_hear = fails_as hear hear2 _ _ h stops.of_hear;
  of_show = fails_as show show2 _ _ s stops.of_show;
}

-- calls that no fault ended
pub went_on : (disk hear show : Type 0) (old new : Counts) → ¬ disk → ¬ hear → ¬ show → StopsAtFault disk hear show old new → NoFault old new
went_on disk hear show old new d h s stops = record {
  disk = stops.of_disk.unless d;
  hear = stops.of_hear.unless h;
  show = stops.of_show.unless s;
}

-- ---- one call

module _ {T E : Type 0} (result : Result T E) (old new : Counts) where
  pub file_call : CountsFile result old new → StopsAtFault (IsFailure result) ⊥ ⊥ old new
  file_call counted = record {
    of_disk = counted.disk;
    of_hear = none_fails ⊥ _ _ (counted.hear 0);
    of_show = none_fails ⊥ _ _ (counted.show 0);
  }

  pub own_hearing : CountsHearing 0 result old new → StopsAtFault ⊥ (IsFailure result) ⊥ old new
  own_hearing counted = record {
    of_disk = none_fails ⊥ _ _ counted.disk;
    of_hear = counted.hear;
    of_show = none_fails ⊥ _ _ (counted.show 0);
  }

  pub own_showing : CountsShowing 0 result old new → StopsAtFault ⊥ ⊥ (IsFailure result) old new
  own_showing counted = record {
    of_disk = none_fails ⊥ _ _ counted.disk;
    of_hear = none_fails ⊥ _ _ (counted.hear 0);
    of_show = counted.show;
  }

  -- a link's calls leave what is counted of files and of channel 0
  pub link_hearing : (channel : ℕ) → channel ≢ 0 → CountsHearing channel result old new → NoFault old new
  link_hearing channel link counted = record { disk = counted.disk; hear = counted.own link; show = counted.show 0 }

  pub link_showing : (channel : ℕ) → channel ≢ 0 → CountsShowing channel result old new → NoFault old new
  link_showing channel link counted = record { disk = counted.disk; hear = counted.hear 0; show = counted.own link }
