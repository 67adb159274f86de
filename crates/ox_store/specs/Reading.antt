-- Pieces of a body that are read, and more of them: the laws of a file that is read in pieces.
use Rattle.std.proofs.Common.{◌∙◌, refl, ap}
use Rattle.ox_outside.proofs.Calls.{looks_none, looks_then}
use Rattle.ox_outside.proofs.Counts.{no_fault_then, no_fault_yet, stops_after, then_rose}
use Rattle.ox_outside.specs.declared.site.Site.{Ghosts as Meanings}
use Rattle.ox_gated.specs.Parts.{Unread}
use Rattle.ox_gated.specs.WritesOn.{OnlyNow}
use Rattle.ox_gated.specs.declared.fault.Halt.{Halt}
use Rattle.ox_store.specs.Parts.{ReadsOn, ReadsUntil}

-- before the first piece
pub reads_none : {S : Type 0} (means : Meanings S) → OnlyNow means → (k : Unread) (site : S)
    → ReadsOn means k site k site
reads_none means only_now k site = record {
  same = refl;
  looks = looks_none means only_now site;
  counted = no_fault_yet (means.counts site);
}

-- pieces, and more of them
pub reads_then : {S : Type 0} (means : Meanings S) (k l m : Unread) (old mid new : S)
    → ReadsOn means k old l mid → ReadsOn means l mid m new → ReadsOn means k old m new
reads_then means k l m old mid new first next = record {
  same = next.same ∙ ap (λ (u : Unread). record u { read = m.read }) first.same;
  looks = looks_then means old mid new first.looks next.looks;
  counted = no_fault_then _ _ _ first.counted next.counted;
}

-- pieces, and more of them of which the last wasn't read
pub reads_until : {S : Type 0} (means : Meanings S) (k l : Unread) (old mid new : S) (halt : Halt)
    → ReadsOn means k old l mid → ReadsUntil means mid halt new → ReadsUntil means old halt new
reads_until means k l old mid new halt first next = record {
  looks = looks_then means old mid new first.looks next.looks;
  failed = λ disk. then_rose _ _ _ first.looks.calls.none_fell.disk (next.failed disk);
  counted = stops_after _ _ _ _ _ _ first.counted next.counted;
}
