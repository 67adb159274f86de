-- Writes behind the closed gate, and more of them: the laws of a file that is filled.
use Rattle.std.proofs.Common.{◌≡◌, ◌∙◌, refl, sym, subst}
use Rattle.std.specs.Prelude.{IsTrue}
use Rattle.ox_outside.proofs.Calls.{leaves_at_first, leaves_then, leaves_weaker}
use Rattle.ox_outside.proofs.Counts.{no_fault_yet, no_fault_then, stops_after, then_rose}
use Rattle.ox_outside.specs.declared.site.Site.{Ghosts as Meanings}
use Rattle.ox_gated.specs.Filling.{Poured, Pours, PoursOn, PoursUntil, StaysShut}
use Rattle.ox_gated.specs.Tail.{Kept}
use Rattle.ox_gated.specs.WritesOn.{LogsNow, OnlyNow, writes_none, writes_then}
use Rattle.ox_gated.specs.declared.fault.Halt.{Halt}

-- before the first call
pub pours_none : {S : Type 0} (means : Meanings S) → OnlyNow means → LogsNow means
    → (tail : Kept) (site : S) → (IsTrue (means.told site) → StaysShut means tail site)
    → PoursOn means tail site site
pours_none means only_now logs_now tail site shut = record {
  writes = writes_none means only_now logs_now site;
  stays = shut;
  spared = λ told. refl;
  alike = λ told reads. refl;
  moments = λ told.
      leaves_at_first means site _ (λ r left. ((shut told).each r (only_now site r left)).alike);
}

-- two runs, one after the other
pub pours_then : {S : Type 0} (means : Meanings S) → LogsNow means
    → (tail : Kept) (old mid new : S) → PoursOn means tail old mid → PoursOn means tail mid new
    → PoursOn means tail old new
pours_then means logs_now tail old mid new first next =
    let told_mid : IsTrue (means.told old) → IsTrue (means.told mid) =
    λ told. subst IsTrue (sym first.writes.calls.as_told) told in
    record {
      writes = writes_then means logs_now old mid new first.writes next.writes;
      stays = λ told. next.stays (told_mid told);
      spared = λ told. next.spared (told_mid told) ∙ first.spared told;
      alike = λ told reads. next.alike (told_mid told) reads ∙ first.alike told reads;
      moments = λ told.
          leaves_then means old mid new _ (first.moments told)
          (leaves_weaker means mid new _ _ (λ r alike reads. alike reads ∙ first.alike told reads)
          (next.moments (told_mid told)));
    }

-- ---- of fillings

-- before the first piece
pub fills_none : {S : Type 0} (means : Meanings S) → OnlyNow means → LogsNow means
    → (k : Poured) (site : S) → (IsTrue (means.told site) → StaysShut means k.tail site)
    → (k.tail ≡ k.tail) × Pours means k.tail site site
fills_none means only_now logs_now k site shut = (
  refl,
  record {
    on = pours_none means only_now logs_now k.tail site shut;
    counted = no_fault_yet (means.counts site);
  },
)

-- pieces, and more of them
pub fills_then : {S : Type 0} (means : Meanings S) → LogsNow means
    → (k l m : Poured) (old mid new : S) → (l.tail ≡ k.tail) × Pours means k.tail old mid
    → (m.tail ≡ l.tail) × Pours means l.tail mid new
    → (m.tail ≡ k.tail) × Pours means k.tail old new
fills_then means logs_now k l m old mid new first next =
    let then_ : Pours means k.tail mid new =
    subst (λ (t : Kept). Pours means t mid new) first.0 next.1 in (
      next.0 ∙ first.0,
      record {
        on = pours_then means logs_now k.tail old mid new first.1.on then_.on;
        counted = no_fault_then _ _ _ first.1.counted then_.counted;
      },
    )

-- pieces, and more of them of which the last failed
pub fills_until : {S : Type 0} (means : Meanings S) → LogsNow means
    → (k l m : Poured) (old mid new : S) (halt : Halt)
    → (l.tail ≡ k.tail) × Pours means k.tail old mid
    → (m.tail ≡ l.tail) × PoursUntil means l.tail mid halt new
    → (m.tail ≡ k.tail) × PoursUntil means k.tail old halt new
fills_until means logs_now k l m old mid new halt first next =
    let then_ : PoursUntil means k.tail mid halt new =
    subst (λ (t : Kept). PoursUntil means t mid halt new) first.0 next.1 in (
      next.0 ∙ first.0,
      record {
        on = pours_then means logs_now k.tail old mid new first.1.on then_.on;
        failed = λ disk.
            then_rose _ _ _ first.1.on.writes.calls.none_fell.disk (then_.failed disk);
        counted = stops_after _ _ _ _ _ _ first.1.counted then_.counted;
      },
    )
