-- Bytes that are shown in two parts.
use Rattle.std.proofs.Common.{◌≡◌, ◌∙◌, ℕ, List, ◌++◌, Option, sym, ap, append_assoc, subst}
use Rattle.std.specs.Prelude.{Result, Ok, Err}
use Rattle.ox_outside.specs.Event.{Event, shown_bytes}
use Rattle.ox_outside.specs.declared.site.Failed.{Failed}
use Rattle.ox_outside.specs.declared.site.Site.{Ghosts as Meanings}
use Rattle.ox_outside.specs.Log.{Grows}
use Rattle.ox_outside.specs.Runs.{OnlyTalks}
use Rattle.ox_outside.proofs.Event.{shown_bytes-append}
use Rattle.ox_app.specs.Show.{Shows, ShowsFront, ShowsWhole}
use Rattle.ox_app.proofs.Pieces.{quiet_then}

module _ (first behind : List ℕ) where
  -- a front of the first part is one of both
  pub front_of_both : (x : List Event) → ShowsFront first x → ShowsFront (first ++ behind) x
  front_of_both x shows = record {
    quiet = shows.quiet;
    shown = (shows.shown.0 ++ behind, sym (append_assoc (shown_bytes 0 x) shows.shown.0 behind) ∙ ap (λ (l : List ℕ). l ++ behind) shows.shown.1);
  }

  pub then_front : (x y : List Event) → ShowsWhole first x → ShowsFront behind y → ShowsFront (first ++ behind) (x ++ y)
  then_front x y whole front = record {
    quiet = quiet_then x y whole.quiet front.quiet;
    shown = (
      front.shown.0,
      ap (λ (l : List ℕ). l ++ front.shown.0) (shown_bytes-append 0 x y ∙ ap (λ (l : List ℕ). l ++ shown_bytes 0 y) whole.shown)
          ∙ append_assoc first (shown_bytes 0 y) front.shown.0 ∙ ap (λ (l : List ℕ). first ++ l) front.shown.1,
    );
  }

  pub then_shows : (result : Result (Unit {0}) Failed) (x y : List Event) → ShowsWhole first x → Shows behind result y → Shows (first ++ behind) result (x ++ y)
  then_shows (Ok done) x y whole shows = record {
    quiet = quiet_then x y whole.quiet shows.quiet;
    shown = shown_bytes-append 0 x y ∙ ap (λ (l : List ℕ). l ++ shown_bytes 0 y) whole.shown ∙ ap (λ (l : List ℕ). first ++ l) shows.shown;
  }
  then_shows (Err failed) x y whole shows = then_front x y whole shows

-- ---- the same bytes, otherwise written

module _ (bytes other : List ℕ) (same : bytes ≡ other) where
  pub shows_as : (result : Result (Unit {0}) Failed) (old new : Option (List Event)) → Grows (Shows bytes result) old new → Grows (Shows other result) old new
  shows_as result old new shows = subst (λ (l : List ℕ). Grows (Shows l result) old new) same shows

  pub fronts_as : {S : Type 0} (means : Meanings S) (old new : S) → OnlyTalks means (ShowsFront bytes) old new → OnlyTalks means (ShowsFront other) old new
  fronts_as means old new talks = subst (λ (l : List ℕ). OnlyTalks means (ShowsFront l) old new) same talks
