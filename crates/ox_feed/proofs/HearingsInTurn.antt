-- How the hearings of one call go on: what several of them say together.
use Rattle.std.proofs.Common.{◌≡◌, ◌∙◌, ℕ, ◌||◌, Bool, true, false, List, [], ◌++◌, length, refl, sym, ap, arith, length-append, append_assoc}
use Rattle.std.specs.Prelude.{Option, Result, Ok, Err, IsErrOf}
use Rattle.ox_outside.specs.Counts.{Counts, NoFault, StopsAtFault}
use Rattle.ox_outside.specs.Event.{Event, heard_bytes, has_ended}
use Rattle.ox_outside.specs.Log.{Grows}
use Rattle.ox_outside.proofs.Counts.{went_on}
use Rattle.ox_outside.proofs.Event.{heard_bytes-append, has_ended-append}
use Rattle.ox_outside.proofs.Log.{grows_then, grows_weaker}
use Rattle.ox_feed.specs.Feed.{Feed, Hears, Answers, lines_from}
use Rattle.ox_feed.specs.Held.{Waits}
use Rattle.ox_feed.specs.declared.lines.Line.{Line}
use Rattle.ox_feed.specs.declared.lines.FeedFault.{FeedFault}
use Rattle.ox_feed.specs.declared.lines.FeedFault.TheVariants.{HearFault}
use Rattle.ox_feed.proofs.HearingOnlyTalks.{only_hears_then}

or_assoc : (a b c : Bool) → ((a || b) || c) ≡ (a || (b || c))
or_assoc true b c = refl
or_assoc false b c = refl

both_empty : (x y : List Event) → x ≡ [] → y ≡ [] → x ++ y ≡ []
both_empty x y e f = rw (e, f) refl

-- two parts of a call's events, where lines may be cut off between
pub hears_then : (old a b new : Feed) (x y : List Event) → b.heard ≡ a.heard → b.ended ≡ a.ended → Hears old a x → Hears b new y → Hears old new (x ++ y)
hears_then old a b new x y heard ended first then_ = record {
  only = only_hears_then x y first.only then_.only;
  count = omega (arith, first.count, then_.count, heard, ap (λ (l : List ℕ). length l) (heard_bytes-append 0 x y), length-append (heard_bytes 0 x) (heard_bytes 0 y));
  ended = then_.ended ∙ ap (λ (e : Bool). e || has_ended 0 y) (ended ∙ first.ended) ∙ or_assoc old.ended (has_ended 0 x) (has_ended 0 y)
      ∙ ap (λ (e : Bool). old.ended || e) (sym (has_ended-append 0 x y));
  quiet = λ over.
      let none = first.quiet over in
      let still : a.ended ≡ true = first.ended ∙ ap (λ (e : Bool). e || has_ended 0 x) over in
      both_empty x y none (then_.quiet (ended ∙ still));
}

waits_then : (old a b new : Feed) (x y : List Event) → b.heard ≡ a.heard → b.ended ≡ a.ended
    → ((more : List ℕ) (ended : Bool) → lines_from a more ended ≡ lines_from b more ended) → Waits old a x → Waits b new y → Waits old new (x ++ y)
waits_then old a b new x y heard ended same first then_ = record {
  hears = hears_then old a b new x y heard ended first.hears then_.hears;
  same = λ more over.
      let split : heard_bytes 0 (x ++ y) ++ more ≡ heard_bytes 0 x ++ (heard_bytes 0 y ++ more) =
      ap (λ (l : List ℕ). l ++ more) (heard_bytes-append 0 x y) ∙ append_assoc (heard_bytes 0 x) (heard_bytes 0 y) more in
      ap (λ (l : List ℕ). lines_from old l over) split ∙ first.same (heard_bytes 0 y ++ more) over
      ∙ same (heard_bytes 0 y ++ more) over ∙ then_.same more over;
}

-- a hearing more
pub waits_on : (old a b new : Feed) (first mid now : Option (List Event)) → b.heard ≡ a.heard → b.ended ≡ a.ended
    → ((more : List ℕ) (ended : Bool) → lines_from a more ended ≡ lines_from b more ended)
    → Grows (Waits old a) first mid → Grows (Waits b new) mid now → Grows (Waits old new) first now
waits_on old a b new first mid now heard ended same = grows_then (Waits old a) (Waits b new) (Waits old new) first mid now
    (λ x y p q. waits_then old a b new x y heard ended same p q)

-- a call that gave no line
pub waits_in_vain : (old new : Feed) (result : Result Line FeedFault) (fault : FeedFault) (first now : Option (List Event)) → result ≡ Err fault
    → Grows (Waits old new) first now → Grows (Answers old result new) first now
waits_in_vain old new result fault first now fails = rw fails (grows_weaker (Waits old new) (Answers old (Err fault) new) first now (λ added waits. record { hears = waits.hears; line = tt }))

-- of hearings after which a reader went on none failed
pub hearing_worked : {T : Type 0} (x : T) (old new : Counts) → StopsAtFault ⊥ (IsErrOf {T = T} {E = FeedFault} (Ok x) HearFault) ⊥ old new → NoFault old new
hearing_worked {T} x old new counted = went_on ⊥ (IsErrOf {T = T} {E = FeedFault} (Ok x) HearFault) ⊥ old new (λ no. no) (λ is. cc is) (λ no. no) counted
