-- Hearings of a reader of frames: what they put behind its bytes, and what several say together.
use Rattle.std.proofs.Common.{◌≡◌, ◌≤◌, ◌∙◌, ℕ, ◌+◌, Bool, true, false, List, [], ◌++◌, length, take, refl, sym, ap, arith, length-append, append_assoc}
use Rattle.std.specs.Prelude.{◌||◌, IsTrue, Option, Some, Result, Ok}
use Rattle.std.proofs.Math.Seq.{take-append-add}
use Rattle.std.proofs.lemmas.List.{append-nil, length-take, take-append-le, take-take, take_all}
use Rattle.ox_outside.specs.Event.{Event, Heard, has_ended, hear_events, heard_bytes}
use Rattle.ox_outside.specs.Log.{Adds, Grows}
use Rattle.ox_outside.specs.declared.site.Heard.TheVariants.{Bytes}
use Rattle.ox_outside.specs.Runs.{OnlyTalks}
use Rattle.ox_outside.specs.declared.site.Site.{Ghosts as Meanings}
use Rattle.ox_outside.proofs.Event.{heard_bytes-append}
use Rattle.ox_outside.proofs.Log.{adds_grows, grows_then}
use Rattle.ox_outside.proofs.OnlyTalks.{talks_then}
use Rattle.ox_feed.specs.Feed.{Feed, Listens, OnlyHears}
use Rattle.ox_feed.specs.declared.lines.FeedFault.{FeedFault}
use Rattle.ox_feed.proofs.HearingOnlyTalks.{only_hears_none, only_hears_one, only_hears_then}
use Rattle.ox_feed.proofs.HearingsInTurn.{hears_then}
use Rattle.ox_pieces.specs.Frames.{Advances, HearsBehind, heard_count, is_end}

or_false : (b : Bool) → b ≡ (b || false)
or_false true = refl
or_false false = refl

not_over : (b : Bool) → IsTrue b → b ≡ false → ⊥
not_over true over goes_on = cc goes_on
not_over false over goes_on = cc over

-- no hearing
pub advances_none : (feed : Feed) → Advances feed feed []
advances_none feed = record {
  hears = record { only = only_hears_none; count = omega arith; ended = or_false feed.ended; quiet = λ over. refl };
  rest = sym (append-nil feed.rest);
}

-- room behind bytes leaves them
front_kept : (len most : ℕ) (old room : List ℕ) → len ≡ length old → take len (take (len + most) old ++ room) ≡ old
front_kept len most old room is =
    ap (λ (l : List ℕ). take len (l ++ room)) (take_all (len + most) old (omega (arith, is)))
    ∙ take-append-le len old room (omega (arith, is)) ∙ take_all len old (omega (arith, is))

-- n bytes that were heard into the room behind others
heard_behind : (len n size : ℕ) (front into old more : List ℕ) → front ≡ old → length front ≡ len → n ≤ length into → len + length into ≡ size
    → take (len + n) (take size ((front ++ into) ++ more)) ≡ old ++ take n into
heard_behind len n size front into old more same long within whole =
    take-take (len + n) size ((front ++ into) ++ more) (omega (arith, within, whole))
    ∙ take-append-le (len + n) (front ++ into) more (omega (arith, within, long, length-append front into))
    ∙ ap (λ (k : ℕ). take (k + n) (front ++ into)) (sym long)
    ∙ take-append-add front into n
    ∙ ap (λ (l : List ℕ). l ++ take n into) same

-- of bytes with room behind, which are shown in two parts, and of which all behind the n heard ones is cut off
pub heard_in_room : (len n most size : ℕ) (old room items seen front into more new : List ℕ) → len ≡ length old → items ≡ take (len + most) old ++ room → seen ≡ items → front ≡ take len seen
    → length front ≡ len → n ≤ length into → len + length into ≡ size → new ≡ take (len + n) (take size ((front ++ into) ++ more)) → new ≡ old ++ take n into
heard_in_room len n most size old room items seen front into more new whole roomy same cut long within all is =
    let kept : front ≡ old = cut ∙ ap (take len) (same ∙ roomy) ∙ front_kept len most old room whole in
    is ∙ heard_behind len n size front into old more kept long within all

pub heard_size : (n : ℕ) (old into new : List ℕ) → n ≤ length into → new ≡ old ++ take n into → length new ≡ length old + n
heard_size n old into new within is =
    omega (arith, within, ap (λ (l : List ℕ). length l) is, length-append old (take n into), length-take n into)

-- what is logged of bytes that a hearing has put behind others
pub logged_bytes : (room old new : List ℕ) (n : ℕ) (first now : Option (List Event)) → new ≡ old ++ take n room → Adds (hear_events 0 room (Ok (Bytes n))) first now
    → Grows (HearsBehind (Ok (Some n)) old new) first now
logged_bytes room old new n first now is =
    adds_grows (hear_events 0 room (Ok (Bytes n))) (HearsBehind (Ok (Some n)) old new) first now
    (λ log. record {
      only = only_hears_one (Heard 0 (take n room)) refl;
      bytes = is ∙ ap (λ (l : List ℕ). old ++ l) (sym (append-nil (take n room)));
      ended = refl;
    })

-- one hearing of a channel that hasn't ended
pub advances_once : (result : Result (Option ℕ) FeedFault) (old new : Feed) (events : List Event) → old.ended ≡ false → new.heard ≡ old.heard + heard_count result → new.ended ≡ is_end result
    → length new.rest ≡ length old.rest + heard_count result → HearsBehind result old.rest new.rest events → Advances old new events
advances_once result old new events goes_on count ended size hears = record {
  hears = record {
    only = hears.only;
    count = omega (arith, count, size, ap (λ (l : List ℕ). length l) hears.bytes, length-append old.rest (heard_bytes 0 events));
    ended = ended ∙ sym hears.ended ∙ ap (λ (b : Bool). b || has_ended 0 events) (sym goes_on);
    quiet = λ over. absurd (not_over old.ended over goes_on);
  };
  rest = hears.bytes;
}

-- a hearing behind others
advances_then : (old mid new : Feed) (x y : List Event) → Advances old mid x → Advances mid new y → Advances old new (x ++ y)
advances_then old mid new x y first then_ = record {
  hears = hears_then old mid mid new x y refl refl first.hears then_.hears;
  rest = then_.rest ∙ ap (λ (l : List ℕ). l ++ heard_bytes 0 y) first.rest ∙ append_assoc old.rest (heard_bytes 0 x) (heard_bytes 0 y)
      ∙ ap (λ (l : List ℕ). old.rest ++ l) (sym (heard_bytes-append 0 x y));
}

pub advances_on : (old mid new : Feed) (first now later : Option (List Event)) → Grows (Advances old mid) first now → Grows (Advances mid new) now later → Grows (Advances old new) first later
advances_on old mid new first now later = grows_then (Advances old mid) (Advances mid new) (Advances old new) first now later (λ x y p q. advances_then old mid new x y p q)

had_ended : (a b : Bool) → IsTrue a → (a || b) ≡ false → ⊥
had_ended true b over goes_on = cc goes_on
had_ended false b over goes_on = cc over

-- a hearing more, behind those of a reader whose channel hasn't ended
pub talks_on : {S : Type 0} (means : Meanings S) (feed waiting : Feed) (old mid new : S) → waiting.ended ≡ false → Grows (Advances feed waiting) (means.log old) (means.log mid)
    → OnlyTalks means (Listens feed) old mid → OnlyTalks means OnlyHears mid new → OnlyTalks means (Listens feed) old new
talks_on means feed waiting old mid new goes_on advanced first then_ =
    talks_then means (Listens feed) (Advances feed waiting) OnlyHears (Listens feed) old mid new (λ x listens. listens)
    (λ x y advance hears. record {
      only = only_hears_then x y advance.hears.only hears;
      quiet = λ over. absurd (had_ended feed.ended (has_ended 0 x) over (sym advance.hears.ended ∙ goes_on));
    }) first advanced then_
