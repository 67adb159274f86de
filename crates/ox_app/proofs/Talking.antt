-- A talk in frames goes on from party to party, and ends: on plain logs, whatever the parties are.
use Rattle.std.proofs.Common.{◌≡◌, ◌∙◌, ℕ, ◌≤◌, ◌||◌, Bool, true, false, List, [], ◌++◌, length, refl, sym, ap, arith, append_assoc, length-append}
use Rattle.std.specs.Prelude.{Some}
use Rattle.std.proofs.lemmas.List.{append-nil}
use Rattle.std.proofs.lemmas.List.Elements.{All-append, All-nil}
use Rattle.ox_outside.specs.Event.{Event, has_ended, heard_bytes, shown_bytes}
use Rattle.ox_outside.proofs.Event.{heard_bytes-append, shown_bytes-append, has_ended-append}
use Rattle.ox_feed.specs.Feed.{Feed, Hears, feed_limit, new_feed}
use Rattle.ox_follow.specs.Talk.{End}
use Rattle.ox_follow.specs.Talk as talks
use Rattle.ox_pieces.specs.Frames.{Advances}
use Rattle.ox_app.specs.OneFrame.{Counts, EndsFrom, EndsThere, GoesOn, ShowsFirst}
use Rattle.ox_app.specs.Show.{HearsNothing, ShowsFront, ShowsWhole}
use Rattle.ox_app.specs.Status.{end_status}
use Rattle.ox_app.specs.Talks.{Party, RunsTalk}
use Rattle.ox_app.specs.declared.status.Status.{Status}
use Rattle.ox_app.specs.declared.status.Status.TheVariants as ends
use Rattle.ox_app.proofs.FeedAnswers.{hearings_own, hearings_show_nothing}
use Rattle.ox_app.proofs.Pieces.{Own}

-- ---- what is counted

or_assoc : (a b c : Bool) → ((a || b) || c) ≡ (a || (b || c))
or_assoc true b c = refl
or_assoc false b c = refl

or_none : (a b : Bool) → b ≡ false → a ≡ (a || b)
or_none true b e = refl
or_none false b e = sym e

module _ (a b : Feed) (x : List Event) where
  pub counts_none : a ≡ b → Counts a b []
  counts_none same = record {
    only = All-nil Own;
    count = ap (λ (f : Feed). f.heard) (sym same) ∙ omega arith;
    ended = ap (λ (f : Feed). f.ended) (sym same) ∙ or_none a.ended false refl;
  }

  pub counts_heard : Hears a b x → Counts a b x
  counts_heard hears = record { only = hearings_own x hears.only; count = hears.count; ended = hears.ended }

  -- what is shown is no hearing
  pub counts_shown : a.heard ≡ b.heard → a.ended ≡ b.ended → HearsNothing x → Counts a b x
  counts_shown heard ended quiet = record {
    only = quiet.only;
    count = omega (arith, heard, ap (λ (l : List ℕ). length l) quiet.unheard);
    ended = sym ended ∙ or_none a.ended (has_ended 0 x) quiet.not_ended;
  }

pub counts_then : (a b c : Feed) (x y : List Event) → Counts a b x → Counts b c y → Counts a c (x ++ y)
counts_then a b c x y p q = record {
  only = All-append Own x y p.only q.only;
  count = omega (arith, p.count, q.count, ap (λ (l : List ℕ). length l) (heard_bytes-append 0 x y), length-append (heard_bytes 0 x) (heard_bytes 0 y));
  ended = q.ended ∙ ap (λ (o : Bool). o || has_ended 0 y) p.ended ∙ or_assoc a.ended (has_ended 0 x) (has_ended 0 y)
      ∙ ap (λ (o : Bool). a.ended || o) (sym (has_ended-append 0 x y));
}

-- ---- a talk goes on

-- what stood there and what was heard in two parts
heard_so : (rest : List ℕ) (x y : List Event) → rest ++ heard_bytes 0 (x ++ y) ≡ (rest ++ heard_bytes 0 x) ++ heard_bytes 0 y
heard_so rest x y = ap (λ (l : List ℕ). rest ++ l) (heard_bytes-append 0 x y) ∙ sym (append_assoc rest (heard_bytes 0 x) (heard_bytes 0 y))

heard_more : (rest : List ℕ) (x y : List Event) (more : List ℕ) → (rest ++ heard_bytes 0 (x ++ y)) ++ more ≡ (rest ++ heard_bytes 0 x) ++ (heard_bytes 0 y ++ more)
heard_more rest x y more = ap (λ (l : List ℕ). l ++ more) (heard_so rest x y) ∙ append_assoc (rest ++ heard_bytes 0 x) (heard_bytes 0 y) more

shown_so : (x y : List Event) (more : List ℕ) → shown_bytes 0 (x ++ y) ++ more ≡ shown_bytes 0 x ++ (shown_bytes 0 y ++ more)
shown_so x y more = ap (λ (l : List ℕ). l ++ more) (shown_bytes-append 0 x y) ∙ append_assoc (shown_bytes 0 x) (shown_bytes 0 y) more

pub goes_then : (p q r : Party) (a b c : Feed) (x y : List Event) → GoesOn p a q b x → GoesOn q b r c y → GoesOn p a r c (x ++ y)
goes_then p q r a b c x y first next = record {
  counts = counts_then a b c x y first.counts next.counts;
  shows = record {
    text = λ more.
        ap p.text (heard_more a.rest x y more) ∙ first.shows.text (heard_bytes 0 y ++ more)
        ∙ ap (λ (l : List ℕ). shown_bytes 0 x ++ q.text l) (sym (append_assoc b.rest (heard_bytes 0 y) more))
        ∙ ap (λ (l : List ℕ). shown_bytes 0 x ++ l) (next.shows.text more)
        ∙ sym (shown_so x y (r.text (c.rest ++ more)));
    end = λ more over.
        ap (λ (l : List ℕ). p.end l over) (heard_more a.rest x y more) ∙ first.shows.end (heard_bytes 0 y ++ more) over
        ∙ ap (λ (l : List ℕ). q.end l over) (sym (append_assoc b.rest (heard_bytes 0 y) more)) ∙ next.shows.end more over;
  };
}

pub ends_then : (p q : Party) (a b c : Feed) (status : Status) (x y : List Event) → GoesOn p a q b x → EndsFrom q b c status y → EndsFrom p a c status (x ++ y)
ends_then p q a b c status x y first last = record {
  counts = counts_then a b c x y first.counts last.counts;
  shown = (last.shown.0, shown_so x y last.shown.0 ∙ ap (λ (l : List ℕ). shown_bytes 0 x ++ l) last.shown.1 ∙ sym text);
  whole = λ end is.
      let whole = last.whole end is in
      (shown_bytes-append 0 x y ∙ ap (λ (l : List ℕ). shown_bytes 0 x ++ l) whole.0 ∙ sym text, ended ∙ whole.1);
  too_much = last.too_much;
}
  where
    text : p.text (a.rest ++ heard_bytes 0 (x ++ y)) ≡ shown_bytes 0 x ++ q.text (b.rest ++ heard_bytes 0 y)
    text = ap p.text (heard_so a.rest x y) ∙ first.shows.text (heard_bytes 0 y)

    ended : p.end (a.rest ++ heard_bytes 0 (x ++ y)) c.ended ≡ q.end (b.rest ++ heard_bytes 0 y) c.ended
    ended = ap (λ (l : List ℕ). p.end l c.ended) (heard_so a.rest x y) ∙ first.shows.end (heard_bytes 0 y) c.ended

-- ---- single parts of it

-- nothing happened
pub goes_nowhere : (p : Party) (a : Feed) → GoesOn p a p a []
goes_nowhere p a = record {
  counts = counts_none a a [] refl;
  shows = record {
    text = λ more. ap (λ (l : List ℕ). p.text (l ++ more)) (append-nil a.rest);
    end = λ more over. ap (λ (l : List ℕ). p.end (l ++ more) over) (append-nil a.rest);
  };
}

-- bytes are heard
pub goes_hearing : (p : Party) (a b : Feed) (x : List Event) → Advances a b x → GoesOn p a p b x
goes_hearing p a b x went = record {
  counts = counts_heard a b x went.hears;
  shows = record {
    text = λ more.
        ap (λ (l : List ℕ). p.text (l ++ more)) (sym went.rest)
        ∙ ap (λ (l : List ℕ). l ++ p.text (b.rest ++ more)) (sym (hearings_show_nothing x went.hears.only));
    end = λ more over. ap (λ (l : List ℕ). p.end (l ++ more) over) (sym went.rest);
  };
}

heard_none : (rest : List ℕ) (x : List Event) → HearsNothing x → rest ++ heard_bytes 0 x ≡ rest
heard_none rest x quiet = ap (λ (l : List ℕ). rest ++ l) quiet.unheard ∙ append-nil rest

-- what stands in front is passed over, and what is said of it is shown
pub goes_showing : (p q : Party) (a b : Feed) (said : List ℕ) (x : List Event) → a.heard ≡ b.heard → a.ended ≡ b.ended → ShowsFirst p a.rest said q b.rest → ShowsWhole said x
    → GoesOn p a q b x
goes_showing p q a b said x heard ended first shows = record {
  counts = counts_shown a b x heard ended shows.quiet;
  shows = record {
    text = λ more.
        ap (λ (l : List ℕ). p.text (l ++ more)) (heard_none a.rest x shows.quiet) ∙ first.text more
        ∙ ap (λ (l : List ℕ). l ++ q.text (b.rest ++ more)) (sym shows.shown);
    end = λ more over. ap (λ (l : List ℕ). p.end (l ++ more) over) (heard_none a.rest x shows.quiet) ∙ first.end more over;
  };
}

-- ---- ends

-- no status that ends a talk by frames
abbrev pub IsStop : Status → Type 0
IsStop status = (end : End) → status ≡ end_status end → ⊥

-- hearing ended it
pub ends_hearing : (p : Party) (a b : Feed) (status : Status) (x : List Event) → Advances a b x → IsStop status
    → (status ≡ ends.TooMuch → (b.heard ≡ feed_limit) × (b.ended ≡ false)) → EndsFrom p a b status x
ends_hearing p a b status x went stop much = record {
  counts = counts_heard a b x went.hears;
  shown = (
    p.text (a.rest ++ heard_bytes 0 x),
    ap (λ (l : List ℕ). l ++ p.text (a.rest ++ heard_bytes 0 x)) (hearings_show_nothing x went.hears.only),
  );
  whole = λ end is. absurd (stop end is);
  too_much = much;
}

-- what is said of what stands in front wasn't shown whole
pub ends_showing : (p q : Party) (a b : Feed) (said behind : List ℕ) (status : Status) (x : List Event) → a.heard ≡ b.heard → a.ended ≡ b.ended
    → ShowsFirst p a.rest said q behind → ShowsFront said x → IsStop status → (status ≡ ends.TooMuch → ⊥) → EndsFrom p a b status x
ends_showing p q a b said behind status x heard ended first shows stop much = record {
  counts = counts_shown a b x heard ended shows.quiet;
  shown = (
    shows.shown.0 ++ q.text (behind ++ []),
    sym (append_assoc (shown_bytes 0 x) shows.shown.0 (q.text (behind ++ [])))
        ∙ ap (λ (l : List ℕ). l ++ q.text (behind ++ [])) shows.shown.1 ∙ sym (first.text [])
        ∙ ap p.text (append-nil a.rest ∙ sym (heard_none a.rest x shows.quiet)),
  );
  whole = λ end is. absurd (stop end is);
  too_much = λ is. absurd (much is);
}

-- a status that ends a talk ends it in one way
pub same_end : (a b : End) → end_status a ≡ end_status b → a ≡ b
same_end talks.Done talks.Done is = refl
same_end talks.Done talks.BadFrame is = absurd (cc is)
same_end talks.Done talks.Ahead is = absurd (cc is)
same_end talks.Done talks.EndedEarly is = absurd (cc is)
same_end talks.BadFrame talks.Done is = absurd (cc is)
same_end talks.BadFrame talks.BadFrame is = refl
same_end talks.BadFrame talks.Ahead is = absurd (cc is)
same_end talks.BadFrame talks.EndedEarly is = absurd (cc is)
same_end talks.Ahead talks.Done is = absurd (cc is)
same_end talks.Ahead talks.BadFrame is = absurd (cc is)
same_end talks.Ahead talks.Ahead is = refl
same_end talks.Ahead talks.EndedEarly is = absurd (cc is)
same_end talks.EndedEarly talks.Done is = absurd (cc is)
same_end talks.EndedEarly talks.BadFrame is = absurd (cc is)
same_end talks.EndedEarly talks.Ahead is = absurd (cc is)
same_end talks.EndedEarly talks.EndedEarly is = refl

-- what stands in front ended it
pub ends_there : (p : Party) (a : Feed) (status : Status) → EndsThere p a status → (status ≡ ends.TooMuch → ⊥) → EndsFrom p a a status []
ends_there p a status there much = record {
  counts = counts_none a a [] refl;
  shown = (p.text (a.rest ++ []), refl);
  whole = λ end is. (
    sym there.nothing ∙ ap p.text (sym (append-nil a.rest)),
    ap (λ (l : List ℕ). p.end l a.ended) (append-nil a.rest) ∙ there.by ∙ ap Some (same_end there.end end (sym there.ends_as ∙ is)),
  );
  too_much = λ is. absurd (much is);
}

-- ---- a whole run

pub runs_talk : (p : Party) (b : Feed) (status : Status) (x : List Event) → b.heard ≤ feed_limit → EndsFrom p new_feed b status x → RunsTalk p status x
runs_talk p b status x few last = record {
  only = last.counts.only;
  shown = last.shown;
  whole = λ end is.
      let whole = last.whole end is in
      (whole.0, ap (λ (o : Bool). p.end (heard_bytes 0 x) o) (sym last.counts.ended) ∙ whole.1);
  within = omega (arith, few, last.counts.count);
  too_much = λ is.
      let much = last.too_much is in
      (omega (arith, last.counts.count, much.0), sym last.counts.ended ∙ much.1);
}
