-- What survives a crash during a run of a follower, on plain logs.
use Rattle.std.proofs.Common.{◌≡◌, ◌∙◌, inl, inr, ℕ, suc, ◌≤◌, List, [], ◌∷◌, ◌++◌, length, take, Some, refl, sym, ap, subst, arith, append_assoc, length-append}
use Rattle.std.specs.Prelude.{All}
use Rattle.std.specs.List.{concat}
use Rattle.std.proofs.lemmas.List.{append-nil, map-append, take-append-le}
use Rattle.std.proofs.lemmas.List.Elements.{All-append, All-cons, All-nil, All-take, All-weaker}
use Rattle.std.proofs.Math.Seq.{take-append_seam}
use Rattle.ox_outside.specs.Event.{Event, heard_bytes, shown_bytes}
use Rattle.ox_outside.specs.Files.{Files}
use Rattle.ox_outside.specs.Shown.{IsFrontOf, acknowledgements}
use Rattle.ox_outside.proofs.Event.{heard_bytes-append, shown_bytes-append}
use Rattle.ox_feed.specs.Feed.{Feed, Listens, new_feed}
use Rattle.ox_files.proofs.CountedMoments.{HasByte, acknowledged_ahead, acknowledged_at_rest}
use Rattle.ox_follow.specs.Frame.{Frame, Have, spelled}
use Rattle.ox_follow.specs.Position.{AtMost, Below}
use Rattle.ox_follow.specs.Talk.{EndedEarly, Followed, Judged, Stays, Takes, Ends, end_by, followed, stands_by}
use Rattle.ox_follow.specs.World.{Delivers, Stood, World, frame_numbered, made}
use Rattle.ox_follow.specs.declared.frame.Position.{Position}
use Rattle.ox_follow.proofs.Following.{never_falls, takes_judged}
use Rattle.ox_model.specs.Stack.{Stack}
use Rattle.ox_pieces.specs.Frames.{Talk, frames_in}
use Rattle.ox_pieces.specs.Stood.{rules_of, stood_in}
use Rattle.ox_app.specs.Follow.{SurvivesFrames, frames_heard, haves_seen, led_to, seen_of}
use Rattle.ox_app.specs.OneFrame.{GoesOn, LeavesAt, TookFrame, judged_by, shown_follower}
use Rattle.ox_app.specs.Show.{HearsNothing, ShowsFront, ShowsWhole}
use Rattle.ox_app.specs.Talks.{followed_by, follower_party, have_texts, haves_of}
use Rattle.ox_app.proofs.FeedAnswers.{concat_joined, hearings_show_nothing}
use Rattle.ox_app.proofs.FollowState.{HasFollowed, with_frames, with_haves}
use Rattle.ox_app.proofs.FrameTalks.{followed_on}
use Rattle.ox_app.proofs.Talking.{counts_shown, counts_then}

-- ---- positions

below_then : (a b c : Position) → Below a b → Below b c → Below a c
below_then a b c (inl x) (inl y) = inl (omega (arith, x, y))
below_then a b c (inl x) (inr y) = inl (omega (arith, x, y.0))
below_then a b c (inr x) (inl y) = inl (omega (arith, x.0, y))
below_then a b c (inr x) (inr y) = inr (x.0 ∙ y.0, omega (arith, x.1, y.1))

at_most_then : (a b c : Position) → AtMost a b → AtMost b c → AtMost a c
at_most_then a b c (inl same) next = subst (λ (p : Position). AtMost p c) (sym same) next
at_most_then a b c (inr below) (inl same) = inr (subst (λ (p : Position). Below a p) same below)
at_most_then a b c (inr below) (inr further) = inr (below_then a b c below further)

-- a frame lowers no follower
module _ (mine : Stood Stack) (frame : Frame) where
  rises : AtMost mine.at (stands_by mine (judged_by mine frame)).at
  unfolding frame_numbered
  rises = subst (λ (s : Stood Stack). AtMost mine.at s.at) (takes_judged (rules_of mine.state) mine frame) (never_falls (rules_of mine.state) world (Delivers 0))
    where
      world : World Stack
      world = record { leader = made 0 [] mine.state; history = []; sent = frame ∷ []; follower = mine }

  left_higher : (next : Stood Stack) → LeavesAt mine (judged_by mine frame) next → AtMost mine.at next.at
  left_higher next leaves = by_how (judged_by mine frame) rises leaves
    where
      by_how : (how : Judged Stack) → AtMost mine.at (stands_by mine how).at → LeavesAt mine how next → AtMost mine.at next.at
      by_how Stays up left = subst (λ (s : Stood Stack). AtMost mine.at s.at) (sym left) up
      by_how (Takes taken) up left = subst (λ (s : Stood Stack). AtMost mine.at s.at) (sym left) up
      by_how (Ends last) up left = absurd left

-- ---- Haves of which a byte is shown

have_some : (at : Position) → HasByte (spelled (Have at))
have_some at = omega arith

haves_some : (haves : List Position) → All HasByte (have_texts haves)
haves_some [] = All-nil HasByte
haves_some (at ∷ haves) = All-cons HasByte (spelled (Have at)) (have_texts haves) (have_some at) (haves_some haves)

texts_length : (haves : List Position) → length (have_texts haves) ≡ length haves
texts_length [] = refl
texts_length (at ∷ haves) = ap (λ (n : ℕ). suc n) (texts_length haves)

texts_joined : (haves more : List Position) → concat (have_texts (haves ++ more)) ≡ concat (have_texts haves) ++ concat (have_texts more)
texts_joined haves more = ap (λ (l : List (List ℕ)). concat l) (map-append (λ (at : Position). spelled (Have at)) haves more) ∙ concat_joined (have_texts haves) (have_texts more)

module _ (P : Position → Type 0) where
  few_of : (n : ℕ) (here later : List Position) → n ≤ length here → All P here → All P (take n (here ++ later))
  few_of n here later few all = subst (All P) (sym (take-append-le n here later few)) (All-take P n here all)

  -- all of some Haves are shown, and nothing else
  seen_here : (here later : List Position) → All P here → All P (seen_of (here ++ later) (concat (have_texts here)))
  seen_here here later all =
      few_of (acknowledgements (have_texts (here ++ later)) (concat (have_texts here))) here later few all
    where
      few : acknowledgements (have_texts (here ++ later)) (concat (have_texts here)) ≤ length here
      few = subst (λ (l : List (List ℕ)). acknowledgements l (concat (have_texts here)) ≤ length here) (sym (map-append (λ (at : Position). spelled (Have at)) here later))
          (subst (λ (n : ℕ). acknowledgements (have_texts here ++ have_texts later) (concat (have_texts here)) ≤ n) (texts_length here)
          (acknowledged_at_rest (have_texts here) (have_texts later) (haves_some here)))

  -- and a front of the next one
  seen_ahead : (here : List Position) (next : Position) (later : List Position) (part : List ℕ) → IsFrontOf part (spelled (Have next)) → All P here → P next
      → All P (seen_of (here ++ next ∷ later) (concat (have_texts here) ++ part))
  seen_ahead here next later part front all one =
      subst (λ (l : List Position). All P (take (acknowledgements (have_texts (here ++ next ∷ later)) (concat (have_texts here) ++ part)) l)) (append_assoc here (next ∷ []) later)
      (few_of (acknowledgements (have_texts (here ++ next ∷ later)) (concat (have_texts here) ++ part)) (here ++ next ∷ []) later few (All-append P here (next ∷ []) all (All-cons P next [] one (All-nil P))))
    where
      few : acknowledgements (have_texts (here ++ next ∷ later)) (concat (have_texts here) ++ part) ≤ length (here ++ next ∷ [])
      few = omega (
        arith,
        length-append here (next ∷ []),
        subst (λ (l : List (List ℕ)). acknowledgements l (concat (have_texts here) ++ part) ≤ suc (length here)) (sym (map-append (λ (at : Position). spelled (Have at)) here (next ∷ later)))
            (subst (λ (n : ℕ). acknowledgements (have_texts here ++ spelled (Have next) ∷ have_texts later) (concat (have_texts here) ++ part) ≤ suc n) (texts_length here)
            (acknowledged_ahead (have_texts here) (spelled (Have next)) front.0 part (have_texts later) front.1 (haves_some here))),
      )

-- ---- from frame to frame

taken_one : (done : List Frame) (frame : Frame) (more : List Frame) → take (suc (length done)) (done ++ frame ∷ more) ≡ done ++ frame ∷ []
taken_one [] frame more = refl
taken_one (one ∷ done) frame more = ap (λ (l : List Frame). one ∷ l) (taken_one done frame more)

none_heard : (x : List Event) (more : List ℕ) → HearsNothing x → heard_bytes 0 x ++ more ≡ more
none_heard x more quiet = ap (λ (l : List ℕ). l ++ more) quiet.unheard

module _ (first : Stood Stack) where
  -- the first Have is shown
  pub followed_first : (x : List Event) → ShowsWhole (spelled (Have first.at)) x → HasFollowed first new_feed first x
  followed_first x shows = record {
    counts = counts_shown new_feed new_feed x refl refl shows.quiet;
    done = [];
    haves = [];
    cut = λ more. ap frames_in (none_heard x more shows.quiet);
    leads = λ later. refl;
    shown = shows.shown ∙ sym (append-nil (spelled (Have first.at)));
    reached = All-cons (λ at. AtMost at first.at) first.at [] (inl refl) (All-nil (λ at. AtMost at first.at));
  }

  -- the first Have, or a front of it
  pub survives_first : (x : List Event) (files : Files) → ShowsFront (spelled (Have first.at)) x → stood_in files ≡ Some first → SurvivesFrames first x files
  unfolding followed
  survives_first x files shows stood = record {
    kept = 0;
    stands_for = stood;
    acknowledged = seen_ahead (λ at. AtMost at first.at) [] first.at (followed_by first (frames_heard x)).haves (shown_bytes 0 x) shows.shown (All-nil (λ at. AtMost at first.at)) (inl refl);
  }

  module _ (feed : Feed) (now : Stood Stack) (x : List Event) (so_far : HasFollowed first feed now x) where
    -- the bytes behind those frames
    heard_further : (y : List Event) → heard_bytes 0 (x ++ y) ≡ heard_bytes 0 x ++ heard_bytes 0 y
    heard_further y = heard_bytes-append 0 x y

    frames_further : (y : List Event) → frames_heard (x ++ y) ≡ so_far.done ++ (frames_in (feed.rest ++ heard_bytes 0 y)).frames
    frames_further y = ap (λ (l : List ℕ). (frames_in l).frames) (heard_further y) ∙ ap (λ (t : Talk). t.frames) (so_far.cut (heard_bytes 0 y))

    -- as its party shows
    pub goes_followed : GoesOn (follower_party first) new_feed (shown_follower now) feed x
    goes_followed = record {
      counts = so_far.counts;
      shows = record {
        text = λ more.
            let later = frames_in (feed.rest ++ more) in
            ap (λ (t : Talk). concat (have_texts (haves_of first t.frames))) (so_far.cut more)
            ∙ ap (λ (f : Followed Stack). concat (have_texts (first.at ∷ f.haves))) (so_far.leads later.frames)
            ∙ texts_joined (first.at ∷ so_far.haves) (followed_by now later.frames).haves
            ∙ ap (λ (l : List ℕ). l ++ concat (have_texts (followed_by now later.frames).haves)) (sym so_far.shown);
        end = λ more over.
            let later = frames_in (feed.rest ++ more) in
            ap (λ (t : Talk). end_by EndedEarly (followed_by first t.frames).end t.rest over) (so_far.cut more)
            ∙ ap (λ (f : Followed Stack). end_by EndedEarly f.end later.rest over) (so_far.leads later.frames);
      };
    }

    -- while the next frame is heard
    pub survives_rest : (y : List Event) (files : Files) → Listens feed y → stood_in files ≡ Some now → SurvivesFrames first (x ++ y) files
    unfolding followed
    survives_rest y files listens stood = record {
      kept = length so_far.done;
      stands_for = stood ∙ ap (λ (s : Stood Stack). Some s) (sym here);
      acknowledged =
          subst (λ (s : Stood Stack). All (λ at. AtMost at s.at) (haves_seen first (x ++ y))) (sym here)
          (subst (λ (l : List Position). All (λ at. AtMost at now.at) (seen_of l (shown_bytes 0 (x ++ y)))) (sym all)
          (subst (λ (l : List ℕ). All (λ at. AtMost at now.at) (seen_of (first.at ∷ so_far.haves ++ later) l)) (sym said)
          (seen_here (λ at. AtMost at now.at) (first.at ∷ so_far.haves) later so_far.reached)));
    }
      where
        later : List Position
        later = (followed_by now (frames_in (feed.rest ++ heard_bytes 0 y)).frames).haves

        said : shown_bytes 0 (x ++ y) ≡ concat (have_texts (first.at ∷ so_far.haves))
        said = shown_bytes-append 0 x y ∙ ap (λ (l : List ℕ). shown_bytes 0 x ++ l) (hearings_show_nothing y listens.only) ∙ append-nil (shown_bytes 0 x) ∙ so_far.shown

        all : haves_of first (frames_heard (x ++ y)) ≡ first.at ∷ so_far.haves ++ later
        all =
            ap (haves_of first) (frames_further y)
            ∙ ap (λ (f : Followed Stack). first.at ∷ f.haves) (so_far.leads (frames_in (feed.rest ++ heard_bytes 0 y)).frames)

        here : led_to first (length so_far.done) (x ++ y) ≡ now
        here =
            ap (λ (l : List Frame). (followed_by first (take (length so_far.done) l)).now) (frames_further y)
            ∙ ap (λ (l : List Frame). (followed_by first l).now) (take-append_seam so_far.done (frames_in (feed.rest ++ heard_bytes 0 y)).frames ∙ sym (append-nil so_far.done))
            ∙ ap (λ (f : Followed Stack). f.now) (so_far.leads [])

    module _ (new : Feed) (next : Stood Stack) (y : List Event) (took : TookFrame now feed next new y) (same : rules_of next.state ≡ rules_of now.state) where
      led_one : (later : List Frame) → followed_by first (so_far.done ++ took.frame ∷ later) ≡ with_haves (so_far.haves ++ next.at ∷ []) (followed_by next later)
      led_one later =
          so_far.leads (took.frame ∷ later) ∙ ap (with_haves so_far.haves) (followed_on now took.frame next later took.leaves same)
          ∙ ap (λ (l : List Position). let f : Followed Stack = record (followed_by next later) { haves = l } in f) (sym (append_assoc so_far.haves (next.at ∷ []) (followed_by next later).haves))

      higher : All (λ at. AtMost at next.at) (first.at ∷ so_far.haves)
      higher =
          All-weaker (λ at. AtMost at now.at) (λ at. AtMost at next.at) (λ at low. at_most_then at now.at next.at low (left_higher now took.frame next took.leaves))
          (first.at ∷ so_far.haves) so_far.reached

      -- a frame is done, and its Have shown
      pub followed_frame : shown_bytes 0 y ≡ spelled (Have next.at) → HasFollowed first new next (x ++ y)
      followed_frame shown = record {
        counts = counts_then new_feed feed new x y so_far.counts took.counts;
        done = so_far.done ++ took.frame ∷ [];
        haves = so_far.haves ++ next.at ∷ [];
        cut = λ more. cut_further more;
        leads = λ later. ap (followed_by first) (append_assoc so_far.done (took.frame ∷ []) later) ∙ led_one later;
        shown = shown_bytes-append 0 x y ∙ ap (λ (l : List ℕ). shown_bytes 0 x ++ l) (shown ∙ sym (append-nil (spelled (Have next.at))))
            ∙ ap (λ (l : List ℕ). l ++ (spelled (Have next.at) ++ [])) so_far.shown ∙ sym (texts_joined (first.at ∷ so_far.haves) (next.at ∷ []));
        reached = All-append (λ at. AtMost at next.at) (first.at ∷ so_far.haves) (next.at ∷ []) higher
            (All-cons (λ at. AtMost at next.at) next.at [] (inl refl) (All-nil (λ at. AtMost at next.at)));
      }
        where
          cut_further : (more : List ℕ) → frames_in (heard_bytes 0 (x ++ y) ++ more) ≡ with_frames (so_far.done ++ took.frame ∷ []) (frames_in (new.rest ++ more))
          cut_further more =
              ap (λ (l : List ℕ). frames_in (l ++ more)) (heard_further y) ∙ ap frames_in (append_assoc (heard_bytes 0 x) (heard_bytes 0 y) more)
              ∙ so_far.cut (heard_bytes 0 y ++ more)
              ∙ ap (λ (l : List ℕ). with_frames so_far.done (frames_in l)) (sym (append_assoc feed.rest (heard_bytes 0 y) more))
              ∙ ap (with_frames so_far.done) (took.first more)
              ∙ ap (λ (l : List Frame). let t : Talk = record { frames = l; rest = (frames_in (new.rest ++ more)).rest } in t) (sym (append_assoc so_far.done (took.frame ∷ []) (frames_in (new.rest ++ more)).frames))

      -- it is done, and a front of its Have is shown
      pub survives_behind : (files : Files) → IsFrontOf (shown_bytes 0 y) (spelled (Have next.at)) → stood_in files ≡ Some next → SurvivesFrames first (x ++ y) files
      unfolding followed
      survives_behind files shown stood = record {
        kept = suc (length so_far.done);
        stands_for = stood ∙ ap (λ (s : Stood Stack). Some s) (sym here);
        acknowledged =
            subst (λ (s : Stood Stack). All (λ at. AtMost at s.at) (haves_seen first (x ++ y))) (sym here)
            (subst (λ (l : List Position). All (λ at. AtMost at next.at) (seen_of l (shown_bytes 0 (x ++ y)))) (sym all)
            (subst (λ (l : List ℕ). All (λ at. AtMost at next.at) (seen_of ((first.at ∷ so_far.haves) ++ next.at ∷ later) l)) (sym said)
            (seen_ahead (λ at. AtMost at next.at) (first.at ∷ so_far.haves) next.at later (shown_bytes 0 y) shown higher (inl refl))));
      }
        where
          behind : List Frame
          behind = (frames_in (new.rest ++ [])).frames

          later : List Position
          later = (followed_by next behind).haves

          frames : frames_heard (x ++ y) ≡ so_far.done ++ took.frame ∷ behind
          frames = frames_further y ∙ ap (λ (l : List ℕ). so_far.done ++ (frames_in l).frames) (sym (append-nil (feed.rest ++ heard_bytes 0 y))) ∙ ap (λ (t : Talk). so_far.done ++ t.frames) (took.first [])

          said : shown_bytes 0 (x ++ y) ≡ concat (have_texts (first.at ∷ so_far.haves)) ++ shown_bytes 0 y
          said = shown_bytes-append 0 x y ∙ ap (λ (l : List ℕ). l ++ shown_bytes 0 y) so_far.shown

          all : haves_of first (frames_heard (x ++ y)) ≡ (first.at ∷ so_far.haves) ++ next.at ∷ later
          all =
              ap (haves_of first) frames ∙ ap (λ (f : Followed Stack). first.at ∷ f.haves) (led_one behind)
              ∙ append_assoc (first.at ∷ so_far.haves) (next.at ∷ []) later

          one_more : take (suc (length so_far.done)) (so_far.done ++ took.frame ∷ behind) ≡ so_far.done ++ took.frame ∷ []
          one_more = taken_one so_far.done took.frame behind

          here : led_to first (suc (length so_far.done)) (x ++ y) ≡ next
          here =
              ap (λ (l : List Frame). (followed_by first (take (suc (length so_far.done)) l)).now) frames
              ∙ ap (λ (l : List Frame). (followed_by first l).now) one_more
              ∙ ap (λ (f : Followed Stack). f.now) (led_one [])
