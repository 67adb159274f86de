-- The frames that stand in some bytes, by what stands in front of these.
use Rattle.std.proofs.Common.{◌≡◌, ◌≢◌, ◌∙◌, ◌<◌, ◌≤◌, ℕ, zero, suc, Bool, true, false, List, [], ◌∷◌, ◌++◌, length, drop, refl, sym, ap, subst, arith, inl, inr, length-drop}
use Rattle.std.specs.Prelude.{◌||◌, not, IsTrue}
use Rattle.std.proofs.lemmas.List.{drop-append-le}
use Rattle.ox_outside.specs.Shown.{IsFrontOf}
use Rattle.ox_feed.specs.Feed.{Feed}
use Rattle.ox_follow.specs.Frame.{Frame}
use Rattle.ox_follow.specs.Front.{Front, More, Bad, Whole, front_of}
use Rattle.ox_follow.specs.Talk.{Part}
use Rattle.ox_follow.proofs.Reading.{none_in_front, read_alike, whole_is_there}
use Rattle.ox_pieces.specs.Frames.{Talk, GivesFrame, HasBadFrame, behind_front, by_front, frames_in, frames_within, is_more, is_ready, only_rest, part_of, with_first}

-- ---- one frame off

-- by the front of the bytes, where what follows is read alike
front_alike : (front : Front) (bytes : List ℕ) (one other : List ℕ → Talk) → front_of bytes ≡ front
    → ((frame : Frame) (used : ℕ) → front_of bytes ≡ Whole frame used → one (drop used bytes) ≡ other (drop used bytes)) → by_front front bytes one ≡ by_front front bytes other
front_alike More bytes one other is alike = refl
front_alike Bad bytes one other is alike = refl
front_alike (Whole frame used) bytes one other is alike = ap (with_first frame) (alike frame used is)

nothing_in_front : (next : List ℕ → Talk) (front : Front) → front ≡ More → by_front front [] next ≡ only_rest (part_of [])
nothing_in_front next More is = refl
nothing_in_front next Bad is = absurd (cc is)
nothing_in_front next (Whole frame used) is = absurd (cc is)

within_none : (most : ℕ) → frames_within most [] ≡ only_rest (part_of [])
unfolding frames_within
within_none zero = refl
within_none (suc most) = nothing_in_front (frames_within most) (front_of []) none_in_front

-- behind a frame there are fewer bytes
fewer_behind : (bytes : List ℕ) (frame : Frame) (used : ℕ) → front_of bytes ≡ Whole frame used → length (drop used bytes) < length bytes
fewer_behind bytes frame used is =
    let there = whole_is_there bytes frame used is in
    let some : 8 ≤ used = there.0 in
    let most : used ≤ length bytes = there.1 in
    omega (arith, some, most, length-drop used bytes)

-- how many frames there may be makes no difference, where each of them may have a byte
within_alike : (a b : ℕ) (bytes : List ℕ) → length bytes ≤ a → length bytes ≤ b → frames_within a bytes ≡ frames_within b bytes
unfolding frames_within
within_alike zero b [] few few' = sym (within_none b)
within_alike zero b (x ∷ bytes) few few' = absurd (omega (arith, few))
within_alike (suc a) zero [] few few' = within_none (suc a)
within_alike (suc a) zero (x ∷ bytes) few few' = absurd (omega (arith, few'))
within_alike (suc a) (suc b) bytes few few' =
    front_alike (front_of bytes) bytes (frames_within a) (frames_within b) refl (λ frame used is.
    let fewer : length (drop used bytes) < length bytes = fewer_behind bytes frame used is in
    within_alike a b (drop used bytes) (omega (arith, few, fewer)) (omega (arith, few', fewer)))

pub frames_step : (bytes : List ℕ) (front : Front) → front_of bytes ≡ front → frames_in bytes ≡ by_front front bytes frames_in
unfolding frames_within
frames_step [] front is = sym (nothing_in_front frames_in front (sym is ∙ none_in_front))
frames_step (b ∷ bytes) front is =
    ap (λ (f : Front). by_front f (b ∷ bytes) (frames_within (length bytes))) is
    ∙ front_alike front (b ∷ bytes) (frames_within (length bytes)) frames_in is (λ frame used whole.
    let fewer : length (drop used (b ∷ bytes)) < length (b ∷ bytes) = fewer_behind (b ∷ bytes) frame used whole in
    within_alike (length bytes) (length (drop used (b ∷ bytes))) (drop used (b ∷ bytes)) (omega (arith, fewer)) (omega arith))

-- ---- what is heard later

some_front : (bytes : List ℕ) (front : Front) → front_of bytes ≡ front → front ≢ More → (more : List ℕ) → front_of (bytes ++ more) ≡ front
some_front bytes front is some more = read_alike bytes more (λ none. some (sym is ∙ none)) ∙ is

whole_not_more : (frame : Frame) (used : ℕ) → Whole frame used ≢ More
whole_not_more frame used is = cc is

bad_not_more : Bad ≢ More
bad_not_more is = cc is

-- a whole frame comes first, whatever follows
pub whole_first : (bytes : List ℕ) (frame : Frame) (used : ℕ) → front_of bytes ≡ Whole frame used → (more : List ℕ)
    → frames_in (bytes ++ more) ≡ with_first frame (frames_in (drop used bytes ++ more))
whole_first bytes frame used is more =
    let most : used ≤ length bytes = (whole_is_there bytes frame used is).1 in
    frames_step (bytes ++ more) (Whole frame used) (some_front bytes (Whole frame used) is (whole_not_more frame used) more)
    ∙ ap (λ (l : List ℕ). with_first frame (frames_in l)) (drop-append-le used bytes more most)

pub gives_frame : (bytes : List ℕ) (frame : Frame) (used : ℕ) → front_of bytes ≡ Whole frame used → GivesFrame frame bytes
gives_frame bytes frame used is = record {
  first = λ more.
      whole_first bytes frame used is more ∙ ap (λ (f : Front). with_first frame (frames_in (behind_front f bytes ++ more))) (sym is);
  shorter = subst (λ (f : Front). length (behind_front f bytes) < length bytes) (sym is) (fewer_behind bytes frame used is);
}

-- a fault stays
pub bad_frame : (feed : Feed) → front_of feed.rest ≡ Bad → HasBadFrame feed
bad_frame feed is = inl (λ more. frames_step (feed.rest ++ more) Bad (some_front feed.rest Bad is bad_not_more more))

part_there : (bytes : List ℕ) → (length bytes ≡ 0 → ⊥) → part_of bytes ≡ Part
part_there [] some = absurd (some refl)
part_there (b ∷ bytes) some = refl

-- a part of a frame, and the channel has ended
pub cut_frame : (feed : Feed) → front_of feed.rest ≡ More → IsTrue feed.ended → (length feed.rest ≡ 0 → ⊥) → HasBadFrame feed
cut_frame feed is over some = inr (over, frames_step feed.rest More is ∙ ap only_rest (part_there feed.rest some))

-- ---- more bytes

front_grows : (front : Front) (bytes more : List ℕ) → front_of bytes ≡ front → ((frame : Frame) (used : ℕ) → front_of bytes ≡ Whole frame used
    → IsFrontOf (frames_in (drop used bytes)).frames (frames_in (drop used bytes ++ more)).frames) → IsFrontOf (frames_in bytes).frames (frames_in (bytes ++ more)).frames
front_grows More bytes more is later = subst (λ (t : Talk). IsFrontOf t.frames (frames_in (bytes ++ more)).frames) (sym (frames_step bytes More is)) ((frames_in (bytes ++ more)).frames, refl)
front_grows Bad bytes more is later = subst (λ (t : Talk). IsFrontOf t.frames (frames_in (bytes ++ more)).frames) (sym (frames_step bytes Bad is)) ((frames_in (bytes ++ more)).frames, refl)
front_grows (Whole frame used) bytes more is later =
    let behind = later frame used is in
    let front : (frames_in bytes).frames ≡ frame ∷ (frames_in (drop used bytes)).frames = ap (λ (t : Talk). t.frames) (frames_step bytes (Whole frame used) is) in
    let whole : (frames_in (bytes ++ more)).frames ≡ frame ∷ (frames_in (drop used bytes ++ more)).frames = ap (λ (t : Talk). t.frames) (whole_first bytes frame used is more) in
    (behind.0, ap (λ (l : List Frame). l ++ behind.0) front ∙ ap (λ (l : List Frame). frame ∷ l) behind.1 ∙ sym whole)

grows_within : (most : ℕ) (bytes more : List ℕ) → length bytes ≤ most → IsFrontOf (frames_in bytes).frames (frames_in (bytes ++ more)).frames
grows_within zero [] more few = front_grows More [] more none_in_front (λ frame used is. absurd (whole_not_more frame used (sym is ∙ none_in_front)))
grows_within zero (b ∷ bytes) more few = absurd (omega (arith, few))
grows_within (suc most) bytes more few =
    front_grows (front_of bytes) bytes more refl (λ frame used is.
    let fewer : length (drop used bytes) < length bytes = fewer_behind bytes frame used is in
    grows_within most (drop used bytes) more (omega (arith, few, fewer)))

-- the frames that stand in some bytes stand in front of those in more
pub frames_grow : (bytes more : List ℕ) → IsFrontOf (frames_in bytes).frames (frames_in (bytes ++ more)).frames
frames_grow bytes more = grows_within (length bytes) bytes more (omega arith)

-- ---- a reader that isn't ready

pub not_ready : (feed : Feed) → is_ready feed ≡ false → (feed.ended ≡ false) × (front_of feed.rest ≡ More)
not_ready feed is = by_end feed.ended (front_of feed.rest) is
  where
    by_end : (over : Bool) (front : Front) → (over || not (is_more front)) ≡ false → (over ≡ false) × (front ≡ More)
    by_end true front is = absurd (cc is)
    by_end false More is = (refl, refl)
    by_end false Bad is = absurd (cc is)
    by_end false (Whole frame used) is = absurd (cc is)
