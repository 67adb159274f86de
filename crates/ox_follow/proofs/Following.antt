-- What a follower has was once what its leader had: each frame that was sent is true of what the
-- leader has had, and positions rise, so one position has one state.
use Rattle.std.proofs.Common.{◌≡◌, ◌∙◌, ◌⊎◌, inl, inr, ◌<◌, ℕ, zero, suc, ◌+◌, ◌==◌, ◌&&◌, Bool, true, false, cond, List, [], ◌∷◌, ◌++◌, length, Option, Some, None, nat_lt, refl, sym, ap, ap₂, subst, arith, length-append}
use Rattle.std.proofs.lemmas.Bool.{eqb-true, eq-eqb}
use Rattle.std.proofs.lemmas.Bool.Decides.{nat_tests}
use Rattle.ox_follow.specs.declared.frame.Position.{Position}
use Rattle.ox_follow.specs.Position.{Below, AtMost, is_same, next_place, start_of}
use Rattle.ox_follow.specs.Frame.{Frame, Base, Step, Have, Level}
use Rattle.ox_follow.specs.Talk.{Judged, Stays, Ends, BadFrame, Done, IsOwn, fitting, judged, stands_by}
use Rattle.ox_follow.specs.World.{Rules, Stood, Leader, stood, Piece, AsFar, Ahead, Record, Whole, piece_in, piece_at, frame_of, answer_to, or_stays, spelled_by, took, World, Event, Appends, Turns, Sends, Delivers, Reopens, commits, appends, turns, sends, delivers, frame_numbered, happened, after, begun, IsIn}

-- ---- positions

below_on : (a b c : Position) → Below a b → Below b c → Below a c
below_on a b c (inl x) (inl y) = inl (omega (arith, x, y))
below_on a b c (inl x) (inr y) = inl (omega (arith, x, y.0))
below_on a b c (inr x) (inl y) = inl (omega (arith, x.0, y))
below_on a b c (inr x) (inr y) = inr (x.0 ∙ y.0, omega (arith, x.1, y.1))

at_most_below : (a b c : Position) → AtMost a b → Below b c → Below a c
at_most_below a b c (inl same) below = subst (λ (p : Position). Below p c) (sym same) below
at_most_below a b c (inr lower) below = below_on a b c lower below

below_itself : (a : Position) → Below a a → ⊥
below_itself a (inl x) = omega (arith, x)
below_itself a (inr x) = omega (arith, x.1)

same_places : (a b : Position) → a.generation ≡ b.generation → a.place ≡ b.place → a ≡ b
same_places a b g p = ap₂ (λ (g p : ℕ). let x : Position = record { generation = g; place = p } in x) g p

both_true : (a b : Bool) → (a && b) ≡ true → (a ≡ true) × (b ≡ true)
both_true true true is = (refl, refl)
both_true true false is = absurd (cc is)
both_true false b is = absurd (cc is)

same_of : (a b : Position) → is_same a b ≡ true → a ≡ b
same_of a b is =
    let both = both_true _ _ is in
    same_places a b (eqb-true _ _ both.0) (eqb-true _ _ both.1)

later : (a b : ℕ) → nat_lt a b ≡ true → a < b
later a b is = grind (arith, nat_tests)

some_same : {A : Type 0} (x y : A) → Some x ≡ Some y → x ≡ y
some_same x y is = cc

-- ---- records of one generation

no_record : (place : ℕ) (payload : List ℕ) → piece_in place [] ≡ Record payload → ⊥
unfolding piece_in
no_record zero payload is = cc is
no_record (suc place) payload is = cc is

same_payload : (p q : List ℕ) → Record p ≡ Record q → p ≡ q
same_payload p q is = cc

piece_more : (payloads : List (List ℕ)) (place : ℕ) (p q : List ℕ) → piece_in place (payloads ++ p ∷ []) ≡ Record q
    → (piece_in place payloads ≡ Record q) ⊎ ((length payloads ≡ place) × (p ≡ q))
unfolding piece_in
piece_more [] zero p q is = inr (refl, same_payload p q is)
piece_more [] (suc place) p q is = absurd (no_record place q is)
piece_more (x ∷ xs) zero p q is = inl is
piece_more (x ∷ xs) (suc place) p q is = further (piece_more xs place p q is)
  where
    further : (piece_in place xs ≡ Record q) ⊎ ((length xs ≡ place) × (p ≡ q))
        → (piece_in (suc place) (x ∷ xs) ≡ Record q) ⊎ ((length (x ∷ xs) ≡ suc place) × (p ≡ q))
    further (inl a) = inl a
    further (inr b) = inr (ap (λ (n : ℕ). suc n) b.0, b.1)

module _ {State : Type 0} (rules : Rules State) where
  -- ---- what a leader has had

  abbrev AllAtMost : Position → List (Stood State) → Type 0
  AllAtMost top [] = Unit {0}
  AllAtMost top (one ∷ others) = AtMost one.at top × AllAtMost top others

  abbrev AllBelow : Position → List (Stood State) → Type 0
  AllBelow top [] = Unit {0}
  AllBelow top (one ∷ others) = Below one.at top × AllBelow top others

  abbrev Falls : List (Stood State) → Type 0
  Falls [] = Unit {0}
  Falls (one ∷ others) = AllBelow one.at others × Falls others

  all_below : (low high : Position) (others : List (Stood State)) → Below low high → AllAtMost low others → AllBelow high others
  all_below low high [] lower most = tt
  all_below low high (one ∷ others) lower most = (at_most_below one.at low high most.0 lower, all_below low high others lower most.1)

  below_at_most : (top : Position) (others : List (Stood State)) → AllBelow top others → AllAtMost top others
  below_at_most top [] below = tt
  below_at_most top (one ∷ others) below = (inr below.0, below_at_most top others below.1)

  in_below : (top : Position) (one : Stood State) (others : List (Stood State)) → AllBelow top others → IsIn one others → Below one.at top
  in_below top one [] below in' = absurd in'
  in_below top one (other ∷ others) below (inl is) = subst (λ (c : Stood State). Below c.at top) (sym is) below.0
  in_below top one (other ∷ others) below (inr in') = in_below top one others below.1 in'

  not_behind : (x one : Stood State) (xs : List (Stood State)) → AllBelow x.at xs → IsIn one xs → x.at ≡ one.at → ⊥
  not_behind x one xs below in' same =
      below_itself x.at (subst (λ (p : Position). Below p x.at) (sym same) (in_below x.at one xs below in'))

  unique : (history : List (Stood State)) → Falls history → (one other : Stood State) → IsIn one history → IsIn other history → one.at ≡ other.at → one ≡ other
  unique [] falls one other in' out same = absurd in'
  unique (x ∷ xs) falls one other (inl a) (inl b) same = a ∙ sym b
  unique (x ∷ xs) falls one other (inl a) (inr b) same = absurd (not_behind x other xs falls.0 b (ap (λ (s : Stood State). s.at) (sym a) ∙ same))
  unique (x ∷ xs) falls one other (inr a) (inl b) same = absurd (not_behind x one xs falls.0 a (ap (λ (s : Stood State). s.at) (sym b) ∙ sym same))
  unique (x ∷ xs) falls one other (inr a) (inr b) same = unique xs falls.1 one other a b same

  -- ---- frames

  -- what the leader had at a step's position the payload leads to what it had next
  record LeadsIn (history : List (Stood State)) (at : Position) (payload : List ℕ) : Type 0 where
    one : Stood State
    there : one.at ≡ at
    had : IsIn one history
    next : State
    leads : rules.leads payload one.state ≡ Some next
    had_next : IsIn (record { at = next_place at; state = next }) history

  -- a body spells what the leader had where its generation began
  record SpellsIn (history : List (Stood State)) (generation : ℕ) (body : List ℕ) : Type 0 where
    state : State
    spells : rules.spells body ≡ Some state
    had : IsIn (record { at = start_of generation; state = state }) history

  abbrev IsTrueOf : List (Stood State) → Frame → Type 0
  IsTrueOf history (Step at payload) = LeadsIn history at payload
  IsTrueOf history (Base at profile depth body) = (profile ≡ rules.profile) × (depth ≡ rules.depth) × SpellsIn history at.generation body
  IsTrueOf history (Have at) = Unit {0}
  IsTrueOf history (Level at) = Unit {0}

  abbrev AreTrueOf : List (Stood State) → List Frame → Type 0
  AreTrueOf history [] = Unit {0}
  AreTrueOf history (frame ∷ frames) = IsTrueOf history frame × AreTrueOf history frames

  leads_still : (new : Stood State) (history : List (Stood State)) (at : Position) (payload : List ℕ) → LeadsIn history at payload → LeadsIn (new ∷ history) at payload
  leads_still new history at payload is = record { one = is.one; there = is.there; had = inr is.had; next = is.next; leads = is.leads; had_next = inr is.had_next }

  spells_still : (new : Stood State) (history : List (Stood State)) (generation : ℕ) (body : List ℕ) → SpellsIn history generation body → SpellsIn (new ∷ history) generation body
  spells_still new history generation body is = record { state = is.state; spells = is.spells; had = inr is.had }

  stays_true : (new : Stood State) (history : List (Stood State)) (frame : Frame) → IsTrueOf history frame → IsTrueOf (new ∷ history) frame
  stays_true new history (Step at payload) is = leads_still new history at payload is
  stays_true new history (Base at profile depth body) is = (is.0, is.1, spells_still new history at.generation body is.2)
  stays_true new history (Have at) is = tt
  stays_true new history (Level at) is = tt

  stay_true : (new : Stood State) (history : List (Stood State)) (frames : List Frame) → AreTrueOf history frames → AreTrueOf (new ∷ history) frames
  stay_true new history [] are = tt
  stay_true new history (frame ∷ frames) are = (stays_true new history frame are.0, stay_true new history frames are.1)

  abbrev at_place : ℕ → ℕ → Position
  at_place generation place = record { generation = generation; place = place }

  abbrev HasSteps : List (Stood State) → ℕ → List (List ℕ) → Type 0
  HasSteps history generation payloads = (place : ℕ) (payload : List ℕ) → piece_in place payloads ≡ Record payload → LeadsIn history (at_place generation place) payload

  -- ---- the world

  record Known (world : World State) : Type 0 where
    falls : Falls world.history
    most : AllAtMost (stood world.leader).at world.history
    now : IsIn (stood world.leader) world.history
    began : SpellsIn world.history world.leader.generation world.leader.body
    steps : HasSteps world.history world.leader.generation world.leader.payloads
    frames : AreTrueOf world.history world.sent
    follows : IsIn world.follower world.history

  known_commits : (world : World State) (next : Leader State) → Known world → Below (stood world.leader).at (stood next).at
      → SpellsIn (stood next ∷ world.history) next.generation next.body
      → HasSteps (stood next ∷ world.history) next.generation next.payloads → Known (commits world next)
  known_commits world next known above began steps =
      let below = all_below (stood world.leader).at (stood next).at world.history above known.most in record {
        falls = (below, known.falls);
        most = (inl refl, below_at_most (stood next).at world.history below);
        now = inl refl;
        began = began;
        steps = steps;
        frames = stay_true (stood next) world.history world.sent known.frames;
        follows = inr known.follows;
      }

  known_appends : (world : World State) (p : List ℕ) (after : Option State) → rules.leads p world.leader.state ≡ after → Known world → Known (appends world p after)
  known_appends world p None leads known = known
  known_appends world p (Some state) leads known =
      known_commits world next known (inr (refl, omega (arith, size)))
      (spells_still (stood next) world.history world.leader.generation world.leader.body known.began)
      (λ place q is. by_place place q (piece_more world.leader.payloads place p q is))
    where
      next : Leader State
      next = record world.leader { payloads = world.leader.payloads ++ p ∷ []; state = state }

      size : length (world.leader.payloads ++ p ∷ []) ≡ length world.leader.payloads + 1
      size = length-append world.leader.payloads (p ∷ [])

      by_place : (place : ℕ) (q : List ℕ) → (piece_in place world.leader.payloads ≡ Record q) ⊎ ((length world.leader.payloads ≡ place) × (p ≡ q))
          → LeadsIn (stood next ∷ world.history) (at_place world.leader.generation place) q
      by_place place q (inl old) = leads_still (stood next) world.history (at_place world.leader.generation place) q (known.steps place q old)
      by_place place q (inr new) = record {
        one = stood world.leader;
        there = same_places _ _ refl new.0;
        had = inr known.now;
        next = state;
        leads = ap (λ (payload : List ℕ). rules.leads payload world.leader.state) (sym new.1) ∙ leads;
        had_next = inl (ap (λ (n : ℕ). let s : Stood State = record { at = at_place world.leader.generation n; state = state } in s) (omega (arith, size, new.0)));
      }

  known_turns : (world : World State) (body : List ℕ) (whole : Option State) → rules.spells body ≡ whole → Known world → Known (turns world body whole)
  known_turns world body None spells known = known
  known_turns world body (Some state) spells known =
      known_commits world (record { generation = suc world.leader.generation; body = body; payloads = []; state = state }) known (inl (omega arith))
      (record { state = state; spells = spells; had = inl refl })
      (λ place payload is. absurd (no_record place payload is))

  known_sends : (world : World State) (frame : Option Frame) → Known world → ((f : Frame) → frame ≡ Some f → IsTrueOf world.history f) → Known (sends world frame)
  known_sends world None known is = known
  known_sends world (Some frame) known is = record {
    falls = known.falls;
    most = known.most;
    now = known.now;
    began = known.began;
    steps = known.steps;
    frames = (is frame refl, known.frames);
    follows = known.follows;
  }

  answer_is_true : (world : World State) (at : Position) (piece : Piece) → Known world → ((payload : List ℕ) → piece ≡ Record payload → LeadsIn world.history at payload)
      → (f : Frame) → frame_of rules world.leader at piece ≡ Some f → IsTrueOf world.history f
  answer_is_true world at AsFar known step f is = subst (IsTrueOf world.history) (some_same _ _ is) tt
  answer_is_true world at Ahead known step f is = absurd (cc is)
  answer_is_true world at (Record payload) known step f is = subst (IsTrueOf world.history) (some_same _ _ is) (step payload refl)
  answer_is_true world at Whole known step f is = subst (IsTrueOf world.history) (some_same _ _ is) (refl, refl, known.began)

  step_is_true : (world : World State) (at : Position) → Known world → (own past : Bool) → (at.generation == world.leader.generation) ≡ own
      → (payload : List ℕ) → cond own (piece_in at.place world.leader.payloads) (cond past Ahead Whole) ≡ Record payload → LeadsIn world.history at payload
  step_is_true world at known true past own payload is =
      let same : at.generation ≡ world.leader.generation = eqb-true _ _ own in
      subst (λ (p : Position). LeadsIn world.history p payload) (same_places _ at (sym same) refl) (known.steps at.place payload is)
  step_is_true world at known false true own payload is = absurd (cc is)
  step_is_true world at known false false own payload is = absurd (cc is)

  -- what a follower that has been there takes of a true frame the leader has had
  taken : (world : World State) → Known world → (at : Position) (payload : List ℕ) → LeadsIn world.history at payload → (own : Bool)
      → is_same at world.follower.at ≡ own → IsIn (cond own (or_stays world.follower (next_place at) (rules.leads payload world.follower.state)) world.follower) world.history
  taken world known at payload is true own =
      let same : is.one ≡ world.follower = unique world.history known.falls is.one world.follower is.had known.follows (is.there ∙ same_of _ _ own) in
      let leads : rules.leads payload world.follower.state ≡ Some is.next = ap (λ (s : Stood State). rules.leads payload s.state) (sym same) ∙ is.leads in
      subst (λ (o : Option State). IsIn (or_stays world.follower (next_place at) o) world.history) (sym leads) is.had_next
  taken world known at payload is false own = known.follows

  spelled_alike : (profile depth : ℕ) (body : List ℕ) → profile ≡ rules.profile → depth ≡ rules.depth → spelled_by rules profile depth body ≡ rules.spells body
  spelled_alike profile depth body p d =
      ap₂ (λ (a b : Bool). cond (a && b) (rules.spells body) None) (eq-eqb profile rules.profile p) (eq-eqb depth rules.depth d)

  put_whole : (world : World State) → Known world → (generation : ℕ) (body : List ℕ) → SpellsIn world.history generation body → (spelled : Option State) → spelled ≡ rules.spells body → (next : Bool)
      → IsIn (cond next (or_stays world.follower (start_of generation) spelled) world.follower) world.history
  put_whole world known generation body is spelled same true =
      subst (λ (o : Option State). IsIn (or_stays world.follower (start_of generation) o) world.history) (sym (same ∙ is.spells)) is.had
  put_whole world known generation body is spelled same false = known.follows

  follows_on : (world : World State) → Known world → (frame : Frame) → IsTrueOf world.history frame → IsIn (took rules world.follower frame) world.history
  follows_on world known (Step at payload) is = taken world known at payload is _ refl
  follows_on world known (Base at profile depth body) is = put_whole world known at.generation body is.2 (spelled_by rules profile depth body) (spelled_alike profile depth body is.0 is.1) _
  follows_on world known (Have at) is = known.follows
  follows_on world known (Level at) is = known.follows

  true_of_sent : (history : List (Stood State)) (frames : List Frame) → AreTrueOf history frames → (frame : Frame) → IsIn frame frames → IsTrueOf history frame
  true_of_sent history [] are frame in' = absurd in'
  true_of_sent history (one ∷ frames) are frame (inl is) = subst (IsTrueOf history) (sym is) are.0
  true_of_sent history (one ∷ frames) are frame (inr in') = true_of_sent history frames are.1 frame in'

  -- another follower that stands where the leader once stood
  stands_too : (world : World State) → Known world → (mine : Stood State) → IsIn mine world.history → Known (record world { follower = mine })
  stands_too world known mine had = record {
    falls = known.falls;
    most = known.most;
    now = known.now;
    began = known.began;
    steps = known.steps;
    frames = known.frames;
    follows = had;
  }

  numbered_is_true : (history : List (Stood State)) (frames : List Frame) → AreTrueOf history frames → (number : ℕ) (f : Frame) → frame_numbered number frames ≡ Some f → IsTrueOf history f
  unfolding frame_numbered
  numbered_is_true history [] are number f is = absurd (cc is)
  numbered_is_true history (frame ∷ frames) are zero f is = subst (IsTrueOf history) (some_same _ _ is) are.0
  numbered_is_true history (frame ∷ frames) are (suc number) f is = numbered_is_true history frames are.1 number f is

  known_delivers : (world : World State) (frame : Option Frame) → Known world → ((f : Frame) → frame ≡ Some f → IsTrueOf world.history f) → Known (delivers rules world frame)
  known_delivers world None known is = known
  known_delivers world (Some frame) known is = record {
    falls = known.falls;
    most = known.most;
    now = known.now;
    began = known.began;
    steps = known.steps;
    frames = known.frames;
    follows = follows_on world known frame (is frame refl);
  }

  known_on : (world : World State) (event : Event) → Known world → Known (happened rules world event)
  known_on world (Appends payload) known = known_appends world payload _ refl known
  known_on world (Turns body) known = known_turns world body _ refl known
  known_on world (Sends at) known =
      known_sends world (answer_to rules world.leader at) known (answer_is_true world at (piece_at world.leader at) known (step_is_true world at known _ _ refl))
  known_on world (Delivers number) known = known_delivers world (frame_numbered number world.sent) known (numbered_is_true world.history world.sent known.frames number)
  known_on world Reopens known = known

  known_after : (world : World State) (events : List Event) → Known world → Known (after rules world events)
  unfolding after
  known_after world [] known = known
  known_after world (event ∷ events) known = known_after (happened rules world event) events (known_on world event known)

  known_first : (generation : ℕ) (body : List ℕ) (state : State) → rules.spells body ≡ Some state → Known (begun generation body state)
  known_first generation body state spells = record {
    falls = (tt, tt);
    most = (inl refl, tt);
    now = inl refl;
    began = record { state = state; spells = spells; had = inl refl };
    steps = λ place payload is. absurd (no_record place payload is);
    frames = tt;
    follows = inl refl;
  }

  pub holds_prefixes : (generation : ℕ) (body : List ℕ) (state : State) (events : List Event) → rules.spells body ≡ Some state
      → let world = after rules (begun generation body state) events in IsIn world.follower world.history
  holds_prefixes generation body state events spells = (known_after (begun generation body state) events (known_first generation body state spells)).follows

  -- whoever stands where the leader once stood does so behind each frame that was sent
  pub takes_of_sent : (generation : ℕ) (body : List ℕ) (state : State) (events : List Event) → rules.spells body ≡ Some state
      → let world = after rules (begun generation body state) events in (mine : Stood State) (frame : Frame) → IsIn mine world.history → IsIn frame world.sent → IsIn (took rules mine frame) world.history
  takes_of_sent generation body state events spells mine frame had sent =
      let world = after rules (begun generation body state) events in
      let known : Known world = known_after (begun generation body state) events (known_first generation body state spells) in
      follows_on (record world { follower = mine }) (stands_too world known mine had) frame (true_of_sent world.history world.sent known.frames frame sent)

  -- ---- the follower's position

  stays_or_rises : (mine : Stood State) (at : Position) (next : Bool) (state : Option State) → (next ≡ true → Below mine.at at)
      → AtMost mine.at (cond next (or_stays mine at state) mine).at
  stays_or_rises mine at true (Some state) above = inr (above refl)
  stays_or_rises mine at true None above = inl refl
  stays_or_rises mine at false state above = inl refl

  above_own : (at own : Position) → is_same at own ≡ true → Below own (next_place at)
  above_own at own is = subst (λ (p : Position). Below p (next_place at)) (same_of at own is) (inr (refl, omega arith))

  took_rises : (mine : Stood State) (frame : Frame) → AtMost mine.at (took rules mine frame).at
  took_rises mine (Step at payload) = stays_or_rises mine (next_place at) (is_same at mine.at) (rules.leads payload mine.state) (above_own at mine.at)
  took_rises mine (Base at profile depth body) =
      stays_or_rises mine (start_of at.generation) (nat_lt mine.at.generation at.generation) (spelled_by rules profile depth body) (λ is. inl (later mine.at.generation at.generation is))
  took_rises mine (Have at) = inl refl
  took_rises mine (Level at) = inl refl

  delivered_rises : (world : World State) (frame : Option Frame) → AtMost world.follower.at (delivers rules world frame).follower.at
  delivered_rises world None = inl refl
  delivered_rises world (Some frame) = took_rises world.follower frame

  sent_stays : (world : World State) (frame : Option Frame) → AtMost world.follower.at (sends world frame).follower.at
  sent_stays world None = inl refl
  sent_stays world (Some frame) = inl refl

  appended_stays : (world : World State) (payload : List ℕ) (state : Option State) → AtMost world.follower.at (appends world payload state).follower.at
  appended_stays world payload None = inl refl
  appended_stays world payload (Some state) = inl refl

  turned_stays : (world : World State) (body : List ℕ) (state : Option State) → AtMost world.follower.at (turns world body state).follower.at
  turned_stays world body None = inl refl
  turned_stays world body (Some state) = inl refl

  pub never_falls : (world : World State) (event : Event) → AtMost world.follower.at (happened rules world event).follower.at
  never_falls world (Appends payload) = appended_stays world payload (rules.leads payload world.leader.state)
  never_falls world (Turns body) = turned_stays world body (rules.spells body)
  never_falls world (Sends at) = sent_stays world (answer_to rules world.leader at)
  never_falls world (Delivers number) = delivered_rises world (frame_numbered number world.sent)
  never_falls world Reopens = inl refl

  -- ---- what is judged

  by_fitting : (mine : Stood State) (at : Position) (state : Option State) → or_stays mine at state ≡ stands_by mine (fitting at state)
  by_fitting mine at None = refl
  by_fitting mine at (Some state) = refl

  by_next : (mine : Stood State) (at : Position) (state : Option State) (next : Bool) → cond next (or_stays mine at state) mine ≡ stands_by mine (cond next (fitting at state) Stays)
  by_next mine at state true = by_fitting mine at state
  by_next mine at state false = refl

  ended_or_not : (mine : Stood State) (own : Bool) → mine ≡ stands_by mine (cond own (Ends Done) Stays)
  ended_or_not mine true = refl
  ended_or_not mine false = refl

  pub takes_judged : (mine : Stood State) (frame : Frame) → took rules mine frame ≡ stands_by mine (judged rules mine frame)
  takes_judged mine (Step at payload) = by_next mine (next_place at) (rules.leads payload mine.state) (is_same at mine.at)
  takes_judged mine (Base at profile depth body) = by_next mine (start_of at.generation) (spelled_by rules profile depth body) (nat_lt mine.at.generation at.generation)
  takes_judged mine (Have at) = refl
  takes_judged mine (Level at) = ended_or_not mine (is_same at mine.at)

  fits_next : (at : Position) (state : Option State) (some : State) → state ≡ Some some → (next : Bool) → cond next (fitting at state) Stays ≡ Ends BadFrame → ⊥
  fits_next at None some is next bad = cc is
  fits_next at (Some state) some is true bad = cc bad
  fits_next at (Some state) some is false bad = cc bad

  step_fits : (world : World State) → Known world → (at : Position) (payload : List ℕ) → LeadsIn world.history at payload → (own : Bool)
      → is_same at world.follower.at ≡ own → cond own (fitting (next_place at) (rules.leads payload world.follower.state)) Stays ≡ Ends BadFrame → ⊥
  step_fits world known at payload is true own bad =
      let same : is.one ≡ world.follower = unique world.history known.falls is.one world.follower is.had known.follows (is.there ∙ same_of _ _ own) in
      fits_next (next_place at) (rules.leads payload world.follower.state) is.next (ap (λ (s : Stood State). rules.leads payload s.state) (sym same) ∙ is.leads) true bad
  step_fits world known at payload is false own bad = cc bad

  level_is_not_bad : (own : Bool) → ◌≡◌ {A = Judged State} (cond own (Ends Done) Stays) (Ends BadFrame) → ⊥
  level_is_not_bad true bad = cc bad
  level_is_not_bad false bad = cc bad

  frame_fits : (world : World State) → Known world → (frame : Frame) → IsTrueOf world.history frame → IsOwn frame → judged rules world.follower frame ≡ Ends BadFrame → ⊥
  frame_fits world known (Step at payload) is own bad = step_fits world known at payload is _ refl bad
  frame_fits world known (Base at profile depth body) is own bad =
      fits_next (start_of at.generation) (spelled_by rules profile depth body) is.2.state (spelled_alike profile depth body is.0 is.1 ∙ is.2.spells) _ bad
  frame_fits world known (Have at) is own bad = absurd own
  frame_fits world known (Level at) is own bad = level_is_not_bad (is_same at world.follower.at) bad

  pub own_fit : (generation : ℕ) (body : List ℕ) (state : State) (events : List Event) → rules.spells body ≡ Some state
      → let world = after rules (begun generation body state) events in (frame : Frame) → IsIn frame world.sent → IsOwn frame → judged rules world.follower frame ≡ Ends BadFrame → ⊥
  own_fit generation body state events spells frame in' own =
      let world = after rules (begun generation body state) events in
      let known : Known world = known_after (begun generation body state) events (known_first generation body state spells) in
      frame_fits world known frame (true_of_sent world.history world.sent known.frames frame in') own
