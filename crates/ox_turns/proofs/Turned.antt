-- A turn of a slot and of a door, from what it made of one link, to all slots.
use Rattle.std.proofs.Common.{◌<◌, ◌≡◌, ◌≢◌, ◌∙◌, ◌≤◌, ◌==◌, ℕ, zero, suc, Bool, true, false, not, List, [], ◌∷◌, ◌++◌, ◌&&◌, ◌||◌, length, get_or, set, Option, Some, None, if◌then◌else◌, refl, sym, ap, subst, arith, inl, inr, ◌⊎◌, ⊎_elim}
use Rattle.std.specs.Prelude.{IsTrue, replicate}
use Rattle.std.specs.Option.{option_map}
use Rattle.std.proofs.Math.Seq.{map-set_same}
use Rattle.std.proofs.lemmas.Bool.{eq-eqb, eqb-true}
use Rattle.std.proofs.lemmas.List.{append-nil, length-map, map-set, get_or-set_same, get_or-set_other}
use Rattle.ox_outside.specs.Event.{Event, Opened, Shut, has_broken, has_given_up, is_named, shown_bytes, was_opened, was_shut}
use Rattle.ox_outside.specs.Shown.{IsFrontOf}
use Rattle.ox_outside.specs.declared.site.Doorway.{Doorway}
use Rattle.ox_outside.specs.declared.site.Site.{Ghosts as Meanings}
use Rattle.ox_outside.proofs.Event.{was_opened-append, was_shut-append, has_broken-append, has_given_up-append}
use Rattle.ox_outside.proofs.Links.{unnamed_broken, unnamed_given_up, unnamed_shut}
use Rattle.ox_http.specs.declared.Request.{Request}
use Rattle.ox_session.specs.Link.{Link}
use Rattle.ox_links.specs.Link.{all_shown, answers_to, is_over, reply_bytes}
use Rattle.ox_links.specs.Rotation.{Who, link_of, door_of, slots_in, with_link, without_link}
use Rattle.ox_links.specs.Serving.{Server, Serving, after_event, serve_on, served_by, start_at, with_event}
use Rattle.ox_links.specs.Turned.{IsTurn, is_first}
use Rattle.ox_links.proofs.GoingOn.{serve_on-append}
use Rattle.ox_turns.specs.Desk.{IsHttp}
use Rattle.ox_turns.specs.Follows.{Follows, Holds, LinkFollows, Start}
use Rattle.ox_turns.specs.Places.{channels_of, IsSeated}
use Rattle.ox_turns.specs.Turn.{DeskOf, IsGoing, IsLinkTurn, LinkTurns, RoseIdle, ShowsFronts, TurnOf}
use Rattle.ox_turns.specs.declared.slot.Slot.{Slot}
use Rattle.ox_turns.proofs.Following.{left_false, right_false, logged_other, follows_other, slots_after-append, without_is, with_is, is_named-append, no_answers, new_next, new_follows}
use Rattle.ox_turns.proofs.LinkTurns.{first_own, link_goes_on}
use Rattle.ox_turns.proofs.Surviving.{past_of, one_more_event, fronts_of}
use Rattle.ox_turns.proofs.Turning.{fronts_quiet}

-- ---- lists of slots

pub get_or-map : (slots : List (Option Slot)) (j : ℕ) → get_or (channels_of slots) j None ≡ option_map (λ (slot : Slot). slot.channel) (get_or slots j None)
get_or-map [] j = refl
get_or-map (s ∷ slots) zero = refl
get_or-map (s ∷ slots) (suc j) = get_or-map slots j

pub within : (slots : List (Option Slot)) (i : ℕ) (a : Slot) → get_or slots i None ≡ Some a → i < length slots
within [] i a is = absurd (let e : None ≡ Some a = is in let no : ⊥ = cc e in no)
within (s ∷ slots) zero a is = omega arith
within (s ∷ slots) (suc i) a is = omega (arith, within slots i a is)

-- who is in a slot where one was replaced
pub holds_set : (slots : List (Option Slot)) (at i : ℕ) (v : Option Slot) (a : Slot) → at < length slots → Holds (set slots at v) i a → ((i ≡ at) × (v ≡ Some a)) ⊎ ((i ≢ at) × Holds slots i a)
holds_set slots at i v a inside is = by (i == at) refl
  where
    by : (b : Bool) → (i == at) ≡ b → ((i ≡ at) × (v ≡ Some a)) ⊎ ((i ≢ at) × Holds slots i a)
    by true e =
        let same = eqb-true i at e in
        inl (same, sym (get_or-set_same slots at v None inside) ∙ ap (λ (k : ℕ). get_or (set slots at v) k None) (sym same) ∙ is)
    by false e =
        let other : i ≢ at = λ same. absurd (let f : true ≡ false = sym (eq-eqb i at same) ∙ e in cc f) in
        inr (other, sym (get_or-set_other slots at i v None other) ∙ is)

channel_at : (slots : List (Option Slot)) (j c : ℕ) → get_or (channels_of slots) j None ≡ Some c → (b : Slot) × Holds slots j b × (b.channel ≡ c)
channel_at slots j c is = by (get_or slots j None) refl
  where
    by : (o : Option Slot) → get_or slots j None ≡ o → (b : Slot) × Holds slots j b × (b.channel ≡ c)
    by None e = absurd (let f : None ≡ Some c = sym (get_or-map slots j ∙ ap (option_map (λ (slot : Slot). slot.channel)) e) ∙ is in let no : ⊥ = cc f in no)
    by (Some b) e =
        let f : Some b.channel ≡ Some c = sym (get_or-map slots j ∙ ap (option_map (λ (slot : Slot). slot.channel)) e) ∙ is in
        (b, e, (let k : b.channel ≡ c = cc f in k))

module _ {X C : Type 0} (server : Server X C) (http : IsHttp server) (start : Start X) (since : List Event) (slots : List (Option Slot)) (x : X) (follows : Follows server start since slots x) where
  run_ : Serving X C
  run_ = served_by server start.state since

  -- a link in a slot goes on
  pub going_of : (at : ℕ) (slot : Slot) → Holds slots at slot → IsGoing slot.channel slot.session (start.log ++ since)
  going_of at slot held =
      let c = slot.channel in
      let logged = (follows.links at slot held).as_logged in
      let unnamed = follows.new at slot held in
      let past = past_of server start.state since in
      record {
        opened = open_where (c == 0) _ _ (not_zero c slot.link)
            (was_opened-append c start.log since ∙ or_true (was_opened c start.log) (was_opened c since) (ap (was_opened c) (sym past) ∙ logged.opened))
            (was_shut-append c start.log since ∙ neither (was_shut c start.log) (was_shut c since) (unnamed_shut c start.log unnamed) (ap (was_shut c) (sym past) ∙ logged.not_shut));
        whole = has_broken-append c start.log since ∙ neither (has_broken c start.log) (has_broken c since) (unnamed_broken c start.log unnamed) (ap (has_broken c) (sym past) ∙ logged.not_broken);
        not_up = λ on. has_given_up-append c start.log since ∙ neither (has_given_up c start.log) (has_given_up c since) (unnamed_given_up c start.log unnamed) (not_up (has_given_up c since) refl on);
      }
    where
      neither : (a b : Bool) → a ≡ false → b ≡ false → (a || b) ≡ false
      neither true b is_a is_b = is_a
      neither false b is_a is_b = is_b

      or_true : (a b : Bool) → b ≡ true → (a || b) ≡ true
      or_true true b is = refl
      or_true false b is = is

      not_zero : (channel : ℕ) → 1 ≤ channel → (channel == 0) ≡ false
      not_zero channel one = grind (arith, one)

      open_where : (z o s : Bool) → z ≡ false → o ≡ true → s ≡ false → (not z && (z || (o && not s))) ≡ true
      open_where true o s is_z is_o is_s = absurd (cc is_z)
      open_where false true false is_z is_o is_s = refl
      open_where false true true is_z is_o is_s = absurd (cc is_s)
      open_where false false s is_z is_o is_s = absurd (cc is_o)

      not_up : (b : Bool) → has_given_up slot.channel since ≡ b → slot.session.closing ≡ false → b ≡ false
      not_up true is on = absurd (let e : true ≡ false = sym ((follows.links at slot held).as_logged.gave_up (ap (has_given_up slot.channel) (past_of server start.state since) ∙ is)) ∙ on in cc e)
      not_up false is on = refl

  pub fronts_since : ShowsFronts (served_by server start.state since)
  fronts_since channel one = subst (λ (l : List Event). IsFrontOf (shown_bytes channel l) (reply_bytes (answers_to channel (served_by server start.state since).answers))) (sym (past_of server start.state since)) (follows.shown channel one)

  -- the turn of a link is one of the log
  pub link_turn_is : (c : ℕ) (events : List Event) → IsLinkTurn server (served_by server start.state since) c events → IsTurn server start.state since (link_of c) events
  link_turn_is c [] turn = tt
  link_turn_is c (event ∷ rest) turn =
      let run = served_by server start.state since in
      let past = past_of server start.state since in
      let own = first_own c (not (all_shown c run.past run.answers)) event turn.0 in
      let over : is_over c (run.past ++ event ∷ []) (after_event server run event []).answers ≡ is_over c (since ++ event ∷ []) (served_by server start.state (since ++ event ∷ [])).answers
      = ap (λ (l : List Event). is_over c (l ++ event ∷ []) (after_event server run event []).answers) past ∙ ap (λ (r : Serving X C). is_over c (since ++ event ∷ []) r.answers) (sym (one_more_event server start.state since event own.1)) in (
        subst (λ (l : List Event). IsTrue (is_first c (not (all_shown c l run.answers)) event)) past turn.0,
        ⊎_elim
            (λ is. inl (is ∙ ap (λ (b : Bool). if b then Shut c ∷ [] else []) over))
            (λ up. inr (up.0, sym over ∙ up.1, subst (λ (l : List Event). IsTrue (all_shown c (l ++ event ∷ []) run.answers)) past up.2)) turn.1,
      )

  module _ {S D : Type 0} (means : Meanings S) (moved : D → Request → Bool → D → Type 0) (same : D → D → Type 0) where
    -- the turn of a slot
    pub slot_turned : (at : ℕ) (slot : Slot) → Holds slots at slot → (over : Bool) (new : Slot) → new.channel ≡ slot.channel → new.door ≡ slot.door
        → (slots' : List (Option Slot)) → slots' ≡ set slots at (if over then None else Some new) → (before after : S) (now : X) (old_desk new_desk : D)
        → LinkTurns means server moved same (served_by server start.state since) (start.log ++ since) slot.channel slot.door over before after new.session now old_desk new_desk
        → TurnOf means server moved same start since (link_of slot.channel) slots' before after now old_desk new_desk
    slot_turned at slot held over new numbered by_door slots' is before after now old_desk new_desk made =
        subst (λ (l : List (Option Slot)). TurnOf means server moved same start since (link_of slot.channel) l before after now old_desk new_desk) (sym is) (record {
          events = made.events;
          made = link_turn_is slot.channel made.events made.turn.made;
          logged = made.logged;
          idle = made.idle;
          follows = record {
            places = places over refl;
            apart = λ i j a b at_i at_j same_channel. apart i j a b (holds_set slots at i v a inside at_i) (holds_set slots at j v b inside at_j) same_channel;
            new = λ i a at_i. ⊎_elim
                (λ own. subst (λ (k : ℕ). is_named k start.log ≡ false) (sym (channel_of_new a own.1)) (follows.new at slot held))
                (λ other. follows.new i a other.1) (holds_set slots at i v a inside at_i);
            links = λ i a at_i. subst (λ (r : Serving X C). LinkFollows r a.channel a.door a.session) (sym run_is) (links i a (holds_set slots at i v a inside at_i));
            shown = fronts_of server start.state (since ++ made.events) (subst (λ (r : Serving X C). ShowsFronts r) (sym run_is) made.turn.fronts);
            state = made.turn.state ∙ ap (λ (r : Serving X C). r.state) (sym run_is);
          };
          desk = made.desk;
        })
      where
        run : Serving X C
        run = served_by server start.state since

        v : Option Slot
        v = if over then None else Some new

        inside : at < length slots
        inside = within slots at slot held

        run_is : served_by server start.state (since ++ made.events) ≡ serve_on server (served_by server start.state since) made.events
        run_is = serve_on-append server (start_at start.state) since made.events (link_goes_on server (served_by server start.state since) slot.channel made.events made.turn.made)

        is_new : (b : Bool) (a : Slot) → (if b then None else Some new) ≡ Some a → (b ≡ false) × (a ≡ new)
        is_new true a e = absurd (let f : None ≡ Some a = e in let no : ⊥ = cc f in no)
        is_new false a e = (refl, (let f : Some new ≡ Some a = e in let g : a ≡ new = cc f in g))

        channel_of_new : (a : Slot) → v ≡ Some a → a.channel ≡ slot.channel
        channel_of_new a e = ap (λ (s : Slot). s.channel) (is_new over a e).1 ∙ numbered

        only : (j : ℕ) → get_or (channels_of slots) j None ≡ Some slot.channel → j ≡ at
        only j e =
            let b = channel_at slots j slot.channel e in
            follows.apart j at b.0 slot b.1 held b.2

        places : (b : Bool) → over ≡ b → channels_of (set slots at v) ≡ slots_in (since ++ made.events)
        places b e =
            by b e ∙ sym (slots_after-append (replicate 32 None) since made.events ∙ made.turn.shuts (slots_in since))
          where
            f : Option Slot → Option ℕ
            f = option_map (λ (s : Slot). s.channel)

            by : (b : Bool) → over ≡ b → channels_of (set slots at v) ≡ (if over then without_link slot.channel (slots_in since) else slots_in since)
            by true e =
                map-set f slots at v
                ∙ ap (λ (o : Bool). set (channels_of slots) at (f (if o then None else Some new))) e
                ∙ sym (without_is slot.channel (channels_of slots) at (get_or-map slots at ∙ ap f held) only)
                ∙ ap (without_link slot.channel) follows.places
                ∙ ap (λ (o : Bool). if o then without_link slot.channel (slots_in since) else slots_in since) (sym e)
            by false e =
                ap (λ (o : Bool). channels_of (set slots at (if o then None else Some new))) e
                ∙ map-set_same f slots at (Some new) None (ap (λ (k : ℕ). Some k) numbered ∙ sym (ap f held))
                ∙ follows.places
                ∙ ap (λ (o : Bool). if o then without_link slot.channel (slots_in since) else slots_in since) (sym e)

        apart : (i j : ℕ) (a b : Slot) → (((i ≡ at) × (v ≡ Some a)) ⊎ ((i ≢ at) × Holds slots i a)) → (((j ≡ at) × (v ≡ Some b)) ⊎ ((j ≢ at) × Holds slots j b)) → a.channel ≡ b.channel → i ≡ j
        apart i j a b (inl p) (inl q) e = p.0 ∙ sym q.0
        apart i j a b (inl p) (inr q) e = absurd (q.0 (follows.apart j at b slot q.1 held (sym e ∙ channel_of_new a p.1)))
        apart i j a b (inr p) (inl q) e = absurd (p.0 (follows.apart i at a slot p.1 held (e ∙ channel_of_new b q.1)))
        apart i j a b (inr p) (inr q) e = follows.apart i j a b p.1 q.1 e

        links : (i : ℕ) (a : Slot) → (((i ≡ at) × (v ≡ Some a)) ⊎ ((i ≢ at) × Holds slots i a)) → LinkFollows (serve_on server (served_by server start.state since) made.events) a.channel a.door a.session
        links i a (inl own) =
            let n = is_new over a own.1 in
            subst (λ (s : Slot). LinkFollows (serve_on server (served_by server start.state since) made.events) s.channel s.door s.session) (sym n.1)
            (subst (λ (k : ℕ). LinkFollows (serve_on server (served_by server start.state since) made.events) k new.door new.session) (sym numbered)
            (subst (λ (d : Doorway). LinkFollows (serve_on server (served_by server start.state since) made.events) slot.channel d new.session) (sym by_door) (made.turn.follows n.0)))
        links i a (inr other) = follows_other server a.channel a.door a.session slot.channel (served_by server start.state since) made.events
            (λ e. other.0 (follows.apart i at a slot other.1 held (sym e))) made.turn.made (follows.links i a other.1)

    -- an idle turn
    pub idle_turned : (who : Who) (before after : S) (old_desk : D) → means.log after ≡ Some (start.log ++ since) → RoseIdle who (means.counts before) (means.counts after)
        → DeskOf moved same server (served_by server start.state since) who [] old_desk old_desk → TurnOf means server moved same start since who slots before after x old_desk old_desk
    idle_turned who before after old_desk logged rose desk = record {
      events = [];
      made = tt;
      logged = logged ∙ ap (λ (l : List Event). Some l) (sym (append-nil (start.log ++ since)));
      idle = λ none. rose;
      follows = subst (λ (l : List Event). Follows server start l slots x) (sym (append-nil since)) follows;
      desk = desk;
    }

    -- the turn of a door at which a link came in
    pub door_turned : (c : ℕ) (door : Doorway) → 1 ≤ c → is_named c (start.log ++ since) ≡ false → was_opened c (start.log ++ since) ≡ false → (slots' : List (Option Slot)) → IsSeated c door slots slots'
        → (before after : S) (old_desk : D) → means.log after ≡ Some ((start.log ++ since) ++ Opened c door ∷ [])
        → TurnOf means server moved same start since (door_of door) slots' before after x old_desk old_desk
    door_turned c door one unnamed unopened slots' seated before after old_desk logged =
        subst (λ (l : List (Option Slot)). TurnOf means server moved same start since (door_of door) l before after x old_desk old_desk) (sym seated.seated) (record {
          events = Opened c door ∷ [];
          made = ((c, refl, one, fresh), refl);
          logged = logged;
          idle = λ none. absurd (cc none);
          follows = record {
            places = places;
            apart = λ i j a b at_i at_j same_channel. apart i j a b (holds_set slots at i (Some slot) a inside at_i) (holds_set slots at j (Some slot) b inside at_j) same_channel;
            new = λ i a at_i. ⊎_elim
                (λ own. ap (λ (k : ℕ). is_named k start.log) (number a own.1) ∙ left_false (is_named c start.log) (is_named c since) (sym (is_named-append c start.log since) ∙ unnamed))
                (λ other. follows.new i a other.1) (holds_set slots at i (Some slot) a inside at_i);
            links = λ i a at_i. subst (λ (r : Serving X C). LinkFollows r a.channel a.door a.session) (sym run_is) (links i a (holds_set slots at i (Some slot) a inside at_i));
            shown = fronts_of server start.state (since ++ Opened c door ∷ []) (subst (λ (r : Serving X C). ShowsFronts r) (sym run_is) (fronts_quiet server (served_by server start.state since) (Opened c door) (λ channel. refl) fronts_since));
            state = follows.state ∙ ap (λ (r : Serving X C). r.state) (sym run_is);
          };
          desk = refl;
        })
      where
        run : Serving X C
        run = served_by server start.state since

        at : ℕ
        at = seated.at

        slot : Slot
        slot = seated.slot

        inside : at < length slots
        inside = seated.lowest.0

        fresh : was_opened c since ≡ false
        fresh = right_false (was_opened c start.log) (was_opened c since) (sym (was_opened-append c start.log since) ∙ unopened)

        unnamed_since : is_named c (served_by server start.state since).past ≡ false
        unnamed_since = ap (is_named c) (past_of server start.state since) ∙ right_false (is_named c start.log) (is_named c since) (sym (is_named-append c start.log since) ∙ unnamed)

        none : answers_to c (served_by server start.state since).answers ≡ []
        none = no_answers server c (start_at start.state) since (right_false (is_named c start.log) (is_named c since) (sym (is_named-append c start.log since) ∙ unnamed))

        next_is : served_by server start.state (since ++ Opened c door ∷ []) ≡ after_event server (served_by server start.state since) (Opened c door) []
        next_is = one_more_event server start.state since (Opened c door) (λ no. no)

        run_is : served_by server start.state (since ++ Opened c door ∷ []) ≡ with_event (served_by server start.state since) (Opened c door)
        run_is = next_is ∙ new_next server http (served_by server start.state since) c door unnamed_since none

        number : (a : Slot) → Some slot ≡ Some a → a.channel ≡ c
        number a e = ap (λ (s : Slot). s.channel) (let f : a ≡ slot = cc e in f) ∙ seated.numbered

        another : (i : ℕ) (a : Slot) → Holds slots i a → a.channel ≡ c → ⊥
        another i a held e =
            let o : was_opened a.channel since ≡ true = ap (was_opened a.channel) (sym (past_of server start.state since)) ∙ (follows.links i a held).as_logged.opened in
            let f : true ≡ false = sym o ∙ ap (λ (k : ℕ). was_opened k since) e ∙ fresh in cc f

        f : Option Slot → Option ℕ
        f = option_map (λ (s : Slot). s.channel)

        taken : (j : ℕ) → j < at → get_or (channels_of slots) j None ≡ None → ⊥
        taken j below e = by (get_or slots j None) refl
          where
            by : (o : Option Slot) → get_or slots j None ≡ o → ⊥
            by None is = seated.lowest.2 j below is
            by (Some b) is = let g : Some b.channel ≡ None = sym (get_or-map slots j ∙ ap (option_map (λ (s : Slot). s.channel)) is) ∙ e in cc g

        places : channels_of (set slots at (Some slot)) ≡ slots_in (since ++ Opened c door ∷ [])
        places =
            map-set (option_map (λ (s : Slot). s.channel)) slots at (Some slot)
            ∙ ap (λ (k : ℕ). set (channels_of slots) at (Some k)) seated.numbered
            ∙ sym (with_is c (channels_of slots) at (subst (λ (n : ℕ). at < n) (sym (length-map slots (option_map (λ (s : Slot). s.channel)))) inside) (get_or-map slots at ∙ ap (option_map (λ (s : Slot). s.channel)) seated.lowest.1) taken)
            ∙ ap (with_link c) follows.places
            ∙ sym (slots_after-append (replicate 32 None) since (Opened c door ∷ []))

        apart : (i j : ℕ) (a b : Slot) → (((i ≡ at) × (Some slot ≡ Some a)) ⊎ ((i ≢ at) × Holds slots i a)) → (((j ≡ at) × (Some slot ≡ Some b)) ⊎ ((j ≢ at) × Holds slots j b)) → a.channel ≡ b.channel → i ≡ j
        apart i j a b (inl p) (inl q) e = p.0 ∙ sym q.0
        apart i j a b (inl p) (inr q) e = absurd (another j b q.1 (sym e ∙ number a p.1))
        apart i j a b (inr p) (inl q) e = absurd (another i a p.1 (e ∙ number b q.1))
        apart i j a b (inr p) (inr q) e = follows.apart i j a b p.1 q.1 e

        links : (i : ℕ) (a : Slot) → (((i ≡ at) × (Some slot ≡ Some a)) ⊎ ((i ≢ at) × Holds slots i a)) → LinkFollows (with_event (served_by server start.state since) (Opened c door)) a.channel a.door a.session
        links i a (inl own) =
            let is : a ≡ slot = cc own.1 in
            subst (λ (s : Slot). LinkFollows (with_event (served_by server start.state since) (Opened c door)) s.channel s.door s.session) (sym is)
            (subst (λ (k : ℕ). LinkFollows (with_event (served_by server start.state since) (Opened c door)) k slot.door slot.session) (sym seated.numbered)
            (subst (λ (d : Doorway). LinkFollows (with_event (served_by server start.state since) (Opened c door)) c d slot.session) (sym seated.by_door)
            (subst (λ (l : Link). LinkFollows (with_event (served_by server start.state since) (Opened c door)) c door l) (sym seated.silent)
            (new_follows server http (served_by server start.state since) c door unnamed_since none))))
        links i a (inr other) =
            let old = follows.links i a other.1 in
            subst (λ (r : Serving X C). LinkFollows r a.channel a.door a.session) (sym next_is ∙ run_is) (record {
              as_logged = logged_other server a.channel a.door a.session (served_by server start.state since) (Opened c door) [] (not_same (c == a.channel) refl) old.as_logged;
              at_rest = old.at_rest;
            })
          where
            not_same : (b : Bool) → (c == a.channel) ≡ b → b ≡ false
            not_same true e = absurd (another i a other.1 (sym (eqb-true c a.channel e)))
            not_same false e = refl
