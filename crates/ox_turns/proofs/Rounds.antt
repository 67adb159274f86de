-- A turn of the place of a door or of a slot.
use Rattle.std.proofs.Common.{◌<◌, ◌≡◌, ◌∙◌, ◌≤◌, ◌-◌, ◌≢◌, ℕ, zero, suc, arith, Bool, true, false, not, List, [], ◌∷◌, ◌++◌, get_or, map, Option, Some, None, if◌then◌else◌, refl, sym, ap, subst, inl, inr, ◌⊎◌, ⊎_elim}
use Rattle.std.specs.Prelude.{IsSome, IsTrue, Result, Ok, Err, OnOk, OnErr}
use Rattle.std.specs.List.{list_any}
use Rattle.std.specs.Option.{option_map}
use Rattle.std.proofs.lemmas.List.{append-nil}
use Rattle.ox_outside.specs.Crash.{LeavesFiles, OneCall, Remains}
use Rattle.ox_outside.specs.Event.{Event, Opened}
use Rattle.ox_outside.specs.Files.{Files}
use Rattle.ox_outside.specs.Log.{Grows}
use Rattle.ox_outside.specs.Runs.{LeavesOnly}
use Rattle.ox_outside.specs.declared.site.Doorway.{Doorway}
use Rattle.ox_outside.specs.declared.site.Doorway.TheVariants.{Public, Operator}
use Rattle.ox_outside.specs.declared.site.Site.{Ghosts as Meanings}
use Rattle.ox_outside.proofs.Log.{adds_grows, grows_none, grows_same}
use Rattle.ox_outside.proofs.OnlyTalks.{talks_once}
use Rattle.ox_http.specs.declared.Request.{Request}
use Rattle.ox_links.specs.Rotation.{Who, door_of, link_of, is_free, next_turn, places, slots_in}
use Rattle.ox_links.specs.Serving.{Server, Serving, served_by}
use Rattle.ox_links.specs.Survives.{Survives}
use Rattle.ox_links.specs.Link.{all_shown}
use Rattle.ox_links.specs.Turned.{IsCut, is_first}
use Rattle.ox_turns.specs.Desk.{IsHttp}
use Rattle.ox_turns.specs.Follows.{Follows, Holds, ShowsFrontsIn, Start}
use Rattle.ox_turns.specs.Places.{channels_of}
use Rattle.ox_turns.specs.Turn.{CutOf, DoorComes, LinkCut, ShowsFronts, TurnCut, TurnOf}
use Rattle.ox_turns.specs.declared.slot.Slot.{Slot}
use Rattle.ox_turns.proofs.Coming.{LogsNow, OnlyNow}
use Rattle.ox_turns.proofs.LinkCrashes.{call_left, quiet_event, survives_none}
use Rattle.ox_turns.proofs.LinkTurns.{after_adds, first_own}
use Rattle.ox_turns.proofs.Rotating.{doors_at, slot_at, slot_on}
use Rattle.ox_turns.proofs.Surviving.{fronts_of, one_more_event, past_of}
use Rattle.ox_turns.proofs.Turned.{door_turned, fronts_since, idle_turned}

-- ---- whose place it is

door_free : (free : Bool) (rest : List (Option Who)) (place : ℕ) → place < 2 → IsSome (get_or ((if free then Some (door_of Public) ∷ Some (door_of Operator) ∷ [] else None ∷ None ∷ []) ++ rest) place None) → free ≡ true
door_free free rest place less some = sym (doors_at free rest place less) ∙ some

pub is_free_at : (slots : List (Option Slot)) (place : ℕ) → place < 2 → IsSome (get_or (places (channels_of slots)) place None) → list_any is_free (channels_of slots) ≡ true
is_free_at slots place less some = door_free (list_any is_free (channels_of slots)) (map (option_map link_of) (channels_of slots)) place less some

pub public_first : (slots : List (Option Slot)) (who : Who) → get_or (places (channels_of slots)) 0 None ≡ Some who → who ≡ door_of Public
public_first slots who is = by (list_any is_free (channels_of slots)) is
  where
    by : (free : Bool) → get_or ((if free then Some (door_of Public) ∷ Some (door_of Operator) ∷ [] else None ∷ None ∷ []) ++ map (option_map link_of) (channels_of slots)) 0 None ≡ Some who → who ≡ door_of Public
    by true e = let f : who ≡ door_of Public = cc e in f
    by false e = absurd (let f : None ≡ Some who = e in let no : ⊥ = cc f in no)

pub operator_second : (slots : List (Option Slot)) (who : Who) → get_or (places (channels_of slots)) 1 None ≡ Some who → who ≡ door_of Operator
operator_second slots who is = by (list_any is_free (channels_of slots)) is
  where
    by : (free : Bool) → get_or ((if free then Some (door_of Public) ∷ Some (door_of Operator) ∷ [] else None ∷ None ∷ []) ++ map (option_map link_of) (channels_of slots)) 1 None ≡ Some who → who ≡ door_of Operator
    by true e = let f : who ≡ door_of Operator = cc e in f
    by false e = absurd (let f : None ≡ Some who = e in let no : ⊥ = cc f in no)

pub whose_door : (slots : List (Option Slot)) (place : ℕ) (who : Who) (door : Doorway) → place < 2 → (place ≡ 0 → door ≡ Public) → (place ≢ 0 → door ≡ Operator) → get_or (places (channels_of slots)) place None ≡ Some who → who ≡ door_of door
whose_door slots zero who door less public operator is = public_first slots who is ∙ ap door_of (sym (public refl))
whose_door slots (suc zero) who door less public operator is = operator_second slots who is ∙ ap door_of (sym (operator (λ e. omega (arith, e))))
whose_door slots (suc (suc place)) who door less public operator is = absurd (omega (arith, less))

pub whose_slot : (slots : List (Option Slot)) (place : ℕ) (who : Who) → 2 ≤ place → get_or (places (channels_of slots)) place None ≡ Some who → (slot : Slot) × Holds slots (place - 2) slot × (who ≡ link_of slot.channel)
whose_slot slots place who le is = by (get_or slots (place - 2) None) refl
  where
    by : (o : Option Slot) → get_or slots (place - 2) None ≡ o → (slot : Slot) × Holds slots (place - 2) slot × (who ≡ link_of slot.channel)
    by None e = absurd (let f : None ≡ Some who = sym (slot_at slots place le ∙ ap (option_map (λ (s : Slot). link_of s.channel)) e) ∙ is in let no : ⊥ = cc f in no)
    by (Some slot) e = (slot, e, (let f : Some (link_of slot.channel) ≡ Some who = sym (slot_at slots place le ∙ ap (option_map (λ (s : Slot). link_of s.channel)) e) ∙ is in let h : who ≡ link_of slot.channel = cc f in h))

pub held_at : (slots : List (Option Slot)) (place : ℕ) → 2 ≤ place → IsSome (get_or (places (channels_of slots)) place None) → IsSome (get_or slots (place - 2) None)
held_at slots place le some = slot_on slots place le ∙ some

-- ---- cut short

pub cut_link : {X C : Type 0} (server : Server X C) (start : Start X) (since : List Event) (slot : Slot) (new : Option (List Event)) → LinkCut server (served_by server start.state since) (start.log ++ since) slot.channel new → CutOf server start since (link_of slot.channel) new
cut_link server start since slot new cut = record {
  events = cut.event ∷ [];
  logged = cut.logged;
  first = inr (cut.event, refl, subst (λ (l : List Event). IsTrue (is_first slot.channel (not (all_shown slot.channel l (served_by server start.state since).answers)) cut.event)) (past_of server start.state since) cut.first);
  fronts = fronts_of server start.state (since ++ cut.event ∷ []) (subst (λ (r : Serving _ _). ShowsFronts r) (sym (one_more_event server start.state since cut.event (first_own slot.channel _ cut.event cut.first).1)) cut.fronts);
}

pub cut_none : {X C : Type 0} (server : Server X C) (start : Start X) (since : List Event) (who : Who) (old new : Option (List Event)) → ShowsFrontsIn server start.state since → old ≡ Some (start.log ++ since) → new ≡ old → CutOf server start since who new
cut_none server start since who old new fronts is same = record {
  events = [];
  logged = same ∙ is ∙ ap (λ (l : List Event). Some l) (sym (append-nil (start.log ++ since)));
  first = inl refl;
  fronts = subst (λ (l : List Event). ShowsFrontsIn server start.state l) (sym (append-nil since)) fronts;
}

pub cut_at : {X C : Type 0} (server : Server X C) (start : Start X) (since : List Event) (place at : ℕ) (who : Who) (new : Option (List Event)) → next_turn place (slots_in since) ≡ Some (at, who) → CutOf server start since who new → TurnCut server start since place new
cut_at server start since place at who new whose cut = record {
  events = cut.events;
  logged = cut.logged;
  cut = ⊎_elim (λ none. subst (IsCut server start.state since place) (sym none) tt) (λ one. subst (IsCut server start.state since place) (sym one.1) (at, who, whose, one.2)) cut.first;
  fronts = cut.fronts;
}

-- ---- a door

module _ {S X C : Type 0} (means : Meanings S) (server : Server X C) (http : IsHttp server) (start : Start X) (since : List Event) (slots : List (Option Slot)) (x : X) (follows : Follows server start since slots x) where
  pub door_made : {D : Type 0} (moved : D → Request → Bool → D → Type 0) (same : D → D → Type 0) (door : Doorway) (slots' : List (Option Slot)) (before after : S) (desk : D) → means.log before ≡ Some (start.log ++ since)
      → DoorComes means door slots slots' before after → TurnOf means server moved same start since (door_of door) slots' before after x desk desk
  door_made moved same door slots' before after desk is (inl none) =
      subst (λ (l : List (Option Slot)). TurnOf means server moved same start since (door_of door) l before after x desk desk) (sym none.0)
      (idle_turned server http start since slots x follows means moved same (door_of door) before after desk (none.1 ∙ is) none.2 refl)
  door_made moved same door slots' before after desk is (inr came) =
      let known = came.3 (start.log ++ since) is in
      door_turned server http start since slots x follows means moved same came.0 door came.1 known.0 known.1 slots' came.2 before after desk
      (after_adds (λ log. Opened came.0 door ∷ []) (start.log ++ since) (means.log before) (means.log after) is came.4)

  -- what a crash leaves
  module _ (stands : Files → X → Type 0) (only_now : OnlyNow means) (logs_now : LogsNow means) (before after : S) (is : means.log before ≡ Some (start.log ++ since))
      (stood : (r : Remains) → means.may_leave before r → stands r.files x) (files : LeavesFiles means.seen means.may_leave before after)
      (call : OneCall means.told means.counts means.clock means.may_leave means.left_since before after) where
    abbrev During : Type 0
    During = LeavesOnly means before after (λ r. Grows (λ added. Survives server start.state stands (since ++ added) r.files) (means.log before) (Some r.log))

    stood_run : (r : Remains) → means.may_leave before r → stands r.files (served_by server start.state since).state
    stood_run r left = subst (stands r.files) follows.state (stood r left)

    left_by : (events : List Event) → ((f : Files) → stands f (served_by server start.state since).state → Survives server start.state stands (since ++ events) f)
        → Grows (λ (added : List Event). (added ≡ []) ⊎ (added ≡ events)) (means.log before) (means.log after) → During
    left_by events survives grown =
        call_left means server stands start.state start.log since before is (fronts_since server http start since slots x follows) after events stood_run survives
        (talks_once means only_now logs_now (λ (added : List Event). (added ≡ []) ⊎ (added ≡ events)) before after (inl refl) files call grown)

    pub quiet_left : means.log after ≡ means.log before → During
    quiet_left same =
        left_by [] (survives_none means server stands start.state start.log since before is (fronts_since server http start since slots x follows))
        (grows_same (λ (added : List Event). (added ≡ []) ⊎ (added ≡ [])) (means.log before) (means.log before) (means.log after) (grows_none (λ (added : List Event). (added ≡ []) ⊎ (added ≡ [])) (means.log before) (inl refl)) same)

    pub door_left : (door : Doorway) (slots' : List (Option Slot)) → DoorComes means door slots slots' before after → During
    door_left door slots' (inl none) = quiet_left none.1
    door_left door slots' (inr came) =
        left_by (Opened came.0 door ∷ [])
        (quiet_event means server stands start.state start.log since before is (fronts_since server http start since slots x follows) (Opened came.0 door) (λ no. no) (λ channel. refl) (Opened came.0 door ∷ []) refl)
        (adds_grows (λ log. Opened came.0 door ∷ []) (λ (added : List Event). (added ≡ []) ⊎ (added ≡ Opened came.0 door ∷ [])) (means.log before) (means.log after) (λ log. inr refl) came.4)

-- ---- what a result says

pub on_ok : {T E : Type 0} (r : Result T E) (P Q : Type 0) → (P → Q) → OnOk r P → OnOk r Q
on_ok (Ok x) P Q then_ p = then_ p
on_ok (Err e) P Q then_ p = p

pub on_err : {T E : Type 0} (r : Result T E) (P Q : Type 0) → (P → Q) → OnErr r P → OnErr r Q
on_err (Ok x) P Q then_ p = p
on_err (Err e) P Q then_ p = then_ p

pub either_way : {T E : Type 0} (r : Result T E) (P Q R : Type 0) → (P → R) → (Q → R) → OnOk r P → OnErr r Q → R
either_way (Ok x) P Q R ok err p q = ok p
either_way (Err e) P Q R ok err p q = err q
