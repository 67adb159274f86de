-- The head of a follower's file names its stack, before a piece and after it.
use Rattle.std.proofs.Common.{◌≡◌, ◌∙◌, ◌<◌, ℕ, Bool, true, false, List, [], ◌∷◌, refl, sym, ap, subst, arith}
use Rattle.std.specs.Prelude.{◌&&◌, ◌||◌, ◌==◌, not, nat_le, nat_lt, Option, Some, None, if◌then◌else◌}
use Rattle.std.specs.Result.{result_ok}
use Rattle.std.proofs.lemmas.Bool.{and_parts, eq-eqb, eqb-true, false≢true, lt-ltb, ne_eqb}
use Rattle.std.proofs.lemmas.Option.{same_Some}
use Rattle.ox_gated.specs.Layout.{Whole, is_lawful}
use Rattle.ox_gated.specs.Tail.{Framing, Kept}
use Rattle.ox_gated.specs.declared.head.Head.{Head}
use Rattle.ox_sat.specs.Profiles.{name_at, profile_named}
use Rattle.ox_model.specs.Change.{redone}
use Rattle.ox_model.specs.Index.{Index}
use Rattle.ox_model.specs.Stack.{Stack, back_to}
use Rattle.ox_model.specs.declared.change.Change.{Change}
use Rattle.ox_plain.specs.Ends.{begins_in}
use Rattle.ox_rows.specs.RowReading.{change_at}
use Rattle.ox_sound.specs.Sound.{sound}
use Rattle.ox_files.specs.Body as bodies
use Rattle.ox_files.specs.Body.{Body, stack_in_body, whole}
use Rattle.ox_files.specs.Payload.{payload_step, stack_back, stack_by_change, with_change}
use Rattle.ox_files.specs.Stands.{stack_in_file}
use Rattle.ox_files.proofs.FilesOfStacks.{file_stack, file_turned}
use Rattle.ox_follow.specs.Frame.{Frame, Base, Step, Have, Level}
use Rattle.ox_follow.specs.Position.{is_same, next_place, start_of}
use Rattle.ox_follow.specs.Talk.{Judged, Done, Ends, Stays, Takes, fitting, judged}
use Rattle.ox_follow.specs.World.{Stood, spelled_by}
use Rattle.ox_follow.specs.declared.frame.Position.{Position}
use Rattle.ox_store.specs.Heads.{Names}
use Rattle.ox_pieces.specs.Follower.{FollowerContents, position_of}
use Rattle.ox_pieces.specs.Stood.{rules_of}
use Rattle.ox_pieces.specs.Taken.{IsTaken}
use Rattle.ox_pieces.specs.Writing.{IsLater, stack_under, stood_behind}
use Rattle.ox_pieces.specs.declared.writing.Writing.TheVariants.{Append, Turn}
use Rattle.ox_pieces.proofs.PiecesOfLeaders.{byte_of}

-- ---- a payload changes neither the profile nor the depth

pub record CountsAlike (before after : Stack) : Type 0 where
  pub profile : before.profile ≡ after.profile
  pub depth : before.depth ≡ after.depth

alike_chosen : (b : Bool) (before put after : Stack) → put.profile ≡ before.profile → put.depth ≡ before.depth → (if b then Some put else None) ≡ Some after → CountsAlike before after
alike_chosen true before put after profile depth is =
    let same = same_Some put after is in record {
      profile = sym profile ∙ ap (λ (s : Stack). s.profile) same;
      depth = sym depth ∙ ap (λ (s : Stack). s.depth) same;
    }
alike_chosen false before put after profile depth is = absurd (cc is)

alike_changed : (before after : Stack) (read : Option Change) → stack_by_change before read ≡ Some after → CountsAlike before after
alike_changed before after None is = absurd (cc is)
alike_changed before after (Some change) is =
    alike_chosen (begins_in before.index change && sound before.profile (redone before.index change)) before (with_change before change) after refl refl is

alike_older : (before after : Stack) (older : List Index) → result_ok (back_to before older) ≡ Some after → CountsAlike before after
alike_older before after [] is = absurd (cc is)
alike_older before after (index ∷ older) is = alike_chosen true before (record before { index = index; older = older }) after refl refl is

alike_back : (before after : Stack) (rest : List ℕ) → stack_back before rest ≡ Some after → CountsAlike before after
alike_back before after [] is = alike_older before after before.older is
alike_back before after (b ∷ rest) is = absurd (cc is)

pub counts_alike : (before after : Stack) (payload : List ℕ) → payload_step before payload ≡ Some after → CountsAlike before after
counts_alike before after [] is = absurd (cc is)
counts_alike before after (kind ∷ rest) is = by_kind (kind == 1) (kind == 0) is
  where
    by_kind : (one none : Bool) → (if one then stack_by_change before (whole (change_at rest)) else if none then stack_back before rest else None) ≡ Some after → CountsAlike before after
    by_kind true none is = alike_changed before after (whole (change_at rest)) is
    by_kind false true is = alike_back before after rest is
    by_kind false false is = absurd (cc is)

pub names_step : (head : Head) (before after : Stack) (payload : List ℕ) → Names head before → payload_step before payload ≡ Some after → Names head after
names_step head before after payload names is =
    let alike = counts_alike before after payload is in record {
      version = names.version;
      lawful = names.lawful;
      profile = names.profile ∙ alike.profile;
      depth = names.depth ∙ alike.depth;
    }

-- ---- the rules stay

alike_rules : (mine next : Stack) → CountsAlike mine next → rules_of next ≡ rules_of mine
alike_rules mine next alike = λ i. record {
  leads = λ payload before. payload_step before payload;
  spells = stack_in_body (sym alike.profile i) (sym alike.depth i);
  profile = (sym alike.profile i).byte;
  depth = sym alike.depth i;
}

same_taken : {X : Type 0} (one other : Stood X) → ◌≡◌ {A = Judged X} (Takes one) (Takes other) → one ≡ other
same_taken one other is = cc is

by_fitting : (mine : Stack) (at : Position) (found : Option Stack) (next : Stood Stack) → ((stack : Stack) → found ≡ Some stack → CountsAlike mine stack) → fitting at found ≡ Takes next
    → CountsAlike mine next.state
by_fitting mine at None next alike is = absurd (cc is)
by_fitting mine at (Some stack) next alike is =
    subst (CountsAlike mine) (ap (λ (s : Stood Stack). s.state) (same_taken (record { at = at; state = stack }) next is)) (alike stack refl)

where_next : (b : Bool) (mine : Stack) (at : Position) (found : Option Stack) (next : Stood Stack) → ((stack : Stack) → found ≡ Some stack → CountsAlike mine stack)
    → (if b then fitting at found else Stays) ≡ Takes next → CountsAlike mine next.state
where_next true mine at found next alike is = by_fitting mine at found next alike is
where_next false mine at found next alike is = absurd (cc is)

under_counts : (mine stack : Stack) (read : Option Body) → bodies.stack_in mine.profile mine.depth read ≡ Some stack → CountsAlike mine stack
under_counts mine stack None is = absurd (cc is)
under_counts mine stack (Some body) is = alike_chosen (bodies.is_kept mine.profile mine.depth body) mine (bodies.stack_of mine.profile mine.depth body) stack refl refl is

pub payload_rules : (mine next : Stack) (payload : List ℕ) → payload_step mine payload ≡ Some next → rules_of next ≡ rules_of mine
payload_rules mine next payload is = alike_rules mine next (counts_alike mine next payload is)

pub body_rules : (mine next : Stack) (body : List ℕ) → stack_in_body mine.profile mine.depth body ≡ Some next → rules_of next ≡ rules_of mine
body_rules mine next body is = alike_rules mine next (under_counts mine next (whole (bodies.body_at body)) is)

spelled_counts : (b : Bool) (mine stack : Stack) (body : List ℕ) → (if b then stack_in_body mine.profile mine.depth body else None) ≡ Some stack → CountsAlike mine stack
spelled_counts true mine stack body is = under_counts mine stack (whole (bodies.body_at body)) is
spelled_counts false mine stack body is = absurd (cc is)

never_takes : (b : Bool) (next : Stood Stack) → (if b then Ends Done else Stays) ≡ Takes next → ⊥
never_takes true next is = cc is
never_takes false next is = cc is

pub taken_counts : (mine next : Stood Stack) (frame : Frame) → judged (rules_of mine.state) mine frame ≡ Takes next → CountsAlike mine.state next.state
taken_counts mine next (Step at payload) is =
    where_next (is_same at mine.at) mine.state (next_place at) (payload_step mine.state payload) next (λ stack leads. counts_alike mine.state stack payload leads) is
taken_counts mine next (Base at profile depth body) is =
    where_next (nat_lt mine.at.generation at.generation) mine.state (start_of at.generation) (spelled_by (rules_of mine.state) profile depth body) next
    (λ stack stands. spelled_counts (profile == mine.state.profile.byte && depth == mine.state.depth) mine.state stack body stands) is
taken_counts mine next (Have at) is = absurd (cc is)
taken_counts mine next (Level at) is = absurd (never_takes (is_same at mine.at) next is)

pub rules_kept : (mine next : Stood Stack) (frame : Frame) → judged (rules_of mine.state) mine frame ≡ Takes next → rules_of next.state ≡ rules_of mine.state
rules_kept mine next frame is = alike_rules mine.state next.state (taken_counts mine next frame is)

-- ---- a later head

with_last : (others last last' : Bool) → (others && last) ≡ true → last' ≡ true → (others && last') ≡ true
with_last true last last' is some = some
with_last false last last' is some = absurd (false≢true is)

pub lawful_later : (head : Head) (generation : ℕ) → is_lawful head ≡ true → head.generation < generation → is_lawful (record head { generation = generation }) ≡ true
lawful_later head generation is greater =
    with_last ((head.version == 1 || head.version == 2 || head.version == 3) && nat_lt head.profile 3 && nat_le 1 head.depth && nat_le head.depth 1000) (not (head.generation == 0)) (not (generation == 0)) is
    (ap not (ne_eqb generation 0 (λ none. omega (arith, greater, none))))

pub names_later : (old new : Head) (stack : Stack) → IsLater old new → Names old stack → Names new stack
names_later old new stack later names =
    subst (λ (head : Head). Names head stack) (sym later.same) (record {
      version = names.version;
      lawful = lawful_later old new.generation names.lawful later.greater;
      profile = names.profile;
      depth = names.depth;
    })

pub version_later : (old new : Head) → IsLater old new → old.version ≡ 2 → new.version ≡ 2
version_later old new later two = ap (λ (head : Head). head.version) later.same ∙ two

-- ---- a base

-- what a body stands for under a head is of its profile and depth
under_alike : (head : Head) (body : List ℕ) (stack : Stack) → stack_under head body ≡ Some stack → (profile_named (name_at head.profile) ≡ stack.profile) × (head.depth ≡ stack.depth)
under_alike head body stack is =
    let of = file_stack head body [] stack (file_turned head body stack is) in
    (sym of.has_profile, sym of.has_depth)

-- the file that is made of it is a later one of the same store
pub base_follows : (old head : Head) (generation : ℕ) (before after : Stack) (body : List ℕ) (made : Whole) → Names old before → head ≡ old → head.generation < generation
    → stack_under (record head { generation = generation }) body ≡ Some after → made ≡ record { head = record head { generation = generation }; body = body } → IsLater old made.head × Names old after
base_follows old head generation before after body made names own greater stands is =
    let later : made.head ≡ record head { generation = generation } = ap (λ (w : Whole). w.head) is in
    let alike = under_alike (record head { generation = generation }) body after stands in (
      record {
        greater = subst (λ (h : Head). h.generation < made.head.generation) own (subst (λ (h : Head). head.generation < h.generation) (sym later) greater);
        same = later ∙ (λ i. record (own i) { generation = (sym later i).generation });
      },
      record {
        version = names.version;
        lawful = names.lawful;
        profile = ap (λ (h : Head). profile_named (name_at h.profile)) (sym own) ∙ alike.0;
        depth = ap (λ (h : Head). h.depth) (sym own) ∙ alike.1;
      },
    )

-- a base that is next, of the same profile and depth, is judged by its body
pub base_judged : (mine : Stood Stack) (head : Head) (at : Position) (profile depth : ℕ) (body : List ℕ) → Names head mine.state → mine.at.generation < at.generation → profile ≡ head.profile → depth ≡ head.depth
    → judged (rules_of mine.state) mine (Base at profile depth body) ≡ fitting (start_of at.generation) (stack_under head body)
base_judged mine head at profile depth body names next as_profile as_depth =
    let byte : profile ≡ mine.state.profile.byte = as_profile ∙ sym (byte_of head mine.state names.lawful (sym names.profile)) in
    let deep : depth ≡ mine.state.depth = as_depth ∙ names.depth in
    rw (lt-ltb mine.at.generation at.generation next, eq-eqb profile mine.state.profile.byte byte, eq-eqb depth mine.state.depth deep)
    (λ i. fitting (start_of at.generation) (stack_in_body (sym names.profile i) (sym names.depth i) body))

abbrev held : Kept → Stack → FollowerContents
held tail stack = record { mine = record { at = position_of tail; state = stack }; tail = tail }

-- and taken where that stands for a stack
pub base_taken : (follower : FollowerContents) (tail : Kept) (before after : Stack) (head : Head) (at : Position) (profile depth : ℕ) (body : List ℕ) (made : Whole) → held tail before ≡ follower
    → Names tail.head before → head ≡ tail.head → head.generation < at.generation → profile ≡ head.profile → depth ≡ head.depth → stack_under head body ≡ Some after
    → made ≡ record { head = record head { generation = at.generation }; body = body }
    → IsTaken follower (Base at profile depth body) (record { next = stood_behind tail after (Turn made); tail = tail; writing = Turn made })
base_taken follower tail before after head at profile depth body made is names own greater as_profile as_depth stands same =
    let here = held tail before in
    let next : here.mine.at.generation < at.generation = subst (λ (h : Head). h.generation < at.generation) own greater in
    let generation : made.head.generation ≡ at.generation = ap (λ (w : Whole). w.head.generation) same in
    subst (λ (f : FollowerContents). IsTaken f (Base at profile depth body) (record { next = stood_behind tail after (Turn made); tail = tail; writing = Turn made })) is
    (record {
      takes =
          base_judged here.mine head at profile depth body (subst (λ (h : Head). Names h before) (sym own) names) next as_profile as_depth
          ∙ ap (fitting (start_of at.generation)) stands
          ∙ (λ i. Takes (record { at = start_of (sym generation i); state = after }));
      leads = ap (λ (w : Whole). stack_in_file w.head w.body []) same ∙ file_turned (record head { generation = at.generation }) body after stands;
      tail = refl;
    })

-- ---- a step

same_position : (one other : Position) → is_same one other ≡ true → one ≡ other
same_position one other is =
    let both = and_parts (one.generation == other.generation) (one.place == other.place) is in
    λ i. record { generation = eqb-true one.generation other.generation both.0 i; place = eqb-true one.place other.place both.1 i }

-- a step of the follower's own position is taken where its payload is accepted
pub step_taken : (follower : FollowerContents) (tail : Kept) (before after : Stack) (at : Position) (payload : List ℕ) (framed : Framing) → held tail before ≡ follower → is_same at follower.mine.at ≡ true
    → payload_step before payload ≡ Some after → framed.payload ≡ payload → IsTaken follower (Step at payload) (record { next = stood_behind tail after (Append framed); tail = tail; writing = Append framed })
step_taken follower tail before after at payload framed is own leads written =
    let here : is_same at (position_of tail) ≡ true = ap (λ (f : FollowerContents). is_same at f.mine.at) is ∙ own in
    let there : at ≡ position_of tail = same_position at (position_of tail) here in
    subst (λ (f : FollowerContents). IsTaken f (Step at payload) (record { next = stood_behind tail after (Append framed); tail = tail; writing = Append framed })) is
    (record {
      takes =
          ap (λ (b : Bool). if b then fitting (next_place at) (payload_step before payload) else Stays) here
          ∙ ap (fitting (next_place at)) leads
          ∙ (λ i. Takes (record { at = next_place (there i); state = after }));
      leads = ap (payload_step before) written ∙ leads;
      tail = refl;
    })
