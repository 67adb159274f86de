-- Answers with as many accepted commands before them are by one state.
use Rattle.std.proofs.Common.{◌≡◌, ◌∙◌, ℕ, suc, Bool, true, false, List, [], ◌∷◌, ◌++◌, length, take, drop, Option, Some, None, if◌then◌else◌, refl, sym, ap, subst, arith, append_assoc, length-append, drop-cons, inl, inr, ◌⊎◌}
use Rattle.std.specs.Prelude.{unwrap_or, is_some}
use Rattle.std.specs.List.{Contains, cons_option}
use Rattle.std.proofs.lemmas.List.{append-nil, nil_from_length, take-append-drop}
use Rattle.std.proofs.lemmas.List.Elements.{filter_map-append}
use Rattle.ox_outside.specs.Event.{Event}
use Rattle.ox_feed.specs.declared.command.Command.{Command}
use Rattle.ox_http.specs.declared.Method.{Method}
use Rattle.ox_http.specs.declared.Method.TheVariants.{Get}
use Rattle.ox_http.specs.declared.Request.{Request}
use Rattle.ox_http.specs.Talk.{Message, asks}
use Rattle.ox_links.specs.Answered.{AllInTurn}
use Rattle.ox_links.specs.Link.{Answer}
use Rattle.ox_links.specs.Serving.{Server, accepted_command, accepted_in, commands_in, message_reply, next_state, served_by, state_after}
use Rattle.ox_links.proofs.Answered.{all_answer}
use Rattle.ox_model.specs.Stack.{Stack, stack_after}
use Rattle.ox_asof.specs.Reply.{get_of}
use Rattle.ox_desk.specs.Asked.{asked_on}
use Rattle.ox_desk.specs.Commands.{command_by, command_of}
use Rattle.ox_desk.specs.Hits.{IsToGetOf}
use Rattle.ox_desk.specs.Queries.{query_reply}
use Rattle.ox_desk.specs.Replies.{reply_or}
use Rattle.ox_desk.specs.Servers.{server_on, shown_as}
use Rattle.ox_desk.proofs.Closing.{query_closes_own}

-- ---- lists with one whole

comparable : {A : Type 0} (a b c d : List A) → a ++ b ≡ c ++ d → ((more : List A) × (c ≡ a ++ more)) ⊎ ((more : List A) × (a ≡ c ++ more))
comparable [] b c d is = inl (c, refl)
comparable (x ∷ a) b [] d is = inr (x ∷ a, refl)
comparable {A = A} (x ∷ a) b (y ∷ c) d is =
    let same : x ≡ y = cc is in
    let rest : a ++ b ≡ c ++ d = cc is in
    by same (comparable a b c d rest)
  where
    by : x ≡ y → ((more : List A) × (c ≡ a ++ more)) ⊎ ((more : List A) × (a ≡ c ++ more)) → ((more : List A) × (y ∷ c ≡ x ∷ a ++ more)) ⊎ ((more : List A) × (x ∷ a ≡ y ∷ c ++ more))
    by same (inl longer) = inl (longer.0, ap (λ (z : A). z ∷ c) (sym same) ∙ ap (λ (l : List A). x ∷ l) longer.1)
    by same (inr longer) = inr (longer.0, ap (λ (z : A). z ∷ a) same ∙ ap (λ (l : List A). y ∷ l) longer.1)

split_at : {A : Type 0} (all : List A) (x : A) → Contains all x → (front : List A) × (back : List A) × (all ≡ front ++ x ∷ back)
split_at {A = A} all x (k, within, is) =
    (take k all, drop (suc k) all, sym (take-append-drop k all) ∙ ap (λ (l : List A). take k all ++ l) (drop-cons all k x within ∙ ap (λ (y : A). y ∷ drop (suc k) all) is))

-- ---- the state before an answer

module _ {X C : Type 0} (server : Server X C) (first : X) where
  behind : (state : X) (x y : List C) → state_after server state (x ++ y) ≡ state_after server (state_after server state x) y
  behind state [] y = refl
  behind state (c ∷ x) y = behind (unwrap_or (server.turn state c) state) x y

  -- a command that is refused changes nothing
  one_more : (now : X) (command : Option C) (accepted : Bool) → accepted ≡ is_some (next_state server now command)
      → state_after server now (cons_option command []) ≡ state_after server now (cons_option (if accepted then command else None) [])
  one_more now None true is = refl
  one_more now None false is = refl
  one_more now (Some c) accepted is = by (server.turn now c) accepted refl is
    where
      by : (turned : Option X) (b : Bool) → server.turn now c ≡ turned → b ≡ is_some turned
          → unwrap_or (server.turn now c) now ≡ state_after server now (cons_option (if b then Some c else None) [])
      by turned true at is = refl
      by None false at is = ap (λ (t : Option X). unwrap_or t now) at
      by (Some x) false at is = absurd (cc is)

  abbrev AsAccepted : List (Answer C) → Type 0
  AsAccepted answers = state_after server first (commands_in answers) ≡ state_after server first (accepted_in answers)

  module _ (log : List Event) (answers : List (Answer C)) (each : AllInTurn server first log answers) where
    answer_more : (done rest : List (Answer C)) (a : Answer C) → answers ≡ done ++ a ∷ rest → AsAccepted done → AsAccepted (done ++ a ∷ [])
    answer_more done rest a is so =
        let turn = each done rest a is in
        let now = state_after server first (commands_in done) in
        ap (λ (l : List C). state_after server first l) (filter_map-append (λ (x : Answer C). x.command) done (a ∷ []))
        ∙ behind first (commands_in done) (cons_option a.command [])
        ∙ one_more now a.command a.is_accepted turn.is_accepted
        ∙ ap (λ (s : X). state_after server s (cons_option (accepted_command a) [])) so
        ∙ sym (behind first (accepted_in done) (cons_option (accepted_command a) []))
        ∙ ap (λ (l : List C). state_after server first l) (sym (filter_map-append accepted_command done (a ∷ [])))

    answers_more : (done front rest : List (Answer C)) → answers ≡ done ++ (front ++ rest) → AsAccepted done → AsAccepted (done ++ front)
    answers_more done [] rest is so = subst AsAccepted (sym (append-nil done)) so
    answers_more done (a ∷ front) rest is so =
        subst AsAccepted (append_assoc done (a ∷ []) front)
        (answers_more (done ++ a ∷ []) front rest (is ∙ sym (append_assoc done (a ∷ []) (front ++ rest))) (answer_more done (front ++ rest) a is so))

    -- what was accepted before two answers is the same, where it is as many
    as_many : (one two more : List (Answer C)) → two ≡ one ++ more → length (accepted_in one) ≡ length (accepted_in two) → accepted_in one ≡ accepted_in two
    as_many one two more is many =
        let all = ap (λ (l : List (Answer C)). accepted_in l) is ∙ filter_map-append accepted_command one more in
        let none : accepted_in more ≡ [] = nil_from_length (accepted_in more)
        (let e = ap (λ (l : List C). length l) all ∙ length-append (accepted_in one) (accepted_in more) in omega (arith, e, many)) in
        sym (all ∙ ap (λ (l : List C). accepted_in one ++ l) none ∙ append-nil (accepted_in one))

    same_before : (one two rest later : List (Answer C)) → answers ≡ one ++ rest → answers ≡ two ++ later → length (accepted_in one) ≡ length (accepted_in two) → accepted_in one ≡ accepted_in two
    same_before one two rest later is is_too many = by (comparable one rest two later (sym is ∙ is_too))
      where
        by : ((more : List (Answer C)) × (two ≡ one ++ more)) ⊎ ((more : List (Answer C)) × (one ≡ two ++ more)) → accepted_in one ≡ accepted_in two
        by (inl longer) = as_many one two longer.0 longer.1 many
        by (inr longer) = sym (as_many two one longer.0 longer.1 (sym many))

    pub same_state : (one two rest later : List (Answer C)) → answers ≡ one ++ rest → answers ≡ two ++ later → length (accepted_in one) ≡ length (accepted_in two)
        → state_after server first (commands_in one) ≡ state_after server first (commands_in two)
    same_state one two rest later is is_too many =
        answers_more [] one rest is refl ∙ ap (λ (l : List C). state_after server first l) (same_before one two rest later is is_too many) ∙ sym (answers_more [] two later is_too refl)

-- ---- the reply to a GET

no_command : (operator : Bool) (request : Request) → request.method ≡ Get → command_of operator request ≡ None
no_command operator request get = ap (λ (m : Method). command_by operator m request) get ∙ by operator
  where
    by : (b : Bool) → command_by b Get request ≡ None
    by true = refl
    by false = refl

get_reply : (stack : Stack) (operator : Bool) (request : Request) (message : Option Message) → message ≡ Some (asks request) → request.method ≡ Get
    → message_reply server_on stack operator message ≡ shown_as (query_reply (asked_on stack) (get_of request.path request.close))
get_reply stack operator request message is get =
    ap (λ (m : Option Message). message_reply server_on stack operator m) is
    ∙ ap (λ (o : Option Command). shown_as (reply_or stack_after asked_on stack request o)) (no_command operator request get)
    ∙ ap shown_as (sym (query_closes_own (asked_on stack) request get))

pub same_reply : (first : Stack) (log : List Event) (path : List ℕ) (accepted : ℕ) (close : Bool) (one two : Answer Command)
    → Contains (served_by server_on first log).answers one → Contains (served_by server_on first log).answers two
    → IsToGetOf path accepted close one → IsToGetOf path accepted close two → one.reply ≡ two.reply
same_reply first log path accepted close one two has has_too get get_too =
    let answers = (served_by server_on first log).answers in
    let each = all_answer server_on first log in
    let at = split_at answers one has in
    let at_two = split_at answers two has_too in
    let turn = each at.0 at.1 one at.2 in
    let turn_two = each at_two.0 at_two.1 two at_two.2 in
    let many : length (accepted_in at.0) ≡ length (accepted_in at_two.0)
    = sym turn.accepted ∙ get.0.same_accepted ∙ sym get_too.0.same_accepted ∙ turn_two.accepted in
    let state = same_state server_on first log answers each at.0 at_two.0 (one ∷ at.1) (two ∷ at_two.1) at.2 at_two.2 many in
    turn.reply ∙ get_reply _ _ get.0.request one.message get.0.message get.0.get
    ∙ ap (λ (s : Stack). shown_as (query_reply (asked_on s) (get_of get.0.request.path get.0.request.close))) state
    ∙ ap (λ (p : List ℕ). shown_as (query_reply (asked_on (state_after server_on first (commands_in at_two.0))) (get_of p get.0.request.close))) (get.0.same_path ∙ sym get_too.0.same_path)
    ∙ ap (λ (b : Bool). shown_as (query_reply (asked_on (state_after server_on first (commands_in at_two.0))) (get_of get_too.0.request.path b))) (get.1 ∙ sym get_too.1)
    ∙ sym (turn_two.reply ∙ get_reply _ _ get_too.0.request two.message get_too.0.message get_too.0.get)
