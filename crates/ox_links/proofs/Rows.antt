-- Logs written by hand, and what they say that the toy server answered.
use Rattle.std.proofs.Common.{◌⊎◌, ◌≤◌, zero, suc, take, inl, inr, arith, ◌≡◌, ℕ, true, false, List, [], ◌∷◌, ◌++◌, refl}
use Rattle.ox_outside.specs.Event.{Event, Opened, Heard, Showed, GaveUp, Shut}
use Rattle.std.specs.Prelude.{All, None}
use Rattle.ox_outside.specs.Files.{Files}
use Rattle.ox_outside.specs.declared.site.Doorway.TheVariants.{Public, Operator}
use Rattle.ox_http.specs.Rows.{status_twice, closing_then_status}
use Rattle.ox_http.specs.Talk.{talk}
use Rattle.ox_http.proofs.Computed.{http_on_literals}
use Rattle.ox_links.specs.Counted.{requests_in, hits_in}
use Rattle.ox_links.specs.Link.{Answer, answers_to, reply_bytes, is_over}
use Rattle.ox_outside.specs.Shown.{acknowledgements}
use Rattle.ox_links.specs.Survives.{Survives}
use Rattle.ox_links.specs.Serving.{answer_of, Server, commands_in, served_by, state_after}
use Rattle.ox_links.proofs.Toy.{toy, ran, bytes_to, pages}

-- ---- a page, an operator's command, the page again, and a command of the public door
posts : List Event
posts =
    Opened 1 Public ∷ Opened 2 Operator ∷ Heard 1 (5 ∷ []) ∷ Showed 1 (1 ∷ 0 ∷ []) ∷ Heard 2 (0 ∷ []) ∷ Heard 1 (5 ∷ [])
    ∷ Showed 2 (200 ∷ 0 ∷ []) ∷ Showed 1 (1 ∷ 1 ∷ []) ∷ Heard 1 (0 ∷ []) ∷ []

posts_public : bytes_to 1 posts ≡ 1 ∷ 0 ∷ 1 ∷ 1 ∷ 103 ∷ []
unfolding posts
posts_public = refl

posts_operator : bytes_to 2 posts ≡ 200 ∷ 0 ∷ []
unfolding posts
posts_operator = refl

posts_commands : commands_in (ran posts).answers ≡ 0 ∷ []
unfolding posts
posts_commands = refl

posts_state : (ran posts).state ∷ state_after toy 0 (0 ∷ []) ∷ [] ≡ 1 ∷ 1 ∷ []
unfolding posts
posts_state = refl

-- ---- a fault of the stream, with which the link is over; a command that is refused is counted
faults : List Event
faults =
    Opened 1 Public ∷ Heard 1 (8 ∷ 5 ∷ []) ∷ Showed 1 (43 ∷ []) ∷ Shut 1 ∷ Opened 2 Operator ∷ Heard 2 (1 ∷ [])
    ∷ Showed 2 (109 ∷ []) ∷ []

faults_public : bytes_to 1 faults ≡ 43 ∷ []
unfolding faults
faults_public = refl

faults_over : is_over 1 faults (ran faults).answers ∷ is_over 2 faults (ran faults).answers ∷ [] ≡ true ∷ false ∷ []
unfolding faults
faults_over = refl

faults_operator : bytes_to 2 faults ≡ 109 ∷ []
unfolding faults
faults_operator = refl

faults_refused : (ran faults).commands ∷ (ran faults).accepted ∷ (ran faults).state ∷ requests_in (ran faults).answers ∷ [] ≡ 1 ∷ 0 ∷ 0 ∷ 1 ∷ []
unfolding faults
faults_refused = refl

-- ---- two requests in one hearing, as HTTP: the second is asked once the first reply is shown
http : Server ℕ ℕ
http = record toy { talk = talk }

http_to : List Event → List ℕ
http_to log = reply_bytes (answers_to 1 (served_by http 0 log).answers)

two_heard : http_to (Opened 1 Public ∷ Heard 1 status_twice ∷ []) ≡ 7 ∷ 0 ∷ []
unfolding http_on_literals http http_to
two_heard = refl

two_in_part : http_to (Opened 1 Public ∷ Heard 1 status_twice ∷ Showed 1 (7 ∷ []) ∷ []) ≡ 7 ∷ 0 ∷ []
unfolding http_on_literals http http_to
two_in_part = refl

two_shown : http_to (Opened 1 Public ∷ Heard 1 status_twice ∷ Showed 1 (7 ∷ 0 ∷ []) ∷ Showed 1 (7 ∷ 0 ∷ []) ∷ []) ≡ 7 ∷ 0 ∷ 7 ∷ 0 ∷ []
unfolding http_on_literals http http_to
two_shown = refl

-- ---- the first of them closes: one reply, and then the link is over
closing : List Event
closing = Opened 1 Public ∷ Heard 1 closing_then_status ∷ Showed 1 (7 ∷ 0 ∷ []) ∷ []

one_that_closes : http_to closing ≡ 7 ∷ 0 ∷ []
unfolding http_on_literals http http_to closing
one_that_closes = refl

closed : is_over 1 closing (served_by http 0 closing).answers ≡ true
unfolding http_on_literals http closing
closed = refl

-- ---- a page three times and another one: two hits; with a command in between, one
asked_again : List Event
asked_again = Opened 1 Public ∷ pages 1 0 (5 ∷ 5 ∷ 5 ∷ 6 ∷ [])

hits_again : requests_in (ran asked_again).answers ∷ hits_in (ran asked_again).answers ∷ [] ≡ 4 ∷ 2 ∷ []
unfolding asked_again
hits_again = refl

asked_between : List Event
asked_between =
    Opened 1 Public ∷ Opened 2 Operator ∷ pages 1 0 (5 ∷ 5 ∷ []) ++ Heard 2 (0 ∷ []) ∷ Showed 2 (200 ∷ 0 ∷ [])
    ∷ pages 1 1 (5 ∷ 6 ∷ [])

hits_between : requests_in (ran asked_between).answers ∷ hits_in (ran asked_between).answers ∷ [] ≡ 5 ∷ 1 ∷ []
unfolding asked_between
hits_between = refl

-- ---- out of memory: the command isn't carried out, and its link gets the 503 alone
gave_up : List Event
gave_up = Opened 2 Operator ∷ Heard 2 (0 ∷ 5 ∷ []) ∷ GaveUp 2 ∷ Showed 2 (53 ∷ []) ∷ Shut 2 ∷ []

gave_up_is : (ran gave_up).state ∷ (ran gave_up).commands ∷ requests_in (ran gave_up).answers ∷ bytes_to 2 gave_up ≡ 0 ∷ 0 ∷ 0 ∷ 53 ∷ []
unfolding gave_up
gave_up_is = refl

-- cut before the giving up, it is carried out
just_before : List Event
just_before = Opened 2 Operator ∷ Heard 2 (0 ∷ 5 ∷ []) ∷ []

just_before_is : (ran just_before).state ∷ (ran just_before).commands ∷ bytes_to 2 just_before ≡ 1 ∷ 1 ∷ 200 ∷ 0 ∷ []
unfolding just_before
just_before_is = refl

-- ---- a crash once a byte of a command's reply was shown
acknowledged : List Event
acknowledged = Opened 2 Operator ∷ Heard 2 (0 ∷ []) ∷ Showed 2 (200 ∷ []) ∷ []

-- files that tell a number
tells : Files → ℕ → Type 0
tells files n = files.a ≡ n ∷ []

-- files that tell the number before the command don't survive
not_before : Survives toy 0 tells acknowledged (record { a = 0 ∷ []; b = [] }) → ⊥
unfolding acknowledged tells acknowledgements
not_before survives = lost survives.kept survives.counted survives.stands_for (survives.acknowledged 2)
  where
    lost : (kept : ℕ) → (1 ≡ kept) ⊎ (1 ≡ suc kept) → 0 ∷ [] ≡ state_after toy 0 (take kept (0 ∷ [])) ∷ []
        → All (λ (a : Answer ℕ). a.commands ≤ kept) (answers_to 2 (ran acknowledged).answers) → ⊥
    lost zero counted stands all = absurd (let none : 1 ≤ 0 = all 0 (answer_of toy (ran []) 0 None) (omega arith) in omega (arith, none))
    lost (suc zero) counted stands all = absurd (cc stands)
    lost (suc (suc k)) (inl counted) stands all = absurd (omega (arith, counted))
    lost (suc (suc k)) (inr counted) stands all = absurd (omega (arith, counted))
