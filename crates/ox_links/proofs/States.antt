-- The state of a run is where the commands of its answers lead, all of them or the accepted ones.
use Rattle.std.proofs.Common.{◌≡◌, ◌∙◌, ℕ, ◌+◌, List, [], ◌∷◌, ◌++◌, length, Option, Some, None, if◌then◌else◌, refl, sym, ap, arith, length-append}
use Rattle.std.specs.Prelude.{unwrap_or, is_some}
use Rattle.std.specs.List.{cons_option}
use Rattle.std.proofs.lemmas.List.{append-nil}
use Rattle.std.proofs.lemmas.List.Elements.{filter_map-append}
use Rattle.ox_outside.specs.Event.{Event, channel_of}
use Rattle.ox_http.specs.Talk.{Message}
use Rattle.ox_links.specs.Link.{Answer}
use Rattle.ox_links.specs.Serving.{Server, Serving, start_at, answer_of, with_answer, with_event, after_event, serve_on, next_state, one_if, commands_in, accepted_command, accepted_in, state_after}
use Rattle.ox_links.proofs.Moments.{at_event}

-- commands behind others
state_after-append : {X C : Type 0} (server : Server X C) (state : X) (x y : List C) → state_after server state (x ++ y) ≡ state_after server (state_after server state x) y
state_after-append server state [] y = refl
state_after-append server state (c ∷ x) y = state_after-append server (unwrap_or (server.turn state c) state) x y

-- the state, the number and the list of commands that may be followed by one more
pub record Led {X C : Type 0} (server : Server X C) (first : X) (now : X) (n : ℕ) (commands : List C) : Type 0 where
  pub state : now ≡ state_after server first commands
  pub many : n ≡ length commands

-- of a run
pub record Leads {X C : Type 0} (server : Server X C) (first : X) (run : Serving X C) : Type 0 where
  pub all : Led server first run.state run.commands (commands_in run.answers)
  pub accepted : Led server first run.state run.accepted (accepted_in run.answers)

module _ {X C : Type 0} (server : Server X C) (first : X) where
  -- one more command, or none
  led-by : (state : X) (n : ℕ) (commands : List C) (o : Option C) → Led server first state n commands
      → Led server first (unwrap_or (next_state server state o) state) (n + one_if (is_some o)) (commands ++ cons_option o [])
  led-by state n commands None led = record { state = led.state ∙ ap (state_after server first) (sym (append-nil commands)); many = omega (arith, led.many, ap length (append-nil commands)) }
  led-by state n commands (Some c) led = record {
    state = ap (λ (s : X). unwrap_or (server.turn s c) s) led.state ∙ sym (state_after-append server first commands (c ∷ []));
    many = omega (arith, led.many, length-append commands (c ∷ []));
  }

  -- one more command, where it is accepted
  led-if : (state : X) (n : ℕ) (commands : List C) (o : Option C) → Led server first state n commands
      → Led server first (unwrap_or (next_state server state o) state) (n + one_if (is_some (next_state server state o))) (commands ++ cons_option (if is_some (next_state server state o) then o else None) [])
  led-if state n commands None led = led-by state n commands None led
  led-if state n commands (Some c) led = turned (server.turn state c) refl
    where
      turned : (t : Option X) → server.turn state c ≡ t → Led server first (unwrap_or t state) (n + one_if (is_some t)) (commands ++ cons_option (if is_some t then Some c else None) [])
      turned None is = record { state = led.state ∙ ap (state_after server first) (sym (append-nil commands)); many = omega (arith, led.many, ap length (append-nil commands)) }
      turned (Some x) is = record {
        state = ap (λ (t : Option X). unwrap_or t state) (sym is) ∙ ap (λ (s : X). unwrap_or (server.turn s c) s) led.state ∙ sym (state_after-append server first commands (c ∷ []));
        many = omega (arith, led.many, length-append commands (c ∷ []));
      }

  led-is : (state : X) (n : ℕ) (x y : List C) → x ≡ y → Led server first state n x → Led server first state n y
  led-is state n x y is led = record { state = led.state ∙ ap (state_after server first) is; many = led.many ∙ ap length is }

  -- one more answer
  pub leads_with : (run : Serving X C) (channel : ℕ) (m : Option Message) → Leads server first run → Leads server first (with_answer server run (Some (answer_of server run channel m)))
  leads_with run channel m leads = record {
    all = led-is _ _ _ _ (sym (filter_map-append (λ (a : Answer C). a.command) run.answers (a ∷ []))) (led-by run.state run.commands (commands_in run.answers) a.command leads.all);
    accepted = led-is _ _ _ _ (sym (filter_map-append accepted_command run.answers (a ∷ []))) (led-if run.state run.accepted (accepted_in run.answers) a.command leads.accepted);
  }
    where
      a : Answer C
      a = answer_of server run channel m

  pub after_event_leads : (run : Serving X C) (event : Event) (rest : List Event) → Leads server first run → Leads server first (after_event server run event rest)
  after_event_leads run event rest leads =
      at_event server now event rest (λ (o : Option (Answer C)). Leads server first (with_answer server now o))
      (λ up. is_so) (λ quiet. is_so) (λ m moment. leads_with now (channel_of event) m is_so)
    where
      now : Serving X C
      now = with_event run event

      is_so : Leads server first now
      is_so = record { all = leads.all; accepted = leads.accepted }

  pub serve_on_leads : (run : Serving X C) (log : List Event) → Leads server first run → Leads server first (serve_on server run log)
  serve_on_leads run [] leads = leads
  serve_on_leads run (event ∷ rest) leads = serve_on_leads (after_event server run event rest) rest (after_event_leads run event rest leads)

  pub start_leads : Leads server first (start_at first)
  start_leads = record { all = record { state = refl; many = refl }; accepted = record { state = refl; many = refl } }
