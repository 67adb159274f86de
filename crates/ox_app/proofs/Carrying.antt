-- Turns over a site: those that make no call, and those of a line that asks for something.
use Rattle.std.proofs.Common.{◌≡◌, ◌∙◌, ◌≤◌, ◌+◌, ◌⊎◌, inr, refl, sym, ap, subst, arith, Option, Some, None}
use Rattle.std.specs.Prelude.{IsTrue, Result, Ok, Err, IfOk, IfErr, IfSome, IsErrOf}
use Rattle.ox_outside.specs.Crash.{Remains, AddsNothing}
use Rattle.ox_outside.specs.Runs.{LeavesOnly}
use Rattle.ox_outside.specs.declared.site.Site.{Ghosts as Meanings}
use Rattle.ox_outside.proofs.Calls.{looks_none}
use Rattle.ox_outside.proofs.Counts.{no_fault_yet, stops_at_none}
use Rattle.ox_gated.specs.Tail.{Holds}
use Rattle.ox_gated.specs.Writes.{OnlyWrites}
use Rattle.ox_gated.proofs.Writing.{writes_looking}
use Rattle.ox_gated.specs.declared.fault.Halt.TheVariants as halts
use Rattle.ox_files.specs.Stands.{stands}
use Rattle.ox_model.specs.Replies.{after_turn, index_on, reply_by}
use Rattle.ox_model.specs.Stack.{Stack}
use Rattle.ox_rules.specs.Text.{refusal_line}
use Rattle.ox_rules.specs.declared.refusal.Refusal.{Refusal}
use Rattle.ox_store.specs.Ready.{StandsForEither}
use Rattle.ox_store.specs.Store.{StoreContents}
use Rattle.ox_feed.specs.declared.command.Command.{Command}
use Rattle.ox_feed.specs.declared.lines.Line.{Line}
use Rattle.ox_feed.specs.declared.lines.Line.TheVariants.{Text, Long, End}
use Rattle.ox_app.specs.Apply.{CarriesOut, after_line}
use Rattle.ox_app.specs.Carry.{TakesTurn}
use Rattle.ox_app.specs.Fold.{AsksFor, turn_by}
use Rattle.ox_app.specs.Show.{DiskFails, EndsAtStop}
use Rattle.ox_app.proofs.AskedLines.{after_asked, answers_asked}
use Rattle.ox_app.proofs.Stops.{part_stops, part_went}
use Rattle.ox_app.specs.declared.carry.CarriedLine.{CarriedLine}
use Rattle.ox_app.specs.declared.stop.Stop.{Stop}
use Rattle.ox_app.specs.declared.stop.Stop.TheVariants.{Halt}
use Rattle.ox_app.proofs.CommandAnswers.{files_untouched}

-- an end out of memory is none of the disk's
pub memory_alone : {T : Type 0} (stop : Stop) → stop ≡ Halt halts.Memory → IsErrOf {T = T} (Err stop) (Halt halts.Disk) → ⊥
memory_alone stop is e =
    let same : stop ≡ Halt halts.Disk = cc e in
    let other : Halt halts.Memory ≡ Halt halts.Disk = sym is ∙ same in
    cc other

-- what `carry_out` promises of a line
pub record TakesLine {S : Type 0} (means : Meanings S) (store : StoreContents) (line : Line) (result : Result (Option CarriedLine) Stop) (old new : S) : Type 0 where
  pub carried : IfOk result (λ carried. CarriesOut line store.stack carried)
  pub one_more : IfOk result (λ carried. IfSome carried (λ c. c.store.commands ≤ store.commands + 1))
  pub holds : IsTrue (means.told old) → IfOk result (λ carried. IfSome carried (λ c. Holds means c.store.tail new))
  pub stands_for : IsTrue (means.told old) → stands (means.seen old) ≡ Ok store.stack → IfOk result (λ carried. IfSome carried (λ c. stands (means.seen new) ≡ Ok c.store.stack))
  pub any_moment : IsTrue (means.told old) → stands (means.seen old) ≡ Ok store.stack → LeavesOnly means old new (λ r. StandsForEither store.stack (after_line store.stack line) r.files)
  pub out_of_memory : IsErrOf result (Halt halts.Memory) → AddsNothing means.seen means.log means.may_leave old new
  pub stops : IfErr result (λ stop. (stop ≡ Halt halts.Disk) ⊎ (stop ≡ Halt halts.Memory))
  pub failed : IsErrOf result (Halt halts.Disk) → DiskFails means old new
  pub counted : EndsAtStop result (means.counts old) (means.counts new)
  pub writes : OnlyWrites means old new

-- only the end asks for nothing
pub ended_by : (line : Line) → AsksFor line None → line ≡ End
ended_by (Text l) asks = asks
ended_by Long asks = asks
ended_by End asks = asks

-- a line that asks for this
module _ {S : Type 0} (means : Meanings S) (store : StoreContents) (line : Line) (asked : Result Command Refusal) (asks : AsksFor line (Some asked)) where
  moments_asked : (old new : S) → LeavesOnly means old new (λ r. StandsForEither store.stack (after_turn store.stack (turn_by store.stack asked)) r.files)
      → LeavesOnly means old new (λ r. StandsForEither store.stack (after_line store.stack line) r.files)
  moments_asked old new moments = subst (λ (after : Stack). LeavesOnly means old new (λ r. StandsForEither store.stack after r.files)) (after_asked line asked store.stack asks) moments

  pub line_carried : (carried : CarriedLine) (old new : S) → TakesTurn means store (turn_by store.stack asked) (Ok carried) old new → TakesLine means store line (Ok (Some carried)) old new
  line_carried carried old new turn = record {
    carried = answers_asked line asked store.stack carried.store.stack carried.answer asks turn.answer turn.leads;
    one_more = turn.one_more;
    holds = turn.holds;
    stands_for = turn.stands_for;
    any_moment = λ told stood. moments_asked old new (turn.any_moment told stood);
    out_of_memory = λ e. cc e;
    stops = tt;
    failed = λ e. cc e;
    counted = stops_at_none _ _ _ _ _ (part_went _ _ _ turn.counted);
    writes = turn.writes;
  }

  pub line_stopped : (stop : Stop) (result : Result (Option CarriedLine) Stop) (old new : S) → result ≡ Err stop → TakesTurn means store (turn_by store.stack asked) (Err stop) old new
      → TakesLine means store line result old new
  line_stopped stop result old new is turn =
      let stopped : TakesLine means store line (Err stop) old new = record {
        carried = tt;
        one_more = tt;
        holds = λ told. tt;
        stands_for = λ told stood. tt;
        any_moment = λ told stood. moments_asked old new (turn.any_moment told stood);
        out_of_memory = λ e. turn.out_of_memory (let same : stop ≡ Halt halts.Memory = cc e in ap Err same);
        stops = turn.stops;
        failed = λ e. turn.failed (let same : stop ≡ Halt halts.Disk = cc e in ap Err same);
        counted = part_stops (let r : Result (Option CarriedLine) Stop = Err stop in r) stop _ _ _ refl (no_fault_yet (means.counts old)) turn.counted;
        writes = turn.writes;
      } in
      subst (λ (r : Result (Option CarriedLine) Stop). TakesLine means store line r old new) (sym is) stopped

module _ {S : Type 0} (means : Meanings S) (only_now : (site : S) (r : Remains) → means.left_since site (means.clock site) r → means.may_leave site r)
    (logs_now : (site : S) (r : Remains) → means.may_leave site r → means.log site ≡ Some r.log) (site : S) where
  pub writes_none : OnlyWrites means site site
  writes_none = writes_looking means logs_now site site (looks_none means only_now site)

  pub adds_nothing : AddsNothing means.seen means.log means.may_leave site site
  adds_nothing = record { files = refl; as_logged = refl; crash = λ r left. left }

  module _ (store : StoreContents) (holds : IsTrue (means.told site) → Holds means store.tail site) where
    -- there is no memory for it
    pub turn_without_memory : (turn : Result Stack Refusal) → TakesTurn means store turn (Err (Halt halts.Memory)) site site
    turn_without_memory turn = record {
      answer = tt;
      leads = tt;
      one_more = tt;
      holds = λ told. tt;
      stands_for = λ told stood. tt;
      any_moment = λ told stood. files_untouched means only_now site store.stack (after_turn store.stack turn) (holds told).settled stood;
      out_of_memory = λ is. adds_nothing;
      stops = inr refl;
      failed = λ e. absurd (memory_alone (Halt halts.Memory) refl e);
      counted = stops_at_none _ _ _ _ _ (no_fault_yet (means.counts site));
      writes = writes_none;
    }

    -- it is refused
    pub turn_refused : (turn : Result Stack Refusal) (refusal : Refusal) (kept : StoreContents) (result : Result CarriedLine Stop) → turn ≡ Err refusal → kept ≡ store
        → IfOk result (λ carried. carried.store ≡ kept) → IfOk result (λ carried. carried.answer ≡ refusal_line refusal) → IfErr result (λ stop. stop ≡ Halt halts.Memory)
        → TakesTurn means store turn result site site
    turn_refused turn refusal kept (Ok carried) refused same stays says none =
        let is : carried.store ≡ store = stays ∙ same in
        record {
          answer = says ∙ ap (reply_by index_on) (sym refused);
          leads = ap (λ (s : StoreContents). s.stack) is ∙ ap (after_turn store.stack) (sym refused);
          one_more = let commands = ap (λ (s : StoreContents). s.commands) is in omega (arith, commands);
          holds = λ told. subst (λ (s : StoreContents). Holds means s.tail site) (sym is) (holds told);
          stands_for = λ told stood. stood ∙ ap (λ (s : StoreContents). Ok s.stack) (sym is);
          any_moment = λ told stood. files_untouched means only_now site store.stack (after_turn store.stack turn) (holds told).settled stood;
          out_of_memory = λ e. adds_nothing;
          stops = tt;
          failed = λ e. cc e;
          counted = stops_at_none _ _ _ _ _ (no_fault_yet (means.counts site));
          writes = writes_none;
        }
    turn_refused turn refusal kept (Err stop) refused same stays says is =
        subst (λ (s : Stop). TakesTurn means store turn (Err s) site site) (sym is) (turn_without_memory turn)

    -- a line whose answer finds no memory, and the end of a feed
    module _ (line : Line) where
      pub line_without_memory : (result : Result (Option CarriedLine) Stop) → result ≡ Err (Halt halts.Memory) → TakesLine means store line result site site
      line_without_memory result is =
          let stopped : TakesLine means store line (Err (Halt halts.Memory)) site site = record {
            carried = tt;
            one_more = tt;
            holds = λ told. tt;
            stands_for = λ told stood. tt;
            any_moment = λ told stood. files_untouched means only_now site store.stack (after_line store.stack line) (holds told).settled stood;
            out_of_memory = λ e. adds_nothing;
            stops = inr refl;
            failed = λ e. absurd (memory_alone (Halt halts.Memory) refl e);
            counted = stops_at_none _ _ _ _ _ (no_fault_yet (means.counts site));
            writes = writes_none;
          } in
          subst (λ (r : Result (Option CarriedLine) Stop). TakesLine means store line r site site) (sym is) stopped

      pub line_ended : line ≡ End → TakesLine means store line (Ok None) site site
      line_ended is = record {
        carried = is;
        one_more = tt;
        holds = λ told. tt;
        stands_for = λ told stood. tt;
        any_moment = λ told stood. files_untouched means only_now site store.stack (after_line store.stack line) (holds told).settled stood;
        out_of_memory = λ e. adds_nothing;
        stops = tt;
        failed = λ e. cc e;
        counted = stops_at_none _ _ _ _ _ (no_fault_yet (means.counts site));
        writes = writes_none;
      }
