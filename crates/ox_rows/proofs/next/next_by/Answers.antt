use Rattle.std.proofs.Common.{ℕ, List, sym, subst, ◌∙◌}
use Rattle.ox_bytes.specs.Reading.{Fails}
use Rattle.ox_rows.proofs.Ahead.{read_ahead}
use Rattle.ox_rows.proofs.next.next_by.Goals as goal

-- what is read of the window is read of all that is ahead
pub returns-in-Ok : goal.returns-in-Ok
returns-in-Ok g c = record {
  read = λ bytes before.
      rw c.keep.ensures (read_ahead (g.B.Reads.at c.args.by) (g.met.B.Reads.fronts c.args.by) c.loop-value.window bytes c.in-Ok.value c.in-Ok.left (rw c.as_slice.ensures at c.in-Ok.ensures.read) (c.loop-value.invariant.ahead bytes before));
  ready = c.loop-value.invariant.ready;
  calls = c.loop-value.invariant.went;
}

-- where nothing is to come, the window is all that is ahead
pub returns-in-Ok-false : goal.returns-in-Ok-false
returns-in-Ok-false g c = record {
  read = λ bytes before.
      let on = c.in-Ok-false.ensures.ahead bytes (c.loop-value.invariant.ahead bytes before) in
      subst (λ (all : List ℕ). Fails c.in-Err.error (g.B.Reads.at c.args.by all)) (c.as_slice.ensures ∙ sym (on.none c.in-Ok-false.field-0-test)) c.in-Err.ensures.read;
  ready = tt;
  calls = g.met.S.Source.then_went _ _ _ _ _ _ c.loop-value.invariant.went c.in-Ok-false.ensures.went;
}
