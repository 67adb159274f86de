use Rattle.std.proofs.Common.{◌∙◌, ◌++◌, List, ℕ, ap, refl, sym}
use Rattle.ox_checkpoint.proofs.ComingLemmas.{is_ahead}
use Rattle.ox_checkpoint.proofs.coming.body_from.Goals as goal

pub returns-in-Ok : goal.returns-in-Ok
returns-in-Ok g c = record {
  body = λ bytes comes. c.in-Ok.ensures.body bytes (is_ahead _ c.new-window.result bytes c.new-window.ensures comes);
  went = c.in-Ok.ensures.calls;
  ended = tt;
}

pub returns-in-Err-Read-Fault : goal.returns-in-Err-Read-Fault
returns-in-Err-Read-Fault g c = record {
  body = λ bytes comes. sym (rw c.in-Err-Read-Fault.field-0-0-is at (rw c.in-Err-Read-Fault.field-0-is at (c.in-Err-Read-Fault.ensures.none bytes (is_ahead _ c.new-window.result bytes c.new-window.ensures comes))));
  went = rw c.in-Err-Read-Fault.field-0-is at c.in-Err-Read-Fault.ensures.calls;
  ended = tt;
}

pub returns-in-Err-Read-Memory : goal.returns-in-Err-Read-Memory
returns-in-Err-Read-Memory g c = record { body = λ bytes comes. tt; went = tt; ended = rw c.in-Err-Read-Memory.field-0-is at c.in-Err-Read-Memory.ensures.calls }

pub returns : goal.returns
returns g c = record { body = λ bytes comes. tt; went = tt; ended = rw c.in-Err-Source.field-0-is at c.in-Err-Source.ensures.calls }
