use Rattle.std.proofs.Common.{Bool, Ok, ap, sym, ◌∙◌}
use Rattle.ox_rows.proofs.Ahead.{end_is}
use Rattle.ox_rows.proofs.next.is_at_end.Goals as goal

pub returns-in-Ok : goal.returns-in-Ok
returns-in-Ok g c = record {
  read = λ bytes before.
      let on = c.in-Ok.ensures.ahead bytes before in
      (bytes, on.ahead, ap (λ (end : Bool). Ok (end, bytes)) (end_is c.args.window.now bytes c.in-Ok.came c.lengthen.new.self (sym c.is_empty.ensures ∙ c.if-not-is_empty.false) on));
  ready = c.in-Ok.ensures.ready;
  calls = c.in-Ok.ensures.went;
}
