use Rattle.std.proofs.Common.{◌∙◌, ◌∷◌, ◌++◌, [], ℕ, ap, sym, List, Option, Some, subst}
use Rattle.std.specs.Option.{option_and_then}
use Rattle.ox_outputs.specs.Packed.{IsPlace}
use Rattle.ox_outputs.specs.declared.starts.Before.{Before}
use Rattle.ox_outputs.proofs.StartLemmas.{back_again, flat_is, flat_place, logged_more, logged_same, noted_none, slot_set}
use Rattle.ox_outputs.proofs.starts.put_run.Goals as goal

pub returns-in_err-stood-clause-noted : goal.returns-in_err-stood-clause-noted
returns-in_err-stood-clause-noted c = noted_none c.args.changes.now.items c.reserve.new.self.items c.args.starts.now c.put.new.self c.in_ok-reserve.ensures.items c.in_err-stood.ensures.err

pub returns-in_err-stood-clause-logged : goal.returns-in_err-stood-clause-logged
returns-in_err-stood-clause-logged c = logged_same c.args.changes.now.items c.reserve.new.self.items c.args.starts.now c.put.new.self c.in_ok-reserve.ensures.items c.in_err-stood.ensures.err c.requires.logged

pub returns-clause-ok : goal.returns-clause-ok
returns-clause-ok c = λ q. slot_set c.args.starts.now c.put.new.self c.args.first (Some c.args.slot) c.in_ok-stood.ensures.ok q

pub returns-clause-noted : goal.returns-clause-noted
returns-clause-noted c =
    let change : Before = record { first = c.args.first; slot = c.flatten-stood.result } in record {
      added = change ∷ [];
      behind = c.push_reserved.ensures.items ∙ ap (λ (l : List Before). l ++ change ∷ []) c.in_ok-reserve.ensures.items;
      back = back_again c.args.starts.now c.put.new.self c.args.first (Some c.args.slot) c.flatten-stood.result c.in_ok-stood.ensures.ok
          (c.flatten-stood.ensures ∙ flat_is c.in_ok-stood.stood ∙ ap (option_and_then (λ (s : Option ℕ). s)) c.in_ok-stood.ensures.stood);
    }

pub returns-clause-logged : goal.returns-clause-logged
returns-clause-logged c =
    let change : Before = record { first = c.args.first; slot = c.flatten-stood.result } in
    logged_more c.args.changes.now.items c.push_reserved.new.self.items change c.args.starts.now c.put.new.self (Some c.args.slot)
    (c.push_reserved.ensures.items ∙ ap (λ (l : List Before). l ++ change ∷ []) c.in_ok-reserve.ensures.items)
    c.in_ok-stood.ensures.ok (subst IsPlace (sym c.flatten-stood.ensures) (flat_place c.in_ok-stood.stood c.in_ok-stood.ensures.place)) c.requires.logged
