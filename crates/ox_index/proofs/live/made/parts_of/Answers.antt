use Rattle.std.proofs.Common.{◌∙◌, ◌≤◌, refl, sym, ap, subst}
use Rattle.std.specs.BTreeMap.{BTreeMap}
use Rattle.std.specs.FinMap.{from_entries}
use Rattle.ox_block.specs.declared.block.OutPoint.{OutPoint}
use Rattle.ox_rules.specs.Outputs.{outpoint_cmp, sats_held, times}
use Rattle.ox_rules.specs.declared.rows.OutRow.{OutRow}
use Rattle.ox_ledger.specs.Balanced.{Balanced}
use Rattle.ox_ledger.specs.Ledger.{mark_in}
use Rattle.ox_ledger.specs.Runes.{Runes}
use Rattle.ox_index.specs.Tables.{state_of}
use Rattle.ox_index.proofs.Marks.{undue_begun}
use Rattle.ox_index.proofs.live.made.parts_of.Goals as goal

pub outputs_of-requires : goal.outputs_of-requires
outputs_of-requires c = λ sat. subst (λ (t : BTreeMap OutPoint OutRow). times sat (sats_held (from_entries {R = outpoint_cmp} t.entries)) ≤ 1) (sym c.replace-outs.ensures.value) (c.requires.once sat)

pub ledger_of-requires : goal.ledger_of-requires
ledger_of-requires c = subst Balanced (λ i. state_of (sym c.replace-bal.ensures.value i).entries (sym c.replace-runes.ensures.value i)) c.requires.balanced

pub invariant_of-result : goal.invariant_of-result
invariant_of-result c =
    let state = state_of c.replace-bal.result.entries c.replace-runes.result in record {
      known = c.requires.known;
      counted = c.in_ok-ledger.ensures.profile;
      numbered = c.in_ok-shelf.ensures.jubilee;
      undue = ap (λ (r : Runes). r.due) c.in_ok-ledger.ensures.runes;
      undue_then = undue_begun (mark_in c.in_ok-ledger.ledger) state c.in_ok-ledger.ensures.mark refl;
    }

pub returns-clause-held : goal.returns-clause-held
returns-clause-held c =
    let outs = c.in_ok-outputs.ensures ∙ ap (λ (t : BTreeMap OutPoint OutRow). from_entries {R = outpoint_cmp} t.entries) c.replace-outs.ensures.value in
    let rows = c.in_ok-shelf.ensures.rows ∙ c.replace-inscriptions.ensures.value in
    let runes = c.in_ok-ledger.ensures.runes ∙ (λ i. state_of (c.replace-bal.ensures.value i).entries (c.replace-runes.ensures.value i)) in
    λ i. record { outs = outs i; inscriptions = rows i; runes = runes i }
