-- What a change of the outputs leaves of their facts.
use Rattle.std.proofs.Common.{◌≡◌, ◌∙◌, ℕ, refl, ap, sym, subst, List, [], ◌∷◌, Option, Some, None, Result, Ok, Err}
use Rattle.std.specs.Prelude.{IfErr, IsSomeAnd}
use Rattle.std.specs.FinMap.{empty, get, get-empty, insert}
use Rattle.ox_block.specs.declared.block.OutPoint.{OutPoint}
use Rattle.ox_rules.specs.declared.rows.OutRow.{OutRow}
use Rattle.ox_rules.specs.Outputs.{Outputs, MayStand, outpoint_cmp}
use Rattle.ox_outputs.specs.Slots.{SlotList, put_slot, undone, AreSpots}
use Rattle.ox_outputs.specs.declared.slot_of.SlotOf.{SlotOf}
use Rattle.ox_outputs.specs.Located.{StandOnce, LeadTo}
use Rattle.ox_outputs.specs.Sound.{AreSound}
use Rattle.ox_outputs.specs.declared.locator.Locator.{Locator}
use Rattle.ox_outputs.proofs.SlotLemmas.{get-put_slot}
use Rattle.ox_outputs.proofs.RowLemmas.{once_taken, once_placed, once_alike, begun_in}

pub undone_none : (before : List (Option OutRow)) (changed : List SlotOf) (outs : Outputs) → changed ≡ [] → undone before changed outs ≡ outs
undone_none [] changed outs none = refl
undone_none (row ∷ before) [] outs none = refl
undone_none (row ∷ before) (spot ∷ changed) outs none = absurd (cc none)

pub once_less : (outs outs' : Outputs) (at : OutPoint) → StandOnce outs → outs' ≡ put_slot outs at None → StandOnce outs'
once_less outs outs' at once is = once_taken outs outs' at once (λ q. ap (λ (o : Outputs). get o q) is ∙ get-put_slot outs at None q)

pub once_more : (outs outs' : Outputs) (at : OutPoint) (row : OutRow) → StandOnce outs → MayStand at row.sats outs → outs' ≡ insert outs at row → StandOnce outs'
once_more outs outs' at row once may is = once_placed outs outs' at row once may (λ q. ap (λ (o : Outputs). get o q) is ∙ get-put_slot outs at (Some row) q)

pub err_so : {A E : Type 0} {P Q : E → Type 0} (r : Result A E) → ((e : E) → P e → Q e) → IfErr r P → IfErr r Q
err_so (Ok x) more is = tt
err_so (Err e) more is = more e is

pub some_and : {X : Type 0} (P : X → Type 0) (o : Option X) (x : X) → o ≡ Some x → P x → IsSomeAnd o P
some_and P o x is holds = subst (λ (o : Option _). IsSomeAnd o P) (sym is) holds

pub and_so : {X : Type 0} (P : X → Type 0) (o : Option X) (x : X) → o ≡ Some x → IsSomeAnd o P → P x
and_so P o x is holds = subst (λ (o : Option _). IsSomeAnd o P) is holds

-- where the changes are written otherwise, all is as it was
pub sound_same : (slots : SlotList) (locator : Locator) (changed changed' : List SlotOf) (before before' : List (Option OutRow)) → AreSound slots locator changed before → changed' ≡ changed → before' ≡ before → AreSound slots locator changed' before'
sound_same slots locator changed changed' before before' sound spots rows =
    subst (λ (l : List (Option OutRow)). AreSound slots locator changed' l) (sym rows) (subst (λ (l : List SlotOf). AreSound slots locator l before) (sym spots) sound)

-- ---- no outputs, and no changes

pub none_once : (outs : Outputs) → outs ≡ empty → StandOnce outs
none_once outs none = once_alike empty outs (record {
  alone = λ at row sat is. absurd (none_there at row is);
  apart = λ a b r q sat differ is js. absurd (none_there a r is);
}) none where
  none_there : (at : OutPoint) (row : OutRow) → get (empty {X = OutRow} {R = outpoint_cmp}) at ≡ Some row → ⊥
  none_there at row is = absurd (cc (is, get-empty {X = OutRow} outpoint_cmp at))

pub none_runs : (live : ℕ → Option ℕ) (slots : SlotList) (outs : Outputs) → outs ≡ empty → LeadTo live slots outs
none_runs live slots outs is f at begun = absurd (let b = begun_in outs at f begun in none_in b.row (sym (get-empty {X = OutRow} outpoint_cmp at) ∙ ap (λ (o : Outputs). get o at) (sym is) ∙ b.there)) where
  none_in : (row : OutRow) → ◌≡◌ {A = Option OutRow} None (Some row) → ⊥
  none_in row is = absurd (cc is)

pub known_none : (spots : List SlotOf) (slots : SlotList) → spots ≡ [] → AreSpots spots slots
known_none [] slots none = refl
known_none (spot ∷ spots) slots none = absurd (cc none)
