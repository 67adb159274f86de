-- Two indexes have one change, which with either gives the other.
use Rattle.std.proofs.Common.{◌≡◌, ◌∙◌, ◌-◌, ℕ, List, [], ◌∷◌, ◌++◌, length, drop, take, refl, sym, ap, arith, length-append}
use Rattle.std.proofs.lemmas.List.{drop_at, take_at}
use Rattle.ox_rules.specs.Differences.{Differ, reverse_of}
use Rattle.ox_rules.proofs.DifferenceLemmas.{some_differences, one_of_outputs, go_back, from_the_other}
use Rattle.ox_inscribe.specs.declared.row.InsRow.{InsRow}
use Rattle.ox_ledger.specs.Part.{Continues, earlier_end, later_end}
use Rattle.ox_ledger.proofs.PartLemmas.{some_part, one_part, part_back, part_forth}
use Rattle.ox_model.specs.Change.{IsChange, outputs_changed, redone, undone}
use Rattle.ox_model.specs.Index.{Index, runes_of}
use Rattle.ox_model.specs.declared.change.Change.{Change}

pub outputs_differ : (before after : Index) (change : Change) → IsChange before after change → Differ before.outs after.outs (outputs_changed change)
outputs_differ before after change is = record { gone = is.gone; came = is.came }

pub some_change : (before after : Index) (hash : List ℕ) (lost : List ℕ) (inscriptions : List InsRow) → after.hashes ≡ before.hashes ++ hash ∷ []
    → after.lost ≡ before.lost ++ lost → after.inscriptions ≡ before.inscriptions ++ inscriptions → Continues before.runes after.runes
    → (change : Change) × IsChange before after change
some_change before after hash lost inscriptions longer more reveals continues =
    let some = some_differences before.outs after.outs in
    let part = some_part (runes_of before) (runes_of after) in (
      record { hash = hash; gone = some.0.gone; came = some.0.came; lost = lost; inscriptions = inscriptions; runes = part.0 },
      record {
        hash = longer;
        gone = some.1.gone;
        came = some.1.came;
        lost = more;
        inscriptions = reveals;
        continues = continues;
        runes = part.1;
      },
    )

same_behind : {X : Type 0} (front a b : List X) → front ++ a ≡ front ++ b → a ≡ b
same_behind {X = X} front a b is =
    sym (drop_at front a (length front) refl) ∙ ap (λ (l : List X). drop (length front) l) is ∙ drop_at front b (length front) refl

-- the hash, the lost satoshis and the inscriptions are what stands behind those before
pub one_change : (before after : Index) (a b : Change) → IsChange before after a → IsChange before after b → a ≡ b
one_change before after a b is is' =
    let outs = one_of_outputs before.outs after.outs (outputs_changed a) (outputs_changed b) (outputs_differ before after a is) (outputs_differ before after b is') in
    let hashes : a.hash ∷ [] ≡ b.hash ∷ [] = same_behind before.hashes (a.hash ∷ []) (b.hash ∷ []) (sym is.hash ∙ is'.hash) in
    let hash : a.hash ≡ b.hash = cc hashes in
    let lost : a.lost ≡ b.lost = same_behind before.lost a.lost b.lost (sym is.lost ∙ is'.lost) in
    let inscriptions : a.inscriptions ≡ b.inscriptions = same_behind before.inscriptions a.inscriptions b.inscriptions (sym is.inscriptions ∙ is'.inscriptions) in
    let runes : a.runes ≡ b.runes = one_part (runes_of before) (runes_of after) a.runes b.runes is.runes is'.runes in
    λ i. record { hash = hash i; gone = (outs i).gone; came = (outs i).came; lost = lost i; inscriptions = inscriptions i; runes = runes i }

front_of : {X : Type 0} (whole front rest : List X) (n : ℕ) → whole ≡ front ++ rest → length whole - n ≡ length front → take (length whole - n) whole ≡ front
front_of whole front rest n is many = rw (many, is) (take_at front rest (length front) refl)

pub goes_undone : (before after : Index) (change : Change) → IsChange before after change → undone after change ≡ before
goes_undone before after change is =
    let hashes : take (length after.hashes - 1) after.hashes ≡ before.hashes =
    front_of after.hashes before.hashes (change.hash ∷ []) 1 is.hash (omega (arith, ap (λ (l : List (List ℕ)). length l) is.hash, length-append before.hashes (change.hash ∷ []))) in
    let lost : take (length after.lost - length change.lost) after.lost ≡ before.lost =
    front_of after.lost before.lost change.lost (length change.lost) is.lost (omega (arith, ap (λ (l : List ℕ). length l) is.lost, length-append before.lost change.lost)) in
    let inscriptions : take (length after.inscriptions - length change.inscriptions) after.inscriptions ≡ before.inscriptions =
    front_of after.inscriptions before.inscriptions change.inscriptions (length change.inscriptions) is.inscriptions
    (omega (arith, ap (λ (l : List InsRow). length l) is.inscriptions, length-append before.inscriptions change.inscriptions)) in
    let outs = go_back before.outs after.outs (outputs_changed change) (outputs_differ before after change is) in
    let runes : earlier_end (runes_of after) change.runes ≡ runes_of before = part_back (runes_of before) (runes_of after) change.runes is.continues refl is.runes in
    λ i. record { hashes = hashes i; outs = outs i; lost = lost i; inscriptions = inscriptions i; bal = (runes i).bal; runes = (runes i).runes }

pub goes_redone : (before after : Index) (change : Change) → IsChange before after change → redone before change ≡ after
goes_redone before after change is =
    let outs = go_back after.outs before.outs (reverse_of (outputs_changed change))
    (from_the_other before.outs after.outs (outputs_changed change) (outputs_differ before after change is)) in
    let runes : later_end (runes_of before) change.runes ≡ runes_of after = part_forth (runes_of before) (runes_of after) change.runes is.continues refl is.runes in
    λ i. record {
      hashes = sym is.hash i;
      outs = outs i;
      lost = sym is.lost i;
      inscriptions = sym is.inscriptions i;
      bal = (runes i).bal;
      runes = (runes i).runes;
    }
