-- A change ends or begins in an index where the test says so.
use Rattle.std.proofs.Common.{◌≡◌, ◌∙◌, ℕ, ◌-◌, Bool, true, false, List, [], ◌∷◌, ◌++◌, length, take, drop, refl, sym, ap, subst, arith}
use Rattle.std.specs.Prelude.{◌==◌, ◌&&◌, ◌↔◌, IsTrue, bytes_eq}
use Rattle.std.specs.Bool.{Decides}
use Rattle.std.specs.List.{ends_with}
use Rattle.std.proofs.lemmas.Bool.Decides.{Decides-eqb}
use Rattle.std.proofs.lemmas.Slice.Eq.{bytes_eq-Decides, ends_is}
use Rattle.std.proofs.lemmas.List.{drop_at, length-take-le, take-append-drop}
use Rattle.ox_rules.specs.Differences.{reverse_of}
use Rattle.ox_rules.proofs.DifferenceLemmas.{from_the_other}
use Rattle.ox_rules.proofs.Orders.{outpoints_total, outpoints_exact}
use Rattle.ox_etching.specs.declared.row.RuneRow.{RuneRow}
use Rattle.ox_ledger.specs.declared.part.RunePart.{RunePart}
use Rattle.ox_ledger.specs.Part.{Continues, IsPart, balances_of, changes_from, counts_at, earlier_end, later_end, rows_at_end}
use Rattle.ox_ledger.specs.Runes.{Runes}
use Rattle.ox_ledger.proofs.MoveLemmas.{length-rows}
use Rattle.ox_model.specs.Change.{IsChange, outputs_changed, redone, undone}
use Rattle.ox_model.specs.Index.{Index, runes_of}
use Rattle.ox_model.specs.declared.change.Change.{Change}
use Rattle.ox_plain.specs.Same.{same_balances, same_inscription, same_output, same_rune}
use Rattle.ox_plain.specs.Ends.{begins_in, counts_stand, difference_ends, earlier_runes, ends_in, part_begins, part_ends}
use Rattle.ox_plain.proofs.SameLemmas.{same_balances-Decides, same_inscription-Decides, same_output-Decides, same_rune-Decides}
use Rattle.ox_plain.proofs.DifferenceEnds.{both_true, differ_ends, ends_differ, first_true, second_true}
use Rattle.ox_plain.proofs.CountEnds.{changes_within_front, goes_on_after, goes_on_before, stand_after, stand_before}

-- a list ends with others exactly where it is what stands before so many, and these
list_ends : {A : Type 0} {E : A → A → Bool} → ((a b : A) → Decides (E a b) (a ≡ b)) → (whole tail : List A) → Decides (ends_with E whole tail) (whole ≡ take (length whole - length tail) whole ++ tail)
list_ends {E = E} decides whole tail =
    let ends = ends_is decides whole tail (ends_with E whole tail) refl in
    (ends.0, λ is. ends.1 (take (length whole - length tail) whole) is)

-- ---- runes

abbrev before_of : Runes → RunePart → List RuneRow
before_of after part = rows_at_end (counts_at true) part.counts 0 (earlier_runes after.runes part)

abbrev after_of : Runes → RunePart → List RuneRow
after_of before part = rows_at_end (counts_at false) part.counts 0 before.runes

-- a part leads to a state
record Leads (before after : Runes) (part : RunePart) : Type 0 where
  continues : Continues before.runes after.runes
  is : IsPart before after part

ends_lead : (after : Runes) (part : RunePart) → part_ends after part ≡ true → Leads (earlier_end after part) after part
ends_lead after part is =
    let rows = earlier_runes after.runes part in
    let before = before_of after part in
    let ends = ends_with same_rune after.runes part.appended in
    let stand = counts_stand (counts_at false) rows part.counts in
    let rest = second_true (difference_ends same_balances after.bal (balances_of part)) (ends && stand) is in
    let whole : after.runes ≡ rows ++ part.appended = (list_ends same_rune-Decides after.runes part.appended).0 (first_true ends stand rest) in
    let long : length before ≡ length rows = length-rows (counts_at true) part.counts 0 rows in
    let counts : part.counts ≡ changes_from 0 before rows = (stand_after rows part.counts).0 (second_true ends stand rest) in
    record {
      continues = subst (Continues before) (sym whole) (goes_on_after 0 part.counts rows part.appended);
      is = record {
        balances = ends_differ outpoints_total outpoints_exact same_balances same_balances-Decides after.bal (balances_of part)
            (first_true (difference_ends same_balances after.bal (balances_of part)) (ends && stand) is);
        counts = counts ∙ sym (changes_within_front 0 before rows part.appended long) ∙ ap (changes_from 0 before) (sym whole);
        appended = sym (drop_at rows part.appended (length before) (sym long)) ∙ ap (drop (length before)) (sym whole);
      };
    }

-- how many runes there were before
fewer : (after : Runes) (part : RunePart) → length (before_of after part) ≡ length after.runes - length part.appended
fewer after part =
    length-rows (counts_at true) part.counts 0 (earlier_runes after.runes part)
    ∙ length-take-le (length after.runes - length part.appended) after.runes (omega arith)

lead_ends : (after : Runes) (part : RunePart) → IsPart (earlier_end after part) after part → part_ends after part ≡ true
lead_ends after part is =
    let rows = earlier_runes after.runes part in
    let before = before_of after part in
    let appended : part.appended ≡ drop (length after.runes - length part.appended) after.runes = is.appended ∙ ap (λ (n : ℕ). drop n after.runes) (fewer after part) in
    let whole : after.runes ≡ rows ++ part.appended =
    sym (take-append-drop (length after.runes - length part.appended) after.runes) ∙ ap (λ (tail : List RuneRow). rows ++ tail) (sym appended) in
    let long : length before ≡ length rows = length-rows (counts_at true) part.counts 0 rows in
    let counts : part.counts ≡ changes_from 0 before rows = is.counts ∙ ap (changes_from 0 before) whole ∙ changes_within_front 0 before rows part.appended long in
    both_true _ _ (differ_ends outpoints_total outpoints_exact same_balances same_balances-Decides (earlier_end after part).bal after.bal (balances_of part) is.balances)
    (both_true _ _ ((list_ends same_rune-Decides after.runes part.appended).1 whole) ((stand_after rows part.counts).1 counts))

begins_lead : (before : Runes) (part : RunePart) → part_begins before part ≡ true → Leads before (later_end before part) part
begins_lead before part is =
    let rows = before.runes in
    let after = after_of before part in
    let differs = difference_ends same_balances before.bal (reverse_of (balances_of part)) in
    let long : length after ≡ length rows = length-rows (counts_at false) part.counts 0 rows in
    let counts : part.counts ≡ changes_from 0 rows after = (stand_before rows part.counts).0 (second_true differs _ is) in
    record {
      continues = goes_on_before 0 part.counts rows part.appended;
      is = record {
        balances = from_the_other (later_end before part).bal before.bal (reverse_of (balances_of part))
            (ends_differ outpoints_total outpoints_exact same_balances same_balances-Decides before.bal (reverse_of (balances_of part)) (first_true differs _ is));
        counts = counts ∙ sym (changes_within_front 0 rows after part.appended (sym long));
        appended = sym (drop_at after part.appended (length rows) long);
      };
    }

lead_begins : (before : Runes) (part : RunePart) → IsPart before (later_end before part) part → part_begins before part ≡ true
lead_begins before part is =
    let rows = before.runes in
    let after = after_of before part in
    let long : length after ≡ length rows = length-rows (counts_at false) part.counts 0 rows in
    let counts : part.counts ≡ changes_from 0 rows after = is.counts ∙ changes_within_front 0 rows after part.appended (sym long) in
    both_true _ _
    (differ_ends outpoints_total outpoints_exact same_balances same_balances-Decides (later_end before part).bal before.bal (reverse_of (balances_of part))
    (from_the_other before.bal (later_end before part).bal (balances_of part) is.balances))
    ((stand_before rows part.counts).1 counts)

-- ---- indexes

ends_change : (index : Index) (change : Change) → ends_in index change ≡ true → IsChange (undone index change) index change
ends_change index change is =
    let hash = ends_with bytes_eq index.hashes (change.hash ∷ []) in
    let outs = difference_ends same_output index.outs (outputs_changed change) in
    let inscriptions = ends_with same_inscription index.inscriptions change.inscriptions in
    let part = part_ends (runes_of index) change.runes in
    let lost = ends_with ◌==◌ index.lost change.lost in
    let is_2 = second_true hash (outs && (inscriptions && (part && lost))) is in
    let is_3 = second_true outs (inscriptions && (part && lost)) is_2 in
    let is_4 = second_true inscriptions (part && lost) is_3 in
    let differs = ends_differ outpoints_total outpoints_exact same_output same_output-Decides index.outs (outputs_changed change) (first_true outs (inscriptions && (part && lost)) is_2) in
    let leads = ends_lead (runes_of index) change.runes (first_true part lost is_4) in
    record {
      hash = (list_ends bytes_eq-Decides index.hashes (change.hash ∷ [])).0 (first_true hash (outs && (inscriptions && (part && lost))) is);
      gone = differs.gone;
      came = differs.came;
      lost = (list_ends Decides-eqb index.lost change.lost).0 (second_true part lost is_4);
      inscriptions = (list_ends same_inscription-Decides index.inscriptions change.inscriptions).0 (first_true inscriptions (part && lost) is_3);
      continues = leads.continues;
      runes = leads.is;
    }

change_ends : (index : Index) (change : Change) → IsChange (undone index change) index change → ends_in index change ≡ true
change_ends index change is =
    both_true _ _ ((list_ends bytes_eq-Decides index.hashes (change.hash ∷ [])).1 is.hash)
    (both_true _ _
    (differ_ends outpoints_total outpoints_exact same_output same_output-Decides (undone index change).outs index.outs (outputs_changed change) (record { gone = is.gone; came = is.came }))
    (both_true _ _ ((list_ends same_inscription-Decides index.inscriptions change.inscriptions).1 is.inscriptions)
    (both_true _ _ (lead_ends (runes_of index) change.runes is.runes) ((list_ends Decides-eqb index.lost change.lost).1 is.lost))))

begins_change : (index : Index) (change : Change) → begins_in index change ≡ true → IsChange index (redone index change) change
begins_change index change is =
    let outs = difference_ends same_output index.outs (reverse_of (outputs_changed change)) in
    let part = part_begins (runes_of index) change.runes in
    let differs = from_the_other (redone index change).outs index.outs (reverse_of (outputs_changed change))
    (ends_differ outpoints_total outpoints_exact same_output same_output-Decides index.outs (reverse_of (outputs_changed change)) (first_true outs part is)) in
    let leads = begins_lead (runes_of index) change.runes (second_true outs part is) in
    record {
      hash = refl;
      gone = differs.gone;
      came = differs.came;
      lost = refl;
      inscriptions = refl;
      continues = leads.continues;
      runes = leads.is;
    }

change_begins : (index : Index) (change : Change) → IsChange index (redone index change) change → begins_in index change ≡ true
change_begins index change is =
    both_true _ _
    (differ_ends outpoints_total outpoints_exact same_output same_output-Decides (redone index change).outs index.outs (reverse_of (outputs_changed change))
    (from_the_other index.outs (redone index change).outs (outputs_changed change) (record { gone = is.gone; came = is.came })))
    (lead_begins (runes_of index) change.runes is.runes)

pub ends : (index : Index) (change : Change) → IsTrue (ends_in index change) ↔ IsChange (undone index change) index change
ends index change = (ends_change index change, change_ends index change)

pub begins : (index : Index) (change : Change) → IsTrue (begins_in index change) ↔ IsChange index (redone index change) change
begins index change = (begins_change index change, change_begins index change)
