-- Tables of plain data, emptied into an index in memory.
use Rattle.std.proofs.Common.{◌≡◌, ◌∙◌, ◌≢◌, ◌⊎◌, inl, inr, ℕ, ◌<◌, ◌≤◌, Bool, true, false, cond, List, [], ◌∷◌, length, refl, sym, ap, subst, arith, Option, Some, None, Ordering}
use Rattle.std.specs.Ordering.{eq_by_cmp, is_eq}
use Rattle.std.specs.declared.cmp.Ordering.TheVariants.{Less, Equal, Greater}
use Rattle.std.specs.Map.{lookup}
use Rattle.std.specs.BTreeMap.{is_at}
use Rattle.std.specs.FinMap.{empty, find, from_entries, get, get-empty, get-from_entries, get-insert, get-remove, insert, is_sorted, remove, same_map}
use Rattle.ox_block.specs.declared.block.OutPoint.{OutPoint}
use Rattle.ox_rules.specs.Differences.{AreGone}
use Rattle.ox_rules.specs.Outputs.{MayStand, Outputs, outpoint_cmp, sats_held, times}
use Rattle.ox_rules.specs.declared.rows.OutRow.{OutRow}
use Rattle.ox_rules.proofs.Conservation.{times_held}
use Rattle.ox_rules.proofs.MapSums.{itself, total_remove}
use Rattle.ox_rules.proofs.Orders.{outpoints_exact, outpoints_total}
use Rattle.ox_transfer.proofs.Once.{at_most_one, row_held}
use Rattle.ox_etching.specs.declared.row.RuneRow.{RuneRow}
use Rattle.ox_ledger.specs.Balanced.{Balanced}
use Rattle.ox_ledger.specs.Moves.{Begins, Leads}
use Rattle.ox_ledger.specs.Part.{IsPart, changes_from, later_end}
use Rattle.ox_ledger.specs.declared.part.RunePart.{RunePart}
use Rattle.ox_ledger.proofs.PartLemmas.{part_forth}
use Rattle.ox_ledger.specs.Runes.{Placement, Runes}
use Rattle.ox_ledger.specs.Tables.{nothing}
use Rattle.ox_model.specs.Index.{Index}
use Rattle.ox_model.specs.Sound.{IsSound}
use Rattle.ox_sat.specs.Heights.{first_at}
use Rattle.ox_sat.specs.declared.profiles.Profile.{Profile}
use Rattle.ox_index.specs.Tables.{state_of}
use Rattle.ox_index.proofs.Steps.{holds_once}
use Rattle.ox_index.proofs.Filling.{looked_up}

abbrev Rows : Type 0
Rows = List (OutPoint × OutRow)

tie : (r : Ordering) → is_eq r ≡ true → r ≡ Equal
tie Less is = absurd (cc is)
tie Equal is = refl
tie Greater is = absurd (cc is)

pub same_key : (q at : OutPoint) → eq_by_cmp outpoint_cmp q at ≡ true → q ≡ at
same_key q at is = outpoints_exact q at (tie (outpoint_cmp q at) is)

other_key : (q at : OutPoint) → q ≢ at → eq_by_cmp outpoint_cmp q at ≡ false
other_key q at differ = by_test (eq_by_cmp outpoint_cmp q at) refl where
  by_test : (b : Bool) → eq_by_cmp outpoint_cmp q at ≡ b → eq_by_cmp outpoint_cmp q at ≡ false
  by_test true is = absurd (differ (same_key q at is))
  by_test false is = is

-- ---- rows that are placed one by one

-- what all have at an outpoint is either placed or left
abbrev IsEither : Option OutRow → Option OutRow → Option OutRow → Type 0
IsEither all placed left = ((left ≡ None) × (placed ≡ all)) ⊎ ((left ≡ all) × (placed ≡ None))

pub record Parted (all placed : Outputs) (left : Rows) : Type 0 where
  pub at : (q : OutPoint) → IsEither (get all q) (get placed q) (find outpoint_cmp q left)

pub all_left : (rows : Rows) (placed : Outputs) → placed ≡ empty → Parted (from_entries rows) placed rows
all_left rows placed none = record {
  at = λ q. inr (
    sym (get-from_entries outpoints_total rows q),
    ap (λ (outs : Outputs). get outs q) none ∙ get-empty outpoint_cmp q,
  );
}

pub all_placed : (all placed : Outputs) → Parted all placed [] → placed ≡ all
all_placed all placed parted = same_map outpoints_total outpoints_exact placed all (λ q. by_part (get all q) (get placed q) (parted.at q)) where
  by_part : (a p : Option OutRow) → IsEither a p None → p ≡ a
  by_part a p (inl done) = done.1
  by_part a p (inr left) = left.1 ∙ left.0

module _ (all placed : Outputs) (at : OutPoint) (row : OutRow) (left : Rows) (parted : Parted all placed ((at, row) ∷ left)) where
  first_left : find outpoint_cmp at ((at, row) ∷ left) ≡ Some row
  first_left = ap (λ (b : Bool). cond b (Some row) (find outpoint_cmp at left)) (itself outpoints_total at)

  stands_in_all : get all at ≡ Some row
  stands_in_all = by_part (parted.at at) where
    by_part : IsEither (get all at) (get placed at) (find outpoint_cmp at ((at, row) ∷ left)) → get all at ≡ Some row
    by_part (inl done) = absurd (cc (sym done.0 ∙ first_left))
    by_part (inr still) = sym still.0 ∙ first_left

  placed_stands : (q : OutPoint) (r : OutRow) → get placed q ≡ Some r → get all q ≡ Some r
  placed_stands q r there = by_part (parted.at q) where
    by_part : IsEither (get all q) (get placed q) (find outpoint_cmp q ((at, row) ∷ left)) → get all q ≡ Some r
    by_part (inl done) = sym done.1 ∙ there
    by_part (inr still) = absurd (cc (sym still.1 ∙ there))

  pub next_may : ((sat : ℕ) → times sat (sats_held all) ≤ 1) → MayStand at row.sats placed
  next_may once = record {
    once = λ sat. omega (arith, once sat, row_held sat all at row stands_in_all);
    apart = λ other r sat differ there.
        let here : get (remove all at) other ≡ Some r =
        get-remove outpoints_total all at other ∙ ap (λ (b : Bool). cond b None (get all other)) (other_key other at differ) ∙ placed_stands other r there in
        omega (arith, once sat, times_held sat all, times_held sat (remove all at), total_remove outpoints_total outpoints_exact (λ (row : OutRow). times sat row.sats) all at row stands_in_all, row_held sat (remove all at) other r here);
  }

  pub one_placed : (more : Outputs) → find outpoint_cmp at left ≡ None → more ≡ insert placed at row → Parted all more left
  one_placed more gone is = record { at = λ q. by_test q (eq_by_cmp outpoint_cmp q at) refl (parted.at q) } where
    now : (q : OutPoint) → get more q ≡ cond (eq_by_cmp outpoint_cmp q at) (Some row) (get placed q)
    now q = ap (λ (outs : Outputs). get outs q) is ∙ get-insert outpoints_total placed at row q

    by_test : (q : OutPoint) (b : Bool) → eq_by_cmp outpoint_cmp q at ≡ b → IsEither (get all q) (get placed q) (cond (eq_by_cmp outpoint_cmp q at) (Some row) (find outpoint_cmp q left))
        → IsEither (get all q) (get more q) (find outpoint_cmp q left)
    by_test q true same was =
        let key = same_key q at same in
        let stands : get all q ≡ Some row = ap (λ (k : OutPoint). get all k) key ∙ stands_in_all in
        inl (
          ap (λ (k : OutPoint). find outpoint_cmp k left) key ∙ gone,
          now q ∙ ap (λ (b : Bool). cond b (Some row) (get placed q)) same ∙ sym stands,
        )
    by_test q false other was =
        let one : get more q ≡ get placed q = now q ∙ ap (λ (b : Bool). cond b (Some row) (get placed q)) other in
        subst (λ (o : Option OutRow). IsEither (get all q) o (find outpoint_cmp q left)) (sym one)
        (subst (λ (b : Bool). IsEither (get all q) (get placed q) (cond b (Some row) (find outpoint_cmp q left))) other was)

-- a row that is taken out of a table is there no more
pub gone_from : (at : OutPoint) (left : Rows) (was : Option OutRow) → lookup (is_at (outpoint_cmp at)) left ≡ cond (is_at (outpoint_cmp at) at) None was → find outpoint_cmp at left ≡ None
gone_from at left was updates =
    sym (looked_up outpoint_cmp at left) ∙ updates ∙ ap (λ (b : Bool). cond b None was) (itself outpoints_total at)

pub none_taken : {A : Type 0} (left : List A) → (0 < length left → ⊥) → left ≡ []
none_taken [] none = refl
none_taken (e ∷ left) none = absurd (none (omega arith))

-- ---- a ledger that is filled by a part

module _ (held : List Placement) (runes : List RuneRow) (rising : is_sorted outpoint_cmp held ≡ true) where
  abbrev pub filling : RunePart
  filling = record { before = []; after = held; counts = []; appended = runes }

  came : AreGone (state_of held runes).bal nothing.bal held
  came = record {
    rising = rising;
    rows = λ at row. (
      (λ there. (get-from_entries outpoints_total held at ∙ there, λ none. cc (sym (get-empty outpoint_cmp at) ∙ none))),
      (λ there. sym (get-from_entries outpoints_total held at) ∙ there.0),
    );
  }

  gone : AreGone nothing.bal (state_of held runes).bal []
  gone = record {
    rising = refl;
    rows = λ at row. (
      (λ there. absurd (cc there)),
      (λ there. absurd (cc (sym (get-empty outpoint_cmp at) ∙ there.0))),
    );
  }

  is_filling : IsPart nothing (state_of held runes) filling
  unfolding changes_from
  is_filling = record {
    balances = record { gone = gone; came = came };
    counts = refl;
    appended = refl;
  }

  fills : Leads nothing (state_of held runes) filling
  fills = record { continues = tt; undue_before = refl; undue_after = refl; is = is_filling }

  module _ (part : RunePart) (state : Runes) (before : part.before ≡ []) (counts : part.counts ≡ []) (after : part.after ≡ held) (appended : part.appended ≡ runes) (none : state ≡ nothing) where
    is_it : part ≡ filling
    is_it = λ i. record { before = before i; after = after i; counts = counts i; appended = appended i }

    fills_it : Leads state (state_of held runes) part
    fills_it = subst (λ (s : Runes). Leads s (state_of held runes) part) (sym none) (subst (λ (p : RunePart). Leads nothing (state_of held runes) p) (sym is_it) fills)

    pub filled_it : later_end state part ≡ state_of held runes
    filled_it = part_forth state (state_of held runes) part fills_it.continues fills_it.undue_after fills_it.is

    pub begins_it : Balanced (state_of held runes) → Begins part state
    begins_it balanced = record { after = state_of held runes; leads = fills_it; balanced = balanced }

-- ---- a sound index

pub sats_once : (p : Profile) (index : Index) → IsSound p index → (sat : ℕ) → times sat (sats_held index.outs) ≤ 1
sats_once p index sound sat = omega (arith, (holds_once p index sound).once sat, at_most_one (first_at p (length index.hashes)) sat)
