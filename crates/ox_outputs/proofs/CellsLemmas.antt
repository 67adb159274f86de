-- Cells of starts: where a number stands, and what a changed cell leaves.
use Rattle.std.proofs.Common.{◌≡◌, ◌∙◌, ℕ, zero, suc, ◌+◌, ◌-◌, ◌^◌, ◌<◌, ◌≤◌, ◌≢◌, Bool, true, false, cond, [], ◌∷◌, Option, Some, None, Ordering, Result, Ok, Err, refl, sym, ap, subst, inl, inr, arith}
use Rattle.std.specs.Prelude.{◌⊎◌, IsSome, IfSome, IfOk, OnOk, OnErr}
use Rattle.std.specs.BTreeMap.{is_at}
use Rattle.std.specs.Option.{option_and_then, option_map, option_or}
use Rattle.std.specs.Map.{lookup}
use Rattle.std.specs.Ordering.{nat_cmp, is_eq, is_gt, is_lt, MatchOrdering}
use Rattle.std.specs.declared.cmp.Ordering.TheVariants.{Less, Equal, Greater}
use Rattle.std.proofs.lemmas.Cmp.{nat_cmp_total, ranked}
use Rattle.std.specs.Cmp.{eq_by_cmp_equiv}
use Rattle.std.specs.FinMap.{nat_cmp-IsAntisymmetric}
use mathlib.Core.Bool.{true≢false}
use Rattle.std.proofs.lemmas.Bool.{cases_lt, cases_eq}
use Rattle.ox_outputs.specs.Cells.{StartList, CellList, CellMap, starts_from, cell_at, start_in, start_at, start_near, near, SetsAt, IsLastTo, IsCut, IsHome, IsNear, AreAtHome, IsFree, AreNumbers}
use Rattle.ox_outputs.proofs.OffsetLemmas.{start_there, set_from, within_from, cut_from}

pub is_some_from : {X : Type 0} (o : Option X) (x : X) → o ≡ Some x → IsSome o
is_some_from o x is = subst IsSome (sym is) refl

pub some_of : {X : Type 0} (o : Option X) → IsSome o → (x : X) × (o ≡ Some x)
some_of (Some x) is = (x, refl)
some_of None is = absurd (cc is)

pub not_none : {X : Type 0} (o : Option X) (x : X) → o ≡ Some x → o ≡ None → ⊥
not_none o x some none = cc

-- ---- the cell in which a number may stand

pub near_home : (cells : CellMap) (from n : ℕ) (cell : StartList) → cells from ≡ Some cell → IsHome cells from n → near cells n ≡ Some cell
unfolding near
near_home cells from zero cell is home = let same : zero ≡ from = omega (arith, home.low) in ap cells same ∙ is
near_home cells from (suc n) cell is home = elim (cases_lt from (suc n)) [
  | inl below ↦ ap (λ (o : Option StartList). option_or o (near cells n)) (home.last (suc n) below (omega arith))
      ∙ near_home cells from n cell is (record { low = omega (arith, below); last = λ other low high. home.last other low (omega (arith, high)) })
  | inr above ↦ (let same : suc n ≡ from = omega (arith, above, home.low) in ap (λ (o : Option StartList). option_or o (near cells n)) (ap cells same ∙ is))
]

pub near_none : (cells : CellMap) (n : ℕ) → ((from : ℕ) → from ≤ n → cells from ≡ None) → near cells n ≡ None
unfolding near
near_none cells zero none = none zero (omega arith)
near_none cells (suc n) none =
    ap (λ (o : Option StartList). option_or o (near cells n)) (none (suc n) (omega arith))
    ∙ near_none cells n (λ from low. none from (omega (arith, low)))

-- a cell that a number may stand in
pub record HasNear (cells : CellMap) (n : ℕ) (cell : StartList) : Type 0 where
  pub from : ℕ
  pub is : cells from ≡ Some cell
  pub home : IsHome cells from n

next_found : (cells : CellMap) (n : ℕ) (cell : StartList) (o : Option StartList) → cells (suc n) ≡ o → option_or o (near cells n) ≡ Some cell → (near cells n ≡ Some cell → HasNear cells n cell) → HasNear cells (suc n) cell
next_found cells n cell (Some one) here is rest = record { from = suc n; is = here ∙ is; home = record { low = omega arith; last = λ other low high. absurd (omega (arith, low, high)) } }
next_found cells n cell None here is rest =
    let found = rest is in record {
      from = found.from;
      is = found.is;
      home = record {
        low = omega (arith, found.home.low);
        last = λ other low high. elim (cases_lt n other) [
          | inl over ↦ (let same : other ≡ suc n = omega (arith, over, high) in ap cells same ∙ here)
          | inr under ↦ found.home.last other low under
        ];
      };
    }

near_found : (cells : CellMap) (n : ℕ) (cell : StartList) → near cells n ≡ Some cell → HasNear cells n cell
unfolding near
near_found cells zero cell is = record { from = 0; is = is; home = record { low = omega arith; last = λ other low high. absurd (omega (arith, low, high)) } }
near_found cells (suc n) cell is = next_found cells n cell (cells (suc n)) refl is (near_found cells n cell)

-- ---- where a start stands

-- this stands at a number in one of the cells
pub record Stands (cells : CellMap) (n : ℕ) (slot : Option ℕ) : Type 0 where
  pub from : ℕ
  pub cell : StartList
  pub there : cells from ≡ Some cell
  pub is : start_at cell n ≡ Some slot

pub stands_near : (cells : CellMap) (n : ℕ) (slot : Option ℕ) → AreAtHome cells → Stands cells n slot → start_near cells n ≡ Some slot
stands_near cells n slot at_home s =
    ap (option_and_then (λ (cell : StartList). start_at cell n)) (near_home cells s.from n s.cell s.there (at_home s.from n s.cell s.there (is_some_from _ _ s.is)))
    ∙ s.is

pub near_stands : (cells : CellMap) (n : ℕ) (slot : Option ℕ) → start_near cells n ≡ Some slot → Stands cells n slot
near_stands cells n slot is = by (near cells n) refl is where
  by : (o : Option StartList) → near cells n ≡ o → option_and_then (λ (cell : StartList). start_at cell n) o ≡ Some slot → Stands cells n slot
  by None found is = absurd (cc is)
  by (Some cell) found is = let h = near_found cells n cell found in record { from = h.from; cell = cell; there = h.is; is = is }

-- cells in which the same starts stand
same_near : (old new : CellMap) (n : ℕ) → AreAtHome old → AreAtHome new → ((slot : Option ℕ) → Stands old n slot → Stands new n slot) → ((slot : Option ℕ) → Stands new n slot → Stands old n slot) → start_near new n ≡ start_near old n
same_near old new n was now to back = by (start_near old n) (start_near new n) refl refl where
  by : (o p : Option (Option ℕ)) → start_near old n ≡ o → start_near new n ≡ p → start_near new n ≡ start_near old n
  by (Some slot) p is is' = stands_near new n slot now (to slot (near_stands old n slot is)) ∙ sym is
  by None None is is' = is' ∙ sym is
  by None (Some slot) is is' = is' ∙ sym (stands_near old n slot was (back slot (near_stands new n slot is')))

-- ---- a cell is changed

home_still : (old new : CellMap) (from n : ℕ) → ((q : ℕ) → old q ≡ None → new q ≡ None) → IsHome old from n → IsHome new from n
home_still old new from n none home = record { low = home.low; last = λ other low high. none other (home.last other low high) }

same_cell : (cells : CellMap) (from at : ℕ) (cell one : StartList) → cells from ≡ Some cell → at ≡ from → cells at ≡ Some one → one ≡ cell
same_cell cells from at cell one is same found = cc (ap cells same)

module _ (old new : CellMap) (from first : ℕ) (cell cell' : StartList) (w : Option (Option ℕ)) (was : AreAtHome old) (there : old from ≡ Some cell) (home : IsHome old from first) (put : SetsAt old new from (Some cell')) (set : SetsAt (start_at cell) (start_at cell') first w) where
  changed_none : (q : ℕ) → old q ≡ None → new q ≡ None
  changed_none q none = elim (cases_eq q from) [
    | inl same ↦ absurd (not_none (old q) cell (ap old same ∙ there) none)
    | inr other ↦ put.others q other ∙ none
  ]

  changed_in : (n : ℕ) → IsSome (start_at cell' n) → IsHome old from n
  changed_in n some = elim (cases_eq n first) [
    | inl same ↦ subst (IsHome old from) (sym same) home
    | inr other ↦ was from n cell there (subst IsSome (set.others n other) some)
  ]

  pub changed_home : AreAtHome new
  changed_home at n one is some = elim (cases_eq at from) [
    | inl same ↦ subst (λ (f : ℕ). IsHome new f n) (sym same) (home_still old new from n changed_none (changed_in n (subst (λ (c : StartList). IsSome (start_at c n)) (same_cell new from at cell' one put.here same is) some)))
    | inr other ↦ home_still old new at n changed_none (was at n one (sym (put.others at other) ∙ is) some)
  ]

  pub changed_near : SetsAt (start_near old) (start_near new) first w
  changed_near = record {
    here = ap (option_and_then (λ (c : StartList). start_at c first)) (near_home new from first cell' put.here (home_still old new from first changed_none home)) ∙ set.here;
    others = λ n apart. same_near old new n was changed_home
        (λ slot s. elim (cases_eq s.from from) [
          | inl same ↦ (record { from = from; cell = cell'; there = put.here; is = set.others n apart ∙ ap (λ (c : StartList). start_at c n) (sym (same_cell old from s.from cell s.cell there same s.there)) ∙ s.is })
          | inr other ↦ (record { from = s.from; cell = s.cell; there = put.others s.from other ∙ s.there; is = s.is })
        ])
        (λ slot s. elim (cases_eq s.from from) [
          | inl same ↦ (record { from = from; cell = cell; there = there; is = sym (set.others n apart) ∙ ap (λ (c : StartList). start_at c n) (sym (same_cell new from s.from cell' s.cell put.here same s.there)) ∙ s.is })
          | inr other ↦ (record { from = s.from; cell = s.cell; there = sym (put.others s.from other) ∙ s.there; is = s.is })
        ]);
  }

-- ---- a cell without starts comes or goes

no_start : (cell : StartList) (n : ℕ) → cell ≡ [] → IsSome (start_at cell n) → ⊥
no_start [] n is some = cc some
no_start (x ∷ cell) n is some = cc is

module _ (old new : CellMap) (at : ℕ) (was : AreAtHome old) (free : IsFree old at) (put : SetsAt old new at (Some [])) where
  pub added_home : AreAtHome new
  added_home from n one is some = elim (cases_eq from at) [
    | inl same ↦ absurd (no_start one n (same_cell new at from [] one put.here same is) some)
    | inr other ↦ (let there = sym (put.others from other) ∙ is in
        let home = was from n one there some in
        record { low = home.low; last = λ q low high. put.others q (λ same. let below = free.below from n one (omega (arith, low, same)) there some in omega (arith, below, same, high)) ∙ home.last q low high })
  ]

  pub added_near : (n : ℕ) → start_near new n ≡ start_near old n
  added_near n = same_near old new n was added_home
      (λ slot s. record { from = s.from; cell = s.cell; there = put.others s.from (λ same. not_none (old s.from) s.cell s.there (ap old same ∙ free.none)) ∙ s.there; is = s.is })
      (λ slot s. record {
        from = s.from;
        cell = s.cell;
        there = sym (put.others s.from (λ same. no_start s.cell n (same_cell new at s.from [] s.cell put.here same s.there) (is_some_from _ _ s.is))) ∙ s.there;
        is = s.is;
      })

module _ (old new : CellMap) (from : ℕ) (was : AreAtHome old) (empty : old from ≡ Some []) (put : SetsAt old new from None) where
  dropped_none : (q : ℕ) → old q ≡ None → new q ≡ None
  dropped_none q none = elim (cases_eq q from) [
    | inl same ↦ ap new same ∙ put.here
    | inr other ↦ put.others q other ∙ none
  ]

  dropped_there : (at : ℕ) (one : StartList) → new at ≡ Some one → old at ≡ Some one
  dropped_there at one is = sym (put.others at (λ same. not_none (new at) one is (ap new same ∙ put.here))) ∙ is

  pub dropped_home : AreAtHome new
  dropped_home at n one is some = home_still old new at n dropped_none (was at n one (dropped_there at one is) some)

  pub dropped_near : (n : ℕ) → start_near new n ≡ start_near old n
  dropped_near n = same_near old new n was dropped_home
      (λ slot s. record {
        from = s.from;
        cell = s.cell;
        there = put.others s.from (λ same. no_start s.cell n (same_cell old from s.from [] s.cell empty same s.there) (is_some_from _ _ s.is)) ∙ s.there;
        is = s.is;
      })
      (λ slot s. record { from = s.from; cell = s.cell; there = dropped_there s.from s.cell s.there; is = s.is })

-- ---- a cell is split

module _ (old new : CellMap) (from middle : ℕ) (cell low high : StartList) (was : AreAtHome old) (there : old from ≡ Some cell) (cut : IsCut cell low middle high) (at_low : new from ≡ Some low) (at_high : from ≢ middle → new middle ≡ Some high) (others : (q : ℕ) → q ≢ from → q ≢ middle → new q ≡ old q) where
  middle_home : IsHome old from middle
  middle_home = was from middle cell there cut.first

  behind : from < middle
  behind = let lower = (was from cut.lower cell there cut.lower_is).low in omega (arith, lower, cut.lower_low)

  high_there : new middle ≡ Some high
  high_there = at_high (λ same. omega (arith, behind, same))

  middle_new : old middle ≡ None
  middle_new = middle_home.last middle behind (omega arith)

  pub split_low : (n : ℕ) → n < middle → IsHome old from n → IsHome new from n
  split_low n lt home = record { low = home.low; last = λ q after to. others q (λ same. omega (arith, after, same)) (λ same. omega (arith, to, lt, same)) ∙ home.last q after to }

  pub split_high : (n : ℕ) → middle ≤ n → IsHome old from n → IsHome new middle n
  split_high n le home = record { low = le; last = λ q after to. others q (λ same. omega (arith, after, same, behind)) (λ same. omega (arith, after, same)) ∙ home.last q (omega (arith, after, behind)) to }

  split_other : (at n : ℕ) (one : StartList) → at ≢ from → old at ≡ Some one → IsHome old at n → IsHome new at n
  split_other at n one apart is home = record {
    low = home.low;
    last = λ q after to. others q
        (λ same. not_none (old q) cell (ap old same ∙ there) (home.last q after to))
        (λ same. elim (cases_lt at from) [
          | inl below ↦ not_none (old from) cell there (home.last from below (omega (arith, to, same, behind)))
          | inr above ↦ not_none (old at) one is (middle_home.last at (omega (arith, above, apart)) (omega (arith, after, same)))
        ])
        ∙ home.last q after to;
  }

  low_in : (n : ℕ) → IsSome (start_at low n) → n < middle
  low_in n some = elim (cases_lt n middle) [
    | inl lt ↦ lt
    | inr le ↦ (let s = some_of (start_at low n) some in absurd (not_none (start_at low n) s.0 s.1 ((cut.above n le).1)))
  ]

  high_in : (n : ℕ) → IsSome (start_at high n) → middle ≤ n
  high_in n some = elim (cases_lt n middle) [
    | inl lt ↦ (let s = some_of (start_at high n) some in absurd (not_none (start_at high n) s.0 s.1 ((cut.below n lt).1)))
    | inr le ↦ le
  ]

  pub split_home : AreAtHome new
  split_home at n one is some = elim (cases_eq at from) [
    | inl same ↦ (let some' : IsSome (start_at low n) = subst (λ (c : StartList). IsSome (start_at c n)) (same_cell new from at low one at_low same is) some in
        let lt = low_in n some' in
        subst (λ (f : ℕ). IsHome new f n) (sym same) (split_low n lt (was from n cell there (subst IsSome ((cut.below n lt).0) some'))))
    | inr apart ↦ elim (cases_eq at middle) [
      | inl same ↦ (let some' : IsSome (start_at high n) = subst (λ (c : StartList). IsSome (start_at c n)) (same_cell new middle at high one high_there same is) some in
          let le = high_in n some' in
          subst (λ (f : ℕ). IsHome new f n) (sym same) (split_high n le (was from n cell there (subst IsSome ((cut.above n le).0) some'))))
      | inr other ↦ (let is' = sym (others at apart other) ∙ is in split_other at n one apart is' (was at n one is' some))
    ]
  ]

  split_to : (n : ℕ) (slot : Option ℕ) → Stands old n slot → Stands new n slot
  split_to n slot s = elim (cases_eq s.from from) [
    | inl same ↦ (let here : start_at cell n ≡ Some slot = ap (λ (c : StartList). start_at c n) (sym (same_cell old from s.from cell s.cell there same s.there)) ∙ s.is in
        elim (cases_lt n middle) [
          | inl lt ↦ (record { from = from; cell = low; there = at_low; is = (cut.below n lt).0 ∙ here })
          | inr le ↦ (record { from = middle; cell = high; there = high_there; is = (cut.above n le).0 ∙ here })
        ])
    | inr apart ↦ (record { from = s.from; cell = s.cell; there = others s.from apart (λ same. not_none (old s.from) s.cell s.there (ap old same ∙ middle_new)) ∙ s.there; is = s.is })
  ]

  split_back : (n : ℕ) (slot : Option ℕ) → Stands new n slot → Stands old n slot
  split_back n slot s = elim (cases_eq s.from from) [
    | inl same ↦ (let here : start_at low n ≡ Some slot = ap (λ (c : StartList). start_at c n) (sym (same_cell new from s.from low s.cell at_low same s.there)) ∙ s.is in
        record { from = from; cell = cell; there = there; is = sym ((cut.below n (low_in n (is_some_from _ _ here))).0) ∙ here })
    | inr apart ↦ elim (cases_eq s.from middle) [
      | inl same ↦ (let here : start_at high n ≡ Some slot = ap (λ (c : StartList). start_at c n) (sym (same_cell new middle s.from high s.cell high_there same s.there)) ∙ s.is in
          record { from = from; cell = cell; there = there; is = sym ((cut.above n (high_in n (is_some_from _ _ here))).0) ∙ here })
      | inr other ↦ (record { from = s.from; cell = s.cell; there = sym (others s.from apart other) ∙ s.there; is = s.is })
    ]
  ]

  pub split_near : (n : ℕ) → start_near new n ≡ start_near old n
  split_near n = same_near old new n was split_home (split_to n) (split_back n)

-- ---- the last start

-- a start up to a number stands in the cell that is looked into for that, or below it
pub in_or_below : (cells : CellMap) (at from : ℕ) (cell : StartList) → AreAtHome cells → IsNear cells at from cell → (q : ℕ) → IsSome (start_near cells q) → q ≤ at → IsSome (start_at cell q) ⊎ (q < from)
in_or_below cells at from cell at_home here q some low =
    let slot = some_of (start_near cells q) some in
    by (near_stands cells q slot.0 slot.1)
  where
    by : Stands cells q ((some_of (start_near cells q) some).0) → IsSome (start_at cell q) ⊎ (q < from)
    by s = elim (cases_eq s.from from) [
      | inl same ↦ inl (is_some_from _ _ (ap (λ (c : StartList). start_at c q) (sym (same_cell cells from s.from cell s.cell here.is same s.there)) ∙ s.is))
      | inr apart ↦ (let home = at_home s.from q s.cell s.there (is_some_from _ _ s.is) in elim (cases_lt q from) [
        | inl below ↦ inr below
        | inr above ↦ elim (cases_lt s.from from) [
          | inl before ↦ absurd (not_none (cells from) cell here.is (home.last from before above))
          | inr after ↦ absurd (not_none (cells s.from) s.cell s.there (here.home.last s.from (omega (arith, after, apart)) (omega (arith, home.low, low))))
        ]
      ])
    ]

-- ---- what the ordered map tells

gt_low : (a b : ℕ) (r : Ordering) → MatchOrdering r (a < b) (a ≡ b) (b < a) → is_gt r ≡ false → a ≤ b
gt_low a b Less is low = omega (arith, is)
gt_low a b Equal is low = omega (arith, is)
gt_low a b Greater is low = absurd (true≢false low)

low_gt : (a b : ℕ) (r : Ordering) → MatchOrdering r (a < b) (a ≡ b) (b < a) → a ≤ b → is_gt r ≡ false
low_gt a b Less is low = refl
low_gt a b Equal is low = refl
low_gt a b Greater is low = absurd (omega (arith, is, low))

lt_less : (a b : ℕ) (r : Ordering) → MatchOrdering r (a < b) (a ≡ b) (b < a) → a < b → is_lt r ≡ true
lt_less a b Less is low = refl
lt_less a b Equal is low = absurd (omega (arith, is, low))
lt_less a b Greater is low = absurd (omega (arith, is, low))

is_equal : (r : Ordering) → is_eq r ≡ true → r ≡ Equal
is_equal Less is = absurd (true≢false (sym is))
is_equal Equal is = refl
is_equal Greater is = absurd (true≢false (sym is))

apart_at : (a b : ℕ) → b ≢ a → is_at (nat_cmp a) b ≡ false
apart_at a b apart = by (is_at (nat_cmp a) b) refl where
  by : (t : Bool) → is_at (nat_cmp a) b ≡ t → is_at (nat_cmp a) b ≡ false
  by true is = absurd (apart (sym (nat_cmp-IsAntisymmetric a b (is_equal (nat_cmp a b) is))))
  by false is = is

at_itself : (a : ℕ) → is_at (nat_cmp a) a ≡ true
at_itself a = (eq_by_cmp_equiv nat_cmp_total).refl a

-- one cell changes
pub one_set : (old new : CellMap) (from : ℕ) (cell : Option StartList) → ((q : ℕ) → new q ≡ cond (is_at (nat_cmp from) q) cell (old q)) → SetsAt old new from cell
one_set old new from cell updates = record {
  here = updates from ∙ ap (λ (b : Bool). cond b cell (old from)) (at_itself from);
  others = λ q apart. updates q ∙ ap (λ (b : Bool). cond b cell (old q)) (apart_at from q apart);
}

-- the offsets of the cell that reaches from a number
abbrev pub offsets_at : CellList → ℕ → Option StartList
offsets_at cells from = lookup (is_at (nat_cmp from)) cells

-- one cell of offsets changes
pub cell_set : (m n : CellList) (from : ℕ) (cell : Option StartList) → ((q : ℕ) → offsets_at n q ≡ cond (is_at (nat_cmp from) q) cell (offsets_at m q)) → SetsAt (cell_at m) (cell_at n) from (option_map (starts_from from) cell)
cell_set m n from cell updates =
    let set = one_set (offsets_at m) (offsets_at n) from cell updates in record {
      here = ap (option_map (starts_from from)) set.here;
      others = λ q apart. ap (option_map (starts_from q)) (set.others q apart);
    }

-- no number is new but one
pub numbers_set : (m n : CellList) (first : ℕ) (w : Option (Option ℕ)) → first < 2 ^ 64 → AreNumbers m → SetsAt (start_in m) (start_in n) first w → AreNumbers n
numbers_set m n first w fits numbers set q some = elim (cases_eq q first) [
  | inl same ↦ omega (arith, same, fits)
  | inr other ↦ numbers q (subst IsSome (set.others q other) some)
]

pub numbers_same : (m n : CellList) → AreNumbers m → ((q : ℕ) → start_in n q ≡ start_in m q) → AreNumbers n
numbers_same m n numbers same q some = numbers q (subst IsSome (same q) some)

none_unless : {X : Type 0} (o : Option X) → (IsSome o → ⊥) → o ≡ None
none_unless None never = refl
none_unless (Some x) never = absurd (never refl)

-- the last cell up to a number
pub near_last : (m l : CellList) (number from : ℕ) (cell : StartList) → m ≡ l → is_gt (nat_cmp from number) ≡ false → offsets_at m from ≡ Some cell → ((q : ℕ) → is_gt (nat_cmp q number) ≡ false → IsSome (offsets_at m q) → is_lt (nat_cmp from q) ≡ false) → IsNear (cell_at l) number from (starts_from from cell)
near_last m l number from cell same low is last = subst (λ (x : CellList). IsNear (cell_at x) number from (starts_from from cell)) same (record {
  is = ap (option_map (starts_from from)) is;
  home = record {
    low = gt_low from number (nat_cmp from number) (ranked from number (nat_cmp from number) refl) low;
    last = λ other above to. ap (option_map (starts_from other)) (none_unless (offsets_at m other) (λ some.
        true≢false (sym (lt_less from other (nat_cmp from other) (ranked from other (nat_cmp from other) refl) above) ∙ last other (low_gt other number (nat_cmp other number) (ranked other number (nat_cmp other number) refl) to) some)));
  };
})

-- an offset leads to its number
pub back_from : (base number : ℕ) → base ≤ number → base + (number - base) ≡ number
back_from base number le = omega (arith, le)

pub near_start : (cells : CellMap) (n from : ℕ) (cell : StartList) → IsNear cells n from cell → start_near cells n ≡ start_at cell n
near_start cells n from cell here = ap (option_and_then (λ (c : StartList). start_at c n)) (near_home cells from n cell here.is here.home)

pub near_nothing : (cells : CellMap) (n : ℕ) → ((from : ℕ) → from ≤ n → cells from ≡ None) → start_near cells n ≡ None
near_nothing cells n none = ap (option_and_then (λ (c : StartList). start_at c n)) (near_none cells n none)

pub none_in_empty : (l : CellList) → l ≡ [] → (q : ℕ) → start_in l q ≡ None
none_in_empty l is q = near_nothing (cell_at l) q (λ from low. ap (λ (x : CellList). cell_at x from) is)

pub none_in_list : (l : CellList) → l ≡ [] → (from : ℕ) → cell_at l from ≡ None
none_in_list l is from = ap (λ (x : CellList). cell_at x from) is

pub empty_home : (l : CellList) → l ≡ [] → AreAtHome (cell_at l) × AreNumbers l
empty_home l is = (
  (λ from number cell there some. absurd (not_none (cell_at l from) cell there (none_in_list l is from))),
  (λ q some. let found = some_of (start_in l q) some in absurd (not_none (start_in l q) found.0 found.1 (none_in_empty l is q))),
)

pub nothing_taken : (cells : CellMap) (n : ℕ) → ((from : ℕ) → from ≤ n → cells from ≡ None) → SetsAt (start_near cells) (start_near cells) n None
nothing_taken cells n none = record { here = near_nothing cells n none; others = λ q apart. refl }

pub on_ok : {X E : Type 0} (r : Result X E) {P Q : Type 0} → OnOk r P → (P → Q) → OnOk r Q
on_ok (Ok x) ok f = f ok
on_ok (Err e) ok f = tt

pub if_ok : {X E : Type 0} (r : Result X E) {P Q : X → Type 0} → IfOk r P → ((x : X) → P x → Q x) → IfOk r Q
if_ok (Ok x) ok f = f x ok
if_ok (Err e) ok f = tt

-- a start comes into its cell or goes out of it
module _ (m l n : CellList) (from offset first : ℕ) (cell cell' : StartList) (w : Option (Option ℕ)) (same : m ≡ l) (was : AreAtHome (cell_at m)) (there : Some cell ≡ offsets_at m from) (home : IsHome (cell_at l) from first) (is : from + offset ≡ first) (updates : (q : ℕ) → offsets_at n q ≡ cond (is_at (nat_cmp from) q) (Some cell') (offsets_at m q)) (set : SetsAt (start_at cell) (start_at cell') offset w) where
  put_near : SetsAt (start_in m) (start_in n) first w
  put_near = changed_near (cell_at m) (cell_at n) from first (starts_from from cell) (starts_from from cell') w was (ap (option_map (starts_from from)) (sym there)) (subst (λ (x : CellList). IsHome (cell_at x) from first) (sym same) home) (cell_set m n from (Some cell') updates) (set_from from cell cell' offset first w is set)

  pub cell_put : SetsAt (start_in l) (start_in n) first w
  cell_put = subst (λ (x : CellList). SetsAt (start_in x) (start_in n) first w) same put_near

  pub cell_put_home : first < 2 ^ 64 → AreNumbers m → AreAtHome (cell_at n) × AreNumbers n
  cell_put_home fits numbers = (changed_home (cell_at m) (cell_at n) from first (starts_from from cell) (starts_from from cell') w was (ap (option_map (starts_from from)) (sym there)) (subst (λ (x : CellList). IsHome (cell_at x) from first) (sym same) home) (cell_set m n from (Some cell') updates) (set_from from cell cell' offset first w is set), numbers_set m n first w fits numbers put_near)

-- a call sets a start or leaves the cell as it is
pub set_either : {X E : Type 0} (r : Result X E) (cell cell' : StartList) (offset : ℕ) (v : Option (Option ℕ)) → OnOk r (SetsAt (start_at cell) (start_at cell') offset v) → OnErr r (cell' ≡ cell) → (w : Option (Option ℕ)) × SetsAt (start_at cell) (start_at cell') offset w
set_either (Ok x) cell cell' offset v ok err = (v, ok)
set_either (Err e) cell cell' offset v ok err = (start_at cell offset, record { here = ap (λ (c : StartList). start_at c offset) err; others = λ q apart. ap (λ (c : StartList). start_at c q) err })

pub cell_start : (m l : CellList) (from offset first : ℕ) (cell : StartList) → m ≡ l → Some cell ≡ offsets_at m from → IsHome (cell_at l) from first → from + offset ≡ first → start_in l first ≡ start_at cell offset
cell_start m l from offset first cell same there home is = near_start (cell_at l) first from (starts_from from cell) (record { is = ap (option_map (starts_from from)) (sym (there ∙ ap (λ (x : CellList). offsets_at x from) same)); home = home }) ∙ start_there from cell first offset is

module _ (m l n : CellList) (at : ℕ) (same : m ≡ l) (was : AreAtHome (cell_at m)) (free : IsFree (cell_at l) at) (cell : StartList) (empty : cell ≡ []) (updates : (q : ℕ) → offsets_at n q ≡ cond (is_at (nat_cmp at) q) (Some cell) (offsets_at m q)) where
  set_empty : SetsAt (cell_at m) (cell_at n) at (Some [])
  set_empty = cell_set m n at (Some []) (λ p. updates p ∙ ap (λ (c : StartList). cond (is_at (nat_cmp at) p) (Some c) (offsets_at m p)) empty)

  free_there : IsFree (cell_at m) at
  free_there = subst (λ (x : CellList). IsFree (cell_at x) at) (sym same) free

  pub cell_added : (q : ℕ) → start_in n q ≡ start_in l q
  cell_added q = added_near (cell_at m) (cell_at n) at was free_there set_empty q ∙ ap (λ (x : CellList). start_in x q) same

  pub cell_added_home : AreNumbers m → AreAtHome (cell_at n) × AreNumbers n
  cell_added_home numbers = (added_home (cell_at m) (cell_at n) at was free_there set_empty, numbers_same m n numbers (added_near (cell_at m) (cell_at n) at was free_there set_empty))

  pub cell_added_others : (q : ℕ) → q ≢ at → cell_at n q ≡ cell_at l q
  cell_added_others q apart = set_empty.others q apart ∙ ap (λ (x : CellList). cell_at x q) same

module _ (m l n : CellList) (from : ℕ) (same : m ≡ l) (was : AreAtHome (cell_at m)) (empty : cell_at l from ≡ Some []) (updates : (q : ℕ) → offsets_at n q ≡ cond (is_at (nat_cmp from) q) None (offsets_at m q)) where
  empty_there : cell_at m from ≡ Some []
  empty_there = ap (λ (x : CellList). cell_at x from) same ∙ empty

  pub cell_dropped : (q : ℕ) → start_in n q ≡ start_in l q
  cell_dropped q = dropped_near (cell_at m) (cell_at n) from was empty_there (cell_set m n from None updates) q ∙ ap (λ (x : CellList). start_in x q) same

  pub cell_dropped_home : AreNumbers m → AreAtHome (cell_at n) × AreNumbers n
  cell_dropped_home numbers = (dropped_home (cell_at m) (cell_at n) from was empty_there (cell_set m n from None updates), numbers_same m n numbers (dropped_near (cell_at m) (cell_at n) from was empty_there (cell_set m n from None updates)))

-- a cell is there, so that another one can take its place without memory
pub surely_put : {X E : Type 0} (r : Result X E) {P : Type 0} (there : Option StartList) → OnOk r P → OnErr r (there ≡ None) → IsSome there → P
surely_put (Ok x) there ok err some = ok
surely_put (Err e) there ok err some = absurd (cc (subst IsSome err some))

still_there : (b : Bool) (v : StartList) (o : Option StartList) → IsSome o → IsSome (cond b (Some v) o)
still_there true v o some = refl
still_there false v o some = some

pub there_still : (F G : CellMap) (middle from : ℕ) (high : StartList) → ((q : ℕ) → F q ≡ cond (is_at (nat_cmp middle) q) (Some high) (G q)) → IsSome (G from) → IsSome (F from)
there_still F G middle from high updates some = subst IsSome (sym (updates from)) (still_there (is_at (nat_cmp middle) from) high (G from) some)

pub offsets_some : (o : Option StartList) (from : ℕ) → IsSome (option_map (starts_from from) o) → IsSome o
offsets_some (Some x) from some = refl
offsets_some None from some = absurd (cc some)

-- the parts of a cell come in its place
module _ (m l f n : CellList) (from middle : ℕ) (low high : StartList) (same : m ≡ l) (was : AreAtHome (cell_at m)) (there : IsSome (cell_at l from)) (cut : IfSome (cell_at l from) (λ cell. IsCut cell (starts_from from low) middle (starts_from middle high))) (first : (q : ℕ) → offsets_at f q ≡ cond (is_at (nat_cmp middle) q) (Some high) (offsets_at m q)) (second : (q : ℕ) → offsets_at n q ≡ cond (is_at (nat_cmp from) q) (Some low) (offsets_at f q)) where
  whole : (cell : StartList) × (cell_at l from ≡ Some cell)
  whole = some_of (cell_at l from) there

  in_parts : IsCut whole.0 (starts_from from low) middle (starts_from middle high)
  in_parts = subst (λ (o : Option StartList). IfSome o (λ cell. IsCut cell (starts_from from low) middle (starts_from middle high))) whole.1 cut

  one : SetsAt (cell_at m) (cell_at f) middle (Some (starts_from middle high))
  one = cell_set m f middle (Some high) first

  two : SetsAt (cell_at f) (cell_at n) from (Some (starts_from from low))
  two = cell_set f n from (Some low) second

  whole_there : cell_at m from ≡ Some whole.0
  whole_there = ap (λ (x : CellList). cell_at x from) same ∙ whole.1

  at_middle : from ≢ middle → cell_at n middle ≡ Some (starts_from middle high)
  at_middle apart = two.others middle (λ e. apart (sym e)) ∙ one.here

  elsewhere : (q : ℕ) → q ≢ from → q ≢ middle → cell_at n q ≡ cell_at m q
  elsewhere p a b = two.others p a ∙ one.others p b

  pub cell_split : (q : ℕ) → start_in n q ≡ start_in l q
  cell_split q = split_near (cell_at m) (cell_at n) from middle whole.0 (starts_from from low) (starts_from middle high) was whole_there in_parts two.here at_middle elsewhere q ∙ ap (λ (x : CellList). start_in x q) same

  pub cell_split_home : AreNumbers m → AreAtHome (cell_at n) × AreNumbers n
  cell_split_home numbers = (
    split_home (cell_at m) (cell_at n) from middle whole.0 (starts_from from low) (starts_from middle high) was whole_there in_parts two.here at_middle elsewhere,
    numbers_same m n numbers (split_near (cell_at m) (cell_at n) from middle whole.0 (starts_from from low) (starts_from middle high) was whole_there in_parts two.here at_middle elsewhere),
  )

-- ---- room for a number

-- what stands at a number stands at its offset in the cell near it
pub near_offset : (cells : CellMap) (number from offset : ℕ) (cell : StartList) → IsNear cells number from (starts_from from cell) → from + offset ≡ number → start_near cells number ≡ start_at cell offset
near_offset cells number from offset cell here is = near_start cells number from (starts_from from cell) here ∙ start_there from cell number offset is

-- a number that isn't taken isn't there
pub not_there : (cells : CellMap) (n from offset : ℕ) (cell : StartList) (taken : Bool) → IsNear cells n from (starts_from from cell) → from + offset ≡ n → (IsSome (start_at cell offset) → taken ≡ true) → taken ≡ false → IsSome (start_near cells n) → ⊥
not_there cells n from offset cell taken here at told is some = true≢false (sym (told (subst IsSome (near_offset cells n from offset cell here at) some)) ∙ is)

-- nor one that is out of reach
pub not_beyond : (cells : CellMap) (n from offset bound : ℕ) (cell : StartList) → IsNear cells n from (starts_from from cell) → from + offset ≡ n → bound ≤ offset → ((q : ℕ) → IsSome (start_at cell q) → q < bound) → IsSome (start_near cells n) → ⊥
not_beyond cells n from offset bound cell here at high low some =
    let under = low offset (subst IsSome (near_offset cells n from offset cell here at) some) in
    omega (arith, under, high)

-- beyond the reach of the cell near a number another one may come
pub free_beyond : (cells : CellMap) (first from at bound : ℕ) (cell : StartList) → AreAtHome cells → IsNear cells first from (starts_from from cell) → ((q : ℕ) → IsSome (start_at cell q) → q < bound) → 0 < bound → from + bound ≤ at → at ≤ first → IsFree cells at
free_beyond cells first from at bound cell at_home here low some_reach high to = record {
  none = here.home.last at (omega (arith, some_reach, high)) to;
  below = λ other n one under there some. elim (cases_lt other from) [
    | inl before ↦ (elim (cases_lt n from) [
      | inl lt ↦ omega (arith, lt, high)
      | inr le ↦ absurd (not_none (cells from) (starts_from from cell) here.is ((at_home other n one there some).last from before le))
    ])
    | inr from_on ↦ (elim (cases_eq other from) [
      | inl same ↦ (let inside = within_from from cell bound low n (subst (λ (c : StartList). IsSome (start_at c n)) (same_cell cells from other (starts_from from cell) one here.is same there) some) in omega (arith, inside, high))
      | inr apart ↦ absurd (not_none (cells other) one there (here.home.last other (omega (arith, from_on, apart)) (omega (arith, under, to))))
    ])
  ];
}

-- the middle of a cell is a number
pub middle_fits : (l : CellList) (number from middle : ℕ) (cell low high : StartList) → AreAtHome (cell_at l) → AreNumbers l → IsNear (cell_at l) number from (starts_from from cell) → IsCut cell low middle (starts_from middle high) → from + middle < 2 ^ 64
middle_fits l number from middle cell low high at_home numbers here cut =
    let there = start_there from cell (from + middle) middle refl in
    let found = some_of (start_at cell middle) cut.first in
    numbers (from + middle) (is_some_from _ found.0 (stands_near (cell_at l) (from + middle) found.0 at_home (record { from = from; cell = starts_from from cell; there = here.is; is = there ∙ found.1 })))

-- the parts of the cell near a number, by the numbers themselves
pub near_cut : (cells : CellMap) (number from middle : ℕ) (cell low high : StartList) → IsNear cells number from (starts_from from cell) → IsCut cell low middle (starts_from middle high) → IfSome (cells from) (λ whole. IsCut whole (starts_from from low) (from + middle) (starts_from (from + middle) high))
near_cut cells number from middle cell low high here cut = subst (λ (o : Option StartList). IfSome o (λ whole. IsCut whole (starts_from from low) (from + middle) (starts_from (from + middle) high))) (sym here.is) (cut_from from cell low high middle cut)

-- nor one for which no cell is near
pub in_no_cell : (cells : CellMap) (n : ℕ) → ((from : ℕ) → from ≤ n → cells from ≡ None) → IsSome (start_near cells n) → ⊥
in_no_cell cells n none some = let found = some_of (start_near cells n) some in not_none (start_near cells n) found.0 found.1 (near_nothing cells n none)

-- ---- the search for the last start, from a cell to the one before

-- each start up to a number is up to another one
abbrev pub AreUpTo : CellMap → ℕ → ℕ → Type 0
AreUpTo cells number at = (q : ℕ) → IsSome (start_near cells q) → q ≤ number → q ≤ at

-- the last in the cell is the last of all
pub last_in_cell : (cells : CellMap) (at number from : ℕ) (cell : StartList) (found : Option (ℕ × Option ℕ)) → AreAtHome cells → IsNear cells at from cell → at ≤ number → AreUpTo cells number at → IfSome found (λ start. IsLastTo (start_at cell) at start) → IfSome found (λ start. IsLastTo (start_near cells) number start)
last_in_cell cells at number from cell None at_home here low rest last = tt
last_in_cell cells at number from cell (Some start) at_home here low rest last =
    let home = at_home from start.0 cell here.is (is_some_from _ _ last.is) in record {
      low = omega (arith, last.low, low);
      is = stands_near cells start.0 start.1 at_home (record { from = from; cell = cell; there = here.is; is = last.is });
      last = λ q some to. elim (in_or_below cells at from cell at_home here q some (rest q some to)) [
        | inl inside ↦ last.last q inside (rest q some to)
        | inr below ↦ omega (arith, below, home.low)
      ];
    }

-- where the cell has none, all are below it
pub below_cell : (cells : CellMap) (at number from : ℕ) (cell : StartList) → AreAtHome cells → IsNear cells at from cell → AreUpTo cells number at → ((q : ℕ) → IsSome (start_at cell q) → at < q) → (q : ℕ) → IsSome (start_near cells q) → q ≤ number → q < from
below_cell cells at number from cell at_home here rest none q some to =
    let up : q ≤ at = rest q some to in
    elim (in_or_below cells at from cell at_home here q some up) [
      | inl inside ↦ (let above = none q inside in omega (arith, above, up))
      | inr below ↦ below
    ]

-- nothing is up to a number where nothing is below 0
pub all_above : (cells : CellMap) (number from : ℕ) → from ≡ 0 → ((q : ℕ) → IsSome (start_near cells q) → q ≤ number → q < from) → (q : ℕ) → IsSome (start_near cells q) → number < q
all_above cells number from least below q some = elim (cases_lt number q) [
  | inl above ↦ above
  | inr to ↦ (let under = below q some to in omega (arith, under, least))
]

pub above_no_cell : (cells : CellMap) (at number : ℕ) → AreUpTo cells number at → ((from : ℕ) → from ≤ at → cells from ≡ None) → (q : ℕ) → IsSome (start_near cells q) → number < q
above_no_cell cells at number rest none q some = elim (cases_lt number q) [
  | inl above ↦ above
  | inr to ↦ (let up : q ≤ at = rest q some to in absurd (in_no_cell cells q (λ from low. none from (omega (arith, low, up))) some))
]
