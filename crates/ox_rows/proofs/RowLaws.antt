-- The two laws of rows, of a change and of an index.
use Rattle.std.proofs.Common.{◌≡◌, ℕ, zero, suc, ◌^◌, ◌<◌, Bool, true, false, not, eqb, List, [], ◌∷◌, ◌++◌, length, map, T, Option, None, refl, sym, ap, subst, ◌∙◌, arith}
use Rattle.std.specs.Prelude.{IfSome, IsTrue, ◌||◌, ◌&&◌, nat_le, nat_lt}
use Rattle.std.specs.Int.{w32, w64, w128, to_le_bytes}
use Rattle.std.specs.List.{flat_map, AllByRecursion}
use Rattle.std.specs.List.Sorted.{IsStrictlySortedBy}
use Rattle.std.specs.Map.{keys_of, values_of}
use Rattle.std.specs.Ordering.{nat_cmp}
use Rattle.std.specs.FinMap.{FinMap, IsAntisymmetric, entries, entries-from_sorted, from_entries, from_sorted, get-entries, get-from_entries, get-from_sorted, is_sorted, same_map}
use Rattle.std.specs.Cmp.{IsTotalOrder}
use Rattle.std.specs.declared.cmp.Ordering.{Ordering}
use Rattle.std.proofs.lemmas.Bool.{ltb-true, ne_eqb}
use Rattle.std.proofs.lemmas.Cmp.{nat_cmp_total}
use Rattle.std.proofs.lemmas.List.Elements.{All-from_recursion, recursion_from_All}
use Rattle.std.proofs.lemmas.List.Concat.{flat_map-cons}
use Rattle.ox_bytes.specs.Reading.{◌>>=◌, number_at, unless}
use Rattle.ox_bytes.proofs.Laws.{Law, run_law, unless_law, reading_map_law}
use Rattle.ox_block.specs.declared.block.OutPoint.{OutPoint}
use Rattle.ox_block.specs.Spelling.{outpoint}
use Rattle.ox_envelope.specs.declared.id.InsId.{InsId}
use Rattle.ox_rules.specs.declared.rows.OutRow.{OutRow}
use Rattle.ox_rules.specs.Outputs.{outpoint_cmp}
use Rattle.ox_rules.proofs.Orders.{outpoints_exact, outpoints_total}
use Rattle.ox_inscribe.specs.declared.row.InsRow.{InsRow}
use Rattle.ox_runestone.specs.declared.stone.RuneId.{RuneId}
use Rattle.ox_runestone.specs.declared.stone.Terms.{Terms}
use Rattle.ox_allocation.specs.Balances.{Balance, id_cmp}
use Rattle.ox_allocation.proofs.Ids.{ids_total}
use Rattle.ox_etching.specs.declared.row.RuneRow.{RuneRow}
use Rattle.ox_ledger.specs.declared.part.CountChange.{CountChange}
use Rattle.ox_model.specs.Index.{Index}
use Rattle.ox_model.specs.declared.change.Change.{Change}
use Rattle.ox_rows.specs.Reading.{rising_at}
use Rattle.ox_rows.specs.Fits.{FitsList, FitsText, IsHash}
use Rattle.ox_rows.specs.Spelling.{hash, list, optional, sats, text}
use Rattle.ox_rows.specs.RowSpelling.{balance, change_rows, count_change, index_rows, inscription, inscription_id, out_row, output, placement, rune, rune_id, terms}
use Rattle.ox_rows.specs.RowFits.{FitsBalance, FitsChange, FitsCountChange, FitsCounts, FitsHeld, FitsIndex, FitsInsId, FitsInscription, FitsOutPoint, FitsOutRow, FitsOutput, FitsOutputs, FitsPlacement, FitsPlacements, FitsRune, FitsRuneId, FitsTerms, is_character}
use Rattle.ox_rows.specs.RowReading.{amount_at, balances_at, change_at, change_of, character_at, count_change_of, counts_at, counts_then_at, counts_then_of, hashes_at, ids_at, index_at, index_of, inscription_at, inscription_id_at, inscription_id_of, inscription_of, inscriptions_at, optional_128_at, optional_64_at, optional_character_at, optional_id_at, optional_terms_at, optional_text_at, out_row_at, out_row_of, outpoint_at, outpoint_of, outputs_at, placements_at, rune_at, rune_id_at, rune_id_of, rune_of, runes_at, terms_at, terms_of}
use Rattle.ox_rows.specs.declared.counts.CountsThen.{CountsThen}
use Rattle.ox_rows.proofs.ReaderLaws.{◌then◌, by_fields, law_as, law8, law16, law32, law64, law128, list_law, no_fields, optional_law, text_law}
use Rattle.ox_rows.proofs.RisingLaws.{FitsItem, FitsRows, item_of, keys_rise, second_true, rises_from_sorted, rows_law, sorted_by_keys, sorted_from_rises}
use Rattle.ox_rows.proofs.SatsLaws.{sats_law}

-- ---- ids

outpoint_law : Law FitsOutPoint outpoint outpoint_at
unfolding outpoint_at
outpoint_law =
    by_fields (no_fields outpoint_of then run_law 32 then law32) FitsOutPoint outpoint (λ (o : OutPoint). ((tt, o.txid.0), o.index))
    (λ p h. record { txid = h.0.1; index = h.1 }) (λ p h. refl) (λ o h. ((tt, h.txid), h.index)) (λ o. refl)

inscription_id_law : Law FitsInsId inscription_id inscription_id_at
unfolding inscription_id_at
inscription_id_law =
    by_fields (no_fields inscription_id_of then run_law 32 then law32) FitsInsId inscription_id (λ (o : InsId). ((tt, o.txid), o.index))
    (λ p h. record { txid = h.0.1; index = h.1 }) (λ p h. refl) (λ o h. ((tt, h.txid), h.index)) (λ o. refl)

rune_id_law : Law FitsRuneId rune_id rune_id_at
unfolding rune_id_at
rune_id_law =
    by_fields (no_fields rune_id_of then law64 then law32) FitsRuneId rune_id (λ (o : RuneId). ((tt, o.block), o.tx))
    (λ p h. record { block = h.0.1; tx = h.1 }) (λ p h. refl) (λ o h. ((tt, h.block), h.tx)) (λ o. refl)

-- ---- rows of outputs

out_row_law : Law FitsOutRow out_row out_row_at
unfolding out_row_at
out_row_law =
    by_fields (no_fields out_row_of then text_law then law32 then sats_law) FitsOutRow out_row (λ (r : OutRow). (((tt, r.script), r.height), r.sats))
    (λ p h. record { script = h.0.0.1; height = h.0.1; sats = h.1 }) (λ p h. refl) (λ r h. (((tt, h.script), h.height), h.sats)) (λ r. refl)

pub outputs_law : Law FitsOutputs (list output) outputs_at
unfolding outputs_at
outputs_law =
    law_as
    (λ es h. record { rising = sorted_from_rises outpoints_total es h.2; each = (h.0, All-from_recursion FitsOutput es h.1) })
    (λ es h. (h.each.0, recursion_from_All FitsOutput es h.each.1, rises_from_sorted outpoints_total es h.rising))
    (rows_law outpoint_cmp FitsOutPoint FitsOutRow outpoint out_row outpoint_at out_row_at outpoint_law out_row_law (λ n. n < 2 ^ 32) (to_le_bytes w32) (number_at w32) law32)

-- ---- options and lists of ids

optional_text_law : Law (λ (x : Option (List ℕ)). IfSome x FitsText) (optional text) optional_text_at
optional_text_law = optional_law text_law

optional_id_law : Law (λ (x : Option InsId). IfSome x FitsInsId) (optional inscription_id) optional_id_at
optional_id_law = optional_law inscription_id_law

optional_64_law : Law (λ (x : Option ℕ). IfSome x (λ n. n < 2 ^ 64)) (optional (to_le_bytes w64)) optional_64_at
optional_64_law = optional_law law64

optional_128_law : Law (λ (x : Option ℕ). IfSome x (λ n. n < 2 ^ 128)) (optional (to_le_bytes w128)) optional_128_at
optional_128_law = optional_law law128

ids_law : Law (FitsList FitsInsId) (list inscription_id) ids_at
ids_law = list_law inscription_id_law

-- ---- rows of inscriptions

pub inscription_law : Law FitsInscription inscription inscription_at
unfolding inscription_at
inscription_law =
    by_fields
    (no_fields inscription_of then inscription_id_law then law32 then optional_text_law then optional_text_law then optional_text_law then optional_text_law then optional_text_law
    then optional_id_law then optional_text_law then ids_law then law16 then optional_64_law)
    FitsInscription inscription
    (λ (r : InsRow). ((((((((((((tt, r.id), r.height), r.content_type), r.body), r.metadata), r.metaprotocol), r.encoding), r.delegate), r.pointer), r.parents), r.marks), r.sat))
    (λ p h. record {
      id = h.0.0.0.0.0.0.0.0.0.0.0.1;
      height = h.0.0.0.0.0.0.0.0.0.0.1;
      content_type = h.0.0.0.0.0.0.0.0.0.1;
      body = h.0.0.0.0.0.0.0.0.1;
      metadata = h.0.0.0.0.0.0.0.1;
      metaprotocol = h.0.0.0.0.0.0.1;
      encoding = h.0.0.0.0.0.1;
      delegate = h.0.0.0.0.1;
      pointer = h.0.0.0.1;
      parents = h.0.0.1;
      marks = h.0.1;
      sat = h.1;
    }) (λ p h. refl)
    (λ r h. ((((((((((((tt, h.id), h.height), h.content_type), h.body), h.metadata), h.metaprotocol), h.encoding), h.delegate), h.pointer), h.parents), h.marks), h.sat))
    (λ r. refl)

pub inscriptions_law : Law (FitsList FitsInscription) (list inscription) inscriptions_at
inscriptions_law = list_law inscription_law

-- ---- rows of runes

terms_law : Law FitsTerms terms terms_at
unfolding terms_at
terms_law =
    by_fields (no_fields terms_of then optional_128_law then optional_128_law then optional_64_law then optional_64_law then optional_64_law then optional_64_law) FitsTerms terms
    (λ (t : Terms). ((((((tt, t.amount), t.cap), t.height_start), t.height_end), t.offset_start), t.offset_end))
    (λ p h. record {
      amount = h.0.0.0.0.0.1;
      cap = h.0.0.0.0.1;
      height_start = h.0.0.0.1;
      height_end = h.0.0.1;
      offset_start = h.0.1;
      offset_end = h.1;
    }) (λ p h. refl)
    (λ t h. ((((((tt, h.amount), h.cap), h.height_start), h.height_end), h.offset_start), h.offset_end)) (λ t. refl)

optional_terms_law : Law (λ (x : Option Terms). IfSome x FitsTerms) (optional terms) optional_terms_at
optional_terms_law = optional_law terms_law

not_not : (b : Bool) → not b ≡ false → b ≡ true
not_not true e = refl
not_not false e = absurd cc

once_not : (b : Bool) → b ≡ true → not b ≡ false
once_not true e = refl
once_not false e = absurd cc

-- a character's number is below 2 ^ 32
character_small : (n : ℕ) → is_character n ≡ true → n < 2 ^ 32
character_small n e = by_test (nat_lt n 55296) refl where
  by_test : (b : Bool) → nat_lt n 55296 ≡ b → n < 2 ^ 32
  by_test true lt = let small = ltb-true n 55296 lt in omega arith
  by_test false above =
      let both : (nat_le 57344 n && nat_lt n 1114112) ≡ true = subst (λ (b : Bool). (b || (nat_le 57344 n && nat_lt n 1114112)) ≡ true) above e in
      let small = ltb-true n 1114112 (second_true (nat_le 57344 n) (nat_lt n 1114112) both) in
      omega arith

character_law : Law (λ (c : ℕ). IsTrue (is_character c)) (to_le_bytes w32) character_at
unfolding character_at
character_law =
    law_as (λ c h. not_not (is_character c) h.1) (λ c h. (character_small c h, once_not (is_character c) h))
    (unless_law (λ n. not (is_character n)) (λ n. n < 2 ^ 32) (to_le_bytes w32) (number_at w32) law32)

optional_character_law : Law (λ (x : Option ℕ). IfSome x (λ c. IsTrue (is_character c))) (optional (to_le_bytes w32)) optional_character_at
optional_character_law = optional_law character_law

pub rune_law : Law FitsRune rune rune_at
unfolding rune_at
rune_law =
    by_fields
    (no_fields rune_of then rune_id_law then law128 then law32 then law8 then optional_character_law then law128 then optional_terms_law then law128 then law128 then run_law 32)
    FitsRune rune
    (λ (r : RuneRow). ((((((((((tt, r.id), r.name), r.spacers), r.divisibility), r.symbol), r.premine), r.terms), r.mints), r.burned), r.etching.0))
    (λ p h. record {
      id = h.0.0.0.0.0.0.0.0.0.1;
      name = h.0.0.0.0.0.0.0.0.1;
      spacers = h.0.0.0.0.0.0.0.1;
      divisibility = h.0.0.0.0.0.0.1;
      symbol = h.0.0.0.0.0.1;
      premine = h.0.0.0.0.1;
      terms = h.0.0.0.1;
      mints = h.0.0.1;
      burned = h.0.1;
      etching = h.1;
    }) (λ p h. refl)
    (λ r h. ((((((((((tt, h.id), h.name), h.spacers), h.divisibility), h.symbol), h.premine), h.terms), h.mints), h.burned), h.etching)) (λ r. refl)

pub runes_law : Law (FitsList FitsRune) (list rune) runes_at
runes_law = list_law rune_law

pub hashes_law : Law (FitsList IsHash) (list hash) hashes_at
hashes_law = list_law (run_law 32)

-- ---- balances

abbrev IsAmount : ℕ → Type 0
IsAmount n = (n < 2 ^ 128) × (eqb n 0 ≡ false)

amount_law : Law IsAmount (to_le_bytes w128) amount_at
unfolding amount_at
amount_law = unless_law (λ n. eqb n 0) (λ n. n < 2 ^ 128) (to_le_bytes w128) (number_at w128) law128

positive : (n : ℕ) → eqb n 0 ≡ false → 0 < n
positive zero e = absurd cc
positive (suc n) e = omega arith

not_zero : (n : ℕ) → 0 < n → eqb n 0 ≡ false
not_zero n some = ne_eqb n 0 (λ e. omega arith)

some_amounts : (es : List Balance) → AllByRecursion (FitsItem FitsRuneId IsAmount) es → AllByRecursion (λ amount. 0 < amount) (values_of es) × AllByRecursion FitsBalance es
some_amounts [] h = (tt, tt)
some_amounts (e ∷ es) h = let rest = some_amounts es h.1 in ((positive e.1 h.0.1.1, rest.0), ((h.0.0, h.0.1.0), rest.1))

each_amount : (es : List Balance) → AllByRecursion (λ amount. 0 < amount) (values_of es) → AllByRecursion FitsBalance es → AllByRecursion (FitsItem FitsRuneId IsAmount) es
each_amount [] some fits = tt
each_amount (e ∷ es) some fits = ((fits.0.0, (fits.0.1, not_zero e.1 some.0)), each_amount es some.1 fits.1)

balances_law : Law FitsHeld (list balance) balances_at
unfolding balances_at
balances_law =
    law_as
    (λ es h.
    let amounts = some_amounts es h.1 in record {
      held = record {
        some = positive (length es) h.0.1;
        proper = record { rising = keys_rise ids_total es (sorted_from_rises ids_total es h.2); some = All-from_recursion (λ amount. 0 < amount) (values_of es) amounts.0 };
      };
      each = (h.0.0, All-from_recursion FitsBalance es amounts.1);
    })
    (λ es h. (
      (h.each.0, not_zero (length es) h.held.some),
      each_amount es (recursion_from_All (λ amount. 0 < amount) (values_of es) h.held.proper.some) (recursion_from_All FitsBalance es h.each.1),
      rises_from_sorted ids_total es (sorted_by_keys ids_total es h.held.proper.rising),
    ))
    (rows_law id_cmp FitsRuneId IsAmount rune_id (to_le_bytes w128) rune_id_at amount_at rune_id_law amount_law (λ n. (n < 2 ^ 32) × (eqb n 0 ≡ false)) (to_le_bytes w32) (unless (λ n. eqb n 0) (number_at w32))
    (unless_law (λ n. eqb n 0) (λ n. n < 2 ^ 32) (to_le_bytes w32) (number_at w32) law32))

pub placements_law : Law FitsPlacements (list placement) placements_at
unfolding placements_at
placements_law =
    law_as
    (λ es h. record { rising = sorted_from_rises outpoints_total es h.2; each = (h.0, All-from_recursion FitsPlacement es h.1) })
    (λ es h. (h.each.0, recursion_from_All FitsPlacement es h.each.1, rises_from_sorted outpoints_total es h.rising))
    (rows_law outpoint_cmp FitsOutPoint FitsHeld outpoint (list balance) outpoint_at balances_at outpoint_law balances_law (λ n. n < 2 ^ 32) (to_le_bytes w32) (number_at w32) law32)

-- ---- counts

record FitsThen (t : CountsThen) : Type 0 where
  mints_before : t.mints_before < 2 ^ 128
  mints_after : t.mints_after < 2 ^ 128
  burned_before : t.burned_before < 2 ^ 128
  burned_after : t.burned_after < 2 ^ 128

abbrev then_text : CountsThen → List ℕ
then_text t = to_le_bytes w128 t.mints_before ++ to_le_bytes w128 t.mints_after ++ to_le_bytes w128 t.burned_before ++ to_le_bytes w128 t.burned_after

then_law : Law FitsThen then_text counts_then_at
unfolding counts_then_at
then_law =
    by_fields (no_fields counts_then_of then law128 then law128 then law128 then law128) FitsThen then_text
    (λ (t : CountsThen). ((((tt, t.mints_before), t.mints_after), t.burned_before), t.burned_after))
    (λ p h. record { mints_before = h.0.0.0.1; mints_after = h.0.0.1; burned_before = h.0.1; burned_after = h.1 }) (λ p h. refl)
    (λ t h. ((((tt, h.mints_before), h.mints_after), h.burned_before), h.burned_after)) (λ t. refl)

abbrev Row : Type 0
Row = ℕ × CountsThen

abbrev row_of : CountChange → Row
row_of c = (c.place, record { mints_before = c.before.mints; mints_after = c.after.mints; burned_before = c.before.burned; burned_after = c.after.burned })

places_are : (es : List Row) → map (λ (c : CountChange). c.place) (map count_change_of es) ≡ keys_of es
places_are [] = refl
places_are (e ∷ es) = ap (λ (ks : List ℕ). e.0 ∷ ks) (places_are es)

as_many : (es : List Row) → length (map count_change_of es) ≡ length es
as_many [] = refl
as_many (e ∷ es) = ap suc (as_many es)

rows_fit : (es : List Row) → AllByRecursion (FitsItem (λ n. n < 2 ^ 32) FitsThen) es → AllByRecursion FitsCountChange (map count_change_of es)
rows_fit [] h = tt
rows_fit (e ∷ es) h =
    (record { place = h.0.0; mints_before = h.0.1.mints_before; mints_after = h.0.1.mints_after; burned_before = h.0.1.burned_before; burned_after = h.0.1.burned_after }, rows_fit es h.1)

rows_text : (es : List Row) → flat_map count_change (map count_change_of es) ≡ flat_map (item_of (to_le_bytes w32) then_text) es
rows_text [] = refl
rows_text (e ∷ es) =
    flat_map-cons count_change (count_change_of e) (map count_change_of es) ∙ ap (λ (rest : List ℕ). count_change (count_change_of e) ++ rest) (rows_text es)
    ∙ sym (flat_map-cons (item_of (to_le_bytes w32) then_text) e es)

back_rows : (cs : List CountChange) → map count_change_of (map row_of cs) ≡ cs
back_rows [] = refl
back_rows (c ∷ cs) = ap (λ (rest : List CountChange). c ∷ rest) (back_rows cs)

rows_many : (cs : List CountChange) → length (map row_of cs) ≡ length cs
rows_many [] = refl
rows_many (c ∷ cs) = ap suc (rows_many cs)

rows_keys : (cs : List CountChange) → keys_of (map row_of cs) ≡ map (λ (c : CountChange). c.place) cs
rows_keys [] = refl
rows_keys (c ∷ cs) = ap (λ (ks : List ℕ). c.place ∷ ks) (rows_keys cs)

changes_fit : (cs : List CountChange) → AllByRecursion FitsCountChange cs → AllByRecursion (FitsItem (λ n. n < 2 ^ 32) FitsThen) (map row_of cs)
changes_fit [] h = tt
changes_fit (c ∷ cs) h =
    ((h.0.place, record { mints_before = h.0.mints_before; mints_after = h.0.mints_after; burned_before = h.0.burned_before; burned_after = h.0.burned_after }), changes_fit cs h.1)

pub counts_law : Law FitsCounts (list count_change) counts_at
unfolding counts_at
counts_law =
    reading_map_law (map count_change_of) (map row_of) (FitsRows nat_cmp (λ n. n < 2 ^ 32) FitsThen (to_le_bytes w32) then_text (number_at w32) counts_then_at law32 then_law (λ n. n < 2 ^ 32)) FitsCounts
    (λ (es : List Row). to_le_bytes w32 (length es) ++ flat_map (item_of (to_le_bytes w32) then_text) es) (list count_change)
    (λ at. number_at w32 at >>= λ n. rising_at nat_cmp (number_at w32) counts_then_at None n.0 n.1)
    (λ es h. record {
      rising = subst (IsStrictlySortedBy nat_cmp) (sym (places_are es)) (keys_rise nat_cmp_total es (sorted_from_rises nat_cmp_total es h.2));
      each = (subst (λ (n : ℕ). n < 2 ^ 32) (sym (as_many es)) h.0, All-from_recursion FitsCountChange (map count_change_of es) (rows_fit es h.1));
    })
    (λ es h. λ i. to_le_bytes w32 (as_many es i) ++ rows_text es i)
    (λ cs h. (
      subst (λ (n : ℕ). n < 2 ^ 32) (sym (rows_many cs)) h.each.0,
      changes_fit cs (recursion_from_All FitsCountChange cs h.each.1),
      rises_from_sorted nat_cmp_total (map row_of cs) (sorted_by_keys nat_cmp_total (map row_of cs) (subst (IsStrictlySortedBy nat_cmp) (sym (rows_keys cs)) h.rising)),
    ))
    (λ cs h. back_rows cs)
    (rows_law nat_cmp (λ n. n < 2 ^ 32) FitsThen (to_le_bytes w32) then_text (number_at w32) counts_then_at law32 then_law (λ n. n < 2 ^ 32) (to_le_bytes w32) (number_at w32) law32)

-- ---- a change

pub change_law : Law FitsChange change_rows change_at
unfolding change_at change_rows
change_law =
    by_fields
    (no_fields change_of then run_law 32 then outputs_law then outputs_law then sats_law then inscriptions_law then placements_law then placements_law then counts_law then runes_law)
    FitsChange change_rows
    (λ (c : Change). (((((((((tt, c.hash), c.gone), c.came), c.lost), c.inscriptions), c.runes.before), c.runes.after), c.runes.counts), c.runes.appended))
    (λ p h. record {
      hash = h.0.0.0.0.0.0.0.0.1;
      gone = h.0.0.0.0.0.0.0.1;
      came = h.0.0.0.0.0.0.1;
      lost = h.0.0.0.0.0.1;
      inscriptions = h.0.0.0.0.1;
      before = h.0.0.0.1;
      after = h.0.0.1;
      counts = h.0.1;
      appended = h.1;
    }) (λ p h. refl)
    (λ c h. (((((((((tt, h.hash), h.gone), h.came), h.lost), h.inscriptions), h.before), h.after), h.counts), h.appended)) (λ c. refl)

-- ---- an index

module _ {K X : Type 0} {R : K → K → Ordering} (o : IsTotalOrder R) (same : IsAntisymmetric R) where
  pub entries_back : (es : List (K × X)) → IsTrue (is_sorted R es) → entries (from_entries {R = R} es) ≡ es
  entries_back es h =
      let t : T (is_sorted R es) = subst T (sym h) tt in
      ap entries (same_map o same (from_entries es) (from_sorted es) (λ q. get-from_entries o es q ∙ sym (get-from_sorted R es q t))) ∙ entries-from_sorted R es t

  from_back : (m : FinMap R X) → from_entries (entries m) ≡ m
  from_back m = same_map o same (from_entries (entries m)) m (λ q. get-from_entries o (entries m) q ∙ sym (get-entries m q))

pub index_law : Law FitsIndex index_rows index_at
unfolding index_at index_rows
index_law =
    by_fields
    (no_fields index_of then hashes_law then outputs_law then sats_law then inscriptions_law then placements_law then runes_law)
    FitsIndex index_rows
    (λ (i : Index). ((((((tt, i.hashes), entries i.outs), i.lost), i.inscriptions), entries i.bal), i.runes))
    (λ p h. record {
      hashes = h.0.0.0.0.0.1;
      outs = subst FitsOutputs (sym (entries_back outpoints_total outpoints_exact p.0.0.0.0.1 h.0.0.0.0.1.rising)) h.0.0.0.0.1;
      lost = h.0.0.0.1;
      inscriptions = h.0.0.1;
      bal = subst FitsPlacements (sym (entries_back outpoints_total outpoints_exact p.0.1 h.0.1.rising)) h.0.1;
      runes = h.1;
    })
    (λ p h. λ i. list hash p.0.0.0.0.0.1 ++ list output (entries_back outpoints_total outpoints_exact p.0.0.0.0.1 h.0.0.0.0.1.rising i)
    ++ sats p.0.0.0.1 ++ list inscription p.0.0.1 ++ list placement (entries_back outpoints_total outpoints_exact p.0.1 h.0.1.rising i) ++ list rune p.1)
    (λ i h. ((((((tt, h.hashes), h.outs), h.lost), h.inscriptions), h.bal), h.runes))
    (λ index. λ i. record index { outs = from_back outpoints_total outpoints_exact index.outs i; bal = from_back outpoints_total outpoints_exact index.bal i })
