-- A transaction's satoshis move in order.
use Rattle.std.proofs.Common.{◌≡◌, ◌≢◌, ◌∙◌, ◌≤◌, ℕ, zero, suc, ◌+◌, Bool, true, false, cond, List, [], ◌∷◌, length, take, drop, refl, sym, ap, ap₂, subst, arith, Option, Some, None, Ordering}
use Rattle.std.specs.Prelude.{map, sum, slice_get, Result, Ok}
use Rattle.std.specs.FinMap.{get, insert, get-insert}
use Rattle.std.specs.declared.cmp.Ordering.TheVariants.{Less, Equal, Greater}
use Rattle.std.specs.Ordering.{eq_by_cmp, is_eq}
use Rattle.std.proofs.lemmas.Cmp.{eq_by_cmp_equiv}
use Rattle.std.proofs.lemmas.List.{drop-drop}
use Rattle.std.proofs.lemmas.List.Sums.{sum_by-cons}
use Rattle.ox_block.specs.declared.block.OutPoint.{OutPoint}
use Rattle.ox_block.specs.declared.block.Tx.{Tx}
use Rattle.ox_block.specs.declared.block.TxOut.{TxOut}
use Rattle.ox_block.specs.declared.block.Txid.{Txid}
use Rattle.ox_rules.specs.declared.rows.OutRow.{OutRow}
use Rattle.ox_rules.specs.declared.refusal.Refusal.{Refusal}
use Rattle.ox_rules.specs.declared.refusal.Refusal.TheVariants.{Overspend}
use Rattle.ox_rules.specs.Outputs.{Outputs, outpoint_cmp, sats_of}
use Rattle.ox_rules.specs.Deal.{deal}
use Rattle.ox_bytes.specs.Reading.{◌>>=◌}
use Rattle.ox_rules.specs.Moves.{MovesInOrder}
use Rattle.ox_rules.specs.Transfer.{Spent, Taken, or_refuse, place_rows, spend, spent_by, take_rows, txid_of, values_of}
use Rattle.ox_rules.proofs.Cutting.{onto, some_same}
use Rattle.ox_rules.proofs.Orders.{outpoints_exact, outpoints_total}

-- ---- outpoints

equal_of : (r : Ordering) → is_eq r ≡ true → r ≡ Equal
equal_of Less e = absurd (cc e)
equal_of Equal e = refl
equal_of Greater e = absurd (cc e)

get_same : (outs : Outputs) (at : OutPoint) (row : OutRow) → get (insert outs at row) at ≡ Some row
get_same outs at row = get-insert outpoints_total outs at row at ∙ ap (λ (b : Bool). cond b (Some row) (get outs at)) ((eq_by_cmp_equiv outpoints_total).refl at)

get_other : (outs : Outputs) (at : OutPoint) (row : OutRow) (q : OutPoint) → q ≢ at → get (insert outs at row) q ≡ get outs q
get_other outs at row q differ = get-insert outpoints_total outs at row q ∙ by_test (eq_by_cmp outpoint_cmp q at) refl
  where
    by_test : (b : Bool) → eq_by_cmp outpoint_cmp q at ≡ b → cond b (Some row) (get outs q) ≡ get outs q
    by_test true e = absurd (differ (outpoints_exact q at (equal_of (outpoint_cmp q at) e)))
    by_test false e = refl

-- ---- rows that are placed

module _ (height : ℕ) (txid : Txid) where
  abbrev at : ℕ → OutPoint
  at index = record { txid = txid; index = index }

  -- an outpoint of another transaction, or before these, stays
  stays : (index : ℕ) (outputs : List TxOut) (parts : List (List ℕ)) (outs : Outputs) (q : OutPoint) → ((k : ℕ) → index ≤ k → q ≢ at k)
      → get (place_rows height txid index outputs parts outs).outs q ≡ get outs q
  stays index [] parts outs q apart = refl
  stays index (output ∷ outputs) [] outs q apart = refl
  stays index (output ∷ outputs) (sats ∷ parts) outs q apart =
      stays (index + 1) outputs parts (insert outs (at index) (record { script = output.script; height = height; sats = sats })) q (λ k le. apart k (omega (arith, le)))
      ∙ get_other outs (at index) (record { script = output.script; height = height; sats = sats }) q (apart index (omega arith))

  before : (index k : ℕ) → index + 1 ≤ k → at index ≢ at k
  before index k le same = omega (arith, le, ap (λ (o : OutPoint). o.index) same)

  placed : (index : ℕ) (outputs : List TxOut) (parts : List (List ℕ)) (outs : Outputs) (k : ℕ) (output : TxOut) (sats : List ℕ)
      → slice_get outputs k ≡ Some output → slice_get parts k ≡ Some sats
      → get (place_rows height txid index outputs parts outs).outs (at (index + k)) ≡ Some (record { script = output.script; height = height; sats = sats })
  placed index [] parts outs k output sats e f = absurd (cc e)
  placed index (o ∷ os) [] outs k output sats e f = absurd (cc f)
  placed index (o ∷ os) (s ∷ parts) outs zero output sats e f =
      let here : index + 0 ≡ index = omega arith in
      let row : TxOut → List ℕ → OutRow = λ x y. record { script = x.script; height = height; sats = y } in
      ap (λ (n : ℕ). get (place_rows height txid (index + 1) os parts (insert outs (at index) (row o s))).outs (at n)) here
      ∙ stays (index + 1) os parts (insert outs (at index) (row o s)) (at index) (before index)
      ∙ get_same outs (at index) (row o s)
      ∙ ap₂ (λ (x : TxOut) (y : List ℕ). Some (row x y)) (some_same _ _ e) (some_same _ _ f)
  placed index (o ∷ os) (s ∷ parts) outs (suc k) output sats e f =
      let next : index + suc k ≡ (index + 1) + k = omega arith in
      ap (λ (n : ℕ). get (place_rows height txid (index + 1) os parts (insert outs (at index) (record { script = o.script; height = height; sats = s }))).outs (at n)) next
      ∙ placed (index + 1) os parts (insert outs (at index) (record { script = o.script; height = height; sats = s })) k output sats e f

-- ---- parts that are dealt

record IsDealt (list lengths : List ℕ) (dealt : List (List ℕ) × List ℕ) : Type 0 where
  parts : (i v : ℕ) → slice_get lengths i ≡ Some v → slice_get dealt.0 i ≡ Some (take v (drop (sum (take i lengths)) list))
  rest : dealt.1 ≡ drop (sum lengths) list

front_part : (n : ℕ) (list lengths : List ℕ) (rest : List (List ℕ) × List ℕ) → IsDealt (drop n list) lengths rest → (i v : ℕ) → slice_get (n ∷ lengths) i ≡ Some v
    → slice_get (take n list ∷ rest.0) i ≡ Some (take v (drop (sum (take i (n ∷ lengths))) list))
front_part n list lengths rest d zero v e = ap (λ (k : ℕ). Some (take k list)) (some_same _ _ e)
front_part n list lengths rest d (suc i) v e =
    d.parts i v e
    ∙ ap (λ (l : List ℕ). Some (take v l)) (drop-drop (sum (take i lengths)) n list ∙ ap (λ (k : ℕ). drop k list) (sym (sum_by-cons (λ (x : ℕ). x) n (take i lengths))))

more_dealt : (n : ℕ) (list lengths : List ℕ) (rest : List (List ℕ) × List ℕ) → IsDealt (drop n list) lengths rest → IsDealt list (n ∷ lengths) (take n list ∷ rest.0, rest.1)
more_dealt n list lengths rest d = record {
  parts = front_part n list lengths rest d;
  rest = d.rest ∙ drop-drop (sum lengths) n list ∙ ap (λ (k : ℕ). drop k list) (sym (sum_by-cons (λ (x : ℕ). x) n lengths));
}

by_rest : (n : ℕ) (list lengths : List ℕ) (dealt : List (List ℕ) × List ℕ) (d : Option (List (List ℕ) × List ℕ)) (short : Bool)
    → ((rest : List (List ℕ) × List ℕ) → d ≡ Some rest → IsDealt (drop n list) lengths rest)
    → cond short None (onto (take n list) d) ≡ Some dealt → IsDealt list (n ∷ lengths) dealt
by_rest n list lengths dealt d true each is = absurd (cc is)
by_rest n list lengths dealt None false each is = absurd (cc is)
by_rest n list lengths dealt (Some rest) false each is = subst (IsDealt list (n ∷ lengths)) (some_same _ _ is) (more_dealt n list lengths rest (each rest refl))

dealt_so : (list lengths : List ℕ) (dealt : List (List ℕ) × List ℕ) → deal list lengths ≡ Some dealt → IsDealt list lengths dealt
dealt_so list [] dealt is = subst (IsDealt list []) (some_same _ _ is) (record { parts = λ i v e. absurd (cc e); rest = refl })
dealt_so list (n ∷ lengths) dealt is = by_rest n list lengths dealt (deal (drop n list) lengths) _ (dealt_so (drop n list) lengths) is

-- ---- a transaction

value_at : (outputs : List TxOut) (i : ℕ) (output : TxOut) → slice_get outputs i ≡ Some output → slice_get (map (λ (o : TxOut). o.value) outputs) i ≡ Some output.value
value_at [] i output e = absurd (cc e)
value_at (o ∷ outputs) zero output e = ap (λ (x : TxOut). Some x.value) (some_same _ _ e)
value_at (o ∷ outputs) (suc i) output e = value_at outputs i output e

ok_same : (x y : Spent) (r : Result Spent Refusal) → r ≡ Ok x → r ≡ Ok y → x ≡ y
ok_same x y r e f = cc

module _ (height place : ℕ) (tx : Tx) (outs : Outputs) (taken : Taken) where
  so : (dealt : List (List ℕ) × List ℕ) → IsDealt (sats_of taken.rows) (values_of tx) dealt → MovesInOrder height tx taken (spent_by height tx taken dealt)
  so dealt d = record {
    made = λ index output there.
        let none : index ≡ 0 + index = omega arith in
        ap (λ (n : ℕ). get (spent_by height tx taken dealt).outs (record { txid = txid_of tx; index = n })) none
        ∙ placed height (txid_of tx) 0 tx.outputs dealt.0 taken.outs index output (take output.value (drop (sum (take index (values_of tx))) (sats_of taken.rows))) there (d.parts index output.value (value_at tx.outputs index output there));
    fees = d.rest;
    others = λ q differ. stays height (txid_of tx) 0 tx.outputs dealt.0 taken.outs q (λ k le same. differ (ap (λ (o : OutPoint). o.txid) same));
  }

  by_deal : (did : Spent) (d : Option (List (List ℕ) × List ℕ)) → deal (sats_of taken.rows) (values_of tx) ≡ d
      → (or_refuse (Overspend place (length (sats_of taken.rows)) (sum (values_of tx))) d >>= (λ dealt. Ok (spent_by height tx taken dealt))) ≡ Ok did → MovesInOrder height tx taken did
  by_deal did None is e = absurd (cc e)
  by_deal did (Some dealt) is e = subst (MovesInOrder height tx taken) (ok_same (spent_by height tx taken dealt) did (Ok (spent_by height tx taken dealt)) refl e) (so dealt (dealt_so _ _ dealt is))

pub moves : (height place : ℕ) (tx : Tx) (outs : Outputs) (taken : Taken) (did : Spent)
    → take_rows place 0 tx.inputs outs ≡ Ok taken → spend height place tx outs ≡ Ok did → MovesInOrder height tx taken did
moves height place tx outs taken did takes is =
    by_deal height place tx outs taken did (deal (sats_of taken.rows) (values_of tx)) refl
    (subst (λ (r : Result Taken Refusal). (r >>= (λ taken. or_refuse (Overspend place (length (sats_of taken.rows)) (sum (values_of tx))) (deal (sats_of taken.rows) (values_of tx)) >>= (λ dealt. Ok (spent_by height tx taken dealt)))) ≡ Ok did) takes is)
