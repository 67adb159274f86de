-- No step of a transfer makes or loses a satoshi: how often each stands in the lists stays the same.
use Rattle.std.proofs.Common.{◌≡◌, ◌∙◌, ℕ, suc, ◌+◌, Bool, true, false, cond, List, [], ◌∷◌, ◌++◌, length, take, drop, refl, ap, subst, arith, Option, Some, None, Result, Ok, Err, nat_lt}
use Rattle.std.specs.Prelude.{◌==◌, map}
use Rattle.std.specs.Option.{option_map, option_map_or}
use Rattle.std.specs.FinMap.{entries, get, insert, remove}
use Rattle.std.proofs.lemmas.List.Sums.{sum_by-append}
use Rattle.std.proofs.lemmas.List.{take-append-drop}
use Rattle.ox_bytes.specs.Reading.{◌>>=◌}
use Rattle.ox_block.specs.declared.block.Txid.{Txid}
use Rattle.ox_block.specs.declared.block.OutPoint.{OutPoint}
use Rattle.ox_block.specs.declared.block.TxIn.{TxIn}
use Rattle.ox_block.specs.declared.block.TxOut.{TxOut}
use Rattle.ox_rules.specs.declared.rows.OutRow.{OutRow}
use Rattle.ox_rules.specs.declared.refusal.Refusal.{Refusal}
use Rattle.ox_rules.specs.declared.refusal.Refusal.TheVariants.{UnknownOutput}
use Rattle.ox_rules.specs.Deal.{all_parts, deal}
use Rattle.ox_rules.specs.Outputs.{Outputs, sats_of, sats_held, times}
use Rattle.ox_rules.specs.Transfer.{or_refuse, Taken, take_rows, Placed, as_list, place_rows}
use Rattle.ox_rules.proofs.MapSums.{total, total_insert, total_remove}
use Rattle.ox_rules.proofs.Orders.{outpoints_total, outpoints_exact}

pub times-append : (sat : ℕ) (xs ys : List ℕ) → times sat (xs ++ ys) ≡ times sat xs + times sat ys
times-append sat xs ys = sum_by-append (λ s. cond (s == sat) 1 0) xs ys

pub some_same : {A : Type 0} (x y : A) → Some x ≡ Some y → x ≡ y
some_same x y is = cc

-- what is dealt is the list, and there is a part for each length
pub record Dealt (sat : ℕ) (list lengths : List ℕ) (dealt : List (List ℕ) × List ℕ) : Type 0 where
  pub keeps : times sat list ≡ times sat (all_parts dealt.0) + times sat dealt.1
  pub each : length dealt.0 ≡ length lengths

none_dealt : (sat : ℕ) (list : List ℕ) → Dealt sat list [] ([], list)
none_dealt sat list = record { keeps = omega arith; each = refl }

more_dealt : (sat n : ℕ) (list lengths : List ℕ) (rest : List (List ℕ) × List ℕ) → Dealt sat (drop n list) lengths rest → Dealt sat list (n ∷ lengths) (take n list ∷ rest.0, rest.1)
more_dealt sat n list lengths rest d = record {
  keeps =
      let whole : times sat (take n list ++ drop n list) ≡ times sat list = ap (times sat) (take-append-drop n list) in
      omega (arith, whole, times-append sat (take n list) (drop n list), times-append sat (take n list) (all_parts rest.0), d.keeps);
  each = ap (λ (k : ℕ). suc k) d.each;
}

onward : (sat n : ℕ) (list lengths : List ℕ) (dealt : List (List ℕ) × List ℕ) (d : Option (List (List ℕ) × List ℕ)) → ((rest : List (List ℕ) × List ℕ) → d ≡ Some rest → Dealt sat (drop n list) lengths rest) → option_map (λ rest. (take n list ∷ rest.0, rest.1)) d ≡ Some dealt → Dealt sat list (n ∷ lengths) dealt
onward sat n list lengths dealt None each is = absurd (cc is)
onward sat n list lengths dealt (Some rest) each is = subst (Dealt sat list (n ∷ lengths)) (some_same _ _ is) (more_dealt sat n list lengths rest (each rest refl))

tested : (sat n : ℕ) (list lengths : List ℕ) (dealt : List (List ℕ) × List ℕ) (d : Option (List (List ℕ) × List ℕ)) (short : Bool) → ((rest : List (List ℕ) × List ℕ) → d ≡ Some rest → Dealt sat (drop n list) lengths rest) → cond short None (option_map (λ rest. (take n list ∷ rest.0, rest.1)) d) ≡ Some dealt → Dealt sat list (n ∷ lengths) dealt
tested sat n list lengths dealt d true each is = absurd (cc is)
tested sat n list lengths dealt d false each is = onward sat n list lengths dealt d each is

pub deal_keeps : (sat : ℕ) (list lengths : List ℕ) (dealt : List (List ℕ) × List ℕ) → deal list lengths ≡ Some dealt → Dealt sat list lengths dealt
deal_keeps sat list [] dealt is = subst (Dealt sat list []) (some_same _ _ is) (none_dealt sat list)
deal_keeps sat list (n ∷ lengths) dealt is = tested sat n list lengths dealt _ (nat_lt (length list) n) (deal_keeps sat (drop n list) lengths) is

-- ---- the table

-- how often a satoshi stands in the rows of the table
abbrev pub times_in : ℕ → Outputs → ℕ
times_in sat outs = total outpoints_total (λ (row : OutRow). times sat row.sats) (entries outs)

held_rows : (sat : ℕ) (es : List (OutPoint × OutRow)) → times sat (sats_of (map (λ e. e.1) es)) ≡ total outpoints_total (λ (row : OutRow). times sat row.sats) es
held_rows sat [] = refl
held_rows sat (e ∷ es) = times-append sat e.1.sats (sats_of (map (λ e. e.1) es)) ∙ ap (λ (n : ℕ). times sat e.1.sats + n) (held_rows sat es)

pub times_held : (sat : ℕ) (outs : Outputs) → times sat (sats_held outs) ≡ times_in sat outs
times_held sat outs = held_rows sat (entries outs)

times_option : (sat : ℕ) (row : Option OutRow) → times sat (sats_of (as_list row)) ≡ option_map_or (λ (row : OutRow). times sat row.sats) row 0
times_option sat None = refl
times_option sat (Some row) = times-append sat row.sats [] ∙ omega arith

-- ok r x : r is that value
pub bind_ok : {A B F : Type 0} (r : Result A F) (f : A → Result B F) (y : B) → (r >>= f) ≡ Ok y → (x : A) × (r ≡ Ok x) × (f x ≡ Ok y)
bind_ok (Ok x) f y is = (x, refl, is)
bind_ok (Err e) f y is = absurd (cc is)

pub ok_same : {A F : Type 0} (x y : A) → ◌≡◌ {A = Result A F} (Ok x) (Ok y) → x ≡ y
ok_same x y is = cc

pub chosen : {A : Type 0} (refusal : Refusal) (o : Option A) (x : A) → or_refuse refusal o ≡ Ok x → o ≡ Some x
chosen refusal None x is = absurd (cc is)
chosen refusal (Some y) x is = ap (λ (z : _). Some z) (ok_same {F = Refusal} y x is)

-- what the rows that are taken and the table that is left hold is what the table held
pub record Takes (sat : ℕ) (outs : Outputs) (taken : Taken) : Type 0 where
  pub keeps : times_in sat outs ≡ times sat (sats_of taken.rows) + times_in sat taken.outs

no_input : (sat : ℕ) (outs : Outputs) → Takes sat outs (record { rows = []; outs = outs })
no_input sat outs = record { keeps = omega arith }

more_input : (sat : ℕ) (outs : Outputs) (at : OutPoint) (row : OutRow) (rest : Taken) → get outs at ≡ Some row → Takes sat (remove outs at) rest → Takes sat outs (record { rows = row ∷ rest.rows; outs = rest.outs })
more_input sat outs at row rest there takes = record {
  keeps = omega (arith, takes.keeps, total_remove outpoints_total outpoints_exact (λ (row : OutRow). times sat row.sats) outs at row there, times-append sat row.sats (sats_of rest.rows));
}

pub take_keeps : (sat tx place : ℕ) (inputs : List TxIn) (outs : Outputs) (taken : Taken) → take_rows tx place inputs outs ≡ Ok taken → Takes sat outs taken
take_keeps sat tx place [] outs taken is = subst (Takes sat outs) (ok_same {F = Refusal} _ _ is) (no_input sat outs)
take_keeps sat tx place (input ∷ inputs) outs taken is =
    let row = bind_ok (or_refuse (UnknownOutput tx place input.from) (get outs input.from)) _ taken is in
    let rest = bind_ok (take_rows tx (place + 1) inputs (remove outs input.from)) _ taken row.2 in
    subst (Takes sat outs) (ok_same {F = Refusal} _ _ rest.2) (more_input sat outs input.from row.0 rest.0 (chosen _ _ _ row.1) (take_keeps sat tx (place + 1) inputs (remove outs input.from) rest.0 rest.1))

-- what is placed and what the table held is what the table and the displaced rows hold then
pub record Places (sat : ℕ) (outs : Outputs) (parts : List (List ℕ)) (placed : Placed) : Type 0 where
  pub keeps : times_in sat outs + times sat (all_parts parts) ≡ times_in sat placed.outs + times sat (sats_of placed.displaced)

no_output : (sat : ℕ) (outs : Outputs) → Places sat outs [] (record { displaced = []; outs = outs })
no_output sat outs = record { keeps = omega arith }

pub sats_of-append : (sat : ℕ) (xs ys : List OutRow) → times sat (sats_of (xs ++ ys)) ≡ times sat (sats_of xs) + times sat (sats_of ys)
sats_of-append sat [] ys = omega arith
sats_of-append sat (x ∷ xs) ys = omega (arith, sats_of-append sat xs ys, times-append sat x.sats (sats_of (xs ++ ys)), times-append sat x.sats (sats_of xs))

more_output : (sat : ℕ) (outs : Outputs) (at : OutPoint) (row : OutRow) (parts : List (List ℕ)) (rest : Placed) → Places sat (insert outs at row) parts rest → Places sat outs (row.sats ∷ parts) (record { displaced = as_list (get outs at) ++ rest.displaced; outs = rest.outs })
more_output sat outs at row parts rest places = record {
  keeps = omega (arith, places.keeps, total_insert outpoints_total (λ (row : OutRow). times sat row.sats) outs at row, times-append sat row.sats (all_parts parts), sats_of-append sat (as_list (get outs at)) rest.displaced, times_option sat (get outs at));
}

pub place_keeps : (sat height : ℕ) (txid : Txid) (index : ℕ) (outputs : List TxOut) (parts : List (List ℕ)) (outs : Outputs) → length parts ≡ length outputs → Places sat outs parts (place_rows height txid index outputs parts outs)
place_keeps sat height txid index [] [] outs each = no_output sat outs
place_keeps sat height txid index [] (part ∷ parts) outs each = absurd (cc each)
place_keeps sat height txid index (output ∷ outputs) [] outs each = absurd (cc each)
place_keeps sat height txid index (output ∷ outputs) (part ∷ parts) outs each =
    more_output sat outs (record { txid = txid; index = index }) (record { script = output.script; height = height; sats = part }) parts _
    (place_keeps sat height txid (index + 1) outputs parts _ (cc each))
