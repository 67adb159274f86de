-- Rows placed one after the other.
use Rattle.std.proofs.Common.{◌≡◌, ◌∙◌, ◌≤◌, ◌<◌, ℕ, ◌+◌, ◌^◌, List, [], ◌∷◌, ◌++◌, length, drop, get_or, refl, sym, ap, subst, append_assoc, length-append, arith, Option, Some}
use Rattle.std.specs.Prelude.{reverse}
use Rattle.std.specs.FinMap.{get, insert}
use Rattle.std.proofs.lemmas.List.{drop_more, drop_all, append-nil, reverse-append, length-reverse}
use Rattle.std.proofs.lemmas.List.Concat.{flat_map-append}
use Rattle.ox_block.specs.declared.block.Txid.{Txid}
use Rattle.ox_block.specs.declared.block.OutPoint.{OutPoint}
use Rattle.ox_block.specs.declared.block.TxOut.{TxOut}
use Rattle.ox_rules.specs.declared.rows.OutRow.{OutRow}
use Rattle.ox_rules.specs.Outputs.{Outputs, sats_of}
use Rattle.ox_rules.specs.Transfer.{Placed, as_list, place_rows}
use Rattle.ox_rules.proofs.Conservation.{times-append}
use Rattle.ox_transfer.specs.Apart.{Apart}
use Rattle.ox_rules.specs.Deal.{all_parts}
use Rattle.ox_transfer.specs.Parts.{placed_of}
use Rattle.ox_transfer.proofs.Once.{fits, apart_less, apart_place, row_held}

-- these displaced rows, and then those of the rest
abbrev pub behind_placed : List OutRow → Placed → Placed
behind_placed displaced rest = placed_of (displaced ++ rest.displaced) rest.outs

pub sats_append : (xs ys : List OutRow) → sats_of (xs ++ ys) ≡ sats_of xs ++ sats_of ys
sats_append xs ys = flat_map-append (λ (row : OutRow). row.sats) xs ys

-- the last one that is taken off is the first of the reverse
pub popped : (parts rest : List (List ℕ)) (part : List ℕ) → parts ≡ rest ++ part ∷ [] → reverse parts ≡ part ∷ reverse rest
popped parts rest part is = ap reverse is ∙ reverse-append rest (part ∷ [])

pub place_more : (height : ℕ) (txid : Txid) (i : ℕ) (outputs : List TxOut) (parts rest : List (List ℕ)) (outs next : Outputs) (displaced more : List OutRow) (output : TxOut) (part : List ℕ) (whole : Placed) → i < length outputs → output ≡ get_or outputs i output → parts ≡ rest ++ part ∷ []
    → next ≡ insert outs (record { txid = txid; index = i }) (record { script = output.script; height = height; sats = part }) → more ≡ displaced ++ as_list (get outs (record { txid = txid; index = i }))
    → whole ≡ behind_placed displaced (place_rows height txid i (drop i outputs) (reverse parts) outs) → whole ≡ behind_placed more (place_rows height txid (i + 1) (drop (i + 1) outputs) (reverse rest) next)
place_more height txid i outputs parts rest outs next displaced more output part whole lt here last placed grown so_far =
    let at : OutPoint = record { txid = txid; index = i } in
    let row : OutRow = record { script = output.script; height = height; sats = part } in
    let front : drop i outputs ≡ output ∷ drop (i + 1) outputs = drop_more outputs i output lt ∙ ap (λ (x : TxOut). x ∷ drop (i + 1) outputs) (sym here) in
    let onward : Outputs → Placed = λ outs. place_rows height txid (i + 1) (drop (i + 1) outputs) (reverse rest) outs in
    let one : whole ≡ behind_placed displaced (record { displaced = as_list (get outs at) ++ (onward (insert outs at row)).displaced; outs = (onward (insert outs at row)).outs }) =
    so_far ∙ (ap (λ (os : List TxOut). behind_placed displaced (place_rows height txid i os (reverse parts) outs)) front ∙ ap (λ (ps : List (List ℕ)). behind_placed displaced (place_rows height txid i (output ∷ drop (i + 1) outputs) ps outs)) (popped parts rest part last)) in
    one ∙ (ap (λ (d : List OutRow). placed_of d (onward (insert outs at row)).outs) (sym (append_assoc displaced (as_list (get outs at)) (onward (insert outs at row)).displaced))
    ∙ (ap (λ (outs' : Outputs). behind_placed (displaced ++ as_list (get outs at)) (onward outs')) (sym placed) ∙ ap (λ (d : List OutRow). behind_placed d (onward next)) (sym grown)))

nothing_behind : (height : ℕ) (txid : Txid) (i : ℕ) (parts : List (List ℕ)) (outs : Outputs) → place_rows height txid i [] parts outs ≡ placed_of [] outs
nothing_behind height txid i [] outs = refl
nothing_behind height txid i (part ∷ parts) outs = refl

pub place_done : (height : ℕ) (txid : Txid) (i : ℕ) (outputs : List TxOut) (parts : List (List ℕ)) (outs : Outputs) (displaced : List OutRow) (whole : Placed) → length outputs ≤ i → whole ≡ behind_placed displaced (place_rows height txid i (drop i outputs) parts outs) → whole ≡ placed_of displaced outs
place_done height txid i outputs parts outs displaced whole le so_far =
    so_far ∙ (ap (λ (os : List TxOut). behind_placed displaced (place_rows height txid i os parts outs)) (drop_all i outputs le)
    ∙ (ap (behind_placed displaced) (nothing_behind height txid i parts outs) ∙ ap (λ (d : List OutRow). placed_of d outs) (append-nil displaced)))

pub lost_more : (displaced more : List OutRow) (gone : Option OutRow) (before lost now : List ℕ) → more ≡ displaced ++ as_list gone → lost ≡ before ++ sats_of displaced → now ≡ lost ++ sats_of (as_list gone) → now ≡ before ++ sats_of more
lost_more displaced more gone before lost now grown so_far onward =
    onward ∙ (ap (λ (l : List ℕ). l ++ sats_of (as_list gone)) so_far ∙ (append_assoc before (sats_of displaced) (sats_of (as_list gone))
    ∙ (ap (λ (l : List ℕ). before ++ l) (sym (sats_append displaced (as_list gone))) ∙ ap (λ (d : List OutRow). before ++ sats_of d) (sym grown))))

-- the part of the output that is placed next, with what is lost
pub apart_next : (outs : Outputs) (parts rest : List (List ℕ)) (part lost : List ℕ) → parts ≡ rest ++ part ∷ [] → Apart (2 ^ 63) outs (all_parts (reverse parts) ++ lost) → Apart (2 ^ 63) outs (part ++ lost)
apart_next outs parts rest part lost last apart =
    let whole : all_parts (reverse parts) ≡ part ++ all_parts (reverse rest) = ap all_parts (popped parts rest part last) in
    apart_less (2 ^ 63) outs ((part ++ all_parts (reverse rest)) ++ lost) (part ++ lost) (λ sat. omega (arith, times-append sat (part ++ all_parts (reverse rest)) lost, times-append sat part (all_parts (reverse rest)), times-append sat part lost))
    (subst (λ (l : List ℕ). Apart (2 ^ 63) outs (l ++ lost)) whole apart)

pub apart_onward : (outs next : Outputs) (at : OutPoint) (row : OutRow) (parts rest : List (List ℕ)) (part lost now : List ℕ) → parts ≡ rest ++ part ∷ [] → row.sats ≡ part → next ≡ insert outs at row → now ≡ lost ++ sats_of (as_list (get outs at)) → Apart (2 ^ 63) outs (all_parts (reverse parts) ++ lost) → Apart (2 ^ 63) next (all_parts (reverse rest) ++ now)
apart_onward outs next at row parts rest part lost now last has placed grown apart =
    let whole : all_parts (reverse parts) ≡ row.sats ++ all_parts (reverse rest) = ap all_parts (popped parts rest part last) ∙ ap (λ (p : List ℕ). p ++ all_parts (reverse rest)) (sym has) in
    let next_apart : Apart (2 ^ 63) (insert outs at row) (all_parts (reverse rest) ++ (lost ++ sats_of (as_list (get outs at)))) = apart_place (2 ^ 63) outs (all_parts (reverse rest)) lost at row (subst (λ (l : List ℕ). Apart (2 ^ 63) outs (l ++ lost)) whole apart) in
    subst (λ (outs : Outputs). Apart (2 ^ 63) outs (all_parts (reverse rest) ++ now)) (sym placed) (subst (λ (l : List ℕ). Apart (2 ^ 63) (insert outs at row) (all_parts (reverse rest) ++ l)) (sym grown) next_apart)

-- what is displaced fits behind what is lost
pub displaced_fits : (outs : Outputs) (at : OutPoint) (row : OutRow) (sats lost : List ℕ) → Apart (2 ^ 63) outs (sats ++ lost) → get outs at ≡ Some row → length lost + length row.sats < 2 ^ 64
displaced_fits outs at row sats lost apart there =
    let few : length (lost ++ row.sats) ≤ 2 ^ 63 = fits (2 ^ 63) (lost ++ row.sats) (λ sat. omega (arith, apart.once sat, times-append sat lost row.sats, times-append sat sats lost, row_held sat outs at row there)) in
    omega (arith, few, length-append lost row.sats)

pub place_first : (displaced : List OutRow) (rest : Placed) → displaced ≡ [] → rest ≡ behind_placed displaced rest
place_first displaced rest is = sym (ap (λ (d : List OutRow). behind_placed d rest) is)

pub none_lost : (displaced : List OutRow) (before : List ℕ) → displaced ≡ [] → before ≡ before ++ sats_of displaced
none_lost displaced before is = sym (ap (λ (d : List OutRow). before ++ sats_of d) is ∙ append-nil before)

pub fewer : (parts rest : List (List ℕ)) (part : List ℕ) (i all : ℕ) → parts ≡ rest ++ part ∷ [] → length (reverse parts) + i ≡ all → length (reverse rest) + (i + 1) ≡ all
fewer parts rest part i all last is =
    let longer : length (reverse parts) ≡ length (part ∷ reverse rest) = ap length (popped parts rest part last) in
    omega (arith, is, longer)

-- behind the last output no part is left
pub none_left : (parts : List (List ℕ)) (i all : ℕ) → all ≤ i → length (reverse parts) + i ≡ all → parts ≡ []
none_left [] i all done is = refl
none_left (part ∷ parts) i all done is = absurd (omega (arith, done, is, length-reverse (part ∷ parts)))
