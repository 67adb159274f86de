-- Rows taken one after the other.
use Rattle.std.proofs.Common.{◌≡◌, ◌∙◌, ◌≤◌, ◌<◌, ℕ, ◌+◌, List, [], ◌∷◌, ◌++◌, length, drop, get_or, ◌^◌, length-append, refl, sym, ap, subst, append_assoc, arith, Option, Some, None, Result, Ok, Err}
use Rattle.std.specs.FinMap.{get, remove}
use Rattle.std.proofs.lemmas.List.{drop_more, drop_all, append-nil}
use Rattle.ox_bytes.specs.Reading.{◌>>=◌}
use Rattle.std.proofs.lemmas.List.Concat.{flat_map-append}
use Rattle.ox_block.specs.declared.block.OutPoint.{OutPoint}
use Rattle.ox_block.specs.declared.block.TxIn.{TxIn}
use Rattle.ox_rules.specs.declared.rows.OutRow.{OutRow}
use Rattle.ox_rules.specs.declared.refusal.Refusal.{Refusal}
use Rattle.ox_rules.specs.declared.refusal.Refusal.TheVariants.{UnknownOutput}
use Rattle.ox_rules.specs.Outputs.{Outputs, sats_of}
use Rattle.ox_rules.specs.Transfer.{or_refuse, Taken, take_rows}
use Rattle.ox_rules.specs.declared.why.Why.{Why}
use Rattle.ox_rules.specs.declared.why.Why.TheVariants.{Refused, Memory}
use Rattle.ox_rules.specs.Why.{Refuses}
use Rattle.ox_transfer.specs.Apart.{Apart}
use Rattle.ox_transfer.proofs.Once.{apart_fits, apart_take}
use Rattle.ox_transfer.specs.Parts.{taken_of}

-- these rows, and then those of the answer
abbrev pub behind_rows : List OutRow → Result Taken Refusal → Result Taken Refusal
behind_rows rows answer = answer >>= λ rest. Ok (taken_of (rows ++ rest.rows) rest.outs)

pub behind_no_row : (rows : List OutRow) (answer : Result Taken Refusal) → rows ≡ [] → answer ≡ behind_rows rows answer
behind_no_row rows (Ok rest) is = sym (ap (λ (all : List OutRow). behind_rows all (Ok rest)) is)
behind_no_row rows (Err refusal) is = refl

regroup : (rows : List OutRow) (row : OutRow) (answer : Result Taken Refusal) → behind_rows rows (answer >>= λ rest. Ok (taken_of (row ∷ rest.rows) rest.outs)) ≡ behind_rows (rows ++ row ∷ []) answer
regroup rows row (Ok rest) = ap (λ (all : List OutRow). Ok (taken_of all rest.outs)) (sym (append_assoc rows (row ∷ []) rest.rows))
regroup rows row (Err refusal) = refl

pub take_more : (tx i : ℕ) (inputs : List TxIn) (outs left : Outputs) (rows all : List OutRow) (input : TxIn) (row : OutRow) (whole : Result Taken Refusal) → i < length inputs → input ≡ get_or inputs i input → or_refuse (UnknownOutput tx i input.from) (get outs input.from) ≡ Ok row → left ≡ remove outs input.from → all ≡ rows ++ row ∷ [] → whole ≡ behind_rows rows (take_rows tx i (drop i inputs) outs) → whole ≡ behind_rows all (take_rows tx (i + 1) (drop (i + 1) inputs) left)
take_more tx i inputs outs left rows all input row whole lt here found without grown so_far =
    let front : drop i inputs ≡ input ∷ drop (i + 1) inputs = drop_more inputs i input lt ∙ ap (λ (x : TxIn). x ∷ drop (i + 1) inputs) (sym here) in
    let rest : Outputs → Result Taken Refusal = λ outs. take_rows tx (i + 1) (drop (i + 1) inputs) outs in
    let one : whole ≡ behind_rows (rows ++ row ∷ []) (rest (remove outs input.from)) = so_far ∙ (ap (λ (xs : List TxIn). behind_rows rows (take_rows tx i xs outs)) front ∙ (ap (λ (r : Result OutRow Refusal). behind_rows rows (r >>= λ row. rest (remove outs input.from) >>= λ rest. Ok (taken_of (row ∷ rest.rows) rest.outs))) found ∙ regroup rows row (rest (remove outs input.from)))) in
    one ∙ (ap (λ (outs : Outputs). behind_rows (rows ++ row ∷ []) (rest outs)) (sym without) ∙ ap (λ (rows : List OutRow). behind_rows rows (rest left)) (sym grown))

pub take_fails : (tx i : ℕ) (inputs : List TxIn) (outs : Outputs) (rows : List OutRow) (input : TxIn) (fault : Why) (whole : Result Taken Refusal) → i < length inputs → input ≡ get_or inputs i input → Refuses fault (or_refuse (UnknownOutput tx i input.from) (get outs input.from)) → whole ≡ behind_rows rows (take_rows tx i (drop i inputs) outs) → Refuses fault whole
take_fails tx i inputs outs rows input Memory whole lt here refused so_far = tt
take_fails tx i inputs outs rows input (Refused refusal) whole lt here refused so_far =
    let front : drop i inputs ≡ input ∷ drop (i + 1) inputs = drop_more inputs i input lt ∙ ap (λ (x : TxIn). x ∷ drop (i + 1) inputs) (sym here) in
    so_far ∙ (ap (λ (xs : List TxIn). behind_rows rows (take_rows tx i xs outs)) front ∙ ap (λ (r : Result OutRow Refusal). behind_rows rows (r >>= λ row. take_rows tx (i + 1) (drop (i + 1) inputs) (remove outs input.from) >>= λ rest. Ok (taken_of (row ∷ rest.rows) rest.outs))) refused)

pub take_done : (tx i : ℕ) (inputs : List TxIn) (outs : Outputs) (rows : List OutRow) (whole : Result Taken Refusal) → length inputs ≤ i → whole ≡ behind_rows rows (take_rows tx i (drop i inputs) outs) → whole ≡ Ok (taken_of rows outs)
take_done tx i inputs outs rows whole le so_far =
    so_far ∙ (ap (λ (xs : List TxIn). behind_rows rows (take_rows tx i xs outs)) (drop_all i inputs le) ∙ ap (λ (all : List OutRow). Ok (taken_of all outs)) (append-nil rows))

pub found : (refusal : Refusal) (there : Option OutRow) (row : OutRow) → or_refuse refusal there ≡ Ok row → there ≡ Some row
found refusal None row is = absurd (cc is)
found refusal (Some other) row is = cc

pub joined_more : (rows all : List OutRow) (row : OutRow) (sats more : List ℕ) → sats ≡ sats_of rows → more ≡ sats ++ row.sats → all ≡ rows ++ row ∷ [] → more ≡ sats_of all
joined_more rows all row sats more is grown one_more =
    let end : sats_of (rows ++ row ∷ []) ≡ sats_of rows ++ (row.sats ++ []) = flat_map-append (λ (row : OutRow). row.sats) rows (row ∷ []) in
    grown ∙ (ap (λ (s : List ℕ). s ++ row.sats) is ∙ (ap (λ (s : List ℕ). sats_of rows ++ s) (sym (append-nil row.sats)) ∙ (sym end ∙ ap sats_of (sym one_more))))

pub apart_more : (outs left : Outputs) (hand more : List ℕ) (at : OutPoint) (row : OutRow) → Apart (2 ^ 63) outs hand → get outs at ≡ Some row → left ≡ remove outs at → more ≡ hand ++ row.sats → Apart (2 ^ 63) left more
apart_more outs left hand more at row apart there without grown =
    subst (λ (outs : Outputs). Apart (2 ^ 63) outs more) (sym without) (subst (Apart (2 ^ 63) (remove outs at)) (sym grown) (apart_take (2 ^ 63) outs hand at row apart there))

pub taken_fits : (outs : Outputs) (hand : List ℕ) (at : OutPoint) (row : OutRow) → Apart (2 ^ 63) outs hand → get outs at ≡ Some row → length hand + length row.sats < 2 ^ 64
taken_fits outs hand at row apart there =
    omega (arith, length-append hand row.sats, apart_fits (2 ^ 63) (remove outs at) (hand ++ row.sats) (apart_take (2 ^ 63) outs hand at row apart there))
