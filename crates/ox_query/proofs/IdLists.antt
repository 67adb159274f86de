-- Lists of ids, inscription by inscription and satoshi by satoshi.
use Rattle.std.proofs.Common.{◌≡◌, ℕ, ◌+◌, ◌-◌, ◌<◌, ◌≤◌, ◌^◌, Bool, true, false, cond, ltb, ltb-true, IsUtf8, ◌&&◌, List, [], ◌∷◌, ◌++◌, length, get_or, take, drop, reverse, map, append_assoc, bytes_eq, Option, Some, None, Result, Ok, Err, decimal, refl, sym, ap, ◌∙◌, subst, arith}
use Rattle.std.specs.Prelude.{All, IfSome, slice_get}
use Rattle.std.specs.List.{cons_option, filter_map, flat_map, list_all, position_or_len}
use Rattle.std.specs.Option.{option_map_or}
use Rattle.std.specs.Char.{is_ascii_digit}
use Rattle.std.specs.Str.{IsAscii}
use Rattle.std.specs.Str.Parse.{digits_value}
use Rattle.std.proofs.lemmas.Fmt.{IsAscii-decimal}
use Rattle.std.proofs.lemmas.Grind.{flat_map-append}
use Rattle.std.proofs.lemmas.List.{append-nil, map-append, take_all, take_more}
use Rattle.std.proofs.lemmas.List.Elements.{All-nil, All-weaker, filter_map-append}
use Rattle.std.proofs.lemmas.Option.{cond_some}
use Rattle.std.proofs.lemmas.Str.{IsUtf8-from_ascii, IsAscii-append}
use Rattle.std.proofs.lemmas.Str.Ascii.{IsAscii-cons}
use Rattle.json.specs.Token.{Token, begin_array, end_array}
use Rattle.serde_json.specs.Data.{array}
use Rattle.serde_json.specs.View.{items_of}
use Rattle.hex.specs.Hex.{decode_sized, encode_lower}
use Rattle.hex.specs.declared.error.FromHexError.{FromHexError}
use Rattle.ox_range.specs.declared.runs.Run.{Run}
use Rattle.ox_range.specs.Numbers.{numbers_from}
use Rattle.ox_range.specs.Runs.{end_of, numbers_of}
use Rattle.ox_range.proofs.RunLemmas.{numbers-append, numbers-none, numbers_of_one}
use Rattle.ox_envelope.specs.Id.{id_from_digits, id_of_text, id_text, is_number}
use Rattle.ox_envelope.specs.declared.id.InsId.{InsId}
use Rattle.ox_inscribe.specs.Inscriptions.{children, children_of, find, has_parent, numbers_where, is_same_id, on}
use Rattle.ox_inscribe.specs.declared.row.InsRow.{InsRow}
use Rattle.ox_replies.specs.Inscriptions.{inscription_id}
use Rattle.ox_replies.specs.Walk.{on_between}
use Rattle.ox_replies.proofs.Halves.{second_half}
use Rattle.ox_held.proofs.Between.{below}
use Rattle.ox_query.specs.Listed.{inscription_ids_of}
use Rattle.ox_query.specs.Written.{Adds, tokens_of, tokens_of_all}
use Rattle.ox_query.specs.declared.bodies.Body.{Body}
use Rattle.ox_query.proofs.Arrays.{begun, bracketed}
use Rattle.ox_query.proofs.Digits.{digits_small}
use Rattle.ox_query.proofs.Steps.{nothing, same, ◌▸◌}

-- the index of what reads as an id is small
small_index : (text : List ℕ) (id : InsId) → id_of_text text ≡ Some id → id.index < 2 ^ 32
small_index text id = by (is_number number) refl
  where
    number : List ℕ
    number = drop 65 text

    read : (decoded : Result (List ℕ) FromHexError) → digits_value 10 number < 2 ^ 32 → id_from_digits decoded (digits_value 10 number) text ≡ Some id → id.index < 2 ^ 32
    read (Err e) small is = let no : None ≡ Some id = is in absurd cc
    read (Ok bytes) small is =
        let spelled : InsId = record { txid = reverse bytes; index = digits_value 10 number } in
        let told : (bytes_eq (id_text spelled) text ≡ true) × (spelled ≡ id) = cond_some (bytes_eq (id_text spelled) text) spelled id is in
        subst (λ (x : InsId). x.index < 2 ^ 32) told.1 small

    by : (test : Bool) → is_number number ≡ test
        → cond test (id_from_digits (decode_sized (take 64 text) 32) (digits_value 10 number) text) None ≡ Some id → id.index < 2 ^ 32
    by true is e =
        let within : ltb (digits_value 10 number) (2 ^ 32) ≡ true =
        second_half (list_all is_ascii_digit number) (ltb (digits_value 10 number) (2 ^ 32)) (second_half (ltb 0 (length number)) (list_all is_ascii_digit number && ltb (digits_value 10 number) (2 ^ 32)) is) in
        read (decode_sized (take 64 text) 32) (ltb-true (digits_value 10 number) (2 ^ 32) within) e
    by false is e = let no : None ≡ Some id = e in absurd cc

pub id_is_text : (id : InsId) → id_of_text (id_text id) ≡ Some id → IsUtf8 (id_text id)
id_is_text id again =
    let small : id.index < 2 ^ 32 = small_index (id_text id) id again in
    let txid : IsAscii (encode_lower (reverse id.txid)) = digits_small (reverse id.txid) in
    let index : IsAscii (decimal id.index) = IsAscii-decimal id.index (omega (arith, small)) in
    let behind : IsAscii (105 ∷ decimal id.index) = IsAscii-cons 105 (decimal id.index) (omega arith) index in
    let whole : IsAscii (encode_lower (reverse id.txid) ++ 105 ∷ decimal id.index) = IsAscii-append (encode_lower (reverse id.txid)) (105 ∷ decimal id.index) txid behind in
    subst IsUtf8 (sym (append_assoc (encode_lower (reverse id.txid)) (105 ∷ []) (decimal id.index))) (IsUtf8-from_ascii (encode_lower (reverse id.txid) ++ 105 ∷ decimal id.index) whole)

-- what is written behind a bracket
pub behind_bracket : {old begins all : Body} {tokens : List Token} → Adds old begins (begin_array ∷ []) → Adds begins all tokens → Adds old all (begin_array ∷ tokens)
behind_bracket begins told = begins ▸ told

module _ (rows : List InsRow) where
  children_below : (row : Option InsRow) → All (λ n. n < length rows) (option_map_or (children_of rows) row [])
  children_below None = All-nil (λ n. n < length rows)
  children_below (Some row) =
      All-weaker (λ n. n < 0 + length rows) (λ n. n < length rows) (λ n less. omega (arith, less)) (numbers_where (has_parent row.id) 0 rows) (below (has_parent row.id) 0 rows)

  pub children_there : (of : ℕ) → All (λ n. n < length rows) (children rows of)
  children_there of = children_below (slice_get rows of)

  pub found_below : (id : InsId) (n : ℕ) → find rows id ≡ Some n → n < length rows
  found_below id n e =
      let place = position_or_len (λ (row : InsRow). is_same_id row.id id) rows in
      let is : (ltb place (length rows) ≡ true) × (place ≡ n) = cond_some (ltb place (length rows)) place n e in
      subst (λ (k : ℕ). k < length rows) is.1 (ltb-true place (length rows) is.0)

  pub found_there : (id : InsId) (found : Option ℕ) → found ≡ find rows id → IfSome found (λ n. n < length rows)
  found_there id None e = tt
  found_there id (Some n) e = found_below id n (sym e)

  inscription_ids_of-append : (a b : List ℕ) → inscription_ids_of rows (a ++ b) ≡ inscription_ids_of rows a ++ inscription_ids_of rows b
  inscription_ids_of-append a b =
      ap (map inscription_id) (filter_map-append (slice_get rows) a b)
      ∙ map-append inscription_id (filter_map (slice_get rows) a) (filter_map (slice_get rows) b)

  one_id : (n : ℕ) (row : InsRow) → slice_get rows n ≡ Some row → inscription_ids_of rows (n ∷ []) ≡ inscription_id row ∷ []
  one_id n row there = ap (λ (found : Option InsRow). map inscription_id (cons_option found [])) there

  -- the tokens of the ids of the inscriptions with these numbers
  abbrev pub told_of : List ℕ → List Token
  told_of numbers = tokens_of_all (inscription_ids_of rows numbers)

  told_of-append : (a b : List ℕ) → told_of (a ++ b) ≡ told_of a ++ told_of b
  told_of-append a b = ap tokens_of_all (inscription_ids_of-append a b) ∙ flat_map-append tokens_of (inscription_ids_of rows a) (inscription_ids_of rows b)

  told_of_one : (n : ℕ) (row : InsRow) → slice_get rows n ≡ Some row → told_of (n ∷ []) ≡ tokens_of (inscription_id row)
  told_of_one n row there = ap tokens_of_all (one_id n row there) ∙ append-nil (tokens_of (inscription_id row))

  on_run : (run : Run) → flat_map (on rows) (numbers_of (run ∷ [])) ≡ on_between rows run.first (end_of run)
  on_run run =
      let many : run.count ≡ end_of run - run.first = omega arith in
      ap (flat_map (on rows)) (numbers_of_one run.first run.count ∙ ap (numbers_from run.first) many)

  -- one more id
  pub one_id_more : {old so_far new : Body} (numbers : List ℕ) (i : ℕ) (row : InsRow)
      → i < length numbers → slice_get rows (get_or numbers i 0) ≡ Some row
      → Adds old so_far (told_of (take i numbers)) → Adds so_far new (tokens_of (inscription_id row))
      → Adds old new (told_of (take (i + 1) numbers))
  one_id_more numbers i row within there is here =
      same told_of (sym (take_more numbers i 0 within))
      (same (λ (ts : List Token). ts) (sym (told_of-append (take i numbers) (get_or numbers i 0 ∷ [])))
      (is ▸ same (λ (ts : List Token). ts) (sym (told_of_one (get_or numbers i 0) row there)) here))

  pub all_ids : {old new : Body} (numbers : List ℕ) (i : ℕ) → length numbers ≤ i → Adds old new (told_of (take i numbers)) → Adds old new (told_of numbers)
  all_ids numbers i past is = same told_of (take_all i numbers past) is

  -- the ids on one more run
  pub one_run_more : {old so_far new : Body} (runs : List Run) (i : ℕ) (d : Run) → i < length runs
      → Adds old so_far (begin_array ∷ told_of (flat_map (on rows) (numbers_of (take i runs))))
      → Adds so_far new (told_of (on_between rows (get_or runs i d).first (end_of (get_or runs i d))))
      → Adds old new (begin_array ∷ told_of (flat_map (on rows) (numbers_of (take (i + 1) runs))))
  one_run_more runs i d within is here =
      let run = get_or runs i d in
      let these = flat_map (on rows) (numbers_of (take i runs)) in
      let more = flat_map (on rows) (numbers_of (run ∷ [])) in
      same begun (
      ap (λ (ts : List Token). told_of these ++ ts) (ap told_of (sym (on_run run)))
      ∙ sym (told_of-append these more)
      ∙ ap told_of (
      sym (flat_map-append (on rows) (numbers_of (take i runs)) (numbers_of (run ∷ [])))
      ∙ ap (flat_map (on rows)) (sym (numbers-append (take i runs) (run ∷ [])) ∙ ap numbers_of (sym (take_more runs i d within)))
      )) (is ▸ here)

  -- ---- a walk along a run

  -- what is written of some satoshis, and of the others behind them
  pub walked_one : {old new last : Body} (numbers rest between : List ℕ) → between ≡ numbers ++ rest
      → Adds old new (told_of numbers) → Adds new last (told_of rest) → Adds old last (told_of between)
  walked_one numbers rest between is here behind =
      same told_of (sym is) (same (λ (ts : List Token). ts) (sym (told_of-append numbers rest)) (here ▸ behind))

  pub walked_all : (body : Body) (between : List ℕ) → between ≡ [] → Adds body body (told_of between)
  walked_all body between none = same told_of (sym none) (nothing body)

  -- ---- run by run

  pub no_run : {old new : Body} → Adds old new (begin_array ∷ []) → Adds old new (begin_array ∷ told_of (flat_map (on rows) (numbers_of [])))
  no_run begins = same (λ (numbers : List ℕ). begin_array ∷ told_of (flat_map (on rows) numbers)) (sym numbers-none) begins

  pub all_runs_told : {old all new : Body} (runs : List Run) (i : ℕ) → length runs ≤ i
      → Adds old all (begin_array ∷ told_of (flat_map (on rows) (numbers_of (take i runs)))) → Adds all new (end_array ∷ [])
      → Adds old new (tokens_of (array (items_of (inscription_ids_of rows (flat_map (on rows) (numbers_of runs))))))
  all_runs_told runs i past is ends =
      bracketed (inscription_ids_of rows (flat_map (on rows) (numbers_of runs)))
      (same (λ (rs : List Run). begin_array ∷ told_of (flat_map (on rows) (numbers_of rs))) (take_all i runs past) is) ends
