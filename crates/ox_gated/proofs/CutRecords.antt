-- Records without a closed gate behind them, cut at any place.
use Rattle.std.proofs.Common.{◌≡◌, ◌∙◌, ◌<◌, ◌+◌, ◌-◌, inl, inr, ℕ, zero, suc, List, [], ◌∷◌, ◌++◌, length, take, drop, refl, sym, ap, arith, length-append, take-append-drop, append_assoc}
use Rattle.std.specs.Prelude.{Result, Ok, Err, All}
use Rattle.std.proofs.lemmas.Bool.{cases_lt}
use Rattle.std.proofs.lemmas.List.{append-nil, length-take, take-append-le}
use Rattle.std.proofs.lemmas.List.Elements.{All-head, All-tail}
use Rattle.std.proofs.Math.Seq.{take-append-add}
use Rattle.ox_bytes.proofs.Laws.{ok_is}
use Rattle.ox_gated.specs.Layout.{Layout}
use Rattle.ox_gated.specs.Reading.{with_record, gate_behind, chain}
use Rattle.ox_gated.specs.Spelled.{open_record, open_records, records_from, EndsCut}
use Rattle.ox_gated.proofs.Chain.{chain_none, chain_cut, chain_more}
use Rattle.ox_gated.proofs.LayoutLaws.{Laws}

module _ (layout : Layout) (laws : Laws layout) (generation : ℕ) where
  length-open_record : (place : ℕ) (payload : List ℕ) → length (open_record layout generation place payload) ≡ layout.before_payload + length payload
  length-open_record place payload = omega (arith, laws.record_size generation place payload)

  -- ---- one record that is cut

  module _ (place : ℕ) (payload : List ℕ) (fits : length payload < layout.payload_limit) where
    abbrev full : List ℕ
    full = layout.record_bytes generation place payload

    full_there : layout.payload_at generation place full ≡ Ok (payload, [])
    full_there = ap (layout.payload_at generation place) (sym (append-nil full)) ∙ laws.back generation place payload [] fits

    -- whatever a front of it gave, the whole gives too
    is_whole : (m : ℕ) (found : List ℕ × List ℕ) → layout.payload_at generation place (take m full) ≡ Ok found → length payload ≡ length found.0
    is_whole m found is =
        let parts = laws.parts generation place (take m full) found is in
        let whole : full ≡ parts.text ++ (found.1 ++ drop m full) =
        sym (take-append-drop m full) ∙ ap (λ (l : List ℕ). l ++ drop m full) parts.parts ∙ append_assoc parts.text found.1 (drop m full) in
        let again : layout.payload_at generation place full ≡ Ok (found.0, found.1 ++ drop m full) = ap (layout.payload_at generation place) whole ∙ parts.again (found.1 ++ drop m full) in
        let same : (payload, []) ≡ (found.0, found.1 ++ drop m full) = ok_is {F = ℕ} _ _ (sym full_there ∙ again) in
        ap (λ (x : List ℕ × List ℕ). length x.0) same

    cut_by : (m : ℕ) (r : Result (List ℕ × List ℕ) ℕ) → layout.payload_at generation place (take m full) ≡ r → 1 + m < layout.before_payload + length payload → (left : ℕ) × (layout.payload_at generation place (take m full) ≡ Err left)
    cut_by m (Err left) is less = (left, is)
    cut_by m (Ok found) is less =
        let parts = laws.parts generation place (take m full) found is in
        absurd (omega (arith, less, parts.size, ap length parts.parts, length-append parts.text found.1, is_whole m found is, length-take m full))

    chain_front : (n : ℕ) → n < layout.before_payload + length payload → chain layout generation place (take n (open_record layout generation place payload)) ≡ record { records = []; end = Err place }
    chain_front zero less = chain_none layout generation place
    chain_front (suc m) less =
        let cut = cut_by m (layout.payload_at generation place (take m full)) refl (omega (arith, less)) in
        chain_cut layout generation place 1 cut.0 (take m full) (λ no. absurd (omega (arith, no))) cut.1

    -- a whole one, whatever follows it
    chain_whole : (t : List ℕ) → chain layout generation place (open_record layout generation place payload ++ t) ≡ with_record place payload (chain layout generation (gate_behind layout place payload) t)
    chain_whole t = chain_more layout laws generation place 1 (full ++ t) payload t (λ no. absurd (omega (arith, no))) (laws.back generation place payload t fits)

  -- ---- many

  none_whole : (place n : ℕ) (payload : List ℕ) (payloads : List (List ℕ)) → length payload < layout.payload_limit → n < layout.before_payload + length payload → EndsCut layout generation place n (payload ∷ payloads)
  none_whole place n payload payloads fits less =
      let first = open_record layout generation place payload in
      let behind = open_records layout generation (gate_behind layout place payload) payloads in
      let long = length-open_record place payload in
      record {
        count = 0;
        are_whole = record {
          most = omega arith;
          whole = omega arith;
          no_more = λ some. omega (arith, less, long, length-append first []);
        };
        chain_is =
            ap (chain layout generation place) (take-append-le n first behind (omega (arith, less, long)))
            ∙ chain_front place payload fits n less
            ∙ ap (λ (end : ℕ). record { records = []; end = Err end }) (omega arith);
      }

  one_more : (place n m : ℕ) (payload : List ℕ) (payloads : List (List ℕ)) → length payload < layout.payload_limit → n ≡ length (open_record layout generation place payload) + m → EndsCut layout generation (gate_behind layout place payload) m payloads
      → EndsCut layout generation place n (payload ∷ payloads)
  one_more place n m payload payloads fits is more =
      let first = open_record layout generation place payload in
      let next = gate_behind layout place payload in
      let long = length-open_record place payload in
      let k = more.count in
      let whole = open_records layout generation next (take k payloads) in
      record {
        count = suc k;
        are_whole = record {
          most = omega (arith, more.are_whole.most);
          whole = omega (arith, is, more.are_whole.whole, length-append first whole);
          no_more = λ some. let later = more.are_whole.no_more (omega (arith, some)) in omega (arith, is, later, length-append first (open_records layout generation next (take (suc k) payloads)));
        };
        chain_is =
            ap (λ (l : ℕ). chain layout generation place (take l (first ++ open_records layout generation next payloads))) is
            ∙ ap (chain layout generation place) (take-append-add first (open_records layout generation next payloads) m)
            ∙ chain_whole place payload fits (take m (open_records layout generation next payloads))
            ∙ ap (with_record place payload) more.chain_is
            ∙ ap (λ (end : ℕ). record { records = records_from layout place (payload ∷ take k payloads); end = Err end }) (omega (arith, long, length-append first whole));
      }

  pub ends_cut : (place n : ℕ) (payloads : List (List ℕ)) → All (λ payload. length payload < layout.payload_limit) payloads → EndsCut layout generation place n payloads
  ends_cut place n [] fit = record {
    count = 0;
    are_whole = record { most = omega arith; whole = omega arith; no_more = λ some. absurd (omega (arith, some)) };
    chain_is = by n;
  }
    where
      by : (n : ℕ) → chain layout generation place (take n []) ≡ record { records = []; end = Err (place + 0) }
      by zero = chain_none layout generation place ∙ ap (λ (end : ℕ). record { records = []; end = Err end }) (omega arith)
      by (suc n) = chain_none layout generation place ∙ ap (λ (end : ℕ). record { records = []; end = Err end }) (omega arith)
  ends_cut place n (payload ∷ payloads) fit =
      let short = λ (p : List ℕ). length p < layout.payload_limit in
      let fits = All-head short payload payloads fit in
      elim (cases_lt n (layout.before_payload + length payload)) [
        | inl less ↦ none_whole place n payload payloads fits less
        | inr le ↦
            let m = n - (layout.before_payload + length payload) in
            one_more place n m payload payloads fits (omega (arith, le, length-open_record place payload)) (ends_cut (gate_behind layout place payload) m payloads (All-tail short payload payloads fit))
      ]
