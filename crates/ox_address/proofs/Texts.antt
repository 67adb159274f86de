-- A text and the letters behind its digit 1.
use Rattle.std.proofs.Common.{◌≡◌, ℕ, ◌+◌, ◌≤◌, Bool, List, [], ◌∷◌, ◌++◌, length, map, take, drop, Option, Some, None, sym, ap, ◌∙◌, append_assoc, arith, MatchOption}
use Rattle.std.proofs.lemmas.List.{take_at, drop_at, take-map, drop-map, map-append, take-append-drop, length-map, length_push}
use Rattle.ox_address.specs.Address.{IsSegwit, address_of}
use Rattle.ox_address.specs.Passes.{small, tail_of, NoScript, NoScriptBehind, Reads, ReadsLetters}
use Rattle.ox_address.proofs.Scripts.{segwit-short, segwit-long}
use Rattle.ox_address.proofs.AddressLaws.{length-address_of}

pub match_mapped :
    {P Q : Type 0} {V W : ℕ → Type 0} (o : Option ℕ) → (P → Q) → ((n : ℕ) → V n → W n) → MatchOption o P V → MatchOption o Q W
match_mapped None f g h = f h
match_mapped (Some n) f g h = g n h

-- the lengths that the text of a script may have
pub length-spelled :
    (is_capital : Bool) (hrp script text : List ℕ) → IsSegwit script → map (small is_capital) text ≡ address_of hrp script →
    (length hrp + 12 ≤ length text) × (length text ≤ length hrp + 72)
length-spelled is_capital hrp script text segwit spelled =
    let same : length text ≡ length (address_of hrp script) = sym (length-map text (small is_capital)) ∙ ap length spelled in
    let long = length-address_of hrp script in
    let short = segwit-short script segwit in
    let some = segwit-long script segwit in
    (omega (arith, same, long, some), omega (arith, same, long, short))

whole-address : (hrp script : List ℕ) → address_of hrp script ≡ (hrp ++ 49 ∷ []) ++ tail_of hrp script
unfolding address_of
whole-address hrp script = sym (append_assoc hrp (49 ∷ []) (tail_of hrp script))

pub prefix-expected :
    (is_capital : Bool) (hrp script text : List ℕ) → map (small is_capital) text ≡ address_of hrp script →
    map (small is_capital) (take (length hrp + 1) text) ≡ hrp ++ 49 ∷ []
prefix-expected is_capital hrp script text spelled =
    sym (take-map (small is_capital) (length hrp + 1) text)
    ∙ ap (take (length hrp + 1)) (spelled ∙ whole-address hrp script)
    ∙ take_at (hrp ++ 49 ∷ []) (tail_of hrp script) (length hrp + 1) (length_push hrp 49)

pub tail-expected :
    (is_capital : Bool) (hrp script text : List ℕ) → map (small is_capital) text ≡ address_of hrp script →
    map (small is_capital) (drop (length hrp + 1) text) ≡ tail_of hrp script
tail-expected is_capital hrp script text spelled =
    sym (drop-map (small is_capital) (length hrp + 1) text)
    ∙ ap (drop (length hrp + 1)) (spelled ∙ whole-address hrp script)
    ∙ drop_at (hrp ++ 49 ∷ []) (tail_of hrp script) (length hrp + 1) (length_push hrp 49)

pub none-behind :
    (is_capital : Bool) (hrp text letters : List ℕ) → letters ≡ drop (length hrp + 1) text →
    NoScriptBehind is_capital hrp letters → NoScript is_capital hrp text
none-behind is_capital hrp text letters e none = λ script segwit spelled.
    none script segwit (ap (map (small is_capital)) e ∙ tail-expected is_capital hrp script text spelled)

pub reads-behind :
    (is_capital : Bool) (hrp text front letters before into : List ℕ) (len : ℕ) → front ≡ take (length hrp + 1) text →
    letters ≡ drop (length hrp + 1) text → map (small is_capital) front ≡ hrp ++ 49 ∷ [] →
    ReadsLetters is_capital hrp letters before into len → Reads is_capital hrp text before into len
reads-behind is_capital hrp text front letters before into len f l e reads =
    let n : ℕ = length hrp + 1 in
    let whole : text ≡ front ++ letters =
    sym (take-append-drop n text) ∙ ap (λ xs. xs ++ drop n text) (sym f) ∙ ap (λ xs. front ++ xs) (sym l) in
    record {
      script = reads.script;
      segwit = reads.segwit;
      spelled = ap (map (small is_capital)) whole ∙ map-append (small is_capital) front letters
          ∙ ap (λ xs. xs ++ map (small is_capital) letters) e ∙ ap (λ xs. (hrp ++ 49 ∷ []) ++ xs) reads.spelled
          ∙ sym (whole-address hrp reads.script);
      stands = reads.stands;
      place = reads.place;
    }
