-- A list dealt from its end.
use Rattle.std.proofs.Common.{◌≡◌, ◌∙◌, ◌≤◌, ◌<◌, ℕ, ◌+◌, ◌-◌, Bool, true, false, cond, List, [], ◌∷◌, ◌++◌, length, take, drop, refl, sym, ap, arith, Option, Some, None, nat_lt, length-drop, append_assoc}
use Rattle.std.specs.Prelude.{sum, reverse}
use Rattle.std.specs.Option.{option_map}
use Rattle.std.proofs.lemmas.List.{append-nil, drop-drop, drop-take, take-take, length-take-le, reverse-append}
use Rattle.std.proofs.lemmas.List.Sums.{sum_by-cons, sum_by_push, sum-map}
use Rattle.std.proofs.lemmas.Bool.Decides.{nat_tests}
use Rattle.ox_block.specs.declared.block.TxOut.{TxOut}
use Rattle.ox_rules.specs.Deal.{deal}
use Rattle.ox_transfer.specs.Parts.{values}

abbrev onto : List ℕ → Option (List (List ℕ) × List ℕ) → Option (List (List ℕ) × List ℕ)
onto part dealt = option_map (λ dealt. (part ∷ dealt.0, dealt.1)) dealt

deal_front : (list : List ℕ) (n : ℕ) (lengths : List ℕ) → n ≤ length list → deal list (n ∷ lengths) ≡ onto (take n list) (deal (drop n list) lengths)
deal_front list n lengths le =
    let enough : nat_lt (length list) n ≡ false = grind (arith, nat_tests) in
    ap (λ (b : Bool). cond b None (onto (take n list) (deal (drop n list) lengths))) enough

-- one part more at the front
pub deal_more : (list : List ℕ) (place n : ℕ) (lengths : List ℕ) (parts : List (List ℕ)) (rest : List ℕ) → place + n ≤ length list → deal (drop (place + n) list) lengths ≡ Some (parts, rest) → deal (drop place list) (n ∷ lengths) ≡ Some (drop place (take (place + n) list) ∷ parts, rest)
deal_more list place n lengths parts rest le so_far =
    let enough : n ≤ length (drop place list) = omega (arith, length-drop place list) in
    let part : take n (drop place list) ≡ drop place (take (place + n) list) = sym (drop-take place n list) in
    let onward : drop n (drop place list) ≡ drop (place + n) list = drop-drop n place list in
    deal_front (drop place list) n lengths enough ∙ (ap (λ (l : List ℕ). onto (take n (drop place list)) (deal l lengths)) onward ∙ (ap (onto (take n (drop place list))) so_far ∙ ap (λ (p : List ℕ). Some (p ∷ parts, rest)) part))

short_by_test : (b : Bool) (list : List ℕ) (n : ℕ) (lengths : List ℕ) → nat_lt (length list) n ≡ b → length list < sum (n ∷ lengths) → (length (drop n list) < sum lengths → deal (drop n list) lengths ≡ None) → cond b None (onto (take n list) (deal (drop n list) lengths)) ≡ None
short_by_test true list n lengths is lt rest = refl
short_by_test false list n lengths is lt rest =
    let enough : n ≤ length list = grind (arith, nat_tests) in
    let whole : sum (n ∷ lengths) ≡ n + sum lengths = sum_by-cons (λ (x : ℕ). x) n lengths in
    ap (onto (take n list)) (rest (omega (arith, length-drop n list, whole)))

-- too short a list can't be dealt
pub deal_short : (list lengths : List ℕ) → length list < sum lengths → deal list lengths ≡ None
deal_short list [] lt = absurd (omega (arith, lt))
deal_short list (n ∷ lengths) lt = short_by_test (nat_lt (length list) n) list n lengths refl lt (deal_short (drop n list) lengths)

-- The outputs behind those that are left have their parts, and what is left of the list is for those that are left.
pub record Backward (outputs left : List TxOut) (list sats : List ℕ) (place total : ℕ) (parts : List (List ℕ)) : Type 0 where
  pub done : List TxOut
  pub whole : outputs ≡ left ++ done
  pub values_left : place ≡ sum (values left)
  pub low : place ≤ length list
  pub sats_left : sats ≡ take place list
  pub dealt : deal (drop place list) (values done) ≡ Some (reverse parts, drop total list)

pub backward_first : (outputs left : List TxOut) (list sats : List ℕ) (total : ℕ) (parts : List (List ℕ)) → left ≡ outputs → total ≡ sum (values outputs) → total ≤ length list → sats ≡ take total list → parts ≡ [] → Backward outputs left list sats total total parts
backward_first outputs left list sats total parts all whole enough is none = record {
  done = [];
  whole = sym (append-nil left ∙ all);
  values_left = whole ∙ ap (λ (l : List TxOut). sum (values l)) (sym all);
  low = enough;
  sats_left = is;
  dealt = ap (λ (p : List (List ℕ)). Some (reverse p, drop total list)) (sym none);
}

value_sum_push : (outputs : List TxOut) (output : TxOut) → sum (values (outputs ++ output ∷ [])) ≡ sum (values outputs) + output.value
value_sum_push outputs output =
    sum-map (λ (output : TxOut). output.value) (outputs ++ output ∷ []) ∙ (sum_by_push (λ (output : TxOut). output.value) outputs output ∙ ap (λ (n : ℕ). n + output.value) (sym (sum-map (λ (output : TxOut). output.value) outputs)))

pub last_fits : (outputs left before : List TxOut) (list sats : List ℕ) (place total : ℕ) (parts : List (List ℕ)) (output : TxOut) → left ≡ before ++ output ∷ [] → Backward outputs left list sats place total parts → place ≡ sum (values before) + output.value
last_fits outputs left before list sats place total parts output is b = b.values_left ∙ (ap (λ (l : List TxOut). sum (values l)) is ∙ value_sum_push before output)

pub last_within : (outputs left before : List TxOut) (list sats : List ℕ) (place total : ℕ) (parts : List (List ℕ)) (output : TxOut) → left ≡ before ++ output ∷ [] → Backward outputs left list sats place total parts → place - output.value ≤ length sats
last_within outputs left before list sats place total parts output is b =
    omega (arith, b.low, length-take-le place list b.low, ap length b.sats_left)

pub backward_more : (outputs left before : List TxOut) (list sats less : List ℕ) (place total : ℕ) (parts more : List (List ℕ)) (part : List ℕ) (output : TxOut) → left ≡ before ++ output ∷ [] → less ≡ take (place - output.value) sats → part ≡ drop (place - output.value) sats → more ≡ parts ++ part ∷ [] → Backward outputs left list sats place total parts → Backward outputs before list less (place - output.value) total more
backward_more outputs left before list sats less place total parts more part output is cut behind grown b =
    let low : ℕ = place - output.value in
    let sum_is : place ≡ sum (values before) + output.value = last_fits outputs left before list sats place total parts output is b in
    let up : low + output.value ≡ place = omega (arith, sum_is) in
    let one_more : deal (drop low list) (output.value ∷ values b.done) ≡ Some (drop low (take (low + output.value) list) ∷ reverse parts, drop total list) =
    deal_more list low output.value (values b.done) (reverse parts) (drop total list) (omega (arith, up, b.low)) (ap (λ (n : ℕ). deal (drop n list) (values b.done)) up ∙ b.dealt) in
    let part_is : drop low (take (low + output.value) list) ≡ part = ap (λ (n : ℕ). drop low (take n list)) up ∙ (ap (drop low) (sym b.sats_left) ∙ sym behind) in
    let turned : part ∷ reverse parts ≡ reverse more = sym (reverse-append parts (part ∷ [])) ∙ ap reverse (sym grown) in record {
      done = output ∷ b.done;
      whole = b.whole ∙ (ap (λ (l : List TxOut). l ++ b.done) is ∙ append_assoc before (output ∷ []) b.done);
      values_left = omega (arith, sum_is);
      low = omega (arith, b.low);
      sats_left = cut ∙ (ap (take low) b.sats_left ∙ take-take low place list (omega arith));
      dealt = one_more ∙ (ap (λ (p : List ℕ). Some (p ∷ reverse parts, drop total list)) part_is ∙ ap (λ (ps : List (List ℕ)). Some (ps, drop total list)) turned);
    }

nothing_left : (left : List TxOut) → length left ≡ 0 → left ≡ []
nothing_left [] is = refl
nothing_left (x ∷ left) is = absurd (cc is)

pub backward_last : (outputs left : List TxOut) (list sats rest : List ℕ) (place total : ℕ) (parts : List (List ℕ)) → length left ≡ 0 → rest ≡ drop total list → Backward outputs left list sats place total parts → deal list (values outputs) ≡ Some (reverse parts, rest)
backward_last outputs left list sats rest place total parts none is b =
    let empty : left ≡ [] = nothing_left left none in
    let zero_left : place ≡ 0 = b.values_left ∙ ap (λ (l : List TxOut). sum (values l)) empty in
    let all : outputs ≡ b.done = b.whole ∙ ap (λ (l : List TxOut). l ++ b.done) empty in
    ap (λ (l : List TxOut). deal list (values l)) all ∙ (ap (λ (n : ℕ). deal (drop n list) (values b.done)) (sym zero_left) ∙ (b.dealt ∙ ap (λ (r : List ℕ). Some (reverse parts, r)) (sym is)))
