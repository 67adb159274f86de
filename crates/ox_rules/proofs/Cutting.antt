-- Dealing is cutting.
use Rattle.std.proofs.Common.{◌≡◌, ◌∙◌, ◌↔◌, ◌≤◌, ℕ, ◌+◌, Bool, true, false, cond, List, [], ◌∷◌, ◌++◌, length, take, drop, refl, sym, ap, ap₂, subst, arith, Option, Some, None, nat_lt, append_assoc, length-append}
use Rattle.std.specs.Prelude.{map}
use Rattle.std.specs.Option.{option_map}
use Rattle.std.proofs.lemmas.List.{length-take-le, take-append-drop, take_at, drop_at}
use Rattle.std.proofs.lemmas.Bool.Decides.{nat_tests}
use Rattle.ox_rules.specs.Deal.{all_parts, deal}

abbrev Deals : Type 0
Deals = List (List ℕ) × List ℕ

abbrev pub onto : List ℕ → Option Deals → Option Deals
onto part dealt = option_map (λ dealt. (part ∷ dealt.0, dealt.1)) dealt

pub record IsCut (list lengths : List ℕ) (dealt : Deals) : Type 0 where
  pub joined : all_parts dealt.0 ++ dealt.1 ≡ list
  pub each : map (λ (l : List ℕ). length l) dealt.0 ≡ lengths

pub some_same : {A : Type 0} (x y : A) → Some x ≡ Some y → x ≡ y
some_same x y is = cc

one_more : (n : ℕ) (list lengths : List ℕ) (rest : Deals) → n ≤ length list → IsCut (drop n list) lengths rest → IsCut list (n ∷ lengths) (take n list ∷ rest.0, rest.1)
one_more n list lengths rest le cut = record {
  joined = append_assoc (take n list) (all_parts rest.0) rest.1 ∙ ap (λ (l : List ℕ). take n list ++ l) cut.joined ∙ take-append-drop n list;
  each = ap₂ (λ (k : ℕ) (l : List ℕ). k ∷ l) (length-take-le n list le) cut.each;
}

onward : (n : ℕ) (list lengths : List ℕ) (dealt : Deals) (d : Option Deals) → n ≤ length list → ((rest : Deals) → d ≡ Some rest → IsCut (drop n list) lengths rest)
    → onto (take n list) d ≡ Some dealt → IsCut list (n ∷ lengths) dealt
onward n list lengths dealt None le each is = absurd (cc is)
onward n list lengths dealt (Some rest) le each is = subst (IsCut list (n ∷ lengths)) (some_same _ _ is) (one_more n list lengths rest le (each rest refl))

tested : (n : ℕ) (list lengths : List ℕ) (dealt : Deals) (d : Option Deals) (short : Bool) → nat_lt (length list) n ≡ short → ((rest : Deals) → d ≡ Some rest → IsCut (drop n list) lengths rest)
    → cond short None (onto (take n list) d) ≡ Some dealt → IsCut list (n ∷ lengths) dealt
tested n list lengths dealt d true test each is = absurd (cc is)
tested n list lengths dealt d false test each is =
    let enough : n ≤ length list = grind (arith, nat_tests) in
    onward n list lengths dealt d enough each is

pub cut_of : (list lengths : List ℕ) (dealt : Deals) → deal list lengths ≡ Some dealt → IsCut list lengths dealt
cut_of list [] dealt is = subst (IsCut list []) (some_same _ _ is) (record { joined = refl; each = refl })
cut_of list (n ∷ lengths) dealt is = tested n list lengths dealt _ (nat_lt (length list) n) refl (cut_of (drop n list) lengths) is

dealt_front : (p tail : List ℕ) (lengths : List ℕ) (rest : Deals) → deal tail lengths ≡ Some rest → deal (p ++ tail) (length p ∷ lengths) ≡ Some (p ∷ rest.0, rest.1)
dealt_front p tail lengths rest is =
    let long : length (p ++ tail) ≡ length p + length tail = length-append p tail in
    let enough : nat_lt (length (p ++ tail)) (length p) ≡ false = grind (arith, nat_tests, long) in
    ap (λ (b : Bool). cond b None (onto (take (length p) (p ++ tail)) (deal (drop (length p) (p ++ tail)) lengths))) enough
    ∙ ap₂ (λ (f t : List ℕ). onto f (deal t lengths)) (take_at p tail (length p) refl) (drop_at p tail (length p) refl)
    ∙ ap (onto p) is

dealt_of : (parts : List (List ℕ)) (rest : List ℕ) → deal (all_parts parts ++ rest) (map (λ (l : List ℕ). length l) parts) ≡ Some (parts, rest)
dealt_of [] rest = refl
dealt_of (p ∷ parts) rest =
    ap (λ (l : List ℕ). deal l (length p ∷ map (λ (l : List ℕ). length l) parts)) (append_assoc p (all_parts parts) rest)
    ∙ dealt_front p (all_parts parts ++ rest) (map (λ (l : List ℕ). length l) parts) (parts, rest) (dealt_of parts rest)

pub cutting : (list lengths : List ℕ) (parts : List (List ℕ)) (rest : List ℕ)
    → (deal list lengths ≡ Some (parts, rest)) ↔ ((all_parts parts ++ rest ≡ list) × (map (λ (l : List ℕ). length l) parts ≡ lengths))
cutting list lengths parts rest = (
  λ is. ((cut_of list lengths (parts, rest) is).joined, (cut_of list lengths (parts, rest) is).each),
  λ is. sym (ap₂ deal is.0 is.1) ∙ dealt_of parts rest,
)
