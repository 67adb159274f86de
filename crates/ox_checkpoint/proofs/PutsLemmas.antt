-- Rows that are put into a sink through a buffer, one run behind the other.
use Rattle.std.proofs.Common.{◌≡◌, ◌∙◌, ℕ, zero, suc, ◌+◌, ◌<◌, ◌≤◌, refl, arith, List, [], ◌∷◌, ◌++◌, length, take, append_assoc, sym, ap, subst, Some}
use Rattle.std.specs.Prelude.{All, slice_get}
use Rattle.std.specs.List.{flat_map}
use Rattle.std.proofs.lemmas.List.{append-nil, take_all, take_more}
use Rattle.std.proofs.lemmas.List.Concat.{flat_map-append}
use Rattle.std.proofs.lemmas.List.Elements.{All-append, All-cons, All-nil}
use Rattle.std.proofs.lemmas.Option.{get_or_from_slice_get, slice_get_within}
use Rattle.ox_checkpoint.specs.Putting.{Ended, Puts}
use Rattle.ox_checkpoint.specs.declared.put.buffer.PutFault.{PutFault}
use Rattle.ox_checkpoint.specs.declared.put.buffer.PutFault.TheVariants as faults

module _ {K W : Type 0} (holds : K → W → List ℕ → Type 0) (goes : K → W → K → W → Type 0) where
  -- into the buffer alone
  pub puts_rows : (piece : List ℕ) (k : K) (w : W) (before waits : List ℕ) → goes k w k w → waits ≡ before ++ piece → Puts holds goes piece k w before k w waits
  puts_rows piece k w before waits none put = record {
    more = [];
    went = none;
    took = λ bytes held. subst (holds k w) (sym (append-nil bytes)) held;
    whole = sym put;
  }

  pub puts_none : (k : K) (w : W) (before : List ℕ) → goes k w k w → Puts holds goes [] k w before k w before
  puts_none k w before none = puts_rows [] k w before before none (sym (append-nil before))

  pub puts_as : {piece other : List ℕ} {k l : K} {w x : W} {before waits : List ℕ} → piece ≡ other → Puts holds goes piece k w before l x waits → Puts holds goes other k w before l x waits
  puts_as {piece} {other} {k} {l} {w} {x} {before} {waits} same puts = subst (λ (b : List ℕ). Puts holds goes b k w before l x waits) same puts

  -- and at the end the rest
  pub all_taken : (piece : List ℕ) {k l m : K} {w x y : W} {before waits last : List ℕ} → before ≡ [] → last ≡ waits → Puts holds goes piece k w before l x waits
      → ((bytes : List ℕ) → holds l x bytes → holds m y (bytes ++ last)) → (bytes : List ℕ) → holds k w bytes → holds m y (bytes ++ piece)
  all_taken piece {k} {l} {m} {w} {x} {y} {before} {waits} {last} none rest puts take bytes held =
      let whole : (bytes ++ puts.more) ++ last ≡ bytes ++ piece =
      append_assoc bytes puts.more last
      ∙ ap (λ (b : List ℕ). bytes ++ (puts.more ++ b)) rest
      ∙ ap (λ (b : List ℕ). bytes ++ b) (sym puts.whole ∙ ap (λ (b : List ℕ). b ++ piece) none) in
      subst (holds m y) whole (take (bytes ++ puts.more) (puts.took bytes held))

  -- the sink has taken bytes then too
  pub has_more : (piece : List ℕ) (k : K) (w : W) (before : List ℕ) (l : K) (x : W) (waits : List ℕ) → Puts holds goes piece k w before l x waits → (bytes : List ℕ) × holds k w bytes → (bytes : List ℕ) × holds l x bytes
  has_more piece k w before l x waits puts has = (has.0 ++ puts.more, puts.took has.0 has.1)

  module _ (then_went : (k l m : K) (w x y : W) → goes k w l x → goes l x m y → goes k w m y) where
    pub puts_then : (front piece : List ℕ) {k l m : K} {w x y : W} {before between waits : List ℕ} → Puts holds goes front k w before l x between → Puts holds goes piece l x between m y waits
        → Puts holds goes (front ++ piece) k w before m y waits
    puts_then front piece {k} {l} {m} {w} {x} {y} {before} {between} {waits} first next = record {
      more = first.more ++ next.more;
      went = then_went k l m w x y first.went next.went;
      took = λ bytes held. subst (holds m y) (append_assoc bytes first.more next.more) (next.took (bytes ++ first.more) (first.took bytes held));
      whole =
          sym (append_assoc before front piece) ∙ ap (λ (b : List ℕ). b ++ piece) first.whole ∙ append_assoc first.more between piece
          ∙ ap (λ (b : List ℕ). first.more ++ b) next.whole ∙ sym (append_assoc first.more next.more waits);
    }

-- calls that went well, and more of them
pub ended_then : {K W F : Type 0} (goes : K → W → K → W → Type 0) (ends : K → W → F → K → W → Type 0) → ((k l m : K) (w x y : W) → goes k w l x → goes l x m y → goes k w m y)
    → ((k l m : K) (w x y : W) (fault : F) → goes k w l x → ends l x fault m y → ends k w fault m y) → (k l m : K) (w x y : W) (fault : PutFault F) → goes k w l x → Ended goes ends l x fault m y → Ended goes ends k w fault m y
ended_then goes ends then_went then_ended k l m w x y faults.Memory first next = then_went k l m w x y first next
ended_then goes ends then_went then_ended k l m w x y (faults.Sink fault) first next = then_ended k l m w x y fault first next

-- ---- rows in turn

-- there is one before the end
pub slice_get_at : {X : Type 0} (xs : List X) (n : ℕ) → n < length xs → (x : X) × (slice_get xs n ≡ Some x)
slice_get_at [] n less = absurd (omega (arith, less))
slice_get_at (x ∷ xs) zero less = (x, refl)
slice_get_at (x ∷ xs) (suc n) less = slice_get_at xs n (omega (arith, less))

-- these have been put, and each fits
pub record ArePutOn {K W X : Type 0} (holds : K → W → List ℕ → Type 0) (goes : K → W → K → W → Type 0) (item : X → List ℕ) (Fits : X → Type 0) (k : K) (w : W) (before : List ℕ) (l : K) (x : W) (waits : List ℕ) (done : List X) : Type 0 where
  pub put : Puts holds goes (flat_map item done) k w before l x waits
  pub fit : All Fits done

module _ {K W X : Type 0} (holds : K → W → List ℕ → Type 0) (goes : K → W → K → W → Type 0) (item : X → List ℕ) (Fits : X → Type 0) (k : K) (w : W) (before : List ℕ) where
  pub none_put_on : goes k w k w → ArePutOn holds goes item Fits k w before k w before []
  none_put_on none = record { put = puts_none holds goes k w before none; fit = All-nil Fits }

  pub one_put_on : ((k l m : K) (w x y : W) → goes k w l x → goes l x m y → goes k w m y) → (l m : K) (x y : W) (between waits : List ℕ) (all : List X) (n : ℕ) (one : X) → ArePutOn holds goes item Fits k w before l x between (take n all)
      → slice_get all n ≡ Some one → Puts holds goes (item one) l x between m y waits → Fits one → ArePutOn holds goes item Fits k w before m y waits (take (n + 1) all)
  one_put_on then_went l m x y between waits all n one so_far there put fits =
      let next : take (n + 1) all ≡ take n all ++ one ∷ [] = take_more all n one (slice_get_within all n one there) ∙ ap (λ (e : X). take n all ++ e ∷ []) (get_or_from_slice_get all n one one there) in
      let spelled : flat_map item (take n all) ++ item one ≡ flat_map item (take n all ++ one ∷ []) =
      ap (λ (b : List ℕ). flat_map item (take n all) ++ b) (sym (append-nil (item one))) ∙ sym (flat_map-append item (take n all) (one ∷ [])) in
      subst (ArePutOn holds goes item Fits k w before m y waits) (sym next) (record {
        put = subst (λ (b : List ℕ). Puts holds goes b k w before m y waits) spelled (puts_then holds goes then_went (flat_map item (take n all)) (item one) so_far.put put);
        fit = All-append Fits (take n all) (one ∷ []) so_far.fit (All-cons Fits one [] fits (All-nil Fits));
      })

  pub all_put_on : (l : K) (x : W) (waits : List ℕ) (all : List X) (n : ℕ) → length all ≤ n → ArePutOn holds goes item Fits k w before l x waits (take n all)
      → Puts holds goes (flat_map item all) k w before l x waits × All Fits all
  all_put_on l x waits all n past so_far =
      let whole : take n all ≡ all = take_all n all past in
      (subst (λ (done : List X). Puts holds goes (flat_map item done) k w before l x waits) whole so_far.put, subst (All Fits) whole so_far.fit)
