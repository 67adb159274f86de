-- Bytes in the order of the numbers that their fronts spell.
use Rattle.std.proofs.Common.{◌≡◌, ◌∙◌, ◌<◌, ◌≤◌, ◌+◌, ◌*◌, ℕ, zero, suc, List, [], ◌∷◌, length, take, get_or, refl, sym, ap, arith, Ordering}
use Rattle.std.specs.declared.cmp.Ordering.TheVariants.{Less, Equal, Greater}
use Rattle.std.specs.Ordering.{nat_cmp, ordering_then, MatchOrdering}
use Rattle.std.specs.Cmp.{ranks, nat_cmp_is}
use Rattle.std.specs.Cmp.Lexicographic.{slice_cmp}
use Rattle.std.specs.Slice.Scan.{big_endian}

-- each is a byte
abbrev pub AreBytes : List ℕ → Type 0
AreBytes xs = (k : ℕ) → get_or xs k 0 < 256

-- the first that differ decide, whatever follows
rises : (n a b : ℕ) (us vs : List ℕ) → n ≤ length us → n ≤ length vs → AreBytes us → a < b → big_endian a (take n us) < big_endian b (take n vs)
rises zero a b us vs p q small l = l
rises (suc n) a b [] vs p q small l = absurd (omega arith)
rises (suc n) a b (u ∷ us) [] p q small l = absurd (omega arith)
rises (suc n) a b (u ∷ us) (v ∷ vs) p q small l =
    let byte : u < 256 = small 0 in
    rises n (a * 256 + u) (b * 256 + v) us vs (omega arith) (omega arith) (λ k. small (suc k)) (omega arith)

-- numbers that differ decide
pub fronts_decide : (n a : ℕ) (us vs : List ℕ) → n ≤ length us → n ≤ length vs → AreBytes us → AreBytes vs → (big_endian a (take n us) ≡ big_endian a (take n vs) → ⊥) → slice_cmp nat_cmp us vs ≡ nat_cmp (big_endian a (take n us)) (big_endian a (take n vs))
fronts_decide zero a us vs p q small_u small_v apart = absurd (apart refl)
fronts_decide (suc n) a [] vs p q small_u small_v apart = absurd (omega arith)
fronts_decide (suc n) a (u ∷ us) [] p q small_u small_v apart = absurd (omega arith)
fronts_decide (suc n) a (u ∷ us) (v ∷ vs) p q small_u small_v apart =
    by (λ differ. fronts_decide n (a * 256 + u) us vs (omega arith) (omega arith) (λ k. small_u (suc k)) (λ k. small_v (suc k)) differ) (nat_cmp u v) refl (ranks u v) where
      by : ((big_endian (a * 256 + u) (take n us) ≡ big_endian (a * 256 + u) (take n vs) → ⊥) → slice_cmp nat_cmp us vs ≡ nat_cmp (big_endian (a * 256 + u) (take n us)) (big_endian (a * 256 + u) (take n vs)))
          → (r : Ordering) → nat_cmp u v ≡ r → MatchOrdering r (u < v) (u ≡ v) (v < u) → slice_cmp nat_cmp (u ∷ us) (v ∷ vs) ≡ nat_cmp (big_endian (a * 256 + u) (take n us)) (big_endian (a * 256 + v) (take n vs))
      by onward Less is low =
          let under : u < v = low in
          let lower = rises n (a * 256 + u) (a * 256 + v) us vs (omega arith) (omega arith) (λ k. small_u (suc k)) (omega arith) in
          ap (λ r. ordering_then r (slice_cmp nat_cmp us vs)) is ∙ nat_cmp_is _ _ Less lower
      by onward Greater is high =
          let over : v < u = high in
          let higher = rises n (a * 256 + v) (a * 256 + u) vs us (omega arith) (omega arith) (λ k. small_v (suc k)) (omega arith) in
          ap (λ r. ordering_then r (slice_cmp nat_cmp us vs)) is ∙ nat_cmp_is _ _ Greater higher
      by onward Equal is level =
          let same : u ≡ v = level in
          let bases : a * 256 + v ≡ a * 256 + u = omega arith in
          let rest = onward (λ e. apart (e ∙ ap (λ b. big_endian b (take n vs)) (sym bases))) in
          ap (λ r. ordering_then r (slice_cmp nat_cmp us vs)) is ∙ (rest ∙ ap (λ b. nat_cmp (big_endian (a * 256 + u) (take n us)) (big_endian b (take n vs))) (sym bases))
