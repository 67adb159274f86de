-- Where numbers lead before and after a line is split.
use Rattle.std.proofs.Common.{◌≡◌, ◌∙◌, ℕ, zero, suc, ◌+◌, ◌-◌, ◌*◌, ◌%◌, ◌^◌, ◌<◌, ◌≤◌, bit_and, cond, Bool, refl, sym, ap, subst, inl, inr, arith}
use Rattle.std.specs.Prelude.{◌⊎◌}
use Rattle.std.proofs.lemmas.Bool.{lt-ltb, le-ltb}
use Rattle.std.proofs.lemmas.Nat.{mod-mul-add, mod_below, and_mask, pow_pos}
use Rattle.std.proofs.Math.Nat.{mod-eq_of_lt, pow-succ'}
use Rattle.std.proofs.Math.Pow.{mod-mod-pow}
use Rattle.ox_shards.specs.Lawful.{AreLawful}
use Rattle.ox_shards.specs.declared.lines.Lines.{Lines}
use Rattle.ox_shards.specs.Lines.{unless_above, line_of}

below : (level count r : ℕ) → r < count → unless_above level count r ≡ r
below level count r low = ap (λ (b : Bool). cond b r (r - 2 ^ level)) (lt-ltb r count low)

above : (level count r : ℕ) → count ≤ r → unless_above level count r ≡ r - 2 ^ level
above level count r high = ap (λ (b : Bool). cond b r (r - 2 ^ level)) (le-ltb r count high)

-- two numbers, one of which is less or which are the same
pub side : (a b : ℕ) → (a < b) ⊎ ((a ≡ b) ⊎ (b < a))
side zero zero = inr (inl refl)
side zero (suc b) = inl (omega arith)
side (suc a) zero = inr (inr (omega arith))
side (suc a) (suc b) = by (side a b) where
  by : (a < b) ⊎ ((a ≡ b) ⊎ (b < a)) → (suc a < suc b) ⊎ ((suc a ≡ suc b) ⊎ (suc b < suc a))
  by (inl low) = inl (omega (arith, low))
  by (inr (inl same)) = inr (inl (ap suc same))
  by (inr (inr high)) = inr (inr (omega (arith, high)))

-- where a number leads stays, or it led to the line that is split and leads to the new one
abbrev Leads : ℕ → ℕ → ℕ → ℕ → Type 0
Leads old new from last = (new ≡ old) ⊎ ((old ≡ from) × (new ≡ last))

next_one : (level count r : ℕ) → Leads (unless_above level count r) (unless_above level (count + 1) r) (count - 2 ^ level) count
next_one level count r = by (side r count) where
  by : (r < count) ⊎ ((r ≡ count) ⊎ (count < r)) → Leads (unless_above level count r) (unless_above level (count + 1) r) (count - 2 ^ level) count
  by (inl less) = inl (below level (count + 1) r (omega (arith, less)) ∙ sym (below level count r less))
  by (inr (inl same)) = inr (above level count r (omega (arith, same)) ∙ ap (λ (n : ℕ). n - 2 ^ level) same, below level (count + 1) r (omega (arith, same)) ∙ same)
  by (inr (inr more)) = inl (above level (count + 1) r (omega (arith, more)) ∙ sym (above level count r (omega (arith, more))))

-- one more line in a round
pub one_more : (level count h r : ℕ) → h ≡ 2 ^ level → Leads (unless_above level count r) (unless_above level (count + 1) r) (count - h) count
one_more level count h r is = subst (λ (n : ℕ). Leads (unless_above level count r) (unless_above level (count + 1) r) (count - n) count) (sym is) (next_one level count r)

twice : (level : ℕ) → 2 ^ (level + 1) ≡ 2 * 2 ^ level
twice level = ap (λ (n : ℕ). 2 ^ n) (omega arith) ∙ pow-succ' 2 level

-- a mask of so many bits
pub masked : (level h s : ℕ) → h ≡ 2 ^ level → bit_and s (2 * h - 1) ≡ s % 2 ^ (level + 1)
masked level h s is = ap (λ (n : ℕ). bit_and s (n - 1)) (ap (λ (n : ℕ). 2 * n) is ∙ sym (twice level)) ∙ and_mask s (level + 1)

module _ (level count h s : ℕ) (is : h ≡ 2 ^ level) where
  pub kept_line : bit_and s (2 * h - 1) < count → bit_and s (2 * h - 1) ≡ unless_above level count (s % 2 ^ (level + 1))
  kept_line low = masked level h s is ∙ sym (below level count (s % 2 ^ (level + 1)) (subst (λ (n : ℕ). n < count) (masked level h s is) low))

  pub lower_line : count ≤ bit_and s (2 * h - 1) → bit_and s (2 * h - 1) - h ≡ unless_above level count (s % 2 ^ (level + 1))
  lower_line high =
      ap (λ (n : ℕ). n - h) (masked level h s is) ∙ ap (λ (n : ℕ). s % 2 ^ (level + 1) - n) is
      ∙ sym (above level count (s % 2 ^ (level + 1)) (subst (λ (n : ℕ). count ≤ n) (masked level h s is) high))

-- a number that passes m once
wrapped : (m r : ℕ) → m ≤ r → r < 2 * m → r % m ≡ r - m
wrapped m r high low = ap (λ (n : ℕ). n % m) by ∙ mod-mul-add 1 m (r - m) (omega (arith, high, low)) where
  by : r ≡ 1 * m + (r - m)
  by = omega (arith, high)

-- one more line where a round is over: as many again were added
pub doubled : (level r m : ℕ) → m ≡ 2 ^ (level + 1) → r < 2 * m → Leads (unless_above level m (r % m)) (unless_above (level + 1) (m + 1) r) 0 m
doubled level r m is low = by (side r m) where
  old : r % m ≡ unless_above level m (r % m)
  old = sym (below level m (r % m) (mod_below r m (omega (arith, low))))

  by : (r < m) ⊎ ((r ≡ m) ⊎ (m < r)) → Leads (unless_above level m (r % m)) (unless_above (level + 1) (m + 1) r) 0 m
  by (inl less) = inl (below (level + 1) (m + 1) r (omega (arith, less)) ∙ sym (mod-eq_of_lt less) ∙ old)
  by (inr (inl same)) = inr (sym old ∙ wrapped m r (omega (arith, same)) low ∙ omega (arith, same), below (level + 1) (m + 1) r (omega (arith, same)) ∙ same)
  by (inr (inr more)) = inl (above (level + 1) (m + 1) r (omega (arith, more)) ∙ ap (λ (n : ℕ). r - n) (sym is) ∙ sym (wrapped m r (omega (arith, more)) low) ∙ old)

-- the same of what is left of a number
pub a_round_more : (level count s : ℕ) → count ≡ 2 * 2 ^ level → Leads (unless_above level count (s % 2 ^ (level + 1))) (unless_above (level + 1) (count + 1) (s % 2 ^ (level + 1 + 1))) 0 count
a_round_more level count s full =
    subst (λ (n : ℕ). Leads (unless_above level count n) (unless_above (level + 1) (count + 1) (s % 2 ^ (level + 1 + 1))) 0 count)
    (ap (λ (n : ℕ). s % 2 ^ (level + 1 + 1) % n) is ∙ ap (λ (n : ℕ). s % 2 ^ n % 2 ^ (level + 1)) (omega arith) ∙ mod-mod-pow s 1 (level + 1))
    (doubled level (s % 2 ^ (level + 1 + 1)) count is low)
  where
    is : count ≡ 2 ^ (level + 1)
    is = full ∙ sym (twice level)

    low : s % 2 ^ (level + 1 + 1) < 2 * count
    low = subst (λ (n : ℕ). s % 2 ^ (level + 1 + 1) < n) (twice (level + 1) ∙ ap (λ (n : ℕ). 2 * n) (sym is)) (mod_below s (2 ^ (level + 1 + 1)) (pow_pos (level + 1 + 1)))

-- how many lines there may be in the next round
pub still_lawful : (level count : ℕ) → AreLawful level count → 2 * 2 ^ level ≤ count → level < 31 → AreLawful (level + 1) (count + 1)
still_lawful level count are full low = record {
  bounded = omega (arith, low);
  many = subst (λ (n : ℕ). n ≤ count + 1) (sym next) (omega (arith, full));
  few = subst (λ (n : ℕ). count + 1 ≤ 2 * n) (sym next) (omega (arith, are.few, pow_pos level));
} where
  next : 2 ^ (level + 1) ≡ 2 * 2 ^ level
  next = twice level

-- each number leads to a line that is there
pub leads_below : (lines : Lines) (s : ℕ) → line_of lines s < lines.count
leads_below lines s = by (side r lines.count) where
  r : ℕ
  r = s % 2 ^ (lines.level + 1)

  low : r < 2 * 2 ^ lines.level
  low = subst (λ (n : ℕ). r < n) (twice lines.level) (mod_below s (2 ^ (lines.level + 1)) (pow_pos (lines.level + 1)))

  lower : lines.count ≤ r → unless_above lines.level lines.count r < lines.count
  lower high = subst (λ (n : ℕ). n < lines.count) (sym (above lines.level lines.count r high)) (omega (arith, low, high, lines.lawful.many, pow_pos lines.level))

  by : (r < lines.count) ⊎ ((r ≡ lines.count) ⊎ (lines.count < r)) → unless_above lines.level lines.count r < lines.count
  by (inl less) = subst (λ (n : ℕ). n < lines.count) (sym (below lines.level lines.count r less)) less
  by (inr (inl same)) = lower (omega (arith, same))
  by (inr (inr more)) = lower (omega (arith, more))
