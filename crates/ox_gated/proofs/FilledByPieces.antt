-- What stands in the other file once the last gate and the head are written around a body.
use Rattle.std.proofs.Common.{◌≡◌, ◌∙◌, ◌+◌, ℕ, List, [], ◌∷◌, ◌++◌, length, take, drop, sym, ap, subst, arith, append_assoc}
use Rattle.std.proofs.lemmas.List.{drop_at}
use Rattle.ox_outside.specs.Files.{Files, file_of, other, with_bytes}
use Rattle.ox_outside.specs.declared.site.Site.{Ghosts as Meanings}
use Rattle.ox_outside.specs.declared.site.Which.{Which}
use Rattle.sha2.specs.Sha256.{sha256}
use Rattle.ox_gated.specs.Filling.{StandsAt, StaysShut}
use Rattle.ox_gated.specs.Layout.{Layout, head_bytes, head_front, is_summed, layout_of, summed}
use Rattle.ox_gated.specs.OtherFile.{BeginsShut, HoldsBoth, IsFilled, first_gate_at}
use Rattle.ox_gated.specs.Tail.{IsSettled, Kept}
use Rattle.ox_gated.specs.Written.{with_write}
use Rattle.ox_gated.specs.declared.head.Head.{Head}
use Rattle.ox_gated.proofs.BehindGate.{holds_again, stands_on, written_shut}
use Rattle.ox_gated.proofs.LayoutLaws.{layout_summed}
use Rattle.ox_gated.proofs.OneFile.{file_of-with_file}
use Rattle.ox_gated.proofs.WholeFile.{length-head_bytes}

-- the file that a write was made into
pub now_written : (file : Which) (at : ℕ) (bytes : List ℕ) (old new : Files) → new ≡ with_write file at bytes old → file_of new file ≡ with_bytes at bytes (file_of old file)
now_written file at bytes old new is = ap (λ (f : Files). file_of f file) is ∙ file_of-with_file old file (with_bytes at bytes (file_of old file))

module _ (head : Head) (is : head.version ≡ 3) (body : List ℕ) where
  summed_is : layout_of head.version ≡ summed
  summed_is = layout_summed head.version (ap is_summed is)

  abbrev plain : List ℕ
  plain = head_front head (length body)

  pub front_is : (front size_at sum : List ℕ) → size_at ≡ plain → sum ≡ sha256 body → front ≡ (size_at ++ sum) ++ sha256 (size_at ++ sum) → front ≡ head_bytes head body
  front_is front size_at sum size_is sum_is made =
      made
      ∙ (λ i. (size_is i ++ sum_is i) ++ sha256 (size_is i ++ sum_is i))
      ∙ append_assoc plain (sha256 body) (sha256 (plain ++ sha256 body))
      ∙ ap (λ (l : Layout). plain ++ l.sums plain body) (sym summed_is)

  pub gate_is : first_gate_at head body ≡ 90 + length body
  gate_is = ap (λ (l : Layout). l.body_at + length body) summed_is

  pub filled : (front old mid new : List ℕ) → front ≡ head_bytes head body → length front ≡ 89 → StandsAt 90 body old → BeginsShut old → mid ≡ with_bytes (90 + length body) (0 ∷ []) old → new ≡ with_bytes 1 front mid → IsFilled head body (90 + length body) new
  filled front old mid new made long stands shut mid_is new_is =
      let s : StandsAt 90 (body ++ 0 ∷ []) mid = stands_on 90 body (0 ∷ []) old mid stands mid_is in
      let shut_mid : BeginsShut mid = subst BeginsShut (sym mid_is) (written_shut (90 + length body) (0 ∷ []) old (omega arith) shut) in
      let gone : drop 90 mid ≡ (body ++ 0 ∷ []) ++ s.older = ap (drop 90) (s.file_is ∙ append_assoc s.front (body ++ 0 ∷ []) s.older) ∙ drop_at s.front ((body ++ 0 ∷ []) ++ s.older) 90 s.here in
      let at : 1 + length front ≡ 90 = omega (arith, long) in
      let whole = head_bytes head body in
      record {
        older = s.older;
        bytes =
            new_is
            ∙ (λ i. take 1 (shut_mid.1 i) ++ made i ++ drop (at i) mid)
            ∙ ap (λ (l : List ℕ). 0 ∷ (whole ++ l)) gone
            ∙ ap (λ (l : List ℕ). 0 ∷ l) (sym (append_assoc whole (body ++ 0 ∷ []) s.older) ∙ ap (λ (l : List ℕ). l ++ s.older) (sym (append_assoc whole body (0 ∷ []))));
        gate_is = sym gate_is;
      }

  length-front : (front : List ℕ) → front ≡ head_bytes head body → length front ≡ 89
  length-front front made =
      let at : (layout_of head.version).body_at ≡ 90 = ap (λ (l : Layout). l.body_at) summed_is in
      omega (arith, ap length made, length-head_bytes head body, at)

  module _ {S : Type 0} (means : Meanings S) (tail : Kept) (gate : ℕ) (at : gate ≡ 90 + length body) (front : List ℕ) (made : front ≡ head_bytes head body) (old mid new end : S)
      (stands : StandsAt 90 body (file_of (means.seen old) (other tail.file))) (shut : StaysShut means tail old) (first : means.seen mid ≡ with_write (other tail.file) gate (0 ∷ []) (means.seen old)) (second : means.seen new ≡ with_write (other tail.file) 1 front (means.seen mid)) (same : means.seen end ≡ means.seen new) where
    abbrev beside : Which
    beside = other tail.file

    there : IsFilled head body (90 + length body) (file_of (means.seen end) beside)
    there = filled front (file_of (means.seen old) beside) (file_of (means.seen mid) beside) (file_of (means.seen end) beside) made (length-front front made) stands shut.now
        (now_written beside gate (0 ∷ []) (means.seen old) (means.seen mid) first ∙ ap (λ (n : ℕ). with_bytes n (0 ∷ []) (file_of (means.seen old) beside)) at)
        (ap (λ (f : Files). file_of f beside) same ∙ now_written beside 1 front (means.seen mid) (means.seen new) second)

    pub ended_holds : StaysShut means tail end → IsSettled means end → HoldsBoth means (record { tail = tail; head = head; gate = gate }) body end
    ended_holds shut_now settled = record {
      current = holds_again means tail end shut_now settled;
      filled = subst (λ (g : ℕ). IsFilled head body g (file_of (means.seen end) beside)) (sym at) there;
    }
