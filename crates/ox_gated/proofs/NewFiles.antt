-- Two files that were made stand for what they were made of.
use Rattle.std.proofs.Common.{◌≡◌, ◌∙◌, ◌<◌, ◌+◌, ◌^◌, inl, ℕ, Bool, List, [], ◌∷◌, ◌++◌, length, true, refl, sym, ap, arith}
use Rattle.std.specs.Prelude.{IsTrue}
use Rattle.std.proofs.lemmas.List.{drop_all, append-nil}
use Rattle.ox_outside.specs.Files.{Files, file_of, with_file, with_bytes}
use Rattle.ox_outside.specs.declared.site.Which.TheVariants.{A, B}
use Rattle.ox_gated.specs.Layout.{is_lawful, head_of, checkpoint_bytes}
use Rattle.ox_gated.specs.OtherFile.{ReadsNew, first_gate_at}
use Rattle.ox_gated.specs.Pick.{Picked}
use Rattle.ox_gated.specs.Reading.{body_reading}
use Rattle.ox_outside.specs.Crash.{Remains, Only, Follows, Tears}
use Rattle.ox_gated.specs.Tail.{KeepsFound, new_files, new_found}
use Rattle.ox_gated.specs.declared.head.Head.{Head}
use Rattle.ox_gated.proofs.Stands.{judged, reading_of}
use Rattle.ox_gated.proofs.WholeFile.{opening, head_whole, body_whole}

module _ (head : Head) (body : List ℕ) (lawful : IsTrue (is_lawful head)) (depth : head.depth < 2 ^ 16) (generation : head.generation < 2 ^ 64) (small : length body < 2 ^ 64) where
  nothing_behind : (1 ∷ checkpoint_bytes head body) ++ [] ≡ 1 ∷ checkpoint_bytes head body
  nothing_behind = append-nil (1 ∷ checkpoint_bytes head body)

  picked_made : Picked (new_files (record { head = head; body = body })) A (opening head body lawful depth generation small)
  picked_made = record {
    opened = refl;
    head = sym (ap head_of nothing_behind) ∙ head_whole head body lawful depth generation small 1 [];
    beside = inl (refl, omega arith);
  }

  pub stands_made : ReadsNew A (record { head = head; body = body }) (new_files (record { head = head; body = body }))
  stands_made reads read =
      let o = opening head body lawful depth generation small in
      reading_of (new_files (record { head = head; body = body })) A o reads picked_made
      ∙ ap (λ (b : Bool). judged b A (body_reading A (1 ∷ checkpoint_bytes head body) o)) read
      ∙ ap (λ (l : List ℕ). body_reading A l o) (sym nothing_behind)
      ∙ body_whole head body lawful depth generation small 1 [] A

-- what the writes make of two empty files
pub written_first : (bytes : List ℕ) → with_bytes 1 bytes (0 ∷ []) ≡ 0 ∷ bytes
written_first bytes = ap (λ (l : List ℕ). (0 ∷ []) ++ bytes ++ l) (drop_all (1 + length bytes) (0 ∷ []) (omega arith)) ∙ append-nil (0 ∷ bytes)

-- the four states of two empty files that are made a pair
pub made_is : (bytes : List ℕ) (s0 s1 s2 s3 s4 : Files) → s0 ≡ record { a = []; b = [] } → s1 ≡ with_file s0 B (with_bytes 0 (0 ∷ []) (file_of s0 B)) → s2 ≡ with_file s1 A (with_bytes 0 (0 ∷ []) (file_of s1 A))
    → s3 ≡ with_file s2 A (with_bytes 1 bytes (file_of s2 A)) → s4 ≡ with_file s3 A (with_bytes 0 (1 ∷ []) (file_of s3 A)) → s4 ≡ record { a = 1 ∷ bytes; b = 0 ∷ [] }
made_is bytes s0 s1 s2 s3 s4 e0 e1 e2 e3 e4 =
    let first : s1 ≡ record { a = []; b = 0 ∷ [] } = e1 ∙ ap (λ (f : Files). with_file f B (with_bytes 0 (0 ∷ []) (file_of f B))) e0 in
    let second : s2 ≡ record { a = 0 ∷ []; b = 0 ∷ [] } = e2 ∙ ap (λ (f : Files). with_file f A (with_bytes 0 (0 ∷ []) (file_of f A))) first in
    let third : s3 ≡ record { a = 0 ∷ bytes; b = 0 ∷ [] } = e3 ∙ ap (λ (f : Files). with_file f A (with_bytes 1 bytes (file_of f A))) second ∙ (λ i. record { a = written_first bytes i; b = 0 ∷ [] }) in
    e4 ∙ ap (λ (f : Files). with_file f A (with_bytes 0 (1 ∷ []) (file_of f A))) third

pub first_b : (s0 s1 : Files) → s0 ≡ record { a = []; b = [] } → s1 ≡ with_file s0 B (with_bytes 0 (0 ∷ []) (file_of s0 B)) → s1.b ≡ 0 ∷ []
first_b s0 s1 e0 e1 = ap (λ (f : Files). f.b) e1 ∙ ap (λ (f : Files). with_bytes 0 (0 ∷ []) f.b) e0

-- what a crash leaves of them at the end
pub made_settled : (m1 m2 m3 m4 : Remains → Type 0) (s1 s4 : Files) → Only B s1.b m1 → Follows (Tears A 0 1) m1 m2
    → ((r : Remains) → m3 r → (q : Remains) × m2 q × (r.files.b ≡ q.files.b)) → ((r : Remains) → m4 r → (q : Remains) × m3 q × (r.files.b ≡ q.files.b)) → Only A s4.a m4 → s1.b ≡ s4.b → (r : Remains) → m4 r → r.files ≡ s4
made_settled m1 m2 m3 m4 s1 s4 only_b follows others3 others4 only_a same r left =
    let q3 = others4 r left in
    let q2 = others3 q3.0 q3.1 in
    let q1 = follows q2.0 q2.1 in
    let b : r.files.b ≡ s4.b = q3.2 ∙ q2.2 ∙ q1.2.files.others ∙ only_b q1.0 q1.1 ∙ same in
    let a : r.files.a ≡ s4.a = only_a r left in
    λ i. record { a = a i; b = b i }

pub made_keeps : (head : Head) (body : List ℕ) (size : ℕ) → size ≡ first_gate_at head body → KeepsFound (record { file = A; head = head; first = size; records = 0; gate = size; other_closed = true }) (new_found (record { head = head; body = body }))
made_keeps head body size is = record { file = refl; head = refl; first = is; records = refl; gate = is }
