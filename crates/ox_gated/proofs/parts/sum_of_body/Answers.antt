use Rattle.std.proofs.Common.{◌≡◌, ◌∙◌, ◌+◌, ℕ, List, ◌++◌, length, take, drop, ap, subst, arith, length-append, length-drop}
use Rattle.std.specs.Prelude.{slice_range}
use Rattle.std.proofs.lemmas.List.{length-take}
use Rattle.sha2.specs.Hashers.{Holds256}
use Rattle.sha2.specs.Sha256.{sha256}
use Rattle.ox_outside.proofs.Calls.{looks_then}
use Rattle.ox_outside.proofs.Counts.{no_fault_then}
use Rattle.ox_outside.specs.Files.{Files, file_of}
use Rattle.ox_gated.proofs.BodyRead.{slices_then}
use Rattle.ox_gated.proofs.Writing.{all_worked}
use Rattle.ox_gated.proofs.parts.sum_of_body.Goals as goal

pub pieces-preserved : goal.pieces-preserved
pieces-preserved g c =
    let kept = c.pieces.invariant in
    let step = c.in_ok-hash_piece.ensures in
    let file = file_of (g.S.Site.seen c.args.site.now) c.args.file in
    let read = c.pieces.read in
    let next = c.min-next.result in
    let old = take next c.pieces.room in
    let size : length old ≡ next = omega (arith, length-take next c.pieces.room, c.min-next.ensures) in
    record {
      within = omega (arith, kept.within, c.pieces-test.true, c.min-next.ensures);
      room = omega (arith, kept.room, c.hash_piece.auto.piece, size, length-append c.hash_piece.new.piece (drop next c.pieces.room), length-drop next c.pieces.room);
      looks = looks_then g.S.Site c.args.site.now c.pieces.site c.hash_piece.new.site kept.looks step.looks;
      counted = no_fault_then _ _ _ kept.counted (all_worked _ _ step.counted);
      hashed = λ told.
          let more = step.hashed (kept.looks.calls.as_told ∙ told) (slice_range file 90 (90 + read)) (kept.hashed told) in
          let there : slice_range (file_of (g.S.Site.seen c.pieces.site) c.args.file) (90 + read) (90 + read + length old) ≡ slice_range file (90 + read) (90 + read + next) =
          ap (λ (f : Files). slice_range (file_of f c.args.file) (90 + read) (90 + read + length old)) kept.looks.nothing.files
          ∙ ap (λ (k : ℕ). slice_range file (90 + read) (90 + read + k)) size in
          subst (λ (l : List ℕ). Holds256 c.hash_piece.new.hasher l) (ap (λ (l : List ℕ). slice_range file 90 (90 + read) ++ l) there ∙ slices_then file 90 read next) more;
    }

pub returns-clause-sum : goal.returns-clause-sum
returns-clause-sum g c told =
    let kept = c.pieces.invariant in
    let file = file_of (g.S.Site.seen c.args.site.now) c.args.file in
    let all : c.pieces.read ≡ c.args.size = omega (arith, kept.within, c.pieces-test.false) in
    c.finalize.ensures (slice_range file 90 (90 + c.pieces.read)) (kept.hashed told) ∙ ap (λ (k : ℕ). sha256 (slice_range file 90 (90 + k))) all
