use Rattle.std.proofs.Common.{◌≡◌, ◌≤◌, sym, refl, lit<, slice_index_or, arith}
use Rattle.ox_varint.specs.Varint.{varint_at, varint_within}
use Rattle.ox_varint.proofs.ReadLoop.{shifted, below_all, below_more, ends_here, reads_none, reads_on}
use Rattle.ox_varint.proofs.read_all.Goals as goal
use Rattle.ox_varint.proofs.read_all.Goals.{else-place-via-then-place+else-byte-gt-LAST_MAX, else-place-via-else-place}

pub loop-place-init : goal.loop-place-init
unfolding varint_at
loop-place-init c = (omega arith, lit< tt, reads_none c.args.bytes.now (varint_within 18 c.args.bytes.now))

pub overflow_add-value : goal.overflow_add-value
overflow_add-value c =
    let b = slice_index_or c.args.bytes.now c.loop-place.place 0 in
    let last : c.loop-place.place ≡ 18 → b ≤ 3 = λ at. elim c.else-place.branch [ else-place-via-then-place+else-byte-gt-LAST_MAX w ↦ omega arith | else-place-via-else-place w ↦ omega arith ] in
    rw (shifted b c.loop-place.place c.loop-place.invariant.0 last) (omega (arith, below_all c.loop-place.value b c.loop-place.place c.loop-place.invariant.0 last c.loop-place.invariant.1))

pub returns-then-byte-lt128 : goal.returns-then-byte-lt128
returns-then-byte-lt128 c =
    let b = slice_index_or c.args.bytes.now c.loop-place.place 0 in
    let last : c.loop-place.place ≡ 18 → b ≤ 3 = λ at. elim c.else-place.branch [ else-place-via-then-place+else-byte-gt-LAST_MAX w ↦ omega arith | else-place-via-else-place w ↦ omega arith ] in
    rw (shifted b c.loop-place.place c.loop-place.invariant.0 last) (sym (ends_here c.args.bytes.now c.loop-place.value c.loop-place.place b (varint_at c.args.bytes.now) c.loop-place.invariant.0 last (omega arith) refl (omega arith) c.loop-place.invariant.2))

pub loop-place-preserved : goal.loop-place-preserved
loop-place-preserved c =
    let b = slice_index_or c.args.bytes.now c.loop-place.place 0 in
    let last : c.loop-place.place ≡ 18 → b ≤ 3 = λ at. elim c.else-place.branch [ else-place-via-then-place+else-byte-gt-LAST_MAX w ↦ omega arith | else-place-via-else-place w ↦ omega arith ] in
    let before_last : c.loop-place.place ≤ 17 = elim c.else-place.branch [ else-place-via-then-place+else-byte-gt-LAST_MAX w ↦ omega arith | else-place-via-else-place w ↦ omega arith ] in
    rw (shifted b c.loop-place.place c.loop-place.invariant.0 last) (
      omega arith,
      below_more c.loop-place.value b c.loop-place.place c.loop-place.invariant.1,
      reads_on c.args.bytes.now c.loop-place.value c.loop-place.place b (varint_at c.args.bytes.now) (omega arith) (omega arith) refl (omega arith) (omega (arith, c.type_inv.bytes c.loop-place.place)) c.loop-place.invariant.2,
    )
