use Rattle.std.proofs.Common.{◌≡◌, ℕ, ◌<◌, ◌≤◌, List, length, take, Result, Ok, Err, sym, ap, ◌∙◌, arith}
use Rattle.std.specs.Prelude.{IfOk}
use Rattle.ox_varint.specs.declared.VarintFault.{VarintFault}
use Rattle.ox_varint.specs.Varint.{IsVarint, varint_at, varint_within}
use Rattle.ox_varint.proofs.GrammarLaws.{Found, IsBytes, is_found, is_read, truncated, truncates, overflowed, overflows}
use Rattle.ox_varint.proofs.read.Goals as goal

found_in : (bytes : List ℕ) (r : Result (ℕ × ℕ) VarintFault) → IsBytes bytes → r ≡ varint_at bytes → IfOk r (λ x. Found 18 bytes x.0 x.1)
unfolding varint_at
found_in bytes (Ok x) fits e = is_found 18 bytes x.0 x.1 fits (sym e)
found_in bytes (Err fault) fits e = tt

length_of : (bytes : List ℕ) (r : Result (ℕ × ℕ) VarintFault) → IfOk r (λ x. Found 18 bytes x.0 x.1) → IfOk r (λ x. (0 < x.1) × (x.1 ≤ length bytes) × (x.1 ≤ 19))
length_of bytes (Ok x) f = (f.some, f.within, f.short)
length_of bytes (Err fault) f = tt

spelled_of : (bytes : List ℕ) (r : Result (ℕ × ℕ) VarintFault) → IfOk r (λ x. Found 18 bytes x.0 x.1) → IfOk r (λ x. IsVarint (take x.1 bytes) x.0)
spelled_of bytes (Ok x) f = f.spelled
spelled_of bytes (Err fault) f = tt

pub returns-clause-length : goal.returns-clause-length
returns-clause-length c = length_of c.args.bytes.now c.read_all.result (found_in c.args.bytes.now c.read_all.result (λ i. omega (arith, c.type_inv.bytes i)) c.read_all.ensures)

pub returns-clause-found : goal.returns-clause-found
returns-clause-found c = spelled_of c.args.bytes.now c.read_all.result (found_in c.args.bytes.now c.read_all.result (λ i. omega (arith, c.type_inv.bytes i)) c.read_all.ensures)

pub returns-clause-only : goal.returns-clause-only
unfolding varint_at
returns-clause-only c = λ text rest n h short lt is. c.read_all.ensures ∙ ap (varint_within 18) is ∙ is_read 18 text rest n h short lt

pub returns-clause-truncated : goal.returns-clause-truncated
unfolding varint_at
returns-clause-truncated c = (
  λ e. let t = truncated 18 c.args.bytes.now (sym c.read_all.ensures ∙ e) in (omega arith, t.1),
  λ h. c.read_all.ensures ∙ truncates 18 c.args.bytes.now (omega (arith, h.0)) h.1,
)

pub returns-clause-overflow : goal.returns-clause-overflow
unfolding varint_at
returns-clause-overflow c = (
  λ e. let t = overflowed 18 c.args.bytes.now (sym c.read_all.ensures ∙ e) in (omega (arith, t.0), t.1, t.2),
  λ h. c.read_all.ensures ∙ overflows 18 c.args.bytes.now (omega (arith, h.0)) h.1 h.2,
)
