use Rattle.std.proofs.Common.{◌≡◌, ℕ, subst, sym}
use Rattle.std.specs.Prelude.{decimal}
use Rattle.ox_rules.specs.declared.refusal.Refusal.{Refusal}
use Rattle.ox_rules.specs.declared.refusal.Refusal.TheVariants.{TooLong, Syntax, Malformed, ChainEnd, Unlinked, BadRoot, Coinbase, BadWitness, UnknownOutput, Overspend, Overclaim, Depth}
use Rattle.ox_desk.specs.Plain.{IsPlain}
use Rattle.ox_desk.specs.Replies.{refusal_text}
use Rattle.ox_desk.proofs.Bodies.{ArePlain, plain_refusal}
use Rattle.ox_desk.proofs.plain.refusal_is_plain.Goals as goal

-- a number that was widened
same : {m n : ℕ} → m ≡ n → IsPlain (decimal m) → IsPlain (decimal n)
same is plain = subst (λ (k : ℕ). IsPlain (decimal k)) is plain

by_parts : (refusal other : Refusal) → refusal ≡ other → ArePlain other → IsPlain (refusal_text refusal)
by_parts refusal other is parts = subst (λ (r : Refusal). IsPlain (refusal_text r)) (sym is) (plain_refusal other parts)

pub returns-in-Malformed : goal.returns-in-Malformed
returns-in-Malformed c = by_parts _ (Malformed c.in-Malformed.at) c.in-Malformed.is c.number_is_plain.ensures

pub returns-in-ChainEnd : goal.returns-in-ChainEnd
returns-in-ChainEnd c = by_parts _ (ChainEnd c.in-ChainEnd.height) c.in-ChainEnd.is c.number_is_plain-in-ChainEnd.ensures

pub returns-in-Unlinked : goal.returns-in-Unlinked
returns-in-Unlinked c = by_parts _ (Unlinked c.in-Unlinked.have c.in-Unlinked.want) c.in-Unlinked.is c.hashes_are_plain.ensures

pub returns-in-BadRoot : goal.returns-in-BadRoot
returns-in-BadRoot c = by_parts _ (BadRoot c.in-BadRoot.have c.in-BadRoot.want) c.in-BadRoot.is c.hashes_are_plain-in-BadRoot.ensures

pub returns-in-Coinbase : goal.returns-in-Coinbase
returns-in-Coinbase c = by_parts _ (Coinbase c.in-Coinbase.tx) c.in-Coinbase.is (same c.from.ensures c.number_is_plain-in-Coinbase.ensures)

pub returns-in-UnknownOutput : goal.returns-in-UnknownOutput
returns-in-UnknownOutput c = by_parts _ (UnknownOutput c.in-UnknownOutput.tx c.in-UnknownOutput.input c.in-UnknownOutput.at) c.in-UnknownOutput.is (same c.from-in-UnknownOutput.ensures c.number_is_plain-in-UnknownOutput.ensures, same c.from-in-UnknownOutput-2.ensures c.number_is_plain-in-UnknownOutput-2.ensures, c.outpoint_is_plain.ensures)

pub returns-in-Overspend : goal.returns-in-Overspend
returns-in-Overspend c = by_parts _ (Overspend c.in-Overspend.tx c.in-Overspend.inputs c.in-Overspend.outputs) c.in-Overspend.is (same c.from-in-Overspend.ensures c.number_is_plain-in-Overspend.ensures, c.number_is_plain-in-Overspend-2.ensures, c.number_is_plain-in-Overspend-3.ensures)

pub returns-in-Overclaim : goal.returns-in-Overclaim
returns-in-Overclaim c = by_parts _ (Overclaim c.in-Overclaim.claimable c.in-Overclaim.claimed) c.in-Overclaim.is (c.number_is_plain-in-Overclaim.ensures, c.number_is_plain-in-Overclaim-2.ensures)

pub returns-in-TooLong : goal.returns-in-TooLong
returns-in-TooLong c = by_parts _ TooLong c.in-TooLong.is tt

pub returns-in-Syntax : goal.returns-in-Syntax
returns-in-Syntax c = by_parts _ Syntax c.in-Syntax.is tt

pub returns-in-BadWitness : goal.returns-in-BadWitness
returns-in-BadWitness c = by_parts _ BadWitness c.in-BadWitness.is tt

pub returns-in-Depth : goal.returns-in-Depth
returns-in-Depth c = by_parts _ Depth c.in-Depth.is tt
