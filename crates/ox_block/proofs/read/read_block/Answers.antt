use Rattle.std.proofs.Common.{ap, subst, ◌∙◌, arith}
use Rattle.ox_block.specs.Answer.{Gives}
use Rattle.ox_block.specs.Reading.{block_of}
use Rattle.ox_block.proofs.BlockLaws.{is_found, block_again}
use Rattle.ox_block.proofs.FirstFaultIsRead.{is_told}
use Rattle.ox_block.proofs.read.read_block.Goals as goal

pub returns-clause-found : goal.returns-clause-found
returns-clause-found c = is_found c.args.bytes.now c.block_or_place.result (λ i. omega (arith, c.type_inv.bytes i)) c.block_or_place.ensures

pub returns-clause-only : goal.returns-clause-only
returns-clause-only c = λ b h. subst (λ r. Gives c.block_or_place.result r) (ap block_of h.1 ∙ block_again b h.0) c.block_or_place.ensures

pub returns-clause-place : goal.returns-clause-place
returns-clause-place c = is_told c.args.bytes.now c.block_or_place.result c.block_or_place.ensures
