use Rattle.ox_gated.specs.Layout.{layout_of}
use Rattle.ox_gated.proofs.CutRecords.{ends_cut}
use Rattle.ox_gated.proofs.LayoutLaws.{laws_of}
use Rattle.ox_gated.proofs.laws.cut_records_end_at_their_gate.Goals as goal

pub returns : goal.returns
returns c = λ version. ends_cut (layout_of version) (laws_of version)
