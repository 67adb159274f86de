use Rattle.ox_gated.proofs.LayoutLaws.{laws_of}
use Rattle.ox_gated.proofs.WholeFile.{head_there, length-front, right_body}
use Rattle.ox_gated.proofs.laws.layouts_read_back.Goals as goal

pub returns : goal.returns
returns c = record {
  records = λ version. (laws_of version).back;
  heads = λ head gate body rest lawful depth generation small. (head_there head body lawful depth generation small gate rest, length-front head body lawful depth generation small gate rest, right_body head body lawful depth generation small gate rest);
}
