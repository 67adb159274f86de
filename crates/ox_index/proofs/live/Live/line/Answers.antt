use Rattle.std.proofs.Common.{ap, ◌∙◌}
use Rattle.ox_index.specs.Live.{index_in}
use Rattle.ox_rules.specs.Text.{tip_line}
use Rattle.ox_index.proofs.Tips.{tip_says}
use Rattle.ox_index.proofs.live.Live.line.Goals as goal

pub returns : goal.returns
returns c = c.ok_line_in.ensures ∙ ap tip_line c.tip.ensures ∙ tip_says (index_in c.args.self.now).hashes
