use Rattle.std.proofs.Common.{◌∙◌, sym, ap}
use Rattle.ox_gated.specs.Layout.{Layout}
use Rattle.ox_gated.proofs.LayoutLaws.{layout_summed}
use Rattle.ox_gated.proofs.head.Head.letters.Goals as goal

pub returns-then-is_summed : goal.returns-then-is_summed
returns-then-is_summed c = sym (ap (λ (l : Layout). l.letters) (layout_summed c.args.self.now.version (sym c.is_summed.ensures ∙ c.if-is_summed.true)))
