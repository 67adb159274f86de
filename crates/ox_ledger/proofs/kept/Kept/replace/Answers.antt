use Rattle.std.proofs.Common.{◌∙◌, ap, sym}
use Rattle.std.specs.Prelude.{slice_index_or}
use Rattle.ox_ledger.proofs.KeptLemmas.{set_again}
use Rattle.ox_ledger.proofs.kept.Kept.replace.Goals as goal

pub returns-clause-err : goal.returns-clause-err
returns-clause-err g c =
    let items = c.self.inside.items.items in
    let first = ap (λ one. one.1) c.in-Err.ensures.value_returned ∙ c.replace-first.ensures.value in
    let there = first ∙ c.index_mut-2.ensures.value ∙ ap (slice_index_or items c.args.place) (sym first) in
    (λ i. record { items = set_again items c.args.place c.replace-first.new.dest c.in-Err.failed.value.1 there i; stood = c.in-Err.ensures.err i }) ∙ c.self.view_is
