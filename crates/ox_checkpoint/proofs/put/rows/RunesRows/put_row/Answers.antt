use Rattle.std.proofs.Common.{◌≡◌, ◌∙◌, ◌++◌, sym, ap, subst}
use Rattle.std.specs.Prelude.{OnOk, slice_get}
use Rattle.std.proofs.lemmas.Option.{same_Some}
use Rattle.ox_etching.specs.declared.row.RuneRow.{RuneRow}
use Rattle.ox_index.specs.Live.{index_in}
use Rattle.ox_rows.specs.RowSpelling.{rune}
use Rattle.ox_checkpoint.proofs.put.rows.RunesRows.put_row.Goals as goal

pub returns-in-Ok-clause-ok : goal.returns-in-Ok-clause-ok
returns-in-Ok-clause-ok c item there =
    let runes = (index_in c.args.self.now.0.now).runes in
    let same = same_Some c.rune.result.now item (sym c.rune.ensures ∙ ap (slice_get runes) c.in-Ok.ensures.1 ∙ there) in
    subst (λ (row : RuneRow). OnOk c.put.result (c.put.new.bytes ≡ c.args.bytes.now ++ rune row)) same c.put.ensures.ok
