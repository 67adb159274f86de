use Rattle.std.proofs.Common.{◌∙◌, ◌++◌, List, ℕ, ap, sym, rules}
use Rattle.std.proofs.lemmas.Result.{on_ok_weaker}
use Rattle.ox_block.specs.Spelling.{outpoint}
use Rattle.ox_rows.specs.RowSpelling.{balance}
use Rattle.ox_rows.specs.Spelling.{list}
use Rattle.ox_rows.proofs.Putting.{more}
use Rattle.ox_checkpoint.proofs.HeldLemmas.{placed_rows}
use Rattle.ox_checkpoint.proofs.put.held.put_held.Goals as goal

pub returns : goal.returns
returns c =
    let old = c.args.bytes.now in
    let at = c.args.at.now in
    let held = c.args.held.now in
    let rows = placed_rows at held (sym c.is_empty.ensures ∙ c.if-is_empty.false) in record {
      ok = on_ok_weaker c.put_list.result
          (λ last. more old (outpoint at) (list balance held) c.in_ok-put.ensures.ok last ∙ ap (λ (r : List ℕ). old ++ r) (sym rows))
          c.put_list.ensures.ok;
      fits = search rules;
    }
