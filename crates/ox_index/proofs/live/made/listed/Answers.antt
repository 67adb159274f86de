use Rattle.std.proofs.Common.{◌≡◌, ◌∙◌, List, ◌++◌, sym, ap}
use Rattle.std.specs.FinMap.{is_sorted}
use Rattle.std.proofs.lemmas.List.{append-nil}
use Rattle.ox_rules.specs.Outputs.{outpoint_cmp}
use Rattle.ox_ledger.specs.Runes.{Placement}
use Rattle.ox_index.proofs.Emptying.{none_taken}
use Rattle.ox_index.proofs.Filling.{rising_sorted}
use Rattle.ox_index.proofs.live.made.listed.Goals as goal

pub returns-clause-rising : goal.returns-clause-rising
returns-clause-rising c =
    let items = c.loop-entry.list.items in
    let none = none_taken c.loop-entry.table.entries (λ some. cc (c.in_default.ensures.variant.1 some)) in
    let are : c.from_vec.result ≡ c.args.table.entries =
    c.from_vec.ensures ∙ sym (append-nil items) ∙ ap (λ (es : List Placement). items ++ es) (sym none) ∙ c.loop-entry.invariant in
    ap (is_sorted outpoint_cmp) are ∙ rising_sorted outpoint_cmp c.args.table.entries c.len.ensures.ordered
