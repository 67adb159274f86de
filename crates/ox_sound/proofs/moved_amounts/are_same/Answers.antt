use Rattle.std.proofs.Common.{List, ap, sym, ◌∙◌}
use Rattle.std.specs.Prelude.{unwrap_or}
use Rattle.std.specs.BTreeMap.{is_at}
use Rattle.std.specs.Map.{lookup}
use Rattle.ox_allocation.specs.Balances.{Balance, id_cmp}
use Rattle.ox_plain.proofs.SameLemmas.{same_balances-Decides}
use Rattle.ox_sound.proofs.moved_amounts.are_same.Goals as goal

pub returns : goal.returns
returns c = λ yes id.
    ap (λ (es : List Balance). unwrap_or (lookup (is_at (id_cmp id)) es) 0) ((same_balances-Decides c.args.sums.now.entries c.args.others.now.entries).0 (sym c.eq.ensures ∙ yes))
