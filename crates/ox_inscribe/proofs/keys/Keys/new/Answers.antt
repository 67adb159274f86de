use Rattle.std.proofs.Common.{ap, ℕ, List, []}
use Rattle.std.specs.Prelude.{unwrap_or}
use Rattle.std.specs.BTreeMap.{is_at}
use Rattle.std.specs.Map.{lookup}
use Rattle.std.specs.Ordering.{nat_cmp}
use Rattle.ox_envelope.specs.declared.id.InsId.{InsId}
use Rattle.ox_inscribe.specs.Inscriptions.{numbers_where}
use Rattle.ox_inscribe.specs.Shelved.{id_cmp}
use Rattle.ox_inscribe.proofs.keys.Keys.new.Goals as goal

pub returns : goal.returns
unfolding numbers_where
returns c = record {
  firsts = λ id. ap (λ (es : List (InsId × ℕ)). lookup (is_at (id_cmp id)) es) c.new.ensures;
  sats = λ sat. ap (λ (es : List (ℕ × List ℕ)). unwrap_or (lookup (is_at (nat_cmp sat)) es) []) c.new-2.ensures.empty;
  parents = λ id. ap (λ (es : List (InsId × List ℕ)). unwrap_or (lookup (is_at (id_cmp id)) es) []) c.new-3.ensures.empty;
}
