use Rattle.std.proofs.Common.{◌≡◌, ◌∙◌, ap, arith, refl}
use Rattle.std.specs.Prelude.{Some}
use Rattle.ox_store.specs.Store.{StoreContents}
use Rattle.ox_cache.specs.Kept.{Kept, none_kept}
use Rattle.ox_desk.specs.Desk.{IsSound, contents_in}
use Rattle.ox_desk.proofs.desk.StoreDesk.new.Goals as goal

-- a desk that has carried out nothing and keeps no reply
begins : (store : StoreContents) (cache : Kept) → cache ≡ none_kept 64 → store.commands ≡ 0 → IsSound (contents_in (Some store) 0 cache)
begins store cache none fresh = rw none (record {
  keeps = record { room = refl; entries = tt; apart = tt };
  commands = omega (arith, fresh);
  hits = omega arith;
})

pub invariant_of-result : goal.invariant_of-result
invariant_of-result c = λ is_open. begins c.new-2.result c.in_ok-cache.cache c.in_ok-cache.ensures (ap (λ (s : StoreContents). s.commands) c.new-2.ensures ∙ c.requires.fresh)
