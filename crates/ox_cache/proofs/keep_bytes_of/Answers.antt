-- The reply that is lent comes back as it was.
use Rattle.std.proofs.Common.{◌∙◌, ap, sym}
use Rattle.std.proofs.lemmas.Map.Steps.{set_value_same}
use Rattle.std.specs.Map.{set_value}
use Rattle.lru.specs.LruCache.{lru_cache}
use Rattle.ox_cache.proofs.Keys.{equal}
use Rattle.ox_cache.proofs.keep_bytes_of.Goals as goal

pub returns : goal.returns
returns c =
    let old = c.args.replies.now in
    ap (λ es. lru_cache es old.cap)
    (ap (set_value (equal c.args.key.now) old.entries) c.keep_bytes.ensures
    ∙ set_value_same (equal c.args.key.now) old.entries c.in-Some.kept.now
    (sym c.in-Some.ensures.value))
