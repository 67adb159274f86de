-- The map's entry comes to the front, and so does that of the contracts.
use Rattle.std.proofs.Common.{◌+◌, ◌-◌, ◌^◌, ◌∙◌, ap, min, refl, subst, sym}
use Rattle.lru.specs.LruCache.{LruCache, lru_cache, promoted}
use Rattle.ox_http.specs.declared.Reply.{Reply}
use Rattle.ox_cache.specs.Kept.{Hits, entry_of, kept_in}
use Rattle.ox_cache.specs.declared.Key.{Key}
use Rattle.ox_cache.proofs.Keys.{Hits-promoted, equal}
use Rattle.ox_cache.proofs.Cache.hit.Goals as goal

pub returns-clause-ok : goal.returns-clause-ok
returns-clause-ok c =
    let key = c.args.key.now in
    let count = min (c.self.inside.hits + 1) (2 ^ 64 - 1) in
    subst
    (λ new. Hits key.commands key.path.items
    (entry_of key.commands key.path.items c.args.self.now.entries) c.args.self.now new)
    (sym c.count.ensures)
    (subst
    (λ old. Hits key.commands key.path.items
    (entry_of key.commands key.path.items old.entries) old (kept_in c.promote.new.self count))
    c.self.view_is
    (Hits-promoted key c.self.inside.replies c.promote.new.self c.self.inside.hits count
    (c.promote.ensures.entries
    ∙ ap (λ (kept : LruCache Key Reply). lru_cache (promoted (equal key) kept.entries) kept.cap)
    c.keep_bytes_of.ensures)
    refl))
