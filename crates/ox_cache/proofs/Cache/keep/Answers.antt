-- The new entry of the map is that of the contracts.
use Rattle.std.proofs.Common.{◌≡◌, None, subst, sym, ◌∙◌, ap, nat_le}
use Rattle.std.proofs.lemmas.Bool.{le-leb}
use Rattle.ox_cache.specs.Kept.{after_miss, entry_in, entry_of, kept_in}
use Rattle.ox_cache.proofs.Keys.{after_miss-put}
use Rattle.ox_cache.proofs.Cache.keep.Goals as goal
use Rattle.ox_cache.proofs.Cache.keep.Goals.{in-Some-2, in-None-2}

pub returns-in_ok-put-clause-ok : goal.returns-in_ok-put-clause-ok
returns-in_ok-put-clause-ok c =
    let key = c.args.key in
    let old = kept_in c.self.inside.replies c.self.inside.hits in
    let none : entry_of key.commands key.path.items old.entries ≡ None =
    subst (λ kept. entry_of key.commands key.path.items kept.entries ≡ None)
    (sym c.self.view_is) c.requires in
    let is =
    after_miss-put key c.self.inside.replies c.put.new.self c.args.reply c.self.inside.hits
    (ap (λ n. nat_le n 65536) (sym c.len.ensures)
    ∙ le-leb c.len.result 65536 c.if-len-le-BODY_KEPT.true)
    none
    c.in_ok-put.ensures.entries
    ∙ ap (after_miss (entry_in (key, c.args.reply))) c.self.view_is in
    elim c.match-branch-2.branch [
      | in-Some-2 w ↦ w.self-is ∙ is
      | in-None-2 w ↦ w.self-is ∙ is
    ]
