-- The map's first pair is the most recent entry.
use Rattle.std.proofs.Common.{◌≡◌, ◌∙◌, ap, subst, sym, Some}
use Rattle.std.specs.List.{slice_get}
use Rattle.std.specs.Option.{option_map}
use Rattle.std.proofs.lemmas.Slice.Eq.{bytes_eq-Decides}
use Rattle.ox_cache.specs.Kept.{IsNewest}
use Rattle.ox_cache.proofs.Keys.{newest-is}
use Rattle.ox_cache.proofs.Cache.newest.Goals as goal

pub returns-in_ok-bytes-in-Some : goal.returns-in_ok-bytes-in-Some
returns-in_ok-bytes-in-Some c =
    let entries = c.self.inside.replies.entries in
    let first : slice_get entries 0 ≡ Some (c.in-Some.key.now, c.in-Some.kept.now) =
    sym c.peek_mru.ensures ∙ ap (option_map (λ p. (p.0.now, p.1.now))) c.in-Some.is in
    subst
    (λ old. IsNewest c.args.commands c.args.path.now c.args.close
    c.in_ok-bytes-in-Some.field-0 old.entries)
    c.self.view_is
    (newest-is c.args.commands c.args.path.now c.args.close c.in_ok-bytes-in-Some.field-0
    c.in-Some.key.now c.in-Some.kept.now entries first c.if-key-commands.true
    (sym c.as_slice.ensures.value ∙ (bytes_eq-Decides _ _).0 (sym c.if-eq.ensures))
    c.in_ok-bytes-in-Some.ensures)
