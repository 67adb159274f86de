-- What is looked up in the map is the entry's reply.
use Rattle.std.proofs.Common.{◌≡◌, subst, sym, ap, ◌∙◌, Bool, List, ℕ, Option, Some, None}
use Rattle.std.proofs.Common.{option_map}
use Rattle.std.specs.Option.{option_copied}
use Rattle.std.specs.Map.{lookup}
use Rattle.ox_http.specs.declared.Reply.{Reply}
use Rattle.ox_http.specs.Written.{written}
use Rattle.ox_cache.specs.Kept.{Peeked, closing, entry_of}
use Rattle.ox_cache.proofs.Keys.{Peeked-lookup, equal}
use Rattle.ox_cache.proofs.Cache.peek.Goals as goal

abbrev bytes_of : Bool → Option Reply → Option (List ℕ)
bytes_of close = option_map (λ reply. written (closing close reply))

pub returns-in_ok-bytes-in-Some : goal.returns-in_ok-bytes-in-Some
returns-in_ok-bytes-in-Some c =
    let entries = c.self.inside.replies.entries in
    let bytes = c.in_ok-bytes-in-Some.field-0 in
    let looked : lookup (equal c.args.key.now) entries ≡ Some c.in-Some.kept.now =
    sym c.peek.ensures ∙ ap option_copied c.in-Some.is in
    subst
    (λ old. Peeked c.args.close (Some bytes)
    (entry_of c.args.key.now.commands c.args.key.now.path.items old.entries))
    c.self.view_is
    (Peeked-lookup c.args.key.now c.args.close entries (Some bytes)
    (ap Some c.in_ok-bytes-in-Some.ensures ∙ sym (ap (bytes_of c.args.close) looked)))

pub returns-in-None : goal.returns-in-None
returns-in-None c =
    let entries = c.self.inside.replies.entries in
    let looked : lookup (equal c.args.key.now) entries ≡ None =
    sym c.peek.ensures ∙ ap option_copied c.in-None.is in
    subst
    (λ old. Peeked c.args.close None
    (entry_of c.args.key.now.commands c.args.key.now.path.items old.entries))
    c.self.view_is
    (Peeked-lookup c.args.key.now c.args.close entries None
    (sym (ap (bytes_of c.args.close) looked)))
