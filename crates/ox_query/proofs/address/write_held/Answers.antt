use Rattle.std.proofs.Common.{◌<◌, ◌∙◌, ℕ, List, length, sym, ap, subst}
use Rattle.std.specs.Prelude.{All}
use Rattle.serde_json.specs.Data.{string}
use Rattle.ox_address.specs.Address.{address_of}
use Rattle.ox_sat.specs.declared.profiles.Profile.{Profile}
use Rattle.ox_replies.specs.Inscriptions.{ids_tree}
use Rattle.ox_replies.specs.Runes.{balances_tree}
use Rattle.ox_replies.specs.Values.{hex}
use Rattle.ox_held.specs.Paths.{hrp_in}
use Rattle.ox_query.specs.Written.{tokens_of}
use Rattle.ox_query.proofs.Steps.{same, ◌▸◌}
use Rattle.ox_query.proofs.address.write_held.Goals as goal

pub write_id_array-requires : goal.write_id_array-requires
write_id_array-requires g c =
    subst (All (λ n. n < length (g.V.View.index c.args.live.now).inscriptions)) (sym c.as_slice.ensures) c.requires

pub returns : goal.returns
returns g c =
    let index = g.V.View.index c.args.live.now in
    c.begin_object.ensures
    ▸ c.key.ensures ▸ same (λ (hrp : List ℕ). tokens_of (string (address_of hrp c.args.script.now)))
    (c.hrp_in.ensures.exact ∙ ap (λ (p : Profile). hrp_in p) c.profile.ensures) c.write_address.ensures
    ▸ c.key-2.ensures ▸ same (λ numbers. tokens_of (ids_tree index.inscriptions numbers)) c.as_slice.ensures c.write_id_array.ensures
    ▸ c.key-3.ensures ▸ c.write_outpoints.ensures
    ▸ c.key-4.ensures ▸ same (λ balances. tokens_of (balances_tree index.runes balances)) c.as_slice-2.ensures c.write_balances.ensures
    ▸ c.key-5.ensures ▸ same (λ bytes. tokens_of (hex bytes)) c.as_slice-3.ensures.bytes c.write_hex.ensures
    ▸ c.key-6.ensures ▸ c.u64.ensures
    ▸ c.end_object.ensures
