use Rattle.std.proofs.Common.{[], ◌∷◌, ap, ◌∙◌}
use Rattle.json.specs.Token.{string}
use Rattle.ox_sat.specs.Profiles.{name_at, profile_word}
use Rattle.ox_sat.specs.declared.profiles.Profile.{Profile}
use Rattle.ox_replies.specs.Values.{count, hash_or_null}
use Rattle.ox_query.specs.Written.{tokens_of}
use Rattle.ox_query.proofs.Steps.{same, ◌▸◌}
use Rattle.ox_query.proofs.status.write_status.Goals as goal

pub returns : goal.returns
returns g c =
    let word = c.word.ensures ∙ ap profile_word (c.of_byte-profile.ensures ∙ ap (λ (p : Profile). name_at p.byte) c.profile.ensures) in
    c.begin_object.ensures
    ▸ c.key.ensures ▸ same (λ n. tokens_of (count n)) (c.from.ensures ∙ c.blocks-2.ensures) c.u64.ensures
    ▸ c.key-2.ensures ▸ same (λ n. tokens_of (count n)) c.from-2.ensures c.u64-2.ensures
    ▸ c.key-3.ensures ▸ same (λ n. tokens_of (count n)) c.from-3.ensures c.u64-3.ensures
    ▸ c.key-4.ensures ▸ same (λ text. string text ∷ []) word c.string.ensures
    ▸ c.key-5.ensures ▸ same (λ hash. tokens_of (hash_or_null hash)) c.newest.ensures c.write_hash_or_null.ensures
    ▸ c.end_object.ensures
