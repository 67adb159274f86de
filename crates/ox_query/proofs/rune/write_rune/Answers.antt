use Rattle.json.specs.Token.{boolean}
use Rattle.std.proofs.Common.{[], ◌∷◌}
use Rattle.ox_replies.specs.Values.{amount, count, or_null}
use Rattle.ox_query.specs.Written.{tokens_of}
use Rattle.ox_query.proofs.Steps.{same, ◌▸◌}
use Rattle.ox_query.proofs.rune.write_rune.Goals as goal

pub returns : goal.returns
returns g c =
    c.begin_object.ensures
    ▸ c.key.ensures ▸ same (λ a. tokens_of (or_null amount a)) c.amount_of.ensures c.write_amount_or_null.ensures
    ▸ c.key-2.ensures ▸ c.write_amount.ensures
    ▸ c.key-3.ensures ▸ same (λ a. tokens_of (or_null amount a)) c.cap_of.ensures c.write_amount_or_null-2.ensures
    ▸ c.key-4.ensures ▸ same (λ n. tokens_of (count n)) c.from.ensures c.u64.ensures
    ▸ c.key-5.ensures ▸ c.write_hash.ensures
    ▸ c.key-6.ensures ▸ c.write_heights.ensures
    ▸ c.key-7.ensures ▸ same (λ a. tokens_of (amount a)) c.amount_held.ensures c.write_amount-2.ensures
    ▸ c.key-8.ensures ▸ c.write_rune_id.ensures
    ▸ c.key-9.ensures ▸ same (λ b. boolean b ∷ []) c.is_mintable.ensures c.boolean.ensures
    ▸ c.key-10.ensures ▸ c.write_amount-3.ensures
    ▸ c.key-11.ensures ▸ c.write_rune_name.ensures
    ▸ c.key-12.ensures ▸ same (λ n. tokens_of (count n)) c.from-2.ensures c.u64-2.ensures
    ▸ c.key-13.ensures ▸ c.write_offsets.ensures
    ▸ c.key-14.ensures ▸ c.write_amount-4.ensures
    ▸ c.key-15.ensures ▸ c.write_symbol.ensures
    ▸ c.end_object.ensures
