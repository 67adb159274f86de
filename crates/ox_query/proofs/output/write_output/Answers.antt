use Rattle.serde_json.specs.Data.{array}
use Rattle.ox_replies.specs.Outputs.{run_items}
use Rattle.ox_replies.specs.Runes.{balances_tree}
use Rattle.ox_replies.specs.Values.{count, hex}
use Rattle.ox_query.specs.Written.{tokens_of}
use Rattle.ox_query.proofs.Steps.{same, ◌▸◌}
use Rattle.ox_query.proofs.output.write_output.Goals as goal

pub returns : goal.returns
returns g c =
    c.begin_object.ensures
    ▸ c.key.ensures ▸ same (λ n. tokens_of (count n)) c.from.ensures c.u64.ensures
    ▸ c.key-2.ensures ▸ c.write_ids_in.ensures
    ▸ c.key-3.ensures ▸ same (λ runs. tokens_of (array (run_items runs))) c.runs.ensures.exact c.write_runs.ensures
    ▸ c.key-4.ensures ▸ same (λ balances. tokens_of (balances_tree (g.V.View.index c.args.live.now).runes balances)) c.balance.ensures c.write_balances.ensures
    ▸ c.key-5.ensures ▸ same (λ bytes. tokens_of (hex bytes)) c.as_slice.ensures c.write_hex.ensures
    ▸ c.key-6.ensures ▸ same (λ n. tokens_of (count n)) c.len.ensures c.u64-2.ensures
    ▸ c.end_object.ensures
