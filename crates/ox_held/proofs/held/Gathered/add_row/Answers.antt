use Rattle.std.proofs.Common.{◌+◌, ◌++◌, ◌∙◌, ℕ, List, ap, refl}
use Rattle.std.specs.List.{flat_map}
use Rattle.std.proofs.lemmas.Result.{on_ok_weaker}
use Rattle.ox_inscribe.specs.Inscriptions.{on}
use Rattle.ox_held.proofs.held.Gathered.add_row.Goals as goal

pub returns : goal.returns
returns g c =
    let old = c.args.self.now in
    on_ok_weaker c.append_on.result
    (λ appended. record {
      value = ap (λ n. old.value + n) c.len-count.ensures;
      runes = refl;
      sequences =
          appended
          ∙ ap (λ (sats : List ℕ). old.sequences.items ++ flat_map (on (g.V.View.index c.args.live.now).inscriptions) sats) c.runs.ensures.numbers;
    })
    c.append_on.ensures
