use Rattle.std.proofs.Common.{◌≡◌, ◌∙◌, ap}
use Rattle.std.specs.Prelude.{◌&&◌, not}
use Rattle.std.specs.BTreeMap.{is_at}
use Rattle.ox_holders.specs.declared.key.Key.{Key}
use Rattle.ox_holders.specs.Keys.{is_among, key_cmp, key_of}
use Rattle.ox_holders.proofs.Steps.{taken_out}
use Rattle.ox_holders.proofs.holders.Holders.take.Goals as goal

pub returns : goal.returns
unfolding is_among
returns c = λ script place.
    let key : Key = c.in_ok-key.key in
    let same : key ≡ key_of c.args.row.now.script c.args.at.now =
    c.in_ok-key.ensures ∙ ap (λ s. key_of s c.args.at.now) c.as_slice.ensures in
    c.remove.ensures.updates.0 (key_of script place)
    ∙ taken_out (is_at (key_cmp key) (key_of script place)) (is_among c.args.self.now.keys.keys script place)
    ∙ ap (λ k. is_among c.args.self.now.keys.keys script place && not (is_at (key_cmp k) (key_of script place))) same
