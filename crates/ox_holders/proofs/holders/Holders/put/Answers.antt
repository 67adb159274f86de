use Rattle.std.proofs.Common.{◌≡◌, ◌∙◌, ap}
use Rattle.std.specs.Prelude.{◌||◌}
use Rattle.std.specs.BTreeMap.{is_at}
use Rattle.ox_holders.specs.declared.key.Key.{Key}
use Rattle.ox_holders.specs.Keys.{is_among, key_cmp, key_of}
use Rattle.ox_holders.proofs.Steps.{put_in}
use Rattle.ox_holders.proofs.holders.Holders.put.Goals as goal

pub returns : goal.returns
unfolding is_among
returns c = λ script place.
    let key : Key = c.in_ok-key.key in
    let same : key ≡ key_of c.args.row.now.script c.args.at.now =
    c.in_ok-key.ensures ∙ ap (λ s. key_of s c.args.at.now) c.as_slice.ensures in
    c.in_ok-insert.ensures.updates.0 (key_of script place)
    ∙ put_in (is_at (key_cmp key) (key_of script place)) (is_among c.args.self.now.keys.keys script place)
    ∙ ap (λ k. is_among c.args.self.now.keys.keys script place || is_at (key_cmp k) (key_of script place)) same
