use Rattle.std.proofs.Common.{◌≡◌, ◌∙◌, nat_eq}
use Rattle.std.specs.List.{dedup}
use Rattle.std.proofs.lemmas.List.Filters.{dedup_is}
use Rattle.ox_held.proofs.OnSats.{once_rising, once_same}
use Rattle.ox_held.proofs.sequences.rising.Goals as goal

pub returns : goal.returns
returns c =
    let sorted = c.sort_unstable.new.self.items in
    let is : c.from_vec.result ≡ dedup nat_eq sorted = c.from_vec.ensures ∙ dedup_is nat_eq sorted c.dedup.new.self.items c.dedup.ensures.filtered in
    record {
      rising = once_rising c.args.numbers.items sorted c.from_vec.result is c.sort_unstable.ensures.sorted;
      same = once_same c.args.numbers.items sorted c.from_vec.result is c.sort_unstable.ensures.permutation;
    }
