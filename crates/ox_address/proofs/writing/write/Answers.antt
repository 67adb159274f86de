use Rattle.std.proofs.Common.{rules, ℕ, List, ◌++◌, take, drop, sym, ap, ◌∙◌}
use Rattle.std.proofs.lemmas.List.{take_at}
use Rattle.ox_address.specs.Checksum.{checksum}
use Rattle.ox_address.specs.Address.{IsSegwit, address_of, symbols_of}
use Rattle.ox_address.specs.Passes.{front_of}
use Rattle.ox_address.proofs.writing.write.Goals as goal

pub returns-clause-exact : goal.returns-clause-exact
unfolding address_of
returns-clause-exact c =
    let segwit : IsSegwit c.args.script.now = search rules in
    let front : List ℕ = front_of c.args.hrp.now (symbols_of c.args.script.now ++ checksum c.args.hrp.now (symbols_of c.args.script.now)) in
    let n : ℕ = c.write_segwit.result in
    (segwit, ap (take n) c.write_segwit.ensures.text ∙ take_at front (drop n c.args.into.now) n (sym c.write_segwit.ensures.place))

pub returns-clause-length : goal.returns-clause-length
unfolding address_of
returns-clause-length c = c.write_segwit.ensures.place
