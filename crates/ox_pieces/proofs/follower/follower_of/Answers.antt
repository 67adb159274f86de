use Rattle.std.proofs.Common.{ap, subst, sym}
use Rattle.ox_gated.specs.Reading.{is_present}
use Rattle.ox_gated.specs.declared.head.Head.{Head}
use Rattle.ox_store.proofs.HeadLemmas.{names_read}
use Rattle.ox_pieces.specs.Follower.{NamesLed}
use Rattle.ox_pieces.proofs.follower.follower_of.Goals as goal

pub invariant_of-result : goal.invariant_of-result
invariant_of-result c =
    let opened = c.args.current.opened in
    let stack = c.args.current.standing in
    let two = c.requires.head.1 in
    subst (λ (h : Head). NamesLed h stack) (sym c.requires.head.0)
    (record { version = two; names = names_read opened.head opened.body opened.records stack (ap is_present two) c.requires.lawful c.requires.stack })
