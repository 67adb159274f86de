use Rattle.std.proofs.Common.{◌∙◌, ap, List}
use Rattle.ox_allocation.specs.Balances.{Balance}
use Rattle.ox_ledger.specs.Runes.{burn}
use Rattle.ox_ledger.specs.Tables.{runes_of}
use Rattle.ox_ledger.proofs.HolderLemmas.{on_ok}
use Rattle.ox_ledger.proofs.TurnSteps.{can_give, given_by}
use Rattle.ox_ledger.proofs.tables.Tables.give.Goals as goal

pub settle-requires-clause-displaced : goal.settle-requires-clause-displaced
settle-requires-clause-displaced c = λ other.
    can_give c.args.id (runes_of c.args.self.now) c.burn.new.self.now c.args.dealt.given c.args.dealt.burned
    (ap (λ r. r.now) c.in_ok-burn.ensures.ok ∙ ap (λ (b : List Balance). burn b c.args.self.now.runes.now) c.as_slice.ensures) (c.requires.displaced other)

pub returns-clause-ok : goal.returns-clause-ok
returns-clause-ok c = on_ok c.settle.result (λ is. is
    ∙ given_by c.args.tx c.args.id (runes_of c.args.self.now) c.burn.new.self.now c.args.dealt.given c.args.dealt.burned
    (ap (λ r. r.now) c.in_ok-burn.ensures.ok ∙ ap (λ (b : List Balance). burn b c.args.self.now.runes.now) c.as_slice.ensures)) c.settle.ensures.ok
