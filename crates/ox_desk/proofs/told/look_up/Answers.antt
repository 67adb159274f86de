use Rattle.std.proofs.Common.{◌∙◌, ap, rules}
use Rattle.ox_store.specs.Store.{StoreContents}
use Rattle.ox_desk.proofs.Answering.{looked_up}
use Rattle.ox_desk.proofs.told.look_up.Goals as goal

pub returns-clause-ok : goal.returns-clause-ok
returns-clause-ok c =
    looked_up _ c.args.store.now.stack c.args.store.now.commands c.args.request.now c.args.cache.now c.answer.new.self c.answer.result c.requires.get
    (λ reply made. search rules) c.requires.keeps c.requires.few c.commands.result c.as_slice.result.now (c.commands.ensures ∙ ap (λ (s : StoreContents). s.commands) c.store.ensures) c.as_slice.ensures c.answer.ensures.answers
