use Rattle.std.proofs.Common.{◌∙◌, cond, None, sym, ap}
use Rattle.std.proofs.lemmas.Str.{is_utf8-from_IsUtf8}
use Rattle.ox_held.specs.Paths.{part_behind}
use Rattle.ox_held.proofs.PathLemmas.{no_text}
use Rattle.ox_held.proofs.paths.address_part.Goals as goal

pub returns-in-Ok : goal.returns-in-Ok
returns-in-Ok c =
    c.part_behind.ensures
    ∙ sym (ap (λ b. cond b (part_behind c.args.path.now) None) (is_utf8-from_IsUtf8 c.args.path.now c.in-Ok.ensures.cases.1))

pub returns-in-Err : goal.returns-in-Err
returns-in-Err c = sym (no_text c.args.path.now c.in-Err.ensures.cases.0)
