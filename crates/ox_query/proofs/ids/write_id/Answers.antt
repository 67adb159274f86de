use Rattle.std.proofs.Common.{IsUtf8, sym, subst}
use Rattle.ox_query.proofs.IdLists.{id_is_text}
use Rattle.ox_query.proofs.ids.write_id.Goals as goal

pub text_of-requires : goal.text_of-requires
text_of-requires c =
    subst IsUtf8 (sym c.write_id-len.ensures.text) (id_is_text c.args.id.now c.write_id-len.ensures.again)
