use Rattle.std.proofs.Common.{IsUtf8, sym, subst}
use Rattle.ox_query.proofs.Spelled.{name_is_text}
use Rattle.ox_query.proofs.texts.write_sat_name.Goals as goal

pub text_of-requires : goal.text_of-requires
text_of-requires c =
    subst IsUtf8 (sym c.write_name-len.ensures.name) (name_is_text c.args.p.now c.args.sat c.requires.known c.requires.minted)
