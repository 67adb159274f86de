use Rattle.std.proofs.Common.{arith}
use Rattle.ox_query.proofs.RuneTexts.{front_is_text, name_is_text}
use Rattle.ox_query.proofs.rune_values.write_rune_name.Goals as goal

pub text_of-requires : goal.text_of-requires
text_of-requires c =
    front_is_text _ _ _ _ c.write_spaced-len.ensures.written c.write_spaced-len.ensures.length
    (name_is_text c.args.row.now.name c.args.row.now.spacers (omega arith))
