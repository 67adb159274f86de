use Rattle.ox_query.proofs.RuneTexts.{amount_is_text, front_is_text}
use Rattle.ox_query.proofs.rune_values.write_shown.Goals as goal

pub text_of-requires : goal.text_of-requires
text_of-requires c =
    front_is_text _ _ _ _ c.write_amount-len.ensures.written c.write_amount-len.ensures.length (amount_is_text c.args.amount c.args.divisibility c.ranges.amount.fits)
