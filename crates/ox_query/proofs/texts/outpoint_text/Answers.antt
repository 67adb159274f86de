use Rattle.std.proofs.Common.{IsUtf8, sym, subst}
use Rattle.ox_query.proofs.Digits.{hash_is_text}
use Rattle.ox_query.proofs.texts.outpoint_text.Goals as goal

pub text_of-requires : goal.text_of-requires
text_of-requires c = subst IsUtf8 (sym c.hash_digits.ensures) (hash_is_text c.args.at.now.txid.0)
