use Rattle.std.proofs.Common.{IsUtf8, sym, subst}
use Rattle.ox_query.proofs.Digits.{digits_are_text}
use Rattle.ox_query.proofs.values.write_hex.Goals as goal

pub text_of-requires : goal.text_of-requires
text_of-requires c = subst IsUtf8 (sym c.in-Ok.ensures.written) (digits_are_text c.args.bytes.now)
