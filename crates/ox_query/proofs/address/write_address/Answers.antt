use Rattle.std.proofs.Common.{IsUtf8, sym, subst}
use Rattle.ox_held.proofs.AddressBytes.{address_is_text}
use Rattle.ox_query.proofs.address.write_address.Goals as goal

pub text_of-requires : goal.text_of-requires
text_of-requires c =
    subst IsUtf8 (sym c.in-Some.ensures.exact.1) (address_is_text c.args.hrp.now _ c.requires)
