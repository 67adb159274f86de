use Rattle.ox_held.proofs.AddressReplies.{address_told}
use Rattle.ox_held.proofs.laws.address_replies_are_told.Goals as goal

pub returns : goal.returns
returns c = record {
  close = λ p index request part. (address_told p index request part).0;
  head = λ p index request part. (address_told p index request part).1;
}
