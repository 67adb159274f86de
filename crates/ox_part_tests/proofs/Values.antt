-- What a clause says of the value that was got.
use Rattle.std.proofs.Common.{◌≡◌, subst}
use Rattle.std.specs.Prelude.{Result, Ok, Err, IfOk}

pub value_of : {T E : Type 0} (P : T → Type 0) (r : Result T E) (x : T) → r ≡ Ok x → IfOk r P → P x
value_of P (Ok y) x is ok = let same : y ≡ x = cc is in subst P same ok
value_of P (Err e) x is ok = absurd (cc is)
