use Rattle.std.proofs.Common.{◌≡◌, ◌++◌, ◌∙◌, ap₂, ℕ, List, Option, Some, ap, subst, sym}
use Rattle.std.specs.Prelude.{IfSome}
use Rattle.ox_range.specs.Numbers.{numbers_from}
use Rattle.ox_rules.specs.Outputs.{times}
use Rattle.ox_sound.specs.Keeps.{sats_in}
use Rattle.ox_sound.proofs.moved_sats.do_sats_keep.Goals as goal

-- a list that was found has the satoshis
has : (found : Option (List ℕ)) (list sats : List ℕ) → found ≡ Some list → IfSome found (λ l. (sat : ℕ) → times sat l ≡ times sat sats) → (sat : ℕ) → times sat list ≡ times sat sats
has found list sats is are = subst (λ (f : Option (List ℕ)). IfSome f (λ l. (sat : ℕ) → times sat l ≡ times sat sats)) is are

pub returns : goal.returns
returns c = λ yes. record {
  same = λ sat.
      let came = has c.in_ok-came.field-0 c.in-Some.came (sats_in c.as_slice.result.now ++ c.args.change.now.lost) c.in-Some.is c.in_ok-came.ensures sat in
      let gone = has c.in_ok-gone.field-0 c.in-Some-2.gone (sats_in c.as_slice-2.result.now ++ c.in_ok-new.new) c.in-Some-2.is c.in_ok-gone.ensures sat in
      let new = c.in_ok-new.ensures ∙ ap₂ numbers_from c.first.ensures.value c.subsidy.ensures.value in
      sym (came ∙ ap (λ (rows : _). times sat (sats_in rows ++ c.args.change.now.lost)) c.as_slice.ensures) ∙ ap (times sat) (c.are_same.ensures yes)
      ∙ gone ∙ ap (λ (rows : _). times sat (sats_in rows ++ c.in_ok-new.new)) c.as_slice-2.ensures ∙ ap (λ (ns : List ℕ). times sat (sats_in c.args.change.now.gone ++ ns)) new;
}
