use Rattle.ox_inscribe.proofs.SignedLaws.{all_numbered, cursed_there, no_other, others_there}
use Rattle.ox_inscribe.specs.Signed.{is_cursed, is_uncursed}
use Rattle.std.specs.Prelude.{negsuc, pos}
use Rattle.ox_inscribe.proofs.laws.signed_numbers_have_no_gaps.Goals as goal

pub returns-clause-cursed : goal.returns-clause-cursed
returns-clause-cursed c = λ jubilee rows. all_numbered jubilee (is_cursed jubilee) (λ k. negsuc k) (cursed_there jubilee) rows

pub returns-clause-others : goal.returns-clause-others
returns-clause-others c = λ jubilee rows. all_numbered jubilee (is_uncursed jubilee) (λ k. pos k) (others_there jubilee) rows

pub returns-clause-once : goal.returns-clause-once
returns-clause-once c = no_other
