-- How many values each form has.
use Rattle.std.proofs.Common.{◌≡◌, List, length, sym, ap, subst, ◌∙◌}
use Rattle.ox_block.specs.declared.few.Form.{Form}
use Rattle.ox_block.specs.declared.few.Form.TheVariants.{Empty, One, Two}
use Rattle.ox_block.specs.Few.{values_in, IsForm}

pub empty_long : {T : Type 0} (form : Form T) (all : List T) → form ≡ Empty → values_in form ≡ all → 0 ≡ length all
empty_long form all is same = ap length (sym (ap values_in is)) ∙ ap length same

pub one_long : {T : Type 0} (form : Form T) (one all : List T) → form ≡ One one → IsForm form → values_in form ≡ all → 1 ≡ length all
one_long form one all is fits same = sym (subst IsForm is fits) ∙ (ap length (sym (ap values_in is)) ∙ ap length same)

pub two_long : {T : Type 0} (form : Form T) (two all : List T) → form ≡ Two two → IsForm form → values_in form ≡ all → 2 ≡ length all
two_long form two all is fits same = sym (subst IsForm is fits) ∙ (ap length (sym (ap values_in is)) ∙ ap length same)
