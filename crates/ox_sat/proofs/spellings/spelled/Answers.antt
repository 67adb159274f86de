use Rattle.std.proofs.Common.{◌≡◌, ℕ, ◌<◌, ◌^◌, ◌∷◌, ◌++◌, decimal, lit<}
use Rattle.std.proofs.lemmas.Str.Pattern.{split_after, split_parts}
use Rattle.ox_sat.proofs.Epochs.{counts}
use Rattle.ox_sat.proofs.Numbers.{if_none_more, if_none_both, divided_none, undivided_none, no_point_before}
use Rattle.ox_sat.proofs.spellings.spelled.Goals as goal

pub returns-in-Some-clause-none : goal.returns-in-Some-clause-none
returns-in-Some-clause-none c =
    let split = rw c.in-Some.is at (split_parts 46 c.args.text.now c.split_once.result c.split_once.ensures.cases (lit< tt)) in
    let parts = λ (h o : ℕ) (small : h < 2 ^ 64) (is : c.args.text.now ≡ decimal h ++ 46 ∷ decimal o). rw c.in-Some.is at (split_after 46 c.args.text.now (decimal h) (decimal o) c.split_once.result c.split_once.ensures.cases (lit< tt) is (no_point_before h small)) in
    if_none_more c.read_decimal.result _ _ (divided_none c.args.p.now c.args.text.now c.in-Some.height.now c.in-Some.offset.now (counts c.args.p.now c.requires) split.0 parts) c.read_decimal.ensures.none

pub returns-in-None-clause-none : goal.returns-in-None-clause-none
returns-in-None-clause-none c =
    let whole = λ (h o : ℕ) (small : h < 2 ^ 64) (is : c.args.text.now ≡ decimal h ++ 46 ∷ decimal o). rw c.in-None.is at (split_after 46 c.args.text.now (decimal h) (decimal o) c.split_once.result c.split_once.ensures.cases (lit< tt) is (no_point_before h small)) in
    if_none_both c.read_undivided.result _ _ _ (undivided_none c.args.p.now c.args.text.now (counts c.args.p.now c.requires) whole) c.read_undivided.ensures.number c.read_undivided.ensures.name
