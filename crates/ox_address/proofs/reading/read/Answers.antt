use Rattle.std.proofs.Common.{ℕ, List, Ok, length, take, drop, ap, sym, subst, ◌∙◌}
use Rattle.std.proofs.lemmas.List.{take_at}
use Rattle.ox_address.specs.Address.{IsAddress}
use Rattle.ox_address.proofs.Cases.{case-forth, case-back}
use Rattle.ox_address.proofs.AddressLaws.{has_one_script}
use Rattle.ox_address.proofs.reading.read.Goals as goal

pub returns-in_default-clause-only : goal.returns-in_default-clause-only
returns-in_default-clause-only c = λ script is.
    absurd (c.in_default.ensures script is.segwit
    (case-forth c.args.hrp.now script c.args.text.now c.begins_with_capital.result c.requires c.begins_with_capital.ensures is))

pub returns-clause-found : goal.returns-clause-found
returns-clause-found c =
    let reads = c.in-Some.ensures in
    let P : List ℕ → Type 0 = λ script. IsAddress c.args.hrp.now script c.args.text.now in
    subst P (sym (ap (take c.in-Some.len) reads.stands
    ∙ take_at reads.script (drop c.in-Some.len c.args.into.now) c.in-Some.len (sym reads.place)))
    (case-back c.args.hrp.now reads.script c.args.text.now c.begins_with_capital.result c.requires reads.segwit reads.spelled)

pub returns-clause-only : goal.returns-clause-only
returns-clause-only c = λ script is.
    let reads = c.in-Some.ensures in
    let here = case-back c.args.hrp.now reads.script c.args.text.now c.begins_with_capital.result c.requires reads.segwit reads.spelled in
    ap (λ n. Ok n) (reads.place ∙ ap length (has_one_script c.args.hrp.now reads.script script c.args.text.now c.requires here is))
