use Rattle.std.proofs.Common.{◌<◌, ℕ, List, All, map, ap, ◌∙◌, arith}
use Rattle.std.proofs.lemmas.Bool.{iff_false}
use Rattle.std.proofs.lemmas.List.Elements.{All-weaker}
use Rattle.ox_address.specs.Address.{IsLetter}
use Rattle.ox_address.specs.Passes.{small}
use Rattle.ox_address.proofs.Texts.{match_mapped, length-spelled, prefix-expected, none-behind, reads-behind}
use Rattle.ox_address.proofs.reading.read_case.Goals as goal
use Rattle.ox_address.proofs.reading.read_case.Goals.{then-text-front-via-then-text-front, then-text-front-via-else-text-front+then-text-front-2}

pub returns-then-text-front : goal.returns-then-text-front
returns-then-text-front c = λ script segwit spelled.
    let long = length-spelled c.args.is_capital c.args.hrp.now script c.args.text.now segwit spelled in
    elim c.then-text-front.branch [
      | then-text-front-via-then-text-front w ↦ omega (arith, long.0)
      | then-text-front-via-else-text-front+then-text-front-2 w ↦ omega (arith, long.1)
    ]

pub returns-then-not-is_prefix : goal.returns-then-not-is_prefix
returns-then-not-is_prefix c = λ script segwit spelled.
    let hrp : List ℕ = c.args.hrp.now in
    iff_false c.is_prefix.ensures c.if-not-is_prefix.true
    (ap (map (small c.args.is_capital)) c.split_at.ensures.front ∙ prefix-expected c.args.is_capital hrp script c.args.text.now spelled)

pub returns : goal.returns
returns c =
    let hrp : List ℕ = c.args.hrp.now in
    let text : List ℕ = c.args.text.now in
    let bytes : All (λ b. b < 256) hrp = All-weaker IsLetter (λ b. b < 256) (λ b letter. omega (arith, letter.1)) hrp c.requires.letters in
    let front = c.is_prefix.ensures.0 c.if-not-is_prefix.false in
    match_mapped c.read_letters.result
    (none-behind c.args.is_capital hrp text c.split_at.result.1.now c.split_at.ensures.back)
    (λ len. reads-behind c.args.is_capital hrp text c.split_at.result.0.now c.split_at.result.1.now c.args.script.now
    c.read_letters.new.script len c.split_at.ensures.front c.split_at.ensures.back front)
    (c.read_letters.ensures hrp bytes c.polynomial_of.ensures.value)
