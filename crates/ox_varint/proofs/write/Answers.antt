use Rattle.std.proofs.Common.{◌≡◌, ℕ, List, ◌++◌, length, take, subst, sym, ap, ◌∙◌, arith}
use Rattle.std.proofs.lemmas.List.{take_at}
use Rattle.ox_varint.specs.Varint.{IsVarint, IsShortest, varint}
use Rattle.ox_varint.proofs.GrammarLaws.{varint-is, varint-shortest}
use Rattle.ox_varint.proofs.write.Goals as goal

-- the bytes in front are the spelling
front : (n k : ℕ) (new rest : List ℕ) → k ≡ length (varint n) → new ≡ varint n ++ rest → take k new ≡ varint n
front n k new rest len is = ap (take k) is ∙ take_at (varint n) rest k (sym len)

pub returns-clause-spelled : goal.returns-clause-spelled
returns-clause-spelled c =
    let P : List ℕ → Type 0 = λ (t : List ℕ). IsVarint t c.args.n in
    subst P (sym (front c.args.n c.write_all.result c.write_all.new.into _ c.write_all.ensures.length c.write_all.ensures.written)) (varint-is c.args.n (omega arith))

pub returns-clause-shortest : goal.returns-clause-shortest
returns-clause-shortest c =
    let P : List ℕ → Type 0 = λ (t : List ℕ). IsShortest t in
    subst P (sym (front c.args.n c.write_all.result c.write_all.new.into _ c.write_all.ensures.length c.write_all.ensures.written)) (varint-shortest c.args.n)
