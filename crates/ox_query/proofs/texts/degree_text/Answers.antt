use Rattle.std.proofs.Common.{ℕ, List, ◌++◌, decimal, ap, ◌∙◌}
use Rattle.std.specs.Char.{encode_utf8}
use Rattle.ox_query.proofs.texts.degree_text.Goals as goal

pub returns : goal.returns
unfolding encode_utf8
returns c =
    let degree = c.args.degree.now in
    let one = c.push_part.ensures.bytes ∙ ap (λ (text : List ℕ). text ++ decimal degree.hour ++ encode_utf8 0xb0) c.new-text.ensures in
    let two = c.push_part-2.ensures.bytes ∙ ap (λ (text : List ℕ). text ++ decimal degree.minute ++ encode_utf8 0x2032) one in
    let three = c.push_part-3.ensures.bytes ∙ ap (λ (text : List ℕ). text ++ decimal degree.second ++ encode_utf8 0x2033) two in
    c.push_part-4.ensures.bytes ∙ ap (λ (text : List ℕ). text ++ decimal degree.third ++ encode_utf8 0x2034) three
