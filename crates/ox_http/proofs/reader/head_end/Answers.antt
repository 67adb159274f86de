-- The first place behind what was looked at.
use Rattle.std.proofs.Common.{ℕ, ◌+◌, List, ◌∙◌, ap, sym, subst}
use Rattle.std.specs.Option.{option_map}
use Rattle.memchr.specs.Find.{FindsNeedle}
use Rattle.ox_http.specs.First.{blank_line}
use Rattle.ox_http.proofs.Ends.{searched}
use Rattle.ox_http.proofs.reader.head_end.Goals as goal

pub returns-in-Some : goal.returns-in-Some
returns-in-Some c =
    let from = c.saturating_sub-from.result in
    sym (searched c.args.bytes.now c.args.looked from c.find.result c.saturating_sub-from.ensures
    c.requires.within c.requires.none
    (subst (λ (rest : List ℕ). FindsNeedle rest blank_line 0 c.find.result)
    c.split_at.ensures.back c.find.ensures)
    ∙ ap (option_map (λ (n : ℕ). from + n + 4)) c.in-Some.is)

pub returns-in-None : goal.returns-in-None
returns-in-None c =
    let from = c.saturating_sub-from.result in
    sym (searched c.args.bytes.now c.args.looked from c.find.result c.saturating_sub-from.ensures
    c.requires.within c.requires.none
    (subst (λ (rest : List ℕ). FindsNeedle rest blank_line 0 c.find.result)
    c.split_at.ensures.back c.find.ensures)
    ∙ ap (option_map (λ (n : ℕ). from + n + 4)) c.in-None.is)
