use Rattle.std.proofs.Common.{◌≡◌, ◌∙◌, ◌+◌, ◌-◌, ℕ, List, map, take, ap, sym, arith, take_all}
use Rattle.ox_model.specs.declared.change.Change.{Change}
use Rattle.ox_asof.specs.Said.{AreRising, before_all, by, meant}
use Rattle.ox_asof.proofs.Saying.{all_at, decides, one_more}
use Rattle.ox_asof.proofs.said.oldest_said.Goals as goal

pub loop-place-init : goal.loop-place-init
loop-place-init g c = λ now.
    let all : take c.len-place.result c.args.undone.now ≡ c.args.undone.now = take_all c.len-place.result c.args.undone.now (omega (arith, c.len-place.ensures)) in
    ap (λ (l : List Change). before_all (map g.X.Row.told l) c.args.at.now now) (sym all)

pub said_by-requires : goal.said_by-requires
said_by-requires g c =
    all_at (λ (change : Change). AreRising (g.X.Row.told change)) c.args.undone.now (c.loop-place.place - 1) c.at.result.now c.requires c.at.ensures

pub loop-place-preserved : goal.loop-place-preserved
loop-place-preserved g c = λ now.
    let undone = c.args.undone.now in
    let n = c.loop-place.place - 1 in
    let whole : c.loop-place.place ≡ c.loop-place.place - 1 + 1 = omega (arith, c.loop-place-test.true) in
    c.loop-place.invariant now
    ∙ ap (λ (k : ℕ). before_all (map g.X.Row.told (take k undone)) c.args.at.now now) whole
    ∙ one_more g.X.Row.told undone n c.at.result.now c.args.at.now now c.at.ensures
    ∙ ap (λ said. by said (before_all (map g.X.Row.told (take n undone)) c.args.at.now now)) (sym c.said_by.ensures ∙ ap meant c.in-Nothing.is)

pub returns-in_default : goal.returns-in_default
returns-in_default g c = λ now.
    let undone = c.args.undone.now in
    let n = c.loop-place.place - 1 in
    let whole : c.loop-place.place ≡ c.loop-place.place - 1 + 1 = omega (arith, c.loop-place-test.true) in
    c.loop-place.invariant now
    ∙ ap (λ (k : ℕ). before_all (map g.X.Row.told (take k undone)) c.args.at.now now) whole
    ∙ one_more g.X.Row.told undone n c.at.result.now c.args.at.now now c.at.ensures
    ∙ ap (λ said. by said (before_all (map g.X.Row.told (take n undone)) c.args.at.now now)) (sym c.said_by.ensures)
    ∙ decides c.said_by.result _ now c.in_default.not-Nothing

pub returns : goal.returns
returns g c = λ now.
    let none : c.loop-place.place ≡ 0 = omega (arith, c.loop-place-test.false) in
    c.loop-place.invariant now ∙ ap (λ (k : ℕ). before_all (map g.X.Row.told (take k c.args.undone.now)) c.args.at.now now) none
