use Rattle.std.proofs.Common.{◌≡◌, ◌++◌, drop, map}
use Rattle.ox_model.specs.Audit.{rune_audit}
use Rattle.ox_asof.specs.Shown.{shown}
use Rattle.ox_asof.specs.Undone.{undone_by}
use Rattle.ox_asof.proofs.past.PastView.audit.Given as goal

-- with those that are left they are all
abbrev pub invariant-loop-n : goal.invariant-loop-n
invariant-loop-n g l =
    let then_ = shown l.self.has_runes (undone_by (g.V.View.index l.self.view.now) l.self.undone) in
    l.runes ++ map (rune_audit then_) (drop l.n then_.runes) ≡ map (rune_audit then_) then_.runes
