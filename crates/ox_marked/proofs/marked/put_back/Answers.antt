use Rattle.std.proofs.Common.{◌≡◌, ◌∙◌, ◌<◌, ◌-◌, Option, arith, refl, sym, subst, length, length-set, get_or, get_or-set_other}
use Rattle.std.specs.Prelude.{IsSome}
use Rattle.std.specs.Map.{lookup}
use Rattle.std.specs.BTreeMap.{is_at}
use Rattle.ox_marked.proofs.LogLemmas.{logged_still, one_back, put_for}
use Rattle.ox_marked.proofs.marked.put_back.Given.{Over}
use Rattle.ox_marked.proofs.marked.put_back.Goals.{After-take}
use Rattle.ox_marked.proofs.marked.put_back.Goals as goal

-- the change that is put back
at : (g : Over) (c : After-take g) → get_or c.loop-left.log (c.loop-left.left - 1) c.index-log-left.result ≡ get_or c.args.log.now (c.loop-left.left - 1) c.index-log-left.result
at g c = c.loop-left.invariant.front (c.loop-left.left - 1) (omega (arith, c.loop-left-test.true)) c.index-log-left.result

less : (g : Over) (c : After-take g) → c.loop-left.left - 1 < length c.args.log.now
less g c = omega (arith, c.loop-left-test.true, c.loop-left.invariant.within, c.loop-left.auto.log)

pub set-requires : goal.set-requires
set-requires g c =
    subst (λ (note : g.row.K.Denot × Option g.row.V.Denot). IsSome (lookup (is_at (g.K.Ord.cmp note.0)) c.loop-left.entries)) (sym (at g c))
    (c.loop-left.invariant.logged (c.loop-left.left - 1) c.index-log-left.result (less g c))

pub loop-left-preserved : goal.loop-left-preserved
loop-left-preserved g c =
    let p = (goal.at.loop-left-preserved g c).After-take in
    let log = c.args.log.now in
    let k = c.loop-left.left - 1 in
    let d = c.index-log-left.result in
    let note = get_or log k d in
    let told = get_or c.loop-left.log k d in
    let put = put_for g.met.K.Ord.total c.loop-left.entries c.set.new.entries told note c.take.result (at g p) c.take.ensures.value c.set.ensures in
    let after : g.row.K.Denot × Option g.row.V.Denot = ((get_or c.loop-left.log k d).0, c.take.new.self) in
    let same = length-set c.loop-left.log k after in record {
      within = omega (arith, same, c.loop-left.invariant.within);
      front = λ j low d. get_or-set_other c.loop-left.log k j after d (λ e. absurd (omega (arith, low, e))) ∙ c.loop-left.invariant.front j (omega (arith, low)) d;
      content = one_back g.met.K.Ord.total log c.loop-left.entries c.set.new.entries _ note d k c.loop-left.left (omega (arith, c.loop-left-test.true)) (less g p) refl put c.loop-left.invariant.content;
      logged = logged_still g.met.K.Ord.total log c.loop-left.entries c.set.new.entries note.0 note.1 put c.loop-left.invariant.logged;
    }
