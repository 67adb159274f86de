use Rattle.std.proofs.Common.{◌∙◌, ap, refl, subst, sym, arith}
use Rattle.std.proofs.lemmas.Result.{err_from_is_err_and}
use Rattle.std.specs.Prelude.{Err}
use Rattle.ox_gated.specs.declared.head.Head.{Head}
use Rattle.ox_index.specs.Chain.{stack_in}
use Rattle.ox_store.specs.Grow.{grown_head}
use Rattle.ox_store.specs.Turning.{IsOtherFile}
use Rattle.ox_store.proofs.Exits.{no_fault, no_value, passed_on, passed_so}
use Rattle.ox_store.proofs.GrowingFiles.{grown_tail, names_grown}
use Rattle.ox_store.proofs.TurningLemmas.{goes_as, goes_then, names_so, stands_then}
use Rattle.ox_store.proofs.grow.turn_grown.Goals as goal

pub turn-requires-clause-names : goal.turn-requires-clause-names
turn-requires-clause-names g c = names_grown c.args.tail.head c.grown-head.result (stack_in c.args.chain) (c.grown-head.ensures ∙ ap grown_head c.head.ensures) c.requires.names

pub turn-requires-clause-version : goal.turn-requires-clause-version
turn-requires-clause-version g c = ap (λ (h : Head). h.version) c.grown-head.ensures

pub turn-requires-clause-generation : goal.turn-requires-clause-generation
turn-requires-clause-generation g c = omega (arith, ap (λ (h : Head). h.generation) (c.grown-head.ensures ∙ ap grown_head c.head.ensures))

pub shut_old-requires : goal.shut_old-requires
shut_old-requires g c told = c.in_ok-turned.ensures.holds (sym c.in_ok-turned.ensures.goes.writes.calls.as_told ∙ told)

pub invariant_of-result : goal.invariant_of-result
invariant_of-result g c =
    let stack = stack_in c.args.chain in
    let head = c.grown-head.result in
    let is = grown_tail c.args.tail c.in_ok-tail.tail head c.in_ok-turned.turned c.in_ok-turned.ensures.kept c.in_ok-tail.ensures.kept in
    names_so head c.in_ok-tail.tail.head stack is.head (names_grown c.args.tail.head head stack (c.grown-head.ensures ∙ ap grown_head c.head.ensures) c.requires.names)

pub returns : goal.returns
returns g c =
    let new = c.in_ok-tail.tail in
    let first = c.in_ok-turned.ensures in
    let next = c.in_ok-tail.ensures in
    let stack = stack_in c.args.chain in
    let is = grown_tail c.args.tail new c.grown-head.result c.in_ok-turned.turned first.kept next.kept in record {
      stack = refl;
      fresh = refl;
      turned = subst (λ (h : Head). IsOtherFile c.args.tail h new) (c.grown-head.ensures ∙ ap grown_head c.head.ensures) is;
      shut = λ told. next.shut (first.goes.writes.calls.as_told ∙ told);
      holds = λ told. next.holds (first.goes.writes.calls.as_told ∙ told);
      stands = stands_then g.S.Site stack g.met.S.Site.logs_now ⊥ c.args.site.now c.turn.new.site c.shut_old.new.site first.goes first.stands (next.stands stack);
      halts = tt;
      goes = goes_then g.S.Site stack g.met.S.Site.logs_now ⊥ _ c.args.site.now c.turn.new.site c.shut_old.new.site first.goes (λ no. no) first.stands
          (goes_as g.S.Site stack _ _ c.turn.new.site c.shut_old.new.site (λ is. absurd (no_fault _ _ is)) (λ is. absurd (no_fault _ _ is)) (next.goes stack));
    }

pub returns-in_err-turned : goal.returns-in_err-turned
returns-in_err-turned g c =
    let left = c.from_residual.result in
    let p = err_from_is_err_and left c.from_residual.ensures.1 in record {
      stack = no_value left p.0 _ p.1;
      fresh = no_value left p.0 _ p.1;
      turned = no_value left p.0 _ p.1;
      shut = λ told. no_value left p.0 _ p.1;
      holds = λ told. no_value left p.0 _ p.1;
      stands = no_value left p.0 _ p.1;
      halts = rw (p.1, p.2) tt;
      goes = goes_as g.S.Site (stack_in c.args.chain) _ _ c.args.site.now c.turn.new.site (λ failed. p.1 ∙ ap Err p.2) (λ is. tt) c.in_err-turned.ensures.goes;
    }

pub returns-in_err-tail : goal.returns-in_err-tail
returns-in_err-tail g c =
    let stack = stack_in c.args.chain in
    let first = c.in_ok-turned.ensures in
    let fault = c.in_err-tail.field-0.0 in
    let left = c.from_residual-in_err-tail.result in
    let p = err_from_is_err_and left c.from_residual-in_err-tail.ensures.1 in record {
      stack = no_value left p.0 _ p.1;
      fresh = no_value left p.0 _ p.1;
      turned = no_value left p.0 _ p.1;
      shut = λ told. no_value left p.0 _ p.1;
      holds = λ told. no_value left p.0 _ p.1;
      stands = no_value left p.0 _ p.1;
      halts = rw (p.1, p.2) c.in_err-tail.ensures.halts;
      goes = goes_then g.S.Site stack g.met.S.Site.logs_now ⊥ _ c.args.site.now c.turn.new.site c.shut_old.new.site first.goes (λ no. no) first.stands
          (goes_as g.S.Site stack _ _ c.turn.new.site c.shut_old.new.site (λ is. passed_so left p.0 fault _ p.1 p.2 is) (λ is. passed_on left p.0 fault _ p.1 p.2 is) (c.in_err-tail.ensures.goes stack));
    }
