use Rattle.std.proofs.Common.{◌≡◌, ◌∙◌, ◌++◌, ◌∷◌, [], Option, None, ap, is_eq, subst, sym, true}
use Rattle.std.specs.Prelude.{if◌then◌else◌, unwrap_or}
use Rattle.std.specs.BTreeMap.{is_at}
use Rattle.std.specs.Map.{lookup}
use Rattle.ox_marked.specs.Marked.{AreLogged, Logged, Values, content_in, is_changed, mark_in, standing}
use Rattle.ox_marked.proofs.LogLemmas.{changed_more, content_by, flat, logged_more, mark_stays, on_err}
use Rattle.ox_marked.proofs.marked.Marked.put.Given.{Over}
use Rattle.ox_marked.proofs.marked.Marked.put.Goals.{After-push_reserved}
use Rattle.ox_marked.proofs.marked.Marked.put.Goals as goal

-- the log has one note more
pushed : (g : Over) (c : After-push_reserved g) → c.push_reserved.new.self.items ≡ c.self.inside.log.items ++ (c.args.key, c.flatten.result) ∷ []
pushed g c = c.push_reserved.ensures.items ∙ ap (λ (l : Values g.row.K.Denot g.row.V.Denot). l ++ (c.args.key, c.flatten.result) ∷ []) c.in_ok-reserve.ensures.items

-- which says what stood there
stood : (g : Over) (c : After-push_reserved g) → c.flatten.result ≡ standing g.K.Ord.cmp c.self.inside.entries c.args.key
stood g c = c.flatten.ensures ∙ flat c.in_ok-stood.stood ∙ ap (λ (o : Option (Option g.row.V.Denot)). unwrap_or o None) c.in_ok-stood.ensures.displaced

pub invariant_of-self-in_err-stood : goal.invariant_of-self-in_err-stood
invariant_of-self-in_err-stood g c =
    subst (λ (l : Values g.row.K.Denot g.row.V.Denot). AreLogged g.K.Ord.cmp l c.insert.new.self) (sym c.in_ok-reserve.ensures.items)
    (subst (λ (l : Values g.row.K.Denot g.row.V.Denot). AreLogged g.K.Ord.cmp c.self.inside.log.items l) (sym c.in_err-stood.ensures.err) c.self.invariant)

pub returns-in_err-stood-clause-mark : goal.returns-in_err-stood-clause-mark
returns-in_err-stood-clause-mark g c =
    ap (mark_in g.K.Ord.cmp) ((λ i. record { entries = c.in_err-stood.ensures.err i; log = c.in_ok-reserve.ensures.items i; marked = c.self.inside.marked }) ∙ c.self.view_is)

pub returns-in_err-stood-clause-err : goal.returns-in_err-stood-clause-err
returns-in_err-stood-clause-err g c =
    on_err c.from_residual-in_err-stood.result
    ((λ i. record { entries = c.in_err-stood.ensures.err i; log = c.in_ok-reserve.ensures.items i; marked = c.self.inside.marked }) ∙ c.self.view_is)

pub invariant_of-self-2 : goal.invariant_of-self-2
invariant_of-self-2 g c =
    logged_more g.met.K.Ord.total c.self.inside.log.items c.push_reserved.new.self.items c.self.inside.entries c.insert.new.self c.args.key c.args.value c.flatten.result
    (c.push_reserved.ensures.items ∙ ap (λ (l : Values g.row.K.Denot g.row.V.Denot). l ++ (c.args.key, c.flatten.result) ∷ []) c.in_ok-reserve.ensures.items) c.in_ok-stood.ensures.ok c.self.invariant

pub returns-clause-content : goal.returns-clause-content
returns-clause-content g c = λ q.
    content_by (is_eq (g.K.Ord.cmp c.args.key q)) c.args.value (lookup (is_at (g.K.Ord.cmp q)) c.insert.new.self) (lookup (is_at (g.K.Ord.cmp q)) c.self.inside.entries) (c.in_ok-stood.ensures.ok q)
    ∙ ap (λ (m : Logged g.row.K.Denot g.row.V.Denot). if is_eq (g.K.Ord.cmp c.args.key q) then c.args.value else content_in g.K.Ord.cmp m q) c.self.view_is

pub returns-clause-changed : goal.returns-clause-changed
returns-clause-changed g c = λ q.
    let p = (goal.at.returns-clause-changed g c).After-push_reserved in
    changed_more g.met.K.Ord.total c.self.inside.entries c.insert.new.self c.self.inside.log.items c.push_reserved.new.self.items c.args.key c.args.value c.flatten.result (pushed g p) c.in_ok-stood.ensures.ok q
    ∙ ap (λ (m : Logged g.row.K.Denot g.row.V.Denot). if is_eq (g.K.Ord.cmp c.args.key q) then true else is_changed g.K.Ord.cmp m q) c.self.view_is

pub returns-clause-mark : goal.returns-clause-mark
returns-clause-mark g c =
    let p = (goal.at.returns-clause-mark g c).After-push_reserved in
    mark_stays g.met.K.Ord.total c.self.inside.entries c.insert.new.self c.self.inside.log.items c.push_reserved.new.self.items c.args.key c.args.value c.flatten.result (pushed g p) c.in_ok-stood.ensures.ok
    c.self.inside.marked (stood g p)
    ∙ ap (mark_in g.K.Ord.cmp) c.self.view_is
