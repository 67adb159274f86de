-- A mark of all parts is a mark of each.
use Rattle.std.proofs.Common.{◌≡◌, ◌∙◌, List, [], refl, sym, ap, subst, Option, Some, None}
use Rattle.std.specs.Prelude.{IsSome, unwrap_or, OnErr, OnOk, Result, Ok, Err}
use Rattle.ox_rules.specs.Outputs.{Outputs}
use Rattle.ox_inscribe.specs.declared.row.InsRow.{InsRow}
use Rattle.std.specs.Option.{IfSome}
use Rattle.ox_etching.specs.declared.row.RuneRow.{RuneRow}
use Rattle.ox_ledger.specs.Part.{Continues}
use Rattle.ox_ledger.specs.Runes.{Runes}
use Rattle.ox_ledger.specs.Tables.{nothing}
use Rattle.ox_index.specs.Held.{Held, held_then}

pub outs_marked : (outs : Option Outputs) (rows : Option (List InsRow)) (runes : Option Runes) → IsSome (held_then outs rows runes) → IsSome outs
outs_marked (Some o) rows runes there = refl
outs_marked None rows runes there = absurd (cc there)

pub rows_marked : (outs : Option Outputs) (rows : Option (List InsRow)) (runes : Option Runes) → IsSome (held_then outs rows runes) → IsSome rows
rows_marked outs (Some r) runes there = refl
rows_marked (Some o) None runes there = absurd (cc there)
rows_marked None None runes there = absurd (cc there)

pub runes_marked : (outs : Option Outputs) (rows : Option (List InsRow)) (runes : Option Runes) → IsSome (held_then outs rows runes) → IsSome runes
runes_marked outs rows (Some u) there = refl
runes_marked (Some o) (Some r) None there = absurd (cc there)
runes_marked (Some o) None None there = absurd (cc there)
runes_marked None rows None there = absurd (cc there)

-- each is marked at this
pub record AreMarked (outs : Option Outputs) (rows : Option (List InsRow)) (runes : Option Runes) (held : Held) : Type 0 where
  pub outs_at : outs ≡ Some held.outs
  pub rows_at : rows ≡ Some held.inscriptions
  pub runes_at : runes ≡ Some held.runes

pub each_marked : (outs : Option Outputs) (rows : Option (List InsRow)) (runes : Option Runes) (held : Held) → held_then outs rows runes ≡ Some held → AreMarked outs rows runes held
each_marked (Some o) (Some r) (Some u) held is =
    let same : record { outs = o; inscriptions = r; runes = u } ≡ held = some_same _ held is in record {
      outs_at = ap (λ (h : Held). Some h.outs) same;
      rows_at = ap (λ (h : Held). Some h.inscriptions) same;
      runes_at = ap (λ (h : Held). Some h.runes) same;
    } where
      some_same : (x y : Held) → Some x ≡ Some y → x ≡ y
      some_same x y same = cc
each_marked (Some o) (Some r) None held is = absurd (cc is)
each_marked (Some o) None runes held is = absurd (cc is)
each_marked None rows runes held is = absurd (cc is)

pub all_marked : (outs : Option Outputs) (rows : Option (List InsRow)) (runes : Option Runes) (held : Held) → AreMarked outs rows runes held → held_then outs rows runes ≡ Some held
all_marked outs rows runes held are = λ i. held_then (are.outs_at i) (are.rows_at i) (are.runes_at i)

-- going back to each is going back to all
pub all_back : (outs : Option Outputs) (rows : Option (List InsRow)) (runes : Option Runes) (o : Outputs) (r : List InsRow) (u : Runes)
    → Some o ≡ outs → Some r ≡ rows → runes ≡ Some u → Some (record { outs = o; inscriptions = r; runes = u }) ≡ held_then outs rows runes
all_back outs rows runes o r u outs_are rows_are runes_are = λ i. held_then (outs_are i) (rows_are i) (sym runes_are i)

-- ---- between two blocks nothing is due

pub undue_begun : (mark : Option Runes) (state : Runes) → mark ≡ Some state → state.due ≡ [] → (x : Runes) → mark ≡ Some x → x.due ≡ []
undue_begun mark state is undue x at = ap (λ (r : Runes). r.due) (some_same x state (sym at ∙ is)) ∙ undue where
  some_same : (a b : Runes) → Some a ≡ Some b → a ≡ b
  some_same a b same = cc

pub undue_none : (mark : Option Runes) → mark ≡ None → (x : Runes) → mark ≡ Some x → x.due ≡ []
undue_none mark none x at = absurd (cc (sym none ∙ at))

pub undue_fallen : (mark : Option Runes) (now : Runes) → ((x : Runes) → mark ≡ Some x → x.due ≡ []) → now ≡ unwrap_or mark nothing → now.due ≡ []
undue_fallen None now undue is = ap (λ (r : Runes). r.due) is
undue_fallen (Some state) now undue is = ap (λ (r : Runes). r.due) is ∙ undue state refl

-- after a call that leaves either this, or what was at the mark
pub undue_either : {A E : Type 0} (r : Result A E) (mark : Option Runes) (after now : Runes) → OnOk r (now ≡ after) → OnErr r (now ≡ unwrap_or mark nothing) → after.due ≡ []
    → ((x : Runes) → mark ≡ Some x → x.due ≡ []) → now.due ≡ []
undue_either (Ok x) mark after now ok err none undue = ap (λ (r : Runes). r.due) ok ∙ none
undue_either (Err e) mark after now ok err none undue = undue_fallen mark now undue err

pub marked_some : (mark : Option Held) (held : Held) → mark ≡ Some held → IsSome mark
marked_some mark held is = subst (λ (m : Option Held). IsSome m) (sym is) refl

pub same_held : (a b : Held) → Some a ≡ Some b → a ≡ b
same_held a b same = cc

-- so what goes on from all goes on from the runes at their mark
pub runes_continue : (outs : Option Outputs) (rows : Option (List InsRow)) (runes : Option Runes) (now : List RuneRow) → IsSome (held_then outs rows runes)
    → ((before : Held) → held_then outs rows runes ≡ Some before → Continues before.runes.runes now) → IfSome runes (λ (r : Runes). Continues r.runes now)
runes_continue (Some o) (Some r) (Some u) now there on = on (record { outs = o; inscriptions = r; runes = u }) refl
runes_continue (Some o) (Some r) None now there on = absurd (cc there)
runes_continue (Some o) None runes now there on = absurd (cc there)
runes_continue None rows runes now there on = absurd (cc there)
