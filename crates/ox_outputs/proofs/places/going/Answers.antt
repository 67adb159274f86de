use Rattle.std.specs.Global.{Vec}
use Rattle.std.proofs.Common.{rules, arith, ◌∙◌, ap, refl}
use Rattle.ox_shards.specs.Lines.{is_last}
use Rattle.std.proofs.lemmas.List.{get_or_default}
use Rattle.ox_outputs.specs.declared.entry.Entry.{Entry}
use Rattle.ox_outputs.proofs.ListLemmas.{gone_more, gone_as_far, gone_all}
use Rattle.ox_outputs.proofs.places.going.Goals.{then-is_last+in_ok-push, else-is_last}
use Rattle.ox_outputs.proofs.places.going.Goals as goal

-- the next entry
abbrev blank : Entry
blank = record { tag = 0; place = 0 }

pub loop-entry-preserved : goal.loop-entry-preserved
loop-entry-preserved c =
    let entry = λ (d : Entry). get_or_default c.args.list.now c.loop-entry.entry-index d blank c.loop-entry-test.true in
    elim c.if-is_last.branch [
      | then-is_last+in_ok-push w ↦
          gone_more (is_last c.args.lines.now) c.args.list.now c.loop-entry.last.items c.if-is_last.last.items c.loop-entry.entry-index _ entry (ap (λ (v : Vec Entry). v.items) w.last-is ∙ w.in_ok-push.ensures.items) c.loop-entry.invariant
      | else-is_last w ↦
          gone_as_far (is_last c.args.lines.now) c.args.list.now c.loop-entry.last.items c.if-is_last.last.items c.loop-entry.entry-index _ entry (search rules) (ap (λ (v : Vec Entry). v.items) w.last-is) c.loop-entry.invariant
    ]

pub returns : goal.returns
returns c = λ tag place passes is.
    gone_all (is_last c.args.lines.now) c.args.list.now c.loop-entry.last.items c.loop-entry.last.items refl
    (λ k d low. c.loop-entry.invariant k d (omega (arith, low, c.loop-entry-test.false))) tag place passes is
