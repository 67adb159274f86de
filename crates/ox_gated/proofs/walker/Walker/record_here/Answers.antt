use Rattle.std.proofs.Common.{◌≡◌, ◌∙◌, ℕ, List, length, drop, refl, sym, subst, arith}
use Rattle.std.specs.Prelude.{Ok, Err, IfErr, IfOk, None}
use Rattle.ox_outside.specs.Files.{Files, file_of}
use Rattle.ox_gated.specs.Begun.{HasNothingBefore, IsBrokenHere}
use Rattle.ox_gated.specs.Gate.{HasFront, IsCutFront, IsShut}
use Rattle.ox_gated.specs.OtherFile.{BeginsShut}
use Rattle.ox_gated.specs.Parts.{IsHere, Walked, front_here}
use Rattle.ox_gated.specs.declared.fault.GateFault.{GateFault}
use Rattle.ox_gated.proofs.GateHere.{broken_here, front_read, front_whole, long_here, shut_here}
use Rattle.ox_gated.proofs.Looking.{given, until_then, until_well}
use Rattle.ox_gated.proofs.OneWrite.{read_worked, refused_alone}
use Rattle.ox_gated.proofs.walker.Walker.record_here.Goals as goal

pub returns-in-Err-clause-gate : goal.returns-in-Err-clause-gate
returns-in-Err-clause-gate g c =
    let i = c.self.inside in
    let files = g.S.Site.seen c.args.site.now in
    let file = file_of files i.file in
    let read = c.in_ok-front.ensures in
    let k : Walked = record { file = i.file; head = i.head; first = i.first; records = i.records; place = i.place; len = i.len; other_closed = i.other_closed } in
    record {
      here = λ told. tt;
      broken = λ told.
          let len = subst (λ (w : Walked). w.len ≡ length (file_of files w.file)) (sym c.self.view_is) (c.requires.there told) in
          let front = c.deref.ensures.value ∙ front_read file c.in_ok-front.front.items i.place i.len c.min.result len c.min.ensures (read.bytes told) in
          let broken = broken_here i.head c.self.invariant.1 i.place file (subst IsCutFront front c.in-Err.ensures.broken) in
          subst (λ (w : Walked). IsBrokenHere w (file_of files w.file) c.refused_at.result) c.self.view_is
          (subst (λ (f : GateFault). IsBrokenHere k file f) (sym c.refused_at.ensures) (refl, refl, broken));
      within = tt;
      nothing_before = subst HasNothingBefore (sym c.refused_at.ensures) refl;
      run = until_well g.S.Site (Err c.refused_at.result) c.args.site.now c.read_part.new.site (refused_alone _ _ _ c.refused_at.ensures) read.looks (read_worked c.in_ok-front.front _ _ read.counted);
    }

pub returns-in-Ok-None-clause-gate : goal.returns-in-Ok-None-clause-gate
returns-in-Ok-None-clause-gate g c =
    let i = c.self.inside in
    let files = g.S.Site.seen c.args.site.now in
    let file = file_of files i.file in
    let read = c.in_ok-front.ensures in
    record {
      here = λ told.
          let len = subst (λ (w : Walked). w.len ≡ length (file_of files w.file)) (sym c.self.view_is) (c.requires.there told) in
          let front = c.deref.ensures.value ∙ front_read file c.in_ok-front.front.items i.place i.len c.min.result len c.min.ensures (read.bytes told) in
          let there : BeginsShut c.deref.result.now = rw c.in-Ok-None.field-0-is at c.in-Ok-None.ensures.there in
          let shut = shut_here i.head c.self.invariant.1 i.place file (subst BeginsShut front there) in
          subst (λ (w : Walked). IsShut w.head w.place (drop w.place (file_of files w.file))) c.self.view_is shut;
      broken = λ told. tt;
      within = tt;
      nothing_before = tt;
      run = until_well g.S.Site (Ok None) c.args.site.now c.read_part.new.site (given _) read.looks (read_worked c.in_ok-front.front _ _ read.counted);
    }

pub returns-then-size-left-clause-gate : goal.returns-then-size-left-clause-gate
returns-then-size-left-clause-gate g c =
    let i = c.self.inside in
    let files = g.S.Site.seen c.args.site.now in
    let file = file_of files i.file in
    let read = c.in_ok-front.ensures in
    let k : Walked = record { file = i.file; head = i.head; first = i.first; records = i.records; place = i.place; len = i.len; other_closed = i.other_closed } in
    let refused = c.refused_at-then-size-left in
    record {
      here = λ told. tt;
      broken = λ told.
          let len = subst (λ (w : Walked). w.len ≡ length (file_of files w.file)) (sym c.self.view_is) (c.requires.there told) in
          let front = c.deref.ensures.value ∙ front_read file c.in_ok-front.front.items i.place i.len c.min.result len c.min.ensures (read.bytes told) in
          let there : HasFront c.deref.result.now c.in-Ok-Some.size c.in-Ok-Some.sum.now = rw c.in-Ok-Some.field-0-is at c.in-Ok-Some.ensures.there in
          let has = subst (λ (l : List ℕ). HasFront l c.in-Ok-Some.size c.in-Ok-Some.sum.now) front there in
          let whole = front_whole i.head c.self.invariant.1 i.place file c.in-Ok-Some.size c.in-Ok-Some.sum.now has in
          let more = c.if-size-left.true in
          let broken = long_here i.head c.self.invariant.1 i.place file c.in-Ok-Some.size c.in-Ok-Some.sum.now has (omega (arith, more, len, whole)) in
          subst (λ (w : Walked). IsBrokenHere w (file_of files w.file) refused.result) c.self.view_is
          (subst (λ (f : GateFault). IsBrokenHere k file f) (sym refused.ensures) (refl, refl, broken));
      within = tt;
      nothing_before = subst HasNothingBefore (sym refused.ensures) refl;
      run = until_well g.S.Site (Err refused.result) c.args.site.now c.read_part.new.site (refused_alone _ _ _ refused.ensures) read.looks (read_worked c.in_ok-front.front _ _ read.counted);
    }

pub returns-clause-gate : goal.returns-clause-gate
returns-clause-gate g c =
    let read = c.in_ok-front.ensures in
    let same = read.looks.nothing.files in
    let told_on = read.looks.calls.as_told in
    let next = c.record_of.ensures in
    let result = c.record_of.result in
    let w = c.args.self.now in
    record {
      here = λ told. subst (λ (f : Files). IfOk result (IsHere w (file_of f w.file))) same (next.here (told_on ∙ told));
      broken = λ told. subst (λ (f : Files). IfErr result (IsBrokenHere w (file_of f w.file))) same (next.broken (told_on ∙ told));
      within = next.within;
      nothing_before = next.nothing_before;
      run = until_then g.S.Site result c.args.site.now c.read_part.new.site c.record_of.new.site read.looks (read_worked c.in_ok-front.front _ _ read.counted) next.run;
    }

pub record_of-requires-clause-front : goal.record_of-requires-clause-front
record_of-requires-clause-front g c told_new =
    let looks = c.in_ok-front.ensures.looks in
    let told = sym looks.calls.as_told ∙ told_new in
    let i = c.self.inside in
    let files = g.S.Site.seen c.args.site.now in
    let file = file_of files i.file in
    let len = subst (λ (w : Walked). w.len ≡ length (file_of files w.file)) (sym c.self.view_is) (c.requires.there told) in
    let front = c.deref.ensures.value ∙ front_read file c.in_ok-front.front.items i.place i.len c.min.result len c.min.ensures (c.in_ok-front.ensures.bytes told) in
    let there : HasFront c.deref.result.now c.in-Ok-Some.size c.in-Ok-Some.sum.now = rw c.in-Ok-Some.field-0-is at c.in-Ok-Some.ensures.there in
    let has = subst (λ (l : List ℕ). HasFront l c.in-Ok-Some.size c.in-Ok-Some.sum.now) front there in
    let now = subst (λ (w : Walked). HasFront (front_here w (file_of files w.file)) c.in-Ok-Some.size c.in-Ok-Some.sum.now) c.self.view_is has in
    subst (λ (f : Files). HasFront (front_here c.args.self.now (file_of f c.args.self.now.file)) c.in-Ok-Some.size c.in-Ok-Some.sum.now) (sym looks.nothing.files) now
