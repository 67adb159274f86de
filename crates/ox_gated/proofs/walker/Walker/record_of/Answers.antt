use Rattle.std.proofs.Common.{◌∙◌, length, drop, refl, sym, ap, subst, arith}
use Rattle.std.specs.Prelude.{Ok, Err, Some}
use Rattle.std.proofs.lemmas.Slice.Eq.{bytes_eq-Decides}
use Rattle.ox_outside.specs.Files.{file_of}
use Rattle.ox_gated.specs.Begun.{HasNothingBefore, IsBrokenHere}
use Rattle.ox_gated.specs.Gate.{HasFront, IsOpen}
use Rattle.ox_gated.specs.Layout.{summed}
use Rattle.ox_gated.specs.Parts.{Walked, front_here}
use Rattle.ox_gated.specs.Reading.{gate_behind}
use Rattle.ox_gated.specs.RecordLayout.{record_sum}
use Rattle.ox_gated.specs.declared.fault.GateFault.{GateFault}
use Rattle.ox_gated.proofs.GateHere.{open_here, wrong_here}
use Rattle.ox_gated.proofs.Looking.{given, until_well}
use Rattle.ox_gated.proofs.OneWrite.{read_worked, refused_alone}
use Rattle.ox_gated.proofs.walker.Walker.record_of.Goals as goal

pub overflow_add-at : goal.overflow_add-at
overflow_add-at g c =
    let place = ap (λ (w : Walked). w.place) c.self.view_is in
    let len = ap (λ (w : Walked). w.len) c.self.view_is in
    omega (arith, c.requires.within, place, len, c.self.invariant.4)

pub returns-then-not-as_summed : goal.returns-then-not-as_summed
returns-then-not-as_summed g c =
    let i = c.self.inside in
    let files = g.S.Site.seen c.args.site.now in
    let file = file_of files i.file in
    let read = c.in_ok-payload.ensures in
    let k : Walked = record { file = i.file; head = i.head; first = i.first; records = i.records; place = i.place; len = i.len; other_closed = i.other_closed } in
    record {
      here = λ told. tt;
      broken = λ told.
          let has = subst (λ (w : Walked). HasFront (front_here w (file_of files w.file)) c.args.size c.args.sum.now) (sym c.self.view_is) (c.requires.front told) in
          let wrong = wrong_here i.head c.self.invariant.1 i.place file c.args.size c.args.sum.now has c.deref.result.now
          (c.deref.ensures.value ∙ read.bytes told) (ap length c.deref.ensures.value ∙ read.size)
          (sym c.is_summed_so-as_summed.ensures ∙ c.if-not-as_summed.true) in
          subst (λ (w : Walked). IsBrokenHere w (file_of files w.file) c.refused_at.result) c.self.view_is
          (subst (λ (f : GateFault). IsBrokenHere k file f) (sym c.refused_at.ensures) (refl, refl, wrong));
      within = tt;
      nothing_before = subst HasNothingBefore (sym c.refused_at.ensures) refl;
      run = until_well g.S.Site (Err c.refused_at.result) c.args.site.now c.read_part.new.site (refused_alone _ _ _ c.refused_at.ensures) read.looks (read_worked c.in_ok-payload.payload _ _ read.counted);
    }

pub returns : goal.returns
returns g c =
    let i = c.self.inside in
    let files = g.S.Site.seen c.args.site.now in
    let file = file_of files i.file in
    let read = c.in_ok-payload.ensures in
    let payload = c.from_vec.result in
    record {
      here = λ told.
          let has = subst (λ (w : Walked). HasFront (front_here w (file_of files w.file)) c.args.size c.args.sum.now) (sym c.self.view_is) (c.requires.front told) in
          let right = (bytes_eq-Decides c.args.sum.now (record_sum i.head.generation i.place c.deref.result.now)).0 (sym c.is_summed_so-as_summed.ensures ∙ c.if-not-as_summed.false)
          ∙ ap (record_sum i.head.generation i.place) (c.deref.ensures.value ∙ sym c.from_vec.ensures) in
          let is_open = open_here i.head c.self.invariant.1 i.place file c.args.size c.args.sum.now has payload
          (c.from_vec.ensures ∙ read.bytes told) (ap length c.from_vec.ensures ∙ read.size) right in
          subst (λ (w : Walked). IsOpen w.head w.place (drop w.place (file_of files w.file)) payload (drop (gate_behind summed w.place payload) (file_of files w.file))) c.self.view_is is_open;
      broken = λ told. tt;
      within =
          let place = ap (λ (w : Walked). w.place) c.self.view_is in (
            place,
            omega (arith, c.requires.within, place, ap length c.from_vec.ensures, read.size),
          );
      nothing_before = tt;
      run = until_well g.S.Site (Ok (Some (record { place = i.place; payload = payload }))) c.args.site.now c.read_part.new.site (given _) read.looks (read_worked c.in_ok-payload.payload _ _ read.counted);
    }
