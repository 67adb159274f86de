use Rattle.std.proofs.Common.{◌≡◌, ◌≢◌, ◌∙◌, ◌+◌, ◌-◌, ℕ, true, List, take, sym, ap, subst}
use Rattle.std.proofs.lemmas.Result.{IfOk-weaker}
use Rattle.std.specs.Prelude.{Result, Ok, Err, IsTrue, IfOk, IfErr, slice_range}
use Rattle.ox_outside.proofs.Calls.{looks_none, looks_then}
use Rattle.ox_outside.proofs.Counts.{no_fault_then, no_fault_yet}
use Rattle.ox_outside.specs.Files.{Files, file_of}
use Rattle.ox_gated.specs.Layout.{layout_of}
use Rattle.ox_gated.specs.OldReading.{current_as, is_read}
use Rattle.ox_gated.specs.Opened.{IsBehindLawful, IsFault, found_of}
use Rattle.ox_gated.specs.OtherFile.{last_generation}
use Rattle.ox_gated.specs.Reading.{Found, Fault}
use Rattle.ox_gated.specs.declared.fault.GateFault.{GateFault}
use Rattle.ox_gated.specs.declared.head.Head.{Head}
use Rattle.ox_gated.proofs.CurrentRead.{current_cut, current_right, current_wrong, front_long}
use Rattle.ox_gated.proofs.Looking.{until_well}
use Rattle.ox_gated.proofs.OldReading.{as_body, as_unfollowed, as_unread, is_lesser}
use Rattle.ox_gated.proofs.OneWrite.{read_worked, refused_alone}
use Rattle.ox_gated.proofs.open.read_current.Goals as goal

pub is_body-requires : goal.is_body-requires
is_body-requires g c =
    let e = c.args.examined.now in
    front_long e.opening c.body_at-body_at.result c.body_at-body_at.ensures e.front (sym c.is_cut.ensures ∙ c.if-is_cut.false) c.deref.result.now c.deref.ensures.value c.requires.size

-- what is answered where a test of the files fails
pub returns-then-not-is_read : goal.returns-then-not-is_read
returns-then-not-is_read g c =
    let e = c.args.examined.now in
    let bytes = file_of (g.S.Site.seen c.args.site.now) e.file in
    let fault = as_unread c.args.only e.file bytes e.opening (sym c.is_read.ensures ∙ c.if-not-is_read.true) in
    record {
      found = λ told. tt;
      tail = tt;
      head = tt;
      version = tt;
      generation = λ followed. tt;
      reads = record {
        not_store = λ told. subst (λ (f : GateFault). IsFault (current_as c.args.only e.file bytes e.opening) f) (sym c.refused_at.ensures) fault;
        behind = subst IsBehindLawful (sym c.refused_at.ensures) tt;
        run = until_well g.S.Site (Err c.refused_at.result) c.args.site.now c.args.site.now (refused_alone _ _ _ c.refused_at.ensures) (looks_none g.S.Site g.met.S.Site.only_now c.args.site.now) (no_fault_yet _);
      };
    }

pub returns-then-is_unfollowed : goal.returns-then-is_unfollowed
returns-then-is_unfollowed g c =
    let e = c.args.examined.now in
    let bytes = file_of (g.S.Site.seen c.args.site.now) e.file in
    let fault = as_unfollowed c.args.only e.file bytes e.opening (sym c.is_read.ensures ∙ c.if-not-is_read.false) (sym c.is_unfollowed.ensures ∙ c.if-is_unfollowed.true) in
    record {
      found = λ told. tt;
      tail = tt;
      head = tt;
      version = tt;
      generation = λ followed. tt;
      reads = record {
        not_store = λ told. subst (λ (f : GateFault). IsFault (current_as c.args.only e.file bytes e.opening) f) (sym c.refused_at-then-is_unfollowed.ensures) fault;
        behind = subst IsBehindLawful (sym c.refused_at-then-is_unfollowed.ensures) tt;
        run = until_well g.S.Site (Err c.refused_at-then-is_unfollowed.result) c.args.site.now c.args.site.now (refused_alone _ _ _ c.refused_at-then-is_unfollowed.ensures) (looks_none g.S.Site g.met.S.Site.only_now c.args.site.now) (no_fault_yet _);
      };
    }

pub returns-then-is_cut : goal.returns-then-is_cut
returns-then-is_cut g c =
    let e = c.args.examined.now in
    let bytes = file_of (g.S.Site.seen c.args.site.now) e.file in
    let same = sym (as_body c.args.only e.file bytes e.opening (sym c.is_read.ensures ∙ c.if-not-is_read.false) (sym c.is_unfollowed.ensures ∙ c.if-is_unfollowed.false)) in
    record {
      found = λ told. tt;
      tail = tt;
      head = tt;
      version = tt;
      generation = λ followed. tt;
      reads = record {
        not_store = λ told.
            let cut = current_cut e.opening c.body_at-body_at.result c.body_at-body_at.ensures e.front (sym c.is_cut.ensures ∙ c.if-is_cut.true) e.file bytes (c.requires.front told) in
            subst (λ (f : GateFault). IsFault (current_as c.args.only e.file bytes e.opening) f) (sym c.refused_at-then-is_cut.ensures) (same ∙ cut);
        behind = subst IsBehindLawful (sym c.refused_at-then-is_cut.ensures) tt;
        run = until_well g.S.Site (Err c.refused_at-then-is_cut.result) c.args.site.now c.args.site.now (refused_alone _ _ _ c.refused_at-then-is_cut.ensures) (looks_none g.S.Site g.met.S.Site.only_now c.args.site.now) (no_fault_yet _);
      };
    }

pub returns-then-not-is_body : goal.returns-then-not-is_body
returns-then-not-is_body g c =
    let e = c.args.examined.now in
    let bytes = file_of (g.S.Site.seen c.args.site.now) e.file in
    let read = c.in_ok-body.ensures in
    record {
      found = λ told. tt;
      tail = tt;
      head = tt;
      version = tt;
      generation = λ followed. tt;
      reads = record {
        not_store = λ told.
            let body = c.deref-2.ensures.value ∙ read.bytes told in
            let wrong = current_wrong e.opening c.body_at-body_at.result c.body_at-body_at.ensures e.front (sym c.is_cut.ensures ∙ c.if-is_cut.false) e.file bytes c.deref.result.now c.deref-2.result.now (c.requires.front told) c.deref.ensures.value body (sym c.is_body.ensures ∙ c.if-not-is_body.true) in
            let same = sym (as_body c.args.only e.file bytes e.opening (sym c.is_read.ensures ∙ c.if-not-is_read.false) (sym c.is_unfollowed.ensures ∙ c.if-is_unfollowed.false)) ∙ wrong in
            subst (λ (f : GateFault). IsFault (current_as c.args.only e.file bytes e.opening) f) (sym c.refused_at-then-not-is_body.ensures) same;
        behind = subst IsBehindLawful (sym c.refused_at-then-not-is_body.ensures) tt;
        run = until_well g.S.Site (Err c.refused_at-then-not-is_body.result) c.args.site.now c.read_part.new.site (refused_alone _ _ _ c.refused_at-then-not-is_body.ensures) read.looks (read_worked c.in_ok-body.body _ _ read.counted);
      };
    }

-- where all of them hold
pub returns : goal.returns
returns g c =
    let e = c.args.examined.now in
    let at = c.body_at-body_at.result in
    let size = e.opening.size in
    let bytes = file_of (g.S.Site.seen c.args.site.now) e.file in
    let body = c.in_ok-body.ensures in
    let last = c.in_ok-rest.ensures in
    let result = c.found_or_fault.result in
    let found = c.found_or_fault.ensures in
    let is_read_here = sym c.is_read.ensures ∙ c.if-not-is_read.false in
    let lesser = sym c.is_unfollowed.ensures ∙ c.if-is_unfollowed.false in
    let right = subst (λ (l : List ℕ). (layout_of e.opening.head.version).is_body (take (layout_of e.opening.head.version).body_at c.deref.result.now) l ≡ true) c.deref-2.ensures.value (sym c.is_body.ensures ∙ c.if-not-is_body.false) in
    let rest_is = λ (told : IsTrue (g.S.Site.told c.args.site.now)).
    c.deref-3.ensures.value ∙ last.bytes (body.looks.calls.as_told ∙ told) ∙ ap (λ (f : Files). slice_range (file_of f e.file) (at + size) (at + size + (e.front.len - (at + size)))) body.looks.nothing.files in
    let same = λ (told : IsTrue (g.S.Site.told c.args.site.now)).
    current_right e.opening at c.body_at-body_at.ensures e.front (sym c.is_cut.ensures ∙ c.if-is_cut.false) e.file bytes c.deref.result.now c.in_ok-body.body.items (c.requires.front told) c.deref.ensures.value (body.bytes told) right c.deref-3.result.now (rest_is told)
    ∙ as_body c.args.only e.file bytes e.opening is_read_here lesser in
    record {
      found = λ told. subst (λ (r : Result Found Fault). IfOk result (λ o. r ≡ Ok (found_of o))) (same told) found.found;
      tail = found.tail;
      head = found.head;
      version = IfOk-weaker result _ _ (λ o is. subst (λ (h : Head). IsTrue (is_read c.args.only h.version)) (sym is) is_read_here) found.head;
      generation = λ followed.
          IfOk-weaker result _ _ (λ o is. subst (λ (h : Head). h.generation ≢ last_generation) (sym is) (is_lesser c.args.only e.opening.head.generation lesser followed)) found.head;
      reads = record {
        not_store = λ told. subst (λ (r : Result Found Fault). IfErr result (IsFault r)) (same told) found.fault;
        behind = found.behind;
        run = until_well g.S.Site result c.args.site.now c.read_part-2.new.site found.not_disk (looks_then g.S.Site c.args.site.now c.read_part.new.site c.read_part-2.new.site body.looks last.looks)
            (no_fault_then _ _ _ (read_worked c.in_ok-body.body _ _ body.counted) (read_worked c.in_ok-rest.rest _ _ last.counted));
      };
    }
