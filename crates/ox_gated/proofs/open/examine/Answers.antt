use Rattle.std.proofs.Common.{◌≡◌, ◌∙◌, length, take, sym, ap, subst}
use Rattle.std.proofs.lemmas.Result.{IfOk-weaker}
use Rattle.std.specs.Prelude.{Ok, IfOk, IfErr, IsTrue, min}
use Rattle.ox_outside.proofs.Calls.{looks_then}
use Rattle.ox_outside.proofs.Counts.{no_fault_then}
use Rattle.ox_outside.specs.Files.{Files, file_of, other}
use Rattle.ox_gated.specs.Opened.{IsFrontOf, IsUnpicked}
use Rattle.ox_gated.specs.Pick.{Choice}
use Rattle.ox_gated.specs.declared.open.Front.{Front}
use Rattle.ox_gated.proofs.ChoiceByFronts.{choice_read, closed_read, front_of_file, size_of_file}
use Rattle.ox_gated.proofs.Looking.{until_well}
use Rattle.ox_gated.proofs.OneWrite.{read_worked}
use Rattle.ox_gated.proofs.OpenedHolds.{all_examined}
use Rattle.ox_gated.proofs.open.examine.Goals as goal

pub returns : goal.returns
returns g c =
    let old = c.args.site.now in
    let files = g.S.Site.seen old in
    let first = c.in_ok-a.ensures in
    let last = c.in_ok-b.ensures in
    let result = c.compare.result in
    let compared = c.compare.ensures in
    let a = λ (told : IsTrue (g.S.Site.told old)). first.bytes told in
    let b = λ (told : IsTrue (g.S.Site.told old)). last.bytes (first.looks.calls.as_told ∙ told) ∙ ap (λ (f : Files). take 90 f.b) first.looks.nothing.files in
    let front_a = λ (told : IsTrue (g.S.Site.told old)). (let is : IsFrontOf c.in_ok-a.a files.a = record { len = first.len told; bytes = a told } in is) in
    let front_b = λ (told : IsTrue (g.S.Site.told old)).
    (let is : IsFrontOf c.in_ok-b.b files.b = record { len = last.len (first.looks.calls.as_told ∙ told) ∙ ap (λ (f : Files). length f.b) first.looks.nothing.files; bytes = b told } in is) in
    record {
      examined = λ told.
          all_examined files result
          (subst (λ (p : Choice). IfOk result (λ e. p ≡ Ok (e.file, e.opening))) (choice_read files c.in_ok-a.a.bytes.items c.in_ok-b.b.bytes.items (a told) (b told)) compared.found)
          (IfOk-weaker result _ _ (λ e is. subst (λ (f : Front). IsFrontOf f (file_of files e.file)) (sym is) (front_of_file files c.in_ok-a.a c.in_ok-b.b (front_a told) (front_b told) e.file)) compared.front)
          (IfOk-weaker result _ _ (λ e closed. closed ∙ closed_read files c.in_ok-a.a.bytes.items c.in_ok-b.b.bytes.items (a told) (b told) (other e.file)) compared.closed);
      size = IfOk-weaker result _ _ (λ e is. subst (λ (f : Front). length f.bytes.items ≡ min 90 f.len) (sym is) (size_of_file c.in_ok-a.a c.in_ok-b.b first.size last.size e.file)) compared.front;
      lawful = compared.lawful;
      fault = λ told. subst (λ (p : Choice). IfErr result (IsUnpicked p)) (choice_read files c.in_ok-a.a.bytes.items c.in_ok-b.b.bytes.items (a told) (b told)) compared.fault;
      behind = compared.behind;
      run = until_well g.S.Site result old c.read_front-2.new.site compared.not_disk (looks_then g.S.Site old c.read_front.new.site c.read_front-2.new.site first.looks last.looks)
          (no_fault_then _ _ _ (read_worked c.in_ok-a.a _ _ first.counted) (read_worked c.in_ok-b.b _ _ last.counted));
    }
