use Rattle.std.proofs.Common.{◌≡◌, ◌∙◌, true, refl, sym, ap}
use Rattle.ox_outside.specs.Files.{other}
use Rattle.ox_gated.specs.Reading.{reading}
use Rattle.ox_gated.proofs.OneFile.{spared}
use Rattle.ox_gated.proofs.Turning.{close_moments, close_shuts, close_alike, close_holds, shut_now}
use Rattle.std.proofs.lemmas.Result.{err_from_is_err_and}
use Rattle.ox_outside.proofs.Calls.{leaves_at_first}
use Rattle.ox_outside.proofs.Counts.{no_fault_yet, stops_at_none}
use Rattle.ox_gated.proofs.OneWrite.{if_none, on_failed, on_none}
use Rattle.ox_gated.specs.WritesOn.{writes_none}
use Rattle.ox_gated.proofs.Writing.{all_worked, ends_failed}
use Rattle.ox_gated.proofs.tail.Tail.close_other.Goals as goal

pub returns-then-is_other_closed : goal.returns-then-is_other_closed
returns-then-is_other_closed g c =
    let site = c.args.site.now in
    let shut : c.args.self.other_closed ≡ true = sym c.is_other_closed.ensures ∙ c.if-is_other_closed.true in record {
      holds = λ told. c.requires told;
      shut = λ told. shut_now g.S.Site c.args.self site (c.requires told) shut;
      spared = λ told. refl;
      kept = λ i. record c.args.self { other_closed = shut i };
      alike = λ told reads. refl;
      any_moment = λ told. leaves_at_first g.S.Site site _ (λ r left reads. ap (reading reads) ((c.requires told).settled r (g.met.S.Site.only_now site r left)));
      failed = tt;
      counted = stops_at_none _ _ _ _ _ (no_fault_yet _);
      writes = writes_none g.S.Site g.met.S.Site.only_now g.met.S.Site.logs_now site;
    }

pub returns-in_err-write_synced : goal.returns-in_err-write_synced
returns-in_err-write_synced g c =
    let result = c.from_residual.result in
    let p = err_from_is_err_and result c.from_residual.ensures.1 in record {
      holds = λ told. if_none result p.0 p.1 _;
      shut = λ told. on_none result p.0 p.1 _;
      spared = λ told. on_none result p.0 p.1 _;
      kept = if_none result p.0 p.1 _;
      alike = λ told. on_none result p.0 p.1 _;
      any_moment = λ told.
          let h = c.requires told in
          close_moments g.S.Site c.args.self c.args.site.now h c.write_synced.new.site c.other_file.result (c.other_file.ensures ∙ ap other c.file.ensures) (sym c.is_other_closed.ensures ∙ c.if-is_other_closed.false) (c.write_synced.ensures.moments h.settled);
      failed = on_failed result p.0 p.1 _ c.in_err-write_synced.ensures.failed;
      counted = ends_failed _ result p.0 _ _ p.1 c.write_synced.ensures.counted;
      writes = c.write_synced.ensures.writes;
    }

pub returns : goal.returns
returns g c = record {
  holds = λ told.
      let e = c.in_ok-write_synced.ensures in
      close_holds g.S.Site c.args.self c.args.site.now (c.requires told) c.other_file.result (c.other_file.ensures ∙ ap other c.file.ensures) c.write_synced.new.site (record { written = e.written told; durable = e.durable; others = e.others }) c.with_other_closed.result c.with_other_closed.ensures;
  shut = λ told.
      let e = c.in_ok-write_synced.ensures in
      close_shuts g.S.Site c.args.self c.args.site.now (c.requires told) c.other_file.result (c.other_file.ensures ∙ ap other c.file.ensures) c.write_synced.new.site (record { written = e.written told; durable = e.durable; others = e.others });
  spared = λ told.
      spared c.args.self.file c.other_file.result (g.S.Site.seen c.args.site.now) (g.S.Site.seen c.write_synced.new.site) _ (c.other_file.ensures ∙ ap other c.file.ensures) (c.in_ok-write_synced.ensures.written told);
  kept = c.with_other_closed.ensures;
  alike = λ told.
      let e = c.in_ok-write_synced.ensures in
      close_alike g.S.Site c.args.self c.args.site.now (c.requires told) c.other_file.result (c.other_file.ensures ∙ ap other c.file.ensures) c.write_synced.new.site (record { written = e.written told; durable = e.durable; others = e.others });
  any_moment = λ told.
      let h = c.requires told in
      close_moments g.S.Site c.args.self c.args.site.now h c.write_synced.new.site c.other_file.result (c.other_file.ensures ∙ ap other c.file.ensures) (sym c.is_other_closed.ensures ∙ c.if-is_other_closed.false) (c.in_ok-write_synced.ensures.moments h.settled);
  failed = tt;
  counted = stops_at_none _ _ _ _ _ (all_worked _ _ c.in_ok-write_synced.ensures.counted);
  writes = c.in_ok-write_synced.ensures.writes;
}
