use Rattle.std.proofs.lemmas.Result.{err_from_is_err_and}
use Rattle.ox_bytes.specs.Reading.{times}
use Rattle.ox_bytes.proofs.TimesLoop.{goes_on, is_done}
use Rattle.ox_rows.proofs.Ahead.{none_yet, until_then, values_end}
use Rattle.ox_rows.proofs.lists_from.values_from.Goals as goal

pub loop-init : goal.loop-init
loop-init g c = record {
  so_far = none_yet _ c.new-values.result (times g.T.Readable.at) c.args.count c.new-values.ensures;
  ready = c.requires.ready;
  went = g.met.S.Source.no_call c.args.source.now c.args.world.now;
}

pub returns-in_err-value : goal.returns-in_err-value
returns-in_err-value g c =
    let p = err_from_is_err_and c.from_residual.result c.from_residual.ensures.1 in
    rw (p.1, p.2) (record {
      read = λ bytes before.
          let s = c.loop.invariant.so_far bytes before in
          values_end g.T.Readable.at c.in_err-value.field-0.0 c.loop.values c.args.count c.loop.counter s.0 (times g.T.Readable.at c.args.count bytes) c.loop-test.true (c.in_err-value.ensures.read s.0 s.1) s.2;
      ready = tt;
      calls = until_then g.S.Source.went g.S.Source.ended g.met.S.Source.then_went g.met.S.Source.then_ended _ _ _ _ _ _ c.in_err-value.field-0.0 c.loop.invariant.went c.in_err-value.ensures.calls;
    })

pub loop-preserved : goal.loop-preserved
loop-preserved g c = record {
  so_far = λ bytes before.
      let s = c.loop.invariant.so_far bytes before in
      let n = c.in_ok-value.ensures.read s.0 s.1 in
      (n.0, n.1, rw c.in_ok-push.ensures.ok (goes_on g.T.Readable.at c.loop.values c.args.count c.loop.counter s.0 c.in_ok-value.value n.0 (times g.T.Readable.at c.args.count bytes) c.loop-test.true n.2 s.2));
  ready = c.in_ok-value.ensures.ready;
  went = g.met.S.Source.then_went _ _ _ _ _ _ c.loop.invariant.went c.in_ok-value.ensures.calls;
}

pub returns : goal.returns
returns g c = record {
  read = λ bytes before.
      let s = c.loop.invariant.so_far bytes before in
      (s.0, s.1, is_done g.T.Readable.at c.loop.values c.args.count c.loop.counter s.0 (times g.T.Readable.at c.args.count bytes) c.loop-test.false s.2);
  ready = c.loop.invariant.ready;
  calls = c.loop.invariant.went;
}
