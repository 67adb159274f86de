use Rattle.std.proofs.Common.{None}
use Rattle.std.proofs.lemmas.Result.{err_from_is_err_and}
use Rattle.ox_rows.specs.Reading.{rising_at}
use Rattle.ox_rows.proofs.Ahead.{key_ends, none_yet, until_then, value_ends}
use Rattle.ox_rows.proofs.Loops.{rising_goes_on, rising_is_done}
use Rattle.ox_rows.proofs.lists_from.rising_from.Goals as goal

pub loop-init : goal.loop-init
loop-init g c = record {
  so_far = none_yet _ c.new-rows.result.items (rising_at g.K.Ord.cmp g.K.Readable.at g.X.Readable.at None) c.args.count c.new-rows.ensures.items;
  ready = c.requires.ready;
  went = g.met.S.Source.no_call c.args.source.now c.args.world.now;
}

pub returns-in_err-key : goal.returns-in_err-key
returns-in_err-key g c =
    let p = err_from_is_err_and c.from_residual.result c.from_residual.ensures.1 in
    rw (p.1, p.2) (record {
      read = λ bytes before.
          let s = c.loop.invariant.so_far bytes before in
          key_ends g.K.Ord.cmp g.K.Readable.at g.X.Readable.at c.in_err-key.field-0.0 c.loop.rows.items c.args.count c.loop.counter c.loop.last s.0 (rising_at g.K.Ord.cmp g.K.Readable.at g.X.Readable.at None c.args.count bytes) c.loop-test.true (c.in_err-key.ensures.read s.0 s.1) s.2;
      ready = tt;
      calls = until_then g.S.Source.went g.S.Source.ended g.met.S.Source.then_went g.met.S.Source.then_ended _ _ _ _ _ _ c.in_err-key.field-0.0 c.loop.invariant.went c.in_err-key.ensures.calls;
    })

pub returns-in_err-value : goal.returns-in_err-value
returns-in_err-value g c =
    let p = err_from_is_err_and c.from_residual-in_err-value.result c.from_residual-in_err-value.ensures.1 in
    rw (p.1, p.2) (record {
      read = λ bytes before.
          let s = c.loop.invariant.so_far bytes before in
          let k = c.in_ok-key.ensures.read s.0 s.1 in
          value_ends g.K.Ord.cmp g.K.Readable.at g.X.Readable.at c.in_err-value.field-0.0 c.loop.rows.items c.args.count c.loop.counter c.loop.last s.0 k.0 c.in_ok-key.key (rising_at g.K.Ord.cmp g.K.Readable.at g.X.Readable.at None c.args.count bytes) c.loop-test.true k.2 (c.in_err-value.ensures.read k.0 k.1) s.2;
      ready = tt;
      calls = until_then g.S.Source.went g.S.Source.ended g.met.S.Source.then_went g.met.S.Source.then_ended _ _ _ _ _ _ c.in_err-value.field-0.0 (g.met.S.Source.then_went _ _ _ _ _ _ c.loop.invariant.went c.in_ok-key.ensures.calls) c.in_err-value.ensures.calls;
    })

pub loop-preserved : goal.loop-preserved
loop-preserved g c = record {
  so_far = λ bytes before.
      let s = c.loop.invariant.so_far bytes before in
      let k = c.in_ok-key.ensures.read s.0 s.1 in
      let x = c.in_ok-value.ensures.read k.0 k.1 in
      (x.0, x.1, rw c.in_ok-push.ensures.items (rising_goes_on g.K.Ord.cmp g.K.Readable.at g.X.Readable.at c.loop.rows.items c.args.count c.loop.counter c.loop.last s.0 k.0 x.0 c.in_ok-key.key c.in_ok-value.value (rising_at g.K.Ord.cmp g.K.Readable.at g.X.Readable.at None c.args.count bytes) c.loop-test.true k.2 x.2 s.2));
  ready = c.in_ok-value.ensures.ready;
  went = g.met.S.Source.then_went _ _ _ _ _ _ (g.met.S.Source.then_went _ _ _ _ _ _ c.loop.invariant.went c.in_ok-key.ensures.calls) c.in_ok-value.ensures.calls;
}

pub returns : goal.returns
returns g c = record {
  read = λ bytes before.
      let s = c.loop.invariant.so_far bytes before in
      (s.0, s.1, rising_is_done g.K.Ord.cmp g.K.Readable.at g.X.Readable.at c.loop.rows.items c.args.count c.loop.counter c.loop.last s.0 (rising_at g.K.Ord.cmp g.K.Readable.at g.X.Readable.at None c.args.count bytes) c.loop-test.false s.2);
  ready = c.loop.invariant.ready;
  calls = c.loop.invariant.went;
}
