use Rattle.std.proofs.Common.{refl, sym, arith}
use Rattle.std.proofs.lemmas.Bool.{eqb-true}
use Rattle.std.proofs.lemmas.List.{nil_from_length}
use Rattle.ox_runestone.specs.Spelling.{payload_for}
use Rattle.ox_runestone.proofs.ScriptIsSpelled.{push_more, pushes_end}
use Rattle.ox_runestone.proofs.PayloadReadsBack.{stone_marked}
use Rattle.ox_runestone.proofs.FieldsReadBack.{artifact_back}
use Rattle.ox_runestone.proofs.writing.encipher.Goals as goal

pub loop-rest-preserved : goal.loop-rest-preserved
loop-rest-preserved c =
    push_more (payload_for c.args.stone.now) c.loop-rest.script.items c.put_push.new.script.items c.loop-rest.rest.now c.split_at.result.0.now c.split_at.result.1.now c.min.result c.loop-rest.invariant (omega (arith, c.min.ensures)) c.split_at.ensures.front c.split_at.ensures.back (omega (arith, c.min.ensures, c.split_at.ensures.front_len)) c.in_ok-put_push.ensures

pub returns-clause-spelled : goal.returns-clause-spelled
returns-clause-spelled c = rw c.from_vec.ensures (pushes_end (payload_for c.args.stone.now) c.loop-rest.script.items c.loop-rest.rest.now c.args.stone.now c.loop-rest.invariant (nil_from_length c.loop-rest.rest.now (eqb-true _ _ (sym c.loop-rest-test.ensures))) refl)

pub returns-clause-marked : goal.returns-clause-marked
returns-clause-marked c = let s = returns-clause-spelled c in stone_marked c.from_vec.result s.0 s.1

pub returns-clause-deciphered : goal.returns-clause-deciphered
returns-clause-deciphered c = artifact_back c.from_vec.result c.args.stone.now c.args.outputs (omega arith) c.requires.possible c.requires.rising (returns-clause-spelled c)
