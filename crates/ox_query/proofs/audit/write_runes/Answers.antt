use Rattle.std.proofs.Common.{map}
use Rattle.ox_replies.specs.Audits.{rune_audit_tree}
use Rattle.ox_query.proofs.Arrays.{all, bracketed, one_more}
use Rattle.ox_query.proofs.audit.write_runes.Goals as goal

pub loop-rune-init : goal.loop-rune-init
loop-rune-init c = c.begin_array.ensures

pub loop-rune-preserved : goal.loop-rune-preserved
loop-rune-preserved c =
    one_more rune_audit_tree c.args.runes.now c.loop-rune.rune-index _ c.loop-rune-test.true c.loop-rune.invariant c.write_rune_audit.ensures

pub returns : goal.returns
returns c =
    bracketed (map rune_audit_tree c.args.runes.now)
    (all rune_audit_tree c.args.runes.now c.loop-rune.rune-index c.loop-rune-test.false c.loop-rune.invariant) c.end_array.ensures
