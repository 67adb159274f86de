use Rattle.std.proofs.Common.{arith, take, refl, Ok}
use Rattle.ox_outside.proofs.Log.{adds_grows}
use Rattle.ox_outside.specs.Event.{Heard, hear_events}
use Rattle.ox_outside.specs.declared.site.Heard.TheVariants.{Bytes}
use Rattle.ox_feed.proofs.HearingOnlyTalks.{only_hears_one, talks_hearing}
use Rattle.ox_feed.proofs.Parts.{heard_front}
use Rattle.ox_feed.proofs.piece.Piece.hear.Goals as goal

pub returns-in-Ok-Bytes-clause-logged : goal.returns-in-Ok-Bytes-clause-logged
returns-in-Ok-Bytes-clause-logged g c =
    let logged = rw c.in-Ok-Bytes.field-0-is at c.in-Ok-Bytes.ensures.logged in
    let within = rw c.in-Ok-Bytes.field-0-is at c.in-Ok-Bytes.ensures.within in
    adds_grows (hear_events 0 c.hear.new.into (Ok (Bytes c.in-Ok-Bytes.n))) _ (g.S.Site.log c.args.site.now) (g.S.Site.log c.hear.new.self)
    (λ log. record {
      only = only_hears_one (Heard 0 (take c.in-Ok-Bytes.n c.hear.new.into)) refl;
      bytes = heard_front c.in-Ok-Bytes.n c.truncate.new.self.len c.hear.new.into c.truncate.new.self.items (omega arith) (omega arith);
      ended = refl;
    })
    logged

pub returns-in-Ok-Bytes-clause-talks : goal.returns-in-Ok-Bytes-clause-talks
returns-in-Ok-Bytes-clause-talks g c =
    talks_hearing g.S.Site g.met.S.Site.only_now g.met.S.Site.logs_now
    c.hear.new.into c.hear.result c.args.site.now c.hear.new.self c.hear.ensures.logged c.hear.ensures.files c.hear.ensures.call

pub returns-in-Ok-End-clause-talks : goal.returns-in-Ok-End-clause-talks
returns-in-Ok-End-clause-talks g c =
    talks_hearing g.S.Site g.met.S.Site.only_now g.met.S.Site.logs_now
    c.hear.new.into c.hear.result c.args.site.now c.hear.new.self c.hear.ensures.logged c.hear.ensures.files c.hear.ensures.call

pub returns-in-Err-clause-talks : goal.returns-in-Err-clause-talks
returns-in-Err-clause-talks g c =
    talks_hearing g.S.Site g.met.S.Site.only_now g.met.S.Site.logs_now
    c.hear.new.into c.hear.result c.args.site.now c.hear.new.self c.hear.ensures.logged c.hear.ensures.files c.hear.ensures.call
