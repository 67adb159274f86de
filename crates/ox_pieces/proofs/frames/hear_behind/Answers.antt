use Rattle.std.proofs.Common.{◌∙◌, arith}
use Rattle.ox_feed.proofs.HearingOnlyTalks.{talks_hearing}
use Rattle.ox_pieces.proofs.Hearings.{heard_in_room, heard_size, logged_bytes}
use Rattle.ox_pieces.proofs.frames.hear_behind.Goals as goal

pub returns-in-Ok-Bytes-clause-logged : goal.returns-in-Ok-Bytes-clause-logged
returns-in-Ok-Bytes-clause-logged g c =
    let logged = rw c.in-Ok-Bytes.field-0-is at c.in-Ok-Bytes.ensures.logged in
    let within = rw c.in-Ok-Bytes.field-0-is at c.in-Ok-Bytes.ensures.within in
    logged_bytes c.hear.new.into c.args.bytes.now.items c.truncate.new.self.items c.in-Ok-Bytes.n (g.S.Site.log c.args.site.now) (g.S.Site.log c.hear.new.self)
    (heard_in_room c.len-len.result c.in-Ok-Bytes.n c.args.most c.resize.new.self.len c.args.bytes.now.items _ c.resize.new.self.items c.as_mut_slice.result.now c.split_at_mut.result.0.now
    c.hear.new.into _ c.truncate.new.self.items (c.len-len.ensures ∙ c.args.bytes.now.ok.0) c.in_ok-resize.ensures.items c.as_mut_slice.ensures.value c.split_at_mut.ensures.front c.split_at_mut.ensures.front_len
    (omega (arith, within)) (omega (arith, c.split_at_mut.ensures.back_len, c.as_mut_slice.ensures.len)) c.truncate.ensures.items)
    logged

pub returns-in-Ok-Bytes-clause-count : goal.returns-in-Ok-Bytes-clause-count
returns-in-Ok-Bytes-clause-count g c =
    let within = rw c.in-Ok-Bytes.field-0-is at c.in-Ok-Bytes.ensures.within in
    heard_size c.in-Ok-Bytes.n c.args.bytes.now.items c.hear.new.into c.truncate.new.self.items (omega (arith, within))
    (heard_in_room c.len-len.result c.in-Ok-Bytes.n c.args.most c.resize.new.self.len c.args.bytes.now.items _ c.resize.new.self.items c.as_mut_slice.result.now c.split_at_mut.result.0.now
    c.hear.new.into _ c.truncate.new.self.items (c.len-len.ensures ∙ c.args.bytes.now.ok.0) c.in_ok-resize.ensures.items c.as_mut_slice.ensures.value c.split_at_mut.ensures.front c.split_at_mut.ensures.front_len
    (omega (arith, within)) (omega (arith, c.split_at_mut.ensures.back_len, c.as_mut_slice.ensures.len)) c.truncate.ensures.items)

pub returns-in-Ok-Bytes-clause-talks : goal.returns-in-Ok-Bytes-clause-talks
returns-in-Ok-Bytes-clause-talks g c =
    talks_hearing g.S.Site g.met.S.Site.only_now g.met.S.Site.logs_now
    c.hear.new.into c.hear.result c.args.site.now c.hear.new.self c.hear.ensures.logged c.hear.ensures.files c.hear.ensures.call

pub returns-in-Ok-End-clause-talks : goal.returns-in-Ok-End-clause-talks
returns-in-Ok-End-clause-talks g c =
    talks_hearing g.S.Site g.met.S.Site.only_now g.met.S.Site.logs_now
    c.hear.new.into c.hear.result c.args.site.now c.hear.new.self c.hear.ensures.logged c.hear.ensures.files c.hear.ensures.call
