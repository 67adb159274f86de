use Rattle.std.proofs.Common.{ap, sym, ◌∙◌}
use Rattle.ox_replies.specs.Content.{is_header_text}
use Rattle.ox_query.proofs.Contents.{some_header}
use Rattle.ox_query.proofs.content.header_text.Goals as goal

pub returns : goal.returns
returns c =
    some_header c.args.bytes.now c.in-Some.bytes c.in_ok-copy.field-0 c.in-Some.is (c.in_ok-copy.ensures ∙ c.as_slice-text.ensures)
    (sym (ap is_header_text c.as_slice-text.ensures) ∙ sym c.is_header_text.ensures ∙ c.if-not-is_header_text.false)
