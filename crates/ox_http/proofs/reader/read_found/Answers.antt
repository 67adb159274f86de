-- The spans cover the parts of the head, if the head is all of the bytes.
use Rattle.std.proofs.Common.{List, map, length, refl, ap, sym, ◌∙◌}
use Rattle.httparse.specs.declared.spans.HeaderSpan.{HeaderSpan}
use Rattle.httparse.specs.Spans.{header_bytes}
use Rattle.ox_http.specs.First.{at_head, fault_of, unless_at_fault}
use Rattle.ox_http.specs.Head.{Head}
use Rattle.ox_http.proofs.Fields.{head_same, part_read, whole_read}
use Rattle.ox_http.proofs.reader.read_found.Goals as goal

pub returns-then-found-head : goal.returns-then-found-head
returns-then-found-head c =
    sym (ap (at_head (length c.args.head.now))
    (part_read c.args.head.now c.args.spans.now c.args.found c.requires.is
    c.requires.within.section.len_fits c.if-found-head.true))

pub returns : goal.returns
returns c =
    c.read_fields.ensures
    ∙ ap (λ (known : Head). unless_at_fault (length c.args.head.now) known (fault_of known))
    (head_same c.of.ensures c.of-2.ensures refl
    (ap (λ (spans : List HeaderSpan). map (header_bytes c.args.head.now) spans)
    c.split_at.ensures.front))
    ∙ sym (ap (at_head (length c.args.head.now))
    (whole_read c.args.head.now c.args.spans.now c.args.found c.requires.is.0 c.requires.is.1
    c.if-found-head.false c.requires.few))
