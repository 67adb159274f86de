-- The faults of a head in their order.
use Rattle.std.proofs.Common.{map, length, ap, sym, subst, ◌∙◌}
use Rattle.httparse.specs.Spans.{header_bytes}
use Rattle.ox_http.specs.First.{closes, opens, unless_at_fault}
use Rattle.ox_http.specs.Head.{Head}
use Rattle.ox_http.specs.Read.{head_with}
use Rattle.ox_http.proofs.Fields.{IsSized, asked_same, fault_encoded, fault_long, fault_none, fault_unclear, fault_untold, size_is, sized_told, sized_untold}
use Rattle.ox_http.proofs.reader.read_fields.Goals as goal
use Rattle.ox_http.proofs.reader.read_fields.Goals.{in-Untold-2, in-Told}

pub returns-in-Unclear : goal.returns-in-Unclear
returns-in-Unclear c =
    let known : Head = head_with c.args.start
    (map (header_bytes c.args.head.now) c.args.fields.now) in
    sym (ap (unless_at_fault (length c.args.head.now) known)
    (fault_unclear known c.in-Unclear.ensures))

pub returns-in-Untold : goal.returns-in-Untold
returns-in-Untold c =
    let known : Head = head_with c.args.start
    (map (header_bytes c.args.head.now) c.args.fields.now) in
    sym (ap (unless_at_fault (length c.args.head.now) known)
    (fault_untold known c.in-Untold.ensures
    (sym c.is_post_named-post.ensures ∙ c.if-post.true)))

pub returns-then-has_field : goal.returns-then-has_field
returns-then-has_field c =
    let known : Head = head_with c.args.start
    (map (header_bytes c.args.head.now) c.args.fields.now) in
    let sized : IsSized known c.match-body_length.body_len = elim c.match-body_length.branch [
      | in-Untold-2 w ↦ subst (IsSized known) (sym w.body_len-is)
          (sized_untold known w.in-Untold-2.ensures
          (sym c.is_post_named-post.ensures ∙ w.if-post.false))
      | in-Told w ↦ subst (IsSized known) (sym w.body_len-is)
          (sized_told known w.in-Told.n w.in-Told.ensures)
    ] in
    sym (ap (unless_at_fault (length c.args.head.now) known)
    (fault_encoded known c.match-body_length.body_len sized
    (sym c.has_field.ensures ∙ c.if-has_field.true)))

pub returns-then-body_len-gt-BODY_LIMIT : goal.returns-then-body_len-gt-BODY_LIMIT
returns-then-body_len-gt-BODY_LIMIT c =
    let known : Head = head_with c.args.start
    (map (header_bytes c.args.head.now) c.args.fields.now) in
    let sized : IsSized known c.match-body_length.body_len = elim c.match-body_length.branch [
      | in-Untold-2 w ↦ subst (IsSized known) (sym w.body_len-is)
          (sized_untold known w.in-Untold-2.ensures
          (sym c.is_post_named-post.ensures ∙ w.if-post.false))
      | in-Told w ↦ subst (IsSized known) (sym w.body_len-is)
          (sized_told known w.in-Told.n w.in-Told.ensures)
    ] in
    sym (ap (unless_at_fault (length c.args.head.now) known)
    (fault_long known c.match-body_length.body_len sized
    (sym c.has_field.ensures ∙ c.if-has_field.false)
    c.if-body_len-gt-BODY_LIMIT.true))

pub returns : goal.returns
unfolding closes
returns c =
    let known : Head = head_with c.args.start
    (map (header_bytes c.args.head.now) c.args.fields.now) in
    let sized : IsSized known c.match-body_length.body_len = elim c.match-body_length.branch [
      | in-Untold-2 w ↦ subst (IsSized known) (sym w.body_len-is)
          (sized_untold known w.in-Untold-2.ensures
          (sym c.is_post_named-post.ensures ∙ w.if-post.false))
      | in-Told w ↦ subst (IsSized known) (sym w.body_len-is)
          (sized_told known w.in-Told.n w.in-Told.ensures)
    ] in
    ap (opens (length c.args.head.now))
    (asked_same known c.method_named.result c.match-body_length.body_len c.says_close.result
    c.method_named.ensures
    (size_is known c.match-body_length.body_len sized c.if-body_len-gt-BODY_LIMIT.false)
    c.says_close.ensures)
    ∙ sym (ap (unless_at_fault (length c.args.head.now) known)
    (fault_none known c.match-body_length.body_len sized
    (sym c.has_field.ensures ∙ c.if-has_field.false)
    c.if-body_len-gt-BODY_LIMIT.false))
