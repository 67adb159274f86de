use Rattle.std.proofs.Common.{arith, ◌≡◌, ℕ, ◌+◌, ◌-◌, List, [], ◌++◌, take, drop, length, ap, ◌∙◌}
use Rattle.std.proofs.lemmas.List.{append-nil, drop_all}
use Rattle.ox_feed.specs.Feed.{line_limit}
use Rattle.ox_feed.specs.Held.{EndsAt, HasNoFeed}
use Rattle.ox_feed.proofs.Parts.{cut_line, keep_bytes, tells_line}
use Rattle.ox_feed.proofs.held.Held.whole_line.Goals as goal

pub returns-in_ok-add-in-Some-clause-cuts : goal.returns-in_ok-add-in-Some-clause-cuts
returns-in_ok-add-in-Some-clause-cuts c =
    let begun = c.args.self.now.begun in
    let piece = c.args.self.now.piece in
    let n = c.in-Some.n in
    let same = c.bytes-bytes.ensures in
    let ends : EndsAt n piece = rw same at c.in-Some.ensures in
    let front : c.split_at.result.0.now ≡ take n piece = c.split_at.ensures.front ∙ ap (take n) same in
    let kept : c.add.new.begun ≡ begun ++ take (line_limit + 1 - length begun) (take n piece) =
    c.in_ok-add-in-Some.ensures.ok ∙ ap (λ (l : List ℕ). begun ++ take (line_limit + 1 - length begun) l) front in
    rw c.close.ensures.line
    (tells_line _ _ _ _ (λ more ended comes.
    rw (c.close.ensures.rest, kept, c.pass.ensures)
    (cut_line begun piece (take n piece) (drop (n + 1) piece) more ended c.requires.no_feed ends.before c.requires.begun_size ends.cut)))

pub returns-in_ok-add-in-None-clause-cuts : goal.returns-in_ok-add-in-None-clause-cuts
returns-in_ok-add-in-None-clause-cuts c =
    let begun = c.args.self.now.begun in
    let piece = c.args.self.now.piece in
    let same = c.bytes-bytes.ensures in
    let none : HasNoFeed piece = rw same at c.in-None.ensures in
    let kept : c.add-in-None.new.begun ≡ begun ++ take (line_limit + 1 - length begun) piece =
    c.in_ok-add-in-None.ensures.ok ∙ ap (λ (l : List ℕ). begun ++ take (line_limit + 1 - length begun) l) same in
    let gone : c.pass-in-None.new.self ≡ [] = c.pass-in-None.ensures ∙ ap (λ (l : List ℕ). drop (length l) piece) same ∙ drop_all (length piece) piece (omega arith) in (
      gone,
      λ more ended.
          rw (kept, gone, append-nil)
          (keep_bytes begun piece more ended c.requires.no_feed none c.requires.begun_size),
    )
