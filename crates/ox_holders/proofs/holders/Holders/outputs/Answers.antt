use Rattle.std.proofs.Common.{◌≡◌, ◌∙◌, ◌++◌, ℕ, List, ap, sym, subst, false}
use Rattle.std.specs.List.{filter}
use Rattle.std.specs.Ordering.{is_gt}
use Rattle.std.specs.BTreeMap.Range.{range_contains}
use Rattle.std.specs.declared.ops.Bound.TheVariants.{Included, Excluded}
use Rattle.ox_holders.specs.declared.key.Key.{Key}
use Rattle.ox_holders.specs.Keys.{key_cmp, first_of, outpoints_in}
use Rattle.ox_holders.proofs.Scripts.{between-filter, forward, found_end, found_next, found_outputs, has_script}
use Rattle.ox_holders.proofs.holders.Holders.outputs.Goals as goal

pub range-key-items-requires : goal.range-key-items-requires
range-key-items-requires c =
    let s : List ℕ = c.args.script.now in
    let P : Key → Type 0 = λ k. is_gt (key_cmp k c.in_ok-behind.behind) ≡ false in
    let Q : Key → Type 0 = λ k. is_gt (key_cmp (first_of s) k) ≡ false in
    subst P (sym c.in_ok-first.ensures) (subst Q (sym c.in_ok-behind.ensures) (forward s))

pub loop-key-init : goal.loop-key-init
loop-key-init c =
    let s : List ℕ = c.args.script.now in
    let keys : List Key = c.args.self.now.keys.keys in
    let those : c.range-key-items.result ≡ filter (has_script s) keys =
    c.range-key-items.ensures.between tt
    ∙ ap (λ k. filter (range_contains key_cmp (Included k) (Excluded c.in_ok-behind.behind)) keys) c.in_ok-first.ensures
    ∙ ap (λ k. filter (range_contains key_cmp (Included (first_of s)) (Excluded k)) keys) c.in_ok-behind.ensures
    ∙ between-filter s keys in
    let items : c.into_iter-key-iterator.result ≡ c.range-key-items.result = cc in
    ap (λ found. found ++ outpoints_in c.into_iter-key-iterator.result) c.new-found.ensures
    ∙ ap outpoints_in (items ∙ those)

pub loop-key-preserved : goal.loop-key-preserved
loop-key-preserved c =
    found_next c.loop-key.found c.push_place.new.found c.loop-key.key-iterator c.next.new.self c.in-Some.key.now
    (outpoints_in (filter (has_script c.args.script.now) c.args.self.now.keys.keys))
    c.in-Some.ensures.steps c.in_ok-push_place.ensures c.loop-key.invariant

pub returns : goal.returns
returns c = λ outs stands.
    let s : List ℕ = c.args.script.now in
    let keys : List Key = c.args.self.now.keys.keys in
    found_end c.loop-key.found c.loop-key.key-iterator (outpoints_in (filter (has_script s) keys)) c.in-None.ensures.steps.0 c.loop-key.invariant
    ∙ found_outputs s keys outs c.range-key-items.ensures.ordered stands.each
