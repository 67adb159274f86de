use Rattle.std.proofs.Common.{◌≡◌, ◌∙◌, ◌<◌, ℕ, arith, List, get_or, length, slice_set, ap}
use Rattle.std.proofs.lemmas.List.{get_or_default}
use Rattle.ox_shards.proofs.TagLemmas.{tags_stay}
use Rattle.ox_shards.proofs.shard.Shard.replace.Goals as goal

pub invariant_of-self : goal.invariant_of-self
invariant_of-self g c = tags_stay g.K.Sharded.tag c.self.inside.tags.items c.self.inside.entries.items c.args.place c.index_mut.result.now c.replace.new.dest c.self.invariant c.index_mut.ensures.value

module _ {K V : Type 0} (es seen : List (K × V)) (place : ℕ) (x d : K × V) (is : x ≡ get_or es place x) (see : es ≡ seen) (low : place < length seen) where
  there : x ≡ get_or es place d
  there = is ∙ get_or_default es place x d (omega (arith, low, ap length see))

  its_value : (v : V) → v ≡ x.1 → v ≡ (get_or seen place d).1
  its_value v same = same ∙ ap (λ (e : K × V). e.1) there ∙ ap (λ (l : List (K × V)). (get_or l place d).1) see

  with_value : (v w : V) → v ≡ w → slice_set es place (x.0, v) ≡ slice_set seen place ((get_or seen place d).0, w)
  with_value v w same =
      ap (λ (u : V). slice_set es place (x.0, u)) same
      ∙ ap (λ (e : K × V). slice_set es place (e.0, w)) there
      ∙ ap (λ (l : List (K × V)). slice_set l place ((get_or l place d).0, w)) see

pub returns-clause-displaced : goal.returns-clause-displaced
returns-clause-displaced g c = λ d.
    its_value c.self.inside.entries.items c.args.self.now c.args.place c.index_mut.result.now d c.index_mut.ensures.value c.self.view_is c.requires c.replace.result c.replace.ensures.value

pub returns-clause-replaced : goal.returns-clause-replaced
returns-clause-replaced g c = λ d.
    with_value c.self.inside.entries.items c.args.self.now c.args.place c.index_mut.result.now d c.index_mut.ensures.value c.self.view_is c.requires c.replace.new.dest c.args.value c.replace.ensures.after
