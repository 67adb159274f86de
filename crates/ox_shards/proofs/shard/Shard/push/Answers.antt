use Rattle.std.proofs.Common.{◌≡◌, ◌∙◌, ℕ, false, List, [], ◌∷◌, ◌++◌, map, ap, sym}
use Rattle.std.specs.Prelude.{Result, Ok, Err, OnOk, is_err}
use Rattle.std.proofs.lemmas.List.{map-append}
use Rattle.ox_shards.proofs.shard.Shard.push.Goals as goal

-- a key with its tag behind the others
tags_more : {E : Type 0} (tag : E → ℕ) (tags new : List ℕ) (es more : List E) (t : ℕ) (e : E) → new ≡ tags ++ t ∷ [] → t ≡ tag e → tags ≡ map tag es → more ≡ es ++ e ∷ [] → new ≡ map tag more
tags_more {E = E} tag tags new es more t e pushed same are items =
    pushed ∙ ap (λ (l : List ℕ). l ++ t ∷ []) are ∙ ap (λ (x : ℕ). map tag es ++ x ∷ []) same
    ∙ sym (map-append tag es (e ∷ [])) ∙ sym (ap (map tag) items)

where_ok : {A E P : Type 0} (r : Result A E) → is_err r ≡ false → OnOk r P → P
where_ok (Ok x) is holds = holds
where_ok (Err e) is holds = absurd (cc is)

pub invariant_of-self-2 : goal.invariant_of-self-2
invariant_of-self-2 g c =
    tags_more (λ (e : g.row.K.Denot × g.row.V.Denot). g.K.Sharded.tag e.0) c.self.inside.tags.items c.push.new.self.items c.self.inside.entries.items c.push_reserved.new.self.items c.tag.result (c.args.key, c.args.value)
    (where_ok c.push.result (sym c.is_err-else-is_err.ensures.value ∙ c.if-is_err-2.false) c.push.ensures.ok) c.tag.ensures c.self.invariant
    (c.push_reserved.ensures.items ∙ ap (λ (l : List (g.row.K.Denot × g.row.V.Denot)). l ++ (c.args.key, c.args.value) ∷ []) c.reserve_one.ensures.items)

pub returns-clause-ok : goal.returns-clause-ok
returns-clause-ok g c = c.push_reserved.ensures.items ∙ ap (λ (l : List (g.row.K.Denot × g.row.V.Denot)). l ++ (c.args.key, c.args.value) ∷ []) (c.reserve_one.ensures.items ∙ c.self.view_is)
