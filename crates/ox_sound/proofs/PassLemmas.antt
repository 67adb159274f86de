-- The answers of the parts, one after another.
use Rattle.std.proofs.Common.{◌≡◌, ◌∙◌, ◌+◌, ◌<◌, ◌≤◌, ◌++◌, ◌∷◌, [], ℕ, Bool, true, false, List, ap, get_or, length, refl, subst, sym, take, Result, Ok, Err}
use Rattle.std.specs.Prelude.{◌&&◌, ◌↔◌, Decides, IfOk, IsTrue, nat_lt}
use Rattle.std.specs.FinMap.{values}
use Rattle.std.specs.List.{list_all}
use Rattle.std.proofs.lemmas.Bool.{and_from, and_left, and_parts, and_right, false≢true}
use Rattle.std.proofs.lemmas.List.{take_all}
use Rattle.std.proofs.lemmas.List.Folds.{list_all_at, list_all_more}
use Rattle.ox_sat.specs.Heights.{first_at}
use Rattle.ox_rules.specs.Outputs.{sats_held}
use Rattle.ox_rules.specs.declared.rows.OutRow.{OutRow}
use Rattle.ox_model.specs.Sound.{is_of_chain}
use Rattle.ox_sound.specs.Once.{stand_once}
use Rattle.ox_sat.specs.declared.profiles.Profile.{Profile}
use Rattle.ox_etching.specs.declared.row.RuneRow.{RuneRow}
use Rattle.ox_model.specs.Index.{Index}
use Rattle.ox_sound.specs.Rows.{are_held, are_settled, ids_differ, is_bounded, names_differ}
use Rattle.ox_sound.specs.Sound.{heights_pass, inscriptions_pass, is_etched, is_revealed, outputs_pass, runes_pass, sats_pass, sound}

pub same_answer : {E : Type 0} (r : Result Bool E) (a b : Bool) → a ≡ b → IfOk r (λ pass. pass ≡ a) → IfOk r (λ pass. pass ≡ b)
same_answer r a b same is = subst (λ (t : Bool). IfOk r (λ pass. pass ≡ t)) same is

pub answer_holds : {E : Type 0} {P : Type 0} (r : Result Bool E) (test : Bool) → Decides test P → IfOk r (λ pass. pass ≡ test) → IfOk r (λ pass. IsTrue pass ↔ P)
answer_holds (Ok pass) test decides is = (λ yes. decides.0 (sym is ∙ yes), λ holds. is ∙ decides.1 holds)
answer_holds (Err e) test decides is = is

-- ---- three parts

pub first_fails : (a b c : Bool) → a ≡ false → (a && b && c) ≡ false
first_fails a b c fails = and_left (a && b) c (and_left a b fails)

pub second_fails : (a b c : Bool) → b ≡ false → (a && b && c) ≡ false
second_fails a b c fails = and_left (a && b) c (and_right a b fails)

pub third_left : (a b c : Bool) → a ≡ true → b ≡ true → (a && b && c) ≡ c
third_left a b c first second = ap (λ (x : Bool). x && b && c) first ∙ ap (λ (x : Bool). x && c) second

-- ---- runes

fourth_fails : (a b c d e : Bool) → c ≡ false → (a && b && c && d && e) ≡ false
fourth_fails a b c d e fails = and_left (a && b && c && d) e (and_left (a && b && c) d (and_right (a && b) c fails))

fifth_fails : (a b c d e : Bool) → b ≡ false → (a && b && c && d && e) ≡ false
fifth_fails a b c d e fails = and_left (a && b && c && d) e (and_left (a && b && c) d (second_fails a b c fails))

two_left : (a b c d e : Bool) → b ≡ true → c ≡ true → (a && d && e) ≡ (a && b && c && d && e)
two_left true b c d e second third = sym (ap (λ (x : Bool). x && c && d && e) second ∙ ap (λ (x : Bool). x && d && e) third)
two_left false b c d e second third = refl

pub rows_fail : (p : Profile) (index : Index) (etched : Bool) → etched ≡ list_all (is_etched p (length index.hashes)) index.runes → etched ≡ false → runes_pass p index ≡ false
unfolding runes_pass
rows_fail p index etched is fails =
    fourth_fails (ids_differ index.runes) (names_differ index.runes) (list_all (is_etched p (length index.hashes)) index.runes) (are_held index.runes index.outs index.bal) (are_settled index.runes index.bal) (sym is ∙ fails)

pub names_fail : (p : Profile) (index : Index) (names : Bool) → names ≡ names_differ index.runes → names ≡ false → runes_pass p index ≡ false
unfolding runes_pass
names_fail p index names is fails =
    fifth_fails (ids_differ index.runes) (names_differ index.runes) (list_all (is_etched p (length index.hashes)) index.runes) (are_held index.runes index.outs index.bal) (are_settled index.runes index.bal) (sym is ∙ fails)

pub amounts_left : (p : Profile) (index : Index) (etched names : Bool) → etched ≡ list_all (is_etched p (length index.hashes)) index.runes → etched ≡ true → names ≡ names_differ index.runes → names ≡ true
    → (ids_differ index.runes && are_held index.runes index.outs index.bal && are_settled index.runes index.bal) ≡ runes_pass p index
unfolding runes_pass
amounts_left p index etched names is pass are differ =
    two_left (ids_differ index.runes) (names_differ index.runes) (list_all (is_etched p (length index.hashes)) index.runes) (are_held index.runes index.outs index.bal) (are_settled index.runes index.bal) (sym are ∙ differ) (sym is ∙ pass)

-- ---- the whole

rows_first : (a b c d e : Bool) → (a && b && d) ≡ false → (a && b && c && d && e) ≡ false
rows_first true true c d e fails = and_left (c && d) e (and_right c d fails)
rows_first true false c d e fails = refl
rows_first false b c d e fails = refl

all_left : (a b c d e : Bool) → (a && b && d) ≡ true → c ≡ true → e ≡ (a && b && c && d && e)
all_left true true c d e rows third = sym (ap (λ (x : Bool). x && d && e) third ∙ ap (λ (x : Bool). x && e) rows)
all_left true false c d e rows third = absurd (false≢true rows)
all_left false b c d e rows third = absurd (false≢true rows)

pub chain_fails : (p : Profile) (index : Index) (rows : Bool) → rows ≡ (heights_pass p index && outputs_pass index && inscriptions_pass p index) → rows ≡ false → sound p index ≡ false
unfolding sound
chain_fails p index rows is fails =
    rows_first (heights_pass p index) (outputs_pass index) (sats_pass p index) (inscriptions_pass p index) (runes_pass p index) (sym is ∙ fails)

pub sats_fail : (p : Profile) (index : Index) (sats : Bool) → sats ≡ sats_pass p index → sats ≡ false → sound p index ≡ false
unfolding sound
sats_fail p index sats is fails =
    fourth_fails (heights_pass p index) (outputs_pass index) (sats_pass p index) (inscriptions_pass p index) (runes_pass p index) (sym is ∙ fails)

pub runes_left : (p : Profile) (index : Index) (rows sats : Bool) → rows ≡ (heights_pass p index && outputs_pass index && inscriptions_pass p index) → rows ≡ true → sats ≡ sats_pass p index → sats ≡ true → runes_pass p index ≡ sound p index
unfolding sound
runes_left p index rows sats is pass are once =
    all_left (heights_pass p index) (outputs_pass index) (sats_pass p index) (inscriptions_pass p index) (runes_pass p index) (sym is ∙ pass) (sym are ∙ once)

-- ---- rows one by one

pub one_more : {X : Type 0} (test : X → Bool) (rows items : List X) (i : ℕ) (row : X) → items ≡ rows → i < length items → row ≡ get_or items i row → list_all test (take i rows) ≡ true → test row ≡ true
    → list_all test (take (i + 1) rows) ≡ true
one_more {X} test rows items i row same h is before here =
    let within : i < length rows = subst (λ (xs : List X). i < length xs) same h in
    let at : test (get_or rows i row) ≡ true = ap test (ap (λ (xs : List X). get_or xs i row) (sym same) ∙ sym is) ∙ here in
    list_all_more test rows i row within ∙ and_from (list_all test (take i rows)) (test (get_or rows i row)) before at

pub one_fails : {X : Type 0} (test : X → Bool) (rows items : List X) (i : ℕ) (row : X) → items ≡ rows → i < length items → row ≡ get_or items i row → test row ≡ false → list_all test rows ≡ false
one_fails {X} test rows items i row same h is fails =
    list_all_at test rows i row (subst (λ (xs : List X). i < length xs) same h) (ap test (ap (λ (xs : List X). get_or xs i row) (sym same) ∙ sym is) ∙ fails)

pub no_more : {X : Type 0} (test : X → Bool) (rows items : List X) (i : ℕ) → items ≡ rows → length items ≤ i → list_all test (take i rows) ≡ true → list_all test rows ≡ true
no_more {X} test rows items i same h all = ap (list_all test) (sym (take_all i rows (subst (λ (xs : List X). length xs ≤ i) same h))) ∙ all

pub inscriptions_are : (p : Profile) (index : Index) (blocks first : ℕ) → blocks ≡ length index.hashes → first ≡ first_at p blocks → list_all (is_revealed blocks first) index.inscriptions ≡ inscriptions_pass p index
unfolding inscriptions_pass
inscriptions_are p index blocks first all begins =
    ap (λ (n : ℕ). list_all (is_revealed blocks n) index.inscriptions) begins ∙ ap (λ (n : ℕ). list_all (is_revealed n (first_at p n)) index.inscriptions) all

pub outputs_are : (index : Index) (blocks : ℕ) (rows : List OutRow) → blocks ≡ length index.hashes → values index.outs ≡ rows → list_all (λ (row : OutRow). nat_lt row.height blocks) rows ≡ outputs_pass index
unfolding outputs_pass
outputs_are index blocks rows all same =
    ap (λ (n : ℕ). list_all (λ (row : OutRow). nat_lt row.height n) rows) all ∙ ap (list_all (λ (row : OutRow). nat_lt row.height (length index.hashes))) (sym same)

pub sats_are : (p : Profile) (index : Index) (blocks first : ℕ) → blocks ≡ length index.hashes → first ≡ first_at p blocks → stand_once first (sats_held index.outs ++ index.lost) ≡ sats_pass p index
unfolding sats_pass
sats_are p index blocks first all begins = ap (λ (n : ℕ). stand_once n (sats_held index.outs ++ index.lost)) (begins ∙ ap (first_at p) all)

pub etched_are : (p : Profile) (index : Index) (blocks : ℕ) (rows : List RuneRow) → blocks ≡ length index.hashes → rows ≡ index.runes → list_all (is_etched p blocks) rows ≡ list_all (is_etched p (length index.hashes)) index.runes
etched_are p index blocks rows all same = ap (λ (n : ℕ). list_all (is_etched p n) rows) all ∙ ap (list_all (is_etched p (length index.hashes))) same

pub bounded_of : (p : Profile) (blocks : ℕ) (runes : List RuneRow) → list_all (is_etched p blocks) runes ≡ true → list_all is_bounded runes ≡ true
bounded_of p blocks [] all = refl
bounded_of p blocks (row ∷ runes) all =
    let parts = and_parts (is_etched p blocks row) (list_all (is_etched p blocks) runes) all in
    and_from (is_bounded row) (list_all is_bounded runes) (and_parts (is_of_chain p blocks row) (is_bounded row) parts.0).1 (bounded_of p blocks runes parts.1)

pub more_pass : {X : Type 0} (test : X → Bool) (rows : List X) (i : ℕ) (d : X) → i < length rows → list_all test (take i rows) ≡ true → test (get_or rows i d) ≡ true → list_all test (take (i + 1) rows) ≡ true
more_pass test rows i d h before here = list_all_more test rows i d h ∙ and_from (list_all test (take i rows)) (test (get_or rows i d)) before here

-- ---- what there is of each rune

pub held_fails : (a b c : Bool) → b ≡ false → false ≡ (a && b && c)
held_fails a b c fails = sym (second_fails a b c fails)

pub amounts_pass : (a b c made : Bool) → a ≡ true → b ≡ true → made ≡ c → made ≡ (a && b && c)
amounts_pass a b c made ids held same = same ∙ sym (third_left a b c ids held)
