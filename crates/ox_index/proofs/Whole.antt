-- An index whose lists have nothing behind what counts, and the one that it was marked at.
use Rattle.std.proofs.Common.{◌≡◌, ◌∙◌, ◌≤◌, ◌+◌, ◌-◌, ◌^◌, ℕ, List, [], ◌∷◌, ◌++◌, length, take, refl, sym, ap, subst, arith, lit≤, length-append, Some, Option}
use Rattle.std.specs.Prelude.{IsSome}
use Rattle.std.specs.Option.{option_map}
use Rattle.ox_block.specs.declared.block.Block.{Block}
use Rattle.ox_sat.specs.Profiles.{IsProfile, profile_named}
use Rattle.ox_sat.specs.declared.profiles.Profile.{Profile}
use Rattle.ox_sat.specs.declared.profiles.ProfileName.{ProfileName}
use Rattle.ox_sat.specs.declared.profiles.ProfileName.TheVariants.{Mainnet, Regtest, Lab}
use Rattle.ox_inscribe.specs.declared.row.InsRow.{InsRow}
use Rattle.ox_ledger.specs.Moves.{Begins, Ends, Leads}
use Rattle.ox_model.specs.Change.{IsChange, redone, undone}
use Rattle.ox_model.specs.Ends.{BeginsIn, EndsIn}
use Rattle.ox_model.specs.Index.{Index, runes_of}
use Rattle.ox_model.specs.Sound.{IsSound}
use Rattle.ox_model.specs.Step.{grown_index}
use Rattle.ox_model.specs.declared.change.Change.{Change}
use Rattle.ox_index.specs.Lengths.{AreWithin, IsMark, index_of_parts, index_to}
use Rattle.ox_index.specs.Held.{Held, IsBack, IsOn, IsTaken}
use Rattle.ox_index.specs.declared.lengths.Lengths.{Lengths}
use Rattle.ox_index.proofs.Counting.{grown_to, kept_to, shrunk_to, whole_list, within_more}

-- what the parts of an index hold
abbrev pub held_of : Index → Held
held_of index = record { outs = index.outs; inscriptions = index.inscriptions; runes = runes_of index }

pub record Whole (index : Index) (items : List (List ℕ)) (held : Held) (sats : List ℕ) (lengths : Lengths) : Type 0 where
  pub index_is : index_to items held sats lengths ≡ index
  pub undue : held.runes.due ≡ []
  pub many : length items ≡ lengths.blocks
  pub few : length sats ≡ lengths.lost

module _ (index : Index) (items : List (List ℕ)) (held : Held) (sats : List ℕ) (lengths : Lengths) (whole : Whole index items held sats lengths) where
  pub hashes_are : items ≡ index.hashes
  hashes_are = sym (whole_list items lengths.blocks whole.many) ∙ ap (λ (i : Index). i.hashes) whole.index_is

  pub lost_are : sats ≡ index.lost
  lost_are = sym (whole_list sats lengths.lost whole.few) ∙ ap (λ (i : Index). i.lost) whole.index_is

  pub held_are : held ≡ held_of index
  held_are = λ i. record {
    outs = (whole.index_is i).outs;
    inscriptions = (whole.index_is i).inscriptions;
    runes = record { bal = (whole.index_is i).bal; runes = (whole.index_is i).runes; due = whole.undue i };
  }

  pub blocks_are : lengths.blocks ≡ length index.hashes
  blocks_are = sym whole.many ∙ ap (λ (l : List (List ℕ)). length l) hashes_are

  pub sats_are : lengths.lost ≡ length index.lost
  sats_are = sym whole.few ∙ ap (λ (l : List ℕ). length l) lost_are

  pub all_within : AreWithin items sats lengths
  all_within = record { hashes_there = omega (arith, whole.many); lost_there = omega (arith, whole.few) }

  -- with one block more
  pub with_block : (hash new : List ℕ) (next : Held)
      → index_to (items ++ hash ∷ []) next (sats ++ new) (record { blocks = lengths.blocks + 1; lost = lengths.lost + length new })
      ≡ index_of_parts (index.hashes ++ hash ∷ []) next (index.lost ++ new)
  with_block hash new next =
      grown_to items sats lengths hash new next whole.many whole.few
      ∙ ap (λ (i : Index). index_of_parts (i.hashes ++ hash ∷ []) next (i.lost ++ new)) whole.index_is

  pub mark_stays : (more : List (List ℕ)) (new : List ℕ) → index_to (items ++ more) held (sats ++ new) lengths ≡ index
  mark_stays more new = kept_to items more sats new lengths held all_within ∙ whole.index_is

  -- with one block less
  pub without_block : (new : List ℕ) (next : Held)
      → index_to items next sats (record { blocks = lengths.blocks - 1; lost = lengths.lost - length new })
      ≡ index_of_parts (take (length index.hashes - 1) index.hashes) next (take (length index.lost - length new) index.lost)
  without_block new next =
      shrunk_to items sats new lengths next all_within
      ∙ ap (λ (i : Index). index_of_parts (take (length i.hashes - 1) i.hashes) next (take (length i.lost - length new) i.lost)) whole.index_is

-- ---- the mark

pub some_same : {X : Type 0} (x y : X) → Some x ≡ Some y → x ≡ y
some_same x y is = cc

module _ (index : Index) (items : List (List ℕ)) (held : Held) (sats : List ℕ) (lengths : Lengths) (marked : Option Held) (there : marked ≡ Some held) (is : index_to items held sats lengths ≡ index) where
  pub mark_right : (p : Profile) → AreWithin items sats lengths → IsSound p index → IsMark p items marked sats lengths
  mark_right p within sound = record {
    within = within;
    there = subst (λ (m : Option Held). IsSome m) (sym there) refl;
    sound = λ o this.
        let same : held ≡ o = some_same held o (sym there ∙ this) in
        subst (λ (q : Held). IsSound p (index_to items q sats lengths)) same (subst (IsSound p) (sym is) sound);
  }

  pub mark_shown : option_map (λ o. index_to items o sats lengths) marked ≡ Some index
  mark_shown = ap (option_map (λ o. index_to items o sats lengths)) there ∙ ap Some is

-- ---- a block

-- few blocks can be counted
named_low : (name : ProfileName) → (profile_named name).last ≤ 2 ^ 62
named_low Mainnet = lit≤ tt
named_low Regtest = lit≤ tt
named_low Lab = lit≤ tt

pub blocks_few : (p : Profile) (n : ℕ) → IsProfile p → n ≤ p.last + 1 → n ≤ 2 ^ 63
blocks_few p n known le =
    let low : p.last ≤ 2 ^ 62 = subst (λ (q : Profile). q.last ≤ 2 ^ 62) (sym known.is) (named_low known.name) in
    omega (arith, le, low)

-- what a block that is taken in leaves
pub taken_of : (p : Profile) (index : Index) (block : Block) (height : ℕ) (held next : Held) (change : Change) → height ≡ length index.hashes → held ≡ held_of index
    → IsTaken p height block held next change → IsTaken p (length index.hashes) block (held_of index) next change
taken_of p index block height held next change at are taken =
    subst (λ (h : Held). IsTaken p (length index.hashes) block h next change) are (subst (λ (n : ℕ). IsTaken p n block held next change) at taken)

module _ (p : Profile) (index : Index) (block : Block) (next : Held) (change : Change) (taken : IsTaken p (length index.hashes) block (held_of index) next change) where
  abbrev pub next_index : Index
  next_index = index_of_parts (index.hashes ++ change.hash ∷ []) next (index.lost ++ change.lost)

  pub is_grown : next_index ≡ grown_index p index block taken.moved
  is_grown = λ i. index_of_parts (index.hashes ++ taken.hash i ∷ []) (taken.holds i) (index.lost ++ taken.lost i)

  pub change_right : IsChange index next_index change
  change_right = record {
    hash = refl;
    gone = taken.tells.outputs.gone;
    came = taken.tells.outputs.came;
    lost = refl;
    inscriptions = taken.tells.inscriptions;
    continues = taken.tells.continues;
    runes = record { balances = taken.tells.runes.balances; counts = taken.tells.runes.counts; appended = taken.tells.runes.appended };
  }

-- the lists of an index that has one block more
pub more_to : (index : Index) (items : List (List ℕ)) (held : Held) (sats : List ℕ) (lengths : Lengths) → Whole index items held sats lengths
    → (next : Held) (hash new : List ℕ) (items' : List (List ℕ)) (sats' : List ℕ) (lengths' : Lengths)
    → items' ≡ items ++ hash ∷ [] → sats' ≡ sats ++ new → lengths' ≡ record { blocks = lengths.blocks + 1; lost = lengths.lost + length new }
    → index_to items' next sats' lengths' ≡ index_of_parts (index.hashes ++ hash ∷ []) next (index.lost ++ new)
more_to index items held sats lengths whole next hash new items' sats' lengths' items_are sats_are lengths_are =
    let parts : index_to items' next sats' lengths' ≡ index_to (items ++ hash ∷ []) next (sats ++ new) (record { blocks = lengths.blocks + 1; lost = lengths.lost + length new }) =
    λ i. index_to (items_are i) next (sats_are i) (lengths_are i) in
    parts ∙ with_block index items held sats lengths whole hash new next

-- and what is marked in them
pub marked_to : (index : Index) (items : List (List ℕ)) (held : Held) (sats : List ℕ) (lengths : Lengths) → Whole index items held sats lengths
    → (more : List (List ℕ)) (new : List ℕ) (items' : List (List ℕ)) (sats' : List ℕ) → items' ≡ items ++ more → sats' ≡ sats ++ new
    → index_to items' held sats' lengths ≡ index
marked_to index items held sats lengths whole more new items' sats' items_are sats_are =
    let parts : index_to items' held sats' lengths ≡ index_to (items ++ more) held (sats ++ new) lengths = λ i. index_to (items_are i) held (sats_are i) lengths in
    parts ∙ mark_stays index items held sats lengths whole more new

pub within_to : (index : Index) (items : List (List ℕ)) (held : Held) (sats : List ℕ) (lengths : Lengths) → Whole index items held sats lengths
    → (more : List (List ℕ)) (new : List ℕ) (items' : List (List ℕ)) (sats' : List ℕ) → items' ≡ items ++ more → sats' ≡ sats ++ new
    → AreWithin items' sats' lengths
within_to index items held sats lengths whole more new items' sats' items_are sats_are =
    rw (items_are, sats_are) (within_more items more sats new lengths (all_within index items held sats lengths whole))

-- so much of them counts
pub within_grown : (index : Index) (items : List (List ℕ)) (held : Held) (sats : List ℕ) (lengths : Lengths) → Whole index items held sats lengths
    → (hash new : List ℕ) (items' : List (List ℕ)) (sats' : List ℕ) (lengths' : Lengths)
    → items' ≡ items ++ hash ∷ [] → sats' ≡ sats ++ new → lengths' ≡ record { blocks = lengths.blocks + 1; lost = lengths.lost + length new }
    → AreWithin items' sats' lengths'
within_grown index items held sats lengths whole hash new items' sats' lengths' items_are sats_are lengths_are =
    rw (items_are, sats_are, lengths_are) (record {
      hashes_there = omega (arith, whole.many, length-append items (hash ∷ []));
      lost_there = omega (arith, whole.few, length-append sats new);
    })

-- ---- back and on

-- a change ends in what an index holds of runes
led_back : (p : Profile) (index : Index) (change : Change) → EndsIn p index change → Leads (runes_of (undone index change)) (runes_of index) change.runes
led_back p index change ends = record { continues = ends.leads.continues; undue_before = refl; undue_after = refl; is = ends.leads.runes }

pub runes_end : (p : Profile) (index : Index) (change : Change) → EndsIn p index change → Ends change.runes (runes_of index)
runes_end p index change ends = record {
  before = runes_of (undone index change);
  leads = led_back p index change ends;
  balanced = ends.sound.runes.balanced;
}

led_on : (p : Profile) (index : Index) (change : Change) → BeginsIn p index change → Leads (runes_of index) (runes_of (redone index change)) change.runes
led_on p index change begins = record { continues = begins.leads.continues; undue_before = refl; undue_after = refl; is = begins.leads.runes }

pub runes_begin : (p : Profile) (index : Index) (change : Change) → BeginsIn p index change → Begins change.runes (runes_of index)
runes_begin p index change begins = record {
  after = runes_of (redone index change);
  leads = led_on p index change begins;
  balanced = begins.sound.runes.balanced;
}

pub few_inscriptions : (p : Profile) (index : Index) (change : Change) → EndsIn p index change → length change.inscriptions ≤ length index.inscriptions
few_inscriptions p index change ends =
    omega (arith, ap (λ (l : List InsRow). length l) ends.leads.inscriptions, length-append (undone index change).inscriptions change.inscriptions)

pub back_is : (index : Index) (change : Change) (next : Held) → IsBack (held_of index) next change
    → index_of_parts (take (length index.hashes - 1) index.hashes) next (take (length index.lost - length change.lost) index.lost) ≡ undone index change
back_is index change next back = λ i. record {
  hashes = take (length index.hashes - 1) index.hashes;
  outs = back.outputs i;
  lost = take (length index.lost - length change.lost) index.lost;
  inscriptions = back.inscriptions i;
  bal = (back.runes i).bal;
  runes = (back.runes i).runes;
}

pub on_is : (index : Index) (change : Change) (next : Held) → IsOn (held_of index) next change
    → index_of_parts (index.hashes ++ change.hash ∷ []) next (index.lost ++ change.lost) ≡ redone index change
on_is index change next on = λ i. record {
  hashes = index.hashes ++ change.hash ∷ [];
  outs = on.outputs i;
  lost = index.lost ++ change.lost;
  inscriptions = on.inscriptions i;
  bal = (on.runes i).bal;
  runes = (on.runes i).runes;
}
