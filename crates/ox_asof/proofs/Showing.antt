-- An index that is shown with its runes or without them.
use Rattle.std.proofs.Common.{◌≡◌, ◌∙◌, ℕ, ◌<◌, ◌≤◌, Bool, true, false, List, [], length, codes, refl, sym, ap, arith, Option, Some, None, IsTrue, slice_get, option_and_then, option_map, unwrap_or}
use Rattle.std.specs.FinMap.{get, get-empty}
use Rattle.std.proofs.lemmas.List.Elements.{All-nil}
use Rattle.serde_json.specs.Data.{Data, array, member, no_members, object}
use Rattle.ox_block.specs.declared.block.OutPoint.{OutPoint}
use Rattle.ox_http.specs.declared.Reply.{Reply}
use Rattle.ox_range.specs.Runs.{runs_of}
use Rattle.ox_sat.specs.declared.profiles.Profile.{Profile}
use Rattle.ox_rules.specs.Outputs.{outpoint_cmp}
use Rattle.ox_rules.specs.declared.rows.OutRow.{OutRow}
use Rattle.ox_allocation.specs.Balances.{Balance}
use Rattle.ox_etching.specs.declared.row.RuneRow.{RuneRow}
use Rattle.ox_ledger.specs.Part.{Continues}
use Rattle.ox_ledger.specs.Runes.{balances_at}
use Rattle.ox_ledger.proofs.StartBalanced.{nothing_balanced}
use Rattle.ox_model.specs.Index.{Index}
use Rattle.ox_model.specs.Sound.{IsSound, is_of_chain}
use Rattle.ox_model.specs.declared.change.Change.{Change}
use Rattle.ox_routes.specs.declared.route.Route.{Route}
use Rattle.ox_routes.specs.declared.route.Route.TheVariants.{Audit, BlockHash, Connect, Content, Disconnect, Inscription, Inscriptions, Output, Rune, Runes, Sat, Status}
use Rattle.ox_routes.specs.Table.{route_and_part}
use Rattle.ox_replies.specs.Ask.{error_reply, path_reply, reply_of, tree_reply}
use Rattle.ox_replies.specs.Asked.{Asked}
use Rattle.ox_replies.specs.Inscriptions.{ids_on_all}
use Rattle.ox_replies.specs.Outputs.{output_tree, run_items}
use Rattle.ox_replies.specs.Runes.{balances_tree}
use Rattle.ox_replies.specs.Texts.{outpoint_in}
use Rattle.ox_replies.specs.Values.{count, hex}
use Rattle.ox_asof.specs.Past.{AreRecounted, counted_by, lengths_of}
use Rattle.ox_asof.specs.Reply.{get_of}
use Rattle.ox_asof.specs.Shown.{TellsNoRune, shown}
use Rattle.ox_asof.specs.Undone.{undone_by}
use Rattle.ox_asof.specs.declared.lengths.Lengths.{Lengths}
use Rattle.ox_asof.proofs.Pasts.{rune_kept, rune_same}
use Rattle.ox_asof.proofs.Undoing.{continues_undone, runes_within}

-- ---- without them an index is sound

pub bare_sound : (p : Profile) (index : Index) → IsSound p index → IsSound p (shown false index)
bare_sound p index sound = record {
  heights = record { last = sound.heights.last };
  outputs = record { below = sound.outputs.below };
  sats = record { once = sound.sats.once };
  inscriptions = record { below = sound.inscriptions.below; minted = sound.inscriptions.minted };
  runes = record {
    balanced = nothing_balanced;
    below = All-nil (λ (row : RuneRow). IsTrue (is_of_chain p (length index.hashes) row));
    placed = λ at balances there. none_there at balances there;
  };
}
  where
    none_there : {A : Type 0} (at : OutPoint) (balances : List Balance) → get (shown false index).bal at ≡ Some balances → A
    none_there at balances there = let none : None ≡ Some balances = sym (get-empty outpoint_cmp at) ∙ there in absurd (cc none)

pub bare_lengths : (lengths : Lengths) (index : Index) → lengths ≡ lengths_of index → record lengths { runes = 0 } ≡ lengths_of (shown false index)
bare_lengths lengths index is = ap (λ (l : Lengths). record l { runes = 0 }) is

pub none_recounted : (runes : List RuneRow) (changes : List Change) (rows : ℕ → Option RuneRow) → AreRecounted runes 0 (counted_by changes) rows
none_recounted runes changes rows = λ place row less there. absurd (omega (arith, less))

-- ---- what is shown

pub shown_within : (b : Bool) (index : Index) (changes : List Change) → length (shown b (undone_by index changes)).runes ≤ length index.runes
shown_within true index changes = runes_within index changes
shown_within false index changes = omega arith

pub continues_shown : (b : Bool) (index : Index) (changes : List Change) → Continues (shown b (undone_by index changes)).runes index.runes
continues_shown true index changes = continues_undone index changes
continues_shown false index changes = tt

abbrev shown_runes : Bool → Index → List Change → List RuneRow
shown_runes b index changes = (shown b (undone_by index changes)).runes

pub kept_shown : (b : Bool) (index : Index) (changes : List Change) (end n : ℕ) (rows : ℕ → Option RuneRow) → end ≡ length (shown_runes b index changes) → AreRecounted index.runes end (counted_by changes) rows
    → n < length (shown_runes b index changes) → (kept : RuneRow) → Some kept ≡ rows n → slice_get (shown_runes b index changes) n ≡ Some kept
kept_shown true index changes end n rows long are less = rune_kept index changes end n rows long are less
kept_shown false index changes end n rows long are less = absurd (let none : n < 0 = less in omega (arith, none))

pub same_shown : (b : Bool) (index : Index) (changes : List Change) (end n : ℕ) (rows : ℕ → Option RuneRow) → end ≡ length (shown_runes b index changes) → AreRecounted index.runes end (counted_by changes) rows
    → n < length (shown_runes b index changes) → (row : RuneRow) → None ≡ rows n → slice_get index.runes n ≡ Some row → slice_get (shown_runes b index changes) n ≡ Some row
same_shown true index changes end n rows long are less = rune_same index changes end n rows long are less
same_shown false index changes end n rows long are less = absurd (let none : n < 0 = less in omega (arith, none))

pub balance_hidden : (b : Bool) (index : Index) (at : OutPoint) → b ≡ false → [] ≡ balances_at (shown b index).bal at
balance_hidden true index at hidden = absurd (cc hidden)
balance_hidden false index at hidden = ap (λ (o : Option (List Balance)). unwrap_or o []) (sym (get-empty outpoint_cmp at))

pub balance_told : (b : Bool) (index : Index) (at : OutPoint) → b ≡ true → balances_at index.bal at ≡ balances_at (shown b index).bal at
balance_told true index at told = refl
balance_told false index at told = absurd (cc told)

-- ---- replies that tell of none

no_tree : (runes : List RuneRow) → balances_tree [] [] ≡ balances_tree runes []
no_tree runes = refl

-- the tree of an output with the tree of its runes
abbrev with_runes : Index → OutRow → Data → Data
with_runes index row runes = object (
    member (codes "height") (count row.height) (
    member (codes "inscriptions") (ids_on_all index.inscriptions row.sats) (
    member (codes "ranges") (array (run_items (runs_of row.sats))) (
    member (codes "runes") runes (
    member (codes "script") (hex row.script) (
    member (codes "value") (count (length row.sats)) no_members))))))

same_output : (index : Index) (at : OutPoint) (row : OutRow) → balances_at index.bal at ≡ [] → output_tree (shown false index) at row ≡ output_tree index at row
same_output index at row none =
    ap (λ (runes : Data). with_runes index row runes)
    (ap (balances_tree []) (sym (balance_hidden false index at refl)) ∙ no_tree index.runes ∙ ap (balances_tree index.runes) (sym none))

same_outputs : (index : Index) (named : Option OutPoint) → ((at : OutPoint) → named ≡ Some at → balances_at index.bal at ≡ [])
    → option_and_then (λ at. option_map (output_tree (shown false index) at) (get index.outs at)) named ≡ option_and_then (λ at. option_map (output_tree index at) (get index.outs at)) named
same_outputs index None none = refl
same_outputs index (Some at) none = λ i. option_map (λ (row : OutRow). same_output index at row (none at refl) i) (get index.outs at)

module _ (asked : Asked) (path : List ℕ) (close : Bool) where
  abbrev by_path : Bool → Option (Route × List ℕ) → Reply
  by_path b taken = path_reply (record asked { index = shown b asked.index }) (get_of path close) taken

  bare_reply : (route : Route) (part : List ℕ) → TellsNoRune asked.index route part → by_path false (Some (route, part)) ≡ by_path true (Some (route, part))
  bare_reply Audit part none = absurd none
  bare_reply BlockHash part none = refl
  bare_reply Connect part none = refl
  bare_reply Content part none = refl
  bare_reply Disconnect part none = refl
  bare_reply Inscription part none = refl
  bare_reply Inscriptions part none = refl
  bare_reply Output part none =
      ap (λ (tree : Option Data). unwrap_or (option_map (λ (tree : Data). tree_reply 200 tree close) tree) (error_reply 404 close))
      (same_outputs asked.index (outpoint_in part) none)
  bare_reply Rune part none = absurd none
  bare_reply Runes part none = absurd none
  bare_reply Sat part none = refl
  bare_reply Status part none = refl

  pub shown_reply : (b : Bool) (route : Route) (part : List ℕ) → route_and_part path ≡ Some (route, part) → (b ≡ false → TellsNoRune asked.index route part)
      → reply_of (record asked { index = shown b asked.index }) (get_of path close) ≡ reply_of asked (get_of path close)
  unfolding reply_of
  shown_reply true route part taken none = refl
  shown_reply false route part taken none =
      ap (by_path false) taken ∙ bare_reply route part (none refl) ∙ sym (ap (by_path true) taken)
