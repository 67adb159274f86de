-- The keys of each object in the tree of a reply rise.
use Rattle.std.proofs.Common.{◌≡◌, ℕ, ◌/◌, ◌%◌, ℤ, pos, negsuc, Bool, true, false, cond, List, [], ◌∷◌, length, map, Option, Some, None, IfSome, option_map, option_and_then, slice_get, refl, subst, codes, ◌==◌}
use Rattle.std.specs.FinMap as maps
use Rattle.std.specs.List.{cons_option, filter_map, flat_map}
use Rattle.std.specs.Str.{is_utf8}
use Rattle.hex.specs.Hex.{encode_lower}
use Rattle.serde_json.specs.Data.{Data, Members, null, boolean, string, array, object, member, no_members}
use Rattle.serde_json.specs.View.{items_of}
use Rattle.ox_block.specs.declared.block.OutPoint.{OutPoint}
use Rattle.ox_sat.specs.Profiles.{name_at, profile_word}
use Rattle.ox_sat.specs.Spellings.{sat_in}
use Rattle.ox_sat.specs.declared.profiles.Profile.{Profile}
use Rattle.ox_range.specs.declared.runs.Run.{Run}
use Rattle.ox_range.specs.Runs.{runs_of}
use Rattle.ox_envelope.specs.declared.id.InsId.{InsId}
use Rattle.ox_runestone.specs.declared.stone.Terms.{Terms}
use Rattle.ox_rules.specs.Text.{hash_text}
use Rattle.ox_rules.specs.declared.place.Place.{Place}
use Rattle.ox_rules.specs.declared.place.Place.TheVariants.{Out, Lost}
use Rattle.ox_rules.specs.declared.rows.OutRow.{OutRow}
use Rattle.ox_inscribe.specs.Inscriptions.{children, on}
use Rattle.ox_inscribe.specs.Signed.{is_cursed, is_vindicated, number_of}
use Rattle.ox_inscribe.specs.declared.row.InsRow.{InsRow}
use Rattle.ox_allocation.specs.Balances.{Balance}
use Rattle.ox_etching.specs.declared.row.RuneRow.{RuneRow}
use Rattle.ox_ledger.specs.Runes.{balances_at}
use Rattle.ox_model.specs.Audit.{audit_of}
use Rattle.ox_model.specs.Found.{by_id}
use Rattle.ox_model.specs.Index.{Index}
use Rattle.ox_model.specs.Where.{where_is}
use Rattle.ox_model.specs.declared.audit.Audit.{Audit as IndexAudit}
use Rattle.ox_routes.specs.declared.route.Route.{Route}
use Rattle.ox_routes.specs.declared.route.Route.TheVariants.{Audit, BlockHash, Connect, Content, Disconnect, Inscription, Inscriptions, Output, Rune, Runes, Sat, Status}
use Rattle.ox_replies.specs.Ask.{inscription_at, rune_at, tree_at}
use Rattle.ox_replies.specs.Audits.{audit_tree, rune_audit_tree}
use Rattle.ox_replies.specs.Inscriptions.{id_tree, ids_tree, inscription_id, inscription_tree, mark_if, marks_tree}
use Rattle.ox_replies.specs.Keys.{is_before, keys_rise, members_rise}
use Rattle.ox_replies.specs.Named.{inscription_named, rune_named}
use Rattle.ox_replies.specs.Pages.{entries_of, page_tree}
use Rattle.ox_replies.specs.Runes.{balance_among, balance_tree, balances_tree, character, rune_id, rune_tree, span_tree}
use Rattle.ox_replies.specs.Texts.{number_in, outpoint_in}
use Rattle.ox_replies.specs.Asked.{Asked}
use Rattle.ox_replies.specs.Blocks.{block_tree}
use Rattle.ox_replies.specs.Errors.{error_tree}
use Rattle.ox_replies.specs.Outputs.{output_tree, run_items}
use Rattle.ox_replies.specs.Sats.{sat_tree}
use Rattle.ox_replies.specs.Status.{status_tree, tip}
use Rattle.ox_replies.specs.Values.{amount, count, hash_or_null, hex, integer, or_null, place_tree, text_or_null}

pub record Rises (tree : Data) : Type 0 where
  pub rises : keys_rise tree ≡ true

pub record AllRise (members : Members) : Type 0 where
  pub rises : members_rise members ≡ true

pub none : AllRise no_members
none = record { rises = refl }

pub both : {key : List ℕ} {tree : Data} {members : Members} → is_before key members ≡ true → Rises tree
    → AllRise members → AllRise (member key tree members)
both before h hs = record { rises = rw (before, h.rises, hs.rises) refl }

pub all_of : {members : Members} → AllRise members → Rises (object members)
all_of hs = record { rises = hs.rises }

pub a_string : (bytes : List ℕ) → Rises (string bytes)
a_string bytes = record { rises = refl }

pub a_count : (n : ℕ) → Rises (count n)
a_count n = record { rises = refl }

an_amount : (n : ℕ) → Rises (amount n)
an_amount n = record { rises = refl }

a_boolean : (b : Bool) → Rises (boolean b)
a_boolean b = record { rises = refl }

maybe_null : {A : Type 0} (tree : A → Data) (value : Option A) → ((x : A) → Rises (tree x)) → Rises (or_null tree value)
maybe_null tree None h = record { rises = refl }
maybe_null tree (Some x) h = h x

a_text : (bytes : List ℕ) → Rises (text_or_null bytes)
a_text bytes = by (is_utf8 bytes)
  where
    by : (b : Bool) → Rises (cond b (string bytes) null)
    by true = record { rises = refl }
    by false = record { rises = refl }

a_hash : (hash : Option (List ℕ)) → Rises (hash_or_null hash)
a_hash hash = maybe_null (λ h. string (hash_text h)) hash (λ h. a_string (hash_text h))

a_place : (place : Option Place) → Rises (place_tree place)
a_place None = record { rises = refl }
a_place (Some (Out at offset)) = record { rises = refl }
a_place (Some (Lost offset)) = record { rises = refl }

pub all_items : {A : Type 0} (tree : A → Data) (xs : List A) → ((x : A) → Rises (tree x)) → Rises (array (items_of (map tree xs)))
all_items tree [] h = record { rises = refl }
all_items tree (x ∷ xs) h = record { rises = rw ((h x).rises, (all_items tree xs h).rises) refl }

with_option : (tree : Option Data) (trees : List Data) → IfSome tree Rises → Rises (array (items_of trees)) → Rises (array (items_of (cons_option tree trees)))
with_option None trees h hs = hs
with_option (Some tree) trees h hs = record { rises = rw (h.rises, hs.rises) refl }

some_items : {A : Type 0} (tree : A → Option Data) (xs : List A) → ((x : A) → IfSome (tree x) Rises) → Rises (array (items_of (filter_map tree xs)))
some_items tree [] h = record { rises = refl }
some_items tree (x ∷ xs) h = with_option (tree x) (filter_map tree xs) (h x) (some_items tree xs h)

all_runs : (runs : List Run) → Rises (array (run_items runs))
all_runs [] = record { rises = refl }
all_runs (run ∷ runs) = record { rises = (all_runs runs).rises }

mapped : {X : Type 0} (f : X → Data) (o : Option X) → ((x : X) → Rises (f x)) → IfSome (option_map f o) Rises
mapped f None h = tt
mapped f (Some x) h = h x

chosen : {X : Type 0} (f : X → Option Data) (o : Option X) → ((x : X) → IfSome (f x) Rises) → IfSome (option_and_then f o) Rises
chosen f None h = tt
chosen f (Some x) h = h x

-- ---- trees

an_id : (id : InsId) → Rises (id_tree id)
an_id id = record { rises = refl }

pub ids : (rows : List InsRow) (numbers : List ℕ) → Rises (ids_tree rows numbers)
ids rows numbers = all_items inscription_id (filter_map (slice_get rows) numbers) (λ row. record { rises = refl })

a_mark : (marks worth : ℕ) (text : List ℕ) (texts : List Data) → Rises (array (items_of texts)) → Rises (array (items_of (mark_if marks worth text texts)))
a_mark marks worth text texts h = by (marks / worth % 2 == 1)
  where
    by : (set : Bool) → Rises (array (items_of (cond set (string text ∷ texts) texts)))
    by true = record { rises = h.rises }
    by false = h

all_marks : (marks : ℕ) → Rises (marks_tree marks)
all_marks marks =
    a_mark marks 1 (codes "even") _ (
    a_mark marks 2 (codes "repeated") _ (
    a_mark marks 4 (codes "incomplete") _ (
    a_mark marks 8 (codes "input") _ (
    a_mark marks 16 (codes "offset") _ (
    a_mark marks 32 (codes "pointer") _ (
    a_mark marks 64 (codes "pushnum") _ (
    a_mark marks 128 (codes "reinscription") [] (record { rises = refl }))))))))

an_integer : (z : ℤ) → Rises (integer z)
an_integer (pos n) = record { rises = refl }
an_integer (negsuc n) = record { rises = refl }

an_inscription : (jubilee : ℕ) (index : Index) (n : ℕ) (row : InsRow) → Rises (inscription_tree jubilee index n row)
an_inscription jubilee index n row = all_of (
    both refl (ids index.inscriptions (children index.inscriptions n)) (
    both refl (maybe_null (λ body. count (length body)) row.body (λ body. a_count (length body))) (
    both refl (maybe_null text_or_null row.content_type a_text) (
    both refl (a_boolean (is_cursed jubilee row)) (
    both refl (maybe_null id_tree row.delegate an_id) (
    both refl (maybe_null text_or_null row.encoding a_text) (
    both refl (a_count row.height) (
    both refl (an_id row.id) (
    both refl (all_marks row.marks) (
    both refl (maybe_null hex row.metadata (λ bytes. a_string (encode_lower bytes))) (
    both refl (maybe_null text_or_null row.metaprotocol a_text) (
    both refl (an_integer (number_of jubilee index.inscriptions n row)) (
    both refl (all_items id_tree row.parents an_id) (
    both refl (a_place (option_and_then (where_is index) row.sat)) (
    both refl (maybe_null count row.sat a_count) (
    both refl (a_count n) (
    both refl (a_boolean (is_vindicated jubilee row)) none)))))))))))))))))

a_span : (start end : Option ℕ) → Rises (span_tree start end)
a_span start end = record { rises = rw ((maybe_null count start a_count).rises, (maybe_null count end a_count).rises) refl }

a_rune : (index : Index) (n : ℕ) (row : RuneRow) → Rises (rune_tree index n row)
a_rune index n row = all_of (
    both refl (maybe_null amount (option_and_then (λ (t : Terms). t.amount) row.terms) an_amount) (
    both refl (an_amount row.burned) (
    both refl (maybe_null amount (option_and_then (λ (t : Terms). t.cap) row.terms) an_amount) (
    both refl (a_count row.divisibility) (
    both refl (a_string (hash_text row.etching.0)) (
    both refl (maybe_null (λ (t : Terms). span_tree t.height_start t.height_end) row.terms (λ t. a_span t.height_start t.height_end)) (
    both refl (record { rises = refl }) (
    both refl (record { rises = refl }) (
    both refl (record { rises = refl }) (
    both refl (an_amount row.mints) (
    both refl (record { rises = refl }) (
    both refl (a_count n) (
    both refl (maybe_null (λ (t : Terms). span_tree t.offset_start t.offset_end) row.terms (λ t. a_span t.offset_start t.offset_end)) (
    both refl (an_amount row.premine) (
    both refl (maybe_null character row.symbol (λ c. record { rises = refl })) none)))))))))))))))

pub balances : (runes : List RuneRow) (all : List Balance) → Rises (balances_tree runes all)
balances runes all = some_items (balance_among runes) all
    (λ (one : Balance). mapped (balance_tree one.1) (option_and_then (slice_get runes) (by_id runes one.0)) (λ row. record { rises = refl }))

an_output : (index : Index) (at : OutPoint) (row : OutRow) → Rises (output_tree index at row)
an_output index at row = all_of (
    both refl (a_count row.height) (
    both refl (ids index.inscriptions (flat_map (on index.inscriptions) row.sats)) (
    both refl (all_runs (runs_of row.sats)) (
    both refl (balances index.runes (balances_at index.bal at)) (
    both refl (a_string (encode_lower row.script)) (
    both refl (a_count (length row.sats)) none))))))

a_satoshi : (p : Profile) (index : Index) (sat : ℕ) → Rises (sat_tree p index sat)
a_satoshi p index sat = all_of (
    both refl (record { rises = refl }) (
    both refl (record { rises = refl }) (
    both refl (ids index.inscriptions (on index.inscriptions sat)) (
    both refl (record { rises = refl }) (
    both refl (a_count sat) (
    both refl (a_place (where_is index sat)) (
    both refl (record { rises = refl }) none)))))))

an_audit : (audit : IndexAudit) → Rises (audit_tree audit)
an_audit audit = all_of (
    both refl (a_count audit.claimable) (
    both refl (a_count audit.lost) (
    both refl (a_count audit.outputs) (
    both refl (all_items rune_audit_tree audit.runes (λ rune. record { rises = refl })) none))))

a_page : {A : Type 0} (id : A → Data) (rows : List A) (page : ℕ) → ((row : A) → Rises (id row)) → Rises (page_tree id rows page)
a_page id rows page h = all_of (both refl (all_items id (entries_of page rows) h) (both refl (record { rises = refl }) (both refl (a_count page) none)))

a_status : (asked : Asked) → Rises (status_tree asked)
a_status asked = all_of (
    both refl (a_count (length asked.index.hashes)) (
    both refl (a_count asked.depth) (
    both refl (a_count asked.kept) (
    both refl (a_string (profile_word (name_at asked.profile.byte))) (
    both refl (a_hash (tip asked.index.hashes)) none)))))

pub trees_rise : (asked : Asked) (route : Route) (part : List ℕ) → IfSome (tree_at asked route part) Rises
trees_rise asked Status part = a_status asked
trees_rise asked Audit part = an_audit (audit_of asked.profile asked.index)
trees_rise asked BlockHash part =
    chosen (λ height. option_map (block_tree height) (slice_get asked.index.hashes height)) (number_in part)
    (λ height. mapped (block_tree height) (slice_get asked.index.hashes height) (λ hash. record { rises = refl }))
trees_rise asked Inscription part =
    chosen (inscription_at asked.profile.jubilee asked.index) (inscription_named asked.index.inscriptions part)
    (λ n. mapped (inscription_tree asked.profile.jubilee asked.index n) (slice_get asked.index.inscriptions n) (an_inscription asked.profile.jubilee asked.index n))
trees_rise asked Inscriptions part =
    mapped (page_tree inscription_id asked.index.inscriptions) (number_in part) (λ page. a_page inscription_id asked.index.inscriptions page (λ row. record { rises = refl }))
trees_rise asked Output part =
    chosen (λ at. option_map (output_tree asked.index at) (maps.get asked.index.outs at)) (outpoint_in part)
    (λ at. mapped (output_tree asked.index at) (maps.get asked.index.outs at) (an_output asked.index at))
trees_rise asked Rune part =
    chosen (rune_at asked.index) (rune_named asked.index.runes part) (λ n. mapped (rune_tree asked.index n) (slice_get asked.index.runes n) (a_rune asked.index n))
trees_rise asked Runes part =
    mapped (page_tree rune_id asked.index.runes) (number_in part) (λ page. a_page rune_id asked.index.runes page (λ row. record { rises = refl }))
trees_rise asked Sat part = mapped (sat_tree asked.profile asked.index) (sat_in asked.profile part) (a_satoshi asked.profile asked.index)
trees_rise asked Connect part = tt
trees_rise asked Content part = tt
trees_rise asked Disconnect part = tt

rises_in : (o : Option Data) (tree : Data) → IfSome o Rises → o ≡ Some tree → Rises tree
rises_in o tree h e = subst (λ (x : Option Data). IfSome x Rises) e h

pub tree_rises : (asked : Asked) (route : Route) (part : List ℕ) (tree : Data) → tree_at asked route part ≡ Some tree → keys_rise tree ≡ true
tree_rises asked route part tree e = (rises_in (tree_at asked route part) tree (trees_rise asked route part) e).rises

pub error_rises : (status : ℕ) → keys_rise (error_tree status) ≡ true
error_rises status = refl
