-- No tree of a reply has a float, so that its text is the compact one.
use Rattle.std.proofs.Common.{◌≡◌, ℕ, ◌/◌, ◌%◌, ℤ, pos, negsuc, Bool, true, false, cond, ◌||◌, List, [], ◌∷◌, length, map, Option, Some, None, IfSome, option_map, option_and_then, slice_get, refl, ap, ap₂, subst, codes, ◌==◌}
use Rattle.std.specs.FinMap as maps
use Rattle.std.specs.List.{cons_option, filter_map, flat_map}
use Rattle.std.specs.Str.{is_utf8}
use Rattle.hex.specs.Hex.{encode_lower}
use Rattle.serde_json.specs.Data.{Data, Members, null, boolean, string, array, object, member, no_members}
use Rattle.serde_json.specs.View.{items_of}
use Rattle.serde_json.specs.Written.{has_float, members_have_float}
use Rattle.ox_block.specs.declared.block.OutPoint.{OutPoint}
use Rattle.ox_sat.specs.Spellings.{sat_in}
use Rattle.ox_sat.specs.declared.profiles.Profile.{Profile}
use Rattle.ox_range.specs.declared.runs.Run.{Run}
use Rattle.ox_range.specs.Runs.{runs_of}
use Rattle.ox_envelope.specs.declared.id.InsId.{InsId}
use Rattle.ox_runestone.specs.declared.stone.Terms.{Terms}
use Rattle.ox_rules.specs.Text.{hash_text}
use Rattle.ox_rules.specs.declared.place.Place.{Place}
use Rattle.ox_rules.specs.declared.place.Place.TheVariants.{Out, Lost}
use Rattle.ox_rules.specs.declared.rows.OutRow.{OutRow}
use Rattle.ox_inscribe.specs.Inscriptions.{children, on}
use Rattle.ox_inscribe.specs.Signed.{is_cursed, is_vindicated, number_of}
use Rattle.ox_inscribe.specs.declared.row.InsRow.{InsRow}
use Rattle.ox_allocation.specs.Balances.{Balance}
use Rattle.ox_etching.specs.declared.row.RuneRow.{RuneRow}
use Rattle.ox_ledger.specs.Runes.{balances_at}
use Rattle.ox_model.specs.Audit.{audit_of}
use Rattle.ox_model.specs.Found.{by_id}
use Rattle.ox_model.specs.Index.{Index}
use Rattle.ox_model.specs.Where.{where_is}
use Rattle.ox_model.specs.declared.audit.Audit.{Audit as IndexAudit}
use Rattle.ox_routes.specs.declared.route.Route.{Route}
use Rattle.ox_routes.specs.declared.route.Route.TheVariants.{Audit, BlockHash, Connect, Content, Disconnect, Inscription, Inscriptions, Output, Rune, Runes, Sat, Status}
use Rattle.ox_replies.specs.Ask.{inscription_at, rune_at, tree_at}
use Rattle.ox_replies.specs.Audits.{audit_tree, rune_audit_tree}
use Rattle.ox_replies.specs.Inscriptions.{id_tree, ids_tree, inscription_id, inscription_tree, mark_if, marks_tree}
use Rattle.ox_replies.specs.Named.{inscription_named, rune_named}
use Rattle.ox_replies.specs.Pages.{entries_of, page_tree}
use Rattle.ox_replies.specs.Runes.{balance_among, balance_tree, balances_tree, character, rune_id, rune_tree, span_tree}
use Rattle.ox_replies.specs.Texts.{number_in, outpoint_in}
use Rattle.ox_replies.specs.Asked.{Asked}
use Rattle.ox_replies.specs.Blocks.{block_tree}
use Rattle.ox_replies.specs.Outputs.{output_tree, run_items}
use Rattle.ox_replies.specs.Sats.{sat_tree}
use Rattle.ox_replies.specs.Status.{status_tree, tip}
use Rattle.ox_replies.specs.Values.{amount, count, hash_or_null, hex, integer, or_null, place_tree, text_or_null}

pub record IsPlain (tree : Data) : Type 0 where
  pub plain : has_float tree ≡ false

pub record ArePlain (members : Members) : Type 0 where
  pub plain : members_have_float members ≡ false

pub none : ArePlain no_members
none = record { plain = refl }

pub both : {key : List ℕ} {tree : Data} {members : Members} → IsPlain tree → ArePlain members → ArePlain (member key tree members)
both h hs = record { plain = ap₂ (λ a b. a || b) h.plain hs.plain }

pub all_of : {members : Members} → ArePlain members → IsPlain (object members)
all_of hs = record { plain = hs.plain }

pub a_string : (bytes : List ℕ) → IsPlain (string bytes)
a_string bytes = record { plain = refl }

pub a_count : (n : ℕ) → IsPlain (count n)
a_count n = record { plain = refl }

an_amount : (n : ℕ) → IsPlain (amount n)
an_amount n = record { plain = refl }

a_boolean : (b : Bool) → IsPlain (boolean b)
a_boolean b = record { plain = refl }

maybe_null : {A : Type 0} (tree : A → Data) (value : Option A) → ((x : A) → IsPlain (tree x)) → IsPlain (or_null tree value)
maybe_null tree None h = record { plain = refl }
maybe_null tree (Some x) h = h x

a_text : (bytes : List ℕ) → IsPlain (text_or_null bytes)
a_text bytes = by (is_utf8 bytes)
  where
    by : (b : Bool) → IsPlain (cond b (string bytes) null)
    by true = record { plain = refl }
    by false = record { plain = refl }

a_hash : (hash : Option (List ℕ)) → IsPlain (hash_or_null hash)
a_hash hash = maybe_null (λ h. string (hash_text h)) hash (λ h. a_string (hash_text h))

a_place : (place : Option Place) → IsPlain (place_tree place)
a_place None = record { plain = refl }
a_place (Some (Out at offset)) = record { plain = refl }
a_place (Some (Lost offset)) = record { plain = refl }

pub all_items : {A : Type 0} (tree : A → Data) (xs : List A) → ((x : A) → IsPlain (tree x)) → IsPlain (array (items_of (map tree xs)))
all_items tree [] h = record { plain = refl }
all_items tree (x ∷ xs) h = record { plain = ap₂ (λ a b. a || b) (h x).plain (all_items tree xs h).plain }

with_option : (tree : Option Data) (trees : List Data) → IfSome tree IsPlain → IsPlain (array (items_of trees)) → IsPlain (array (items_of (cons_option tree trees)))
with_option None trees h hs = hs
with_option (Some tree) trees h hs = record { plain = ap₂ (λ a b. a || b) h.plain hs.plain }

some_items : {A : Type 0} (tree : A → Option Data) (xs : List A) → ((x : A) → IfSome (tree x) IsPlain) → IsPlain (array (items_of (filter_map tree xs)))
some_items tree [] h = record { plain = refl }
some_items tree (x ∷ xs) h = with_option (tree x) (filter_map tree xs) (h x) (some_items tree xs h)

all_runs : (runs : List Run) → IsPlain (array (run_items runs))
all_runs [] = record { plain = refl }
all_runs (run ∷ runs) = record { plain = (all_runs runs).plain }

mapped : {X : Type 0} (f : X → Data) (o : Option X) → ((x : X) → IsPlain (f x)) → IfSome (option_map f o) IsPlain
mapped f None h = tt
mapped f (Some x) h = h x

chosen : {X : Type 0} (f : X → Option Data) (o : Option X) → ((x : X) → IfSome (f x) IsPlain) → IfSome (option_and_then f o) IsPlain
chosen f None h = tt
chosen f (Some x) h = h x

-- ---- trees

an_id : (id : InsId) → IsPlain (id_tree id)
an_id id = record { plain = refl }

pub ids : (rows : List InsRow) (numbers : List ℕ) → IsPlain (ids_tree rows numbers)
ids rows numbers = all_items inscription_id (filter_map (slice_get rows) numbers) (λ row. record { plain = refl })

a_mark : (marks worth : ℕ) (text : List ℕ) (texts : List Data) → IsPlain (array (items_of texts)) → IsPlain (array (items_of (mark_if marks worth text texts)))
a_mark marks worth text texts h = by (marks / worth % 2 == 1)
  where
    by : (set : Bool) → IsPlain (array (items_of (cond set (string text ∷ texts) texts)))
    by true = record { plain = h.plain }
    by false = h

all_marks : (marks : ℕ) → IsPlain (marks_tree marks)
all_marks marks =
    a_mark marks 1 (codes "even") _ (
    a_mark marks 2 (codes "repeated") _ (
    a_mark marks 4 (codes "incomplete") _ (
    a_mark marks 8 (codes "input") _ (
    a_mark marks 16 (codes "offset") _ (
    a_mark marks 32 (codes "pointer") _ (
    a_mark marks 64 (codes "pushnum") _ (
    a_mark marks 128 (codes "reinscription") [] (record { plain = refl }))))))))

an_integer : (z : ℤ) → IsPlain (integer z)
an_integer (pos n) = record { plain = refl }
an_integer (negsuc n) = record { plain = refl }

an_inscription : (jubilee : ℕ) (index : Index) (n : ℕ) (row : InsRow) → IsPlain (inscription_tree jubilee index n row)
an_inscription jubilee index n row = all_of (
    both (ids index.inscriptions (children index.inscriptions n)) (
    both (maybe_null (λ body. count (length body)) row.body (λ body. a_count (length body))) (
    both (maybe_null text_or_null row.content_type a_text) (
    both (a_boolean (is_cursed jubilee row)) (
    both (maybe_null id_tree row.delegate an_id) (
    both (maybe_null text_or_null row.encoding a_text) (
    both (a_count row.height) (
    both (an_id row.id) (
    both (all_marks row.marks) (
    both (maybe_null hex row.metadata (λ bytes. a_string (encode_lower bytes))) (
    both (maybe_null text_or_null row.metaprotocol a_text) (
    both (an_integer (number_of jubilee index.inscriptions n row)) (
    both (all_items id_tree row.parents an_id) (
    both (a_place (option_and_then (where_is index) row.sat)) (
    both (maybe_null count row.sat a_count) (
    both (a_count n) (
    both (a_boolean (is_vindicated jubilee row)) none)))))))))))))))))

a_span : (start end : Option ℕ) → IsPlain (span_tree start end)
a_span start end = record { plain = ap₂ (λ a b. a || (b || false)) (maybe_null count start a_count).plain (maybe_null count end a_count).plain }

a_rune : (index : Index) (n : ℕ) (row : RuneRow) → IsPlain (rune_tree index n row)
a_rune index n row = all_of (
    both (maybe_null amount (option_and_then (λ (t : Terms). t.amount) row.terms) an_amount) (
    both (an_amount row.burned) (
    both (maybe_null amount (option_and_then (λ (t : Terms). t.cap) row.terms) an_amount) (
    both (a_count row.divisibility) (
    both (a_string (hash_text row.etching.0)) (
    both (maybe_null (λ (t : Terms). span_tree t.height_start t.height_end) row.terms (λ t. a_span t.height_start t.height_end)) (
    both (record { plain = refl }) (
    both (record { plain = refl }) (
    both (record { plain = refl }) (
    both (an_amount row.mints) (
    both (record { plain = refl }) (
    both (a_count n) (
    both (maybe_null (λ (t : Terms). span_tree t.offset_start t.offset_end) row.terms (λ t. a_span t.offset_start t.offset_end)) (
    both (an_amount row.premine) (
    both (maybe_null character row.symbol (λ c. record { plain = refl })) none)))))))))))))))

pub balances : (runes : List RuneRow) (all : List Balance) → IsPlain (balances_tree runes all)
balances runes all = some_items (balance_among runes) all
    (λ (one : Balance). mapped (balance_tree one.1) (option_and_then (slice_get runes) (by_id runes one.0)) (λ row. record { plain = refl }))

an_output : (index : Index) (at : OutPoint) (row : OutRow) → IsPlain (output_tree index at row)
an_output index at row = all_of (
    both (a_count row.height) (
    both (ids index.inscriptions (flat_map (on index.inscriptions) row.sats)) (
    both (all_runs (runs_of row.sats)) (
    both (balances index.runes (balances_at index.bal at)) (
    both (a_string (encode_lower row.script)) (
    both (a_count (length row.sats)) none))))))

a_satoshi : (p : Profile) (index : Index) (sat : ℕ) → IsPlain (sat_tree p index sat)
a_satoshi p index sat = all_of (
    both (record { plain = refl }) (
    both (record { plain = refl }) (
    both (ids index.inscriptions (on index.inscriptions sat)) (
    both (record { plain = refl }) (
    both (a_count sat) (
    both (a_place (where_is index sat)) (
    both (record { plain = refl }) none)))))))

an_audit : (audit : IndexAudit) → IsPlain (audit_tree audit)
an_audit audit = all_of (
    both (a_count audit.claimable) (
    both (a_count audit.lost) (
    both (a_count audit.outputs) (
    both (all_items rune_audit_tree audit.runes (λ rune. record { plain = refl })) none))))

a_page : {A : Type 0} (id : A → Data) (rows : List A) (page : ℕ) → ((row : A) → IsPlain (id row)) → IsPlain (page_tree id rows page)
a_page id rows page h = all_of (both (all_items id (entries_of page rows) h) (both (record { plain = refl }) (both (a_count page) none)))

a_status : (asked : Asked) → IsPlain (status_tree asked)
a_status asked = record { plain = ap (λ b. b || false) (a_hash (tip asked.index.hashes)).plain }

pub trees_plain : (asked : Asked) (route : Route) (part : List ℕ) → IfSome (tree_at asked route part) IsPlain
trees_plain asked Status part = a_status asked
trees_plain asked Audit part = an_audit (audit_of asked.profile asked.index)
trees_plain asked BlockHash part =
    chosen (λ height. option_map (block_tree height) (slice_get asked.index.hashes height)) (number_in part)
    (λ height. mapped (block_tree height) (slice_get asked.index.hashes height) (λ hash. record { plain = refl }))
trees_plain asked Inscription part =
    chosen (inscription_at asked.profile.jubilee asked.index) (inscription_named asked.index.inscriptions part)
    (λ n. mapped (inscription_tree asked.profile.jubilee asked.index n) (slice_get asked.index.inscriptions n) (an_inscription asked.profile.jubilee asked.index n))
trees_plain asked Inscriptions part =
    mapped (page_tree inscription_id asked.index.inscriptions) (number_in part) (λ page. a_page inscription_id asked.index.inscriptions page (λ row. record { plain = refl }))
trees_plain asked Output part =
    chosen (λ at. option_map (output_tree asked.index at) (maps.get asked.index.outs at)) (outpoint_in part)
    (λ at. mapped (output_tree asked.index at) (maps.get asked.index.outs at) (an_output asked.index at))
trees_plain asked Rune part =
    chosen (rune_at asked.index) (rune_named asked.index.runes part) (λ n. mapped (rune_tree asked.index n) (slice_get asked.index.runes n) (a_rune asked.index n))
trees_plain asked Runes part =
    mapped (page_tree rune_id asked.index.runes) (number_in part) (λ page. a_page rune_id asked.index.runes page (λ row. record { plain = refl }))
trees_plain asked Sat part = mapped (sat_tree asked.profile asked.index) (sat_in asked.profile part) (a_satoshi asked.profile asked.index)
trees_plain asked Connect part = tt
trees_plain asked Content part = tt
trees_plain asked Disconnect part = tt

plain_in : (o : Option Data) (tree : Data) → IfSome o IsPlain → o ≡ Some tree → IsPlain tree
plain_in o tree h e = subst (λ (x : Option Data). IfSome x IsPlain) e h

pub tree_plain : (asked : Asked) (route : Route) (part : List ℕ) (tree : Data) → tree_at asked route part ≡ Some tree → has_float tree ≡ false
tree_plain asked route part tree e = (plain_in (tree_at asked route part) tree (trees_plain asked route part) e).plain
