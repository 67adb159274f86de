-- The tests of rows decide whether they are equal.
use Rattle.std.proofs.Common.{◌≡◌, ℕ, Bool, List, refl, ap, Option, Some, None}
use Rattle.std.specs.Prelude.{◌==◌, ◌&&◌, bytes_eq}
use Rattle.std.specs.Bool.{Decides}
use Rattle.std.specs.Option.{option_eq}
use Rattle.std.specs.Cmp.Lexicographic.{pointwise}
use Rattle.std.proofs.lemmas.Bool.Decides.{Decides-and, Decides-eqb, Decides-like}
use Rattle.std.proofs.lemmas.Slice.Eq.{bytes_eq-Decides, slice_eq-Decides}
use Rattle.ox_allocation.specs.Balances.{Balance}
use Rattle.ox_envelope.specs.declared.id.InsId.{InsId}
use Rattle.ox_etching.specs.declared.row.RuneRow.{RuneRow}
use Rattle.ox_inscribe.specs.declared.row.InsRow.{InsRow}
use Rattle.ox_ledger.specs.declared.part.Counts.{Counts}
use Rattle.ox_range.specs.declared.runs.Run.{Run}
use Rattle.ox_rules.specs.declared.rows.OutRow.{OutRow}
use Rattle.ox_runestone.specs.declared.stone.RuneId.{RuneId}
use Rattle.ox_runestone.specs.declared.stone.Terms.{Terms}
use Rattle.ox_plain.specs.Same.{same_balance, same_balances, same_content, same_counts, same_field, same_id, same_inscription, same_links, same_number, same_output, same_place, same_rune, same_rune_id, same_terms}

some_same : {A : Type 0} (x y : A) → Some x ≡ Some y → x ≡ y
some_same x y is = cc is

option_eq-Decides : {A : Type 0} (same : A → A → Bool) → ((a b : A) → Decides (same a b) (a ≡ b)) → (a b : Option A) → Decides (option_eq same a b) (a ≡ b)
option_eq-Decides same decides None None = (λ is. refl, λ is. refl)
option_eq-Decides same decides None (Some y) = (λ is. absurd (cc is), λ is. absurd (cc is))
option_eq-Decides same decides (Some x) None = (λ is. absurd (cc is), λ is. absurd (cc is))
option_eq-Decides same decides (Some x) (Some y) = (λ is. ap Some ((decides x y).0 is), λ is. (decides x y).1 (some_same x y is))

pointwise-Decides : {A : Type 0} (same : A → A → Bool) → ((a b : A) → Decides (same a b) (a ≡ b)) → (a b : List A) → Decides (pointwise same a b) (a ≡ b)
pointwise-Decides same decides a b = slice_eq-Decides decides a b (pointwise same a b) refl

number-Decides : (a b : Option ℕ) → Decides (same_number a b) (a ≡ b)
number-Decides = option_eq-Decides ◌==◌ Decides-eqb

field-Decides : (a b : Option (List ℕ)) → Decides (same_field a b) (a ≡ b)
field-Decides = option_eq-Decides bytes_eq bytes_eq-Decides

pub same_output-Decides : (a b : OutRow) → Decides (same_output a b) (a ≡ b)
same_output-Decides a b =
    Decides-like (same_output a b)
    (λ same i. record { script = same.1.0 i; height = same.0 i; sats = same.1.1 i })
    (λ same. (ap (λ (row : OutRow). row.height) same, (ap (λ (row : OutRow). row.script) same, ap (λ (row : OutRow). row.sats) same)))
    (Decides-and (a.height == b.height) _ (Decides-eqb a.height b.height)
    (Decides-and (bytes_eq a.script b.script) _ (bytes_eq-Decides a.script b.script) (bytes_eq-Decides a.sats b.sats)))

rune_id-Decides : (a b : RuneId) → Decides (same_rune_id a b) (a ≡ b)
rune_id-Decides a b =
    Decides-like (same_rune_id a b)
    (λ same i. record { block = same.0 i; tx = same.1 i })
    (λ same. (ap (λ (x : RuneId). x.block) same, ap (λ (x : RuneId). x.tx) same))
    (Decides-and (a.block == b.block) _ (Decides-eqb a.block b.block) (Decides-eqb a.tx b.tx))

same_balance-Decides : (a b : Balance) → Decides (same_balance a b) (a ≡ b)
same_balance-Decides a b =
    Decides-like (same_balance a b)
    (λ same i. (same.0 i, same.1 i))
    (λ same. (ap (λ (x : Balance). x.0) same, ap (λ (x : Balance). x.1) same))
    (Decides-and (same_rune_id a.0 b.0) _ (rune_id-Decides a.0 b.0) (Decides-eqb a.1 b.1))

pub same_balances-Decides : (a b : List Balance) → Decides (same_balances a b) (a ≡ b)
same_balances-Decides = pointwise-Decides same_balance same_balance-Decides

terms-Decides : (a b : Terms) → Decides (same_terms a b) (a ≡ b)
terms-Decides a b =
    Decides-like (same_terms a b)
    (λ same i. record {
      amount = same.0 i;
      cap = same.1.0 i;
      height_start = same.1.1.0 i;
      height_end = same.1.1.1.0 i;
      offset_start = same.1.1.1.1.0 i;
      offset_end = same.1.1.1.1.1 i;
    })
    (λ same. (
      ap (λ (x : Terms). x.amount) same,
      (
        ap (λ (x : Terms). x.cap) same,
        (
          ap (λ (x : Terms). x.height_start) same,
          (ap (λ (x : Terms). x.height_end) same, (ap (λ (x : Terms). x.offset_start) same, ap (λ (x : Terms). x.offset_end) same)),
        ),
      ),
    ))
    (Decides-and (same_number a.amount b.amount) _ (number-Decides a.amount b.amount)
    (Decides-and (same_number a.cap b.cap) _ (number-Decides a.cap b.cap)
    (Decides-and (same_number a.height_start b.height_start) _ (number-Decides a.height_start b.height_start)
    (Decides-and (same_number a.height_end b.height_end) _ (number-Decides a.height_end b.height_end)
    (Decides-and (same_number a.offset_start b.offset_start) _ (number-Decides a.offset_start b.offset_start) (number-Decides a.offset_end b.offset_end))))))

pub same_rune-Decides : (a b : RuneRow) → Decides (same_rune a b) (a ≡ b)
same_rune-Decides a b =
    Decides-like (same_rune a b)
    (λ same i. record {
      id = same.0 i;
      name = same.1.0 i;
      spacers = same.1.1.0 i;
      divisibility = same.1.1.1.0 i;
      symbol = same.1.1.1.1.0 i;
      premine = same.1.1.1.1.1.0 i;
      terms = same.1.1.1.1.1.1.0 i;
      mints = same.1.1.1.1.1.1.1.0 i;
      burned = same.1.1.1.1.1.1.1.1.0 i;
      etching = record { 0 = same.1.1.1.1.1.1.1.1.1 i };
    })
    (λ same. (
      ap (λ (x : RuneRow). x.id) same,
      (
        ap (λ (x : RuneRow). x.name) same,
        (
          ap (λ (x : RuneRow). x.spacers) same,
          (
            ap (λ (x : RuneRow). x.divisibility) same,
            (
              ap (λ (x : RuneRow). x.symbol) same,
              (
                ap (λ (x : RuneRow). x.premine) same,
                (
                  ap (λ (x : RuneRow). x.terms) same,
                  (ap (λ (x : RuneRow). x.mints) same, (ap (λ (x : RuneRow). x.burned) same, ap (λ (x : RuneRow). x.etching.0) same)),
                ),
              ),
            ),
          ),
        ),
      ),
    ))
    (Decides-and (same_rune_id a.id b.id) _ (rune_id-Decides a.id b.id)
    (Decides-and (a.name == b.name) _ (Decides-eqb a.name b.name)
    (Decides-and (a.spacers == b.spacers) _ (Decides-eqb a.spacers b.spacers)
    (Decides-and (a.divisibility == b.divisibility) _ (Decides-eqb a.divisibility b.divisibility)
    (Decides-and (same_number a.symbol b.symbol) _ (number-Decides a.symbol b.symbol)
    (Decides-and (a.premine == b.premine) _ (Decides-eqb a.premine b.premine)
    (Decides-and (option_eq same_terms a.terms b.terms) _ (option_eq-Decides same_terms terms-Decides a.terms b.terms)
    (Decides-and (a.mints == b.mints) _ (Decides-eqb a.mints b.mints)
    (Decides-and (a.burned == b.burned) _ (Decides-eqb a.burned b.burned) (bytes_eq-Decides a.etching.0 b.etching.0))))))))))

pub same_counts-Decides : (a b : Counts) → Decides (same_counts a b) (a ≡ b)
same_counts-Decides a b =
    Decides-like (same_counts a b)
    (λ same i. record { mints = same.0 i; burned = same.1 i })
    (λ same. (ap (λ (x : Counts). x.mints) same, ap (λ (x : Counts). x.burned) same))
    (Decides-and (a.mints == b.mints) _ (Decides-eqb a.mints b.mints) (Decides-eqb a.burned b.burned))

id-Decides : (a b : InsId) → Decides (same_id a b) (a ≡ b)
id-Decides a b =
    Decides-like (same_id a b)
    (λ same i. record { txid = same.0 i; index = same.1 i })
    (λ same. (ap (λ (x : InsId). x.txid) same, ap (λ (x : InsId). x.index) same))
    (Decides-and (bytes_eq a.txid b.txid) _ (bytes_eq-Decides a.txid b.txid) (Decides-eqb a.index b.index))

abbrev SamePlace : InsRow → InsRow → Type 0
SamePlace a b = (a.id ≡ b.id) × ((a.height ≡ b.height) × ((a.marks ≡ b.marks) × (a.sat ≡ b.sat)))

abbrev SameContent : InsRow → InsRow → Type 0
SameContent a b =
    (a.content_type ≡ b.content_type) × ((a.body ≡ b.body) × ((a.metadata ≡ b.metadata) × ((a.metaprotocol ≡ b.metaprotocol) × (a.encoding ≡ b.encoding))))

abbrev SameLinks : InsRow → InsRow → Type 0
SameLinks a b = (a.pointer ≡ b.pointer) × ((a.delegate ≡ b.delegate) × (a.parents ≡ b.parents))

place-Decides : (a b : InsRow) → Decides (same_place a b) (SamePlace a b)
place-Decides a b =
    Decides-and (same_id a.id b.id) _ (id-Decides a.id b.id)
    (Decides-and (a.height == b.height) _ (Decides-eqb a.height b.height)
    (Decides-and (a.marks == b.marks) _ (Decides-eqb a.marks b.marks) (number-Decides a.sat b.sat)))

content-Decides : (a b : InsRow) → Decides (same_content a b) (SameContent a b)
content-Decides a b =
    Decides-and (same_field a.content_type b.content_type) _ (field-Decides a.content_type b.content_type)
    (Decides-and (same_field a.body b.body) _ (field-Decides a.body b.body)
    (Decides-and (same_field a.metadata b.metadata) _ (field-Decides a.metadata b.metadata)
    (Decides-and (same_field a.metaprotocol b.metaprotocol) _ (field-Decides a.metaprotocol b.metaprotocol) (field-Decides a.encoding b.encoding))))

links-Decides : (a b : InsRow) → Decides (same_links a b) (SameLinks a b)
links-Decides a b =
    Decides-and (same_field a.pointer b.pointer) _ (field-Decides a.pointer b.pointer)
    (Decides-and (option_eq same_id a.delegate b.delegate) _ (option_eq-Decides same_id id-Decides a.delegate b.delegate)
    (pointwise-Decides same_id id-Decides a.parents b.parents))

pub same_inscription-Decides : (a b : InsRow) → Decides (same_inscription a b) (a ≡ b)
same_inscription-Decides a b =
    Decides-like (same_inscription a b)
    (λ same i. record {
      id = same.0.0 i;
      height = same.0.1.0 i;
      content_type = same.1.0.0 i;
      body = same.1.0.1.0 i;
      metadata = same.1.0.1.1.0 i;
      metaprotocol = same.1.0.1.1.1.0 i;
      encoding = same.1.0.1.1.1.1 i;
      pointer = same.1.1.0 i;
      delegate = same.1.1.1.0 i;
      parents = same.1.1.1.1 i;
      marks = same.0.1.1.0 i;
      sat = same.0.1.1.1 i;
    })
    (λ same. (
      (ap (λ (x : InsRow). x.id) same, (ap (λ (x : InsRow). x.height) same, (ap (λ (x : InsRow). x.marks) same, ap (λ (x : InsRow). x.sat) same))),
      (
        (
          ap (λ (x : InsRow). x.content_type) same,
          (ap (λ (x : InsRow). x.body) same, (ap (λ (x : InsRow). x.metadata) same, (ap (λ (x : InsRow). x.metaprotocol) same, ap (λ (x : InsRow). x.encoding) same))),
        ),
        (ap (λ (x : InsRow). x.pointer) same, (ap (λ (x : InsRow). x.delegate) same, ap (λ (x : InsRow). x.parents) same)),
      ),
    ))
    (Decides-and (same_place a b) _ (place-Decides a b)
    (Decides-and (same_content a b) _ (content-Decides a b) (links-Decides a b)))

-- ---- satoshis

abbrev pub same_run : Run → Run → Bool
same_run a b = (a.first == b.first) && (a.count == b.count)

pub same_run-Decides : (a b : Run) → Decides (same_run a b) (a ≡ b)
same_run-Decides a b =
    Decides-like (same_run a b)
    (λ same i. record { first = same.0 i; count = same.1 i })
    (λ same. (ap (λ (x : Run). x.first) same, ap (λ (x : Run). x.count) same))
    (Decides-and (a.first == b.first) _ (Decides-eqb a.first b.first) (Decides-eqb a.count b.count))
