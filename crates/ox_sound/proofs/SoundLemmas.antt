-- The test of an index says that it is sound.
use Rattle.std.proofs.Common.{◌≡◌, ℕ, ◌+◌, ◌*◌, ◌<◌, ◌≤◌, ◌^◌, Bool, true, List, ◌++◌, length, refl, arith, inl, inr, Option, Some, None}
use Rattle.std.specs.Prelude.{◌&&◌, ◌==◌, nat_lt, nat_le, is_some, All, Decides, IfSome, IsSome, IsTrue}
use Rattle.std.specs.FinMap.{entries, get, values}
use Rattle.std.specs.List.{list_all}
use Rattle.std.proofs.lemmas.Bool.{cases_lt, eq-eqb, eqb-true, le-leb, leb-true, lt-ltb, ltb-true, or_cases, or_left, or_right}
use Rattle.std.proofs.lemmas.Bool.Decides.{Decides-and, Decides-at, Decides-by_and, Decides-eqb, Decides-like, Decides-ltb}
use Rattle.std.proofs.lemmas.List.Elements.{All-nil}
use Rattle.std.proofs.lemmas.List.Folds.{list_all-map}
use Rattle.ox_block.specs.declared.block.OutPoint.{OutPoint}
use Rattle.ox_sat.specs.Heights.{first_at}
use Rattle.ox_sat.specs.declared.profiles.Profile.{Profile}
use Rattle.ox_name.specs.Unlock.{first_reserved, reserved_name}
use Rattle.ox_rules.specs.Outputs.{AreBelow, Outputs, sats_held}
use Rattle.ox_rules.specs.declared.rows.OutRow.{OutRow}
use Rattle.ox_inscribe.specs.declared.row.InsRow.{InsRow}
use Rattle.ox_allocation.specs.Balances.{Balance}
use Rattle.ox_etching.specs.declared.row.RuneRow.{RuneRow}
use Rattle.ox_ledger.specs.Balanced.{AreDistinct, AreKnown, IsBounded, amount_held, amount_per_mint, cap_in, made_of}
use Rattle.ox_ledger.specs.Runes.{BalanceMap, Placement}
use Rattle.ox_model.specs.Index.{Index}
use Rattle.ox_model.specs.Sound.{IsSound, SoundHeights, SoundInscriptions, SoundOutputs, SoundRunes, SoundSats, is_of_chain}
use Rattle.ox_sound.specs.Rows.{are_held, are_known, are_settled, has_right_name, has_right_supply, ids_differ, is_bounded, is_held, names_differ}
use Rattle.ox_sound.specs.Sound.{heights_pass, inscriptions_pass, is_etched, is_minted, is_revealed, outputs_pass, runes_pass, sats_pass, sound}
use Rattle.ox_sound.proofs.DifferLemmas.{Decides-ids, Decides-names}
use Rattle.ox_sound.proofs.HeldLemmas.{Decides-known, Known}
use Rattle.ox_sound.proofs.OnceLemmas.{Decides-stand_once}
use Rattle.ox_sound.proofs.TableLemmas.{Decides-each}

Decides-leb : (a b : ℕ) → Decides (nat_le a b) (a ≤ b)
Decides-leb a b = (leb-true a b, le-leb a b)

Decides-itself : (b : Bool) → Decides b (IsTrue b)
Decides-itself b = (λ is. is, λ is. is)

pub Decides-heights : (p : Profile) (index : Index) → Decides (heights_pass p index) (SoundHeights p index)
unfolding heights_pass
Decides-heights p index = Decides-like (heights_pass p index) (λ h. record { last = h }) (λ s. s.last) (Decides-leb (length index.hashes) (p.last + 1))

pub Decides-outputs : (index : Index) → Decides (outputs_pass index) (SoundOutputs index)
unfolding outputs_pass
Decides-outputs index =
    let blocks = length index.hashes in
    Decides-like (outputs_pass index) (λ (below : AreBelow blocks index.outs). record { below = below }) (λ s. s.below)
    (Decides-at (outputs_pass index) (list_all (λ (e : OutPoint × OutRow). nat_lt e.1.height blocks) (entries index.outs))
    (list_all-map (λ (row : OutRow). nat_lt row.height blocks) (λ (e : OutPoint × OutRow). e.1) (entries index.outs))
    (Decides-each (λ (e : OutPoint × OutRow). nat_lt e.1.height blocks) (λ at row. row.height < blocks) (λ e. Decides-ltb e.1.height blocks) index.outs))

pub Decides-sats : (p : Profile) (index : Index) → Decides (sats_pass p index) (SoundSats p index)
unfolding sats_pass
Decides-sats p index = Decides-like (sats_pass p index) (λ once. record { once = once }) (λ s. s.once) (Decides-stand_once (first_at p (length index.hashes)) (sats_held index.outs ++ index.lost))

-- ---- inscriptions

Decides-some : (first : ℕ) (sat : Option ℕ) → Decides (is_minted first sat) (IfSome sat (λ sat. sat < first))
Decides-some first None = (λ _. tt, λ _. refl)
Decides-some first (Some sat) = Decides-ltb sat first

pub Decides-inscriptions : (p : Profile) (index : Index) → Decides (inscriptions_pass p index) (SoundInscriptions p index)
unfolding inscriptions_pass
Decides-inscriptions p index =
    Decides-like (inscriptions_pass p index)
    (λ (each : All (λ (row : InsRow). (row.height < blocks) × IfSome row.sat (λ sat. sat < first)) index.inscriptions). record { below = λ k d h. (each k d h).0; minted = λ k d h. (each k d h).1 })
    (λ s. λ k d h. (s.below k d h, s.minted k d h))
    (Decides-by_and (is_revealed blocks first) (λ (row : InsRow). (row.height < blocks) × IfSome row.sat (λ sat. sat < first)) (list_all (is_revealed blocks first))
    (λ row. Decides-and (nat_lt row.height blocks) (is_minted first row.sat) (Decides-ltb row.height blocks) (Decides-some first row.sat))
    refl (λ _ _. refl) index.inscriptions)
  where
    blocks : ℕ
    blocks = length index.hashes

    first : ℕ
    first = first_at p (length index.hashes)

-- ---- runes

right_name : (row : RuneRow) → Decides (has_right_name row) (first_reserved ≤ row.name → row.name ≡ reserved_name row.id.block row.id.tx)
right_name row = (to, from) where
  to : has_right_name row ≡ true → first_reserved ≤ row.name → row.name ≡ reserved_name row.id.block row.id.tx
  to is kept =
      elim (or_cases (nat_lt row.name first_reserved) (row.name == reserved_name row.id.block row.id.tx) is) [
        | inl free ↦ let below : row.name < first_reserved = ltb-true row.name first_reserved free in absurd (omega (arith, below, kept))
        | inr same ↦ eqb-true row.name (reserved_name row.id.block row.id.tx) same
      ]

  from : (first_reserved ≤ row.name → row.name ≡ reserved_name row.id.block row.id.tx) → has_right_name row ≡ true
  from law =
      elim (cases_lt row.name first_reserved) [
        | inl free ↦ or_left (nat_lt row.name first_reserved) (row.name == reserved_name row.id.block row.id.tx) (lt-ltb row.name first_reserved free)
        | inr kept ↦ or_right (nat_lt row.name first_reserved) (row.name == reserved_name row.id.block row.id.tx) (eq-eqb row.name (reserved_name row.id.block row.id.tx) (law kept))
      ]

pub Decides-bounded : (row : RuneRow) → Decides (is_bounded row) (IsBounded row)
unfolding is_bounded
Decides-bounded row =
    Decides-like (is_bounded row)
    (λ b. record { place = b.0.0.0.0; divisibility = b.0.0.0.1; spacers = b.0.0.1; reserved = b.0.1; supply = b.1.0; mints = b.1.1 })
    (λ s. ((((s.place, s.divisibility), s.spacers), s.reserved), (s.supply, s.mints)))
    all
  where
    supply : Decides (has_right_supply row) ((row.premine + cap_in row.terms * amount_per_mint row.terms < 2 ^ 128) × (row.mints ≤ cap_in row.terms))
    supply = Decides-and (nat_lt (row.premine + cap_in row.terms * amount_per_mint row.terms) (2 ^ 128)) (nat_le row.mints (cap_in row.terms))
        (Decides-ltb (row.premine + cap_in row.terms * amount_per_mint row.terms) (2 ^ 128)) (Decides-leb row.mints (cap_in row.terms))

    numbers : Decides (nat_lt row.id.tx (2 ^ 32) && nat_le row.divisibility 38 && nat_lt row.spacers (2 ^ 27)) (((row.id.tx < 2 ^ 32) × (row.divisibility ≤ 38)) × (row.spacers < 2 ^ 27))
    numbers =
        Decides-and (nat_lt row.id.tx (2 ^ 32) && nat_le row.divisibility 38) (nat_lt row.spacers (2 ^ 27))
        (Decides-and (nat_lt row.id.tx (2 ^ 32)) (nat_le row.divisibility 38) (Decides-ltb row.id.tx (2 ^ 32)) (Decides-leb row.divisibility 38)) (Decides-ltb row.spacers (2 ^ 27))

    all : Decides (is_bounded row)
        (((((row.id.tx < 2 ^ 32) × (row.divisibility ≤ 38)) × (row.spacers < 2 ^ 27)) × (first_reserved ≤ row.name → row.name ≡ reserved_name row.id.block row.id.tx))
        × ((row.premine + cap_in row.terms * amount_per_mint row.terms < 2 ^ 128) × (row.mints ≤ cap_in row.terms)))
    all =
        Decides-and (nat_lt row.id.tx (2 ^ 32) && nat_le row.divisibility 38 && nat_lt row.spacers (2 ^ 27) && has_right_name row) (has_right_supply row)
        (Decides-and (nat_lt row.id.tx (2 ^ 32) && nat_le row.divisibility 38 && nat_lt row.spacers (2 ^ 27)) (has_right_name row) numbers (right_name row)) supply

abbrev Etched : Profile → ℕ → RuneRow → Type 0
Etched p blocks row = IsTrue (is_of_chain p blocks row) × IsBounded row

Decides-etched : (p : Profile) (blocks : ℕ) (runes : List RuneRow) → Decides (list_all (is_etched p blocks) runes) (All (Etched p blocks) runes)
Decides-etched p blocks runes =
    Decides-by_and (is_etched p blocks) (Etched p blocks) (list_all (is_etched p blocks))
    (λ row. Decides-and (is_of_chain p blocks row) (is_bounded row) (Decides-itself (is_of_chain p blocks row)) (Decides-bounded row)) refl (λ _ _. refl) runes

abbrev Held : List RuneRow → Outputs → OutPoint → List Balance → Type 0
Held runes outs at balances = IsSome (get outs at) × Known runes balances

Decides-held : (runes : List RuneRow) (outs : Outputs) (bal : BalanceMap) → Decides (are_held runes outs bal) ((at : OutPoint) (balances : List Balance) → get bal at ≡ Some balances → Held runes outs at balances)
unfolding are_held
Decides-held runes outs bal =
    Decides-each (is_held runes outs) (Held runes outs) (λ e. Decides-and (is_some (get outs e.0)) (are_known runes e.1) (Decides-itself (is_some (get outs e.0))) (Decides-known runes e.1)) bal

Decides-settled : (runes : List RuneRow) (bal : BalanceMap) → Decides (are_settled runes bal) (All (λ (row : RuneRow). amount_held (values bal) row.id + row.burned ≡ made_of row) runes)
unfolding are_settled
Decides-settled runes bal =
    Decides-by_and (λ (row : RuneRow). amount_held (values bal) row.id + row.burned == made_of row) (λ (row : RuneRow). amount_held (values bal) row.id + row.burned ≡ made_of row)
    (list_all (λ (row : RuneRow). amount_held (values bal) row.id + row.burned == made_of row)) (λ row. Decides-eqb (amount_held (values bal) row.id + row.burned) (made_of row)) refl (λ _ _. refl) runes

-- the parts of what holds of runes
abbrev Parts : Profile → Index → Type 0
Parts p index =
    (((AreDistinct (λ row. row.id) index.runes × AreDistinct (λ row. row.name) index.runes) × All (Etched p (length index.hashes)) index.runes)
    × ((at : OutPoint) (balances : List Balance) → get index.bal at ≡ Some balances → Held index.runes index.outs at balances))
    × All (λ (row : RuneRow). amount_held (values index.bal) row.id + row.burned ≡ made_of row) index.runes

runes_from : (p : Profile) (index : Index) → Parts p index → SoundRunes p index
runes_from p index parts = record {
  balanced = record {
    ids = parts.0.0.0.0;
    names = parts.0.0.0.1;
    bounded = λ k d h. (parts.0.0.1 k d h).1;
    held = λ at balances is. (parts.0.1 at balances is).1;
    due = All-nil (λ (new : Placement). AreKnown index.runes new.1);
    settled = λ k d h. let is = parts.1 k d h in omega (arith, is);
  };
  below = λ k d h. (parts.0.0.1 k d h).0;
  placed = λ at balances is. (parts.0.1 at balances is).0;
}

to_runes : (p : Profile) (index : Index) → SoundRunes p index → Parts p index
to_runes p index s = (
  (((s.balanced.ids, s.balanced.names), λ k d h. (s.below k d h, s.balanced.bounded k d h)), λ at balances is. (s.placed at balances is, s.balanced.held at balances is)),
  λ k d h. let is = s.balanced.settled k d h in omega (arith, is),
)

pub Decides-runes : (p : Profile) (index : Index) → Decides (runes_pass p index) (SoundRunes p index)
unfolding runes_pass
Decides-runes p index =
    Decides-like (runes_pass p index) (runes_from p index) (to_runes p index)
    (Decides-and (ids_differ runes && names_differ runes && list_all etched runes && are_held runes index.outs index.bal) (are_settled runes index.bal)
    (Decides-and (ids_differ runes && names_differ runes && list_all etched runes) (are_held runes index.outs index.bal)
    (Decides-and (ids_differ runes && names_differ runes) (list_all etched runes)
    (Decides-and (ids_differ runes) (names_differ runes) (Decides-ids runes) (Decides-names runes))
    (Decides-etched p (length index.hashes) runes))
    (Decides-held runes index.outs index.bal))
    (Decides-settled runes index.bal))
  where
    runes : List RuneRow
    runes = index.runes

    etched : RuneRow → Bool
    etched = is_etched p (length index.hashes)

-- ---- all of it

pub Decides-sound : (p : Profile) (index : Index) → Decides (sound p index) (IsSound p index)
unfolding sound
Decides-sound p index =
    Decides-like (sound p index)
    (λ s. record { heights = s.0.0.0.0; outputs = s.0.0.0.1; sats = s.0.0.1; inscriptions = s.0.1; runes = s.1 })
    (λ s. ((((s.heights, s.outputs), s.sats), s.inscriptions), s.runes))
    (Decides-and (heights_pass p index && outputs_pass index && sats_pass p index && inscriptions_pass p index) (runes_pass p index)
    (Decides-and (heights_pass p index && outputs_pass index && sats_pass p index) (inscriptions_pass p index)
    (Decides-and (heights_pass p index && outputs_pass index) (sats_pass p index)
    (Decides-and (heights_pass p index) (outputs_pass index) (Decides-heights p index) (Decides-outputs index))
    (Decides-sats p index))
    (Decides-inscriptions p index))
    (Decides-runes p index))
