-- What a leader hands out, by its head, its body and its records.
use Rattle.std.proofs.Common.{◌≡◌, ◌∙◌, ◌<◌, ◌≤◌, ◌^◌, ltb, All, nat_cmp, Less, ℕ, zero, suc, ◌==◌, ◌&&◌, true, false, List, [], ◌∷◌, length, refl, sym, ap, subst, arith}
use Rattle.std.specs.Prelude.{◌||◌, not, nat_le, nat_lt, slice_index_or, Option, Some, None}
use Rattle.std.proofs.lemmas.Bool.{and_parts, leb-true, le-ltb, ltb-false, ltb-true, ne_eqb}
use Rattle.std.proofs.lemmas.Cmp.{ranked}
use Rattle.std.proofs.lemmas.List.Elements.{All-head, All-tail}
use Rattle.ox_gated.specs.Layout.{is_lawful}
use Rattle.ox_gated.specs.declared.head.Head.{Head}
use Rattle.ox_gated.specs.declared.records.Record.{Record}
use Rattle.ox_sat.specs.Profiles.{name_at, profile_named}
use Rattle.ox_sat.specs.declared.profiles.Profile.{Profile}
use Rattle.ox_model.specs.Stack.{Stack}
use Rattle.ox_files.proofs.FilesOfStacks.{file_stack}
use Rattle.ox_follow.specs.Frame.{Frame, Base, Step, Level}
use Rattle.ox_follow.specs.Position.{start_of}
use Rattle.ox_follow.specs.World.{Piece, AsFar, Ahead, Leader, Rules, answer_to, frame_of, piece_at, piece_in}
use Rattle.ox_follow.specs.World as world
use Rattle.ox_follow.specs.declared.frame.Position.{Position}
use Rattle.ox_pieces.specs.Leader.{CanLead, pieces_of}
use Rattle.ox_pieces.specs.Stood.{payloads_of}

-- ---- behind a place

pub record_there : (records : List Record) (place : ℕ) (one : Record) → place < length records → one ≡ slice_index_or records place one
    → piece_in place (payloads_of records) ≡ world.Record one.payload
unfolding piece_in
record_there [] place one within is = absurd (omega (arith, within))
record_there (first ∷ records) zero one within is = ap (λ (r : Record). world.Record r.payload) (sym is)
record_there (first ∷ records) (suc place) one within is = record_there records place one (omega (arith, within)) is

pub level_there : (records : List Record) (place : ℕ) → place ≡ length records → piece_in place (payloads_of records) ≡ AsFar
unfolding piece_in
level_there [] zero is = refl
level_there [] (suc place) is = absurd (omega (arith, is))
level_there (first ∷ records) zero is = absurd (omega (arith, is))
level_there (first ∷ records) (suc place) is = level_there records place (omega (arith, is))

pub none_there : (records : List Record) (place : ℕ) → length records < place → piece_in place (payloads_of records) ≡ Ahead
unfolding piece_in
none_there [] zero past = absurd (omega (arith, past))
none_there [] (suc place) past = refl
none_there (first ∷ records) zero past = absurd (omega (arith, past))
none_there (first ∷ records) (suc place) past = none_there records place (omega (arith, past))

-- the frame of each, where these are the leader's records
module _ (rules : Rules Stack) (leader : Leader Stack) (records seen : List Record) (at : Position) where
  abbrev Behind : Option Frame → Type 0
  Behind frame = frame ≡ frame_of rules leader at (piece_in at.place leader.payloads)

  by_piece : (piece : Piece) → leader.payloads ≡ payloads_of records → piece_in at.place (payloads_of records) ≡ piece → Behind (frame_of rules leader at piece)
  by_piece piece same is = ap (frame_of rules leader at) (sym (ap (piece_in at.place) same ∙ is))

  pub behind_record : (one : Record) (payload : List ℕ) → leader.payloads ≡ payloads_of records → seen ≡ records → true ≡ ltb at.place (length seen) → one ≡ slice_index_or seen at.place one
      → payload ≡ one.payload → Behind (Some (Step at payload))
  behind_record one payload same all there is spelled =
      let within : at.place < length records = ltb-true at.place (length records) (sym (there ∙ ap (λ (l : List Record). ltb at.place (length l)) all)) in
      ap (λ (l : List ℕ). Some (Step at l)) spelled
      ∙ by_piece (world.Record one.payload) same (record_there records at.place one within (is ∙ ap (λ (l : List Record). slice_index_or l at.place one) all))

  pub behind_level : leader.payloads ≡ payloads_of records → at.place ≡ length records → Behind (Some (Level at))
  behind_level same is = by_piece AsFar same (level_there records at.place is)

  pub behind_none : leader.payloads ≡ payloads_of records → seen ≡ records → false ≡ ltb at.place (length seen) → (at.place ≡ length records → ⊥) → Behind None
  behind_none same all past other =
      let most : length records ≤ at.place = ltb-false at.place (length records) (sym (past ∙ ap (λ (l : List Record). ltb at.place (length l)) all)) in
      by_piece Ahead same (none_there records at.place (omega (arith, most, other)))

  -- of an older generation
  pub answers_base : (generation : ℕ) (frame : Option Frame) → generation ≡ leader.generation → Less ≡ nat_cmp at.generation generation → frame ≡ frame_of rules leader at world.Whole
      → frame ≡ answer_to rules leader at
  answers_base generation frame own is base =
      let older : at.generation < generation = ranked at.generation generation Less is in
      let whole : piece_at leader at ≡ world.Whole = rw (
        ne_eqb at.generation leader.generation (λ e. omega (arith, older, own, e)),
        le-ltb leader.generation at.generation (omega (arith, older, own)),
      ) refl in
      base ∙ ap (frame_of rules leader at) (sym whole)

-- ---- the profile and the depth of a head

byte_named : (byte : ℕ) → byte < 3 → (profile_named (name_at byte)).byte ≡ byte
byte_named zero few = refl
byte_named (suc zero) few = refl
byte_named (suc (suc zero)) few = refl
byte_named (suc (suc (suc byte))) few = absurd (omega (arith, few))

low_profile : (head : Head) → is_lawful head ≡ true → head.profile < 3
low_profile head is =
    let all = and_parts ((head.version == 1 || head.version == 2 || head.version == 3) && nat_lt head.profile 3 && nat_le 1 head.depth && nat_le head.depth 1000) (not (head.generation == 0)) is in
    let three = and_parts ((head.version == 1 || head.version == 2 || head.version == 3) && nat_lt head.profile 3 && nat_le 1 head.depth) (nat_le head.depth 1000) all.0 in
    let two = and_parts ((head.version == 1 || head.version == 2 || head.version == 3) && nat_lt head.profile 3) (nat_le 1 head.depth) three.0 in
    ltb-true head.profile 3 (and_parts (head.version == 1 || head.version == 2 || head.version == 3) (nat_lt head.profile 3) two.0).1

pub low_depth : (head : Head) → is_lawful head ≡ true → head.depth < 2 ^ 16
low_depth head is =
    let all = and_parts ((head.version == 1 || head.version == 2 || head.version == 3) && nat_lt head.profile 3 && nat_le 1 head.depth && nat_le head.depth 1000) (not (head.generation == 0)) is in
    let most : head.depth ≤ 1000 = leb-true head.depth 1000 (and_parts ((head.version == 1 || head.version == 2 || head.version == 3) && nat_lt head.profile 3 && nat_le 1 head.depth) (nat_le head.depth 1000) all.0).1 in
    omega (arith, most)

-- a stack that stands under a lawful head has the byte of its profile, and its depth
pub byte_of : (head : Head) (stack : Stack) → is_lawful head ≡ true → stack.profile ≡ profile_named (name_at head.profile) → stack.profile.byte ≡ head.profile
byte_of head stack lawful is = ap (λ (p : Profile). p.byte) is ∙ byte_named head.profile (low_profile head lawful)

-- the whole file
pub base_alike : (head : Head) (body : List ℕ) (records : List Record) (leader : Leader Stack) (seen : List ℕ) → CanLead head body records → pieces_of head body records ≡ leader → seen ≡ body
    → Some (Base (start_of head.generation) head.profile head.depth seen) ≡ Some (Base (start_of leader.generation) leader.state.profile.byte leader.state.depth leader.body)
base_alike head body records leader seen can is same =
    let stack = (pieces_of head body records).state in
    let of = file_stack head body records stack can.stands in
    let byte : stack.profile.byte ≡ head.profile = byte_of head stack can.lawful of.has_profile in
    (λ i. Some (Base (start_of head.generation) (sym byte i) (sym of.has_depth i) (same i)))
    ∙ ap (λ (l : Leader Stack). Some (Base (start_of l.generation) l.state.profile.byte l.state.depth l.body)) is

-- ---- what fits a frame

each_short : (records : List Record) (place : ℕ) (one : Record) → All (λ (r : Record). length r.payload < 2 ^ 32) records → place < length records → one ≡ slice_index_or records place one → length one.payload < 2 ^ 32
each_short [] place one all within is = absurd (omega (arith, within))
each_short (first ∷ records) zero one all within is = subst (λ (r : Record). length r.payload < 2 ^ 32) (sym is) (All-head (λ (r : Record). length r.payload < 2 ^ 32) first records all)
each_short (first ∷ records) (suc place) one all within is = each_short records place one (All-tail (λ (r : Record). length r.payload < 2 ^ 32) first records all) (omega (arith, within)) is
