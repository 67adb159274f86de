-- Integers, payload and script as they are written.
use Rattle.std.proofs.Common.{◌≡◌, ◌≢◌, ℕ, ◌+◌, ◌<◌, ◌≤◌, List, [], ◌∷◌, ◌++◌, length, take, drop, get_or, Some, refl, sym, ap, subst, ◌∙◌, append_assoc, append-nil, arith}
use Rattle.std.specs.List.{flat_map, AllByRecursion}
use Rattle.std.proofs.lemmas.List.{drop_more, drop_all, take-append-drop}
use Rattle.ox_varint.specs.Varint.{varint}
use Rattle.ox_runestone.specs.declared.stone.RuneId.{RuneId}
use Rattle.ox_runestone.specs.declared.stone.Terms.{Terms}
use Rattle.ox_runestone.specs.declared.stone.Etching.{Etching}
use Rattle.ox_runestone.specs.declared.stone.Edict.{Edict}
use Rattle.ox_runestone.specs.declared.stone.Runestone.{Runestone}
use Rattle.ox_runestone.specs.Message.{Field}
use Rattle.ox_runestone.specs.Spelling.{pair, terms_pairs, etching_pairs, mint_pairs, fields_of, flags_for, tags_and_values, deltas, body_for, payload_for, text_of, push, joined_chunks, pushed_chunks, Spells, NotBelow, DontFallAfter}

-- the bytes of integers in a row
pub spelled-append : (xs ys : List ℕ) → flat_map varint (xs ++ ys) ≡ flat_map varint xs ++ flat_map varint ys
spelled-append [] ys = refl
spelled-append (x ∷ xs) ys = ap (λ t. varint x ++ t) (spelled-append xs ys) ∙ sym (append_assoc (varint x) (flat_map varint xs) (flat_map varint ys))

pub tags_and_values-append : (xs ys : List Field) → tags_and_values (xs ++ ys) ≡ tags_and_values xs ++ tags_and_values ys
tags_and_values-append [] ys = refl
tags_and_values-append (x ∷ xs) ys = ap (λ t. x.0 ∷ x.1 ∷ t) (tags_and_values-append xs ys)

pub text_of-append : (xs ys : List Field) → text_of (xs ++ ys) ≡ text_of xs ++ text_of ys
text_of-append xs ys = ap (flat_map varint) (tags_and_values-append xs ys) ∙ spelled-append (tags_and_values xs) (tags_and_values ys)

-- three fields or more, one after another
more : (old : List ℕ) (xs ys : List Field) → (old ++ text_of xs) ++ text_of ys ≡ old ++ text_of (xs ++ ys)
more old xs ys = append_assoc old (text_of xs) (text_of ys) ∙ ap (λ t. old ++ t) (sym (text_of-append xs ys))

six : (old : List ℕ) (a b c d e f : List Field) → (((((old ++ text_of a) ++ text_of b) ++ text_of c) ++ text_of d) ++ text_of e) ++ text_of f ≡ old ++ text_of (a ++ (b ++ (c ++ (d ++ (e ++ f)))))
six old a b c d e f =
    more ((((old ++ text_of a) ++ text_of b) ++ text_of c) ++ text_of d) e f
    ∙ more (((old ++ text_of a) ++ text_of b) ++ text_of c) d (e ++ f)
    ∙ more ((old ++ text_of a) ++ text_of b) c (d ++ (e ++ f))
    ∙ more (old ++ text_of a) b (c ++ (d ++ (e ++ f)))
    ∙ more old a (b ++ (c ++ (d ++ (e ++ f))))

pub terms_text : (old : List ℕ) (terms : Terms) → (((((old ++ text_of (pair 8 terms.cap)) ++ text_of (pair 10 terms.amount)) ++ text_of (pair 12 terms.height_start)) ++ text_of (pair 14 terms.height_end)) ++ text_of (pair 16 terms.offset_start)) ++ text_of (pair 18 terms.offset_end) ≡ old ++ text_of (terms_pairs (Some terms))
terms_text old terms = six old (pair 8 terms.cap) (pair 10 terms.amount) (pair 12 terms.height_start) (pair 14 terms.height_end) (pair 16 terms.offset_start) (pair 18 terms.offset_end)

pub etching_text : (old : List ℕ) (etching : Etching) → ((((((old ++ text_of (pair 2 (Some (flags_for etching)))) ++ text_of (pair 4 etching.name)) ++ text_of (pair 1 etching.divisibility)) ++ text_of (pair 3 etching.spacers)) ++ text_of (pair 5 etching.symbol)) ++ text_of (pair 6 etching.premine)) ++ text_of (terms_pairs etching.terms) ≡ old ++ text_of (etching_pairs (Some etching))
etching_text old etching =
    six (old ++ text_of (pair 2 (Some (flags_for etching)))) (pair 4 etching.name) (pair 1 etching.divisibility) (pair 3 etching.spacers) (pair 5 etching.symbol) (pair 6 etching.premine) (terms_pairs etching.terms)
    ∙ more old (pair 2 (Some (flags_for etching))) (pair 4 etching.name ++ (pair 1 etching.divisibility ++ (pair 3 etching.spacers ++ (pair 5 etching.symbol ++ (pair 6 etching.premine ++ terms_pairs etching.terms)))))

pub payload_text : (stone : Runestone) → ((([] ++ text_of (etching_pairs stone.etching)) ++ text_of (mint_pairs stone.mint)) ++ text_of (pair 22 stone.pointer)) ++ flat_map varint (body_for stone.edicts) ≡ payload_for stone
payload_text stone =
    ap (λ t. t ++ flat_map varint (body_for stone.edicts)) (more ([] ++ text_of (etching_pairs stone.etching)) (mint_pairs stone.mint) (pair 22 stone.pointer) ∙ more [] (etching_pairs stone.etching) (mint_pairs stone.mint ++ pair 22 stone.pointer))
    ∙ sym (spelled-append (tags_and_values (fields_of stone)) (body_for stone.edicts))

-- ---- edicts

pub not_below_at : (id : RuneId) (edicts : List Edict) (place : ℕ) (edict : Edict) → place < length edicts → edict ≡ get_or edicts place edict → DontFallAfter id (drop place edicts) → NotBelow id edict.id × DontFallAfter edict.id (drop (place + 1) edicts)
not_below_at id edicts place edict within is rising =
    let front : drop place edicts ≡ edict ∷ drop (place + 1) edicts = drop_more edicts place edict within ∙ ap (λ e. e ∷ drop (place + 1) edicts) (sym is) in
    let R : List Edict → Type 0 = λ (l : List Edict). DontFallAfter id l in
    subst R front rising

pub edict_put : (target payload : List ℕ) (id : RuneId) (edicts : List Edict) (place : ℕ) (edict : Edict) → place < length edicts → edict ≡ get_or edicts place edict → payload ++ flat_map varint (deltas id (drop place edicts)) ≡ target → (payload ++ flat_map varint (deltas id (edict ∷ []))) ++ flat_map varint (deltas edict.id (drop (place + 1) edicts)) ≡ target
edict_put target payload id edicts place edict within is so_far =
    let front : drop place edicts ≡ edict ∷ drop (place + 1) edicts = drop_more edicts place edict within ∙ ap (λ e. e ∷ drop (place + 1) edicts) (sym is) in
    append_assoc payload (flat_map varint (deltas id (edict ∷ []))) (flat_map varint (deltas edict.id (drop (place + 1) edicts)))
    ∙ ap (λ t. payload ++ t) (sym (spelled-append (deltas id (edict ∷ [])) (deltas edict.id (drop (place + 1) edicts))) ∙ ap (λ l. flat_map varint (deltas id l)) (sym front))
    ∙ so_far

pub edicts_put : (target payload : List ℕ) (id : RuneId) (edicts : List Edict) (place : ℕ) → length edicts ≤ place → payload ++ flat_map varint (deltas id (drop place edicts)) ≡ target → payload ≡ target
edicts_put target payload id edicts place end so_far =
    sym (append-nil payload) ∙ ap (λ l. payload ++ flat_map varint (deltas id l)) (sym (drop_all place edicts end)) ∙ so_far

body_some : (edicts : List Edict) → 0 < length edicts → body_for edicts ≡ 0 ∷ deltas (record { block = 0; tx = 0 }) edicts
body_some [] some = absurd (omega arith)
body_some (edict ∷ edicts) some = refl

pub body_starts : (old payload : List ℕ) (edicts : List Edict) → length edicts ≢ 0 → payload ≡ old ++ varint 0 → payload ++ flat_map varint (deltas (record { block = 0; tx = 0 }) edicts) ≡ old ++ flat_map varint (body_for edicts)
body_starts old payload edicts some is =
    ap (λ t. t ++ flat_map varint (deltas (record { block = 0; tx = 0 }) edicts)) is
    ∙ append_assoc old (varint 0) (flat_map varint (deltas (record { block = 0; tx = 0 }) edicts))
    ∙ ap (λ l. old ++ flat_map varint l) (sym (body_some edicts (omega arith)))

-- ---- pushes

pub record Pushing (payload script rest : List ℕ) : Type 0 where
  pub chunks : List (List ℕ)
  pub script-is : script ≡ 0x6a ∷ 0x5d ∷ pushed_chunks chunks
  pub all : joined_chunks chunks ++ rest ≡ payload
  pub short : AllByRecursion (λ chunk. length chunk ≤ 520) chunks

joined_chunks-push : (chunks : List (List ℕ)) (chunk : List ℕ) → joined_chunks (chunks ++ chunk ∷ []) ≡ joined_chunks chunks ++ chunk
joined_chunks-push [] chunk = append-nil chunk
joined_chunks-push (other ∷ chunks) chunk = ap (λ t. other ++ t) (joined_chunks-push chunks chunk) ∙ sym (append_assoc other (joined_chunks chunks) chunk)

pushed_chunks-push : (chunks : List (List ℕ)) (chunk : List ℕ) → pushed_chunks (chunks ++ chunk ∷ []) ≡ pushed_chunks chunks ++ push chunk
pushed_chunks-push [] chunk = append-nil (push chunk)
pushed_chunks-push (other ∷ chunks) chunk = ap (λ t. push other ++ t) (pushed_chunks-push chunks chunk) ∙ sym (append_assoc (push other) (pushed_chunks chunks) (push chunk))

short-push : (chunks : List (List ℕ)) (chunk : List ℕ) → AllByRecursion (λ (c : List ℕ). length c ≤ 520) chunks → length chunk ≤ 520 → AllByRecursion (λ (c : List ℕ). length c ≤ 520) (chunks ++ chunk ∷ [])
short-push [] chunk all short = (short, tt)
short-push (other ∷ chunks) chunk all short = (all.0, short-push chunks chunk all.1 short)

pub push_more : (payload script new rest chunk behind : List ℕ) (count : ℕ) → Pushing payload script rest → count ≤ 520 → chunk ≡ take count rest → behind ≡ drop count rest → length chunk ≤ 520 → new ≡ script ++ push chunk → Pushing payload new behind
push_more payload script new rest chunk behind count pushing few chunk-is behind-is short new-is = record {
  chunks = pushing.chunks ++ chunk ∷ [];
  script-is = new-is ∙ ap (λ s. s ++ push chunk) pushing.script-is ∙ ap (λ t. 0x6a ∷ 0x5d ∷ t) (sym (pushed_chunks-push pushing.chunks chunk));
  all = ap (λ t. t ++ behind) (joined_chunks-push pushing.chunks chunk) ∙ append_assoc (joined_chunks pushing.chunks) chunk behind ∙ ap (λ t. joined_chunks pushing.chunks ++ t) (ap (λ t. t ++ behind) chunk-is ∙ ap (λ t. take count rest ++ t) behind-is ∙ take-append-drop count rest) ∙ pushing.all;
  short = short-push pushing.chunks chunk pushing.short short;
}

pub pushes_start : (payload script : List ℕ) → script ≡ 0x6a ∷ 0x5d ∷ [] → Pushing payload script payload
pushes_start payload script is = record { chunks = []; script-is = is; all = refl; short = tt }

pub pushes_end : (payload script rest : List ℕ) (stone : Runestone) → Pushing payload script rest → rest ≡ [] → payload ≡ payload_for stone → Spells script stone
pushes_end payload script rest stone pushing none is = (
  pushed_chunks pushing.chunks,
  pushing.script-is,
  record {
    chunks = pushing.chunks;
    payload-is = sym (append-nil (joined_chunks pushing.chunks)) ∙ ap (λ t. joined_chunks pushing.chunks ++ t) (sym none) ∙ pushing.all ∙ is;
    text-is = refl;
    short = pushing.short;
  },
)
