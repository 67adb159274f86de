-- A body that is read in pieces: what of it is left, and what its sum is of.
use Rattle.std.proofs.Common.{◌≡◌, ◌∙◌, ◌≤◌, ◌+◌, ◌-◌, min, ℕ, Bool, true, false, List, [], ◌++◌, length, take, drop, if◌then◌else◌, refl, sym, ap, subst, arith, length-drop, take-add, take-append-drop, append_assoc}
use Rattle.std.specs.Prelude.{bytes_eq, slice_range}
use Rattle.std.proofs.lemmas.List.{append-nil, length-take, drop-drop, drop-take, take-take}
use Rattle.sha2.specs.Sha256.{sha256}
use Rattle.ox_outside.specs.Files.{Files, file_of}
use Rattle.ox_outside.specs.declared.site.Site.{Ghosts as Meanings}
use Rattle.ox_gated.specs.Parts.{AreParts, GoesOn, HasWalked, IsLeft, MovesOn, Unread, body_in, found_behind, is_intact_in, left_in, walker_behind}
use Rattle.ox_gated.specs.Reading.{fault_at}

-- two pieces, one behind the other
pub slices_then : (file : List ℕ) (at read n : ℕ) → slice_range file at (at + read) ++ slice_range file (at + read) (at + read + n) ≡ slice_range file at (at + (read + n))
slices_then file at read n =
    let first : at + read - at ≡ read = omega arith in
    let second : at + read + n - (at + read) ≡ n = omega arith in
    let both : at + (read + n) - at ≡ read + n = omega arith in
    let from_at = drop at file in
    (λ i. take (first i) from_at ++ take (second i) (sym (drop-drop read at file) i))
    ∙ sym (take-add read n from_at) ∙ ap (λ (k : ℕ). take k from_at) (sym both)

-- nothing yet
pub slice_none : (file : List ℕ) (at : ℕ) → [] ≡ slice_range file at (at + 0)
slice_none file at = let none : at + 0 - at ≡ 0 = omega arith in ap (λ (k : ℕ). take k (drop at file)) (sym none)

-- whether a body is as its sum says
pub intact_by : (parts : Unread) (files : Files) (front sum : List ℕ) (result : Bool) → front ≡ parts.front → sum ≡ sha256 (slice_range (file_of files parts.file) 90 (90 + parts.size)) → result ≡ bytes_eq (slice_range front 26 58) sum
    → result ≡ is_intact_in parts files
intact_by parts files front sum result front_is sum_is is =
    let one : 90 + parts.size - 90 ≡ parts.size = omega arith in
    let body = ap (λ (k : ℕ). sha256 (take k (drop 90 (file_of files parts.file)))) one in
    is ∙ (λ i. bytes_eq (slice_range (front_is i) 26 58) ((sum_is ∙ body) i))

-- a body that is, and what is behind it
pub walked_behind : (parts : Unread) (files : Files) → 90 + parts.size ≤ parts.len → AreParts parts files → is_intact_in parts files ≡ true → HasWalked (walker_behind parts) (body_in parts files) [] files
walked_behind parts files within are right =
    let behind = drop 90 (file_of files parts.file) in
    let size : length (body_in parts files) ≡ parts.size = omega (arith, within, are.there.len, length-take parts.size behind, length-drop 90 (file_of files parts.file)) in
    record {
      there = are.there;
      first = ap (λ (k : ℕ). 90 + k) (sym size);
      count = refl;
      stand = λ reads read.
          are.stand reads read
          ∙ ap (λ (b : Bool). if b then found_behind (walker_behind parts) (body_in parts files) [] files else fault_at parts.file 90) right;
    }

-- ---- a piece more

module _ (parts : Unread) (most n : ℕ) (least : n ≡ min (parts.size - parts.read) most) (window : List ℕ) where
  -- nothing was left
  pub no_more : parts.read ≤ parts.size → 1 ≤ most → n ≡ 0 → MovesOn most false parts parts window window
  no_more within some none =
      let same : parts.read ≡ parts.read + 0 = omega arith in
      record {
        piece = [];
        parts = ap (λ (k : ℕ). record parts { read = k }) same;
        behind = sym (append-nil window);
        within = omega arith;
        inside = omega (arith, within);
        put = λ is. absurd (cc is);
        none_left = λ is. (refl, omega (arith, within, some, none, least));
      }

  abbrev next : Unread
  next = record parts { read = parts.read + n }

  pub moves_on : parts.read ≤ parts.size → 1 ≤ n → (piece later : List ℕ) → length piece ≡ n → later ≡ window ++ piece → MovesOn most true parts next window later
  moves_on within some piece later long behind = record {
    piece = piece;
    parts = ap (λ (k : ℕ). record parts { read = parts.read + k }) (sym long);
    behind = behind;
    within = omega (arith, long, least);
    inside = omega (arith, long, least, within);
    put = λ is. omega (arith, long, some);
    none_left = λ is. absurd (cc is);
  }

  module _ (files : Files) (within : parts.read + n ≤ parts.size) where
    abbrev file : List ℕ
    file = file_of files parts.file

    piece_then : slice_range file (90 + parts.read) (90 + parts.read + n) ++ left_in next files ≡ left_in parts files
    piece_then =
        let read = parts.read in
        let left = parts.size - read in
        let behind = drop 90 file in
        let one : 90 + read + n - (90 + read) ≡ n = omega arith in
        let less : n ≤ left = omega (arith, within) in
        let whole : read + left ≡ parts.size = omega (arith, within) in
        let piece : slice_range file (90 + read) (90 + read + n) ≡ take n (left_in parts files) =
        ap (λ (k : ℕ). take k (drop (90 + read) file)) one ∙ ap (λ (l : List ℕ). take n l) (sym (drop-drop read 90 file))
        ∙ sym (take-take n left (drop read behind) less) ∙ ap (λ (l : List ℕ). take n l) (sym (drop-take read left behind))
        ∙ ap (λ (k : ℕ). take n (drop read (take k behind))) whole in
        (λ i. piece i ++ sym (drop-drop n read (body_in parts files)) i) ∙ take-append-drop n (left_in parts files)

    pub goes_on : {S : Type 0} (means : Meanings S) (old new : S) (rest piece later : List ℕ) → means.told new ≡ means.told old → means.seen new ≡ means.seen old → means.seen old ≡ files → IsLeft means parts old rest
        → piece ≡ slice_range file (90 + parts.read) (90 + parts.read + n) → later ≡ window ++ piece → GoesOn means next new window later rest
    goes_on means old new rest piece later told same_files is_files is piece_is behind =
        let same = same_files ∙ is_files in
        let are : AreParts parts files = subst (AreParts parts) is_files is.are in
        let now : AreParts next files = record { there = are.there; front = are.front; stand = are.stand } in
        let rest_is : rest ≡ left_in parts files = is.is ∙ ap (left_in parts) is_files in
        record {
          next = left_in next files;
          left = record { told = told ∙ is.told; are = subst (AreParts next) (sym same) now; is = ap (left_in next) (sym same) };
          same = ap (λ (l : List ℕ). l ++ left_in next files) behind ∙ append_assoc window piece (left_in next files)
              ∙ ap (λ (l : List ℕ). window ++ l) (ap (λ (l : List ℕ). l ++ left_in next files) piece_is ∙ piece_then ∙ sym rest_is);
        }
