-- How a file is laid out: a gate, a head, a body, and records behind gates. Versions 1 and 2 are
-- laid out alike; version 3 has SHA-256 sums of its head, its body and each record, each of which
-- stands before what it is of.
use Rattle.std.specs.Prelude.{ℕ, ◌-◌, ◌^◌, Bool, true, List, [], ◌∷◌, ◌++◌, length, take}
use Rattle.std.specs.Prelude.{nat_lt, nat_le, ◌==◌, ◌&&◌, ◌||◌, not, bytes_eq, slice_index}
use Rattle.std.specs.Prelude.{slice_range, Option, Some, None, if◌then◌else◌}
use Rattle.std.specs.Int.{w16, w64, to_le_bytes, from_le_bytes}
use Rattle.ox_bytes.specs.Reading.{Reader}
use Rattle.sha2.specs.Sha256.{sha256}
use Rattle.ox_gated.specs.RecordLayout.{plain_payload, plain_record, summed_payload, summed_record}
use Rattle.ox_gated.specs.declared.head.Head.{Head}
use Rattle.ox_gated.specs.declared.head.Opening.{Opening}

-- ---- places of the head's fields, behind the first gate at 0

-- the five letters, `oxidx` or `oxid3`
abbrev pub magic_at : ℕ
magic_at = 1

-- one byte
abbrev pub version_at : ℕ
version_at = 6

-- one byte
abbrev pub profile_at : ℕ
profile_at = 7

-- two bytes
abbrev pub depth_at : ℕ
depth_at = 8

-- eight bytes
abbrev pub generation_at : ℕ
generation_at = 10

-- the body's length, in eight bytes
abbrev pub size_at : ℕ
size_at = 18

-- the sums, or the body where there are none
abbrev pub sums_at : ℕ
sums_at = 26

-- the head's own sum, behind that of the body, and behind it the body
abbrev pub head_sum_at : ℕ
head_sum_at = 58

abbrev pub summed_body_at : ℕ
summed_body_at = 90

-- ---- layouts

-- what differs from version to version
pub record Layout : Type 0 where
  -- the five bytes behind the first gate
  pub letters : List ℕ
  -- where the body begins
  pub body_at : ℕ
  -- what stands right before the body, by what stands between that and the gate, and by the body
  pub sums : List ℕ → List ℕ → List ℕ
  -- of the bytes before a body: they are as their own sum says
  pub is_head : List ℕ → Bool
  -- of the bytes before a body, and of the body: it is as its sum among them says
  pub is_body : List ℕ → List ℕ → Bool
  -- how many bytes stand before a payload, from its record's gate on
  pub before_payload : ℕ
  -- a payload is shorter than this
  pub payload_limit : ℕ
  -- the payload in the bytes behind a record's gate, and what stands behind it, by the file's
  -- generation and the gate's place
  pub payload_at : ℕ → ℕ → Reader (List ℕ)
  -- what stands behind the gate for a payload, by the same two
  pub record_bytes : ℕ → ℕ → List ℕ → List ℕ

-- without sums
abbrev pub plain : Layout
plain = record {
  letters = 111 ∷ 120 ∷ 105 ∷ 100 ∷ 120 ∷ [];
  body_at = sums_at;
  sums = λ front body. [];
  is_head = λ front. true;
  is_body = λ front body. true;
  before_payload = 5;
  payload_limit = 2 ^ 32;
  payload_at = λ generation place. plain_payload;
  record_bytes = λ generation place. plain_record;
}

-- with them
abbrev pub summed : Layout
summed = record {
  letters = 111 ∷ 120 ∷ 105 ∷ 100 ∷ 51 ∷ [];
  body_at = summed_body_at;
  sums = λ front body. sha256 body ++ sha256 (front ++ sha256 body);
  is_head = λ front.
      bytes_eq (slice_range front head_sum_at summed_body_at)
      (sha256 (slice_range front magic_at head_sum_at));
  is_body = λ front body. bytes_eq (slice_range front sums_at head_sum_at) (sha256 body);
  before_payload = 41;
  payload_limit = 2 ^ 64;
  payload_at = summed_payload;
  record_bytes = summed_record;
}

-- whether the files of this version have sums
abbrev pub is_summed : ℕ → Bool
is_summed version = version == 3

-- how the files of this version are laid out
unfoldable pub layout_of : ℕ → Layout
layout_of version = if is_summed version then summed else plain

-- where the body of a file of version 1 or 2 begins
abbrev pub body_at : ℕ
body_at = sums_at

-- ---- heads

-- a version of 1 to 3, a known profile, a depth of 1 to 1,000 and a generation other than 0
abbrev pub is_lawful : Head → Bool
is_lawful head =
    (head.version == 1 || head.version == 2 || head.version == 3) && nat_lt head.profile 3
    && nat_le 1 head.depth && nat_le head.depth 1000 && not (head.generation == 0)

-- what stands between the first gate and the sums: the head, and the body's length
abbrev pub head_front : Head → ℕ → List ℕ
head_front head size =
    (layout_of head.version).letters ++ head.version ∷ head.profile ∷ to_le_bytes w16 head.depth
    ++ to_le_bytes w64 head.generation ++ to_le_bytes w64 size

-- what stands between the first gate and the body
abbrev pub head_bytes : Head → List ℕ → List ℕ
head_bytes head body =
    head_front head (length body)
    ++ (layout_of head.version).sums (head_front head (length body)) body

-- a file without records, but for its first gate
abbrev pub checkpoint_bytes : Head → List ℕ → List ℕ
checkpoint_bytes head body = head_bytes head body ++ body ++ 0 ∷ []

-- the body, by what stands behind the head of a file without records: all but the last gate
abbrev pub body_before : List ℕ → List ℕ
body_before bytes = take (length bytes - 1) bytes

-- a head and a body
pub record Whole : Type 0 where
  pub head : Head
  pub body : List ℕ

-- a file of length 0, or whose first gate is closed
abbrev pub is_closed : List ℕ → Bool
is_closed [] = true
is_closed (gate ∷ file) = gate == 0

-- what the bytes before the body say, whether they have the form or not
abbrev pub opening_at : List ℕ → Opening
opening_at file = record {
  head = record {
    version = slice_index file version_at;
    profile = slice_index file profile_at;
    depth = from_le_bytes w16 (slice_range file depth_at generation_at);
    generation = from_le_bytes w64 (slice_range file generation_at size_at);
  };
  size = from_le_bytes w64 (slice_range file size_at sums_at);
}

-- the bytes before a body are there, with the letters and the sum of this layout
abbrev pub has_layout : Layout → List ℕ → Bool
has_layout layout file =
    nat_le layout.body_at (length file)
    && bytes_eq (slice_range file magic_at version_at) layout.letters
    && layout.is_head (take layout.body_at file)

-- the head of an open file, where its bytes before the body are there and have the form
abbrev pub head_of : List ℕ → Option Opening
head_of file =
    let opening = opening_at file in
    if is_lawful opening.head && has_layout (layout_of opening.head.version) file
    then Some opening else None
