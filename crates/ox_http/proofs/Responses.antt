-- What is written of a reply is a response head of the parser's grammar.
use Rattle.std.proofs.Common.{◌≡◌, ◌≢◌, ℕ, ◌+◌, ◌/◌, ◌%◌, ◌<◌, ◌≤◌, ◌^◌, Bool, true, false, cond, ◌==◌, List, [], ◌∷◌, ◌++◌, length, map, reverse, codes, Option, Some, None, refl, sym, ap, ◌∙◌, subst, arith, append_assoc, nat_le}
use Rattle.std.proofs.lemmas.Bool.{and_from, and_parts, eqb-true, le-leb, leb-true, ne_eqb}
use Rattle.std.proofs.lemmas.Fmt.{decimal_is_IsNumeral, decimal_step}
use Rattle.std.proofs.lemmas.List.{length-append, reverse-reverse}
use Rattle.std.proofs.lemmas.List.Elements.{All-head, All-cons, All-nil, All-append, All-weaker}
use Rattle.std.proofs.lemmas.List.Sums.{AllPass-from_list_all}
use Rattle.std.proofs.lemmas.Str.Parse.{digit_from_value}
use Rattle.std.specs.Char.{is_ascii_digit}
use Rattle.std.specs.Fmt.{decimal}
use Rattle.std.specs.List.{All, AllPass, flat_map, list_all}
use Rattle.std.specs.Option.{ForSome}
use Rattle.std.specs.Str.Parse.{AllDigits, digits_value}
use Rattle.httparse.specs.Grammar.{crlf, print_end, Field, IsField, print_field, ResponseHead, ReadsResponse, print_response, is_token_byte, is_value_byte, is_ows, skip_ows, trim_ows}
use Rattle.httparse.specs.Spans.{name_and_value}
use Rattle.itoa.proofs.Decimal.{length_one}
use Rattle.httparse.proofs.GrammarLemmas.{response_unique}
use Rattle.httparse.proofs.TrimLemmas.{AllPass-reverse}
use Rattle.ox_http.specs.declared.Reply.{Reply}
use Rattle.ox_http.specs.Response.{Heads, IsPrintable, close_fields, encoding_fields}
use Rattle.ox_http.specs.Written.{close_line, encoding_line, kind_line, length_line, phrase_of, written, written_head}

-- ---- numbers

digits_pass : (ds : List ℕ) → AllDigits 10 ds → AllPass is_ascii_digit ds
digits_pass [] all = All-nil (λ b. is_ascii_digit b ≡ true)
digits_pass (c ∷ ds) all =
    let range = digit_from_value c all.0 in
    All-cons (λ b. is_ascii_digit b ≡ true) c ds
    (and_from (nat_le 48 c) (nat_le c 57) (le-leb 48 c range.0) (le-leb c 57 range.1))
    (digits_pass ds all.1)

decimal_pass : (n : ℕ) → n < 2 ^ 64 → AllPass is_ascii_digit (decimal n)
decimal_pass n h = digits_pass (decimal n) (decimal_is_IsNumeral n h).0.1

-- a number from 100 to 999 has three digits
three_digits : (n : ℕ) → 100 ≤ n → n < 1000 → length (decimal n) ≡ 3
three_digits n low high =
    omega (
      arith,
      ap length (decimal_step n (omega arith) (omega arith)),
      length-append (decimal (n / 10)) ((48 + n % 10) ∷ []),
      ap length (decimal_step (n / 10) (omega arith) (omega arith)),
      length-append (decimal (n / 10 / 10)) ((48 + n / 10 % 10) ∷ []),
      length_one (n / 10 / 10) (omega arith),
    )

-- a digit is no white space, and a byte of a value
digit_plain : (b : ℕ) → is_ascii_digit b ≡ true → is_ows b ≡ false
digit_plain b h =
    let parts = and_parts (nat_le 48 b) (nat_le b 57) h in
    let low = leb-true 48 b parts.0 in
    rw (ne_eqb b 32 (omega (arith, low)), ne_eqb b 9 (omega (arith, low))) refl

digit_value_byte : (b : ℕ) → is_ascii_digit b ≡ true → is_value_byte b ≡ true
digit_value_byte b h =
    let parts = and_parts (nat_le 48 b) (nat_le b 57) h in
    let low = leb-true 48 b parts.0 in
    let high = leb-true b 57 parts.1 in
    rw (
      ne_eqb b 9 (omega (arith, low)),
      ne_eqb b 127 (omega (arith, high)),
      le-leb 32 b (omega (arith, low)),
    ) refl

digits_kept : (ds : List ℕ) → AllPass is_ascii_digit ds → skip_ows ds ≡ ds
digits_kept [] all = refl
digits_kept (b ∷ ds) all =
    rw (digit_plain b (All-head (λ c. is_ascii_digit c ≡ true) b ds all)) refl

digits_trim : (ds : List ℕ) → AllPass is_ascii_digit ds → trim_ows ds ≡ ds
unfolding trim_ows
digits_trim ds all =
    ap (λ z. reverse (skip_ows (reverse z))) (digits_kept ds all)
    ∙ ap reverse (digits_kept (reverse ds) (AllPass-reverse is_ascii_digit ds all))
    ∙ reverse-reverse ds

-- ---- the status

-- a status that a head can have, with its phrase
record IsCode (status : ℕ) : Type 0 where
  three : length (decimal status) ≡ 3
  digits : AllPass is_ascii_digit (decimal status)
  code : digits_value 10 (decimal status) ≡ status
  phrase : AllPass is_value_byte (phrase_of status)

code_step : (k : ℕ) → IsCode k → (status : ℕ) (text later : List ℕ)
    → (later ≢ [] → IsCode status) → cond (status == k) text later ≢ [] → IsCode status
code_step k is status text later again some = by (status == k) refl some
  where
    by : (v : Bool) → (status == k) ≡ v → cond v text later ≢ [] → IsCode status
    by true e here = subst IsCode (sym (eqb-true status k e)) is
    by false e here = again here

code_of : (status : ℕ) → 100 ≤ status → status < 1000
    → list_all is_value_byte (phrase_of status) ≡ true → IsCode status
code_of status low high phrase = record {
  three = three_digits status low high;
  digits = decimal_pass status (omega arith);
  code = (decimal_is_IsNumeral status (omega arith)).1;
  phrase = AllPass-from_list_all is_value_byte (phrase_of status) phrase;
}

code_is : (status : ℕ) → phrase_of status ≢ [] → IsCode status
code_is status some =
    code_step 200 (code_of 200 (omega arith) (omega arith) refl) status _ _
    (code_step 400 (code_of 400 (omega arith) (omega arith) refl) status _ _
    (code_step 403 (code_of 403 (omega arith) (omega arith) refl) status _ _
    (code_step 404 (code_of 404 (omega arith) (omega arith) refl) status _ _
    (code_step 405 (code_of 405 (omega arith) (omega arith) refl) status _ _
    (code_step 409 (code_of 409 (omega arith) (omega arith) refl) status _ _
    (code_step 411 (code_of 411 (omega arith) (omega arith) refl) status _ _
    (code_step 413 (code_of 413 (omega arith) (omega arith) refl) status _ _
    (code_step 431 (code_of 431 (omega arith) (omega arith) refl) status _ _
    (λ none. absurd (none refl)))))))))) some

-- ---- the fields

-- a line of a name and a value behind a space
abbrev field_with : List ℕ → List ℕ → Field
field_with name value = record { name = name; raw = 32 ∷ value; end = crlf }

abbrev encoding_lines : Option (List ℕ) → List Field
encoding_lines None = []
encoding_lines (Some encoding) = field_with (codes "Content-Encoding") encoding ∷ []

abbrev close_lines : Bool → List Field
close_lines true = field_with (codes "Connection") (codes "close") ∷ []
close_lines false = []

abbrev lines : List ℕ → Option (List ℕ) → ℕ → Bool → List Field
lines kind encoding n close =
    field_with (codes "Content-Type") kind ∷ encoding_lines encoding
    ++ field_with (codes "Content-Length") (decimal n) ∷ close_lines close

field_is : (name value : List ℕ) → 0 < length name → list_all is_token_byte name ≡ true
    → AllPass is_value_byte value → IsField (field_with name value)
field_is name value some token all = record {
  name = (some, AllPass-from_list_all is_token_byte name token);
  raw = All-cons (λ b. is_value_byte b ≡ true) 32 value refl all;
}

lines_are : (kind : List ℕ) (encoding : Option (List ℕ)) (n : ℕ) (close : Bool)
    → AllPass is_value_byte kind → ForSome encoding (AllPass is_value_byte) → n < 2 ^ 64
    → All IsField (lines kind encoding n close)
unfolding is_token_byte
lines_are kind encoding n close kinds encodings small =
    All-cons IsField (field_with (codes "Content-Type") kind)
    (encoding_lines encoding ++ behind)
    (field_is (codes "Content-Type") kind (omega arith) refl kinds)
    (All-append IsField (encoding_lines encoding) behind (encoded encoding encodings)
    (All-cons IsField (field_with (codes "Content-Length") (decimal n)) (close_lines close)
    (field_is (codes "Content-Length") (decimal n) (omega arith) refl numbers)
    (closed close)))
  where
    behind : List Field
    behind = field_with (codes "Content-Length") (decimal n) ∷ close_lines close

    numbers : AllPass is_value_byte (decimal n)
    numbers = All-weaker (λ b. is_ascii_digit b ≡ true) (λ b. is_value_byte b ≡ true)
        digit_value_byte (decimal n) (decimal_pass n small)

    encoded : (o : Option (List ℕ)) → ForSome o (AllPass is_value_byte)
        → All IsField (encoding_lines o)
    encoded None all = All-nil IsField
    encoded (Some text) all =
        All-cons IsField (field_with (codes "Content-Encoding") text) []
        (field_is (codes "Content-Encoding") text (omega arith) refl (all text refl)) (All-nil IsField)

    closed : (v : Bool) → All IsField (close_lines v)
    closed false = All-nil IsField
    closed true =
        All-cons IsField (field_with (codes "Connection") (codes "close")) []
        (field_is (codes "Connection") (codes "close") (omega arith) refl
        (AllPass-from_list_all is_value_byte (codes "close") refl)) (All-nil IsField)

-- a value behind a space has the same ends
trim_space : (value : List ℕ) → trim_ows (32 ∷ value) ≡ trim_ows value
unfolding trim_ows
trim_space value = refl

fields_are : (kind : List ℕ) (encoding : Option (List ℕ)) (n : ℕ) (close : Bool) → n < 2 ^ 64
    → map name_and_value (lines kind encoding n close)
    ≡ (codes "Content-Type", trim_ows kind) ∷ encoding_fields encoding
    ++ (codes "Content-Length", decimal n) ∷ close_fields close
unfolding trim_ows
fields_are kind encoding n close small = by encoding close
  where
    number : trim_ows (32 ∷ decimal n) ≡ decimal n
    number = trim_space (decimal n) ∙ digits_trim (decimal n) (decimal_pass n small)

    by : (o : Option (List ℕ)) (v : Bool) → map name_and_value (lines kind o n v)
        ≡ (codes "Content-Type", trim_ows kind) ∷ encoding_fields o
        ++ (codes "Content-Length", decimal n) ∷ close_fields v
    by None false = rw number refl
    by None true = rw number refl
    by (Some text) false = rw number refl
    by (Some text) true = rw number refl

-- ---- the head

abbrev head_for : Reply → ResponseHead
head_for reply = record {
  blank = [];
  minor = 1;
  digits = decimal reply.status;
  reason = Some (phrase_of reply.status);
  line_end = crlf;
  fields = lines reply.kind reply.encoding (length reply.body) reply.close;
  last = crlf;
}

-- the lines as they are written
section_is : (kind : List ℕ) (encoding : Option (List ℕ)) (n : ℕ) (close : Bool)
    → flat_map print_field (lines kind encoding n close)
    ≡ kind_line kind ++ (encoding_line encoding ++ (length_line n ++ close_line close))
section_is kind None n false = refl
section_is kind None n true = refl
section_is kind (Some encoding) n false = refl
section_is kind (Some encoding) n true = refl

-- the parts of a head, put together as the two definitions do
arranged : (h d p e k m l c : List ℕ)
    → (h ++ 32 ∷ [] ++ d ++ 32 ∷ [] ++ p ++ e) ++ k ++ m ++ l ++ c ++ e
    ≡ h ++ 32 ∷ d ++ 32 ∷ p ++ e ++ (k ++ (m ++ (l ++ c)) ++ e)
arranged h d p e k m l c = simp append_assoc

head_is : (reply : Reply)
    → written_head reply.status reply.kind reply.encoding (length reply.body) reply.close
    ≡ print_response (head_for reply)
unfolding print_response
head_is reply =
    arranged (codes "HTTP/1.1") (decimal reply.status) (phrase_of reply.status) (print_end crlf)
    (kind_line reply.kind) (encoding_line reply.encoding) (length_line (length reply.body))
    (close_line reply.close)
    ∙ ap (λ z. codes "HTTP/1.1" ++ 32 ∷ decimal reply.status ++ 32 ∷ phrase_of reply.status
    ++ print_end crlf ++ (z ++ print_end crlf))
    (sym (section_is reply.kind reply.encoding (length reply.body) reply.close))

written_is : (reply : Reply) → written reply ≡ print_response (head_for reply) ++ reply.body
unfolding written
written_is reply = ap (λ z. z ++ reply.body) (head_is reply)

heads : (reply : Reply) → IsPrintable reply → IsCode reply.status → Heads (head_for reply) reply
heads reply is code = record {
  minor = refl;
  status = code.code;
  phrase = refl;
  fields = fields_are reply.kind reply.encoding (length reply.body) reply.close is.body;
}

reads : (reply : Reply) → IsPrintable reply → IsCode reply.status
    → ReadsResponse (written reply) (head_for reply) reply.body
reads reply is code = (
  record {
    minor = omega arith;
    digits = (code.three, code.digits);
    reason = code.phrase;
    fields = lines_are reply.kind reply.encoding (length reply.body) reply.close is.kind is.encoding is.body;
  },
  written_is reply,
)

pub reply_reads : (reply : Reply) → IsPrintable reply
    → (head : ResponseHead) × ReadsResponse (written reply) head reply.body × Heads head reply
reply_reads reply is =
    let code = code_is reply.status is.phrase in
    (head_for reply, reads reply is code, heads reply is code)

pub reply_only : (reply : Reply) (head : ResponseHead) (rest : List ℕ) → IsPrintable reply
    → ReadsResponse (written reply) head rest → (rest ≡ reply.body) × Heads head reply
reply_only reply head rest is other =
    let code = code_is reply.status is.phrase in
    let same = response_unique (written reply) (head_for reply) head reply.body rest
    (reads reply is code) other in
    (sym same.1, subst (λ h. Heads h reply) same.0 (heads reply is code))
