-- The heads of the definitions are those of the parser's grammar.
use Rattle.std.proofs.Common.{◌≡◌, ℕ, suc, ◌<◌, ◌≤◌, Bool, true, false, not, cond, ◌&&◌, ◌==◌, List, [], ◌∷◌, ◌++◌, length, map, codes, Option, Some, None, refl, sym, ap, ◌∙◌, subst, ap₂, true≢false, arith, append_assoc, append-nil, nat_lt, nat_le}
use Rattle.std.proofs.lemmas.Bool.{eq-eqb, ne_eqb, eqb-true, eqb-false, and_parts, and_from, ltb-true, lt-ltb, leb-true, le-leb}
use Rattle.std.proofs.lemmas.List.Elements.{All-head, All-tail, All-cons, All-nil, All-append, All-weaker}
use Rattle.std.proofs.lemmas.List.Sums.{AllPass-from_list_all, list_all-from_AllPass}
use Rattle.std.proofs.lemmas.List.{length-map}
use Rattle.std.proofs.lemmas.Str.{IsUtf8-from_is_utf8, is_utf8-from_IsUtf8}
use Rattle.std.proofs.lemmas.Slice.Eq.{bytes_eq-Decides}
use Rattle.std.specs.Option.{option_map, option_and_then}
use Rattle.std.specs.List.{All, AllPass, list_all}
use Rattle.std.specs.Str.{IsUtf8, is_utf8, bytes_eq}
use Rattle.httparse.specs.Grammar.{LineEnd, crlf, lf, print_end, print_blank, print_version, Field, IsField, print_section, RequestHead, print_request, IsRequestHead, ReadsRequest, is_token_byte, is_token, is_uri_byte, is_value_byte, trim_ows}
use Rattle.httparse.specs.Spans.{name_and_value}
use Rattle.httparse.proofs.GrammarLemmas.{print_request-append}
use Rattle.ox_http.specs.Head.{Head, Start, NameAndValue, cut_at, minor_of, is_target, start_from, start_of, field_from, field_of, fields_with, is_end, fields_of, head_from, head_in, head_of, seen, IsHead}
use Rattle.ox_http.specs.Lines.{begun_with, begins_with_feed, lines_of}

-- a byte that ends no line, nor stands at the end of one
abbrev is_plain : ℕ → Bool
is_plain b = not (b == 10) && not (b == 13)

plain_ten : (b : ℕ) → is_plain b ≡ true → (b == 10) ≡ false
plain_ten b p = by (b == 10) (and_parts (not (b == 10)) (not (b == 13)) p).0
  where
    by : (v : Bool) → not v ≡ true → v ≡ false
    by true e = sym e
    by false e = refl

plain_thirteen : (b : ℕ) → is_plain b ≡ true → (b == 13) ≡ false
plain_thirteen b p = by (b == 13) (and_parts (not (b == 10)) (not (b == 13)) p).1
  where
    by : (v : Bool) → not v ≡ true → v ≡ false
    by true e = sym e
    by false e = refl

-- a byte that passes a test isn't one that doesn't
apart : (test : ℕ → Bool) (b c : ℕ) → test c ≡ false → test b ≡ true → (b == c) ≡ false
apart test b c out in' = ne_eqb b c (λ e. true≢false (sym in' ∙ ap test e ∙ out))

plain_from : (test : ℕ → Bool) → test 10 ≡ false → test 13 ≡ false → (b : ℕ) → test b ≡ true
    → is_plain b ≡ true
plain_from test ten thirteen b in' = rw (apart test b 10 ten in', apart test b 13 thirteen in') refl

-- ---- lines

line-append : (x y : List ℕ) (e : LineEnd) → AllPass is_plain x
    → lines_of (x ++ (print_end e ++ y)) ≡ x ∷ lines_of y
unfolding lines_of
line-append [] y crlf all = refl
line-append [] y lf all = refl
line-append (b ∷ x) y e all =
    let plain = All-head (λ c. is_plain c ≡ true) b x all in
    rw (
      plain_ten b plain,
      plain_thirteen b plain,
      line-append x y e (All-tail (λ c. is_plain c ≡ true) b x all),
    ) refl

-- the bytes of a first line, which others follow
record Cut (bytes line : List ℕ) (lines : List (List ℕ)) : Type 0 where
  end : LineEnd
  rest : List ℕ
  bytes_are : bytes ≡ line ++ (print_end end ++ rest)
  lines_are : lines_of rest ≡ lines

-- a feed behind a byte begins the bytes behind it
feed_first : (bytes : List ℕ) → begins_with_feed bytes ≡ true
    → (rest : List ℕ) × (bytes ≡ 10 ∷ rest)
feed_first [] e = absurd (true≢false (sym e))
feed_first (c ∷ bytes) e = (bytes, ap (λ x. x ∷ bytes) (eqb-true c 10 e))

cut_return : (b : ℕ) (bytes line next : List ℕ) (lines : List (List ℕ)) → b ≡ 13
    → (found : (rest : List ℕ) × (bytes ≡ 10 ∷ rest)) → lines_of bytes ≡ line ∷ next ∷ lines
    → Cut (b ∷ bytes) line (next ∷ lines)
unfolding lines_of
cut_return b bytes line next lines is (rest, f) h =
    let h' : [] ∷ lines_of rest ≡ line ∷ next ∷ lines = sym (ap lines_of f) ∙ h in
    let nil : [] ≡ line = cc in
    record {
      end = crlf;
      rest = rest;
      bytes_are = ap₂ (λ x y. x ∷ y) is f ∙ ap (λ z. z ++ (13 ∷ 10 ∷ rest)) nil;
      lines_are = cc;
    }

cut_begun : (b : ℕ) (bytes line next : List ℕ) (lines ls : List (List ℕ)) → lines_of bytes ≡ ls
    → begun_with b ls ≡ line ∷ next ∷ lines
    → ((l : List ℕ) → lines_of bytes ≡ l ∷ next ∷ lines → Cut bytes l (next ∷ lines))
    → Cut (b ∷ bytes) line (next ∷ lines)
cut_begun b bytes line next lines [] g h again =
    let f : [] ≡ next ∷ lines = cc in absurd (let no : ⊥ = cc in no)
cut_begun b bytes line next lines (l ∷ ls) g h again =
    let line_is : b ∷ l ≡ line = cc in
    let ls_are : ls ≡ next ∷ lines = cc in
    let found = again l (g ∙ ap (λ z. l ∷ z) ls_are) in
    record {
      end = found.end;
      rest = found.rest;
      bytes_are = ap (λ z. b ∷ z) found.bytes_are
          ∙ ap (λ z. z ++ (print_end found.end ++ found.rest)) line_is;
      lines_are = found.lines_are;
    }

cut_by : (b : ℕ) (bytes line next : List ℕ) (lines : List (List ℕ)) (v w : Bool) → (b == 10) ≡ v
    → (b == 13 && begins_with_feed bytes) ≡ w
    → cond v ([] ∷ lines_of bytes) (cond w (lines_of bytes) (begun_with b (lines_of bytes)))
    ≡ line ∷ next ∷ lines
    → ((l : List ℕ) → lines_of bytes ≡ l ∷ next ∷ lines → Cut bytes l (next ∷ lines))
    → Cut (b ∷ bytes) line (next ∷ lines)
cut_by b bytes line next lines true w ten feed h again =
    let nil : [] ≡ line = cc in
    record {
      end = lf;
      rest = bytes;
      bytes_are = ap (λ x. x ∷ bytes) (eqb-true b 10 ten) ∙ ap (λ z. z ++ (10 ∷ bytes)) nil;
      lines_are = cc;
    }
cut_by b bytes line next lines false true ten feed h again =
    let parts = and_parts (b == 13) (begins_with_feed bytes) feed in
    cut_return b bytes line next lines (eqb-true b 13 parts.0) (feed_first bytes parts.1) h
cut_by b bytes line next lines false false ten feed h again =
    cut_begun b bytes line next lines (lines_of bytes) refl h again

cut_line : (bytes line next : List ℕ) (lines : List (List ℕ)) → lines_of bytes ≡ line ∷ next ∷ lines
    → Cut bytes line (next ∷ lines)
unfolding lines_of
cut_line [] line next lines e = let f : [] ≡ next ∷ lines = cc in absurd (let no : ⊥ = cc in no)
cut_line (b ∷ bytes) line next lines e =
    cut_by b bytes line next lines (b == 10) (b == 13 && begins_with_feed bytes) refl refl e
    (λ l g. cut_line bytes l next lines g)

begun_some : (b : ℕ) (ls : List (List ℕ)) → begun_with b ls ≡ [] → ⊥
begun_some b [] h = cc
begun_some b (l ∷ ls) h = cc

begun_empty : (b : ℕ) (ls : List (List ℕ)) → begun_with b ls ≡ [] ∷ [] → ⊥
begun_empty b [] h = cc
begun_empty b (l ∷ ls) h = cc

-- there is a line
some_line : (bytes : List ℕ) → lines_of bytes ≡ [] → ⊥
unfolding lines_of
some_line [] e = cc
some_line (b ∷ bytes) e = by (b == 10) (b == 13 && begins_with_feed bytes) e (some_line bytes)
  where
    by : (v w : Bool)
        → cond v ([] ∷ lines_of bytes) (cond w (lines_of bytes) (begun_with b (lines_of bytes))) ≡ []
        → (lines_of bytes ≡ [] → ⊥) → ⊥
    by true w h again = cc
    by false true h again = again h
    by false false h again = begun_some b (lines_of bytes) h

-- where nothing is behind the last line feed, and no line before it, there are no bytes
no_lines : (bytes : List ℕ) → lines_of bytes ≡ [] ∷ [] → bytes ≡ []
unfolding lines_of
no_lines [] e = refl
no_lines (b ∷ bytes) e =
    absurd (by (b == 10) (b == 13 && begins_with_feed bytes) refl e (no_lines bytes))
  where
    by : (v w : Bool) → (b == 13 && begins_with_feed bytes) ≡ w
        → cond v ([] ∷ lines_of bytes) (cond w (lines_of bytes) (begun_with b (lines_of bytes)))
        ≡ [] ∷ [] → (lines_of bytes ≡ [] ∷ [] → bytes ≡ []) → ⊥
    by true w feed h again = some_line bytes (let none : lines_of bytes ≡ [] = cc in none)
    by false true feed h again =
        let parts = and_parts (b == 13) (begins_with_feed bytes) feed in
        true≢false (sym parts.1 ∙ ap begins_with_feed (again h))
    by false false feed h again = begun_empty b (lines_of bytes) h

-- ---- words

-- the first byte c, where none before it is one
cut-append : (test : ℕ → Bool) (c : ℕ) → test c ≡ false → (x y : List ℕ) → AllPass test x
    → cut_at c (x ++ c ∷ y) ≡ Some (x, y)
cut-append test c out [] y all = rw (eq-eqb c c refl) refl
cut-append test c out (b ∷ x) y all =
    let here = All-head (λ a. test a ≡ true) b x all in
    rw (apart test b c out here, cut-append test c out x y (All-tail (λ a. test a ≡ true) b x all)) refl

abbrev put_front : ℕ → Option (List ℕ × List ℕ) → Option (List ℕ × List ℕ)
put_front b found = option_map (λ (parts : List ℕ × List ℕ). (b ∷ parts.0, parts.1)) found

cut_at_sound : (c : ℕ) (bytes x y : List ℕ) → cut_at c bytes ≡ Some (x, y) → bytes ≡ x ++ c ∷ y
cut_at_sound c [] x y e = absurd (let no : ⊥ = cc in no)
cut_at_sound c (b ∷ bytes) x y e =
    by (b == c) refl e (cut_at c bytes) refl (cut_at_sound c bytes)
  where
    later : (found : Option (List ℕ × List ℕ)) → cut_at c bytes ≡ found
        → put_front b found ≡ Some (x, y)
        → ((u v : List ℕ) → cut_at c bytes ≡ Some (u, v) → bytes ≡ u ++ c ∷ v)
        → b ∷ bytes ≡ x ++ c ∷ y
    later None f h again = absurd (let no : ⊥ = cc in no)
    later (Some parts) f h again =
        let same : (b ∷ parts.0, parts.1) ≡ (x, y) = cc in
        let first : b ∷ parts.0 ≡ x = ap (λ (z : List ℕ × List ℕ). z.0) same in
        let second : parts.1 ≡ y = ap (λ (z : List ℕ × List ℕ). z.1) same in
        ap (λ z. b ∷ z) (again parts.0 parts.1 f) ∙ ap₂ (λ z w. z ++ c ∷ w) first second

    by : (v : Bool) → (b == c) ≡ v
        → cond v (Some ([], bytes)) (put_front b (cut_at c bytes)) ≡ Some (x, y)
        → (found : Option (List ℕ × List ℕ)) → cut_at c bytes ≡ found
        → ((u v : List ℕ) → cut_at c bytes ≡ Some (u, v) → bytes ≡ u ++ c ∷ v)
        → b ∷ bytes ≡ x ++ c ∷ y
    by true is h found f again =
        let same : ([], bytes) ≡ (x, y) = cc in
        let first : [] ≡ x = ap (λ (z : List ℕ × List ℕ). z.0) same in
        let second : bytes ≡ y = ap (λ (z : List ℕ × List ℕ). z.1) same in
        ap₂ (λ z w. z ∷ w) (eqb-true b c is) refl ∙ ap₂ (λ z w. z ++ c ∷ w) first second
    by false is h found f again = later (cut_at c bytes) refl h again

-- ---- fields

abbrev line_of : Field → List ℕ
line_of f = f.name ++ 58 ∷ f.raw

token_plain : (xs : List ℕ) → AllPass is_token_byte xs → AllPass is_plain xs
unfolding is_token_byte
token_plain xs all =
    All-weaker (λ b. is_token_byte b ≡ true) (λ b. is_plain b ≡ true)
    (plain_from is_token_byte refl refl) xs all

value_plain : (xs : List ℕ) → AllPass is_value_byte xs → AllPass is_plain xs
value_plain xs all =
    All-weaker (λ b. is_value_byte b ≡ true) (λ b. is_plain b ≡ true)
    (plain_from is_value_byte refl refl) xs all

uri_plain : (xs : List ℕ) → AllPass is_uri_byte xs → AllPass is_plain xs
uri_plain xs all =
    All-weaker (λ b. is_uri_byte b ≡ true) (λ b. is_plain b ≡ true)
    (plain_from is_uri_byte refl refl) xs all

field_plain : (f : Field) → IsField f → AllPass is_plain (line_of f)
field_plain f h =
    All-append (λ b. is_plain b ≡ true) f.name (58 ∷ f.raw) (token_plain f.name h.name.1)
    (All-cons (λ b. is_plain b ≡ true) 58 f.raw refl (value_plain f.raw h.raw))

is_token_from : (xs : List ℕ) → (0 < length xs) × AllPass is_token_byte xs → is_token xs ≡ true
is_token_from xs h =
    and_from (nat_lt 0 (length xs)) (list_all is_token_byte xs) (lt-ltb 0 (length xs) h.0)
    (list_all-from_AllPass is_token_byte xs h.1)

token_is : (xs : List ℕ) → is_token xs ≡ true → (0 < length xs) × AllPass is_token_byte xs
token_is xs h =
    let parts = and_parts (nat_lt 0 (length xs)) (list_all is_token_byte xs) h in
    (ltb-true 0 (length xs) parts.0, AllPass-from_list_all is_token_byte xs parts.1)

field_of-line : (f : Field) → IsField f → field_of (line_of f) ≡ Some (name_and_value f)
unfolding is_token_byte
field_of-line f h =
    rw (cut-append is_token_byte 58 refl f.name f.raw h.name.1)
    (rw (is_token_from f.name h.name, list_all-from_AllPass is_value_byte f.raw h.raw) refl)

not_empty : (x : List ℕ) (c : ℕ) (y : List ℕ) → (length (x ++ c ∷ y) == 0) ≡ false
not_empty [] c y = ne_eqb (suc (length y)) 0 (omega arith)
not_empty (b ∷ x) c y = ne_eqb (suc (length (x ++ c ∷ y))) 0 (omega arith)

print-field : (f : Field) (fs : List Field) (last : LineEnd)
    → print_section (f ∷ fs) last ≡ line_of f ++ (print_end f.end ++ print_section fs last)
print-field f fs last = simp append_assoc

fields_of-section : (fs : List Field) (last : LineEnd) → All IsField fs
    → fields_of (lines_of (print_section fs last)) ≡ Some (map name_and_value fs)
unfolding lines_of
fields_of-section [] crlf all = refl
fields_of-section [] lf all = refl
fields_of-section (f ∷ fs) last all =
    let here = All-head IsField f fs all in
    ap (λ z. fields_of (lines_of z)) (print-field f fs last)
    ∙ ap fields_of (line-append (line_of f) (print_section fs last) f.end (field_plain f here))
    ∙ rw (
      not_empty f.name 58 f.raw,
      field_of-line f here,
      fields_of-section fs last (All-tail IsField f fs all),
    ) refl

-- ---- start lines

abbrev start_line : RequestHead → List ℕ
start_line g = g.method ++ 32 ∷ (g.target ++ 32 ∷ print_version g.minor)

-- a number up to 1 is one of two
two_minors : (P : ℕ → Type 0) → P 0 → P 1 → (n : ℕ) → n ≤ 1 → P n
two_minors P none one n h = by (n == 0) refl
  where
    by : (v : Bool) → (n == 0) ≡ v → P n
    by true e = subst P (sym (eqb-true n 0 e)) none
    by false e = let isnt = eqb-false n 0 e in let is : 1 ≡ n = omega (arith, isnt) in subst P is one

minor_of-version : (n : ℕ) → n ≤ 1 → minor_of (print_version n) ≡ Some n
minor_of-version n h = two_minors (λ m. minor_of (print_version m) ≡ Some m) refl refl n h

version_plain : (n : ℕ) → n ≤ 1 → AllPass is_plain (print_version n)
version_plain n h =
    two_minors (λ m. AllPass is_plain (print_version m))
    (AllPass-from_list_all is_plain (print_version 0) refl)
    (AllPass-from_list_all is_plain (print_version 1) refl) n h

start_plain : (g : RequestHead) → IsRequestHead g → AllPass is_plain (start_line g)
start_plain g h =
    All-append (λ b. is_plain b ≡ true) g.method (32 ∷ (g.target ++ 32 ∷ print_version g.minor))
    (token_plain g.method h.method.1)
    (All-cons (λ b. is_plain b ≡ true) 32 (g.target ++ 32 ∷ print_version g.minor) refl
    (All-append (λ b. is_plain b ≡ true) g.target (32 ∷ print_version g.minor)
    (uri_plain g.target h.target.1)
    (All-cons (λ b. is_plain b ≡ true) 32 (print_version g.minor) refl
    (version_plain g.minor h.minor))))

is_target_from : (g : RequestHead) → IsRequestHead g → is_target g.target ≡ true
is_target_from g h =
    rw (
      lt-ltb 0 (length g.target) h.target.0,
      list_all-from_AllPass is_uri_byte g.target h.target.1,
      is_utf8-from_IsUtf8 g.target h.target_text,
    ) refl

start_of-line : (g : RequestHead) → IsRequestHead g → start_of (start_line g) ≡ Some (seen g).start
unfolding is_token_byte
start_of-line g h =
    rw (cut-append is_token_byte 32 refl g.method (g.target ++ 32 ∷ print_version g.minor) h.method.1)
    (rw (cut-append is_uri_byte 32 refl g.target (print_version g.minor) h.target.1)
    (rw (minor_of-version g.minor h.minor, is_token_from g.method h.method, is_target_from g h) refl))

-- ---- a head of the grammar is one of the definitions

head_in-blank : (ends : List LineEnd) (y : List ℕ)
    → head_in (lines_of (print_blank ends ++ y)) ≡ head_in (lines_of y)
head_in-blank [] y = refl
head_in-blank (e ∷ ends) y =
    ap (λ z. head_in (lines_of z)) (append_assoc (print_end e) (print_blank ends) y)
    ∙ ap head_in (line-append [] (print_blank ends ++ y) e (All-nil (λ b. is_plain b ≡ true)))
    ∙ head_in-blank ends y

regroup : (m t v e s : List ℕ)
    → m ++ 32 ∷ (t ++ 32 ∷ (v ++ (e ++ s))) ≡ (m ++ 32 ∷ (t ++ 32 ∷ v)) ++ (e ++ s)
regroup m t v e s =
    sym (append_assoc m (32 ∷ (t ++ 32 ∷ v)) (e ++ s)
    ∙ ap (λ z. m ++ 32 ∷ z) (append_assoc t (32 ∷ v) (e ++ s)))

printed_is : (g : RequestHead)
    → print_request g ++ [] ≡ print_blank g.blank
    ++ (start_line g ++ (print_end g.line_end ++ print_section g.fields g.last))
printed_is g =
    print_request-append g []
    ∙ ap (λ z. print_blank g.blank ++ (g.method ++ 32 ∷ (g.target ++ 32 ∷ (print_version g.minor
    ++ (print_end g.line_end ++ z))))) (append-nil (print_section g.fields g.last))
    ∙ ap (λ z. print_blank g.blank ++ z)
    (regroup g.method g.target (print_version g.minor) (print_end g.line_end)
    (print_section g.fields g.last))

head_from-few : (start : Start) (fields : List NameAndValue) → length fields ≤ 64
    → head_from (Some start) (Some fields) ≡ Some (record { start = start; fields = fields })
head_from-few start fields h = rw (le-leb (length fields) 64 h) refl

pub head_of-printed : (bytes : List ℕ) (g : RequestHead) → ReadsRequest bytes g []
    → length g.fields ≤ 64 → head_of bytes ≡ Some (seen g)
unfolding head_of
head_of-printed bytes g reads few =
    let rest = print_section g.fields g.last in
    let few' : length (map name_and_value g.fields) ≤ 64 = subst (λ n. n ≤ 64) (sym (length-map g.fields name_and_value)) few in
    ap (λ z. head_in (lines_of z)) (reads.1 ∙ printed_is g)
    ∙ head_in-blank g.blank (start_line g ++ (print_end g.line_end ++ rest))
    ∙ ap head_in (line-append (start_line g) rest g.line_end (start_plain g reads.0))
    ∙ rw (
      not_empty g.method 32 (g.target ++ 32 ∷ print_version g.minor),
      start_of-line g reads.0,
      fields_of-section g.fields g.last reads.0.fields,
    ) refl
    ∙ head_from-few (seen g).start (map name_and_value g.fields) few'

-- ---- a head of the definitions is one of the grammar

-- a line is a field of the grammar, however it ends
record IsLineOf (line : List ℕ) (field : NameAndValue) (end : LineEnd) : Type 0 where
  spelled : Field
  lawful : IsField spelled
  line_is : line ≡ line_of spelled
  end_is : spelled.end ≡ end
  seen_is : name_and_value spelled ≡ field

field_from_sound : (line name raw : List ℕ) (field : NameAndValue) (end : LineEnd)
    → line ≡ name ++ 58 ∷ raw → field_from name raw ≡ Some field → IsLineOf line field end
field_from_sound line name raw field end cut found =
    by (is_token name && list_all is_value_byte raw) refl found
  where
    by : (v : Bool) → (is_token name && list_all is_value_byte raw) ≡ v
        → cond v (Some (name, trim_ows raw)) None ≡ Some field → IsLineOf line field end
    by false e h = absurd (let none : ⊥ = cc in none)
    by true e h =
        let parts = and_parts (is_token name) (list_all is_value_byte raw) e in
        record {
          spelled = record { name = name; raw = raw; end = end };
          lawful = record {
            name = token_is name parts.0;
            raw = AllPass-from_list_all is_value_byte raw parts.1;
          };
          line_is = cut;
          end_is = refl;
          seen_is = cc;
        }

field_of_sound : (line : List ℕ) (field : NameAndValue) (end : LineEnd)
    → field_of line ≡ Some field → IsLineOf line field end
field_of_sound line field end found = by (cut_at 58 line) refl found
  where
    by : (o : Option (List ℕ × List ℕ)) → cut_at 58 line ≡ o
        → option_and_then (λ (parts : List ℕ × List ℕ). field_from parts.0 parts.1) o ≡ Some field
        → IsLineOf line field end
    by None e h = absurd (let none : ⊥ = cc in none)
    by (Some parts) e h =
        field_from_sound line parts.0 parts.1 field end
        (cut_at_sound 58 line parts.0 parts.1 e) h

-- bytes are a section of the grammar, with nothing behind it
record IsSection (bytes : List ℕ) (fields : List NameAndValue) : Type 0 where
  spelled : List Field
  last : LineEnd
  lawful : All IsField spelled
  bytes_are : bytes ≡ print_section spelled last
  seen_are : map name_and_value spelled ≡ fields

end_is : (lines : List (List ℕ)) → is_end lines ≡ true → lines ≡ [] ∷ []
end_is [] e = absurd (true≢false (sym e))
end_is ([] ∷ []) e = refl
end_is ([] ∷ (l ∷ ls)) e = absurd (true≢false (sym e))
end_is ((b ∷ line) ∷ lines) e = absurd (true≢false (sym e))

empty_is : (line : List ℕ) → (length line == 0) ≡ true → line ≡ []
empty_is [] e = refl
empty_is (b ∷ line) e =
    absurd (let is : suc (length line) ≡ 0 = eqb-true (suc (length line)) 0 e in omega arith)

section_end : (bytes line : List ℕ) (lines : List (List ℕ)) (fields : List NameAndValue)
    → lines_of bytes ≡ line ∷ lines → line ≡ [] → (v : Bool) → is_end lines ≡ v
    → cond v (Some []) None ≡ Some fields → IsSection bytes fields
section_end bytes line lines fields e empty false over h = absurd (let none : ⊥ = cc in none)
section_end bytes line lines fields e empty true over h =
    let lines_are = end_is lines over in
    let cut = cut_line bytes [] [] [] (e ∙ ap₂ (λ x y. x ∷ y) empty lines_are) in
    let none : cut.rest ≡ [] = no_lines cut.rest cut.lines_are in
    record {
      spelled = [];
      last = cut.end;
      lawful = All-nil IsField;
      bytes_are = cut.bytes_are ∙ ap (λ z. print_end cut.end ++ z) none
          ∙ append-nil (print_end cut.end);
      seen_are = cc;
    }

section_more : (bytes line next : List ℕ) (lines : List (List ℕ)) (fields : List NameAndValue)
    → (field : Option NameAndValue) → field_of line ≡ field
    → (later : Option (List NameAndValue)) → fields_of (next ∷ lines) ≡ later
    → fields_with field later ≡ Some fields
    → (cut : Cut bytes line (next ∷ lines))
    → ((more : List NameAndValue) → fields_of (next ∷ lines) ≡ Some more → IsSection cut.rest more)
    → IsSection bytes fields
section_more bytes line next lines fields None f later l h cut again = absurd (let none : ⊥ = cc in none)
section_more bytes line next lines fields (Some field) f None l h cut again = absurd (let none : ⊥ = cc in none)
section_more bytes line next lines fields (Some field) f (Some more) l h cut again =
    let first = field_of_sound line field cut.end f in
    let rest = again more l in
    let fields_are : field ∷ more ≡ fields = cc in
    record {
      spelled = first.spelled ∷ rest.spelled;
      last = rest.last;
      lawful = All-cons IsField first.spelled rest.spelled first.lawful rest.lawful;
      bytes_are = cut.bytes_are
          ∙ ap₂ (λ x y. x ++ y) first.line_is
          (ap₂ (λ x y. print_end x ++ y) (sym first.end_is) rest.bytes_are)
          ∙ sym (print-field first.spelled rest.spelled rest.last);
      seen_are = ap₂ (λ x y. x ∷ y) first.seen_is rest.seen_are ∙ fields_are;
    }

fields_of_sound : (lines : List (List ℕ)) (bytes : List ℕ) (fields : List NameAndValue)
    → lines_of bytes ≡ lines → fields_of lines ≡ Some fields → IsSection bytes fields
fields_of_sound [] bytes fields e h = absurd (let none : ⊥ = cc in none)
fields_of_sound (line ∷ []) bytes fields e h =
    by (length line == 0) h
  where
    by : (v : Bool) → cond v None (fields_with (field_of line) None) ≡ Some fields
        → IsSection bytes fields
    by true g = absurd (let none : ⊥ = cc in none)
    by false g = absurd (none_with (field_of line) g)
      where
        none_with : (o : Option NameAndValue) → fields_with o None ≡ Some fields → ⊥
        none_with None k = cc
        none_with (Some field) k = cc
fields_of_sound (line ∷ (next ∷ lines)) bytes fields e h =
    let cut = cut_line bytes line next lines e in
    by (length line == 0) refl h cut
    (λ more g. fields_of_sound (next ∷ lines) cut.rest more cut.lines_are g)
  where
    by : (v : Bool) → (length line == 0) ≡ v
        → cond v (cond (is_end (next ∷ lines)) (Some []) None)
        (fields_with (field_of line) (fields_of (next ∷ lines))) ≡ Some fields
        → (cut : Cut bytes line (next ∷ lines))
        → ((more : List NameAndValue) → fields_of (next ∷ lines) ≡ Some more
        → IsSection cut.rest more)
        → IsSection bytes fields
    by true empty g cut again =
        section_end bytes line (next ∷ lines) fields e (empty_is line empty)
        (is_end (next ∷ lines)) refl g
    by false some g cut again =
        section_more bytes line next lines fields (field_of line) refl
        (fields_of (next ∷ lines)) refl g cut again

-- a line is a start line of the grammar
record IsStart (line : List ℕ) (start : Start) : Type 0 where
  line_is : line ≡ start.method ++ 32 ∷ (start.target ++ 32 ∷ print_version start.minor)
  method : (0 < length start.method) × AllPass is_token_byte start.method
  target : (0 < length start.target) × AllPass is_uri_byte start.target
  target_text : IsUtf8 start.target
  minor : start.minor ≤ 1

minor_of_sound : (version : List ℕ) (n : ℕ) → minor_of version ≡ Some n
    → (n ≤ 1) × (version ≡ print_version n)
minor_of_sound version n h =
    by (bytes_eq version (codes "HTTP/1.1")) (bytes_eq version (codes "HTTP/1.0")) refl refl h
  where
    by : (v w : Bool) → bytes_eq version (codes "HTTP/1.1") ≡ v
        → bytes_eq version (codes "HTTP/1.0") ≡ w → cond v (Some 1) (cond w (Some 0) None) ≡ Some n
        → (n ≤ 1) × (version ≡ print_version n)
    by true w e f g =
        let is : 1 ≡ n = cc in (
          omega arith,
          (bytes_eq-Decides version (codes "HTTP/1.1")).0 e
              ∙ ap print_version is,
        )
    by false true e f g =
        let is : 0 ≡ n = cc in (
          omega arith,
          (bytes_eq-Decides version (codes "HTTP/1.0")).0 f
              ∙ ap print_version is,
        )
    by false false e f g = absurd (let none : ⊥ = cc in none)

start_from_sound : (line method target version : List ℕ) (start : Start)
    → line ≡ method ++ 32 ∷ (target ++ 32 ∷ version)
    → start_from method target (minor_of version) ≡ Some start → IsStart line start
start_from_sound line method target version start cut found = by (minor_of version) refl found
  where
    lawful : (n : ℕ) (v : Bool) → (is_token method && is_target target) ≡ v
        → (n ≤ 1) × (version ≡ print_version n)
        → cond v (Some (record { method = method; target = target; minor = n })) None ≡ Some start
        → IsStart line start
    lawful n false e minor h = absurd (let none : ⊥ = cc in none)
    lawful n true e minor h =
        let halves = and_parts (is_token method) (is_target target) e in
        let thirds = and_parts (nat_lt 0 (length target) && list_all is_uri_byte target)
        (is_utf8 target) halves.1 in
        let quarters = and_parts (nat_lt 0 (length target)) (list_all is_uri_byte target) thirds.0 in
        let made : Start = record { method = method; target = target; minor = n } in
        let is : made ≡ start = cc in
        let read : IsStart line made = record {
          line_is = cut ∙ ap (λ z. method ++ 32 ∷ (target ++ 32 ∷ z)) minor.1;
          method = token_is method halves.0;
          target = (
            ltb-true 0 (length target) quarters.0,
            AllPass-from_list_all is_uri_byte target quarters.1,
          );
          target_text = IsUtf8-from_is_utf8 target thirds.1;
          minor = minor.0;
        } in
        subst (IsStart line) is read

    by : (o : Option ℕ) → minor_of version ≡ o → start_from method target o ≡ Some start
        → IsStart line start
    by None e h = absurd (let none : ⊥ = cc in none)
    by (Some n) e h =
        lawful n (is_token method && is_target target) refl (minor_of_sound version n e) h

start_of_sound : (line : List ℕ) (start : Start) → start_of line ≡ Some start → IsStart line start
start_of_sound line start found = by (cut_at 32 line) refl found
  where
    back : (method behind : List ℕ) → line ≡ method ++ 32 ∷ behind
        → (o : Option (List ℕ × List ℕ)) → cut_at 32 behind ≡ o
        → option_and_then (λ (b : List ℕ × List ℕ). start_from method b.0 (minor_of b.1)) o
        ≡ Some start → IsStart line start
    back method behind cut None e h = absurd (let none : ⊥ = cc in none)
    back method behind cut (Some parts) e h =
        start_from_sound line method parts.0 parts.1 start
        (cut ∙ ap (λ z. method ++ 32 ∷ z) (cut_at_sound 32 behind parts.0 parts.1 e)) h

    by : (o : Option (List ℕ × List ℕ)) → cut_at 32 line ≡ o
        → option_and_then (λ (front : List ℕ × List ℕ).
        option_and_then (λ (b : List ℕ × List ℕ). start_from front.0 b.0 (minor_of b.1))
        (cut_at 32 front.1)) o ≡ Some start → IsStart line start
    by None e h = absurd (let none : ⊥ = cc in none)
    by (Some front) e h =
        back front.0 front.1 (cut_at_sound 32 line front.0 front.1 e) (cut_at 32 front.1) refl h

head_made : (bytes line : List ℕ) (lines : List (List ℕ)) (head : Head)
    → lines_of bytes ≡ line ∷ lines → (start : Option Start) → start_of line ≡ start
    → (fields : Option (List NameAndValue)) → fields_of lines ≡ fields
    → head_from start fields ≡ Some head → IsHead bytes head
head_made bytes line lines head e None s fields f h = absurd (let none : ⊥ = cc in none)
head_made bytes line lines head e (Some start) s None f h = absurd (let none : ⊥ = cc in none)
head_made bytes line [] head e (Some start) s (Some fields) f h = absurd (let none : ⊥ = cc in none)
head_made bytes line (next ∷ lines) head e (Some start) s (Some fields) f h =
    by (nat_le (length fields) 64) refl h
  where
    by : (v : Bool) → nat_le (length fields) 64 ≡ v
        → cond v (Some (record { start = start; fields = fields })) None ≡ Some head
        → IsHead bytes head
    by false few g = absurd (let none : ⊥ = cc in none)
    by true few g =
        let cut = cut_line bytes line next lines e in
        let first = start_of_sound line start s in
        let section = fields_of_sound (next ∷ lines) cut.rest fields cut.lines_are f in
        let made : Head = record { start = start; fields = fields } in
        let is : made ≡ head = cc in
        let spelled : RequestHead = record {
          blank = [];
          method = start.method;
          target = start.target;
          minor = start.minor;
          line_end = cut.end;
          fields = section.spelled;
          last = section.last;
        } in
        record {
          read = spelled;
          reads = (
            record {
              method = first.method;
              target = first.target;
              target_text = first.target_text;
              minor = first.minor;
              fields = section.lawful;
            },
            cut.bytes_are
                ∙ ap₂ (λ x y. x ++ (print_end cut.end ++ y)) first.line_is section.bytes_are
                ∙ sym (printed_is spelled),
          );
          few = omega (
            arith,
            leb-true (length fields) 64 few,
            ap length section.seen_are,
            length-map section.spelled name_and_value,
          );
          seen_is = ap (λ z. record { start = start; fields = z }) section.seen_are ∙ is;
        }

-- an empty line in front of a head
after_empty : (bytes rest : List ℕ) (end : LineEnd) (head : Head) → bytes ≡ print_end end ++ rest
    → IsHead rest head → IsHead bytes head
after_empty bytes rest end head e h =
    let g = h.read in
    let spelled : RequestHead = record g { blank = end ∷ g.blank } in
    let behind : List ℕ = start_line g ++ (print_end g.line_end ++ print_section g.fields g.last) in
    record {
      read = spelled;
      reads = (
        record {
          method = h.reads.0.method;
          target = h.reads.0.target;
          target_text = h.reads.0.target_text;
          minor = h.reads.0.minor;
          fields = h.reads.0.fields;
        },
        e ∙ ap (λ z. print_end end ++ z) (h.reads.1 ∙ printed_is g)
            ∙ sym (append_assoc (print_end end) (print_blank g.blank) behind)
            ∙ sym (printed_is spelled),
      );
      few = h.few;
      seen_is = h.seen_is;
    }

head_in_sound : (lines : List (List ℕ)) (bytes : List ℕ) (head : Head) → lines_of bytes ≡ lines
    → head_in lines ≡ Some head → IsHead bytes head
head_in_sound [] bytes head e h = absurd (let none : ⊥ = cc in none)
head_in_sound (line ∷ []) bytes head e h = by (length line == 0) h
  where
    by : (v : Bool) → cond v None (head_from (start_of line) None) ≡ Some head → IsHead bytes head
    by true g = absurd (let none : ⊥ = cc in none)
    by false g = head_made bytes line [] head e (start_of line) refl None refl g
head_in_sound (line ∷ (next ∷ lines)) bytes head e h =
    by (length line == 0) refl h
    (λ rest g k. head_in_sound (next ∷ lines) rest head g k)
  where
    by : (v : Bool) → (length line == 0) ≡ v
        → cond v (head_in (next ∷ lines)) (head_from (start_of line) (fields_of (next ∷ lines)))
        ≡ Some head
        → ((rest : List ℕ) → lines_of rest ≡ next ∷ lines → head_in (next ∷ lines) ≡ Some head
        → IsHead rest head)
        → IsHead bytes head
    by true empty g again =
        let cut = cut_line bytes line next lines e in
        after_empty bytes cut.rest cut.end head
        (cut.bytes_are ∙ ap (λ z. z ++ (print_end cut.end ++ cut.rest)) (empty_is line empty))
        (again cut.rest cut.lines_are g)
    by false some g again =
        head_made bytes line (next ∷ lines) head e (start_of line) refl
        (fields_of (next ∷ lines)) refl g

pub head_of_sound : (bytes : List ℕ) (head : Head) → head_of bytes ≡ Some head → IsHead bytes head
unfolding head_of
head_of_sound bytes head h = head_in_sound (lines_of bytes) bytes head refl h
