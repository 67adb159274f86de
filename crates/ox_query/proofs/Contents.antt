-- The content that is shown, by what each look-up gave.
use Rattle.std.proofs.Common.{◌≡◌, ◌==◌, ◌&&◌, true≢false, Bool, true, false, cond, List, [], ◌∷◌, ℕ, suc, length, lt-ltb, Option, Some, None, sym, ap, ◌∙◌, arith}
use Rattle.std.specs.Prelude.{nat_le, nat_lt, slice_get}
use Rattle.std.specs.List.{list_all}
use Rattle.std.specs.Option.{option_and_then, option_map}
use Rattle.ox_http.specs.declared.Reply.{Reply}
use Rattle.ox_inscribe.specs.declared.row.InsRow.{InsRow}
use Rattle.ox_replies.specs.Content.{body_reply, content_at, header_text, is_header_text, shown_for, shown_reply}
use Rattle.ox_replies.specs.Named.{inscription_named}

module _ (rows : List InsRow) (text : List ℕ) (close : Bool) where
  abbrev named : Option InsRow
  named = option_and_then (slice_get rows) (inscription_named rows text)

  pub unnamed : None ≡ named → None ≡ content_at rows text close
  unnamed e = ap (λ (row : Option InsRow). option_and_then (shown_reply close) (option_and_then (shown_for rows) row)) e

  pub unshown : (row : InsRow) → Some row ≡ named → None ≡ shown_for rows row → None ≡ content_at rows text close
  unshown row e none = ap (option_and_then (shown_reply close)) (none ∙ ap (option_and_then (shown_for rows)) e)

  pub shown : (row other : InsRow) → Some row ≡ named → Some other ≡ shown_for rows row → shown_reply close other ≡ content_at rows text close
  shown row other e is = ap (option_and_then (shown_reply close)) (is ∙ ap (option_and_then (shown_for rows)) e)

  pub with_body : (row other : InsRow) (body : List ℕ) (reply : Reply) → Some row ≡ named → Some other ≡ shown_for rows row → other.body ≡ Some body
      → reply ≡ body_reply close other body → Some reply ≡ content_at rows text close
  with_body row other body reply e is has told =
      ap Some told ∙ ap (option_map (body_reply close other)) (sym has) ∙ shown row other e is

  pub without_body : (row other : InsRow) → Some row ≡ named → Some other ≡ shown_for rows row → other.body ≡ None → None ≡ content_at rows text close
  without_body row other e is has = ap (option_map (body_reply close other)) (sym has) ∙ shown row other e is

some_first : (bytes : List ℕ) → (length bytes == 0) ≡ false → nat_lt 0 (length bytes) ≡ true
some_first [] e = absurd (true≢false e)
some_first (b ∷ bytes) e = lt-ltb 0 (suc (length bytes)) (omega arith)

-- bytes that are some, and all printable
pub headers_are : (bytes : List ℕ) (empty printable : Bool) → empty ≡ (length bytes == 0) → empty ≡ false
    → printable ≡ list_all (λ b. nat_le 32 b && nat_le b 126) bytes → printable ≡ is_header_text bytes
headers_are bytes empty printable is none all =
    all ∙ ap (λ (v : Bool). v && list_all (λ b. nat_le 32 b && nat_le b 126) bytes) (sym (some_first bytes (sym is ∙ none)))

-- bytes that a header of a reply can carry are its text
pub some_header : (field : Option (List ℕ)) (bytes copied : List ℕ) → field ≡ Some bytes → copied ≡ bytes → is_header_text bytes ≡ true
    → Some copied ≡ header_text field
some_header field bytes copied some same is =
    ap Some same ∙ ap (λ (v : Bool). cond v (Some bytes) None) (sym is) ∙ ap header_text (sym some)
