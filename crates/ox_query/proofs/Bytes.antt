-- Bytes that are text, and others.
use Rattle.std.proofs.Common.{◌≡◌, Bool, true, false, cond, List, ℕ, IsUtf8, Option, Some, refl, sym, ap, ◌∙◌, subst}
use Rattle.std.specs.Str.{is_utf8}
use Rattle.std.proofs.lemmas.Str.{IsUtf8-from_is_utf8, is_utf8-from_IsUtf8}
use Rattle.serde_json.specs.Data.{null, string}
use Rattle.ox_replies.specs.Values.{or_null, text_or_null}

pub text_is : (field : Option (List ℕ)) (bytes read text : List ℕ) → field ≡ Some bytes → read ≡ bytes → text ≡ read → IsUtf8 read
    → string text ≡ or_null text_or_null field
text_is field bytes read text some same is utf8 =
    ap string (is ∙ same)
    ∙ ap (λ (v : Bool). cond v (string bytes) null) (sym (is_utf8-from_IsUtf8 bytes (subst IsUtf8 same utf8)))
    ∙ ap (or_null text_or_null) (sym some)

pub no_text : (field : Option (List ℕ)) (bytes read : List ℕ) → field ≡ Some bytes → read ≡ bytes → ¬ IsUtf8 read → null ≡ or_null text_or_null field
no_text field bytes read some same none = by (is_utf8 bytes) refl ∙ ap (or_null text_or_null) (sym some)
  where
    by : (v : Bool) → is_utf8 bytes ≡ v → null ≡ cond v (string bytes) null
    by true e = absurd (none (subst IsUtf8 (sym same) (IsUtf8-from_is_utf8 bytes e)))
    by false e = refl
