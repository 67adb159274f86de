-- The texts of marks, one behind the other.
use Rattle.std.proofs.Common.{◌≡◌, ℕ, ◌/◌, ◌%◌, ◌==◌, Bool, true, false, cond, List, [], ◌∷◌, ◌++◌, refl, sym, ap, subst, ◌∙◌, append_assoc}
use Rattle.json.specs.Token.{Token, begin_array, end_array}
use Rattle.serde_json.specs.Data.{Data, string}
use Rattle.ox_replies.specs.Inscriptions.{mark_if, mark_texts, marks_tree}
use Rattle.ox_query.specs.Written.{Adds, tokens_of, tokens_of_all}
use Rattle.ox_query.specs.declared.bodies.Body.{Body}
use Rattle.ox_query.proofs.Arrays.{items_are}
use Rattle.ox_query.proofs.Steps.{◌▸◌}

apart : (marks worth : ℕ) (text : List ℕ) (texts : List Data) → tokens_of_all (mark_if marks worth text []) ++ tokens_of_all texts ≡ tokens_of_all (mark_if marks worth text texts)
apart marks worth text texts = by (marks / worth % 2 == 1)
  where
    by : (set : Bool) → tokens_of_all (cond set (string text ∷ []) []) ++ tokens_of_all texts ≡ tokens_of_all (cond set (string text ∷ texts) texts)
    by true = refl
    by false = refl

-- one text more in front
pub mark : {old mid new : Body} (marks worth : ℕ) (text : List ℕ) (texts : List Data) (rest : List Token) → Adds old mid (tokens_of_all (mark_if marks worth text [])) → Adds mid new (tokens_of_all texts ++ rest)
    → Adds old new (tokens_of_all (mark_if marks worth text texts) ++ rest)
mark {old = old} {new = new} marks worth text texts rest first others =
    subst (Adds old new)
    (sym (append_assoc (tokens_of_all (mark_if marks worth text [])) (tokens_of_all texts) rest) ∙ ap (λ (ts : List Token). ts ++ rest) (apart marks worth text texts))
    (first ▸ others)

-- between brackets they are the marks
pub bracketed_marks : {old new : Body} (marks : ℕ) → Adds old new (begin_array ∷ (tokens_of_all (mark_texts marks) ++ end_array ∷ [])) → Adds old new (tokens_of (marks_tree marks))
bracketed_marks {old = old} {new = new} marks step = subst (λ (ts : List Token). Adds old new (begin_array ∷ ts)) (sym (items_are (mark_texts marks))) step
