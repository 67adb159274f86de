-- What is spelled is read again, and stands for its stack.
use Rattle.std.proofs.Common.{◌≡◌, ◌∙◌, ℕ, ◌≤◌, Bool, cond, List, [], ◌∷◌, length, refl, sym, ap, Some, None, Result, Ok}
use Rattle.std.specs.Prelude.{nat_le}
use Rattle.std.proofs.lemmas.Bool.{and_from, le-leb}
use Rattle.std.proofs.lemmas.List.{append-nil}
use Rattle.ox_bytes.proofs.Laws.{Law}
use Rattle.ox_sat.specs.declared.profiles.Profile.{Profile}
use Rattle.ox_model.specs.Change.{redone}
use Rattle.ox_model.specs.Ends.{AllEnd, BeginsIn}
use Rattle.ox_model.specs.Sound.{IsSound}
use Rattle.ox_model.specs.Stack.{Stack}
use Rattle.ox_model.specs.declared.change.Change.{Change}
use Rattle.ox_plain.specs.Ends.{begins_in}
use Rattle.ox_plain.proofs.EndLaws.{begins}
use Rattle.ox_rows.specs.RowFits.{FitsChange}
use Rattle.ox_rows.specs.RowReading.{change_at}
use Rattle.ox_rows.specs.RowSpelling.{change_rows}
use Rattle.ox_rows.proofs.ReaderLaws.{◌then◌, by_fields, list_law, no_fields}
use Rattle.ox_rows.proofs.RowLaws.{change_law, index_law}
use Rattle.ox_sound.specs.Sound.{sound}
use Rattle.ox_sound.proofs.SoundLemmas.{Decides-sound}
use Rattle.ox_files.specs.Body.{Body, FitsBody, body_at, body_of, body_rows, leads_down, stack_in, stack_in_body, stack_of, whole}
use Rattle.ox_files.specs.Payload.{payload_step, stack_by_change, with_change}
use Rattle.ox_files.proofs.DownLemmas.{down_from}

pub body_law : Law FitsBody body_rows body_at
unfolding body_at body_rows
body_law =
    by_fields (no_fields body_of then index_law then list_law change_law) FitsBody body_rows
    (λ (b : Body). ((tt, b.index), b.changes))
    (λ p h. record { index = h.0.1; changes = h.1 }) (λ p h. refl)
    (λ b h. ((tt, h.index), h.changes)) (λ b. refl)

body_again : (body : Body) → FitsBody body → body_at (body_rows body) ≡ Ok (body, [])
body_again body fits = ap body_at (sym (append-nil (body_rows body))) ∙ body_law.again body [] fits

change_again : (change : Change) → FitsChange change → change_at (change_rows change) ≡ Ok (change, [])
change_again change fits = ap change_at (sym (append-nil (change_rows change))) ∙ change_law.again change [] fits

pub body_stands : (p : Profile) (depth : ℕ) (body : Body) → FitsBody body → length body.changes ≤ depth → IsSound p body.index → AllEnd p body.index body.changes
    → stack_in_body p depth (body_rows body) ≡ Some (stack_of p depth body)
body_stands p depth body fits few is_sound end =
    ap (λ (r : Result (Body × List ℕ) ℕ). stack_in p depth (whole r)) (body_again body fits)
    ∙ ap (λ (b : Bool). cond b (Some (stack_of p depth body)) None)
    (and_from (nat_le (length body.changes) depth) (leads_down p body.index body.changes) (le-leb (length body.changes) depth few) (down_from p body.index body.changes is_sound end))

pub change_stands : (stack : Stack) (change : Change) → FitsChange change → BeginsIn stack.profile stack.index change
    → payload_step stack (1 ∷ change_rows change) ≡ Some (with_change stack change)
change_stands stack change fits is =
    ap (λ (r : Result (Change × List ℕ) ℕ). stack_by_change stack (whole r)) (change_again change fits)
    ∙ ap (λ (b : Bool). cond b (Some (with_change stack change)) None)
    (and_from (begins_in stack.index change) (sound stack.profile (redone stack.index change)) ((begins stack.index change).1 is.leads) ((Decides-sound stack.profile (redone stack.index change)).1 is.sound))
