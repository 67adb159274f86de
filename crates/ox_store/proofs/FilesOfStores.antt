-- What the files of a store stand for.
use Rattle.std.proofs.Common.{◌≡◌, ◌∙◌, inl, inr, ⊎_elim, ℕ, true, List, [], ap}
use Rattle.std.specs.Prelude.{Ok, Some}
use Rattle.ox_outside.specs.Files.{Files}
use Rattle.ox_outside.specs.declared.site.Which.{Which}
use Rattle.ox_gated.specs.Layout.{Whole}
use Rattle.ox_gated.specs.OtherFile.{IsOldOrNew, ReadsNew}
use Rattle.ox_gated.specs.Reading.{ReadsMore, is_present, reading}
use Rattle.ox_gated.specs.Tail.{IsBeforeOrAfter}
use Rattle.ox_model.specs.Stack.{Stack}
use Rattle.ox_files.specs.Payload.{payload_step}
use Rattle.ox_files.specs.Stands.{in_file, stack_in, stack_in_file, stands}
use Rattle.ox_files.proofs.FilesOfStacks.{stands_more}
use Rattle.ox_store.specs.Ready.{StandsForEither}

-- ---- a record more

pub after_record : (payload : List ℕ) (old new : Files) (before after : Stack) → stands old ≡ Ok before → payload_step before payload ≡ Some after → ReadsMore payload old new → stands new ≡ Ok after
after_record payload old new before after is leads more = ap stack_in (more is_present) ∙ stands_more (reading is_present old) payload before after is leads

pub before_or_after : (payload : List ℕ) (files image : Files) (before after : Stack) → stands files ≡ Ok before → payload_step before payload ≡ Some after
    → IsBeforeOrAfter payload files image → StandsForEither before after image
before_or_after payload files image before after is leads = ⊎_elim
    (λ alike. inl (ap stack_in (alike is_present) ∙ is))
    (λ more. inr (after_record payload files image before after is leads more))

-- ---- a whole file, of version 2

is_read : (version : ℕ) → version ≡ 2 → is_present version ≡ true
is_read version two = ap is_present two

pub after_turn : (file : Which) (whole : Whole) (new : Files) (after : Stack) → whole.head.version ≡ 2 → stack_in_file whole.head whole.body [] ≡ Ok after → ReadsNew file whole new
    → stands new ≡ Ok after
after_turn file whole new after two leads reads = ap stack_in (reads is_present (is_read whole.head.version two)) ∙ ap (in_file file) leads

pub old_or_new : (file : Which) (whole : Whole) (files image : Files) (before after : Stack) → whole.head.version ≡ 2 → stands files ≡ Ok before → stack_in_file whole.head whole.body [] ≡ Ok after
    → IsOldOrNew file whole files image → StandsForEither before after image
old_or_new file whole files image before after two is leads = ⊎_elim
    (λ alike. inl (ap stack_in (alike is_present) ∙ is))
    (λ new. inr (after_turn file whole image after two leads new))
