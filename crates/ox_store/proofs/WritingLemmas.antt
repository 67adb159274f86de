-- What is written of a command leads to the stack after it.
use Rattle.std.proofs.Common.{◌≡◌, ◌∙◌, ℕ, zero, suc, ◌≤◌, List, [], ◌∷◌, length, take, refl, sym, ap, subst, arith}
use Rattle.std.specs.Prelude.{slice_get, Some, None, Result, Ok, Err}
use Rattle.std.specs.Result.{IfOk, result_ok}
use Rattle.std.proofs.lemmas.Option.{same_Some}
use Rattle.ox_gated.specs.Layout.{Whole}
use Rattle.ox_gated.specs.declared.head.Head.{Head}
use Rattle.ox_rules.specs.declared.refusal.Refusal.{Refusal}
use Rattle.ox_feed.specs.declared.command.Command.TheVariants.{Connect, Disconnect}
use Rattle.ox_sat.specs.declared.profiles.Profile.{Profile}
use Rattle.ox_model.specs.Change.{IsChange, redone}
use Rattle.ox_model.specs.Ends.{AllEnd, BeginsIn, LeadDown, older_by}
use Rattle.ox_model.specs.Index.{Index}
use Rattle.ox_model.specs.Sound.{IsSound}
use Rattle.ox_model.specs.Stack.{Stack, stack_after, with_index}
use Rattle.ox_model.specs.Step.{step}
use Rattle.ox_model.specs.declared.change.Change.{Change}
use Rattle.ox_model.proofs.Changes.{goes_redone, goes_undone}
use Rattle.ox_rows.specs.RowFits.{FitsChange}
use Rattle.ox_rows.specs.RowSpelling.{change_rows}
use Rattle.ox_files.specs.Body.{FitsBody, body_of, body_rows, stack_in_body}
use Rattle.ox_files.specs.Payload.{payload_step, with_change}
use Rattle.ox_files.specs.Stands.{stack_in_file}
use Rattle.ox_files.proofs.FilesOfStacks.{file_turned}
use Rattle.ox_index.proofs.KeptBlocks.{length-older_by}
use Rattle.ox_checkpoint.proofs.AgainLemmas.{body_stands, change_stands}
use Rattle.ox_store.specs.Heads.{Names}
use Rattle.ox_store.proofs.HeadLemmas.{counts_alike}

pub and_ok : {A E : Type 0} (r : Result A E) (P Q : A → Type 0) → IfOk r P → IfOk r Q → IfOk r (λ a. P a × Q a)
and_ok (Ok a) P Q p q = (p, q)
and_ok (Err e) P Q p q = tt

-- ---- a body

-- the older indexes are had by undoing the changes that lead down them
older_of_lead : (index : Index) (older : List Index) (changes : List Change) → LeadDown index older changes → older ≡ older_by index changes
older_of_lead index [] [] lead = refl
older_of_lead index [] (change ∷ changes) lead = absurd lead
older_of_lead index (before ∷ older) [] lead = absurd lead
older_of_lead index (before ∷ older) (change ∷ changes) lead =
    ap (λ (l : List Index). before ∷ l) (older_of_lead before older changes lead.1)
    ∙ ap (λ (i : Index). i ∷ older_by i changes) (sym (goes_undone before index change lead.0))

pub body_of_stack : (stack : Stack) (index : Index) (changes : List Change) (bytes : List ℕ) → index ≡ stack.index → LeadDown stack.index stack.older changes
    → AllEnd stack.profile stack.index changes → length stack.older ≤ stack.depth → IsSound stack.profile stack.index
    → FitsBody (body_of index changes) → bytes ≡ body_rows (body_of index changes) → stack_in_body stack.profile stack.depth bytes ≡ Some stack
body_of_stack stack index changes bytes is lead end few sound fits rows =
    let fits_so : FitsBody (body_of stack.index changes) = subst (λ (i : Index). FitsBody (body_of i changes)) is fits in
    let older : stack.older ≡ older_by stack.index changes = older_of_lead stack.index stack.older changes lead in
    let many : length stack.older ≡ length changes = ap (λ (l : List Index). length l) older ∙ length-older_by stack.index changes in
    ap (stack_in_body stack.profile stack.depth) (rows ∙ ap (λ (i : Index). body_rows (body_of i changes)) is)
    ∙ body_stands stack.profile stack.depth (body_of stack.index changes) fits_so (omega (arith, few, many)) sound end
    ∙ (λ i. Some (record { profile = stack.profile; depth = stack.depth; index = stack.index; older = sym older i }))

pub ends_so : (p q : Profile) (index other : Index) (changes : List Change) → q ≡ p → other ≡ index → AllEnd p index changes → AllEnd q other changes
ends_so p q index other changes profile same all =
    subst (λ (i : Index). AllEnd q i changes) (sym same) (subst (λ (r : Profile). AllEnd r index changes) (sym profile) all)

-- the file of a head that names the stack
pub file_of_stack : (head : Head) (stack : Stack) (bytes : List ℕ) (whole : Whole) → Names head stack → stack_in_body stack.profile stack.depth bytes ≡ Some stack
    → whole ≡ record { head = head; body = bytes } → stack_in_file whole.head whole.body [] ≡ Ok stack
file_of_stack head stack bytes whole names stands is =
    ap (λ (w : Whole). stack_in_file w.head w.body []) is
    ∙ file_turned head bytes stack ((λ i. stack_in_body (names.profile i) (names.depth i) bytes) ∙ stands)

-- ---- a change

-- where an index is kept, its change is there
pub none_there : (index : Index) (older : List Index) (changes : List Change) → LeadDown index older changes → None ≡ slice_get changes 0 → 1 ≤ length older → ⊥
none_there index [] [] lead is some = absurd (omega (arith, some))
none_there index [] (change ∷ changes) lead is some = absurd lead
none_there index (before ∷ older) [] lead is some = absurd lead
none_there index (before ∷ older) (change ∷ changes) lead is some = absurd (cc is)

lead_first : (depth : ℕ) (index before : Index) (older : List Index) (changes : List Change) (change : Change) → 1 ≤ depth → LeadDown index (take depth (before ∷ older)) changes
    → Some change ≡ slice_get changes 0 → IsChange before index change
lead_first zero index before older changes change some lead first = absurd (omega (arith, some))
lead_first (suc depth) index before older [] change some lead first = absurd lead
lead_first (suc depth) index before older (newest ∷ changes) change some lead first =
    subst (λ (d : Change). IsChange before index d) (sym (same_Some change newest first)) lead.0

-- the newest change leads on from the index before the block
newest_leads : (before after : Stack) (r : Result Index Refusal) (changes : List Change) (change : Change) → 1 ≤ after.depth → with_index before r ≡ Ok after
    → LeadDown after.index after.older changes → Some change ≡ slice_get changes 0 → IsChange before.index after.index change
newest_leads before after (Err refusal) changes change some is lead first = absurd (cc is)
newest_leads before after (Ok index) changes change some is lead first =
    let put : Stack = record before { index = index; older = take before.depth (before.index ∷ before.older) } in
    let same : put ≡ after = cc is in
    subst (λ (s : Stack). IsChange before.index s.index change) same
    (lead_first before.depth index before.index before.older changes change
    (subst (λ (s : Stack). 1 ≤ s.depth) (sym same) some) (subst (λ (s : Stack). LeadDown s.index s.older changes) (sym same) lead) first)

-- and puts the index after it in front again
put_again : (before after : Stack) (r : Result Index Refusal) (change : Change) → with_index before r ≡ Ok after → IsChange before.index after.index change → with_change before change ≡ after
put_again before after (Err refusal) change is leads = absurd (cc is)
put_again before after (Ok index) change is leads =
    let older = take before.depth (before.index ∷ before.older) in
    let put : Stack = record before { index = index; older = older } in
    let same : put ≡ after = cc is in
    let there : redone before.index change ≡ index = goes_redone before.index after.index change leads ∙ sym (ap (λ (s : Stack). s.index) same) in
    (λ i. record { profile = before.profile; depth = before.depth; index = there i; older = older }) ∙ same

pub rows_lead : (before after : Stack) (block : List ℕ) (changes : List Change) (change : Change) (rows : List ℕ) → stack_after before (Connect block) ≡ Ok after → 1 ≤ after.depth
    → LeadDown after.index after.older changes → Some change ≡ slice_get changes 0 → IsSound after.profile after.index → FitsChange change → rows ≡ change_rows change
    → payload_step before (1 ∷ rows) ≡ Some after
rows_lead before after block changes change rows is some lead first sound fits spelled =
    let stepped = step before.profile before.index block in
    let leads : IsChange before.index after.index change = newest_leads before after stepped changes change some is lead first in
    let there : after.index ≡ redone before.index change = sym (goes_redone before.index after.index change leads) in
    let profile : after.profile ≡ before.profile = sym (counts_alike before after (Connect block) is).profile in
    let begins : BeginsIn before.profile before.index change = record {
      leads = subst (λ (i : Index). IsChange before.index i change) there leads;
      sound = subst (λ (p : Profile). IsSound p (redone before.index change)) profile (subst (IsSound after.profile) there sound);
    } in
    ap (λ (l : List ℕ). payload_step before (1 ∷ l)) spelled
    ∙ change_stands before change fits begins
    ∙ ap (λ (s : Stack). Some s) (put_again before after stepped change is leads)

-- ---- a block that is taken back

pub back_leads : (before after : Stack) → stack_after before Disconnect ≡ Ok after → payload_step before (0 ∷ []) ≡ Some after
back_leads before after is = ap (λ (r : Result Stack Refusal). result_ok r) is
