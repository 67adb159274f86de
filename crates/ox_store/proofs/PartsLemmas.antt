-- What a file of version 3 stands for that is read in pieces.
use Rattle.std.proofs.Common.{◌≡◌, ◌∙◌, ℕ, Bool, true, false, List, [], ◌∷◌, ◌++◌, drop, refl, sym, ap, subst, Some, None}
use Rattle.std.specs.Prelude.{IfSome, IsTrue, Option, Result, Ok, Err, if◌then◌else◌}
use Rattle.std.specs.Result.{IfErr}
use Rattle.ox_bytes.specs.Reading.{◌>>=◌}
use Rattle.ox_outside.specs.Counts.{NoFault, Rose, StopsAtFault}
use Rattle.ox_outside.specs.Files.{Files}
use Rattle.ox_outside.specs.Runs.{OnlyLooks}
use Rattle.ox_outside.specs.declared.site.Site.{Ghosts as Meanings}
use Rattle.ox_outside.specs.declared.site.Which.{Which}
use Rattle.ox_outside.proofs.Counts.{stops_at_none}
use Rattle.ox_gated.specs.Begun.{HasNothingBefore, IsFaultBehind}
use Rattle.ox_gated.specs.Layout.{is_lawful, layout_of, summed_body_at}
use Rattle.ox_gated.specs.Opened.{IsBehindLawful, IsFault, intact_part}
use Rattle.ox_gated.specs.Parts.{AreParts, HasEnded, HasWalked, IsLeft, StandAs, Unread, Walked, body_in, chain_in, found_at, found_behind, is_intact_in, left_in, walked_on, walker_behind}
use Rattle.ox_gated.specs.Reading.{Fault, Found, IntactPart, fault_at, found_or_fault, is_present, reading}
use Rattle.ox_gated.specs.Tail.{IsSettled}
use Rattle.ox_gated.specs.declared.fault.Before.{Before}
use Rattle.ox_gated.specs.declared.fault.GateFault.{GateFault}
use Rattle.ox_gated.specs.declared.fault.GateFault.TheVariants as gates
use Rattle.ox_gated.specs.declared.fault.Halt.{Halt}
use Rattle.ox_gated.specs.declared.fault.Halt.TheVariants as halts
use Rattle.ox_gated.specs.declared.head.Head.{Head}
use Rattle.ox_gated.specs.declared.records.Record.{Record}
use Rattle.ox_sat.specs.Profiles.{name_at, profile_named}
use Rattle.ox_sat.specs.declared.profiles.Profile.{Profile}
use Rattle.ox_model.specs.Stack.{Stack}
use Rattle.ox_files.specs.Body.{stack_in_body}
use Rattle.ox_files.specs.Stands.{Misfit, in_file, or_place, stack_after_records, stack_at_body, stack_in, stack_in_file, stands}
use Rattle.ox_files.proofs.FilesOfStacks.{file_turned, records_more}
use Rattle.ox_checkpoint.specs.declared.coming.BodyFault.{BodyFault}
use Rattle.ox_checkpoint.specs.declared.coming.BodyFault.TheVariants as bodies
use Rattle.ox_checkpoint.specs.Coming.{Halted}
use Rattle.ox_checkpoint.specs.Unjudged.{IsUnjudged, stack_after_record}
use Rattle.ox_checkpoint.specs.declared.restoring.Unjudged.{Unjudged}
use Rattle.ox_checkpoint.specs.declared.restoring.Unjudged.TheVariants as restores
use Rattle.ox_checkpoint.proofs.CountLemmas.{counts_after}
use Rattle.ox_store.specs.Fault.{IsMisfit, fault_in}
use Rattle.ox_store.specs.Heads.{Names}
use Rattle.ox_store.specs.Parts.{HasStood, ReadsOn, ReadsUntil, StandsAll, halt_in_body}
use Rattle.ox_store.specs.declared.fault.OpenFault.{OpenFault}
use Rattle.ox_store.specs.declared.fault.OpenFault.TheVariants as opens
use Rattle.ox_store.specs.declared.pieces.Pieces.{Pieces}
use Rattle.ox_store.proofs.Exits.{same_fault}

-- ---- what stands and what doesn't

-- the file and the place of a test that failed
abbrev pub misfit : Which → ℕ → Result Stack Misfit
misfit file at = Err (record { file = file; at = at })

pub stands_as : (files : Files) (found : Result Found Fault) → StandAs files found → stands files ≡ stack_in found
stands_as files found stand = ap stack_in (stand is_present refl)

stands_not : (file : Which) (head : Head) (body : List ℕ) (records : List Record) (end : Result ℕ ℕ) (at : ℕ) → stack_in_file head body records ≡ Err at
    → stack_in (found_or_fault file head body records end) ≡ misfit file at
stands_not file head body records (Ok gate) at is = ap (in_file file) is
stands_not file head body records (Err place) at is = ap (λ (r : Result Stack ℕ). in_file file (r >>= λ stack. Err place)) is

cut_before : (r : Result Stack ℕ) (records more : List Record) (at : ℕ) → ((next : Stack) → stack_after_records next records ≡ Err at → stack_after_records next (records ++ more) ≡ Err at)
    → (r >>= λ next. stack_after_records next records) ≡ Err at → (r >>= λ next. stack_after_records next (records ++ more)) ≡ Err at
cut_before (Ok next) records more at later is = later next is
cut_before (Err place) records more at later is = is

-- a record that isn't accepted isn't, whatever follows
records_cut : (stack : Stack) (records more : List Record) (at : ℕ) → stack_after_records stack records ≡ Err at → stack_after_records stack (records ++ more) ≡ Err at
unfolding stack_after_records
records_cut stack [] more at is = absurd (cc is)
records_cut stack (one ∷ records) more at is = cut_before (stack_after_record stack one) records more at (λ next. records_cut next records more at) is

file_cut : (head : Head) (body : List ℕ) (records more : List Record) (at : ℕ) → stack_in_file head body records ≡ Err at → stack_in_file head body (records ++ more) ≡ Err at
file_cut head body records more at is = cut_before (stack_at_body head body) records more at (λ next. records_cut next records more at) is

pub misfit_behind : (files : Files) (walker : Walked) (body : List ℕ) (records : List Record) (at : ℕ) → StandAs files (found_behind walker body records files)
    → stack_in_file walker.head body records ≡ Err at → stands files ≡ misfit walker.file at
misfit_behind files walker body records at stand is =
    let more = chain_in walker files in
    stands_as files (found_behind walker body records files) stand
    ∙ stands_not walker.file walker.head body (records ++ more.records) more.end at (file_cut walker.head body records more.records at is)

-- ---- the body

at_ninety : (version : ℕ) → version ≡ 3 → (layout_of version).body_at ≡ 90
unfolding layout_of
at_ninety version three = ap (λ (v : ℕ). (layout_of v).body_at) three

-- its sum isn't right
pub misfit_of_sum : (files : Files) (parts : Unread) (at : ℕ) → AreParts parts files → is_intact_in parts files ≡ false → parts.head.version ≡ 3 → at ≡ (layout_of parts.head.version).body_at
    → stands files ≡ misfit parts.file at
misfit_of_sum files parts at are broken three is =
    ap stack_in (are.stand is_present refl ∙ ap (λ (b : Bool). if b then found_behind (walker_behind parts) (body_in parts files) [] files else fault_at parts.file summed_body_at) broken)
    ∙ ap (misfit parts.file) (sym (is ∙ at_ninety parts.head.version three))

-- they stand for this stack
pub stood_by_rows : (files : Files) (parts : Unread) (walker : Walked) (body : List ℕ) (stack : Stack) → walker.head ≡ parts.head → HasWalked walker body [] files
    → Some stack ≡ stack_in_body (profile_named (name_at parts.head.profile)) parts.head.depth body → HasStood walker stack files
stood_by_rows files parts walker body stack head walked is = record {
  body = body;
  records = [];
  walked = walked;
  leads = ap (λ (h : Head). stack_in_file h body []) head ∙ file_turned parts.head body stack (sym is);
}

-- ---- a record more

one_more : (r : Result Stack ℕ) (records : List Record) (one : Record) (stack : Stack) → (r >>= λ first. stack_after_records first records) ≡ Ok stack
    → (r >>= λ first. stack_after_records first (records ++ one ∷ [])) ≡ stack_after_record stack one
one_more (Ok first) records one stack is = records_more first records one ∙ ap (λ (r : Result Stack ℕ). r >>= λ last. stack_after_record last one) is
one_more (Err at) records one stack is = absurd (cc is)

-- what the records lead to with one more
leads_more : (walker next : Walked) (body : List ℕ) (records : List Record) (one : Record) (stack : Stack) → next ≡ walked_on walker (Some one) → stack_in_file walker.head body records ≡ Ok stack
    → stack_in_file next.head body (records ++ one ∷ []) ≡ stack_after_record stack one
leads_more walker next body records one stack on is =
    ap (λ (w : Walked). stack_in_file w.head body (records ++ one ∷ [])) on ∙ one_more (stack_at_body walker.head body) records one stack is

pub stood_more : (files image : Files) (walker next : Walked) (one : Record) (stack new : Stack) (stood : HasStood walker stack files) → next ≡ walked_on walker (Some one)
    → HasWalked next stood.body (stood.records ++ one ∷ []) image → stack_after_record stack one ≡ Ok new → HasStood next new image
stood_more files image walker next one stack new stood on walked is = record {
  body = stood.body;
  records = stood.records ++ one ∷ [];
  walked = walked;
  leads = leads_more walker next stood.body stood.records one stack on stood.leads ∙ is;
}

-- it isn't accepted
pub misfit_of_record : (files image : Files) (walker next : Walked) (one : Record) (stack : Stack) (why : Unjudged) (stood : HasStood walker stack files) → image ≡ files → next ≡ walked_on walker (Some one)
    → HasWalked next stood.body (stood.records ++ one ∷ []) image → IsUnjudged (stack_after_record stack one) why → IsMisfit (stands files) (fault_in walker.file why)
misfit_of_record files image walker next one stack (restores.At at) stood same on walked is =
    ap stands (sym same)
    ∙ misfit_behind image next stood.body (stood.records ++ one ∷ []) at walked.stand (leads_more walker next stood.body stood.records one stack on stood.leads ∙ is)
    ∙ ap (λ (w : Walked). misfit w.file at) on
misfit_of_record files image walker next one stack restores.Memory stood same on walked is = tt

-- ---- the end

pub stands_all : {S : Type 0} (means : Meanings S) (files : Files) (walker next : Walked) (stack : Stack) (site : S) (stood : HasStood walker stack files) → next ≡ walked_on walker None
    → HasEnded means next stood.body stood.records site → StandsAll means next stack site
stands_all means files walker next stack site stood on ended = record {
  stands =
      stands_as (means.seen site) (Ok (found_at next stood.body stood.records)) ended.stand
      ∙ ap (λ (w : Walked). in_file w.file (stack_in_file w.head stood.body stood.records)) on
      ∙ ap (in_file walker.file) stood.leads;
  holds = ended.holds;
}

-- ---- a gate that isn't there

nothing_lawful : (fault : GateFault) → HasNothingBefore fault → IsBehindLawful fault
nothing_lawful (gates.NotStore file at None) none = tt
nothing_lawful (gates.NotStore file at (Some before)) none = absurd (cc none)
nothing_lawful (gates.Halt halt) none = tt

pub is_lawful_behind : (fault : GateFault) → HasNothingBefore fault → IsBehindLawful fault
is_lawful_behind = nothing_lawful

misfit_so : (standing : Result Stack Misfit) (file : Which) (at : ℕ) (fault : OpenFault) → standing ≡ misfit file at → IsMisfit (misfit file at) fault → IsMisfit standing fault
misfit_so standing file at fault is = subst (λ (r : Result Stack Misfit). IsMisfit r fault) (sym is)

pub misfit_of_gate : (files : Files) (walker : Walked) (stack : Stack) (fault : GateFault) (result : OpenFault) (stood : HasStood walker stack files)
    → IsFaultBehind walker stood.body stood.records files fault → HasNothingBefore fault → ((read : Result Found Fault) → IsFault read fault → IsMisfit (stack_in read) result) → IsMisfit (stands files) result
misfit_of_gate files walker stack (gates.Halt halt) result stood is none tells = tells (reading is_present files) tt
misfit_of_gate files walker stack (gates.NotStore file at before) result stood is none tells =
    let intact : IntactPart = record { head = walker.head; body = stood.body; records = stood.records } in
    misfit_so (stands files) file at result
    (stands_as files (Err (record { file = file; at = at; before = Some intact })) is.2 ∙ ap (λ (r : Result Stack ℕ). in_file file (r >>= λ stack. Err at)) stood.leads)
    (tells (Err (record { file = file; at = at; before = None }))
    (ap (λ (b : Option Before). Err (record { file = file; at = at; before = intact_part b })) (sym none)))

-- ---- the head names the stack

pub names_more : (walker next : Walked) (one : Record) (stack new : Stack) → next ≡ walked_on walker (Some one) → stack_after_record stack one ≡ Ok new → Names walker.head stack → Names next.head new
names_more walker next one stack new on is names =
    let alike = counts_after stack new one is in
    subst (λ (w : Walked). Names w.head new) (sym on) (record {
      version = names.version;
      lawful = names.lawful;
      profile = names.profile ∙ sym alike.profile;
      depth = names.depth ∙ sym alike.depth;
    })

pub names_end : (walker next : Walked) (stack : Stack) → next ≡ walked_on walker None → Names walker.head stack → Names next.head stack
names_end walker next stack on = subst (λ (w : Walked). Names w.head stack) (sym on)

-- ---- what a crash leaves

pub settled_looking : {S : Type 0} (means : Meanings S) (old new : S) → OnlyLooks means old new → IsSettled means old → IsSettled means new
settled_looking means old new looks settled r left = settled r (looks.nothing.crash r left) ∙ sym looks.nothing.files

-- ---- the body's rows

module _ {S : Type 0} (means : Meanings S) (parts left : Unread) (walker : Walked) (head : Head) (site : S) where
  -- what is known behind the rows
  pub record RowsBehind : Type 0 where
    pub told : IsTrue (means.told site)
    pub are : AreParts parts (means.seen site)
    pub intact : IsTrue (is_intact_in parts (means.seen site))
    pub unread : parts.read ≡ 0
    pub same : left ≡ record parts { read = left.read }
    pub walker_is : walker ≡ walker_behind left
    pub walked : (files : Files) → AreParts left files → IsTrue (is_intact_in left files) → HasWalked walker (body_in left files) [] files
    pub head_is : head ≡ parts.head

  module _ (rows : RowsBehind) where
    has_walked : HasWalked walker (body_in parts (means.seen site)) [] (means.seen site)
    has_walked =
        let files = means.seen site in
        let are = subst (λ (u : Unread). AreParts u files) (sym rows.same) (record { there = rows.are.there; front = rows.are.front; stand = rows.are.stand }) in
        let intact = ap (λ (u : Unread). is_intact_in u files) rows.same ∙ rows.intact in
        subst (λ (body : List ℕ). HasWalked walker body [] files) (ap (λ (u : Unread). body_in u files) rows.same) (rows.walked files are intact)

    of_head : walker.head ≡ parts.head
    of_head = ap (λ (w : Walked). w.head) rows.walker_is ∙ ap (λ (u : Unread). u.head) rows.same

    of_file : walker.file ≡ parts.file
    of_file = ap (λ (w : Walked). w.file) rows.walker_is ∙ ap (λ (u : Unread). u.file) rows.same

    read_from_start : (p : Profile) (found : Option Stack) → p ≡ profile_named (name_at head.profile)
        → ((bytes : List ℕ) → IsLeft means parts site bytes → found ≡ stack_in_body p head.depth bytes)
        → found ≡ stack_in_body (profile_named (name_at parts.head.profile)) parts.head.depth (body_in parts (means.seen site))
    read_from_start p found is reads =
        let files = means.seen site in
        reads (left_in parts files) (record { told = rows.told; are = rows.are; is = refl })
        ∙ ap (λ (q : Profile). stack_in_body q head.depth (left_in parts files)) is
        ∙ ap (λ (h : Head). stack_in_body (profile_named (name_at h.profile)) h.depth (left_in parts files)) rows.head_is
        ∙ ap (λ (n : ℕ). stack_in_body (profile_named (name_at parts.head.profile)) parts.head.depth (drop n (body_in parts files))) rows.unread

    pub stood_on_rows : (p : Profile) (stack : Stack) → p ≡ profile_named (name_at head.profile)
        → ((bytes : List ℕ) → IsLeft means parts site bytes → Some stack ≡ stack_in_body p head.depth bytes) → HasStood walker stack (means.seen site)
    stood_on_rows p stack is reads = stood_by_rows (means.seen site) parts walker (body_in parts (means.seen site)) stack of_head has_walked (read_from_start p (Some stack) is reads)

-- nor do they stand, where nothing is asked of the walker
pub misfit_on_rows : {S : Type 0} (means : Meanings S) (parts : Unread) (head : Head) (site : S) (p : Profile) (at : ℕ) → IsTrue (means.told site) → AreParts parts (means.seen site)
    → IsTrue (is_intact_in parts (means.seen site)) → parts.read ≡ 0 → head ≡ parts.head → p ≡ profile_named (name_at head.profile)
    → ((bytes : List ℕ) → IsLeft means parts site bytes → None ≡ stack_in_body p head.depth bytes) → at ≡ (layout_of head.version).body_at → stands (means.seen site) ≡ misfit parts.file at
misfit_on_rows means parts head site p at told are intact unread head_is is reads place =
    let files = means.seen site in
    let body = body_in parts files in
    let walker = walker_behind parts in
    let none : None ≡ stack_in_body (profile_named (name_at parts.head.profile)) parts.head.depth body =
    reads (left_in parts files) (record { told = told; are = are; is = refl })
    ∙ ap (λ (q : Profile). stack_in_body q head.depth (left_in parts files)) is
    ∙ ap (λ (h : Head). stack_in_body (profile_named (name_at h.profile)) h.depth (left_in parts files)) head_is
    ∙ ap (λ (n : ℕ). stack_in_body (profile_named (name_at parts.head.profile)) parts.head.depth (drop n body)) unread in
    let cut : stack_at_body parts.head body ≡ Err at =
    ap (or_place (layout_of parts.head.version).body_at) (sym none) ∙ ap (λ (n : ℕ). Err n) (sym (place ∙ ap (λ (h : Head). (layout_of h.version).body_at) head_is)) in
    misfit_behind files walker body [] at
    (λ reads three. are.stand reads three ∙ ap (λ (b : Bool). if b then found_behind walker body [] files else fault_at parts.file summed_body_at) intact)
    (ap (λ (r : Result Stack ℕ). r >>= λ stack. stack_after_records stack []) cut)

pub names_on_rows : (head walked : Head) (stack : Stack) (p : Profile) → walked ≡ head → is_lawful head ≡ true → head.version ≡ 3 → p ≡ profile_named (name_at head.profile)
    → stack.profile ≡ p → stack.depth ≡ head.depth → Names walked stack
names_on_rows head walked stack p same lawful three is profile depth =
    subst (λ (h : Head). Names h stack) (sym same) (record { version = ap is_present three; lawful = lawful; profile = sym (profile ∙ is); depth = sym depth })

-- ---- faults

pub not_disk_in : (file : Which) (why : Unjudged) → fault_in file why ≡ opens.Halt halts.Disk → ⊥
not_disk_in file (restores.At at) is = absurd (cc is)
not_disk_in file restores.Memory is = memory_or_disk is where
  memory_or_disk : opens.Halt halts.Memory ≡ opens.Halt halts.Disk → ⊥
  memory_or_disk is = cc is

pub same_halt : (a b : Halt) → opens.Halt a ≡ opens.Halt b → a ≡ b
same_halt a b is = cc is

-- the halt of a call is passed on
pub halt_passed : {T X : Type 0} (r : Result T OpenFault) (e : OpenFault) (halt : Halt) → r ≡ Err e → e ≡ opens.Halt halt → r ≡ Err (opens.Halt halts.Disk) → ◌≡◌ {A = Result X Halt} (Err halt) (Err halts.Disk)
halt_passed r e halt is same disk = ap Err (same_halt halt halts.Disk (sym same ∙ same_fault e (opens.Halt halts.Disk) (sym is ∙ disk)))

pub halt_passed_so : {T X : Type 0} (r : Result T OpenFault) (e : OpenFault) (halt : Halt) → r ≡ Err e → e ≡ opens.Halt halt → ◌≡◌ {A = Result X Halt} (Err halt) (Err halts.Disk) → r ≡ Err (opens.Halt halts.Disk)
halt_passed_so r e halt is same disk = is ∙ ap Err (same ∙ ap (λ (h : Halt). opens.Halt h) (same_fault halt halts.Disk disk))

-- how reading of rows ended
pub record RowsHalted {S : Type 0} (means : Meanings S) (halt : Halt) (old new : S) : Type 0 where
  pub looks : OnlyLooks means old new
  pub failed : halt ≡ halts.Disk → Rose (means.counts old).disk (means.counts new).disk
  pub counted : StopsAtFault (halt ≡ halts.Disk) ⊥ ⊥ (means.counts old) (means.counts new)

memory_isnt_disk : halts.Memory ≡ halts.Disk → ⊥
memory_isnt_disk is = cc is

pub rows_halted : {S : Type 0} (means : Meanings S) (k l : Pieces) (fault : BodyFault Halt) (old new : S)
    → Halted {S = Pieces} (λ k old l new. ReadsOn means k.parts old l.parts new) (λ k old halt l new. ReadsUntil means old halt new) k old fault l new → RowsHalted means (halt_in_body fault) old new
rows_halted means k l bodies.Memory old new went = record {
  looks = went.looks;
  failed = λ is. absurd (memory_isnt_disk is);
  counted = stops_at_none _ _ _ _ _ went.counted;
}
rows_halted means k l (bodies.Source halt) old new ended = record { looks = ended.looks; failed = ended.failed; counted = ended.counted }

pub counts_of : (p : Profile) (depth : ℕ) (found : Option Stack) (stack : Stack) → found ≡ Some stack → IfSome found (λ stack. (stack.profile ≡ p) × (stack.depth ≡ depth)) → (stack.profile ≡ p) × (stack.depth ≡ depth)
counts_of p depth found stack is = subst (λ (o : Option Stack). IfSome o (λ stack. (stack.profile ≡ p) × (stack.depth ≡ depth))) is

-- ---- record by record

-- from a site on the records so far led to this stack, by calls that only look, of which none failed
pub record StoodSince {S : Type 0} (means : Meanings S) (old : S) (walker : Walked) (stack : Stack) (site : S) : Type 0 where
  pub looks : OnlyLooks means old site
  pub counted : NoFault (means.counts old) (means.counts site)
  pub stood : IsTrue (means.told old) → HasStood walker stack (means.seen old)
  pub names : Names walker.head stack

pub memory_alone : {T : Type 0} → ◌≡◌ {A = Result T OpenFault} (Err (opens.Halt halts.Memory)) (Err (opens.Halt halts.Disk)) → ⊥
memory_alone is = not_both_halts (same_halt halts.Memory halts.Disk (same_fault (opens.Halt halts.Memory) (opens.Halt halts.Disk) is)) where
  not_both_halts : halts.Memory ≡ halts.Disk → ⊥
  not_both_halts same = cc same

-- what is wrong where only memory runs out
pub memory_misfit : {T : Type 0} (standing : Result Stack Misfit) (r : Result T OpenFault) → IfErr r (λ fault. fault ≡ opens.Halt halts.Memory) → IfErr r (IsMisfit standing)
memory_misfit standing (Ok x) memory = tt
memory_misfit standing (Err fault) memory = subst (IsMisfit standing) (sym memory) tt

pub memory_not_disk : {T : Type 0} (r : Result T OpenFault) → IfErr r (λ fault. fault ≡ opens.Halt halts.Memory) → r ≡ Err (opens.Halt halts.Disk) → ⊥
memory_not_disk (Ok x) memory is = absurd (cc is)
memory_not_disk (Err fault) memory is = memory_alone {T = OpenFault} (ap Err (sym memory ∙ same_fault fault (opens.Halt halts.Disk) is))
