-- The head of a store's file names the stack of the store, before a command and after it.
use Rattle.std.proofs.Common.{◌≡◌, ◌∙◌, ℕ, ◌+◌, ◌≤◌, Bool, true, false, List, [], ◌∷◌, take, refl, sym, ap, arith}
use Rattle.std.specs.Prelude.{◌&&◌, ◌||◌, ◌==◌, not, nat_le, nat_lt, Result, Ok, Err}
use Rattle.std.proofs.lemmas.Bool.{false≢true, le-leb, ne_eqb}
use Rattle.ox_gated.specs.Layout.{is_lawful}
use Rattle.ox_gated.specs.Reading.{is_present}
use Rattle.ox_gated.specs.declared.head.Head.{Head}
use Rattle.ox_gated.specs.declared.records.Record.{Record}
use Rattle.ox_sat.specs.Profiles.{name_at, profile_named}
use Rattle.ox_sat.specs.declared.profiles.ProfileName.{ProfileName}
use Rattle.ox_sat.specs.declared.profiles.ProfileName.TheVariants.{Mainnet, Regtest, Lab}
use Rattle.ox_rules.specs.declared.refusal.Refusal.{Refusal}
use Rattle.ox_feed.specs.declared.command.Command.{Command}
use Rattle.ox_feed.specs.declared.command.Command.TheVariants.{Connect, Disconnect}
use Rattle.ox_model.specs.Index.{Index}
use Rattle.ox_model.specs.Machine.{empty_machine, stack_of}
use Rattle.ox_model.specs.Stack.{Stack, back_to, stack_after, with_index}
use Rattle.ox_model.specs.Step.{step}
use Rattle.ox_files.specs.Stands.{stack_in_file}
use Rattle.ox_files.proofs.FilesOfStacks.{file_stack}
use Rattle.ox_store.specs.Heads.{Names, next_head}
use Rattle.ox_store.specs.Make.{first_head}

-- ---- a command changes neither the profile nor the depth

pub record CountsAlike (before after : Stack) : Type 0 where
  pub profile : before.profile ≡ after.profile
  pub depth : before.depth ≡ after.depth

counts_as : (before put after : Stack) → put ≡ after → put.profile ≡ before.profile → put.depth ≡ before.depth → CountsAlike before after
counts_as before put after same profile depth = record {
  profile = sym profile ∙ ap (λ (s : Stack). s.profile) same;
  depth = sym depth ∙ ap (λ (s : Stack). s.depth) same;
}

counts_connected : (before after : Stack) (r : Result Index Refusal) → with_index before r ≡ Ok after → CountsAlike before after
counts_connected before after (Ok index) is =
    counts_as before (record before { index = index; older = take before.depth (before.index ∷ before.older) }) after (cc is) refl refl
counts_connected before after (Err refusal) is = absurd (cc is)

counts_back : (before after : Stack) (older : List Index) → back_to before older ≡ Ok after → CountsAlike before after
counts_back before after [] is = absurd (cc is)
counts_back before after (index ∷ older) is = counts_as before (record before { index = index; older = older }) after (cc is) refl refl

pub counts_alike : (before after : Stack) (command : Command) → stack_after before command ≡ Ok after → CountsAlike before after
counts_alike before after (Connect block) is = counts_connected before after (step before.profile before.index block) is
counts_alike before after Disconnect is = counts_back before after before.older is

pub names_after : (head : Head) (before after : Stack) (command : Command) → Names head before → stack_after before command ≡ Ok after → Names head after
names_after head before after command names is =
    let alike = counts_alike before after command is in record {
      version = names.version;
      lawful = names.lawful;
      profile = names.profile ∙ alike.profile;
      depth = names.depth ∙ alike.depth;
    }

-- ---- the next head

last_for : (a b c d e f : Bool) → (a && b && c && d && e) ≡ true → f ≡ true → (a && b && c && d && f) ≡ true
last_for true true true true e f is last = last
last_for false b c d e f is last = absurd (false≢true is)
last_for true false c d e f is last = absurd (false≢true is)
last_for true true false d e f is last = absurd (false≢true is)
last_for true true true false e f is last = absurd (false≢true is)

never_none : (n : ℕ) → not (n + 1 == 0) ≡ true
never_none n = ap not (ne_eqb (n + 1) 0 (λ e. omega (arith, e)))

lawful_next : (head : Head) → is_lawful head ≡ true → is_lawful (next_head head) ≡ true
lawful_next head is =
    last_for (head.version == 1 || head.version == 2 || head.version == 3) (nat_lt head.profile 3) (nat_le 1 head.depth) (nat_le head.depth 1000)
    (not (head.generation == 0)) (not (head.generation + 1 == 0)) is (never_none head.generation)

pub names_next : (head : Head) (stack : Stack) → Names head stack → Names (next_head head) stack
names_next head stack names = record {
  version = names.version;
  lawful = lawful_next head names.lawful;
  profile = names.profile;
  depth = names.depth;
}

-- ---- the first head

-- a profile's byte names it
name_named : (name : ProfileName) → name_at (profile_named name).byte ≡ name
name_named Mainnet = refl
name_named Regtest = refl
name_named Lab = refl

low_byte : (name : ProfileName) → nat_lt (profile_named name).byte 3 ≡ true
low_byte Mainnet = refl
low_byte Regtest = refl
low_byte Lab = refl

all_true : (a b c d e : Bool) → a ≡ true → b ≡ true → c ≡ true → d ≡ true → e ≡ true → (a && b && c && d && e) ≡ true
all_true a b c d e is_a is_b is_c is_d is_e = rw (is_a, is_b, is_c, is_d, is_e) refl

lawful_first : (name : ProfileName) (depth : ℕ) → 1 ≤ depth → depth ≤ 1000 → is_lawful (first_head name depth) ≡ true
lawful_first name depth some few =
    all_true (2 == 1 || 2 == 2 || 2 == 3) (nat_lt (profile_named name).byte 3) (nat_le 1 depth) (nat_le depth 1000) (not (1 == 0))
    refl (low_byte name) (le-leb 1 depth some) (le-leb depth 1000 few) refl

pub names_first : (name : ProfileName) (depth : ℕ) (stack : Stack) → 1 ≤ depth → depth ≤ 1000 → stack ≡ stack_of (empty_machine (profile_named name) depth) → Names (first_head name depth) stack
names_first name depth stack some few is = record {
  version = refl;
  lawful = lawful_first name depth some few;
  profile = ap profile_named (name_named name) ∙ sym (ap (λ (s : Stack). s.profile) is);
  depth = sym (ap (λ (s : Stack). s.depth) is);
}

-- ---- a file that is read

pub names_read : (head : Head) (bytes : List ℕ) (records : List Record) (stack : Stack) → is_present head.version ≡ true → is_lawful head ≡ true → stack_in_file head bytes records ≡ Ok stack → Names head stack
names_read head bytes records stack version lawful is =
    let of = file_stack head bytes records stack is in record { version = version; lawful = lawful; profile = sym of.has_profile; depth = sym of.has_depth }
