-- The laws of a desk, for a desk over a store.
use Rattle.std.proofs.Common.{◌≡◌, ◌∙◌, ◌≤◌, Bool, Option, Some, None, length}
use Rattle.std.proofs.Common.{refl, sym, ap, subst}
use Rattle.std.proofs.Math.Nat.{zero-lt-suc}
use Rattle.std.specs.Prelude.{IsTrue, Result, Ok, Err}
use Rattle.ox_outside.specs.Crash.{LeavesFiles, Remains}
use Rattle.ox_outside.specs.Files.{Files, file_of, other}
use Rattle.ox_outside.specs.declared.site.Site.{Ghosts as Meanings}
use Rattle.ox_feed.specs.declared.command.Command.{Command}
use Rattle.ox_http.specs.Written.{written}
use Rattle.ox_http.specs.declared.Reply.{Reply}
use Rattle.ox_http.specs.declared.Request.{Request}
use Rattle.ox_gated.specs.Layout.{is_closed}
use Rattle.ox_gated.specs.Reading.{is_any, reading}
use Rattle.ox_gated.specs.Tail.{Holds, Keeps, Kept}
use Rattle.ox_turns.specs.Desk.{IsHttp}
use Rattle.ox_rules.specs.declared.refusal.Refusal.{Refusal}
use Rattle.ox_model.specs.Stack.{Stack, stack_after}
use Rattle.ox_files.specs.Stands.{stands}
use Rattle.ox_desk.specs.Asked.{asked_on}
use Rattle.ox_desk.specs.Commands.{command_of}
use Rattle.ox_desk.specs.Desk.{DeskContents, Rests}
use Rattle.ox_desk.specs.Replies.{command_reply, reply_or}
use Rattle.ox_desk.specs.Servers.{server_on}
use Rattle.ox_desk.specs.Telling.{query_told}

-- a command's reply closes as it was asked to, and so does each other
command_closes : (close : Bool) (turned : Result Stack Refusal)
    → (command_reply asked_on turned close).close ≡ close
command_closes close (Ok new) = refl
command_closes close (Err refusal) = refl

reply_closes : (stack : Stack) (request : Request) (command : Option Command)
    → (reply_or stack_after asked_on stack request command).close ≡ request.close
reply_closes stack request (Some command) =
    command_closes request.close (stack_after stack command)
reply_closes stack request None = (query_told (asked_on stack) request).0

-- no reply is empty
written_some : (reply : Reply) → 1 ≤ length (written reply)
unfolding written
written_some reply = zero-lt-suc _

pub serves_http : IsHttp server_on
serves_http = record {
  talk = λ bytes. refl;
  fault_bytes = λ status. refl;
  fault_closes = λ status. refl;
  unavailable_bytes = refl;
  unavailable_closes = refl;
  reply_speaks = λ stack operator request. written_some _;
  reply_closes = λ stack operator request.
      reply_closes stack request (command_of operator request);
}

module _ {S : Type 0} (means : Meanings S) where
  -- a tail holds other files that read and survive as these do
  holds_on : (tail : Kept) (old new : S) → LeavesFiles means.seen means.may_leave old new
      → Holds means tail old → Holds means tail new
  holds_on tail old new files holds = let same = sym files.files in record {
    settled = λ r left. let before = files.none_new r left in
        before.2 ∙ holds.settled before.0 before.1 ∙ same;
    some_a = subst (λ (f : Files). 1 ≤ length f.a) same holds.some_a;
    some_b = subst (λ (f : Files). 1 ≤ length f.b) same holds.some_b;
    keeps = subst (λ (f : Files). Keeps tail (reading is_any f)) same holds.keeps;
    closed =
        subst (λ (f : Files). tail.other_closed ≡ is_closed (file_of f (other tail.file))) same
        holds.closed;
  }

  -- files that are left as they are stay as the desk left them
  pub rests_on : (desk : DeskContents) (old new : S) → means.told new ≡ means.told old
      → LeavesFiles means.seen means.may_leave old new → Rests means desk old
      → Rests means desk new
  rests_on desk old new told files rests = record {
    is_open = rests.is_open;
    holds = λ is. holds_on desk.tail old new files (rests.holds (sym told ∙ is));
    stands_for = λ is. ap stands files.files ∙ rests.stands_for (sym told ∙ is);
  }

  -- a crash leaves what stands for the desk's stack
  pub leaves_standing : (desk : DeskContents) (site : S) → IsTrue (means.told site)
      → Rests means desk site → (r : Remains) → means.may_leave site r
      → stands r.files ≡ Ok desk.stack
  leaves_standing desk site told rests r left =
      ap stands ((rests.holds told).settled r left) ∙ rests.stands_for told
