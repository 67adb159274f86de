-- What is replied to a part that names something, and to one that doesn't.
use Rattle.std.proofs.Common.{◌≡◌, Bool, List, ℕ, Option, Some, None, Result, IfOk, is_some, unwrap_or, sym, ap, true≢false}
use Rattle.std.specs.Option.{option_map}
use Rattle.serde_json.specs.Data.{Data}
use Rattle.serde_json.specs.Written.{compact_text}
use Rattle.ox_http.specs.declared.Reply.{Reply}
use Rattle.ox_replies.specs.Ask.{tree_reply}

-- a body is that of the tree that is found
module _ {E : Type 0} (result : Result Reply E) (close : Bool) (otherwise : Reply) where
  abbrev Replies : Option Data → Type 0
  Replies tree = IfOk result (λ reply. reply ≡ unwrap_or (option_map (λ tree. tree_reply 200 tree close) tree) otherwise)

  pub some_replied : (tree : Option Data) (body : List ℕ) → Some body ≡ option_map compact_text tree
      → ((told : Data) → body ≡ compact_text told → IfOk result (λ reply. reply ≡ tree_reply 200 told close)) → Replies tree
  some_replied None body e replied = absurd (true≢false (ap is_some e))
  some_replied (Some told) body e replied = replied told (ap (λ o. unwrap_or o body) e)

  pub none_replied : (tree : Option Data) → None ≡ option_map compact_text tree → IfOk result (λ reply. reply ≡ otherwise) → Replies tree
  none_replied None e replied = replied
  none_replied (Some told) e replied = absurd (true≢false (sym (ap is_some e)))
