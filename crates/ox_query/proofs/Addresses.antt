-- The tree of an address, by what its outputs hold.
use Rattle.std.proofs.Common.{◌≡◌, ◌∙◌, ◌<◌, ℕ, ◌+◌, Bool, true, false, cond, not, List, length, Some, Option, Result, refl, sym, ap, subst, arith}
use Rattle.std.specs.Prelude.{All, IfOk, option_map, unwrap_or}
use Rattle.std.proofs.lemmas.List.Elements.{All-weaker}
use Rattle.serde_json.specs.Written.{compact_text}
use Rattle.ox_address.specs.Address.{address_of}
use Rattle.ox_address.specs.Spelled.{script_in}
use Rattle.ox_block.specs.declared.block.OutPoint.{OutPoint}
use Rattle.ox_http.specs.declared.Method.{Method}
use Rattle.ox_http.specs.declared.Method.TheVariants.{Get, Post, Other}
use Rattle.ox_http.specs.declared.Reply.{Reply}
use Rattle.ox_http.specs.declared.Request.{Request}
use Rattle.ox_sat.specs.declared.profiles.Profile.{Profile}
use Rattle.ox_holders.specs.Outputs.{outputs_with}
use Rattle.ox_model.specs.Index.{Index}
use Rattle.ox_replies.specs.Ask.{error_reply, same_method, tree_reply}
use Rattle.ox_held.specs.Held.{held_at, is_on_one, sats_at}
use Rattle.ox_held.specs.Paths.{hrp_in}
use Rattle.ox_held.specs.Replies.{address_reply, tree_named}
use Rattle.ox_held.specs.Trees.{address_tree, held_tree}
use Rattle.ox_held.specs.declared.held.Held.{Held}
use Rattle.ox_held.proofs.Between.{below}

module _ (index : Index) where
  -- the inscriptions are there
  pub inscriptions_there : (places : List OutPoint) (held : Held) → held ≡ held_at index places → All (λ n. n < length index.inscriptions) held.inscriptions
  inscriptions_there places held is =
      subst (λ (h : Held). All (λ n. n < length index.inscriptions) h.inscriptions) (sym is)
      (All-weaker (λ n. n < 0 + length index.inscriptions) (λ n. n < length index.inscriptions) (λ n less. omega (arith, less)) (held_at index places).inscriptions
      (below (is_on_one (sats_at index.outs places)) 0 index.inscriptions))

  pub its_tree : (hrp script : List ℕ) (places : List OutPoint) (held : Held) → places ≡ outputs_with script index.outs → held ≡ held_at index places
      → held_tree index (address_of hrp script) script places held ≡ address_tree index hrp script
  its_tree hrp script places held are is =
      ap (λ (h : Held). held_tree index (address_of hrp script) script places h) is
      ∙ ap (λ (ps : List OutPoint). held_tree index (address_of hrp script) script ps (held_at index ps)) are

-- the reply by the request's method
module _ {E : Type 0} (result : Result Reply E) (p : Profile) (index : Index) (request : Request) (part : List ℕ) where
  found : Reply
  found = unwrap_or (option_map (λ tree. tree_reply 200 tree request.close) (tree_named p index part)) (error_reply 404 request.close)

  abbrev Replied : Bool → Type 0
  Replied same = IfOk result (λ reply. reply ≡ cond (not same) (error_reply 405 request.close) found)

  pub another_method : same_method request.method Get ≡ false → IfOk result (λ reply. reply ≡ error_reply 405 request.close) → IfOk result (λ reply. reply ≡ address_reply p index request part)
  unfolding found
  another_method is replied = subst Replied (sym is) replied

  pub its_method : same_method request.method Get ≡ true
      → IfOk result (λ reply. reply ≡ unwrap_or (option_map (λ tree. tree_reply 200 tree request.close) (tree_named p index part)) (error_reply 404 request.close))
      → IfOk result (λ reply. reply ≡ address_reply p index request part)
  unfolding found
  its_method is replied = subst Replied (sym is) replied

pub method_is : (a b : Method) → same_method a b ≡ true → a ≡ b
method_is Get Get e = refl
method_is Post Post e = refl
method_is Other Other e = refl
method_is a b e = absurd (let no : ⊥ = cc e in no)

-- the body of the tree that a part names
pub its_body : (p : Profile) (index : Index) (part script body : List ℕ) → script_in (hrp_in p) part ≡ Some script
    → body ≡ compact_text (address_tree index (hrp_in p) script) → Some body ≡ option_map compact_text (tree_named p index part)
its_body p index part script body named is =
    ap (λ (b : List ℕ). Some b) is
    ∙ sym (ap (λ (script : Option (List ℕ)). option_map compact_text (option_map (address_tree index (hrp_in p)) script)) named)
