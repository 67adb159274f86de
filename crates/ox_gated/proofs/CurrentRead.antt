-- The current file from its body on, by the parts that were read: its front, its body, and what stands behind that.
use Rattle.std.proofs.Common.{◌≡◌, ◌∙◌, ◌≤◌, ◌+◌, ◌-◌, min, ℕ, Bool, true, false, List, length, take, drop, ◌||◌, not, if◌then◌else◌, sym, ap, arith, length-drop}
use Rattle.std.specs.Prelude.{nat_lt, slice_range}
use Rattle.std.proofs.lemmas.Bool.{ltb-false, le-ltb}
use Rattle.std.proofs.lemmas.List.{take_all, take-take, drop-drop}
use Rattle.ox_outside.specs.declared.site.Which.{Which}
use Rattle.ox_gated.specs.Layout.{Layout, layout_of}
use Rattle.ox_gated.specs.Opened.{IsFrontOf}
use Rattle.ox_gated.specs.Reading.{by_parts, fault_at, body_reading}
use Rattle.ox_gated.specs.declared.head.Opening.{Opening}
use Rattle.ox_gated.specs.declared.open.Front.{Front}
use Rattle.ox_gated.proofs.LayoutLaws.{laws_of}

module _ (opening : Opening) (at : ℕ) (at_is : at ≡ (layout_of opening.head.version).body_at) (front : Front) (fits : nat_lt front.len (at + opening.size) ≡ false) where
  abbrev layout : Layout
  layout = layout_of opening.head.version

  abbrev size : ℕ
  size = opening.size

  within : at + size ≤ front.len
  within = ltb-false front.len (at + size) fits

  -- the front reaches the body
  pub front_long : (items : List ℕ) → items ≡ front.bytes.items → length front.bytes.items ≡ min 90 front.len → layout.body_at ≤ length items
  front_long items same long = let ends = (laws_of opening.head.version).ends in omega (arith, ap length same, long, within, at_is, ends)

  module _ (file : Which) (bytes items body : List ℕ) (is_front : IsFrontOf front bytes) (same : items ≡ front.bytes.items) (is_body : body ≡ slice_range bytes at (at + size)) where
    body_there : take size (drop layout.body_at bytes) ≡ body
    body_there =
        let one : at + size - at ≡ size = omega arith in
        ap (λ (k : ℕ). take size (drop k bytes)) (sym at_is) ∙ ap (λ (k : ℕ). take k (drop at bytes)) (sym one) ∙ sym is_body

    front_there : take layout.body_at bytes ≡ take layout.body_at items
    front_there =
        let ends = (laws_of opening.head.version).ends in
        sym (ap (take layout.body_at) (same ∙ is_front.bytes) ∙ take-take layout.body_at 90 bytes ends)

    enough : nat_lt (length bytes) (layout.body_at + size) ≡ false
    enough = le-ltb (length bytes) (layout.body_at + size) (omega (arith, within, at_is, is_front.len))

    by_test : (right : Bool) → layout.is_body (take layout.body_at items) body ≡ right → body_reading file bytes opening
        ≡ (if not right then fault_at file layout.body_at else by_parts layout file opening body (drop size (drop layout.body_at bytes)))
    by_test right is =
        (λ i. if enough i || not (layout.is_body (front_there i) (body_there i)) then fault_at file layout.body_at else by_parts layout file opening (body_there i) (drop size (drop layout.body_at bytes)))
        ∙ ap (λ (b : Bool). if not b then fault_at file layout.body_at else by_parts layout file opening body (drop size (drop layout.body_at bytes))) is

    -- a body that isn't as its sum says
    pub current_wrong : layout.is_body (take layout.body_at items) body ≡ false → body_reading file bytes opening ≡ fault_at file at
    current_wrong wrong = by_test false wrong ∙ ap (fault_at file) (sym at_is)

    -- and one that is, with what stands behind it
    pub current_right : layout.is_body (take layout.body_at items) body ≡ true → (rest : List ℕ) → rest ≡ slice_range bytes (at + size) (at + size + (front.len - (at + size))) → by_parts layout file opening body rest ≡ body_reading file bytes opening
    current_right right rest is_rest =
        let long : length (drop (at + size) bytes) ≤ at + size + (front.len - (at + size)) - (at + size) = omega (arith, length-drop (at + size) bytes, is_front.len, within) in
        let rest_is : rest ≡ drop size (drop layout.body_at bytes) =
        is_rest ∙ take_all (at + size + (front.len - (at + size)) - (at + size)) (drop (at + size) bytes) long ∙ sym (drop-drop size at bytes) ∙ ap (λ (k : ℕ). drop size (drop k bytes)) at_is in
        ap (by_parts layout file opening body) rest_is ∙ sym (by_test true right)

-- a body that is cut
pub current_cut : (opening : Opening) (at : ℕ) → at ≡ (layout_of opening.head.version).body_at → (front : Front) → nat_lt front.len (at + opening.size) ≡ true → (file : Which) (bytes : List ℕ) → IsFrontOf front bytes → body_reading file bytes opening ≡ fault_at file at
current_cut opening at at_is front cut file bytes is_front =
    let layout = layout_of opening.head.version in
    let body_on = drop layout.body_at bytes in
    let body = take opening.size body_on in
    let short : nat_lt (length bytes) (layout.body_at + opening.size) ≡ true = (λ i. nat_lt (sym is_front.len i) (sym at_is i + opening.size)) ∙ cut in
    ap (λ (b : Bool). if b || not (layout.is_body (take layout.body_at bytes) body) then fault_at file layout.body_at else by_parts layout file opening body (drop opening.size body_on)) short
    ∙ ap (fault_at file) (sym at_is)
