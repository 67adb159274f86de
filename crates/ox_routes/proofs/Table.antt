-- Which route of the table a router of its rows finds.
use Rattle.std.proofs.Common.{◌≡◌, ◌≤◌, ◌⊎◌, inl, inr, ⊎_elim, ℕ, ◌+◌, Bool, true, false, not, cond, ◌&&◌, ◌||◌, ◌==◌, nat_eq, ltb, eqb-true, List, [], ◌∷◌, ◌++◌, map, length, take, drop, Option, Some, None, is_some, option_map, count_by, refl, sym, ap, ◌∙◌, subst, true≢false, arith, unwrap_or, zero-le, suc-le-suc, ap₂, IsUtf8, ◌-◌, take_all, length-drop}
use Rattle.std.specs.List.{list_all, list_any, find, starts_with}
use Rattle.std.specs.Cmp.Lexicographic.{pointwise}
use Rattle.std.specs.Str.{is_utf8}
use Rattle.std.proofs.lemmas.Str.{IsUtf8-from_is_utf8, is_utf8-from_IsUtf8}
use Rattle.std.proofs.lemmas.List.Sums.{sum_by-cons}
use Rattle.std.proofs.lemmas.Bool.{not-true, eqb-false}
use Rattle.matchit.specs.Rows.{RowsOf, param_token}
use Rattle.matchit.specs.Seek.{first, has_slash}
use Rattle.matchit.specs.Router.{RouteOf}
use Rattle.ox_routes.specs.declared.route.Route.{Route}
use Rattle.ox_routes.specs.declared.route.Route.TheVariants.{Audit, BlockHash, Connect, Content, Disconnect, Inscription, Inscriptions, Output, Rune, Runes, Sat, Status}
use Rattle.ox_routes.specs.Table.{row_of, routes, fits, takes, route_taken, route_and_part}
use Rattle.ox_routes.specs.Rows.{part_tokens, entry, row_shown}
use Rattle.ox_routes.proofs.Walk.{matches, is_simple, Member, AreSimple, first_takes, takes_first, first_half, second_half, either}

-- a byte is no token of a parameter
byte_apart : (x : ℕ) → ltb x param_token ≡ true → (x == param_token) ≡ false
byte_apart x h = by (x == param_token) refl
  where
    by : (v : Bool) → (x == param_token) ≡ v → (x == param_token) ≡ false
    by true e = absurd (true≢false (sym (subst (λ y. ltb y param_token ≡ true) (eqb-true x param_token e) h)))
    by false e = e

absorbs : (a x : Bool) → (a ≡ true → x ≡ true) → (a || x) ≡ x
absorbs true x h = sym (h refl)
absorbs false x h = refl

or_false : (a : Bool) → (a || false) ≡ a
or_false true = refl
or_false false = refl

and_assoc : (a b c : Bool) → (a && (b && c)) ≡ ((a && b) && c)
and_assoc true b c = refl
and_assoc false b c = refl

slash_any : (path : List ℕ) → has_slash path ≡ list_any (λ b. b == 47) path
slash_any [] = refl
slash_any (b ∷ path) = elim (b == 47) as (λ v. cond v true (has_slash path) ≡ (v || list_any (λ b. b == 47) path)) [ true ↦ refl | false ↦ slash_any path ]

-- a part's token takes what a part may be
part_matches : (part : Bool) (path : List ℕ) → matches (part_tokens part) path ≡ fits part path
part_matches false [] = refl
part_matches false (b ∷ path) = refl
part_matches true [] = refl
part_matches true (b ∷ path) =
    absorbs ((param_token == b) && matches [] path) (not (has_slash (b ∷ path))) (by path) ∙ ap not (slash_any (b ∷ path))
  where
    by : (path : List ℕ) → ((param_token == b) && matches [] path) ≡ true → not (has_slash (b ∷ path)) ≡ true
    by [] h = subst (λ y. not (has_slash (y ∷ [])) ≡ true) (eqb-true param_token b (first_half _ _ h)) refl
    by (c ∷ path) h = absurd (true≢false (sym (second_half (param_token == b) false h)))

all_bytes : List ℕ → Bool
all_bytes [] = true
all_bytes (x ∷ text) = ltb x param_token && all_bytes text

-- the pattern of a text and a part takes what the row takes
row_matches : (text : List ℕ) → all_bytes text ≡ true → (part : Bool) (path : List ℕ)
    → matches (text ++ part_tokens part) path ≡ (starts_with nat_eq path text && fits part (drop (length text) path))
unfolding all_bytes
row_matches [] h part [] = part_matches part []
row_matches [] h part (b ∷ path) = part_matches part (b ∷ path)
row_matches (x ∷ text) h part [] = refl
row_matches (x ∷ text) h part (b ∷ path) =
    ap (λ v. ((x == b) && matches (text ++ part_tokens part) path) || (v && not (has_slash (b ∷ path)))) (byte_apart x (first_half _ _ h))
    ∙ or_false ((x == b) && matches (text ++ part_tokens part) path)
    ∙ ap (λ v. (x == b) && v) (row_matches text (second_half _ _ h) part path)
    ∙ and_assoc (x == b) (pointwise nat_eq text (take (length text) path)) (fits part (drop (length text) path))

route_bytes : (route : Route) → all_bytes (row_of route).text ≡ true
unfolding all_bytes
route_bytes Audit = refl
route_bytes BlockHash = refl
route_bytes Connect = refl
route_bytes Content = refl
route_bytes Disconnect = refl
route_bytes Inscription = refl
route_bytes Inscriptions = refl
route_bytes Output = refl
route_bytes Rune = refl
route_bytes Runes = refl
route_bytes Sat = refl
route_bytes Status = refl

pub route_matches : (route : Route) (path : List ℕ) → matches (entry route).0 path ≡ takes (row_of route) path
route_matches route path = row_matches (row_of route).text (route_bytes route) (row_of route).has_part path

-- two patterns of bytes that differ at a byte
apart : List ℕ → List ℕ → Bool
apart [] u = false
apart (x ∷ t) [] = false
apart (x ∷ t) (y ∷ u) = (ltb x param_token && ltb y param_token) && (not (x == y) || apart t u)

literal_head : (x : ℕ) (t : List ℕ) (b : ℕ) (path : List ℕ) → ltb x param_token ≡ true → matches (x ∷ t) (b ∷ path) ≡ true → ((x == b) && matches t path) ≡ true
literal_head x t b path l h =
    sym (or_false ((x == b) && matches t path)) ∙ ap (λ v. ((x == b) && matches t path) || (v && not (has_slash (b ∷ path)))) (sym (byte_apart x l)) ∙ h

never_both : (t u path : List ℕ) → apart t u ≡ true → matches t path ≡ true → matches u path ≡ true → ⊥
unfolding apart
never_both [] u path a h k = true≢false (sym a)
never_both (x ∷ t) [] path a h k = true≢false (sym a)
never_both (x ∷ t) (y ∷ u) [] a h k = true≢false (sym h)
never_both (x ∷ t) (y ∷ u) (b ∷ path) a h k =
    let bytes = first_half (ltb x param_token && ltb y param_token) (not (x == y) || apart t u) a in
    let left = literal_head x t b path (first_half (ltb x param_token) (ltb y param_token) bytes) h in
    let right = literal_head y u b path (second_half (ltb x param_token) (ltb y param_token) bytes) k in
    ⊎_elim
    (λ d. eqb-false x y (not-true (x == y) d) (eqb-true x b (first_half (x == b) (matches t path) left) ∙ sym (eqb-true y b (first_half (y == b) (matches u path) right))))
    (λ d. never_both t u path d (second_half (x == b) (matches t path) left) (second_half (y == b) (matches u path) right))
    (either (not (x == y)) (apart t u) (second_half (ltb x param_token && ltb y param_token) (not (x == y) || apart t u) a))

abbrev pub In : {A : Type 0} → A → List A → Type 0
In a [] = ⊥
In a (c ∷ cs) = (a ≡ c) ⊎ In a cs

all_at : {A : Type 0} (p : A → Bool) (a : A) (xs : List A) → In a xs → list_all p xs ≡ true → p a ≡ true
all_at p a [] m h = elim m [ ]
all_at p a (c ∷ cs) (inl e) h = ap p e ∙ first_half (p c) (list_all p cs) h
all_at p a (c ∷ cs) (inr m) h = all_at p a cs m (second_half (p c) (list_all p cs) h)

abbrev all_clash : {A : Type 0} → (A → A → Bool) → List A → Bool
all_clash clash [] = true
all_clash clash (a ∷ xs) = list_all (clash a) xs && all_clash clash xs

-- a test that no two of a list pass
module _ {A : Type 0} (test : A → Bool) (clash : A → A → Bool) (never : (a c : A) → clash a c ≡ true → test a ≡ true → test c ≡ true → ⊥) where
  none_behind : (a : A) (xs : List A) → list_all (clash a) xs ≡ true → test a ≡ true → count_by test xs ≡ 0
  none_behind a [] h t = refl
  none_behind a (c ∷ cs) h t = sum_by-cons (λ x. cond (test x) 1 0) c cs ∙ by (test c) refl (none_behind a cs (second_half (clash a c) (list_all (clash a) cs) h) t)
    where
      by : (v : Bool) → test c ≡ v → count_by test cs ≡ 0 → cond v 1 0 + count_by test cs ≡ 0
      by true e more = absurd (never a c (first_half (clash a c) (list_all (clash a) cs) h) t e)
      by false e more = omega (arith, more)

  at_most_one : (xs : List A) → all_clash clash xs ≡ true → count_by test xs ≤ 1
  at_most_one [] h = omega arith
  at_most_one (a ∷ xs) h =
      subst (λ n. n ≤ 1) (sym (sum_by-cons (λ x. cond (test x) 1 0) a xs)) (by (test a) refl (at_most_one xs (second_half (list_all (clash a) xs) (all_clash clash xs) h)))
    where
      by : (v : Bool) → test a ≡ v → count_by test xs ≤ 1 → cond v 1 0 + count_by test xs ≤ 1
      by true e more = omega (arith, none_behind a xs (first_half (list_all (clash a) xs) (all_clash clash xs) h) e)
      by false e more = omega (arith, more)

  finds : (a : A) (xs : List A) → all_clash clash xs ≡ true → In a xs → test a ≡ true → find test xs ≡ Some a
  finds a [] h m t = elim m [ ]
  finds a (c ∷ cs) h (inl e) t = ap (λ v. cond v (Some c) (find test cs)) (ap test (sym e) ∙ t) ∙ ap Some (sym e)
  finds a (c ∷ cs) h (inr m) t = by (test c) refl (finds a cs (second_half (list_all (clash c) cs) (all_clash clash cs) h) m t)
    where
      by : (v : Bool) → test c ≡ v → find test cs ≡ Some a → cond v (Some c) (find test cs) ≡ Some a
      by true e more = absurd (never c a (all_at (clash c) a cs m (first_half (list_all (clash c) cs) (all_clash clash cs) h)) e t)
      by false e more = more

finds_none : {A : Type 0} (test : A → Bool) (xs : List A) → ((a : A) → In a xs → test a ≡ true → ⊥) → find test xs ≡ None
finds_none test [] h = refl
finds_none test (c ∷ cs) h = by (test c) refl (finds_none test cs (λ a m t. h a (inr m) t))
  where
    by : (v : Bool) → test c ≡ v → find test cs ≡ None → cond v (Some c) (find test cs) ≡ None
    by true e more = absurd (h c (inl refl) e)
    by false e more = more

-- the rows of two routes differ at a byte
route_clash : Route → Route → Bool
route_clash a c = apart (entry a).0 (entry c).0

routes_clash : all_clash route_clash routes ≡ true
unfolding route_clash apart
routes_clash = refl

routes_never : (path : List ℕ) (a c : Route) → route_clash a c ≡ true → takes (row_of a) path ≡ true → takes (row_of c) path ≡ true → ⊥
unfolding route_clash
routes_never path a c h t u = never_both (entry a).0 (entry c).0 path h (route_matches a path ∙ t) (route_matches c path ∙ u)

pub one_route : (path : List ℕ) → count_by (λ route. takes (row_of route) path) routes ≤ 1
one_route path = at_most_one (λ route. takes (row_of route) path) route_clash (routes_never path) routes routes_clash

shown_member : (t : List ℕ) (e : RouteOf Route) (rs : RowsOf (RouteOf Route)) → Member (t, e) rs → Member (t, e.value) (map row_shown rs)
shown_member t e [] m = elim m [ ]
shown_member t e (r ∷ rs) (inl h) = inl (ap row_shown h)
shown_member t e (r ∷ rs) (inr m) = inr (shown_member t e rs m)

member_shown : (t : List ℕ) (k : Route) (rs : RowsOf (RouteOf Route)) → Member (t, k) (map row_shown rs) → (e : RouteOf Route) × Member (t, e) rs
member_shown t k [] m = elim m [ ]
member_shown t k (r ∷ rs) (inl h) = (r.1, inl (ap (λ (p : List ℕ × Route). (p.0, r.1)) h))
member_shown t k (r ∷ rs) (inr m) = let at = member_shown t k rs m in (at.0, inr at.1)

entry_member : (r : List ℕ × Route) (xs : List Route) → Member r (map entry xs) → (a : Route) × In a xs × (r ≡ entry a)
entry_member r [] m = elim m [ ]
entry_member r (a ∷ xs) (inl h) = (a, inl refl, h)
entry_member r (a ∷ xs) (inr m) = let at = entry_member r xs m in (at.0, inr at.1, at.2)

member_entry : (a : Route) (xs : List Route) → In a xs → Member (entry a) (map entry xs)
member_entry a [] m = elim m [ ]
member_entry a (c ∷ cs) (inl h) = inl (ap entry h)
member_entry a (c ∷ cs) (inr m) = inr (member_entry a cs m)

simple_from : {K : Type 0} (rs : RowsOf K) → list_all (λ r. is_simple r.0) rs ≡ true → AreSimple rs
simple_from [] h = tt
simple_from ((t, k) ∷ rs) h = (first_half (is_simple t) (list_all (λ r. is_simple r.0) rs) h, simple_from rs (second_half (is_simple t) (list_all (λ r. is_simple r.0) rs) h))

simple_back : (rs : RowsOf (RouteOf Route)) → AreSimple (map row_shown rs) → AreSimple rs
simple_back [] s = tt
simple_back ((t, e) ∷ rs) s = (s.0, simple_back rs s.1)

entries_simple : AreSimple (map entry routes)
entries_simple = simple_from (map entry routes) refl

-- a router of the table's rows finds the route whose row takes the path
pub router_finds : (rs : RowsOf (RouteOf Route)) → map row_shown rs ≡ map entry routes → (path : List ℕ)
    → option_map (λ e. e.value) (first rs path) ≡ route_taken path
unfolding route_taken
router_finds rs holds path = by (first rs path) refl
  where
    simple : AreSimple rs
    simple = simple_back rs (subst AreSimple (sym holds) entries_simple)

    by : (o : Option (RouteOf Route)) → first rs path ≡ o → option_map (λ e. e.value) o ≡ route_taken path
    by None e = sym (finds_none (λ route. takes (row_of route) path) routes (λ a m t.
        let at = member_shown (entry a).0 a rs (subst (Member (entry a)) (sym holds) (member_entry a routes m)) in
        true≢false (sym (takes_first path rs simple (entry a).0 at.0 at.1 (route_matches a path ∙ t)) ∙ ap is_some e)))
    by (Some f) e =
        let on = first_takes path rs simple f e in
        let at = entry_member (on.0, f.value) routes (subst (Member (on.0, f.value)) holds (shown_member on.0 f rs on.1)) in
        let taken : takes (row_of at.0) path ≡ true =
        sym (route_matches at.0 path) ∙ ap (λ (p : List ℕ × Route). matches p.0 path) (sym at.2) ∙ on.2 in
        ap (λ (p : List ℕ × Route). Some p.1) at.2 ∙ sym (finds (λ route. takes (row_of route) path) route_clash (routes_never path) at.0 routes routes_clash at.1 taken)

-- what is found passes the test
pub find_passes : {A : Type 0} (test : A → Bool) (a : A) (xs : List A) → find test xs ≡ Some a → test a ≡ true
find_passes test a [] e = absurd (true≢false (sym (ap is_some e)))
find_passes test a (c ∷ cs) e = by (test c) refl e (find_passes test a cs)
  where
    by : (v : Bool) → test c ≡ v → cond v (Some c) (find test cs) ≡ Some a → (find test cs ≡ Some a → test a ≡ true) → test a ≡ true
    by true f h more = ap (λ o. test (unwrap_or o c)) (sym h) ∙ f
    by false f h more = more h

text_fits : (text path : List ℕ) → starts_with nat_eq path text ≡ true → length text ≤ length path
text_fits [] path h = zero-le
text_fits (x ∷ text) [] h = absurd (true≢false (sym h))
text_fits (x ∷ text) (b ∷ path) h = suc-le-suc (text_fits text path (second_half (x == b) (pointwise nat_eq text (take (length text) path)) h))

-- a path is as long as the text of the row that takes it
pub taken_fits : (route : Route) (path : List ℕ) → route_taken path ≡ Some route → length (row_of route).text ≤ length path
unfolding route_taken
taken_fits route path e =
    let taken = find_passes (λ r. takes (row_of r) path) route routes e in
    text_fits (row_of route).text path (first_half (starts_with nat_eq path (row_of route).text) (fits (row_of route).has_part (drop (length (row_of route).text) path)) taken)

-- what isn't UTF-8 takes no route
pub not_text : (path : List ℕ) → (IsUtf8 path → ⊥) → route_and_part path ≡ None
not_text path h = by (is_utf8 path) refl
  where
    by : (v : Bool) → is_utf8 path ≡ v
        → cond v (option_map {U = Route × List ℕ} (λ route. (route, drop (length (row_of route).text) path)) (route_taken path)) None ≡ None
    by true e = absurd (h (IsUtf8-from_is_utf8 path e))
    by false e = refl

-- what is UTF-8 takes the route of the row that takes it
pub text_takes : (path : List ℕ) (route : Route) → IsUtf8 path → route_taken path ≡ Some route → route_and_part path ≡ Some (route, drop (length (row_of route).text) path)
text_takes path route h e =
    ap₂ (λ v o. cond v (option_map {U = Route × List ℕ} (λ route. (route, drop (length (row_of route).text) path)) o) None) (is_utf8-from_IsUtf8 path h) e

-- all that is left behind a text
pub rest_is : (text row path : List ℕ) → text ≡ row → drop (length row) path ≡ take (length path - length text) (drop (length text) path)
rest_is text row path e =
    ap (λ (t : List ℕ). drop (length t) path) (sym e)
    ∙ sym (take_all (length path - length text) (drop (length text) path) (omega (arith, length-drop (length text) path)))
