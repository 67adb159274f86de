-- What a kept reply was made for.
use Rattle.std.proofs.Common.{◌≡◌, ◌∙◌, ℕ, zero, suc, ◌+◌, ◌<◌, ◌≤◌, ◌==◌, Bool, true, false, cond, not, ◌&&◌, ◌||◌, List, [], ◌∷◌, ◌++◌, length, take, Option, Some, None, refl, sym, ap, subst, arith, append_assoc, if◌then◌else◌, get_or}
use Rattle.std.specs.Prelude.{bytes_eq, nat_le, filter}
use Rattle.std.specs.List.{AllByRecursion, Any, list_any}
use Rattle.std.proofs.lemmas.Bool.{eqb-true}
use Rattle.std.proofs.lemmas.List.Sums.{sum_by-cons}
use Rattle.std.proofs.lemmas.Slice.Eq.{bytes_eq-Decides}
use Rattle.ox_http.specs.declared.Method.{Method}
use Rattle.ox_http.specs.declared.Method.TheVariants.{Get, Post, Other}
use Rattle.ox_http.specs.declared.Request.{Request}
use Rattle.ox_http.specs.Talk.{Message, asks, faults}
use Rattle.ox_links.specs.Counted.{Key, Tally, hits_in, is_key, is_request, no_tally, requests_in, tally_after, with_answer_to, with_get, with_request}
use Rattle.ox_links.specs.Earlier.{HasEarlier, IsToGet}
use Rattle.ox_links.specs.Link.{Answer}

-- ---- one of the answers

-- one of these was to a GET of this key
record Came {C : Type 0} (answers : List (Answer C)) (key : Key) : Type 0 where
  front : List (Answer C)
  earlier : Answer C
  back : List (Answer C)
  split : answers ≡ front ++ earlier ∷ back
  gets : IsToGet key.path key.accepted earlier

came_still : {C : Type 0} (answers more : List (Answer C)) (key : Key) → Came answers key → Came (answers ++ more) key
came_still {C = C} answers more key came = record {
  front = came.front;
  earlier = came.earlier;
  back = came.back ++ more;
  split = ap (λ (l : List (Answer C)). l ++ more) came.split ∙ append_assoc came.front (came.earlier ∷ came.back) more;
  gets = came.gets;
}

at_length : {A : Type 0} (front back : List A) (x d : A) → get_or (front ++ x ∷ back) (length front) d ≡ x
at_length [] back x d = refl
at_length (y ∷ front) back x d = at_length front back x d

within_length : {A : Type 0} (front back : List A) (x : A) → length front < length (front ++ x ∷ back)
within_length [] back x = omega arith
within_length (y ∷ front) back x = let e = within_length front back x in omega (arith, e)

any_of : {C : Type 0} (answers : List (Answer C)) (key : Key) → Came answers key → Any (IsToGet key.path key.accepted) answers
any_of {C = C} answers key came =
    subst (λ (l : List (Answer C)). Any (IsToGet key.path key.accepted) l) (sym came.split)
    (length came.front, came.earlier, within_length came.front came.back came.earlier, at_length came.front came.back came.earlier came.earlier, came.gets)

-- ---- each key was kept for one of the answers

keeps_still : {C : Type 0} (answers more : List (Answer C)) (keys : List Key) → AllByRecursion (Came answers) keys → AllByRecursion (Came (answers ++ more)) keys
keeps_still answers more [] keeps = tt
keeps_still answers more (key ∷ keys) keeps = (came_still answers more key keeps.0, keeps_still answers more keys keeps.1)

keeps_some : (P : Key → Type 0) (test : Key → Bool) (keys : List Key) → AllByRecursion P keys → AllByRecursion P (filter test keys)
keeps_some P test [] keeps = tt
keeps_some P test (key ∷ keys) keeps = by (test key) (keeps_some P test keys keeps.1)
  where
    by : (b : Bool) → AllByRecursion P (filter test keys) → AllByRecursion P (if b then key ∷ filter test keys else filter test keys)
    by true rest = (keeps.0, rest)
    by false rest = rest

keeps_first : (P : Key → Type 0) (n : ℕ) (keys : List Key) → AllByRecursion P keys → AllByRecursion P (take n keys)
keeps_first P zero keys keeps = tt
keeps_first P (suc n) [] keeps = tt
keeps_first P (suc n) (key ∷ keys) keeps = (keeps.0, keeps_first P n keys keeps.1)

get_keeps : (P : Key → Type 0) (key : Key) (size : ℕ) (tally : Tally) → P key → AllByRecursion P tally.keys → AllByRecursion P (with_get key size tally).keys
get_keeps P key size tally own keeps = by (list_any (is_key key) tally.keys) (nat_le size 65536)
  where
    by : (hit small : Bool)
        → AllByRecursion P (if hit then record { keys = key ∷ filter (λ (k : Key). not (is_key key k)) tally.keys; hits = tally.hits + 1 } else if small then record tally { keys = take 64 (key ∷ tally.keys) } else tally).keys
    by true small = (own, keeps_some P (λ (k : Key). not (is_key key k)) tally.keys keeps)
    by false true = keeps_first P 64 (key ∷ tally.keys) (own, keeps)
    by false false = keeps

abbrev key_of : {C : Type 0} → Request → Answer C → Key
key_of request answer = record { accepted = answer.accepted; path = request.path }

request_keeps : {C : Type 0} (method : Method) (request : Request) (answer : Answer C) (tally : Tally) (P : Key → Type 0)
    → (method ≡ Get → P (key_of request answer)) → AllByRecursion P tally.keys → AllByRecursion P (with_request method request.path answer tally).keys
request_keeps Get request answer tally P own keeps = get_keeps P (key_of request answer) answer.reply.size tally (own refl) keeps
request_keeps Post request answer tally P own keeps = keeps
request_keeps Other request answer tally P own keeps = keeps

answer_keeps : {C : Type 0} (message : Option Message) (answer : Answer C) (tally : Tally) (P : Key → Type 0)
    → ((request : Request) → message ≡ Some (asks request) → request.method ≡ Get → P (key_of request answer))
    → AllByRecursion P tally.keys → AllByRecursion P (with_answer_to message answer tally).keys
answer_keeps (Some (asks request)) answer tally P own keeps = request_keeps request.method request answer tally P (own request refl) keeps
answer_keeps (Some (faults status)) answer tally P own keeps = keeps
answer_keeps None answer tally P own keeps = keeps

own_came : {C : Type 0} (done : List (Answer C)) (answer : Answer C) (request : Request) → answer.message ≡ Some (asks request) → request.method ≡ Get → Came (done ++ answer ∷ []) (key_of request answer)
own_came done answer request is get = record {
  front = done;
  earlier = answer;
  back = [];
  split = refl;
  gets = record { request = request; message = is; get = get; same_path = refl; same_accepted = refl };
}

tally_keeps : {C : Type 0} (done answers : List (Answer C)) (tally : Tally) → AllByRecursion (Came done) tally.keys → AllByRecursion (Came (done ++ answers)) (tally_after tally answers).keys
tally_keeps done [] tally keeps = keeps_still done [] tally.keys keeps
tally_keeps {C = C} done (answer ∷ answers) tally keeps =
    subst (λ (l : List (Answer C)). AllByRecursion (Came l) (tally_after tally (answer ∷ answers)).keys) (append_assoc done (answer ∷ []) answers)
    (tally_keeps (done ++ answer ∷ []) answers (with_answer_to answer.message answer tally)
    (answer_keeps answer.message answer tally (Came (done ++ answer ∷ [])) (own_came done answer) (keeps_still done (answer ∷ []) tally.keys keeps)))

-- ---- a hit

tally-append : {C : Type 0} (tally : Tally) (answers more : List (Answer C)) → tally_after tally (answers ++ more) ≡ tally_after (tally_after tally answers) more
tally-append tally [] more = refl
tally-append tally (answer ∷ answers) more = tally-append (with_answer_to answer.message answer tally) answers more

both_are : (a b : Bool) → (a && b) ≡ true → (a ≡ true) × (b ≡ true)
both_are true b is = (refl, is)
both_are false b is = absurd (cc is)

same_key : (x y : Key) → is_key x y ≡ true → x ≡ y
same_key x y is =
    let both = both_are (x.accepted == y.accepted) (bytes_eq x.path y.path) is in
    let accepted = eqb-true x.accepted y.accepted both.0 in
    let path = (bytes_eq-Decides x.path y.path).0 both.1 in
    ap (λ (n : ℕ). record { accepted = n; path = x.path }) accepted ∙ ap (λ (p : List ℕ). record { accepted = y.accepted; path = p }) path

found_key : (P : Key → Type 0) (key : Key) (keys : List Key) → list_any (is_key key) keys ≡ true → AllByRecursion P keys → P key
found_key P key [] is keeps = absurd (cc is)
found_key P key (k ∷ keys) is keeps = by (is_key key k) refl (λ any. found_key P key keys any keeps.1) is
  where
    by : (b : Bool) → is_key key k ≡ b → (list_any (is_key key) keys ≡ true → P key) → (b || list_any (is_key key) keys) ≡ true → P key
    by true same later any = subst P (sym (same_key key k same)) keeps.0
    by false other later any = later any

get_hits : (P : Key → Type 0) (key : Key) (size : ℕ) (tally : Tally) → AllByRecursion P tally.keys → tally.hits < (with_get key size tally).hits → P key
get_hits P key size tally keeps = by (list_any (is_key key) tally.keys) (nat_le size 65536) refl
  where
    by : (hit small : Bool) → list_any (is_key key) tally.keys ≡ hit
        → tally.hits < (if hit then record { keys = key ∷ filter (λ (k : Key). not (is_key key k)) tally.keys; hits = tally.hits + 1 } else if small then record tally { keys = take 64 (key ∷ tally.keys) } else tally).hits
        → P key
    by true small is more = found_key P key tally.keys is keeps
    by false true is more = absurd (omega (arith, more))
    by false false is more = absurd (omega (arith, more))

-- a hit is to a GET, of whose key a reply was kept
abbrev HitsOne : {C : Type 0} → (Key → Type 0) → Option Message → Answer C → Type 0
HitsOne P message answer = (request : Request) × (message ≡ Some (asks request)) × (request.method ≡ Get) × P (key_of request answer)

request_hits : {C : Type 0} (P : Key → Type 0) (method : Method) (request : Request) (answer : Answer C) (tally : Tally)
    → AllByRecursion P tally.keys → tally.hits < (with_request method request.path answer tally).hits → (method ≡ Get) × P (key_of request answer)
request_hits P Get request answer tally keeps more = (refl, get_hits P (key_of request answer) answer.reply.size tally keeps more)
request_hits P Post request answer tally keeps more = absurd (omega (arith, more))
request_hits P Other request answer tally keeps more = absurd (omega (arith, more))

answer_hits : {C : Type 0} (P : Key → Type 0) (message : Option Message) (answer : Answer C) (tally : Tally)
    → AllByRecursion P tally.keys → tally.hits < (with_answer_to message answer tally).hits → HitsOne P message answer
answer_hits P (Some (asks request)) answer tally keeps more = let hit = request_hits P request.method request answer tally keeps more in (request, refl, hit.0, hit.1)
answer_hits P (Some (faults status)) answer tally keeps more = absurd (omega (arith, more))
answer_hits P None answer tally keeps more = absurd (omega (arith, more))

pub hit_has_earlier : {C : Type 0} (before : List (Answer C)) (answer : Answer C) → hits_in before < hits_in (before ++ answer ∷ []) → HasEarlier before answer
hit_has_earlier before answer more =
    let tally = tally_after no_tally before in
    let rose = subst (λ (t : Tally). tally.hits < t.hits) (tally-append no_tally before (answer ∷ [])) more in
    let hit = answer_hits (Came before) answer.message answer tally (tally_keeps [] before no_tally tt) rose in
    (hit.0.path, record { request = hit.0; message = hit.1; get = hit.2; same_path = refl; same_accepted = refl }, any_of before (key_of hit.0 answer) hit.3)

-- ---- at most the requests

get_most : (key : Key) (size : ℕ) (tally : Tally) → (with_get key size tally).hits ≤ tally.hits + 1
get_most key size tally = by (list_any (is_key key) tally.keys) (nat_le size 65536)
  where
    by : (hit small : Bool)
        → (if hit then record { keys = key ∷ filter (λ (k : Key). not (is_key key k)) tally.keys; hits = tally.hits + 1 } else if small then record tally { keys = take 64 (key ∷ tally.keys) } else tally).hits ≤ tally.hits + 1
    by true small = omega arith
    by false true = omega arith
    by false false = omega arith

request_most : {C : Type 0} (method : Method) (path : List ℕ) (answer : Answer C) (tally : Tally) → (with_request method path answer tally).hits ≤ tally.hits + 1
request_most Get path answer tally = get_most (record { accepted = answer.accepted; path = path }) answer.reply.size tally
request_most Post path answer tally = omega arith
request_most Other path answer tally = omega arith

answer_most : {C : Type 0} (message : Option Message) (answer : Answer C) (tally : Tally) → (with_answer_to message answer tally).hits ≤ tally.hits + cond (is_request message) 1 0
answer_most (Some (asks request)) answer tally = request_most request.method request.path answer tally
answer_most (Some (faults status)) answer tally = omega arith
answer_most None answer tally = omega arith

tally_most : {C : Type 0} (tally : Tally) (answers : List (Answer C)) → (tally_after tally answers).hits ≤ tally.hits + requests_in answers
tally_most tally [] = omega arith
tally_most {C = C} tally (answer ∷ answers) =
    let next = with_answer_to answer.message answer tally in
    let rest = tally_most next answers in
    let one = answer_most answer.message answer tally in
    let all = sum_by-cons (λ (a : Answer C). cond (is_request a.message) 1 0) answer answers in
    omega (arith, rest, one, all)

pub hits_are_requests : {C : Type 0} (answers : List (Answer C)) → hits_in answers ≤ requests_in answers
hits_are_requests answers = let most = tally_most no_tally answers in omega (arith, most)
