-- What the reader's answers say.
use Rattle.std.specs.Prelude.{◌≡◌, ℕ, ◌<◌, ◌≤◌, true, false, List, [], ◌∷◌, length, min, ⊤}
use Rattle.ox_http.specs.declared.reader.HeadRead.{HeadRead}
use Rattle.ox_http.specs.declared.reader.HeadFound.{HeadFound}
use Rattle.ox_http.specs.declared.reader.HeadFound.TheVariants.{Opens, Waits, Fails}
use Rattle.ox_http.specs.declared.reader.Parsed.{Parsed}
use Rattle.ox_http.specs.declared.reader.Parsed.TheVariants.{Whole, More, Bad}
use Rattle.ox_http.specs.declared.reader.BodyLength.{BodyLength}
use Rattle.ox_http.specs.declared.reader.BodyLength.TheVariants.{Untold, Told, Unclear}
use Rattle.ox_http.specs.declared.reader.StartLine.{StartLine}
use Rattle.ox_http.specs.Head.{Head, NameAndValue}
use Rattle.ox_http.specs.First.{are_one_length, length_told, Asked, Front, opens, waits, fails}
use Rattle.ox_http.specs.First.{First, whole, more, fault, body_limit, head_limit}

-- what a head asks that was read
abbrev pub asked_in : HeadRead → Asked
asked_in read = record {
  method = read.method;
  path = read.path.now;
  size = read.body_len;
  close = read.close;
}

-- the reader's answer as a front
abbrev pub front_in : HeadFound → Front
front_in (Opens read) = opens read.len (asked_in read)
front_in Waits = waits
front_in (Fails status) = fails status

-- the parser's answer as the first of a stream
abbrev pub first_in : Parsed → First
first_in (Whole request used) = whole request used
first_in More = more
first_in (Bad status) = fault status

-- a value is the first of a list
abbrev pub IsFirstOf : List (List ℕ) → List ℕ → Type 0
IsFirstOf values value = (rest : List (List ℕ)) × (values ≡ value ∷ rest)

-- what the fields say of a body's length, given the values of those that tell one
abbrev pub Tells : BodyLength → List (List ℕ) → Type 0
Tells Untold values = values ≡ []
Tells (Told n) values =
    (0 < length values) × (are_one_length values ≡ true)
    × (n ≡ min (length_told values) 4000001)
Tells Unclear values = are_one_length values ≡ false

-- the head of a start line and fields
abbrev pub head_with : StartLine → List NameAndValue → Head
head_with line fields = record {
  start = record { method = line.method.now; target = line.path.now; minor = line.minor };
  fields = fields;
}

-- a head that was read lies in so many bytes, and its body isn't too long
abbrev pub IsBounded : HeadFound → ℕ → Type 0
IsBounded (Opens read) n = (read.len ≤ n) × (read.len ≤ head_limit) × (read.body_len ≤ body_limit)
IsBounded Waits n = ⊤
IsBounded (Fails status) n = ⊤
