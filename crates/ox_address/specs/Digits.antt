-- Numbers and their digits in a base, the highest first.
use Rattle.std.specs.Prelude.{ℕ, zero, suc, ◌+◌, ◌*◌, ◌/◌, ◌%◌, List, [], ◌∷◌, ◌++◌, fold}

-- the number that these digits spell
unfoldable pub number : ℕ → List ℕ → ℕ
number base digits = fold (λ n digit. n * base + digit) 0 digits

-- so many digits of a number
unfoldable pub digits : ℕ → ℕ → ℕ → List ℕ
digits base zero n = []
digits base (suc count) n = digits base count (n / base) ++ (n % base) ∷ []
