-- What a call answers against what the definition does. Running out of memory is free, and nothing
-- else.
use Rattle.std.specs.Prelude.{◌≡◌, Result, Ok, Err}
use Rattle.ox_rules.specs.declared.refusal.Refusal.{Refusal}
use Rattle.ox_rules.specs.declared.why.Why.{Why}
use Rattle.ox_rules.specs.Why.{Refuses}

-- The answer, seen so, is the definition's.
abbrev pub Answers : {X Y : Type 0} → (X → Y) → Result X Why → Result Y Refusal → Type 0
Answers view (Ok x) wanted = wanted ≡ Ok (view x)
Answers view (Err why) wanted = Refuses why wanted
