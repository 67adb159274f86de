-- How a log goes on from call to call.
use Rattle.std.proofs.Common.{◌≡◌, ◌∙◌, List, [], ◌++◌, Option, Some, None, refl, sym, ap, append_assoc}
use Rattle.std.proofs.lemmas.List.{append-nil}
use Rattle.ox_outside.specs.Event.{Event}
use Rattle.ox_outside.specs.Log.{Adds, Grows}

abbrev Log : Type 0
Log = Option (List Event)

-- before the first call
pub grows_none : (P : List Event → Type 0) (log : Log) → P [] → Grows P log log
grows_none P None p = refl
grows_none P (Some log) p = ([], ap (λ (l : List Event). Some l) (sym (append-nil log)), p)

pub grows_weaker : (P Q : List Event → Type 0) (first now : Log) → ((added : List Event) → P added → Q added) → Grows P first now → Grows Q first now
grows_weaker P Q None now weaker grows = grows
grows_weaker P Q (Some log) now weaker grows = (grows.0, grows.1, weaker grows.0 grows.2)

-- two runs, one after the other
pub grows_then : (P Q R : List Event → Type 0) (first mid now : Log) → ((x y : List Event) → P x → Q y → R (x ++ y)) → Grows P first mid → Grows Q mid now → Grows R first now
grows_then P Q R None None now joins before after = after
grows_then P Q R None (Some log) now joins before after = absurd (cc before)
grows_then P Q R (Some log) None now joins before after = absurd (cc (before.1))
grows_then P Q R (Some log) (Some more) now joins before after =
    let same : more ≡ log ++ before.0 = cc (before.1) in
    let is : now ≡ Some (log ++ (before.0 ++ after.0)) = after.1 ∙ ap (λ (l : List Event). Some (l ++ after.0)) same ∙ ap (λ (l : List Event). Some l) (append_assoc log before.0 after.0) in
    (before.0 ++ after.0, is, joins before.0 after.0 before.2 after.2)

-- a call that adds these events
pub adds_grows : (events : List Event → List Event) (P : List Event → Type 0) (old new : Log) → ((log : List Event) → P (events log)) → Adds events old new → Grows P old new
adds_grows events P None new here adds = adds
adds_grows events P (Some log) new here adds = (events log, adds, here log)

-- a call that leaves the log as it is
pub grows_same : (P : List Event → Type 0) (first mid now : Log) → Grows P first mid → now ≡ mid → Grows P first now
grows_same P None mid now grows same = same ∙ grows
grows_same P (Some log) mid now grows same = (grows.0, same ∙ grows.1, grows.2)

-- one call more
pub grows_add : (events : List Event → List Event) (P Q : List Event → Type 0) (first mid now : Log) → ((added log : List Event) → P added → Q (added ++ events log)) → Grows P first mid → Adds events mid now → Grows Q first now
grows_add events P Q None None now goes_on grows adds = adds
grows_add events P Q None (Some log) now goes_on grows adds = absurd (cc grows)
grows_add events P Q (Some log) None now goes_on grows adds = absurd (cc (grows.1))
grows_add events P Q (Some log) (Some more) now goes_on grows adds =
    let same : more ≡ log ++ grows.0 = cc (grows.1) in
    let is : now ≡ Some (log ++ (grows.0 ++ events more)) = adds ∙ ap (λ (l : List Event). Some (l ++ events more)) same ∙ ap (λ (l : List Event). Some l) (append_assoc log grows.0 (events more)) in
    (grows.0 ++ events more, is, goes_on grows.0 more grows.2)
