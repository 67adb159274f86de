-- What two parts of a log say together.
use Rattle.std.proofs.Common.{◌≡◌, ◌∙◌, ℕ, Bool, true, false, List, [], ◌∷◌, ◌++◌, ◌==◌, ◌||◌, if◌then◌else◌, refl, sym, ap, append_assoc}
use Rattle.ox_outside.specs.Event.{Event, Opened, Heard, Ended, Showed, Broke, GaveUp, Shut, heard_bytes, shown_bytes, has_ended, has_broken, has_given_up, was_opened, was_shut}

joined : (b : Bool) (bytes xs ys zs : List ℕ) → xs ≡ ys ++ zs → (if b then bytes ++ xs else xs) ≡ (if b then bytes ++ ys else ys) ++ zs
joined true bytes xs ys zs is = ap (λ (l : List ℕ). bytes ++ l) is ∙ sym (append_assoc bytes ys zs)
joined false bytes xs ys zs is = is

pub heard_bytes-append : (channel : ℕ) (x y : List Event) → heard_bytes channel (x ++ y) ≡ heard_bytes channel x ++ heard_bytes channel y
heard_bytes-append channel [] y = refl
heard_bytes-append channel (Heard c bytes ∷ x) y = joined (c == channel) bytes _ _ _ (heard_bytes-append channel x y)
heard_bytes-append channel (_ ∷ x) y = heard_bytes-append channel x y

pub shown_bytes-append : (channel : ℕ) (x y : List Event) → shown_bytes channel (x ++ y) ≡ shown_bytes channel x ++ shown_bytes channel y
shown_bytes-append channel [] y = refl
shown_bytes-append channel (Showed c bytes ∷ x) y = joined (c == channel) bytes _ _ _ (shown_bytes-append channel x y)
shown_bytes-append channel (_ ∷ x) y = shown_bytes-append channel x y

either : (b x y z : Bool) → x ≡ (y || z) → (b || x) ≡ ((b || y) || z)
either true x y z is = refl
either false x y z is = is

pub has_ended-append : (channel : ℕ) (x y : List Event) → has_ended channel (x ++ y) ≡ (has_ended channel x || has_ended channel y)
has_ended-append channel [] y = refl
has_ended-append channel (Ended c ∷ x) y = either (c == channel) _ _ _ (has_ended-append channel x y)
has_ended-append channel (_ ∷ x) y = has_ended-append channel x y

pub has_broken-append : (channel : ℕ) (x y : List Event) → has_broken channel (x ++ y) ≡ (has_broken channel x || has_broken channel y)
has_broken-append channel [] y = refl
has_broken-append channel (Broke c ∷ x) y = either (c == channel) _ _ _ (has_broken-append channel x y)
has_broken-append channel (_ ∷ x) y = has_broken-append channel x y

pub was_opened-append : (channel : ℕ) (x y : List Event) → was_opened channel (x ++ y) ≡ (was_opened channel x || was_opened channel y)
was_opened-append channel [] y = refl
was_opened-append channel (Opened c door ∷ x) y = either (c == channel) _ _ _ (was_opened-append channel x y)
was_opened-append channel (_ ∷ x) y = was_opened-append channel x y

pub was_shut-append : (channel : ℕ) (x y : List Event) → was_shut channel (x ++ y) ≡ (was_shut channel x || was_shut channel y)
was_shut-append channel [] y = refl
was_shut-append channel (Shut c ∷ x) y = either (c == channel) _ _ _ (was_shut-append channel x y)
was_shut-append channel (_ ∷ x) y = was_shut-append channel x y

pub has_given_up-append : (channel : ℕ) (x y : List Event) → has_given_up channel (x ++ y) ≡ (has_given_up channel x || has_given_up channel y)
has_given_up-append channel [] y = refl
has_given_up-append channel (GaveUp c ∷ x) y = either (c == channel) _ _ _ (has_given_up-append channel x y)
has_given_up-append channel (_ ∷ x) y = has_given_up-append channel x y
