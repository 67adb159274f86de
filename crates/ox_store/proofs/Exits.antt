-- What holds where a call has a value, where it has a fault, and where a `?` returns.
use Rattle.std.proofs.Common.{◌≡◌, ◌∙◌, sym, ap}
use Rattle.std.specs.Prelude.{Result, Ok, Err}
use Rattle.std.specs.Result.{IfOk, OnErr, OnOk}
use Rattle.ox_outside.specs.Counts.{IsFailure}

pub no_value : {T E : Type 0} (r : Result T E) (e : E) (P : T → Type 0) → r ≡ Err e → IfOk r P
no_value (Ok x) e P is = absurd (cc is)
no_value (Err f) e P is = tt

pub no_fault : {T E : Type 0} (x : T) (e : E) → ◌≡◌ {A = Result T E} (Ok x) (Err e) → ⊥
no_fault x e is = absurd (cc is)

pub same_fault : {T E : Type 0} (e f : E) → ◌≡◌ {A = Result T E} (Err e) (Err f) → e ≡ f
same_fault e f is = cc is

pub not_both : {T E : Type 0} (r : Result T E) (x : T) (e : E) → r ≡ Ok x → r ≡ Err e → ⊥
not_both r x e ok err = no_fault x e (sym ok ∙ err)

-- what holds anyway holds where a call worked
pub on_ok : {T E P : Type 0} (r : Result T E) → P → OnOk r P
on_ok (Ok x) holds = holds
on_ok (Err e) holds = tt

-- a call failed, and so this holds
pub rose_at : {T E : Type 0} (r : Result T E) (P : Type 0) → IsFailure r → OnErr r P → P
rose_at (Ok x) P failed holds = absurd failed
rose_at (Err e) P failed holds = holds

pub on_ok_later : {T E A : Type 0} (P : Type 0) (r : Result T E) → (A → OnOk r P) → OnOk r (A → P)
on_ok_later P (Ok x) holds = holds
on_ok_later P (Err e) holds = tt

-- the fault of a call whose fault is passed on
pub passed_on : {T X F : Type 0} (r : Result T F) (e f g : F) → r ≡ Err e → e ≡ f → r ≡ Err g → ◌≡◌ {A = Result X F} (Err f) (Err g)
passed_on r e f g is same other = ap Err (sym same ∙ same_fault e g (sym is ∙ other))

pub passed_so : {T X F : Type 0} (r : Result T F) (e f g : F) → r ≡ Err e → e ≡ f → ◌≡◌ {A = Result X F} (Err f) (Err g) → r ≡ Err g
passed_so r e f g is same other = is ∙ ap Err (same ∙ same_fault f g other)
