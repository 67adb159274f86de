-- Two files of which one is replaced.
use Rattle.std.proofs.Common.{◌≡◌, ◌∙◌, List, ℕ, ap, refl}
use Rattle.ox_outside.specs.Files.{Files, file_of, with_file, other}
use Rattle.ox_outside.specs.declared.site.Which.{Which}
use Rattle.ox_outside.specs.declared.site.Which.TheVariants.{A, B}

pub file_of-with_file : (files : Files) (file : Which) (bytes : List ℕ) → file_of (with_file files file bytes) file ≡ bytes
file_of-with_file files A bytes = refl
file_of-with_file files B bytes = refl

pub file_of-with_other : (files : Files) (file : Which) (bytes : List ℕ) → file_of (with_file files file bytes) (other file) ≡ file_of files (other file)
file_of-with_other files A bytes = refl
file_of-with_other files B bytes = refl

pub with_file-with_file : (files : Files) (file : Which) (x y : List ℕ) → with_file (with_file files file x) file y ≡ with_file files file y
with_file-with_file files A x y = refl
with_file-with_file files B x y = refl

pub files_are : (old new : Files) (file : Which) → file_of new (other file) ≡ file_of old (other file) → new ≡ with_file old file (file_of new file)
files_are old new A same = λ i. record { a = new.a; b = same i }
files_are old new B same = λ i. record { a = same i; b = new.b }

-- a write into the other file leaves this one
pub spared : (file at : Which) (old new : Files) (bytes : List ℕ) → at ≡ other file → new ≡ with_file old at bytes → file_of new file ≡ file_of old file
spared file at old new bytes is written = ap (λ (f : Files). file_of f file) (written ∙ ap (λ (w : Which). with_file old w bytes) is) ∙ this file
  where
    this : (file : Which) → file_of (with_file old (other file) bytes) file ≡ file_of old file
    this A = refl
    this B = refl
