-- Room for the texts of objects (ANSI X3.9-1978, 6.2.2.2).
use Rattle.std.proofs.Common.{◌≡◌, ℕ, ◌+◌, ◌<◌, ◌≤◌, Bool, true, false, List, length, Option, Some, None, refl, ap, sym, ◌∙◌, subst, arith}
use Rattle.std.specs.Prelude.{nat_lt, slice_get, option_map}
use Rattle.std.proofs.lemmas.Bool.Decides.{nat_tests}
use Rattle.std.proofs.lemmas.List.{length-map}
use Rattle.std.proofs.lemmas.Option.{slice_get_within}
use Rattle.c_tree.specs.Objects.{Object, extent}
use Rattle.linked_programs.specs.declared.programs.LinkedProgram.{LinkedProgram}
use Rattle.linked_programs.specs.LinkedPrograms.{object_of, program_of}
use Rattle.run_library.specs.Room.{HasRoom}

-- the first objects have no more bytes or values
abbrev pub FirstHaveRoom : ℕ → ℕ → List Object → Type 0
FirstHaveRoom room count objects = (number : ℕ) → (object : Object) → number < count → slice_get objects number ≡ Some object → extent object ≤ room

at_most : (a b c : ℕ) → a ≤ b → b ≤ c → a ≤ c
at_most a b c first second = omega (arith, first, second)

-- the object of a number has no more
abbrev OneHasRoom : ℕ → ℕ → List Object → Type 0
OneHasRoom more count objects = (object : Object) → slice_get objects count ≡ Some object → extent object ≤ more

first-or-last : (test : Bool) (room more count : ℕ) (objects : List Object) (number : ℕ) (object : Object) → nat_lt number count ≡ test → FirstHaveRoom room count objects → room ≤ more →
    OneHasRoom more count objects → number < count + 1 → slice_get objects number ≡ Some object → extent object ≤ more
first-or-last true room more count objects number object tested all less one within is =
    let below : number < count = grind (arith, nat_tests) in at_most (extent object) room more (all number object below is) less
first-or-last false room more count objects number object tested all less one within is =
    let last : number ≡ count = grind (arith, nat_tests) in one object (ap (slice_get objects) (sym last) ∙ is)

one-more : (room more count : ℕ) (objects : List Object) → FirstHaveRoom room count objects → room ≤ more → OneHasRoom more count objects → FirstHaveRoom more (count + 1) objects
one-more room more count objects all less one = λ number object within is. first-or-last (nat_lt number count) room more count objects number object refl all less one within is

measured : (size more : ℕ) (found : Option Object) (object : Object) → Some size ≡ option_map extent found → size ≤ more → found ≡ Some object → extent object ≤ more
measured size more None object is less same = absurd (cc)
measured size more (Some first) object is less same =
    let all : size ≡ extent object = cc in subst (λ count. count ≤ more) all less

missing : (more : ℕ) (found : Option Object) (object : Object) → None ≡ option_map extent found → found ≡ Some object → extent object ≤ more
missing more None object is same = absurd (cc)
missing more (Some first) object is same = absurd (cc)

pub more-with : (room more count size : ℕ) (objects : List Object) → FirstHaveRoom room count objects → room ≤ more → Some size ≡ option_map extent (slice_get objects count) → size ≤ more →
    FirstHaveRoom more (count + 1) objects
more-with room more count size objects all less is enough = one-more room more count objects all less (λ object same. measured size more (slice_get objects count) object is enough same)

pub more-without : (room count : ℕ) (objects : List Object) → FirstHaveRoom room count objects → None ≡ option_map extent (slice_get objects count) → FirstHaveRoom room (count + 1) objects
more-without room count objects all is = one-more room room count objects all (omega arith) (λ object same. missing room (slice_get objects count) object is same)

-- all objects of a program
pub all-have-room : (room count : ℕ) (program : LinkedProgram) (objects : List Object) → objects ≡ (program_of program).objects → length program.objects ≤ count → FirstHaveRoom room count objects → HasRoom room objects
all-have-room room count program objects are many all = λ number object is.
    let within : number < length objects = slice_get_within objects number object is in
    let same : length objects ≡ length program.objects = ap length are ∙ length-map program.objects object_of in
    all number object (omega (arith, within, same, many)) is
