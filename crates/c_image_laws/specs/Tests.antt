-- What C does with the value of an expression (C89, 3.3.15, 3.6.4.1 and 3.6.4.2).
use Rattle.std.specs.Prelude.{◌≡◌, ℤ, Bool, List, Some, Ok, if◌then◌else◌}
use Rattle.c_image.specs.f_tree.Values.{Datum, IsInt, IsLog}
use Rattle.c_image.specs.f_tree.Store.{Whole}
use Rattle.c_laws.specs.c_tree.declared.outcome.CValue.TheVariants.{Number}
use Rattle.c_laws.specs.c_tree.Objects.{Object}
use Rattle.c_laws.specs.c_tree.Terms.{Term, Choice}
use Rattle.c_laws.specs.c_tree.Values.{value_of, test_of, number_of}
use Rattle.c_image.specs.faithful.StorageImage.{number_for}
use Rattle.c_image.specs.Held.{whole_for}
use Rattle.c_image_laws.specs.Meanings.{Means}

-- an assignment or an argument takes the number that stands for the value
abbrev pub ValuesAreGiven : Type 0
ValuesAreGiven = (objects : List Object) (term : Term) (d : Datum) (w : Whole) → Means objects term d → whole_for d ≡ Some w → value_of objects term ≡ Ok (Number (number_for w))

-- a test goes by a truth value, and a switch by a number
abbrev pub TestsAreMeant : Type 0
TestsAreMeant = (objects : List Object) (term : Term) (b : Bool) → Means objects term (IsLog b) → test_of objects term ≡ Ok b

abbrev pub SwitchesAreMeant : Type 0
SwitchesAreMeant = (objects : List Object) (term : Term) (z : ℤ) → Means objects term (IsInt z) → number_of objects term ≡ Ok z

-- `?:` has the value of the arm that its test takes
abbrev pub ChoicesAreMeant : Type 0
ChoicesAreMeant = (objects : List Object) (test first second : Term) (b : Bool) (d : Datum) → Means objects test (IsLog b) → Means objects (if b then first else second) d →
    Means objects (Choice test first second) d
