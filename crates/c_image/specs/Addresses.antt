-- How a C function reaches the place of a FORTRAN name: its object, a place in an object, or where a parameter points; and the C
-- expressions for them. ANSI X3.9-1978, sections 2.11, 8.2, 8.3 and 15.9; C89, 3.3.2.1 and 3.3.3.2.
use Rattle.std.specs.Prelude.{◌≡◌, ℕ, ◌+◌, ◌/◌, ◌%◌, ◌<◌, ◌≤◌, pos, List, [], ◌∷◌, map, Option, Some}
use Rattle.faithful.specs.f_tree.declared.names.Basic.{Basic}
use Rattle.faithful.specs.f_tree.declared.names.Basic.TheVariants.{Integer, Logical, Character, Untyped}
use Rattle.faithful.specs.f_tree.Values.{Spot}
use Rattle.faithful.specs.c_tree.declared.outcome.CValue.{CValue}
use Rattle.faithful.specs.c_tree.declared.outcome.CValue.TheVariants.{Pointer}
use Rattle.faithful.specs.c_tree.declared.types.CastType.TheVariants as to
use Rattle.faithful.specs.c_tree.declared.expression.UnaryOp.TheVariants as prefix
use Rattle.faithful.specs.c_tree.Faults.{Or}
use Rattle.faithful.specs.c_tree.Access.{Access, ToNumber, ToChar, ToPointer}
use Rattle.faithful.specs.c_tree.Objects.{Object, Values}
use Rattle.faithful.specs.c_tree.Terms.{Term, Constant, Variable, Array, Unknown, Prefixed, Cast, Element}
use Rattle.c_image.specs.World.{World}
use Rattle.c_image.specs.Elements.{sum_term}

pub data Address : Type 0 where
  -- a variable or an array with an object of its own
  Alone : ℕ → Address
  -- an item of a common block or of an EQUIVALENCE class that is an array of numbers: the object, and the bytes before the item
  Inside : ℕ → ℕ → Address
  -- the same where all items are of type CHARACTER, and the object is an array of characters
  InTexts : ℕ → ℕ → Address
  -- a dummy argument: the parameter that points to it
  Through : ℕ → Address

-- by what type a place is read and stored
abbrev pub access_to : Basic → Access
access_to Integer = ToNumber
access_to Logical = ToNumber
access_to Character = ToChar
access_to Untyped = ToChar

-- the object of a parameter that holds a pointer
abbrev pub pointer_object : Access → CValue → Object
pointer_object access value = Values (record { type = ToPointer access; values = Some value ∷ [] })

-- a place stands where an address leads
abbrev pub Reaches : World → Spot → Address → Type 0
Reaches μ p (Alone object) = (μ.homes p.sequence ≡ Some object) × (p.first ≡ 0)
Reaches μ p (Inside object before) = (μ.homes p.sequence ≡ Some object) × (p.first ≡ before)
Reaches μ p (InTexts object before) = (μ.homes p.sequence ≡ Some object) × (p.first ≡ before) × (p.basic ≡ Character)
Reaches μ p (Through parameter) =
    (object : ℕ) × (μ.homes p.sequence ≡ Some object) × (μ.frozen parameter ≡ Some (pointer_object (access_to p.basic) (Pointer object p.first)))

-- an integer or a logical stands in four character units, from a multiple of four on; a text has a character at least
abbrev pub HasShape : Basic → Spot → Type 0
HasShape Integer p = (p.first % 4 ≡ 0) × (p.width ≡ 4)
HasShape Logical p = (p.first % 4 ≡ 0) × (p.width ≡ 4)
HasShape Character p = 0 < p.width
HasShape Untyped p = Unit {0}

-- a place in one of the sequences, all of whose extent is within it
pub record IsSound (μ : World) (p : Spot) : Type 0 where
  pub there : p.sequence < μ.height
  pub shaped : HasShape p.basic p
  pub inside : p.first + p.extent ≤ μ.size p.sequence

-- ## Expressions for addresses

-- a variable of one number; none stands among texts alone
abbrev pub number_term : Address → Term
number_term (Alone object) = Variable object ToNumber
number_term (Inside object before) = Element (Array object ToNumber) (Constant (pos (before / 4)))
number_term (InTexts object before) = Unknown
number_term (Through parameter) = Prefixed prefix.Deref (Variable parameter (ToPointer ToNumber))

-- the element of an array of numbers at so many elements from its start
abbrev pub element_term : Address → Term → Term
element_term (Alone object) index = Element (Array object ToNumber) index
element_term (Inside object before) index = Element (Array object ToNumber) (sum_term index (Constant (pos (before / 4))))
element_term (InTexts object before) index = Unknown
element_term (Through parameter) index = Element (Variable parameter (ToPointer ToNumber)) index

-- the start of a text
abbrev pub text_term : Address → Term
text_term (Alone object) = Array object ToChar
text_term (Inside object before) = sum_term (Cast to.Chars (Array object ToNumber)) (Constant (pos before))
text_term (InTexts object before) = sum_term (Array object ToChar) (Constant (pos before))
text_term (Through parameter) = Variable parameter (ToPointer ToChar)
