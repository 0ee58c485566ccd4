-- Expressions as the meaning sees them: each name is told apart, each value that is read is a fetch
-- of a place, and operands already valued are values. ANSI X3.9-1978, section 6.
use Rattle.std.specs.Prelude.{ℕ, Bool, true, false, ◌||◌, List, [], ◌∷◌}
use Rattle.f_tree.specs.declared.names.Basic.{Basic}
use Rattle.f_tree.specs.Values.{Bytes, Datum}

-- operators before one operand (6.1.3, 6.4.2)
pub data Prefix : Type 0 where
  Negate : Prefix
  Complement : Prefix

-- operators between two operands (6.1, 6.3, 6.4); a power and a concatenation are no such operators
pub data Operator : Type 0 where
  Add : Operator
  Subtract : Operator
  Multiply : Operator
  Divide : Operator
  IsLess : Operator
  IsLessOrEqual : Operator
  IsEqual : Operator
  IsNotEqual : Operator
  IsGreater : Operator
  IsGreaterOrEqual : Operator
  Both : Operator
  Either : Operator
  Same : Operator
  Different : Operator

-- functions over a list of operands: the intrinsic functions (15.10), and the power (6.1.1)
pub data Function : Type 0 where
  Power : Function
  Truncation : Function
  Magnitude : Function
  Remainder : Function
  SignTransfer : Function
  PositiveDifference : Function
  Largest : Function
  Smallest : Function
  CharacterCode : Function
  CharacterOfCode : Function
  TextLength : Function
  IndexOf : Function
  LexicallyGreaterOrEqual : Function
  LexicallyGreater : Function
  LexicallyLessOrEqual : Function
  LexicallyLess : Function
  -- the first characters of a text, which must have as many: a dummy argument of a statement function (15.4)
  Front : ℕ → Function
  -- a text cut or filled to a length: the value of a statement function
  Fitted : ℕ → Function
  -- the bit functions, over the 32 bits of a number (MIL-STD-1753)
  InclusiveOr : Function
  LogicalProduct : Function
  ExclusiveOr : Function
  BitComplement : Function
  BitShift : Function
  BitTest : Function
  BitSet : Function
  BitClear : Function

-- what a reference wants of the procedure that it names
pub data Wanted : Type 0 where
  AsSubroutine : Wanted
  -- a function of this type, and of this length where it is CHARACTER
  AsFunction : Basic → ℕ → Wanted

pub record Callee : Type 0 where
  pub name : Bytes
  pub want : Wanted

mutual
  pub data Term : Type 0 where
    Val : Datum → Term
    -- the value at a place
    Fetch : Term → Term
    -- a whole variable or array, or a procedure, by its name
    At : Bytes → Term
    -- all elements of an array, where it stands in a list
    All : Bytes → Term
    Element : Bytes → Terms → Term
    -- a place, without the elements behind it
    Alone : Term → Term
    -- a substring of a place of a variable: its first character and its last; a last one that is `Nothing` is the place's own
    Part : Bytes → Term → Term → Term → Term
    -- a concatenation: the pieces are places or values
    Joined : Terms → Term
    Before : Prefix → Term → Term
    Between : Operator → Term → Term → Term
    Intrinsically : Function → Terms → Term
    -- a reference to a function
    Refer : Callee → Terms → Term
    -- a statement function: its arguments, valued once from the left, and its expression
    Bind : Terms → Term → Term
    -- the value of an argument of the innermost `Bind` around it, counted from 0
    Bound : ℕ → Term

  pub data Terms : Type 0 where
    NoMore : Terms
    More : Term → Terms → Terms

-- operands that are valued, before those that are not
unfoldable pub valued_then : List Datum → Terms → Terms
valued_then [] later = later
valued_then (d ∷ ds) later = More (Val d) (valued_then ds later)

unfoldable pub terms : List Term → Terms
terms [] = NoMore
terms (t ∷ ts) = More t (terms ts)

-- has it a reference to a function or to a statement function
unfoldable mutual
  pub refers : Term → Bool
  refers (Val d) = false
  refers (Fetch t) = refers t
  refers (At x) = false
  refers (All x) = false
  refers (Element x ts) = any_refers ts
  refers (Alone t) = refers t
  refers (Part x t from to) = refers t || (refers from || refers to)
  refers (Joined ts) = any_refers ts
  refers (Before op t) = refers t
  refers (Between op t u) = refers t || refers u
  refers (Intrinsically function ts) = any_refers ts
  refers (Refer callee ts) = true
  refers (Bind ts t) = true
  refers (Bound k) = false

  pub any_refers : Terms → Bool
  any_refers NoMore = false
  any_refers (More t ts) = refers t || any_refers ts

unfoldable pub terms_opened : Unit {0}
unfolding valued_then terms refers any_refers
terms_opened = tt
