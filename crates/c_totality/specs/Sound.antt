-- What is never without meaning: a valuing that gives a value or comes to a fault, and terms of names that are declared.
use Rattle.std.specs.Prelude.{List, [], ◌∷◌, Ok, Err}
use Rattle.c_laws.specs.c_tree.declared.outcome.CFault.{CFault}
use Rattle.c_laws.specs.c_tree.Faults.{Or, Faults}
use Rattle.c_laws.specs.c_tree.Terms.{Term, Constant, Variable, Array, Routine, Unknown, Prefixed, Cast, Between, Choice, Element, Field, Size, Most, Magnitude}

-- a value or a fault
pub data IsMeant {A : Type 0} : Or A → Type 0 where
  gives : (value : A) → IsMeant (Ok value)
  faults : (fault : CFault) → IsMeant (Err (Faults fault))

-- each of a list
abbrev pub Each : {A : Type 0} → (A → Type 0) → List A → Type 0
Each Holds [] = Unit {0}
Each Holds (first ∷ later) = Holds first × Each Holds later

-- a term each of whose names is declared
abbrev pub IsKnown : Term → Type 0
IsKnown (Constant number) = Unit {0}
IsKnown (Variable object access) = Unit {0}
IsKnown (Array object access) = Unit {0}
IsKnown (Routine number) = Unit {0}
IsKnown Unknown = ⊥
IsKnown (Prefixed operator operand) = IsKnown operand
IsKnown (Cast type operand) = IsKnown operand
IsKnown (Between operator left right) = IsKnown left × IsKnown right
IsKnown (Choice test first second) = IsKnown test × (IsKnown first × IsKnown second)
IsKnown (Element array index) = IsKnown array × IsKnown index
IsKnown (Field operand name) = IsKnown operand
IsKnown Size = Unit {0}
IsKnown (Most which left right) = IsKnown left × IsKnown right
IsKnown (Magnitude operand) = IsKnown operand
