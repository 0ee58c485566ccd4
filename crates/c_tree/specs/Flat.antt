-- The flat form of a function: one item a step, with the positions of the items that follow (C89, 3.6).
use Rattle.std.specs.Prelude.{ℕ, ℤ, List, Option}
use Rattle.c_tree.specs.Terms.{Term}

-- the function that a call names: a function by its number, what a parameter holds, or none that the file knows
pub data Callee : Type 0 where
  Direct : ℕ → Callee
  Through : Term → Callee
  Nowhere : Callee

-- what is done with the value of a call: nothing, a store, or the caller's own return
pub data Use : Type 0 where
  Ignored : Use
  Kept : Term → Use
  Returned : Use

-- a `case`: its number, and the position of its jump
pub record CaseAt : Type 0 where
  pub number : ℤ
  pub position : ℕ

pub data Flat : Type 0 where
  Assign : Term → Term → Flat
  -- a test, with the positions where it goes on if it holds and if it does not
  Branch : Term → ℕ → ℕ → Flat
  -- a `switch`, with its cases and the position where it goes on if there is none
  Select : Term → List CaseAt → ℕ → Flat
  Jump : ℕ → Flat
  Invoke : Use → Callee → List Term → Flat
  Return : Option Term → Flat
  -- the return of the value that the call before it gave
  ReturnAnswer : Flat
  Nothing : Flat
  -- a jump to a label that the function does not have
  Lost : Flat
