-- The meaning of the target language: memory is objects of cells, object 0 is the block, and each
-- function's frame is an object of its own, at a fixed place.
use Rattle.std.specs.Prelude.{ℕ, zero, suc, ◌+◌, Bool, true, false, ◌&&◌, nat_eq, nat_lt, if◌then◌else◌, List, [], length, slice_get, Option, Some, None, unwrap_or}
use Rattle.simulation.specs.Machine.{Sorts, Event, Goes, Ends, Calls, Answers, Breaks, Entry, Enters, Refused, Lang, Program}
use Rattle.small_instance.specs.declared.target.Spot.{Spot}
use Rattle.small_instance.specs.declared.target.Spot.TheVariants.{Block, Local, Through}
use Rattle.small_instance.specs.declared.target.Leaf.{Leaf}
use Rattle.small_instance.specs.declared.target.Leaf.TheVariants.{Literal, Read}
use Rattle.small_instance.specs.declared.target.Item.{Item}
use Rattle.small_instance.specs.declared.target.Item.TheVariants.{Assign, AssignSum, IfZero, IfNot, Goto, Nothing, Invoke, Return, Exit}
use Rattle.small_instance.specs.declared.target.Function.{Function}
use Rattle.small_instance.specs.Store.{Ending, Plain, Stopped, block}

pub data Word : Type 0 where
  Unset : Word
  Number : ℕ → Word
  -- to a cell of an object
  Pointer : ℕ → ℕ → Word

-- what the target leaves undefined
pub data TargetFault : Type 0 where
  Outside NotNumber NoItem Disagrees NoFunction IsActive : TargetFault

-- the word in a cell of an object
abbrev pub Memory : Type 0
Memory = ℕ → ℕ → Word

-- a function as a list of items
pub record Code : Type 0 where
  pub object : ℕ
  pub cells : ℕ
  pub selected : Bool
  pub items : List Item

abbrev pub code_of : Function → Code
code_of f = record { object = f.object; cells = f.cells; selected = f.selected; items = f.items.items }

-- what a call passes: two addresses, and a number where the function takes one
pub record Passing : Type 0 where
  pub first : Word
  pub second : Word
  pub number : Option ℕ

abbrev pub target_sorts : Sorts
target_sorts = record { Code = Code; View = ℕ; Shared = Memory; Name = ℕ; Arg = Passing; Ans = ℕ; Fault = TargetFault }

abbrev pub TargetEvent : Type 0
TargetEvent = Event Ending target_sorts

abbrev pub at_address : ℕ → ℕ → ℕ → ℕ → Bool
at_address object cell o c = nat_eq o object && nat_eq c cell

abbrev pub set_word : ℕ → ℕ → Word → Memory → Memory
set_word object cell w m = λ o c. if at_address object cell o c then w else m o c

-- an address, or none
abbrev pub pointed : Word → Word
pointed (Pointer o c) = Pointer o c
pointed (Number n) = Unset
pointed Unset = Unset

abbrev pub address : Code → Memory → Spot → Word
address f m (Block k) = if nat_lt k block then Pointer 0 k else Unset
address f m (Local j) = if nat_lt j f.cells then Pointer f.object j else Unset
address f m (Through j) = if nat_lt j f.cells then pointed (m f.object j) else Unset

abbrev pub then_address : Word → (ℕ → ℕ → TargetEvent) → TargetEvent
then_address (Pointer o c) next = next o c
then_address (Number n) next = Breaks Outside
then_address Unset next = Breaks Outside

abbrev pub then_number : Word → (ℕ → TargetEvent) → TargetEvent
then_number (Number n) next = next n
then_number (Pointer o c) next = Breaks NotNumber
then_number Unset next = Breaks NotNumber

abbrev pub then_leaf : Code → Memory → Leaf → (ℕ → TargetEvent) → TargetEvent
then_leaf f m (Literal n) next = next n
then_leaf f m (Read spot) next = then_address (address f m spot) (λ o c. then_number (m o c) next)

abbrev pub zero_or : ℕ → ℕ → ℕ → ℕ
zero_or zero n k = n
zero_or (suc x) n k = k

abbrev pub deed : Option Item → Code → ℕ → Memory → TargetEvent
deed None f at m = Breaks NoItem
deed (Some (Assign spot a)) f at m = then_leaf f m a (λ x. then_address (address f m spot) (λ o c. Goes (at + 1) (set_word o c (Number x) m)))
deed (Some (AssignSum spot a b)) f at m = then_leaf f m a (λ x. then_leaf f m b (λ y. then_address (address f m spot) (λ o c. Goes (at + 1) (set_word o c (Number (x + y)) m))))
deed (Some (IfZero spot n)) f at m = then_leaf f m (Read spot) (λ x. Goes (zero_or x n (at + 1)) m)
deed (Some (IfNot spot n)) f at m = then_leaf f m (Read spot) (λ x. Goes (zero_or x (at + 1) n) m)
deed (Some (Goto n)) f at m = Goes n m
deed (Some Nothing) f at m = Goes (at + 1) m
deed (Some (Invoke to k a b number)) f at m =
    then_address (address f m a) (λ o c. then_address (address f m b) (λ o' c'.
    Calls at m k (record { first = Pointer o c; second = Pointer o' c'; number = number })))
deed (Some (Return a)) f at m = then_leaf f m a (λ x. Answers m x)
deed (Some Exit) f at m = Ends Stopped at m

-- the parameters in the first cells of the frame, the others unset
abbrev pub parameters : Word → Word → Word → ℕ → Word
parameters a b n zero = a
parameters a b n (suc zero) = b
parameters a b n (suc (suc zero)) = n
parameters a b n (suc (suc (suc j))) = Unset

abbrev pub with_frame : Code → Passing → Word → Memory → Memory
with_frame f p n m = λ o c. if nat_eq o f.object then parameters p.first p.second n c else m o c

abbrev pub entered : Bool → Option ℕ → Code → Passing → Memory → Entry target_sorts
entered true (Some k) f p m = Enters 0 (with_frame f p (Number k) m)
entered false None f p m = Enters 0 (with_frame f p Unset m)
entered true None f p m = Refused Disagrees
entered false (Some k) f p m = Refused Disagrees

-- the answer goes to a cell of the frame
abbrev pub stored : Option Item → Code → ℕ → ℕ → Memory → Entry target_sorts
stored (Some (Invoke to k a b number)) f at r m = if nat_lt to f.cells then Enters (at + 1) (set_word f.object to (Number r) m) else Refused Outside
stored item f at r m = Refused NoItem

abbrev pub target_language : Lang Ending
target_language = record {
  sorts = target_sorts;
  step = λ f at m. deed (slice_get f.items at) f at m;
  start = λ f n p m. entered f.selected p.number f p m;
  resume = λ f at r m. stored (slice_get f.items at) f at r m;
  missing = NoFunction;
  busy = IsActive;
  plain = Plain;
}

abbrev pub target_program : List Code → Program target_sorts
target_program fs = record {
  find = λ k. if nat_lt k (length fs) then Some k else None;
  text = λ k. unwrap_or (slice_get fs k) (record { object = 0; cells = 0; selected = false; items = [] });
}
