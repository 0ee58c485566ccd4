-- The active functions of a run, as the machine of C texts has them (C89, 3.3.2.2).
use Rattle.std.specs.Prelude.{◌≡◌, Bool, true, false, ℕ, ◌+◌, ◌^◌, ◌<◌, ◌≤◌, List, [], ◌∷◌, length, map, drop, get_or}
use Rattle.c_tree.specs.simulation.Machine.{Frame, Has, State, Runs}
use Rattle.c_tree.specs.run_state.Endings.{Ending}
use Rattle.c_tree.specs.World.{World}
use Rattle.c_tree.specs.Steps.{sorts}
use Rattle.item_deeds.specs.Deeds.{view_of}
use Rattle.item_deeds.specs.declared.views.CallView.{CallView}
use Rattle.program_runner.specs.declared.stack.ActiveFunction.{ActiveFunction}
use Rattle.program_runner.specs.declared.stack.CallFrame.{CallFrame}
use Rattle.program_runner.specs.declared.stack.CallStack.{CallStack}
use Rattle.program_runner.specs.Numbers.{has, Apart, Below}

abbrev pub Frames : Type 0
Frames = List (Frame sorts)

abbrev pub frame_of : ActiveFunction → Frame sorts
frame_of frame = Has frame.number (view_of frame.view)

abbrev pub frames_of : List ActiveFunction → Frames
frames_of frames = map frame_of frames

abbrev pub numbers_of : List ActiveFunction → List ℕ
numbers_of frames = map (λ frame. frame.number) frames

-- what waits in the frames of a room
abbrev pub waits_in : List CallFrame → List ActiveFunction
waits_in room = map (λ frame. frame.waits) room

-- whether the function of each number is active, by the frames of a room
abbrev pub flags_in : List CallFrame → List Bool
flags_in room = map (λ frame. frame.active) room

-- the functions that wait, the last called first
abbrev pub waiting : CallStack → List ActiveFunction
waiting stack = drop stack.free (waits_in stack.room.items)

-- the state of the machine in which these functions are active
abbrev pub state_of : CallStack → World → State Ending sorts
state_of stack world = Runs stack.top.number (view_of stack.top.view) (frames_of (waiting stack)) world

-- each function that waits can go on behind its call
abbrev pub CanGoOn : List ActiveFunction → Type 0
CanGoOn [] = Unit {0}
CanGoOn (frame ∷ later) = (frame.view.position + 1 < 2 ^ 64) × CanGoOn later

-- frames of functions of which none is active twice, with room for all functions of a program
pub record IsStack (functions : ℕ) (stack : CallStack) : Type 0 where
  pub size : length stack.room.items ≡ functions
  pub within : stack.free ≤ functions
  pub apart : Apart (stack.top.number ∷ numbers_of (waiting stack))
  pub below : Below functions (stack.top.number ∷ numbers_of (waiting stack))
  pub ready : CanGoOn (waiting stack)
  pub flags : (number : ℕ) → number < functions → get_or (flags_in stack.room.items) number false ≡ has number (stack.top.number ∷ numbers_of (waiting stack))

-- a function is called, and the one that calls it waits with a view
pub record IsPushed (old new : CallStack) (view : CallView) (called : ActiveFunction) : Type 0 where
  pub stack : IsStack (length old.room.items) new
  pub top : new.top ≡ called
  pub waits : waiting new ≡ record { number = old.top.number; view = view } ∷ waiting old

-- back to the function that waits for the active one, if there is one
abbrev pub Popped : CallStack → CallStack → Bool → Type 0
Popped old new true = (waiting old ≡ new.top ∷ waiting new) × (new.top.view.position + 1 < 2 ^ 64)
Popped old new false = waiting old ≡ []
