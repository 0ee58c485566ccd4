-- Code in which each item is of known terms and goes on to positions that are in the code, and runs of such code.
use Rattle.std.specs.Prelude.{◌≡◌, ℕ, true, ◌+◌, ◌<◌, List, [], ◌∷◌, length, Some, None}
use Rattle.c_laws.specs.simulation.Machine.{State, Runs, Over, Broken, Frame, Has}
use Rattle.c_laws.specs.c_tree.Faults.{Faults, NoMeaning}
use Rattle.c_laws.specs.c_tree.Flat.{Flat, Assign, Branch, Select, Jump, Invoke, Return, ReturnAnswer, Nothing, Lost, Callee, Direct, Through, Nowhere, Use, Ignored, Kept, Returned, CaseAt}
use Rattle.c_laws.specs.c_tree.Linking.{Function, Program}
use Rattle.c_laws.specs.c_tree.World.{Ending}
use Rattle.c_laws.specs.c_tree.Steps.{sorts, all_fit}
use Rattle.c_laws.specs.c_tree.Meaning.{text_of, main_number}
use Rattle.c_totality.specs.Sound.{Each, IsKnown}

abbrev pub IsKnownCallee : Callee → Type 0
IsKnownCallee (Direct number) = Unit {0}
IsKnownCallee (Through term) = IsKnown term
IsKnownCallee Nowhere = ⊥

abbrev pub IsKnownUse : Use → Type 0
IsKnownUse Ignored = Unit {0}
IsKnownUse (Kept target) = IsKnown target
IsKnownUse Returned = Unit {0}

abbrev pub IsCaseIn : ℕ → CaseAt → Type 0
IsCaseIn count case = case.position < count

-- an item at a position in code of so many items
abbrev pub Stands : ℕ → ℕ → Flat → Type 0
Stands count position (Assign target value) = IsKnown target × (IsKnown value × (position + 1 < count))
Stands count position (Branch test on off) = IsKnown test × ((on < count) × (off < count))
Stands count position (Select value cases otherwise) = IsKnown value × (Each (IsCaseIn count) cases × (otherwise < count))
Stands count position (Jump to) = to < count
Stands count position (Invoke how callee arguments) = IsKnownUse how × (IsKnownCallee callee × (Each IsKnown arguments × (position + 1 < count)))
Stands count position (Return None) = Unit {0}
Stands count position (Return (Some term)) = IsKnown term
Stands count position ReturnAnswer = Unit {0}
Stands count position Nothing = position + 1 < count
Stands count position Lost = ⊥

-- items from a position on
abbrev pub AllStand : ℕ → ℕ → List Flat → Type 0
AllStand count position [] = Unit {0}
AllStand count position (item ∷ later) = Stands count position item × AllStand count (position + 1) later

-- a function of some items, each of which stands in its code
pub record StandsWhole (function : Function) : Type 0 where
  pub some : 0 < length function.code
  pub items : AllStand (length function.code) 0 function.code

-- the main program begins: there is one, and it takes nothing
pub record MainBegins (program : Program) : Type 0 where
  pub found : main_number program < length program.functions
  pub takes_nothing : all_fit (text_of program.functions (main_number program)).parameters [] ≡ true

-- a function that waits stands at its call, and there is an item behind it
abbrev pub Waits : List Function → Frame sorts → Type 0
Waits functions (Has number view) = view.position + 1 < length (text_of functions number).code

-- a run that goes on stands at an item; one that is broken is broken by a fault, in a function
abbrev pub IsSound : List Function → State Ending sorts → Type 0
IsSound functions (Runs number view waiting world) = (view.position < length (text_of functions number).code) × Each (Waits functions) waiting
IsSound functions (Over ending waiting world) = Unit {0}
IsSound functions (Broken (Faults fault) []) = ⊥
IsSound functions (Broken (Faults fault) (number ∷ numbers)) = Unit {0}
IsSound functions (Broken NoMeaning numbers) = ⊥
