-- Which files have runs that are meant: each of them is well formed, and together they break no rule of linking but, at
-- most, the limit on bytes. And what holds on the way: no term of declared names, no call of the library and no step of
-- the code of such files comes to a form without meaning.
use Rattle.std.specs.Prelude.{◌≡◌, ℕ, true, List, [], ◌∷◌, Some, None, slice_get}
use Rattle.c_laws.specs.simulation.Machine.{State, next}
use Rattle.c_laws.specs.run_state.Units.{Units}
use Rattle.c_laws.specs.c_tree.declared.outcome.CValue.{CValue}
use Rattle.c_laws.specs.c_tree.declared.file.CFile.{CFile}
use Rattle.c_laws.specs.c_tree.CText.{WellFormed}
use Rattle.c_laws.specs.c_tree.Objects.{Object}
use Rattle.c_laws.specs.c_tree.Terms.{Term}
use Rattle.c_laws.specs.c_tree.Values.{value_of, place_named}
use Rattle.c_laws.specs.c_tree.Linking.{Program, program, first_broken_rule}
use Rattle.c_laws.specs.c_tree.World.{World, Ending}
use Rattle.c_laws.specs.c_tree.Builtins.{Signature, signatures}
use Rattle.c_laws.specs.c_tree.Library.{library}
use Rattle.c_laws.specs.c_tree.Steps.{sorts, language, takes_all}
use Rattle.c_laws.specs.c_tree.Meaning.{Meaningless, machine, meaning, outcome}
use Rattle.c_totality.specs.Sound.{IsMeant, Each, IsKnown}
use Rattle.c_totality.specs.Standing.{StandsWhole, MainBegins, IsSound}

-- each of the files is well formed
pub data AreWellFormed : List CFile → Type 0 where
  no_file : AreWellFormed []
  one_file : {first : CFile} {later : List CFile} → WellFormed first → AreWellFormed later → AreWellFormed (first ∷ later)

-- the files keep the rules of linking, or have too many bytes alone
pub data AreLinked (files : List CFile) : Type 0 where
  each_kept : first_broken_rule files ≡ None → AreLinked files
  too_many_bytes : first_broken_rule files ≡ Some 4 → AreLinked files

-- a term of declared names has a value and names a place, or comes to faults
abbrev pub EachTermIsMeant : Type 0
EachTermIsMeant = (objects : List Object) (term : Term) → IsKnown term → IsMeant (value_of objects term) × IsMeant (place_named objects term)

-- each function of the library answers, or comes to a fault, where its arguments are as many and of the kinds that it
-- takes; whatever the external units, each refusal of theirs has a number
abbrev pub EachCallIsMeant : Type 0
EachCallIsMeant =
    (number : ℕ) (signature : Signature) → slice_get signatures number ≡ Some signature → (world : World) (values : List CValue) → takes_all signature.takes values ≡ true →
    IsMeant (library signature.builtin world values)

-- in the program of such files each item of each function is of declared names, and goes on to items that are there
abbrev pub EachFunctionStands : Type 0
EachFunctionStands = (files : List CFile) → AreWellFormed files → AreLinked files → Each StandsWhole (program files).functions

-- and its main program begins
abbrev pub EachMainBegins : Type 0
EachMainBegins = (files : List CFile) → AreLinked files → MainBegins (program files)

-- a step keeps a run of such functions sound
abbrev pub EachStepIsSound : Type 0
EachStepIsSound =
    (program : Program) → Each StandsWhole program.functions → (state : State Ending sorts) → IsSound program.functions state → IsSound program.functions (next language (machine program) state)

-- no run of such files comes to a form without meaning, whatever the external units, after however many steps
abbrev pub NoRunIsWithoutMeaning : Type 0
NoRunIsWithoutMeaning =
    (files : List CFile) (units : Units) (count : ℕ) → AreWellFormed files → AreLinked files → outcome (meaning files units count) ≡ Meaningless → ⊥
