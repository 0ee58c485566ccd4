-- A program in which two dummies are one cell of the block, and what it leaves there on both sides.
use Rattle.std.specs.Prelude.{ℕ, true, false, List, [], ◌∷◌, Option}
use Rattle.simulation.specs.Machine.{State, Runs, Over, Broken}
use Rattle.small_instance.specs.declared.source.Place.TheVariants.{Common, First, Second}
use Rattle.small_instance.specs.declared.source.Operand.TheVariants.{Constant, Of}
use Rattle.small_instance.specs.declared.source.Argument.TheVariants.{ByReference, ByValue}
use Rattle.small_instance.specs.declared.source.Statement.TheVariants.{Set, SetCalling, Give, Stop}
use Rattle.small_instance.specs.Store.{Ending}
use Rattle.small_instance.specs.SourceLanguage.{Text, source_sorts}
use Rattle.small_instance.specs.TargetLanguage.{Word, target_sorts}

-- C0 = 5; C1 = C0 + F(C0, C0); C2 = 0 + G(C0, value of C1); STOP.
-- F: first = second + 1; G: second = first + first; answer first.
abbrev pub aliased : List Text
aliased =
    record {
      second = 0;
      body =
          Set (Common 0) (Constant 5) (Constant 0)
          ∷ (SetCalling (Common 1) (Of (Common 0)) 1 false (ByReference (Common 0)) (ByReference (Common 0))
          ∷ (SetCalling (Common 2) (Constant 0) 1 true (ByReference (Common 0)) (ByValue (Of (Common 1)))
          ∷ (Stop ∷ [])));
    }
    ∷ (record {
      second = 1;
      body =
          Set First (Of Second) (Constant 1)
          ∷ (Set Second (Of First) (Of First)
          ∷ (Give (Of First) ∷ []));
    } ∷ [])

-- the first three cells of the block where a run has ended
abbrev pub cells_left : State Ending source_sorts → List (Option ℕ)
cells_left (Runs k v us s) = []
cells_left (Over e us s) = s.cells 0 ∷ (s.cells 1 ∷ (s.cells 2 ∷ []))
cells_left (Broken f ks) = []

abbrev pub words_left : State Ending target_sorts → List Word
words_left (Runs k v us m) = []
words_left (Over e us m) = m 0 0 ∷ (m 0 1 ∷ (m 0 2 ∷ []))
words_left (Broken f ks) = []
