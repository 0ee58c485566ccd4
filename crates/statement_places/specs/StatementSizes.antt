-- How many steps statements take, as the code counts them: those of its form, one where a branch goes to a statement that takes none, those that pass
-- the other arms of a block, and those of the loops that end with it.
use Rattle.std.specs.Prelude.{◌≡◌, ℕ, ◌+◌, nat_eq, Bool, true, false, ◌&&◌, List, [], ◌∷◌, length, Option, Some, None, slice_get, if◌then◌else◌}
use Rattle.f_tree.specs.declared.statements.Body.{Body}
use Rattle.f_tree.specs.declared.statements.Body.TheOpen as body
use Rattle.f_tree.specs.declared.statements.Stmt.{Stmt}
use Rattle.f_tree.specs.Folds.{layer_of}
use Rattle.f_tree.specs.Lines.{Naming, mark_of, form_of}
use Rattle.lowering.specs.l_core.Steps.{Step}
use Rattle.lowering.specs.Statements.{form_code}
use Rattle.lowering.specs.Units.{is_named, skip_size, listed}
use Rattle.name_facts.specs.declared.table.NameFacts.{NameFacts}
use Rattle.expression_lowering.specs.TableNames.{AreFactsOf}
use Rattle.statement_lowering.specs.LoweredStatements.{is_lowered_statement}
use Rattle.open_loops.specs.declared.places.LoopPlace.{LoopPlace}
use Rattle.statement_places.specs.declared.sizes.Size.{Size}

-- is a statement a DO, and no DO WHILE
unfoldable pub is_do : Body → Bool
is_do b = elim (layer_of b) [ body.Do label control ↦ true | _ ↦ false ]

unfoldable pub is_do_there : Option Stmt → Bool
is_do_there None = false
is_do_there (Some s) = is_do s.body

unfoldable pub is_do_at : List Stmt → ℕ → Bool
is_do_at ss i = is_do_there (slice_get ss i)

-- the steps behind the terminal statement of a loop, by the place of its DO or DO WHILE
unfoldable pub turn_size_in : List Stmt → ℕ → ℕ
turn_size_in ss first = if is_do_at ss first then 2 else 1

unfoldable pub turn_sizes_in : List Stmt → List ℕ → ℕ
turn_sizes_in ss [] = 0
turn_sizes_in ss (first ∷ firsts) = turn_size_in ss first + turn_sizes_in ss firsts

-- what is said of the loops at a place
unfoldable pub free_there : Option LoopPlace → ℕ
free_there None = 0
free_there (Some place) = place.free

unfoldable pub free_in : List LoopPlace → ℕ → ℕ
free_in loops i = free_there (slice_get loops i)

unfoldable pub ended_there : Option LoopPlace → List ℕ
ended_there None = []
ended_there (Some place) = place.ended.items

unfoldable pub ended_in : List LoopPlace → ℕ → List ℕ
ended_in loops i = ended_there (slice_get loops i)

-- a statement that takes no step has one where a branch goes to it
unfoldable pub with_pass : Bool → ℕ → ℕ
with_pass named n = if named && nat_eq n 0 then 1 else n

-- there are so many steps
pub record AreSteps (code : Option (List Step)) (n : ℕ) : Type 0 where
  pub added : List Step
  pub is : code ≡ Some added
  pub count : n ≡ length added

-- so many steps has the form of a statement, whatever the names are of which the table tells, where the ASSIGN statements of its unit name these labels
pub record IsCodeSize (table : NameFacts) (once : Bool) (assigned : List ℕ) (free : ℕ) (b : Body) (n : ℕ) : Type 0 where
  pub lowers : is_lowered_statement table b ≡ true
  pub meant : (names : Naming) → AreFactsOf names table → AreSteps (form_code once free 0 (listed assigned (form_of names b))) n

pub record IsSize (table : NameFacts) (once : Bool) (assigned : List ℕ) (ss : List Stmt) (free : ℕ) (ended : List ℕ) (named : Bool) (b : Body) (size : Size) : Type 0 where
  pub code : ℕ
  pub is : IsCodeSize table once assigned free b code
  pub form : size.form ≡ with_pass named code
  pub skip : size.skip ≡ skip_size (mark_of b)
  pub turns : size.turns ≡ turn_sizes_in ss ended

pub record AreSizes (table : NameFacts) (once : Bool) (assigned labels : List ℕ) (ss : List Stmt) (loops : List LoopPlace) (sizes : List Size) : Type 0 where
  pub count : length sizes ≡ length ss
  pub each : (i : ℕ) (size : Size) → slice_get sizes i ≡ Some size → (s : Stmt) → slice_get ss i ≡ Some s → IsSize table once assigned ss (free_in loops i) (ended_in loops i) (is_named labels s.label) s.body size

unfoldable pub statement_sizes_opened : Unit {0}
unfolding is_do is_do_there is_do_at turn_size_in turn_sizes_in free_there free_in ended_there ended_in with_pass
statement_sizes_opened = tt
