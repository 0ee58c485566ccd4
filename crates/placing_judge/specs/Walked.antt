-- The storage of a unit, statement by statement: what its EQUIVALENCE statements say, what is wrong with what the statements at its front say, and
-- the rows of each statement. ANSI X3.9-1978, sections 8.2, 8.3 and 17.1.
use Rattle.std.specs.Prelude.{◌≡◌, ℕ, Bool, true, false, not, ◌&&◌, List, [], ◌∷◌, ◌++◌, map, take}
use Rattle.f_tree.specs.declared.names.Options.{Options}
use Rattle.f_tree.specs.declared.refusals.Kind.TheVariants.{EquivalenceContradiction, CommonJoinedOrExtended}
use Rattle.f_tree.specs.declared.refusals.Refusal.{Refusal}
use Rattle.f_tree.specs.declared.statements.Body.{Body}
use Rattle.f_tree.specs.declared.statements.Stmt.{Stmt}
use Rattle.f_tree.specs.declared.units.Unit.{Unit as WrittenUnit}
use Rattle.f_tree.specs.Values.{Bytes}
use Rattle.f_tree.specs.Facts.{Facts}
use Rattle.f_tree.specs.Lines.{Naming, common_in, equivalence_in, ties_of, apart, unit_read}
use Rattle.declaration_rows.specs.Judgement.{unless}
use Rattle.declaration_rows.specs.NameRows.{given_names, stood}
use Rattle.declaration_rows.specs.PlacingRows.{Equation, tie_equation, Placing, placing_by, first_items, groups_settled, placing_rows_from}
use Rattle.placing_orders.specs.PlaceRows.{place_rows}
use Rattle.placed_numbers.specs.Owned.{AreTests, tests_of}
use Rattle.placed_numbers.specs.declared.judging.Standing.{Standing}
use Rattle.placed_numbers.specs.declared.judging.Standing.TheVariants.{Sound, JoinedOrExtended, Contradicted}
use Rattle.unit_equations.specs.BlocksTold.{equation_in}
use Rattle.placing_judge.specs.declared.faults.Fault.{Fault}
use Rattle.placing_judge.specs.declared.faults.Fault.TheVariants as fault
use Rattle.placing_judge.specs.declared.ties.StatementTies.{StatementTies}

-- what the places of EQUIVALENCE are valued by
abbrev pub facts_of : Options → WrittenUnit → Facts
facts_of options u = apart (unit_read options u)

-- WHAT EQUIVALENCE STATEMENTS SAY
unfoldable pub ties_in : List StatementTies → List Equation
ties_in [] = []
ties_in (t ∷ ts) = map equation_in t.equations.items ++ ties_in ts

pub record IsTied (c : Facts) (names : Naming) (s : Stmt) (t : StatementTies) : Type 0 where
  pub settled : t.settled ≡ groups_settled c names (equivalence_in s.body)
  pub equations : map equation_in t.equations.items ≡ map tie_equation (ties_of c names (equivalence_in s.body))

-- each statement has what it says
unfoldable pub AreTied : Facts → Naming → List Stmt → List StatementTies → Type 0
AreTied c names [] [] = Unit {0}
AreTied c names (s ∷ ss) (t ∷ ts) = IsTied c names s t × AreTied c names ss ts
AreTied c names _ _ = ⊥

pub record AreUnitTies (u : WrittenUnit) (ts : List StatementTies) : Type 0 where
  pub tied : (options : Options) → AreTied (facts_of options u) (given_names u) u.statements ts

-- a statement that says nothing of storage that names share
pub record SaysNothing (b : Body) : Type 0 where
  pub no_common : common_in b ≡ []
  pub no_equivalence : equivalence_in b ≡ []

-- WHAT IS WRONG with what statements say
unfoldable pub fault_by : Standing → Fault
fault_by (Sound ps) = fault.Nothing
fault_by JoinedOrExtended = fault.JoinedOrExtended
fault_by Contradicted = fault.Contradicted

unfoldable pub is_wrong : Fault → Bool
is_wrong fault.Contradicted = true
is_wrong _ = false

unfoldable pub is_joined : Fault → Bool
is_joined fault.JoinedOrExtended = true
is_joined _ = false

-- what a standing says of each placing with these equations and these first items
pub record TellsOf (es : List Equation) (firsts : List Bytes) (s : Standing) : Type 0 where
  pub tells : (p : Placing) → p.equations ≡ es → first_items p.blocks ≡ firsts → tests_of p s

pub record IsStandingAt (u : WrittenUnit) (front : ℕ) (s : Standing) : Type 0 where
  pub is : (options : Options) → tests_of (placing_by (facts_of options u) (given_names u) (take front u.statements)) s

pub record IsFaultAt (u : WrittenUnit) (front : ℕ) (f : Fault) : Type 0 where
  pub is : (options : Options) → AreTests (placing_by (facts_of options u) (given_names u) (take front u.statements)) (is_wrong f) (is_joined f)

-- THE ROWS of a statement, by the faults of the statements before it and of those up to it
unfoldable pub rows_between : Stmt → Bool → Fault → Fault → List Refusal
rows_between s settled before now =
    stood s (unless settled EquivalenceContradiction) ++
    (stood s (unless (not (is_wrong now && not (is_wrong before))) EquivalenceContradiction) ++
    stood s (unless (not (is_joined now && not (is_joined before))) CommonJoinedOrExtended))

pub record ArePlacingRows (u : WrittenUnit) (rs : List Refusal) : Type 0 where
  pub are : (options : Options) → rs ≡ placing_rows_from (facts_of options u) (given_names u) [] u.statements

pub record AreSettledRows (u : WrittenUnit) (rs : List Refusal) : Type 0 where
  pub are : (options : Options) → rs ≡ place_rows (facts_of options u) (given_names u) u.statements
