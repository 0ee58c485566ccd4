-- The statements of a file stand in the order of their cards, and so do those of each of its units.
use Rattle.std.specs.Prelude.{◌≡◌, ℕ, suc, ◌≤◌, Bool, true, false, List, [], ◌∷◌, Option, Some, None, if◌then◌else◌}
use Rattle.std.proofs.Common.{refl, sym, ◌∙◌, subst, arith}
use Rattle.fortran_grammar.specs.f_tree.declared.statements.Stmt.{Stmt}
use Rattle.fortran_grammar.specs.f_tree.declared.units.Unit.{Unit as WrittenUnit}
use Rattle.fortran_grammar.specs.f_tree.Setting.{IsIn, first_in, later_in}
use Rattle.fortran_grammar.specs.fortran_text.Cards.{Card, cards_of}
use Rattle.fortran_grammar.specs.fortran_text.CharactersOfText.{is_end}
use Rattle.fortran_grammar.specs.fortran_text.KindsOfCards.{kind_of}
use Rattle.fortran_grammar.specs.fortran_text.StatementsOfFile.{statement, before_statements, statements, file_cards}
use Rattle.fortran_grammar.specs.fortran_text.declared.source.CardKind.{CardKind}
use Rattle.fortran_grammar.specs.fortran_text.declared.source.CardKind.TheVariants.{Comment, Initial, Continuation}
use Rattle.fortran_grammar.specs.fortran_text.declared.source.Statement.{Statement}
use Rattle.fortran_grammar.specs.UnitsOfFile.{SpellsStatements, no_statements, one_statement, before_units, statements_of_units, Heading, heading_of, headed, unit_of, SpellsUnits, no_units, one_unit}
use Rattle.source_acceptance.specs.SourceFiles.{statements_in}

-- Statements of one file in the order of their cards, from a card on.
pub data AreInOrder (file : ℕ) : ℕ → List Statement → Type 0 where
  no_sources : {low : ℕ} → AreInOrder file low []
  one_source : {low : ℕ} {s : Statement} {ss : List Statement} → s.file ≡ file → low ≤ s.card → AreInOrder file (suc s.card) ss → AreInOrder file low (s ∷ ss)

pub data GroupsAreInOrder (file low : ℕ) : List (List Statement) → Type 0 where
  no_groups : GroupsAreInOrder file low []
  one_group : {ss : List Statement} {more : List (List Statement)} → AreInOrder file low ss → GroupsAreInOrder file low more → GroupsAreInOrder file low (ss ∷ more)

-- The same of trees.
pub data AreAscending (file : ℕ) : ℕ → List Stmt → Type 0 where
  no_trees : {low : ℕ} → AreAscending file low []
  one_tree : {low : ℕ} {s : Stmt} {ss : List Stmt} → s.file ≡ file → low ≤ s.card → AreAscending file (suc s.card) ss → AreAscending file low (s ∷ ss)

-- ## The statements of a file

sources_from : (file low least : ℕ) (ss : List Statement) → low ≤ least → AreInOrder file least ss → AreInOrder file low ss
sources_from file low least [] less no_sources = no_sources
sources_from file low least (s ∷ ss) less (one_source same at rest) = one_source same (omega arith) rest

placed : (file number : ℕ) (k : CardKind) (s : Statement) (later : List Statement) → s.file ≡ file → s.card ≡ number → AreInOrder file (suc number) later →
    AreInOrder file number (before_statements k s later)
unfolding before_statements
placed file number Comment s later same at rest = sources_from file number (suc number) later (omega arith) rest
placed file number Initial s later same at rest =
    one_source same (omega (arith, at)) (subst (λ c. AreInOrder file (suc c) later) (sym at) rest)
placed file number Continuation s later same at rest = sources_from file number (suc number) later (omega arith) rest

cards_in_order : (file number : ℕ) (cards : List Card) → AreInOrder file number (statements file number cards)
unfolding statements statement
cards_in_order file number [] = no_sources
cards_in_order file number (card ∷ more) =
    placed file number (kind_of card.columns) (statement file number card more) (statements file (suc number) more) refl refl (cards_in_order file (suc number) more)

pub file_in_order : (file : ℕ) (bytes : List ℕ) → AreInOrder file 1 (statements_in file bytes)
unfolding statements_in file_cards
file_in_order file bytes = cards_in_order file 1 (cards_of bytes)

-- ## The statements of its units

groups_from : (file low least : ℕ) (groups : List (List Statement)) → low ≤ least → GroupsAreInOrder file least groups → GroupsAreInOrder file low groups
groups_from file low least [] less no_groups = no_groups
groups_from file low least (ss ∷ more) less (one_group first rest) =
    one_group (sources_from file low least ss less first) (groups_from file low least more less rest)

before : (file low : ℕ) (s : Statement) (groups : List (List Statement)) → s.file ≡ file → low ≤ s.card → GroupsAreInOrder file (suc s.card) groups →
    GroupsAreInOrder file low (before_units s groups)
unfolding before_units
before file low s [] same at no_groups = one_group (one_source same at no_sources) no_groups
before file low s (ss ∷ more) same at (one_group first rest) =
    one_group (one_source same at first) (groups_from file low (suc s.card) more (omega arith) rest)

ended : (file low : ℕ) (s : Statement) (groups : List (List Statement)) → s.file ≡ file → low ≤ s.card → GroupsAreInOrder file (suc s.card) groups →
    GroupsAreInOrder file low ((s ∷ []) ∷ groups)
ended file low s groups same at rest = one_group (one_source same at no_sources) (groups_from file low (suc s.card) groups (omega arith) rest)

either_groups : (file low : ℕ) (t : Bool) (xs ys : List (List Statement)) → GroupsAreInOrder file low xs → GroupsAreInOrder file low ys →
    GroupsAreInOrder file low (if t then xs else ys)
either_groups file low true xs ys one other = one
either_groups file low false xs ys one other = other

pub units_in_order : (file low : ℕ) (ss : List Statement) → AreInOrder file low ss → GroupsAreInOrder file low (statements_of_units ss)
unfolding statements_of_units
units_in_order file low [] no_sources = no_groups
units_in_order file low (s ∷ ss) (one_source same at rest) =
    let groups : GroupsAreInOrder file (suc s.card) (statements_of_units ss) = units_in_order file (suc s.card) ss rest in
    either_groups file low (is_end s.text) ((s ∷ []) ∷ statements_of_units ss) (before_units s (statements_of_units ss))
    (ended file low s (statements_of_units ss) same at groups) (before file low s (statements_of_units ss) same at groups)

-- ## Their trees

pub trees_ascend : (first : Bool) (file low : ℕ) (ss : List Statement) (trees : List Stmt) → AreInOrder file low ss → SpellsStatements first ss trees →
    AreAscending file low trees
trees_ascend first file low [] _ no_sources (no_statements _) = no_trees
trees_ascend first file low (s ∷ ss) _ (one_source same at rest) (one_statement _ _ tree _ trees spells others) =
    one_tree (spells.file ∙ same) (subst (λ c. low ≤ c) (sym spells.card) at)
    (subst (λ c. AreAscending file (suc c) trees) (sym spells.card) (trees_ascend false file (suc s.card) ss trees rest others))

trees_from : (file low least : ℕ) (ss : List Stmt) → low ≤ least → AreAscending file least ss → AreAscending file low ss
trees_from file low least [] less no_trees = no_trees
trees_from file low least (s ∷ ss) less (one_tree same at rest) = one_tree same (omega arith) rest

headed_ascends : (file low : ℕ) (h : Option Heading) (s : Stmt) (more : List Stmt) → AreAscending file low (s ∷ more) →
    AreAscending file low (headed h s more).statements
unfolding headed
headed_ascends file low None s more ascends = ascends
headed_ascends file low (Some h) s more (one_tree same at rest) = trees_from file low (suc s.card) more (omega arith) rest

only_unit : (u v : WrittenUnit) → (u ∷ []) ≡ (v ∷ []) → u ≡ v
only_unit u v same = cc

unit_ascends : (file low : ℕ) (trees : List Stmt) (u : WrittenUnit) → unit_of trees ≡ u ∷ [] → AreAscending file low trees → AreAscending file low u.statements
unfolding unit_of
unit_ascends file low [] u is ascends = absurd (cc is)
unit_ascends file low (s ∷ more) u is ascends =
    subst (λ (v : WrittenUnit). AreAscending file low v.statements) (only_unit (headed (heading_of s.body) s more) u is)
    (headed_ascends file low (heading_of s.body) s more ascends)

pub units_ascend : (file low : ℕ) (groups : List (List Statement)) (units : List WrittenUnit) → GroupsAreInOrder file low groups → SpellsUnits groups units →
    (u : WrittenUnit) → IsIn u units → AreAscending file low u.statements
units_ascend file low [] _ no_groups no_units u among = elim among [ ]
units_ascend file low (ss ∷ groups) _ (one_group first rest) (one_unit _ trees u _ units spells is others) _ first_in =
    unit_ascends file low trees u is (trees_ascend true file low ss trees first spells)
units_ascend file low (ss ∷ groups) _ (one_group first rest) (one_unit _ trees u _ units spells is others) v (later_in among) =
    units_ascend file low groups units rest others v among

-- ## One tree at a card

pub in_file : (file low : ℕ) (ss : List Stmt) (s : Stmt) → AreAscending file low ss → IsIn s ss → s.file ≡ file
in_file file low [] s _ among = elim among [ ]
in_file file low (s ∷ ss) _ (one_tree same at rest) first_in = same
in_file file low (r ∷ ss) s (one_tree same at rest) (later_in among) = in_file file (suc r.card) ss s rest among

from_low : (file low : ℕ) (ss : List Stmt) (s : Stmt) → AreAscending file low ss → IsIn s ss → low ≤ s.card
from_low file low [] s _ among = elim among [ ]
from_low file low (s ∷ ss) _ (one_tree same at rest) first_in = at
from_low file low (r ∷ ss) s (one_tree same at rest) (later_in among) = omega (arith, at, from_low file (suc r.card) ss s rest among)

pub one_at_card : (file low : ℕ) (ss : List Stmt) (s t : Stmt) → AreAscending file low ss → IsIn s ss → IsIn t ss → s.card ≡ t.card → s.body ≡ t.body
one_at_card file low [] s t ascends one _ same = elim one [ ]
one_at_card file low (s ∷ ss) _ _ ascends first_in first_in same = refl
one_at_card file low (s ∷ ss) _ t (one_tree _ at rest) first_in (later_in other) same =
    absurd (omega (arith, from_low file (suc s.card) ss t rest other, same))
one_at_card file low (t ∷ ss) s _ (one_tree _ at rest) (later_in one) first_in same =
    absurd (omega (arith, from_low file (suc t.card) ss s rest one, same))
one_at_card file low (r ∷ ss) s t (one_tree _ at rest) (later_in one) (later_in other) same =
    one_at_card file (suc r.card) ss s t rest one other same
