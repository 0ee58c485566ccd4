-- A main program of assignments and output of sums shares no storage: each stored name stands in a sequence of its own.
use Rattle.std.specs.Prelude.{◌≡◌, ℕ, List, []}
use Rattle.std.proofs.Common.{refl, sym, subst}
use Rattle.f_tree.specs.declared.names.Options.{Options}
use Rattle.f_tree.specs.declared.statements.Body.{Body}
use Rattle.f_tree.specs.declared.statements.CommonGroup.{CommonGroup}
use Rattle.f_tree.specs.declared.statements.EquivalenceGroup.{EquivalenceGroup}
use Rattle.f_tree.specs.declared.statements.Stmt.{Stmt}
use Rattle.f_tree.specs.Facts.{Facts}
use Rattle.f_tree.specs.Lines.{Naming, blocks_from, common_in, ties_of, equivalence_in, program_of, with_ties, unit_read}
use Rattle.f_tree.specs.Attributes.{from_all}
use Rattle.f_tree.specs.Folds.{folds_opened}
use Rattle.f_tree.specs.SimplePrograms.{main_program, printed}
use Rattle.fortran_laws.proofs.OneSettingNames.{distinct_stored}
use Rattle.fortran_laws.proofs.SettingsApart.{IsApart}
use Rattle.fortran_laws.proofs.SimpleNames.{IsSimple, AreSimple, by_statement, none_in}

-- its units have no common blocks and no EQUIVALENCE, so each stored name stands in a sequence of its own
no_commons : (b : Body) → IsSimple b → common_in b ≡ []
unfolding common_in folds_opened printed
no_commons b is = by_statement (λ b. common_in b ≡ []) (λ x e n s. refl) (λ e s. refl) refl b is

no_equivalences : (b : Body) → IsSimple b → equivalence_in b ≡ []
unfolding equivalence_in folds_opened printed
no_equivalences b is = by_statement (λ b. equivalence_in b ≡ []) (λ x e n s. refl) (λ e s. refl) refl b is

no_blocks_from : (names : Naming) (groups : List CommonGroup) → groups ≡ [] → blocks_from names [] groups ≡ []
unfolding blocks_from
no_blocks_from names groups none = subst (λ gs. blocks_from names [] gs ≡ []) (sym none) refl

no_ties_of : (c : Facts) (names : Naming) (groups : List EquivalenceGroup) → groups ≡ [] → ties_of c names groups ≡ []
unfolding ties_of
no_ties_of c names groups none = subst (λ gs. ties_of c names gs ≡ []) (sym none) refl

pub simple_apart : (options : Options) (file : ℕ) (trees : List Stmt) → AreSimple trees → IsApart (unit_read options (main_program file trees))
unfolding unit_read with_ties program_of main_program
simple_apart options file trees simple = record {
  no_blocks = no_blocks_from _ (from_all common_in trees) (none_in common_in no_commons trees simple);
  no_ties = no_ties_of _ _ (from_all equivalence_in trees) (none_in equivalence_in no_equivalences trees simple);
  distinct = distinct_stored options (main_program file trees);
}
