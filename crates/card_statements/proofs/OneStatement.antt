-- Two statements of a unit at one card of one file are the same: both its own, or both of one included file.
use Rattle.std.specs.Prelude.{◌≡◌, ℕ, suc, ◌+◌, ◌<◌, ◌⊎◌, List, [], ◌∷◌, length}
use Rattle.std.proofs.Common.{subst, inl, inr, arith}
use Rattle.fortran_grammar.specs.f_tree.declared.statements.Stmt.{Stmt}
use Rattle.fortran_grammar.specs.f_tree.declared.units.Unit.{Unit as WrittenUnit}
use Rattle.fortran_grammar.specs.f_tree.declared.units.File.{File}
use Rattle.fortran_grammar.specs.f_tree.declared.units.Part.{Part}
use Rattle.fortran_grammar.specs.f_tree.Setting.{IsIn}
use Rattle.fortran_grammar.specs.UnitsOfFile.{statements_of_units}
use Rattle.source_acceptance.specs.declaration_rows.GlobalRows.{all_units}
use Rattle.source_acceptance.specs.SourceFiles.{statements_in, SpellFiles, no_files, one_file, files_with_parts, SpellsSource}
use Rattle.card_statements.specs.CardStatements.{EachCardHasOneStatement}
use Rattle.card_statements.proofs.AscendingCards.{AreAscending, file_in_order, units_in_order, units_ascend, in_file, one_at_card}
use Rattle.card_statements.proofs.IncludedCards.{in_append, PartsAscend, IsInPart, parts_ascend, in_file_of_part, one_in_parts, own_or_included, IsWritten, is_written}

-- The statements of a unit as it is written are those of one of the files.
record IsOfFile (files : ℕ) (u : WrittenUnit) : Type 0 where
  file : ℕ
  below : file < files
  ascending : AreAscending file 1 u.statements

of_file : (file files : ℕ) (bytes : List (List ℕ)) (trees : List File) → files ≡ file + length bytes → SpellFiles file bytes trees →
    (u : WrittenUnit) → IsIn u (all_units trees) → IsOfFile files u
unfolding all_units
of_file file files [] _ same (no_files _) u among = elim among [ ]
of_file file files (b ∷ more) _ same (one_file _ _ _ tree trees spells rest) u among =
    either (of_file (suc file) files more trees (omega (arith, same)) rest u) (in_append tree.units (all_units trees) u among)
  where
    either : (IsIn u (all_units trees) → IsOfFile files u) → IsIn u tree.units ⊎ IsIn u (all_units trees) → IsOfFile files u
    either later_files (inl now) = record {
      file = file;
      below = omega (arith, same);
      ascending = units_ascend file 1 (statements_of_units (statements_in file b)) tree.units
          (units_in_order file 1 (statements_in file b) (file_in_order file b)) spells u now;
    }
    either later_files (inr later) = later_files later

one_of_both : (file files : ℕ) (ss : List Stmt) (parts : List Part) (s t : Stmt) → file < files → AreAscending file 1 ss → PartsAscend files parts →
    s.file ≡ t.file → s.card ≡ t.card → IsIn s ss ⊎ IsInPart s parts → IsIn t ss ⊎ IsInPart t parts → s.body ≡ t.body
one_of_both file files ss parts s t below own included same cards (inl one) (inl other) = one_at_card file 1 ss s t own one other cards
one_of_both file files ss parts s t below own included same cards (inl one) (inr other) =
    absurd (omega (arith, below, in_file file 1 ss s own one, in_file_of_part files parts t included other, same))
one_of_both file files ss parts s t below own included same cards (inr one) (inl other) =
    absurd (omega (arith, below, in_file file 1 ss t own other, in_file_of_part files parts s included one, same))
one_of_both file files ss parts s t below own included same cards (inr one) (inr other) = one_in_parts files parts s t included one other same cards

pub one_statement : EachCardHasOneStatement
one_statement source set spells u among s t one other files cards =
    let spelled : IsIn u (all_units (files_with_parts spells.parts spells.trees)) = subst (λ fs. IsIn u (all_units fs)) spells.set_is among in
    let written : IsWritten spells.parts (all_units spells.trees) u = is_written spells.parts spells.trees u spelled in
    let own : IsOfFile (length source.files) written.unit =
    of_file 0 (length source.files) source.files spells.trees (omega arith) spells.files_spell written.unit written.among in
    let included : PartsAscend (length source.files) spells.parts = parts_ascend (length source.files) source.included spells.parts spells.parts_spell in
    one_of_both own.file (length source.files) written.unit.statements spells.parts s t own.below own.ascending included files cards
    (own_or_included spells.parts written.unit.statements s (written.statements s one))
    (own_or_included spells.parts written.unit.statements t (written.statements t other))
