-- The C file of a main program has the function of the main program alone, without parameters, and no external object, as the FORTRAN file asks.
-- ANSI X3.9-1978, sections 8.3 and 14.
use Rattle.std.specs.Prelude.{◌≡◌, ℕ, List, [], ◌∷◌, ◌++◌, map, flat_map}
use Rattle.std.proofs.Common.{refl, sym, ap, ◌∙◌}
use Rattle.main_translation_laws.specs.f_tree.declared.names.Options.{Options}
use Rattle.main_translation_laws.specs.f_tree.declared.units.Unit.{Unit as WrittenUnit}
use Rattle.main_translation_laws.specs.f_tree.declared.units.File.{File}
use Rattle.main_translation_laws.specs.f_tree.Facts.{MainProgram, UnitKind, Block, ProgramUnit}
use Rattle.main_translation_laws.specs.f_tree.Uses.{uses_of_statements}
use Rattle.main_translation_laws.specs.f_tree.Attributes.{arrays_of, all_described}
use Rattle.main_translation_laws.specs.f_tree.Lines.{unit_read}
use Rattle.main_translation_laws.specs.f_tree.CNames.{main_name, result_of}
use Rattle.main_translation_laws.specs.f_tree.Meaning.{units_in}
use Rattle.main_translation_laws.specs.c_tree.declared.types.ResultType.TheVariants as result
use Rattle.main_translation_laws.specs.c_tree.declared.statement.CStmt.{CStmt}
use Rattle.main_translation_laws.specs.faithful.StorageImage.{block_name}
use Rattle.main_translation_laws.specs.faithful.Signatures.{Signature, signature, signature_of, result_type, signatures_by, unit_signatures, file_signatures, blocks_added, file_blocks, HasSignatures}
use Rattle.main_translation_laws.specs.main_file.MainFile.{Inventory, main_function, main_file}
use Rattle.main_translation_laws.specs.PlainMains.{IsPlainMain}

-- ## The one unit of the file

record OneUnit (options : Options) (written : List WrittenUnit) (unit : ProgramUnit) : Type 0 where
  one : WrittenUnit
  only : written ≡ one ∷ []
  reads : unit_read options one ≡ unit

one_of : (options : Options) (written : List WrittenUnit) (unit : ProgramUnit) → map (unit_read options) written ++ [] ≡ unit ∷ [] → OneUnit options written unit
one_of options [] unit is = absurd (cc)
one_of options (one ∷ []) unit is = record { one = one; only = refl; reads = cc }
one_of options (one ∷ other ∷ later) unit is = absurd (cc)

one_unit : (options : Options) (tree : File) (unit : ProgramUnit) → units_in options (tree ∷ []) ≡ unit ∷ [] → OneUnit options tree.units unit
unfolding units_in
one_unit options tree unit is = one_of options tree.units unit is

-- ## Its functions and objects

abbrev signature_of_main : Signature
signature_of_main = record { name = main_name; gives = result.Int; parameters = [] }

main_signature : (v : Inventory) (body : List CStmt) → map signature_of (main_function v body ∷ []) ≡ signature_of_main ∷ []
unfolding main_name
main_signature v body = refl

signatures_of_main : (options : Options) (one : WrittenUnit) → (unit_read options one).kind ≡ MainProgram → flat_map (unit_signatures options) (one ∷ []) ≡ signature_of_main ∷ []
unfolding unit_signatures signatures_by signature result_type result_of
signatures_of_main options one is =
    ap (λ (kind : UnitKind). signatures_by kind (unit_read options one) (uses_of_statements (arrays_of one) one.statements) (all_described one) ++ []) is

abbrev names_of_blocks : List Block → List (List ℕ)
names_of_blocks blocks = map (λ (block : Block). block_name block.name) (blocks_added [] blocks)

no_blocks : (options : Options) (one : WrittenUnit) → (unit_read options one).blocks ≡ [] → names_of_blocks (flat_map (λ (u : WrittenUnit). (unit_read options u).blocks) (one ∷ [])) ≡ []
unfolding blocks_added
no_blocks options one none = ap (λ (blocks : List Block). names_of_blocks (blocks ++ [])) none

pub main_has_signatures : (options : Options) (tree : File) (unit : ProgramUnit) → units_in options (tree ∷ []) ≡ unit ∷ [] → IsPlainMain unit → (v : Inventory) (body : List CStmt) →
    HasSignatures options tree (main_file v body)
unfolding file_signatures file_blocks
main_has_signatures options tree unit is plain v body =
    let w : OneUnit options tree.units unit = one_unit options tree unit is in
    record {
      functions = main_signature v body ∙ sym (ap (flat_map (unit_signatures options)) w.only ∙ signatures_of_main options w.one (ap (λ (u : ProgramUnit). u.kind) w.reads ∙ plain.kind));
      objects = sym (ap (λ (us : List WrittenUnit). names_of_blocks (flat_map (λ (u : WrittenUnit). (unit_read options u).blocks) us)) w.only
          ∙ no_blocks options w.one (ap (λ (u : ProgramUnit). u.blocks) w.reads ∙ plain.blocks));
    }
