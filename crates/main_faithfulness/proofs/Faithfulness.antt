-- The text of the C file that is made for a main program of numbers is faithful to the file of that program, where such programs run as their C files do.
-- ANSI X3.9-1978, sections 2.4, 5 and 14; C89, 3.1.2.2 and 3.7.
use Rattle.std.specs.Prelude.{◌≡◌, ℕ, List, [], ◌∷◌, Some}
use Rattle.std.proofs.Common.{sym, subst}
use Rattle.main_translation_laws.specs.run_state.Units.{Units}
use Rattle.main_translation_laws.specs.f_tree.Values.{Gives}
use Rattle.main_translation_laws.specs.f_tree.Store.{Store}
use Rattle.main_translation_laws.specs.f_tree.Facts.{ProgramUnit}
use Rattle.main_translation_laws.specs.f_tree.Setting.{Setting, IsSetting}
use Rattle.main_translation_laws.specs.f_tree.Images.{image_store}
use Rattle.main_translation_laws.specs.l_core.Steps.{Text}
use Rattle.main_translation_laws.specs.lowering.Units.{lowered_unit}
use Rattle.main_translation_laws.specs.c_tree.declared.statement.CStmt.{CStmt}
use Rattle.main_translation_laws.specs.c_tree.declared.file.CFile.{CFile}
use Rattle.main_translation_laws.specs.faithful.Faithful as faithful
use Rattle.main_translation_laws.specs.faithful.Faithful.{SameRuns}
use Rattle.main_translation_laws.specs.faithful.Signatures as signed
use Rattle.main_translation_laws.specs.main_file.MainFile.{main_file}
use Rattle.main_translation_laws.specs.main_translation.Contents.{inventory_of}
use Rattle.main_translation_laws.specs.main_translation.Outlined.{body_of}
use Rattle.main_translation_laws.specs.main_programs.MainRuns.{plain_setting, plain_facts}
use Rattle.main_translation_laws.specs.PlainMains.{IsPlainMain, IsPlainText}
use Rattle.main_translation_laws.proofs.Translated.{plain_mains_run_alike}
use Rattle.main_faithfulness.specs.MainFaithful.{IsMeant, EachPlainMainIsFaithful}
use Rattle.main_faithfulness.proofs.Settings.{plain_is_setting, only_plain, plain_image}
use Rattle.main_faithfulness.proofs.Signed.{main_has_signatures}
use Rattle.main_faithfulness.proofs.Links.{main_links}

abbrev file_for : ProgramUnit → Text → List CStmt → CFile
file_for unit u body = main_file (inventory_of unit u) body

-- over each setting of the unit its runs are those of the file
runs_over : (unit : ProgramUnit) (u : Text) (body : List CStmt) → IsPlainMain unit → lowered_unit (plain_facts unit) ≡ Some u → IsPlainText u → body_of unit u ≡ Some body → IsMeant unit →
    (homes : Setting) → IsSetting (unit ∷ []) homes → (units : Units) (n : ℕ) → SameRuns (unit ∷ []) homes (file_for unit u body ∷ []) units n
runs_over unit u body plain lowered text built meant homes setting units n =
    subst (λ (h : Setting). SameRuns (unit ∷ []) h (file_for unit u body ∷ []) units n) (sym (only_plain unit plain homes setting))
    (plain_mains_run_alike unit u body plain lowered text built units n (meant units n))

pub plain_mains_are_faithful : EachPlainMainIsFaithful
plain_mains_are_faithful options tree unit u body bytes alone plain lowered text built spelled meant = record {
  c_trees = file_for unit u body ∷ [];
  written = faithful.more bytes (file_for unit u body) [] [] spelled faithful.none;
  signatures = signed.more tree (file_for unit u body) [] [] (main_has_signatures options tree unit alone plain (inventory_of unit u) body) signed.none;
  setting = plain_setting unit;
  is_setting = subst (λ (S : List ProgramUnit). IsSetting S (plain_setting unit)) (sym alone) (plain_is_setting unit plain);
  imaged = λ homes setting. subst (λ (S : List ProgramUnit). (store : Store) × (image_store homes S ≡ Gives store)) (sym alone) (plain_image homes unit plain.images);
  closed = λ closed. record {
    linked = main_links unit u body;
    runs = λ homes setting units are n. subst (λ (S : List ProgramUnit). SameRuns S homes (file_for unit u body ∷ []) units n) (sym alone)
        (runs_over unit u body plain lowered text built meant homes (subst (λ (S : List ProgramUnit). IsSetting S homes) alone setting) units n);
  };
}
