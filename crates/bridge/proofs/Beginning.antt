-- Both runs begin alike.
use Rattle.std.specs.Prelude.{◌≡◌, ℕ, List, [], Option, Some, None}
use Rattle.std.proofs.Common.{refl, sym, ap, ◌∙◌, subst}
use Rattle.lowering_laws.specs.simulation.Machine.{begun}
use Rattle.lowering_laws.specs.simulation.Law.{Alike}
use Rattle.lowering_laws.proofs.simulation.Corollaries.{begins_alike}
use Rattle.lowering_laws.specs.run_state.Units.{Units}
use Rattle.lowering_laws.specs.f_tree.Values.{Checked, Gives, Fails}
use Rattle.lowering_laws.specs.f_tree.Terms.{AsSubroutine}
use Rattle.lowering_laws.specs.f_tree.Store.{Store}
use Rattle.lowering_laws.specs.f_tree.Facts.{ProgramUnit}
use Rattle.lowering_laws.specs.f_tree.Setting.{Setting}
use Rattle.lowering_laws.specs.f_tree.Images.{image_store}
use Rattle.lowering_laws.specs.f_tree.World as fortran
use Rattle.lowering_laws.specs.f_tree.World.{TheMain}
use Rattle.lowering_laws.specs.f_tree.Meaning as source
use Rattle.lowering_laws.specs.f_tree.Meaning.{found_from, world_with, start_world, call_of_main, started}
use Rattle.emitted_texts.specs.c_tree.declared.file.CFile.{CFile}
use Rattle.emitted_texts.specs.c_tree.Linking as linking
use Rattle.emitted_texts.specs.c_tree.Meaning.{machine, main_number, first_world, step_factor}
use Rattle.emitted_texts.specs.c_tree.Steps.{language}
use Rattle.emitted_texts.specs.faithful.SameTransfer.{SameTransfer, neither}
use Rattle.emitted_texts.proofs.c_image_laws.Growing.{extends_itself}
use Rattle.emitted_texts.specs.SecondLayer.{none_passed}
use Rattle.bridge.specs.Bridge.{Translation, linking_of, IsTranslated}
use Rattle.bridge.proofs.LinkedUnits.{linked}

no_transfer : (g : Setting) (units : Units) (x : Checked Store) → (world_with g units x).transfer ≡ None
unfolding world_with
no_transfer g units (Gives s) = refl
no_transfer g units (Fails act) = refl

same_units : (g : Setting) (units : Units) (x : Checked Store) → (world_with g units x).units ≡ units
unfolding world_with
same_units g units (Gives s) = refl
same_units g units (Fails act) = refl

none_is : {A : Type 0} (x : Option fortran.Transfer) (one : fortran.Transfer) → x ≡ None → x ≡ Some one → A
none_is x one none some = absurd (cc)

module _ (g : Setting) (S : List ProgramUnit) (files : List CFile) (t : Translation) (is : IsTranslated g S files t) (units : Units) where
  none_yet : (start_world g S units).transfer ≡ None
  unfolding start_world
  none_yet = no_transfer g units (image_store g S)

  its_units : (start_world g S units).units ≡ units
  unfolding start_world
  its_units = same_units g units (image_store g S)

  pub first_alike : (i : ℕ) → found_from 0 S TheMain ≡ Some i → Alike (linking_of g S files t) (started g S units) (begun language (machine (linking.program files)) (main_number (linking.program files)) [] (first_world (linking.program files) units))
  unfolding source.program started call_of_main
  first_alike i found =
      begins_alike (linking_of g S files t) (step_factor files) (linked g S files t is) (record { transfer = None; wanted = AsSubroutine; labels = [] }, t.surroundings.first) TheMain call_of_main (start_world g S units) (main_number (linking.program files)) []
      (first_world (linking.program files) units) i found refl
      (record { houses = λ j known. (tt, extends_itself t.surroundings.first); idle = λ j known none. (tt, (is.units j known).idle) }) (
        start_world g S units,
        TheMain,
        call_of_main,
        (refl, refl, refl, none_yet, refl, refl),
        record {
          both = record {
            extends = extends_itself t.surroundings.first;
            stands = is.stands units;
            units = its_units;
            transfers = record {
              same = subst (λ x. SameTransfer t.surroundings.first.homes x None) (sym none_yet) neither;
              below = λ one p some internal. none_is (start_world g S units).transfer one none_yet some;
            };
            as_many = is.as_many;
          };
          none = λ want. refl;
          named = (is.units i (TheMain, found)).called TheMain found ∙ ap Some (sym (is.main i found));
          result = [];
          arguments = [];
          result_passed = refl;
          are_passed = none_passed;
          values_are = refl;
        },
      )
