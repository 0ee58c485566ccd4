-- That each function of the files of several units is one of which all is so that is asked. ANSI X3.9-1978, sections 14 and 15; C89, 3.1.2.4.
use Rattle.std.specs.Prelude.{◌≡◌, ℕ, ◌+◌, List, [], ◌∷◌, length, replicate, Option, Some, None, slice_get}
use Rattle.emitted_procedures.specs.l_core.Steps.{Text}
use Rattle.emitted_procedures.specs.c_tree.Linking as linking
use Rattle.emitted_procedures.specs.c_tree.Meaning.{text_of}
use Rattle.emitted_procedures.specs.emitted_texts.SecondLayer.{Room, Surroundings, Emission}
use Rattle.emitted_procedures.specs.procedure_emission.EmittedUnits.{IsEmittedUnit, IsCosted}
use Rattle.unit_file_laws.specs.unit_file.UnitFile.{first_parameter, frame_count}
use Rattle.unit_file_laws.specs.unit_sites.UnitSites.{UnitsOfFile, files_of}
use Rattle.unit_file_laws.specs.KnownUnits.{unit_writing}
use Rattle.behind_bounds.specs.BehindBounds.{writing_behind}
use Rattle.unit_programs.specs.OwnStorage.{own_setting, first_world}
use Rattle.unit_programs.specs.TranslatedUnits.{Rendering, units_of, numbers_of, IsTranslatedSet}

-- where the frame of a function stands; what is no unit has none
abbrev pub room_at : Option Rendering → Room
room_at None = record { first = 0; count = 0 }
room_at (Some r) = record { first = first_parameter r.written.inventory r.site.bases; count = frame_count r.written.inventory }

abbrev pub surroundings_of : List UnitsOfFile → List Rendering → Surroundings
surroundings_of fs rs = record {
  objects = length (linking.program (files_of fs)).objects;
  rooms = λ j. room_at (slice_get rs j);
  numbers = numbers_of rs;
  first = first_world fs (own_setting (units_of rs));
}

-- how the function of a unit goes by its text: an item for each step, behind those that keep bounds; it is the function of its number in the program
abbrev pub emission_of : List UnitsOfFile → ℕ → Rendering → Emission
emission_of fs j r = record {
  writing = writing_behind (length r.written.inventory.bounds) (unit_writing r.site r.written r.text.facts r.kind);
  place = λ n. length r.written.inventory.bounds + n;
  stage = λ n. r.stage (length r.written.inventory.bounds + n);
  function = text_of (linking.program (files_of fs)).functions j;
  number = j;
}

abbrev pub costs_of : Text → List ℕ
costs_of u = replicate (length u.steps) 1

-- the first step costs also what is kept before it
unfoldable pub costs_behind : ℕ → List ℕ → List ℕ
costs_behind first [] = first ∷ []
costs_behind first (cost ∷ costs) = (first + cost) ∷ costs

-- LAW
-- what a step costs is what the items for it do
abbrev pub UnitsAreEmitted : Type 0
UnitsAreEmitted = (fs : List UnitsOfFile) (rs : List Rendering) → IsTranslatedSet fs rs → (j : ℕ) (r : Rendering) → slice_get rs j ≡ Some r →
    (is : IsEmittedUnit (surroundings_of fs rs) j r.text (costs_of r.text) (emission_of fs j r)) × IsCosted r.text (costs_of r.text) (costs_behind (length r.written.inventory.bounds) (costs_of r.text)) is.entry is.savings

unfoldable pub emitted_file_opened : Unit {0}
unfolding costs_behind
emitted_file_opened = tt
