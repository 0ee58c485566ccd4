-- That a main program runs as its C file does: its unit with storage of its own, its lowered text, and the file that is built for it.
-- ANSI X3.9-1978, sections 2.4, 5, 14 and 17.1; C89, 3.1.2.4.
use Rattle.std.specs.Prelude.{◌≡◌, ℕ, suc, ◌+◌, ◌*◌, ◌<◌, ◌≤◌, nat_lt, ℤ, true, false, List, [], ◌∷◌, ◌++◌, map, length, replicate, position, Option, Some, None, option_and_then, unwrap_or, slice_get, bytes_eq, if◌then◌else◌}
use Rattle.main_file_laws.specs.run_state.Units.{Units}
use Rattle.main_file_laws.specs.f_tree.declared.names.Basic.{Basic}
use Rattle.main_file_laws.specs.f_tree.Values.{Bytes, NoMeaning, in_range}
use Rattle.main_file_laws.specs.f_tree.Facts.{Direction, Layout, Controls, Home, Member, ProgramUnit, Facts}
use Rattle.main_file_laws.specs.f_tree.Setting.{Setting, unit_home}
use Rattle.main_file_laws.specs.f_tree.Valuing.{elements_of, extent_of}
use Rattle.main_file_laws.specs.f_tree.Meaning.{ftn, act_of}
use Rattle.main_file_laws.specs.l_core.Pures.{Pures}
use Rattle.main_file_laws.specs.l_core.Steps.{Starts, Halt, Acts, Text}
use Rattle.plain_forms.specs.lowering.Units.{lowered_unit}
use Rattle.plain_forms.specs.lowering_laws.Layout.{are_direct, has_end, LoopsFit}
use Rattle.main_file_laws.specs.c_tree.declared.statement.CStmt.{CStmt}
use Rattle.main_file_laws.specs.c_tree.declared.file.CFile.{CFile}
use Rattle.main_file_laws.specs.c_tree.Objects.{Object}
use Rattle.main_file_laws.specs.c_tree.Declarations.{string_object}
use Rattle.main_file_laws.specs.c_tree.Flat.{Flat}
use Rattle.main_file_laws.specs.c_tree.FlatForm.{whole_body}
use Rattle.main_file_laws.specs.c_tree.Linking as linking
use Rattle.main_file_laws.specs.c_tree.Meaning.{wrapped_by}
use Rattle.main_file_laws.specs.c_image.World.{World}
use Rattle.main_file_laws.specs.c_image.Held.{number_object}
use Rattle.main_file_laws.specs.c_structure.Statements.{Outline}
use Rattle.main_file_laws.specs.c_emit.Numbers.{is_numeric}
use Rattle.main_file_laws.specs.c_emit.Calls.{unit_of}
use Rattle.main_file_laws.specs.faithful.Faithful.{SameRuns}
use Rattle.main_file_laws.specs.faithful.UnitsAtStart.{AreBytes}
use Rattle.bridge.specs.output_laws.ListedOutputs.{list_object}
use Rattle.main_file_laws.specs.linking_laws.Linked.{routines_of, outside_of, own_of, base_at, function_base}
use Rattle.bridge.specs.emitted_texts.SecondLayer.{Surroundings}
use Rattle.bridge.specs.Bridge.{Translation}
use Rattle.main_file_laws.specs.main_file.MainFile.{Inventory, Variable, Listing, Bases, main_function, main_file, place_of_list}
use Rattle.main_file_laws.specs.BuiltMain.{IsMainBuilt}
pub use Rattle.plain_forms.specs.OwnStorage.{homes_from, sizes_of, plain_setting, plain_facts}
use Rattle.main_programs.specs.EmittedMain.{StepsFit, IsMain, emission_of}

-- ## Storage of its own

-- the bytes of a variable
abbrev pub bytes_in : Option ℕ → ℕ
bytes_in None = 4
bytes_in (Some count) = 4 * count

-- no COMMON, EQUIVALENCE or DATA; each stored name is a variable of numbers that is listed
pub record HasPlainStorage (unit : ProgramUnit) (v : Inventory) : Type 0 where
  pub blocks : unit.blocks ≡ []
  pub ties : unit.ties ≡ []
  pub images : unit.images ≡ []
  pub listed : (i : ℕ) (m : Member) → slice_get unit.stored i ≡ Some m → (one : Variable) × (slice_get v.variables i ≡ Some one) × (one.name ≡ m.name) × (m.size ≡ bytes_in one.count)
  pub as_many : length v.variables ≡ length unit.stored
  pub small : (i : ℕ) (m : Member) → slice_get unit.stored i ≡ Some m → m.size < 2147483648
  pub first : (i : ℕ) (m : Member) → slice_get unit.stored i ≡ Some m → position (λ (one : Variable). bytes_eq m.name one.name) v.variables ≡ Some i
  pub numbers : (i : ℕ) (m : Member) → slice_get unit.stored i ≡ Some m → is_numeric (unit.attribute m.name).basic ≡ true
  pub wide : (i : ℕ) (m : Member) → slice_get unit.stored i ≡ Some m → (unit.attribute m.name).width ≡ Some 4
  pub within : (i : ℕ) (m : Member) → slice_get unit.stored i ≡ Some m → extent_of (elements_of (unit.attribute m.name).bounds) 4 ≤ m.size

-- ## The file and its objects

abbrev pub files_of : Inventory → List CStmt → List CFile
files_of v body = main_file v body ∷ []

abbrev pub bases_of : Inventory → List CStmt → Bases
bases_of v body = record { own = own_of (files_of v body); file = base_at (files_of v body) 0; function = function_base (files_of v body) 0 (main_file v body) 0 }

abbrev pub linked_main : Inventory → List CStmt → linking.Function
linked_main v body =
    (linking.linked_function (routines_of (files_of v body)) (bases_of v body).own (linking.file_scope (routines_of (files_of v body)) (outside_of (files_of v body)) (bases_of v body).file (main_file v body)) (bases_of v body).function
    (main_function v body)).function

-- what the objects hold that no statement defines: constants, control lists and strings
abbrev pub held_objects : Inventory → List (Option Object)
held_objects v =
    map (λ z. Some (number_object z)) v.constants
    ++ (replicate (length v.variables) None ++ (map (λ (l : Listing). Some (list_object l.unit)) v.lists ++ map (λ n. Some (string_object (v.texts n))) v.strings))

abbrev pub held_at : Inventory → ℕ → Option Object
held_at v k = option_and_then (λ object. object) (slice_get (held_objects v) k)

abbrev pub world_of : Inventory → List CStmt → List Member → World
world_of v body stored = record {
  homes = λ n. if nat_lt n (length v.variables) then Some ((bases_of v body).function + n) else None;
  size = λ n. unwrap_or (slice_get (sizes_of stored) n) 0;
  fixed = λ n. false;
  height = length v.variables;
  frozen = held_at v;
}

abbrev pub surroundings_of : Inventory → List CStmt → List Member → Surroundings
surroundings_of v body stored = record {
  objects = length (linking.program (files_of v body)).objects;
  rooms = λ i. record { first = (linked_main v body).frame; count = length (linked_main v body).fresh };
  numbers = λ name. Some 0;
  first = world_of v body stored;
}

abbrev pub translation_of : Inventory → List CStmt → List Member → Text → (ℕ → ℕ → Option Basic) → (ℕ → Option ℤ) → Translation
translation_of v body stored u kind stage = record {
  surroundings = surroundings_of v body stored;
  texts = λ i. u;
  costs = λ i. replicate (length u.steps) 1;
  emissions = λ i. emission_of v (bases_of v body) u kind stage (linked_main v body) i;
  owner = λ k. k;
}

-- ## What is asked

-- the unit is lowered to the text, and the file is built for that
pub record IsTranslatedMain (unit : ProgramUnit) (v : Inventory) (u : Text) (kind : ℕ → ℕ → Option Basic) (stage : ℕ → Option ℤ) (o : Outline) (items : List Flat) (body : List CStmt) : Type 0 where
  pub lowered : lowered_unit (plain_facts unit) ≡ Some u
  pub facts : u.facts ≡ plain_facts unit
  pub direct : are_direct unit.lines ≡ true
  pub ended : has_end unit.lines ≡ true
  pub loops : LoopsFit unit
  pub main : IsMain u
  pub storage : HasPlainStorage unit v
  pub built : IsMainBuilt v (bases_of v body) u kind o items body
  pub fit : StepsFit v (bases_of v body) u kind stage
  -- its constants have 32 bits, and its control lists are those of its outputs
  pub numbers : (i : ℕ) (z : ℤ) → slice_get v.constants i ≡ Some z → in_range z ≡ true
  pub units : (n : ℕ) (way : Direction) (layout : Layout) (controls : Controls) (ps : Pures) (m : ℕ) (unit : ℤ) → slice_get u.steps n ≡ Some (Acts (Starts way layout controls) ps m) → unit_of ps ≡ Some unit →
      (i : ℕ) × (l : Listing) × (place_of_list v n ≡ Some i) × (slice_get v.lists i ≡ Some l) × (l.unit ≡ unit)
  -- the strings of its stops are their texts
  pub texts : (n : ℕ) (text : Bytes) → slice_get u.steps n ≡ Some (Halt text) → v.texts n ≡ text
  pub short : (n : ℕ) (text : Bytes) → slice_get u.steps n ≡ Some (Halt text) → AreBytes text × (length text < 2147483648)
  pub no_wrapper : wrapped_by body ≡ None
  pub some_step : 1 ≤ length u.steps
  pub as_long : length u.steps ≤ (whole_body body).size

-- LAW
abbrev pub MainProgramsRunAlike : Type 0
MainProgramsRunAlike = (unit : ProgramUnit) (v : Inventory) (u : Text) (kind : ℕ → ℕ → Option Basic) (stage : ℕ → Option ℤ) (o : Outline) (items : List Flat) (body : List CStmt) → IsTranslatedMain unit v u kind stage o items body → (units : Units) (n : ℕ) →
    (act_of (ftn (plain_setting unit) (unit ∷ []) units n) ≡ Some NoMeaning → ⊥) → SameRuns (unit ∷ []) (plain_setting unit) (files_of v body) units n
