-- The C files of units of numbers that call each other have the functions that their FORTRAN files ask, with their results and parameters, and no external
-- object. ANSI X3.9-1978, sections 8.3, 14 and 15.5 to 15.7; CSTR 149.
use Rattle.std.specs.List.{flat_map}
use Rattle.std.specs.Prelude.{◌≡◌, ℕ, suc, ◌+◌, true, List, [], ◌∷◌, ◌++◌, map, length, Some, slice_get}
use Rattle.std.proofs.Common.{refl, sym, ap, ◌∙◌, subst}
use Rattle.std.proofs.lemmas.List.{append-nil, map-append}
use Rattle.main_faithfulness.specs.f_tree.declared.names.Options.{Options}
use Rattle.main_faithfulness.specs.f_tree.declared.names.Basic.{Basic}
use Rattle.main_faithfulness.specs.f_tree.declared.names.Basic.TheVariants.{Integer, Logical, Character, Untyped}
use Rattle.main_faithfulness.specs.f_tree.declared.units.Unit.{Unit as GivenUnit}
use Rattle.main_faithfulness.specs.f_tree.declared.units.File.{File}
use Rattle.main_faithfulness.specs.f_tree.Values.{Bytes}
use Rattle.main_faithfulness.specs.f_tree.Facts.{MainProgram, SubroutineUnit, FunctionUnit, BlockDataUnit, UnitKind, EntryPoint, Block, ProgramUnit}
use Rattle.main_faithfulness.specs.f_tree.Setting.{IsIn, first_in, later_in, HasUnit}
use Rattle.main_faithfulness.specs.f_tree.Uses.{Use, uses_of_statements}
use Rattle.main_faithfulness.specs.f_tree.Attributes.{Described, arrays_of, all_described}
use Rattle.main_faithfulness.specs.f_tree.Lines.{unit_read}
use Rattle.main_faithfulness.specs.f_tree.CNames as c
use Rattle.main_faithfulness.specs.f_tree.CNames.{Dummy, DummyUse, Gives, external_name, main_name, variable_name, parameter_of, length_parameter_of, parameters_of_all, length_parameters_of_all, result_parameters_of, parameters_of}
use Rattle.main_faithfulness.specs.c_tree.declared.types.ResultType.{ResultType}
use Rattle.main_faithfulness.specs.c_emit.Numbers.{is_numeric}
use Rattle.main_faithfulness.specs.faithful.StorageImage.{block_name, name_of_entries, function_name}
use Rattle.main_faithfulness.specs.faithful.Signatures.{Signature, Parameter, result_type, parameter_type, signature, dummy_of, named_formals, gives_type, gives_of, entry_signature, procedure_signatures, signatures_by, unit_signatures, file_signatures, signature_of, blocks_added, file_blocks, HasSignatures, EachHasSignatures}
use Rattle.main_faithfulness.specs.faithful.Signatures as signed
use Rattle.unit_translation_laws.specs.procedure_emission.EmittedUnits.{number_result, is_number_pointer, is_function_pointer}
use Rattle.unit_translation_laws.specs.unit_file.UnitFile.{Inventory, WrittenUnit, parameter_for, unit_function}
use Rattle.main_faithfulness.proofs.linking_laws.Places.{get_front, get_back}
use Rattle.unit_translation_laws.specs.unit_sites.UnitSites.{UnitsOfFile, file_for, files_of, inventories}
use Rattle.unit_translation_laws.specs.unit_translation.UnitContents as contents
use Rattle.unit_translation_laws.specs.unit_translation.UnitContents.{LoweredUnit, program_units, formals_in, parameters_in, type_given, basic_given, result_by, result_given, inventory_of}
use Rattle.unit_translation_laws.specs.unit_translation.UnitBodies.{all_lowered, written_files}
use Rattle.unit_translation_laws.specs.PlainUnits.{HasPlainStorage, IsPlainDummy, is_number, is_procedure, IsPlainUnit, ArePlainUnits}
use Rattle.unit_faithfulness.specs.UnitsFaithful.{AreOfFile, AreOfFiles, no_files, one_file}
use Rattle.unit_faithfulness.proofs.Settings.{HavePlainStorage}
use Rattle.unit_faithfulness.proofs.Written.{IsFileFor, AreFilesFor, none_for, one_for, files_are, lowered_at}

-- ## Parameters

-- a parameter for a dummy, by what it stands for
abbrev parameter_by : (Bytes → DummyUse) → Bytes → Parameter
parameter_by use_of x = record { type = contents.parameter_for (use_of x); name = variable_name x }

abbrev parameter_told : c.Parameter → Parameter
parameter_told p = record { type = parameter_type p.type_of; name = p.called }

abbrev dummy_by : (Bytes → DummyUse) → Bytes → Dummy
dummy_by use_of x = record { name = x; use_of = use_of x }

-- what a dummy stands for goes by one pointer
record IsOnePointer (x : Bytes) (use_of : DummyUse) : Type 0 where
  told : map parameter_told (parameter_of x use_of) ≡ record { type = contents.parameter_for use_of; name = variable_name x } ∷ []
  no_length : length_parameter_of x use_of ≡ []

one_pointer : (x : Bytes) (use_of : DummyUse) → is_number_pointer (contents.parameter_for use_of) ≡ true → IsOnePointer x use_of
unfolding parameter_of length_parameter_of parameter_type contents.parameter_for is_number_pointer
one_pointer x c.IntegerDummy is = record { told = refl; no_length = refl }
one_pointer x c.LogicalDummy is = record { told = refl; no_length = refl }
one_pointer x other is = absurd (cc)

function_pointer : (x : Bytes) (use_of : DummyUse) → is_function_pointer (contents.parameter_for use_of) ≡ true → IsOnePointer x use_of
unfolding parameter_of length_parameter_of parameter_type contents.parameter_for is_function_pointer
function_pointer x c.CalledDummy is = record { told = refl; no_length = refl }
function_pointer x c.IntegerFunctionDummy is = record { told = refl; no_length = refl }
function_pointer x c.LogicalFunctionDummy is = record { told = refl; no_length = refl }
function_pointer x c.PassedDummy is = record { told = refl; no_length = refl }
function_pointer x other is = absurd (cc)

plain_pointer : (us : List LoweredUnit) (j : ℕ) (u : LoweredUnit) (x : Bytes) → IsPlainDummy us j u x → IsOnePointer x (u.use_of x)
plain_pointer us j u x (is_number dummy numeric wide fixed pointer) = one_pointer x (u.use_of x) pointer
plain_pointer us j u x (is_procedure dummy fixed pointer) = function_pointer x (u.use_of x) pointer

abbrev AreOnePointers : (Bytes → DummyUse) → List Bytes → Type 0
AreOnePointers use_of xs = (x : Bytes) → IsIn x xs → IsOnePointer x (use_of x)

-- the parameters that the function of a unit has for dummies
abbrev parameters_for : (Bytes → DummyUse) → List Bytes → List Parameter
parameters_for use_of xs = map (λ p. record { type = p.of; name = p.name }) (map parameter_for (map (λ x. record { name = x; type = contents.parameter_for (use_of x) }) xs))

all_told : (use_of : Bytes → DummyUse) (xs : List Bytes) → AreOnePointers use_of xs → parameters_for use_of xs ≡ map parameter_told (parameters_of_all (map (dummy_by use_of) xs))
unfolding parameters_of_all
all_told use_of [] each = refl
all_told use_of (x ∷ xs) each =
    ap (λ later. parameter_by use_of x ∷ later) (all_told use_of xs (λ y among. each y (later_in among)))
    ∙ ap (λ first. first ++ map parameter_told (parameters_of_all (map (dummy_by use_of) xs))) (sym (each x first_in).told)
    ∙ sym (map-append parameter_told (parameter_of x (use_of x)) (parameters_of_all (map (dummy_by use_of) xs)))

no_lengths : (use_of : Bytes → DummyUse) (xs : List Bytes) → AreOnePointers use_of xs → length_parameters_of_all (map (dummy_by use_of) xs) ≡ []
unfolding length_parameters_of_all
no_lengths use_of [] each = refl
no_lengths use_of (x ∷ xs) each = ap (λ first. first ++ length_parameters_of_all (map (dummy_by use_of) xs)) (each x first_in).no_length ∙ no_lengths use_of xs (λ y among. each y (later_in among))

-- what gives no text has no parameters for its result
abbrev HasNoResultParameters : Gives → Type 0
HasNoResultParameters gives = result_parameters_of gives ≡ []

parameters_told : (gives : Gives) (use_of : Bytes → DummyUse) (xs : List Bytes) → HasNoResultParameters gives → AreOnePointers use_of xs →
    parameters_for use_of xs ≡ map parameter_told (parameters_of gives (map (dummy_by use_of) xs))
unfolding parameters_of
parameters_told gives use_of xs none each =
    let all = parameters_of_all (map (dummy_by use_of) xs) in
    all_told use_of xs each ∙ ap (map parameter_told) (sym (ap (λ first. first ++ all ++ length_parameters_of_all (map (dummy_by use_of) xs)) none ∙ ap (λ lengths. all ++ lengths) (no_lengths use_of xs each) ∙ append-nil all))

-- ## One unit

abbrev signature_for : Inventory → Signature
signature_for v = signature_of (unit_function (record { inventory = v; body = [] }))

-- a unit as its statements are read, with the uses of its dummies
record IsRead (options : Options) (given : GivenUnit) (u : LoweredUnit) : Type 0 where
  reads : unit_read options given ≡ u.unit
  uses : (x : Bytes) → u.use_of x ≡ (dummy_of (uses_of_statements (arrays_of given) given.statements) u.unit.attribute x).use_of

-- the name, what is given, and the parameters, of a unit with one entry
abbrev signed_as : List ℕ → ResultType → List Parameter → Signature
signed_as name gives parameters = record { name = name; gives = gives; parameters = parameters }

pub named_by : (unit : ProgramUnit) (kind : UnitKind) → unit.kind ≡ kind → function_name unit ≡ elim kind [ MainProgram ↦ main_name | _ ↦ name_of_entries unit.entries ]
unfolding function_name
named_by unit kind is = ap (λ (k : UnitKind). elim k [ MainProgram ↦ main_name | _ ↦ name_of_entries unit.entries ]) is

given_by : (unit : ProgramUnit) (kind : UnitKind) → unit.kind ≡ kind → result_given unit ≡ result_by (basic_given unit kind)
unfolding result_given
given_by unit kind is = ap (λ (k : UnitKind). result_by (basic_given unit k)) is

gives_by : (unit : ProgramUnit) (entry : EntryPoint) (kind : UnitKind) → unit.kind ≡ kind → gives_of unit entry ≡ elim kind [ FunctionUnit ↦ gives_type (unit.attribute entry.name).basic | _ ↦ c.GivesNothing ]
unfolding gives_of
gives_by unit entry kind is = ap (λ (k : UnitKind). elim k [ FunctionUnit ↦ gives_type (unit.attribute entry.name).basic | _ ↦ c.GivesNothing ]) is

given_parameters : (u : LoweredUnit) (entry : EntryPoint) → u.unit.entries ≡ entry ∷ [] →
    map (λ p. let told : Parameter = record { type = p.of; name = p.name } in told) (map parameter_for (parameters_in u)) ≡ parameters_for u.use_of (named_formals entry.formals)
unfolding parameters_in formals_in
given_parameters u entry one = ap (λ (entries : List EntryPoint). parameters_for u.use_of (named_formals (formals_in entries))) one

main_signed : (us : List LoweredUnit) (u : LoweredUnit) (entry : EntryPoint) → u.unit.kind ≡ MainProgram → u.unit.entries ≡ entry ∷ [] → entry.formals ≡ [] →
    signature_for (inventory_of us u) ≡ signature main_name c.GivesNothing []
unfolding signature result_type c.result_of result_by basic_given named_formals
main_signed us u entry is one none =
    (λ i. signed_as (named_by u.unit MainProgram is i) (given_by u.unit MainProgram is i) ((given_parameters u entry one ∙ ap (λ formals. parameters_for u.use_of (named_formals formals)) none) i))

-- what a dummy stands for is what the statements say
dummies_are : (options : Options) (given : GivenUnit) (u : LoweredUnit) → IsRead options given u → dummy_of (uses_of_statements (arrays_of given) given.statements) u.unit.attribute ≡ dummy_by u.use_of
unfolding dummy_of
dummies_are options given u read = (λ i x. record { name = x; use_of = sym (read.uses x) i })

procedure_signed : (us : List LoweredUnit) (u : LoweredUnit) (dummy : Bytes → Dummy) (all : List Bytes) (entry : EntryPoint) (gives : Gives) → u.unit.entries ≡ entry ∷ [] → function_name u.unit ≡ external_name entry.name →
    result_given u.unit ≡ result_type (c.result_of gives) → gives_of u.unit entry ≡ gives → HasNoResultParameters gives → AreOnePointers u.use_of (named_formals entry.formals) → dummy ≡ dummy_by u.use_of →
    signature_for (inventory_of us u) ∷ [] ≡ procedure_signatures u.unit dummy all u.unit.entries
unfolding procedure_signatures entry_signature signature
procedure_signed us u dummy all entry gives one name result_is gives_is none each dummies =
    let xs = named_formals entry.formals in
    ap (λ s. s ∷ []) (λ i. signed_as (name i) (result_is i) ((given_parameters u entry one ∙ parameters_told gives u.use_of xs none each) i))
    ∙ ap (λ (told : Bytes → Dummy). signature (external_name entry.name) gives (parameters_of gives (map told xs)) ∷ []) (sym dummies)
    ∙ ap (λ (g : Gives). signature (external_name entry.name) g (parameters_of g (map dummy xs)) ∷ []) (sym gives_is)
    ∙ sym (ap (procedure_signatures u.unit dummy all) one)

-- what a function of numbers gives
record IsGiven (basic : Basic) : Type 0 where
  result_is : number_result basic ≡ result_type (c.result_of (gives_type basic))
  no_parameters : HasNoResultParameters (gives_type basic)

number_given : (basic : Basic) → is_numeric basic ≡ true → IsGiven basic
unfolding number_result result_type c.result_of gives_type result_parameters_of is_numeric
number_given Integer is = record { result_is = refl; no_parameters = refl }
number_given Logical is = record { result_is = refl; no_parameters = refl }
number_given Character is = absurd (cc)
number_given Untyped is = absurd (cc)

module _ (us : List LoweredUnit) (j : ℕ) (u : LoweredUnit) (plain : IsPlainUnit us j u) where
  abbrev its_entry : EntryPoint
  its_entry = record { name = plain.name; formals = plain.formals; start = 0 }

  each_pointer : AreOnePointers u.use_of (named_formals plain.formals)
  each_pointer x among = plain_pointer us j u x (plain.dummies.plain x among)

  external_named : (kind : UnitKind) → u.unit.kind ≡ kind → (elim kind [ MainProgram ↦ main_name | _ ↦ name_of_entries u.unit.entries ]) ≡ name_of_entries u.unit.entries → function_name u.unit ≡ external_name plain.name
  external_named kind is no_main = named_by u.unit kind is ∙ no_main ∙ ap name_of_entries plain.entry

  result_numeric : u.unit.kind ≡ FunctionUnit → is_numeric (u.unit.attribute plain.name).basic ≡ true
  result_numeric is = (plain.result.numeric plain.name (plain.result.own is)).1

  unit_signed : (kind : UnitKind) → u.unit.kind ≡ kind → (uses : List Use) (described : List Described) → dummy_of uses u.unit.attribute ≡ dummy_by u.use_of →
      signature_for (inventory_of us u) ∷ [] ≡ signatures_by kind u.unit uses described
  unfolding signatures_by result_by basic_given type_given result_type c.result_of result_parameters_of
  unit_signed MainProgram is uses described dummies = ap (λ s. s ∷ []) (main_signed us u its_entry is plain.entry (plain.main is))
  unit_signed SubroutineUnit is uses described dummies =
      procedure_signed us u (dummy_of uses u.unit.attribute) _ its_entry c.GivesNothing plain.entry (external_named SubroutineUnit is refl) (given_by u.unit SubroutineUnit is) (gives_by u.unit its_entry SubroutineUnit is) refl each_pointer dummies
  unit_signed FunctionUnit is uses described dummies =
      let basic = (u.unit.attribute plain.name).basic in
      let given = number_given basic (result_numeric is) in
      procedure_signed us u (dummy_of uses u.unit.attribute) _ its_entry (gives_type basic) plain.entry (external_named FunctionUnit is refl)
      (given_by u.unit FunctionUnit is ∙ ap (λ (entries : List EntryPoint). result_by (type_given u.unit entries)) plain.entry ∙ given.result_is) (gives_by u.unit its_entry FunctionUnit is) given.no_parameters each_pointer dummies
  unit_signed BlockDataUnit is uses described dummies = absurd (plain.runs is)

  given_signed : (options : Options) (given : GivenUnit) → IsRead options given u → signature_for (inventory_of us u) ∷ [] ≡ unit_signatures options given
  unfolding unit_signatures
  given_signed options given read =
      let uses = uses_of_statements (arrays_of given) given.statements in
      unit_signed u.unit.kind refl uses (all_described given) (dummies_are options given u read)
      ∙ ap (λ (unit : ProgramUnit). signatures_by unit.kind unit uses (all_described given)) (sym read.reads)

-- ## All units

abbrev ArePlain : List LoweredUnit → List LoweredUnit → Type 0
ArePlain us later = (i : ℕ) (u : LoweredUnit) → slice_get later i ≡ Some u → (j : ℕ) × IsPlainUnit us j u

abbrev HaveUses : List GivenUnit → List LoweredUnit → Type 0
HaveUses gs later = (i : ℕ) (given : GivenUnit) (u : LoweredUnit) → slice_get gs i ≡ Some given → slice_get later i ≡ Some u → (x : Bytes) →
    u.use_of x ≡ (dummy_of (uses_of_statements (arrays_of given) given.statements) u.unit.attribute x).use_of

all_signed : (options : Options) (us : List LoweredUnit) (gs : List GivenUnit) (later : List LoweredUnit) → map (unit_read options) gs ≡ program_units later → HaveUses gs later → ArePlain us later →
    map signature_for (map (inventory_of us) later) ≡ flat_map (unit_signatures options) gs
all_signed options us [] [] are uses plain = refl
all_signed options us [] (u ∷ later) are uses plain = absurd (cc)
all_signed options us (given ∷ gs) [] are uses plain = absurd (cc)
all_signed options us (given ∷ gs) (u ∷ later) are uses plain =
    let first = plain 0 u refl in
    (λ i. given_signed us first.0 u first.1 options given (record { reads = cc; uses = uses 0 given u refl refl }) i
    ++ all_signed options us gs later (cc) (λ k. uses (suc k)) (λ k. plain (suc k)) i)

-- no common blocks
no_blocks : (options : Options) (gs : List GivenUnit) (S : List ProgramUnit) → map (unit_read options) gs ≡ S → ((k : ℕ) (u : ProgramUnit) → HasUnit S k u → u.blocks ≡ []) →
    flat_map (λ (given : GivenUnit). (unit_read options given).blocks) gs ≡ []
no_blocks options [] S are none = refl
no_blocks options (given ∷ gs) [] are none = absurd (cc)
no_blocks options (given ∷ gs) (u ∷ S) are none =
    let reads : unit_read options given ≡ u = cc in
    ap (λ (blocks : List Block). blocks ++ flat_map (λ (other : GivenUnit). (unit_read options other).blocks) gs) (ap (λ (v : ProgramUnit). v.blocks) reads ∙ none 0 u refl)
    ∙ no_blocks options gs S (cc) (λ k. none (suc k))

-- ## The file

signatures_of_written : (ws : List WrittenUnit) → map signature_of (map unit_function ws) ≡ map signature_for (inventories ws)
signatures_of_written [] = refl
signatures_of_written (w ∷ ws) = ap (λ later. signature_of (unit_function w) ∷ later) (signatures_of_written ws)

abbrev names_of_blocks : List Block → List (List ℕ)
names_of_blocks blocks = map (λ (block : Block). block_name block.name) (blocks_added [] blocks)

none_named : (blocks : List Block) → blocks ≡ [] → names_of_blocks blocks ≡ []
unfolding blocks_added
none_named blocks none = ap names_of_blocks none

-- the C file for some of the units
file_signed : (options : Options) (tree : File) (all us : List LoweredUnit) (f : UnitsOfFile) → AreOfFile options tree us → IsFileFor all us f → ArePlain all us → HavePlainStorage (program_units us) →
    HasSignatures options tree (file_for f)
unfolding file_signatures file_blocks
file_signed options tree all us f of_file is plain storage = record {
  functions = signatures_of_written f.units ∙ ap (map signature_for) is.inventories_are ∙ all_signed options all tree.units us of_file.units (λ i given u at own. of_file.uses i given u at own) plain;
  objects = sym (none_named _ (no_blocks options tree.units (program_units us) of_file.units (λ k unit at. (storage k unit at).blocks)));
}

-- those of a file are plain where all are
front_plain : (all us later : List LoweredUnit) → ArePlain all (us ++ later) → ArePlain all us
front_plain all us later plain i u at = plain i u (get_front us later i u at)

back_plain : (all us later : List LoweredUnit) → ArePlain all (us ++ later) → ArePlain all later
back_plain all us later plain i u at = plain (length us + i) u (get_back us later (length us + i) i u refl at)

plain_storage : (all us : List LoweredUnit) → ArePlain all us → HavePlainStorage (program_units us)
plain_storage all us plain k unit at = let own = lowered_at us k unit at in subst HasPlainStorage own.is (plain k own.one own.one_is).1.storage

each_signed : (options : Options) (all : List LoweredUnit) (trees : List File) (lfs : List (List LoweredUnit)) (fs : List UnitsOfFile) → AreOfFiles options trees lfs → AreFilesFor all lfs fs → ArePlain all (all_lowered lfs) →
    EachHasSignatures options trees (files_of fs)
each_signed options all _ _ _ no_files none_for plain = signed.none
each_signed options all _ _ _ (one_file tree us trees lfs first later) (one_for _ f _ fs is rest) plain =
    let own = front_plain all us (all_lowered lfs) plain in
    signed.more tree (file_for f) trees (files_of fs) (file_signed options tree all us f first is own (plain_storage all us own)) (each_signed options all trees lfs fs later rest (back_plain all us (all_lowered lfs) plain))

pub files_have_signatures : (options : Options) (trees : List File) (lfs : List (List LoweredUnit)) (fs : List UnitsOfFile) → AreOfFiles options trees lfs → ArePlainUnits (all_lowered lfs) → written_files lfs ≡ Some fs →
    EachHasSignatures options trees (files_of fs)
files_have_signatures options trees lfs fs of_files plain written = each_signed options (all_lowered lfs) trees lfs fs of_files (files_are lfs fs written) (λ i u at. (i, plain.units i u at))
