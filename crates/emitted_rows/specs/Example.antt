-- A main program that puts into an integer what a function gives for 2 and another function; the function, which gives one more than the other one gives
-- for the number; and the other one, which gives its dummy: their lowered texts, and their C functions among the objects of the program, which are the
-- constant 2, the integer, and the frames of the three.
use Rattle.std.specs.Prelude.{ℕ, zero, suc, ◌+◌, nat_eq, pos, false, List, [], ◌∷◌, Option, Some, None, bytes_eq, codes, slice_get, if◌then◌else◌}
use Rattle.std.specs.Ordering.{int_eq}
use Rattle.procedure_emission.specs.f_tree.declared.names.Basic.{Basic}
use Rattle.procedure_emission.specs.f_tree.declared.names.Basic.TheVariants.{Integer}
use Rattle.procedure_emission.specs.f_tree.declared.names.Class.TheVariants as class
use Rattle.procedure_emission.specs.f_tree.Values.{Bytes, IsInt}
use Rattle.procedure_emission.specs.f_tree.Terms.{Add, AsFunction}
use Rattle.procedure_emission.specs.f_tree.Facts.{Attribute, Named, MainProgram, FunctionUnit, UnitKind, EntryPoint, Home, Facts}
use Rattle.procedure_emission.specs.f_tree.World.{Called, TheMain, Procedure}
use Rattle.procedure_emission.specs.l_core.Pures.{Constant, Temporary, Load, Name, Operated, NoPure, AndPure}
use Rattle.procedure_emission.specs.l_core.Steps.{Step, Put, CallFor, Back, Text}
use Rattle.procedure_emission.specs.c_tree.declared.types.FunctionType.TheVariants as to
use Rattle.procedure_emission.specs.c_tree.declared.types.ParameterType.TheVariants as parameter
use Rattle.procedure_emission.specs.c_tree.declared.types.ResultType.TheVariants as result
use Rattle.procedure_emission.specs.c_tree.declared.expression.BinaryOp.TheVariants as op
use Rattle.procedure_emission.specs.c_tree.declared.expression.UnaryOp.TheVariants as prefix
use Rattle.procedure_emission.specs.c_tree.Access.{ToNumber, ToPointer, ToFunction}
use Rattle.procedure_emission.specs.c_tree.Objects.{Object}
use Rattle.procedure_emission.specs.c_tree.Declarations.{unset, unset_values}
use Rattle.procedure_emission.specs.c_tree.Terms as c
use Rattle.procedure_emission.specs.c_tree.Flat.{Flat, Assign, Invoke, Kept, Direct, Through, Return}
use Rattle.procedure_emission.specs.c_image.Held.{number_object}
use Rattle.procedure_emission.specs.c_image.Addresses as address
use Rattle.procedure_emission.specs.c_image.Addresses.{Address, Alone}
use Rattle.procedure_emission.specs.c_image.Elements.{Written}
use Rattle.procedure_emission.specs.c_emit.Calls.{address_of}
use Rattle.procedure_emission.specs.emitted_texts.SecondLayer.{Room, Surroundings, Emission}
use Rattle.procedure_emission.specs.ProcedureItems.{procedure_argument}

abbrev pub the_function : Bytes
the_function = 70 ∷ []

abbrev pub the_dummy_procedure : Bytes
the_dummy_procedure = 71 ∷ []

abbrev pub the_other : Bytes
the_other = 72 ∷ []

abbrev pub the_dummy : Bytes
the_dummy = 78 ∷ []

abbrev pub an_integer : Attribute
an_integer = record { basic = Integer; class = class.Stored; width = Some 4; dimensions = []; bounds = []; constant = None; expansion = None }

abbrev pub unit_facts : UnitKind → EntryPoint → (Bytes → Attribute) → (Bytes → Option Home) → Facts
unit_facts kind entry attribute home = record {
  program = record {
    kind = kind;
    entries = entry ∷ [];
    lines = [];
    attribute = attribute;
    formats = [];
    blocks = [];
    ties = [];
    images = [];
    references = [];
    stored = [];
    onetrip = false;
  };
  home = home;
}

-- ## The program

abbrev pub its_room : ℕ → Room
its_room zero = record { first = 2; count = 1 }
its_room (suc zero) = record { first = 3; count = 4 }
its_room (suc (suc zero)) = record { first = 7; count = 2 }
its_room (suc (suc (suc j))) = record { first = 9; count = 0 }

abbrev pub its_number : Called → Option ℕ
its_number TheMain = Some 0
its_number (Procedure x) = if bytes_eq x the_function then Some 1 else if bytes_eq x the_other then Some 2 else None

abbrev pub held_first : ℕ → Option Object
held_first zero = Some (number_object (pos 2))
held_first (suc k) = None

abbrev pub its_surroundings : Surroundings
its_surroundings = record {
  objects = 9;
  rooms = its_room;
  numbers = its_number;
  first = record { homes = slice_get (1 ∷ []); size = λ n. 4; fixed = λ n. false; height = 1; frozen = held_first };
}

-- ## The main program: I = F(2, H)

abbrev pub main_entry : EntryPoint
main_entry = record { name = []; formals = []; start = 0 }

abbrev pub main_attribute : Bytes → Attribute
main_attribute x =
    if bytes_eq x the_function then record an_integer { class = class.Procedure }
    else if bytes_eq x the_other then record an_integer { class = class.Procedure } else an_integer

abbrev pub main_steps : List Step
main_steps =
    CallFor 0 (record { name = the_function; want = AsFunction Integer 4 }) (AndPure (Constant (IsInt (pos 2))) (AndPure (Name the_other) NoPure))
    ∷ Put (Name (73 ∷ [])) (Temporary 0)
    ∷ Back
    ∷ []

abbrev pub main_facts : Facts
main_facts = unit_facts MainProgram main_entry main_attribute (λ x. Some (record { sequence = 0; first = 0 }))

abbrev pub main_text : Text
main_text = record { facts = main_facts; steps = main_steps; begins = λ i. i; position = λ label. None; marks = [] }

abbrev pub main_code : List Flat
main_code =
    Invoke (Kept (c.Variable 2 ToNumber)) (Direct 1) (address_of (c.Variable 0 ToNumber) ∷ procedure_argument (c.Routine 2) ∷ [])
    ∷ Assign (c.Variable 1 ToNumber) (c.Variable 2 ToNumber)
    ∷ Return (Some (c.Constant (pos 0)))
    ∷ []

-- behind the call, the first step, the temporary keeps an integer
abbrev pub main_kind : ℕ → ℕ → Option Basic
main_kind (suc zero) zero = Some Integer
main_kind n k = None

abbrev pub main_emission : Emission
main_emission = record {
  writing = record {
    naming = record { address = λ x. Alone 1; length = λ x. 20; lower = λ x k. Written (pos 0); size = λ x k. Written (pos 0); temporary = λ k. 2 + k };
    facts = main_facts;
    is_number = λ k. nat_eq k 0;
    kind = main_kind;
    library = record { own = 3; has = λ z. int_eq z (pos 2); constant = λ z. 0; list = λ n. 20; text = λ n. 20 };
  };
  place = λ n. n;
  stage = λ n. None;
  function = record { name = codes "MAIN__"; result = result.Int; parameters = []; frame = 2; fresh = unset 4 ∷ []; code = main_code; own = 3 };
  number = 0;
}

-- ## The function: F = G(N) + 1

abbrev pub function_entry : EntryPoint
function_entry = record { name = the_function; formals = Named the_dummy ∷ Named the_dummy_procedure ∷ []; start = 0 }

abbrev pub function_attribute : Bytes → Attribute
function_attribute x =
    if bytes_eq x the_function then record an_integer { class = class.Result }
    else if bytes_eq x the_dummy_procedure then record an_integer { class = class.DummyProcedure } else record an_integer { class = class.Dummy }

abbrev pub function_steps : List Step
function_steps =
    CallFor 0 (record { name = the_dummy_procedure; want = AsFunction Integer 4 }) (AndPure (Name the_dummy) NoPure)
    ∷ Put (Name the_function) (Operated Add (Temporary 0) (Constant (IsInt (pos 1))))
    ∷ Back
    ∷ []

abbrev pub function_facts : Facts
function_facts = unit_facts FunctionUnit function_entry function_attribute (λ x. None)

abbrev pub function_text : Text
function_text = record { facts = function_facts; steps = function_steps; begins = λ i. i; position = λ label. None; marks = [] }

abbrev pub function_code : List Flat
function_code =
    Invoke (Kept (c.Variable 5 ToNumber)) (Through (c.Variable 4 ToFunction)) (c.Variable 3 (ToPointer ToNumber) ∷ [])
    ∷ Assign (c.Variable 6 ToNumber) (c.Between op.Add (c.Variable 5 ToNumber) (c.Constant (pos 1)))
    ∷ Return (Some (c.Variable 6 ToNumber))
    ∷ []

abbrev pub function_address : Bytes → Address
function_address x = if bytes_eq x the_function then Alone 6 else if bytes_eq x the_dummy_procedure then address.Through 4 else address.Through 3

abbrev pub function_emission : Emission
function_emission = record {
  writing = record {
    naming = record { address = function_address; length = λ x. 20; lower = λ x k. Written (pos 0); size = λ x k. Written (pos 0); temporary = λ k. 5 + k };
    facts = function_facts;
    is_number = λ k. nat_eq k 0;
    kind = main_kind;
    library = record { own = 3; has = λ z. false; constant = λ z. 0; list = λ n. 20; text = λ n. 20 };
  };
  place = λ n. n;
  stage = λ n. None;
  function = record {
    name = codes "f_";
    result = result.Integer;
    parameters = parameter.Integers ∷ parameter.Function to.Integer ∷ [];
    frame = 3;
    fresh = unset_values (ToPointer ToNumber) 1 ∷ unset_values ToFunction 1 ∷ unset 4 ∷ unset 4 ∷ [];
    code = function_code;
    own = 3;
  };
  number = 1;
}

-- ## The other one: H = N

abbrev pub other_entry : EntryPoint
other_entry = record { name = the_other; formals = Named the_dummy ∷ []; start = 0 }

abbrev pub other_attribute : Bytes → Attribute
other_attribute x = if bytes_eq x the_other then record an_integer { class = class.Result } else record an_integer { class = class.Dummy }

abbrev pub other_steps : List Step
other_steps = Put (Name the_other) (Load (Name the_dummy)) ∷ Back ∷ []

abbrev pub other_facts : Facts
other_facts = unit_facts FunctionUnit other_entry other_attribute (λ x. None)

abbrev pub other_text : Text
other_text = record { facts = other_facts; steps = other_steps; begins = λ i. i; position = λ label. None; marks = [] }

abbrev pub other_code : List Flat
other_code =
    Assign (c.Variable 8 ToNumber) (c.Prefixed prefix.Deref (c.Variable 7 (ToPointer ToNumber)))
    ∷ Return (Some (c.Variable 8 ToNumber))
    ∷ []

abbrev pub other_address : Bytes → Address
other_address x = if bytes_eq x the_other then Alone 8 else address.Through 7

abbrev pub other_emission : Emission
other_emission = record {
  writing = record {
    naming = record { address = other_address; length = λ x. 20; lower = λ x k. Written (pos 0); size = λ x k. Written (pos 0); temporary = λ k. 20 };
    facts = other_facts;
    is_number = λ k. false;
    kind = λ n k. None;
    library = record { own = 3; has = λ z. false; constant = λ z. 0; list = λ n. 20; text = λ n. 20 };
  };
  place = λ n. n;
  stage = λ n. None;
  function = record { name = codes "h_"; result = result.Integer; parameters = parameter.Integers ∷ []; frame = 7; fresh = unset_values (ToPointer ToNumber) 1 ∷ unset 4 ∷ []; code = other_code; own = 3 };
  number = 2;
}

abbrev pub its_costs : List ℕ
its_costs = 1 ∷ 1 ∷ 1 ∷ []
