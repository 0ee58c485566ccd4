-- A main program that puts 2 into an integer and prints it: its lowered text, and its C function among the objects of its program, which are two
-- constants, the integer, the control list, and a temporary.
use Rattle.std.specs.Prelude.{ℕ, zero, suc, ◌+◌, nat_eq, ℤ, pos, false, ◌||◌, List, [], ◌∷◌, Option, Some, None, codes, slice_get, if◌then◌else◌}
use Rattle.std.specs.Ordering.{int_eq}
use Rattle.output_laws.specs.f_tree.Values.{IsInt}
use Rattle.output_laws.specs.f_tree.Facts.{Output, Listed}
use Rattle.c_emit_laws.specs.l_core.Pures.{Constant, Load, Name, NoPure, AndPure}
use Rattle.c_emit_laws.specs.l_core.Steps.{Starts, Takes, Finishes, Step, Put, Back, Acts, Text}
use Rattle.output_laws.specs.c_tree.declared.types.CastType.TheVariants as to
use Rattle.output_laws.specs.c_tree.declared.types.ListType.TheVariants as list_type
use Rattle.output_laws.specs.c_tree.declared.types.ResultType.TheVariants as result
use Rattle.output_laws.specs.c_tree.Access.{ToNumber, ToList}
use Rattle.output_laws.specs.c_tree.Objects.{Object}
use Rattle.output_laws.specs.c_tree.Declarations.{unset}
use Rattle.output_laws.specs.c_tree.Terms as c
use Rattle.output_laws.specs.c_tree.Flat.{Flat, Assign, Invoke, Ignored, Direct, Return}
use Rattle.c_emit_laws.specs.c_image.Held.{number_object}
use Rattle.c_emit_laws.specs.c_image.Addresses.{Alone}
use Rattle.c_emit_laws.specs.c_image.Elements.{Written}
use Rattle.c_emit_laws.specs.c_emit.Calls.{address_of}
use Rattle.c_emit_laws.specs.Example.{one_integer}
use Rattle.output_laws.specs.ListedOutputs.{list_object, unit_alone}
use Rattle.emitted_texts.specs.SecondLayer.{Surroundings, Emission}

-- I = 2; PRINT *, I; END
abbrev pub its_steps : List Step
its_steps =
    Put (Name (73 ∷ [])) (Constant (IsInt (pos 2)))
    ∷ Acts (Starts Output Listed unit_alone) (AndPure (Constant (IsInt (pos 6))) NoPure) 2
    ∷ Acts Takes (AndPure (Load (Name (73 ∷ []))) NoPure) 1
    ∷ Acts Finishes NoPure 0
    ∷ Back
    ∷ []

abbrev pub its_text : Text
its_text = record { facts = one_integer; steps = its_steps; begins = λ i. i; position = λ label. None; marks = [] }

abbrev pub its_costs : List ℕ
its_costs = 1 ∷ 1 ∷ 1 ∷ 1 ∷ 1 ∷ []

-- s_wsle, do_lio and e_wsle are the functions 15, 22 and 25 of a program with one function of its own
abbrev pub its_code : List Flat
its_code =
    Assign (c.Variable 2 ToNumber) (c.Constant (pos 2))
    ∷ Invoke Ignored (Direct 15) (address_of (c.Variable 3 (ToList list_type.Transfer)) ∷ [])
    ∷ Invoke Ignored (Direct 22)
    (address_of (c.Variable 1 ToNumber) ∷ address_of (c.Variable 0 ToNumber) ∷ c.Cast to.Chars (address_of (c.Variable 2 ToNumber)) ∷ c.Cast to.Length c.Size ∷ [])
    ∷ Invoke Ignored (Direct 25) []
    ∷ Return (Some (c.Constant (pos 0)))
    ∷ []

abbrev pub held_first : ℕ → Option Object
held_first zero = Some (number_object (pos 1))
held_first (suc zero) = Some (number_object (pos 3))
held_first (suc (suc zero)) = None
held_first (suc (suc (suc zero))) = Some (list_object (pos 6))
held_first (suc (suc (suc (suc k)))) = None

abbrev pub its_surroundings : Surroundings
its_surroundings = record {
  objects = 5;
  rooms = λ i. record { first = 4; count = 1 };
  numbers = λ name. Some 0;
  first = record { homes = slice_get (2 ∷ []); size = λ n. 4; fixed = λ n. false; height = 1; frozen = held_first };
}

abbrev pub unit_at : ℕ → Option ℤ
unit_at (suc (suc zero)) = Some (pos 6)
unit_at (suc (suc (suc zero))) = Some (pos 6)
unit_at n = None

abbrev pub its_emission : Emission
its_emission = record {
  writing = record {
    naming = record { address = λ x. Alone 2; length = λ x. 9; lower = λ x k. Written (pos 0); size = λ x k. Written (pos 0); temporary = λ k. 4 + k };
    facts = one_integer;
    is_number = λ k. nat_eq k 0;
    kind = λ n k. None;
    library = record { own = 1; has = λ z. int_eq z (pos 1) || int_eq z (pos 3); constant = λ z. if int_eq z (pos 1) then 0 else 1; list = λ n. 3; text = λ n. 9 };
  };
  place = λ n. n;
  stage = unit_at;
  function = record { name = codes "MAIN__"; result = result.Int; parameters = []; frame = 4; fresh = unset 4 ∷ []; code = its_code; own = 1 };
  number = 0;
}
