-- A function whose unit has an integer that is 2, and whose first temporary holds 5: what is known of it, and how the values of expressions and
-- the targets of assignments are written.
use Rattle.std.specs.Prelude.{ℕ, zero, suc, pos, negsuc, true, false, [], ◌∷◌, Some, None, bytes_eq, if◌then◌else◌}
use Rattle.c_emit.specs.f_tree.declared.names.Basic.TheVariants.{Integer}
use Rattle.c_emit.specs.f_tree.declared.names.Class.TheVariants as class
use Rattle.c_emit.specs.f_tree.Values.{IsInt}
use Rattle.c_emit.specs.f_tree.Terms.{Add, IsLess, Negate, Remainder, Power, Val, Fetch, At}
use Rattle.c_emit.specs.f_tree.Facts.{MainProgram, Attribute, Facts, Frame}
use Rattle.c_emit.specs.l_core.Pures.{Pure, Constant, Temporary, Load, Name, ElementOf, Prefixed, Operated, Applied, NoPure, AndPure, Temporaries}
use Rattle.c_emit.specs.l_core.Steps.{Step, Compute}
use Rattle.c_emit.specs.c_tree.Access.{ToNumber, ToPointer}
use Rattle.c_emit.specs.c_tree.declared.expression.BinaryOp.TheVariants as op
use Rattle.c_emit.specs.c_tree.declared.expression.UnaryOp.TheVariants as prefix
use Rattle.c_emit.specs.c_tree.Terms as c
use Rattle.c_emit.specs.c_tree.Terms.{Term}
use Rattle.c_emit.specs.c_tree.Flat.{Flat, Invoke, Kept, Direct}
use Rattle.c_emit.specs.c_image.Addresses.{Address, Alone, Inside}
use Rattle.c_emit.specs.c_image.Elements.{Quantity, Written, Saved}
use Rattle.c_emit.specs.Numbers.{Writing}

abbrev pub an_integer : Attribute
an_integer = record { basic = Integer; class = class.Stored; width = Some 4; dimensions = []; bounds = []; constant = None; expansion = None }

-- a main program of which each name stands in the first sequence
abbrev pub one_integer : Facts
one_integer = record {
  program = record {
    kind = MainProgram;
    entries = record { name = []; formals = []; start = 0 } ∷ [];
    lines = [];
    attribute = λ x. an_integer;
    formats = [];
    blocks = [];
    ties = [];
    images = [];
    references = [];
    stored = [];
    onetrip = false;
  };
  home = λ x. Some (record { sequence = 0; first = 0 });
}

abbrev pub its_frame : Frame
its_frame = record { called = record { name = []; formals = []; start = 0 }; bound = λ x. None; lengths = λ x. None; alternates = []; dimensions = λ x. None; result = None; base = 0 }

abbrev pub holds_five : Temporaries
holds_five zero = Some (IsInt (pos 5))
holds_five (suc k) = None

-- by addresses, and by the bounds of arrays
abbrev pub writing_by : Address → (ℕ → Quantity) → (ℕ → Quantity) → Writing
writing_by address lower size = record {
  naming = record { address = λ x. address; length = λ x. 9; lower = λ x k. lower k; size = λ x k. size k; temporary = λ k. 2 };
  facts = one_integer;
  is_number = λ k. true;
  kind = λ n k. None;
  library = record { own = 1; has = λ z. false; constant = λ z. 0; list = λ n. 0; text = λ n. 0 };
}

abbrev pub its_writing : Writing
its_writing = writing_by (Alone 0) (λ k. Written (pos 0)) (λ k. Written (pos 0))

abbrev pub a_name : Pure
a_name = Name (73 ∷ [])

-- I + 5, where 5 is kept
abbrev pub a_sum : Pure
a_sum = Operated Add (Load a_name) (Temporary 0)

abbrev pub its_term : Term
its_term = c.Between op.Add (c.Variable 0 ToNumber) (c.Variable 2 ToNumber)

-- an element of an array of two dimensions, (1:10, -1:n), in a block behind 8 bytes: A(I, 3)
abbrev pub lower_bounds : ℕ → Quantity
lower_bounds zero = Written (pos 1)
lower_bounds (suc k) = Saved 7

abbrev pub sizes : ℕ → Quantity
sizes k = Written (pos 10)

abbrev pub an_array : Attribute
an_array = record an_integer { dimensions = record { lower = Val (IsInt (pos 1)); upper = Some (Val (IsInt (pos 10))) } ∷ record { lower = Val (IsInt (negsuc 0)); upper = Some (Fetch (At (78 ∷ []))) } ∷ [] }

abbrev pub array_writing : Writing
array_writing = record (writing_by (Inside 4 8) lower_bounds sizes) {
  facts = record one_integer { program = record one_integer.program { attribute = λ x. if bytes_eq x (65 ∷ []) then an_array else an_integer } };
}

abbrev pub an_element : Pure
an_element = ElementOf (65 ∷ []) (AndPure (Load a_name) (AndPure (Constant (IsInt (pos 3))) NoPure))

-- (3 - low) * 10 + (I - 1), and the 2 numbers that stand before the array; I is an element of the object without one, by its own place there
abbrev pub its_place : Term
its_place =
    c.Element (c.Array 4 ToNumber)
    (c.Between op.Add
    (c.Between op.Add (c.Between op.Multiply (c.Between op.Subtract (c.Constant (pos 3)) (c.Variable 7 ToNumber)) (c.Constant (pos 10)))
    (c.Between op.Subtract (c.Element (c.Array 4 ToNumber) (c.Constant (pos 2))) (c.Constant (pos 1))))
    (c.Constant (pos 2)))

-- MOD(-I, 7) .LT. I, of a dummy
abbrev pub a_relation : Pure
a_relation = Operated IsLess (Applied Remainder (AndPure (Prefixed Negate (Load a_name)) (AndPure (Constant (IsInt (pos 7))) NoPure))) (Load a_name)

abbrev pub its_test : Term
its_test =
    let dummy = c.Prefixed prefix.Deref (c.Variable 6 (ToPointer ToNumber)) in
    c.Between op.Less (c.Between op.Remainder (c.Prefixed prefix.Minus dummy) (c.Constant (pos 7))) dummy

-- I ** 5, where 5 is kept: the power goes into the same temporary
abbrev pub a_power : Step
a_power = Compute 0 Power (AndPure (Load a_name) (AndPure (Temporary 0) NoPure))

abbrev pub its_call : Flat
its_call = Invoke (Kept (c.Variable 2 ToNumber)) (Direct 5) (c.Prefixed prefix.Address (c.Variable 0 ToNumber) ∷ c.Prefixed prefix.Address (c.Variable 2 ToNumber) ∷ [])
