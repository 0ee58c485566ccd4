-- A main program with a DO loop and a PRINT, the text that it is lowered to, and its C file:
--     K = 0; DO 10 I = 1, 3; 10 K = K + I; PRINT *, K; END
use Rattle.std.specs.Prelude.{ℕ, zero, suc, nat_eq, ℤ, pos, false, ◌||◌, List, [], ◌∷◌, Some, None, option_map, codes, bytes_eq, slice_get, if◌then◌else◌, Option}
use Rattle.lowering_laws.specs.f_tree.Values.{IsInt}
use Rattle.lowering_laws.specs.f_tree.Terms.{Add, IsLessOrEqual, Val, At, Between, NoMore, More}
use Rattle.std.specs.Ordering.{int_eq}
use Rattle.lowering_laws.specs.f_tree.Facts.{Output, Listed, Item, Done, Before, MainProgram, ToSet, ToLoop, ToBegin, ToEnd, On, Plain, Line, Facts, ProgramUnit}
use Rattle.lowering_laws.specs.f_tree.Setting.{Setting, unit_home}
use Rattle.lowering_laws.specs.f_tree.Places.{place_of_label}
use Rattle.lowering_laws.specs.l_core.Pures.{Constant, Load, Operated, NoPure, AndPure}
use Rattle.lowering_laws.specs.l_core.Steps.{Starts, Takes, Finishes, Text, Step, Put, Unless, Again, Back, Acts}
use Rattle.lowering_laws.specs.lowering.Units.{start_of, lines_marks}
use Rattle.lowered_rows.specs.Examples.{letter, variable, an_integer, line, name, printing}
use Rattle.emitted_texts.specs.c_tree.declared.types.NumberType.TheVariants as number_type
use Rattle.emitted_texts.specs.c_tree.declared.types.ResultType.TheVariants as result
use Rattle.emitted_texts.specs.c_tree.declared.expression.BinaryOp.TheVariants as op
use Rattle.emitted_texts.specs.c_tree.declared.types.CastType.TheVariants as to
use Rattle.emitted_texts.specs.c_tree.declared.types.ListType.TheVariants as list_type
use Rattle.emitted_texts.specs.c_tree.declared.types.ArgumentType.TheVariants as argument
use Rattle.emitted_texts.specs.c_tree.declared.types.ParameterType.TheVariants as parameter
use Rattle.emitted_texts.specs.c_tree.declared.declaration.CField.TheVariants as field
use Rattle.emitted_texts.specs.c_tree.declared.expression.UnaryOp.TheVariants as prefix
use Rattle.emitted_texts.specs.c_tree.declared.expression.CExpr.{CExpr}
use Rattle.emitted_texts.specs.c_tree.declared.statement.CStmt.{CStmt}
use Rattle.emitted_texts.specs.c_tree.declared.expression.CExpr.TheVariants as expr
use Rattle.emitted_texts.specs.c_tree.declared.statement.CNext.TheVariants as next
use Rattle.emitted_texts.specs.c_tree.declared.statement.CStmt.TheVariants as stmt
use Rattle.emitted_texts.specs.c_tree.declared.declaration.CLocal.TheVariants as local
use Rattle.emitted_texts.specs.c_tree.declared.file.CFile.{CFile}
use Rattle.emitted_texts.specs.c_tree.declared.file.CFunction.{CFunction}
use Rattle.emitted_texts.specs.c_tree.Access.{ToNumber, ToList}
use Rattle.emitted_texts.specs.c_tree.Objects.{Object}
use Rattle.emitted_texts.specs.c_tree.Terms as c
use Rattle.emitted_texts.specs.c_tree.Flat.{Flat, Assign, Branch, Jump, Invoke, Return, Ignored, Direct}
use Rattle.emitted_texts.specs.c_image.Held.{number_object}
use Rattle.emitted_texts.specs.c_emit.Calls.{address_of}
use Rattle.emitted_texts.specs.output_laws.ListedOutputs.{list_object}
use Rattle.emitted_texts.specs.c_image.Addresses.{Alone}
use Rattle.emitted_texts.specs.c_image.Elements.{Written}
use Rattle.emitted_texts.specs.SecondLayer.{Surroundings, Emission}
use Rattle.bridge.specs.Bridge.{Translation}

-- ## The program

abbrev pub its_lines : List Line
its_lines =
    line None Plain (On ToSet (More (Val (IsInt (pos 0))) (More (At (letter 107)) NoMore)))
    ∷ line None Plain (On (ToLoop (Some 10)) (More (At (letter 105)) (More (Val (IsInt (pos 1))) (More (Val (IsInt (pos 3))) (More (Val (IsInt (pos 1))) NoMore)))))
    ∷ line (Some 10) Plain (On ToSet (More (Between Add (variable 107) (variable 105)) (More (At (letter 107)) NoMore)))
    ∷ line None Plain (On (ToBegin Output Listed printing (Before (Item (variable 107)) Done)) (More (Val (IsInt (pos 6))) NoMore))
    ∷ line None Plain (On ToEnd NoMore)
    ∷ []

abbrev pub its_unit : ProgramUnit
its_unit = record {
  kind = MainProgram;
  entries = record { name = []; formals = []; start = 0 } ∷ [];
  lines = its_lines;
  attribute = λ x. an_integer;
  formats = [];
  blocks = [];
  ties = [];
  images = [];
  references = [];
  stored = record { name = letter 107; size = 4 } ∷ record { name = letter 105; size = 4 } ∷ [];
  onetrip = false;
}

abbrev pub its_units : List ProgramUnit
its_units = its_unit ∷ []

abbrev pub its_setting : Setting
its_setting = record { homes = (record { sequence = 0; first = 0 } ∷ record { sequence = 1; first = 0 } ∷ []) ∷ []; sizes = 4 ∷ 4 ∷ [] }

abbrev pub its_facts : Facts
its_facts = record { program = its_unit; home = unit_home its_setting 0 its_unit }

-- ## Its lowered text

abbrev pub its_steps : List Step
its_steps =
    Put (name 107) (Constant (IsInt (pos 0)))
    ∷ Put (name 105) (Constant (IsInt (pos 1)))
    ∷ Unless (Operated IsLessOrEqual (Load (name 105)) (Constant (IsInt (pos 3)))) 3
    ∷ Put (name 107) (Operated Add (Load (name 107)) (Load (name 105)))
    ∷ Put (name 105) (Operated Add (Load (name 105)) (Constant (IsInt (pos 1))))
    ∷ Again 3
    ∷ Acts (Starts Output Listed printing) (AndPure (Constant (IsInt (pos 6))) NoPure) 2
    ∷ Acts Takes (AndPure (Load (name 107)) NoPure) 1
    ∷ Acts Finishes NoPure 0
    ∷ Back
    ∷ []

abbrev pub its_text : Text
its_text = record {
  facts = its_facts;
  steps = its_steps;
  begins = start_of its_unit;
  position = λ label. option_map (start_of its_unit) (place_of_label its_unit label);
  marks = lines_marks its_unit 0 its_lines;
}

abbrev pub its_costs : List ℕ
its_costs = 1 ∷ 1 ∷ 1 ∷ 1 ∷ 1 ∷ 1 ∷ 1 ∷ 1 ∷ 1 ∷ 1 ∷ []

-- ## Its C file: with the constants c__1 and c__3, static k and i__, and the control list io___1,
-- k = 0; for (i__ = 1; i__ <= 3; ++i__) { k = k + i__; } s_wsle(&io___1); do_lio(&c__3, &c__1, (char *)&k, (ftnlen)sizeof(integer)); e_wsle(); return 0;

abbrev pub address : List ℕ → CExpr
address name = expr.Unary prefix.Address (expr.Name name)

abbrev pub called : List ℕ → List CExpr → CStmt
called name arguments = stmt.Call (record { through = false; name = name; arguments = arguments })

abbrev pub its_function : CFunction
its_function = record {
  result = result.Int;
  name = codes "MAIN__";
  params = [];
  locals =
      local.Extern result.Integer (codes "s_wsle") (argument.List list_type.Transfer ∷ [])
      ∷ local.Extern result.Integer (codes "do_lio")
      (argument.Parameter parameter.Integers ∷ argument.Parameter parameter.Integers ∷ argument.Parameter parameter.Chars ∷ argument.Parameter parameter.Length ∷ [])
      ∷ local.Extern result.Integer (codes "e_wsle") []
      ∷ local.StaticNumber number_type.Integer (codes "k") None
      ∷ local.StaticNumber number_type.Integer (codes "i__") None
      ∷ local.StaticList list_type.Transfer (codes "io___1") (field.Number (pos 0) ∷ field.Number (pos 6) ∷ field.Number (pos 0) ∷ field.Number (pos 0) ∷ field.Number (pos 0) ∷ [])
      ∷ [];
  body =
      stmt.Set (expr.Name (codes "k")) (expr.Number (pos 0))
      ∷ stmt.For (expr.Name (codes "i__")) (expr.Number (pos 1)) (expr.Binary op.LessOrEqual (expr.Name (codes "i__")) (expr.Number (pos 3))) (next.Up (expr.Name (codes "i__")))
      (stmt.Set (expr.Name (codes "k")) (expr.Binary op.Add (expr.Name (codes "k")) (expr.Name (codes "i__"))) ∷ [])
      ∷ called (codes "s_wsle") (address (codes "io___1") ∷ [])
      ∷ called (codes "do_lio") (address (codes "c__3") ∷ address (codes "c__1") ∷ expr.Cast to.Chars (address (codes "k")) ∷ expr.Cast to.Length expr.SizeInt ∷ [])
      ∷ called (codes "e_wsle") []
      ∷ stmt.Return (Some (expr.Number (pos 0)))
      ∷ [];
}

abbrev pub its_files : List CFile
its_files = record {
  objects = [];
  constants = record { name = codes "c__1"; value = pos 1 } ∷ record { name = codes "c__3"; value = pos 3 } ∷ [];
  functions = its_function ∷ [];
} ∷ []

-- the objects are c__1, c__3, k, i__ and io___1; s_wsle, do_lio and e_wsle are the functions 15, 22 and 25
abbrev pub its_code : List Flat
its_code =
    Assign (c.Variable 2 ToNumber) (c.Constant (pos 0))
    ∷ Assign (c.Variable 3 ToNumber) (c.Constant (pos 1))
    ∷ Branch (c.Between op.LessOrEqual (c.Variable 3 ToNumber) (c.Constant (pos 3))) 3 6
    ∷ Assign (c.Variable 2 ToNumber) (c.Between op.Add (c.Variable 2 ToNumber) (c.Variable 3 ToNumber))
    ∷ Assign (c.Variable 3 ToNumber) (c.Between op.Add (c.Variable 3 ToNumber) (c.Constant (pos 1)))
    ∷ Jump 2
    ∷ Invoke Ignored (Direct 15) (address_of (c.Variable 4 (ToList list_type.Transfer)) ∷ [])
    ∷ Invoke Ignored (Direct 22)
    (address_of (c.Variable 1 ToNumber) ∷ address_of (c.Variable 0 ToNumber) ∷ c.Cast to.Chars (address_of (c.Variable 2 ToNumber)) ∷ c.Cast to.Length c.Size ∷ [])
    ∷ Invoke Ignored (Direct 25) []
    ∷ Return (Some (c.Constant (pos 0)))
    ∷ []

-- ## How the one is the translation of the other

-- what the constants and the control list hold
abbrev pub held_first : ℕ → Option Object
held_first zero = Some (number_object (pos 1))
held_first (suc zero) = Some (number_object (pos 3))
held_first (suc (suc zero)) = None
held_first (suc (suc (suc zero))) = None
held_first (suc (suc (suc (suc zero)))) = Some (list_object (pos 6))
held_first (suc (suc (suc (suc (suc k))))) = None

abbrev pub its_surroundings : Surroundings
its_surroundings = record {
  objects = 5;
  rooms = λ i. record { first = 5; count = 0 };
  numbers = λ called. Some 0;
  first = record { homes = slice_get (2 ∷ 3 ∷ []); size = λ n. 4; fixed = λ n. false; height = 2; frozen = held_first };
}

-- the output is on before its item and before its end
abbrev pub unit_at : ℕ → Option ℤ
unit_at n = if nat_eq n 7 || nat_eq n 8 then Some (pos 6) else None

abbrev pub emission_by : ℕ → Emission
emission_by number = record {
  writing = record {
    naming = record { address = λ x. if bytes_eq (letter 107) x then Alone 2 else Alone 3; length = λ x. 9; lower = λ x k. Written (pos 0); size = λ x k. Written (pos 0); temporary = λ k. 9 };
    facts = its_facts;
    is_number = λ k. false;
    kind = λ n k. None;
    library = record { own = 1; has = λ z. int_eq z (pos 1) || int_eq z (pos 3); constant = λ z. if int_eq z (pos 1) then 0 else 1; list = λ n. 4; text = λ n. 9 };
  };
  place = λ n. n;
  stage = unit_at;
  function = record { name = codes "MAIN__"; result = result.Int; parameters = []; frame = 5; fresh = []; code = its_code; own = 1 };
  number = number;
}

abbrev pub its_translation : Translation
its_translation = record { surroundings = its_surroundings; texts = λ i. its_text; costs = λ i. its_costs; emissions = emission_by; owner = λ k. k }
