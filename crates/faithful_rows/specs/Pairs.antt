-- The worked pairs: small sets of files, one beside the other FORTRAN trees and the C trees of their texts.
use Rattle.std.specs.Prelude.{ℕ, pos, true, List, [], ◌∷◌, Some, None, codes}
use Rattle.faithful.specs.f_tree.declared.expressions.Expr as expr
use Rattle.faithful.specs.f_tree.declared.expressions.BinaryOp.TheVariants as op
use Rattle.faithful.specs.f_tree.declared.statements.Body as body
use Rattle.faithful.specs.f_tree.declared.statements.ListItem as item
use Rattle.faithful.specs.f_tree.declared.statements.ControlValue.TheVariants as value
use Rattle.faithful.specs.f_tree.declared.statements.ControlWord.TheVariants as word
use Rattle.faithful.specs.f_tree.declared.statements.Direction.TheVariants as way
use Rattle.faithful.specs.f_tree.declared.statements.UnitKind.TheVariants as kind
use Rattle.faithful.specs.f_tree.declared.statements.DummyArgument.TheVariants as dummy
use Rattle.faithful.specs.f_tree.declared.units.FileSet.{FileSet}
use Rattle.faithful.specs.f_tree.Setting.{Setting}
use Rattle.faithful.specs.f_tree.Runs.{standard_units}
use Rattle.faithful.specs.run_state.Units.{Units}
use Rattle.faithful.specs.c_tree.declared.types.NumberType.TheVariants as number
use Rattle.faithful.specs.c_tree.declared.types.ResultType.TheVariants as result
use Rattle.faithful.specs.c_tree.declared.types.ParameterType.TheVariants as parameter
use Rattle.faithful.specs.c_tree.declared.types.ArgumentType.TheVariants as argument
use Rattle.faithful.specs.c_tree.declared.types.ListType.TheVariants as list
use Rattle.faithful.specs.c_tree.declared.types.CastType.TheVariants as to
use Rattle.faithful.specs.c_tree.declared.types.FunctionType.TheVariants as of
use Rattle.faithful.specs.c_tree.declared.expression.BinaryOp.TheVariants as c_op
use Rattle.faithful.specs.c_tree.declared.expression.CExpr.{CExpr}
use Rattle.faithful.specs.c_tree.declared.expression.CExpr.TheVariants as c
use Rattle.faithful.specs.c_tree.declared.statement.CStmt.TheVariants as stmt
use Rattle.faithful.specs.c_tree.declared.declaration.CLocal.{CLocal}
use Rattle.faithful.specs.c_tree.declared.declaration.CLocal.TheVariants as local
use Rattle.faithful.specs.c_tree.declared.declaration.CField.TheVariants as given
use Rattle.faithful.specs.c_tree.declared.file.CObject.TheVariants as object
use Rattle.faithful.specs.c_tree.declared.file.CFile.{CFile}
use Rattle.faithful_rows.specs.PairWords.{on_card, num, integers, logicals, characters, any_characters, alone, array_of, main_unit, unit_of, subroutine, function, one_file, c_name, c_num, address_of, pointed, c_call, does_call, returns_zero, extern, static_integer, static_array, param, c_function, constant}

-- files with their setting, their texts, and the external units at the start
pub record Pair : Type 0 where
  pub files : FileSet
  pub setting : Setting
  pub texts : List CFile
  pub units : Units

-- `DIMENSION IA(3)`, `IA(2)=5`, `CALL S(IA(2))`, `END`; `SUBROUTINE S(N)`, `N=N+1`, `END`
abbrev pub element_passed : Pair
element_passed = record {
  files = one_file (
      main_unit (
      on_card 1 (body.Declare integers (array_of (codes "ia") 3 ∷ [])) ∷
      on_card 2 (body.Assign (expr.Apply (codes "ia") (num 2 ∷ [])) (num 5)) ∷
      on_card 3 (body.Call (codes "s") (expr.Apply (codes "ia") (num 2 ∷ []) ∷ [])) ∷
      on_card 4 body.End ∷ []) ∷
      subroutine (codes "s") (codes "n" ∷ []) (
      on_card 6 (body.Assign (expr.Name (codes "n")) (expr.Binary op.Plus (expr.Name (codes "n")) (num 1))) ∷
      on_card 7 body.End ∷ []) ∷ []);
  setting = record { homes = (record { sequence = 0; first = 0 } ∷ []) ∷ [] ∷ []; sizes = 12 ∷ [] };
  texts = record {
    objects = [];
    constants = [];
    functions =
        c_function result.Int (codes "MAIN__") [] (extern result.Int (codes "s_") (parameter.Integers ∷ []) ∷ static_array (codes "ia") 3 ∷ [])
        (stmt.Set (c.Index (c_name (codes "ia")) (c_num 1)) (c_num 5) ∷ does_call (codes "s_") (address_of (c.Index (c_name (codes "ia")) (c_num 1)) ∷ []) ∷ returns_zero ∷ []) ∷
        c_function result.Int (codes "s_") (param parameter.Integers (codes "n") ∷ []) []
        (stmt.Set (pointed (codes "n")) (c.Binary c_op.Add (pointed (codes "n")) (c_num 1)) ∷ returns_zero ∷ []) ∷ [];
  } ∷ [];
  units = standard_units [];
}

abbrev pub length_of : ℕ → CExpr
length_of n = c.Cast to.Length (c_num n)

abbrev pub copies : CLocal
copies = extern result.Void (codes "s_copy") (parameter.Chars ∷ parameter.Chars ∷ parameter.Length ∷ parameter.Length ∷ [])

-- a function of each type: `I=NF(1)`, `L=LF(2)`, `C=CF(3)`, with `CHARACTER*3 C,CF` and `LOGICAL L,LF` before; `NF=K+6`, `LF=.TRUE.`, `CF='ab'`
abbrev pub results_given : Pair
results_given = record {
  files = one_file (
      main_unit (
      on_card 1 (body.Declare (characters 3) (alone (codes "c") ∷ alone (codes "cf") ∷ [])) ∷
      on_card 2 (body.Declare logicals (alone (codes "l") ∷ alone (codes "lf") ∷ [])) ∷
      on_card 3 (body.Assign (expr.Name (codes "i")) (expr.Apply (codes "nf") (num 1 ∷ []))) ∷
      on_card 4 (body.Assign (expr.Name (codes "l")) (expr.Apply (codes "lf") (num 2 ∷ []))) ∷
      on_card 5 (body.Assign (expr.Name (codes "c")) (expr.Apply (codes "cf") (num 3 ∷ []))) ∷
      on_card 6 body.End ∷ []) ∷
      function integers (codes "nf") (codes "k" ∷ []) (
      on_card 8 (body.Assign (expr.Name (codes "nf")) (expr.Binary op.Plus (expr.Name (codes "k")) (num 6))) ∷ on_card 9 body.End ∷ []) ∷
      function logicals (codes "lf") (codes "k" ∷ []) (
      on_card 11 (body.Assign (expr.Name (codes "lf")) (expr.Logical true)) ∷ on_card 12 body.End ∷ []) ∷
      function (characters 3) (codes "cf") (codes "k" ∷ []) (
      on_card 14 (body.Assign (expr.Name (codes "cf")) (expr.Text (codes "ab"))) ∷ on_card 15 body.End ∷ []) ∷ []);
  setting = record {
    homes = (record { sequence = 0; first = 0 } ∷ record { sequence = 1; first = 0 } ∷ record { sequence = 2; first = 0 } ∷ []) ∷ [] ∷ [] ∷ [] ∷ [];
    sizes = 3 ∷ 4 ∷ 4 ∷ [];
  };
  texts = record {
    objects = [];
    constants = constant (codes "c__1") 1 ∷ constant (codes "c__2") 2 ∷ constant (codes "c__3") 3 ∷ [];
    functions =
        c_function result.Int (codes "MAIN__") [] (
        local.Number number.Integer (codes "i__1") ∷ local.Chars (codes "ch__1") 3 ∷ copies ∷
        extern result.Integer (codes "nf_") (parameter.Integers ∷ []) ∷
        extern result.Logical (codes "lf_") (parameter.Integers ∷ []) ∷
        extern result.Void (codes "cf_") (parameter.Chars ∷ parameter.Length ∷ parameter.Integers ∷ []) ∷
        local.StaticChars (codes "c__") (Some 3) None ∷ local.StaticNumber number.Logical (codes "l") None ∷ static_integer (codes "i__") ∷ []) (
        stmt.SetCall (c_name (codes "i__1")) (c_call (codes "nf_") (address_of (c_name (codes "c__1")) ∷ [])) ∷
        stmt.Set (c_name (codes "i__")) (c_name (codes "i__1")) ∷
        stmt.SetCall (c_name (codes "i__1")) (c_call (codes "lf_") (address_of (c_name (codes "c__2")) ∷ [])) ∷
        stmt.Set (c_name (codes "l")) (c_name (codes "i__1")) ∷
        does_call (codes "cf_") (c_name (codes "ch__1") ∷ length_of 3 ∷ address_of (c_name (codes "c__3")) ∷ []) ∷
        does_call (codes "s_copy") (c_name (codes "c__") ∷ c_name (codes "ch__1") ∷ length_of 3 ∷ length_of 3 ∷ []) ∷ returns_zero ∷ []) ∷
        c_function result.Integer (codes "nf_") (param parameter.Integers (codes "k") ∷ []) (local.Number number.Integer (codes "ret_val") ∷ [])
        (stmt.Set (c_name (codes "ret_val")) (c.Binary c_op.Add (pointed (codes "k")) (c_num 6)) ∷ stmt.Return (Some (c_name (codes "ret_val"))) ∷ []) ∷
        c_function result.Logical (codes "lf_") (param parameter.Integers (codes "k") ∷ []) (local.Number number.Logical (codes "ret_val") ∷ [])
        (stmt.Set (c_name (codes "ret_val")) (c_name (codes "TRUE_")) ∷ stmt.Return (Some (c_name (codes "ret_val"))) ∷ []) ∷
        c_function result.Void (codes "cf_") (param parameter.Chars (codes "ret_val") ∷ param parameter.Length (codes "ret_val_len") ∷ param parameter.Integers (codes "k") ∷ []) (copies ∷ [])
        (does_call (codes "s_copy") (c_name (codes "ret_val") ∷ c.Str (codes "ab") ∷ c_name (codes "ret_val_len") ∷ length_of 2 ∷ []) ∷ stmt.Return None ∷ []) ∷ [];
  } ∷ [];
  units = standard_units [];
}

-- a common block with its DATA, an EQUIVALENCE class, and a name of BLOCK DATA that no block holds: `COMMON /B/ J`, `INTEGER A(2)`,
-- `EQUIVALENCE (A(2),K)`, `J=7`, `K=3`, `END`; `BLOCK DATA`, `COMMON /B/ J`, `INTEGER M`, `DATA J/4/`, `END`
abbrev pub storage_shared : Pair
storage_shared = record {
  files = one_file (
      main_unit (
      on_card 1 (body.Common (record { block = Some (codes "b"); items = record { name = codes "j"; dimensions = [] } ∷ [] } ∷ [])) ∷
      on_card 2 (body.Declare integers (array_of (codes "a") 2 ∷ [])) ∷
      on_card 3 (body.Equivalence (record { places = expr.Apply (codes "a") (num 2 ∷ []) ∷ expr.Name (codes "k") ∷ [] } ∷ [])) ∷
      on_card 4 (body.Assign (expr.Name (codes "j")) (num 7)) ∷
      on_card 5 (body.Assign (expr.Name (codes "k")) (num 3)) ∷
      on_card 6 body.End ∷ []) ∷
      unit_of kind.BlockData None [] (
      on_card 8 (body.Common (record { block = Some (codes "b"); items = record { name = codes "j"; dimensions = [] } ∷ [] } ∷ [])) ∷
      on_card 9 (body.Declare integers (alone (codes "m") ∷ [])) ∷
      on_card 10 (body.Init (record { places = item.Item (expr.Name (codes "j")) ∷ []; values = record { count = None; value = num 4 } ∷ [] } ∷ [])) ∷
      on_card 11 body.End ∷ []) ∷ []);
  setting = record {
    homes =
        (record { sequence = 0; first = 0 } ∷ record { sequence = 1; first = 0 } ∷ record { sequence = 1; first = 4 } ∷ []) ∷
        (record { sequence = 0; first = 0 } ∷ record { sequence = 2; first = 0 } ∷ []) ∷ [];
    sizes = 4 ∷ 8 ∷ 4 ∷ [];
  };
  texts = record {
    objects = object.Integers (codes "b_") 1 (Some (pos 4 ∷ [])) ∷ [];
    constants = [];
    functions =
        c_function result.Int (codes "MAIN__") [] (static_array (codes "equiv_0") 2 ∷ [])
        (stmt.Set (c.Index (c_name (codes "b_")) (c_num 0)) (c_num 7) ∷ stmt.Set (c.Index (c_name (codes "equiv_0")) (c_num 1)) (c_num 3) ∷ returns_zero ∷ []) ∷ [];
  } ∷ [];
  units = standard_units [];
}

-- a function of the library that ends a transfer, and an item by its address
abbrev pub end_function : List ℕ → CLocal
end_function x = local.Extern result.Integer x []

abbrev pub item_address : List ℕ → CExpr
item_address x = c.Cast to.Chars (address_of (c_name x))

-- `READ *,I,J`, `END`, with the record `7 8` on unit 5
abbrev pub numbers_read : Pair
numbers_read = record {
  files = one_file (
      main_unit (
      on_card 1 (body.Transfer way.Read (record { word = word.Unit; value = value.Star } ∷ record { word = word.Format; value = value.Star } ∷ [])
      (item.Item (expr.Name (codes "i")) ∷ item.Item (expr.Name (codes "j")) ∷ [])) ∷
      on_card 2 body.End ∷ []) ∷ []);
  setting = record { homes = (record { sequence = 0; first = 0 } ∷ record { sequence = 1; first = 0 } ∷ []) ∷ []; sizes = 4 ∷ 4 ∷ [] };
  texts = record {
    objects = [];
    constants = constant (codes "c__1") 1 ∷ constant (codes "c__3") 3 ∷ [];
    functions =
        c_function result.Int (codes "MAIN__") [] (
        local.Extern result.Integer (codes "s_rsle") (argument.List list.Transfer ∷ []) ∷
        extern result.Integer (codes "do_lio") (parameter.Integers ∷ parameter.Integers ∷ parameter.Chars ∷ parameter.Length ∷ []) ∷
        end_function (codes "e_rsle") ∷ static_integer (codes "i__") ∷ static_integer (codes "j") ∷
        local.StaticList list.Transfer (codes "io___1") (given.Number (pos 0) ∷ given.Number (pos 5) ∷ given.Number (pos 0) ∷ given.Number (pos 0) ∷ given.Number (pos 0) ∷ []) ∷ []) (
        does_call (codes "s_rsle") (address_of (c_name (codes "io___1")) ∷ []) ∷
        does_call (codes "do_lio") (address_of (c_name (codes "c__3")) ∷ address_of (c_name (codes "c__1")) ∷ item_address (codes "i__") ∷ length_of 4 ∷ []) ∷
        does_call (codes "do_lio") (address_of (c_name (codes "c__3")) ∷ address_of (c_name (codes "c__1")) ∷ item_address (codes "j") ∷ length_of 4 ∷ []) ∷
        does_call (codes "e_rsle") [] ∷ returns_zero ∷ []) ∷ [];
  } ∷ [];
  units = standard_units (codes "7 8" ∷ []);
}

-- `READ (5,'(I1,I2)') I,J`, `END`, with the record `7 8` on unit 5
abbrev pub columns_read : Pair
columns_read = record {
  files = one_file (
      main_unit (
      on_card 1 (body.Transfer way.Read (record { word = word.Unit; value = value.Value (num 5) } ∷ record { word = word.Format; value = value.Value (expr.Text (codes "(I1,I2)")) } ∷ [])
      (item.Item (expr.Name (codes "i")) ∷ item.Item (expr.Name (codes "j")) ∷ [])) ∷
      on_card 2 body.End ∷ []) ∷ []);
  setting = record { homes = (record { sequence = 0; first = 0 } ∷ record { sequence = 1; first = 0 } ∷ []) ∷ []; sizes = 4 ∷ 4 ∷ [] };
  texts = record {
    objects = [];
    constants = constant (codes "c__1") 1 ∷ [];
    functions =
        c_function result.Int (codes "MAIN__") [] (
        local.Extern result.Integer (codes "s_rsfe") (argument.List list.Transfer ∷ []) ∷
        extern result.Integer (codes "do_fio") (parameter.Integers ∷ parameter.Chars ∷ parameter.Length ∷ []) ∷
        end_function (codes "e_rsfe") ∷ static_integer (codes "i__") ∷ static_integer (codes "j") ∷
        local.StaticList list.Transfer (codes "io___1") (given.Number (pos 0) ∷ given.Number (pos 5) ∷ given.Number (pos 0) ∷ given.Str (codes "(i1, i2)") ∷ given.Number (pos 0) ∷ []) ∷ []) (
        does_call (codes "s_rsfe") (address_of (c_name (codes "io___1")) ∷ []) ∷
        does_call (codes "do_fio") (address_of (c_name (codes "c__1")) ∷ item_address (codes "i__") ∷ length_of 4 ∷ []) ∷
        does_call (codes "do_fio") (address_of (c_name (codes "c__1")) ∷ item_address (codes "j") ∷ length_of 4 ∷ []) ∷
        does_call (codes "e_rsfe") [] ∷ returns_zero ∷ []) ∷ [];
  } ∷ [];
  units = standard_units (codes "7 8" ∷ []);
}

-- `CHARACTER*4 C`, `WRITE (C,'(I2)') 5`, `END`
abbrev pub written_inside : Pair
written_inside = record {
  files = one_file (
      main_unit (
      on_card 1 (body.Declare (characters 4) (alone (codes "c") ∷ [])) ∷
      on_card 2 (body.Transfer way.Write (record { word = word.Unit; value = value.Value (expr.Name (codes "c")) } ∷ record { word = word.Format; value = value.Value (expr.Text (codes "(I2)")) } ∷ [])
      (item.Item (num 5) ∷ [])) ∷
      on_card 3 body.End ∷ []) ∷ []);
  setting = record { homes = (record { sequence = 0; first = 0 } ∷ []) ∷ []; sizes = 4 ∷ [] };
  texts = record {
    objects = [];
    constants = constant (codes "c__1") 1 ∷ [];
    functions =
        c_function result.Int (codes "MAIN__") [] (
        local.Number number.Integer (codes "i__1") ∷
        local.Extern result.Integer (codes "s_wsfi") (argument.List list.Internal ∷ []) ∷
        extern result.Integer (codes "do_fio") (parameter.Integers ∷ parameter.Chars ∷ parameter.Length ∷ []) ∷
        end_function (codes "e_wsfi") ∷ local.StaticChars (codes "c__") (Some 4) None ∷
        local.StaticList list.Internal (codes "io___1")
        (given.Number (pos 0) ∷ given.Name (codes "c__") ∷ given.Number (pos 0) ∷ given.Str (codes "(I2)") ∷ given.Number (pos 4) ∷ given.Number (pos 1) ∷ []) ∷ []) (
        does_call (codes "s_wsfi") (address_of (c_name (codes "io___1")) ∷ []) ∷
        stmt.Set (c_name (codes "i__1")) (c_num 5) ∷
        does_call (codes "do_fio") (address_of (c_name (codes "c__1")) ∷ item_address (codes "i__1") ∷ length_of 4 ∷ []) ∷
        does_call (codes "e_wsfi") [] ∷ returns_zero ∷ []) ∷ [];
  } ∷ [];
  units = standard_units [];
}

-- `CHARACTER*3 C`, `EXTERNAL W`, `C='ab'`, `CALL T(C,W)`, `END`; `SUBROUTINE Q(N)`, `CHARACTER*(*) E`, `N=1`, `RETURN`, `ENTRY T(E,P)`, `CALL P`, `END`;
-- `SUBROUTINE W`, `END`
abbrev pub entry_called : Pair
entry_called = record {
  files = one_file (
      main_unit (
      on_card 1 (body.Declare (characters 3) (alone (codes "c") ∷ [])) ∷
      on_card 2 (body.External (codes "w" ∷ [])) ∷
      on_card 3 (body.Assign (expr.Name (codes "c")) (expr.Text (codes "ab"))) ∷
      on_card 4 (body.Call (codes "t") (expr.Name (codes "c") ∷ expr.Name (codes "w") ∷ [])) ∷
      on_card 5 body.End ∷ []) ∷
      subroutine (codes "q") (codes "n" ∷ []) (
      on_card 7 (body.Declare any_characters (alone (codes "e") ∷ [])) ∷
      on_card 8 (body.Assign (expr.Name (codes "n")) (num 1)) ∷
      on_card 9 (body.Return None) ∷
      on_card 10 (body.Entry (codes "t") (dummy.Named (codes "e") ∷ dummy.Named (codes "p") ∷ [])) ∷
      on_card 11 (body.Call (codes "p") []) ∷
      on_card 12 body.End ∷ []) ∷
      subroutine (codes "w") [] (on_card 14 body.End ∷ []) ∷ []);
  setting = record { homes = (record { sequence = 0; first = 0 } ∷ []) ∷ [] ∷ [] ∷ []; sizes = 3 ∷ [] };
  texts = record {
    objects = [];
    constants = [];
    functions =
        c_function result.Int (codes "MAIN__") [] (
        copies ∷ extern result.Int (codes "t_") (parameter.Chars ∷ parameter.Function of.Subroutine ∷ parameter.Length ∷ []) ∷ extern result.Int (codes "w_") [] ∷
        local.StaticChars (codes "c__") (Some 3) None ∷ []) (
        does_call (codes "s_copy") (c_name (codes "c__") ∷ c.Str (codes "ab") ∷ length_of 3 ∷ length_of 2 ∷ []) ∷
        does_call (codes "t_") (c_name (codes "c__") ∷ c.Cast (to.Function of.Unknown) (c_name (codes "w_")) ∷ length_of 3 ∷ []) ∷ returns_zero ∷ []) ∷
        c_function result.Int (codes "q_0_")
        (param parameter.Int (codes "n__") ∷ param parameter.Integers (codes "n") ∷ param parameter.Chars (codes "e") ∷ param (parameter.Function of.Subroutine) (codes "p") ∷
        param parameter.Length (codes "e_len") ∷ []) [] (
        stmt.Switch (c_name (codes "n__")) (record { number = pos 1; label = codes "L_t" } ∷ []) ∷
        stmt.Set (pointed (codes "n")) (c_num 1) ∷ returns_zero ∷
        stmt.Label (codes "L_t") (stmt.Call (record { through = true; name = codes "p"; arguments = [] })) ∷ returns_zero ∷ []) ∷
        c_function result.Int (codes "q_") (param parameter.Integers (codes "n") ∷ []) []
        (stmt.ReturnCall (c_call (codes "q_0_") (c_num 0 ∷ c_name (codes "n") ∷ c.Cast to.Chars (c_num 0) ∷ c.Cast (to.Function of.Subroutine) (c_num 0) ∷ length_of 0 ∷ [])) ∷ []) ∷
        c_function result.Int (codes "t_") (param parameter.Chars (codes "e") ∷ param (parameter.Function of.Subroutine) (codes "p") ∷ param parameter.Length (codes "e_len") ∷ []) []
        (stmt.ReturnCall (c_call (codes "q_0_") (c_num 1 ∷ c.Cast to.Integers (c_num 0) ∷ c_name (codes "e") ∷ c_name (codes "p") ∷ c_name (codes "e_len") ∷ [])) ∷ []) ∷
        c_function result.Int (codes "w_") [] [] (returns_zero ∷ []) ∷ [];
  } ∷ [];
  units = standard_units [];
}

-- `CHARACTER*3 C`, `C='abc'`, `CALL S(C)`, `END`; `SUBROUTINE S(E)`, `CHARACTER*2 E`, `E='x'`, `END`
abbrev pub shorter_dummy : Pair
shorter_dummy = record {
  files = one_file (
      main_unit (
      on_card 1 (body.Declare (characters 3) (alone (codes "c") ∷ [])) ∷
      on_card 2 (body.Assign (expr.Name (codes "c")) (expr.Text (codes "abc"))) ∷
      on_card 3 (body.Call (codes "s") (expr.Name (codes "c") ∷ [])) ∷
      on_card 4 body.End ∷ []) ∷
      subroutine (codes "s") (codes "e" ∷ []) (
      on_card 6 (body.Declare (characters 2) (alone (codes "e") ∷ [])) ∷
      on_card 7 (body.Assign (expr.Name (codes "e")) (expr.Text (codes "x"))) ∷
      on_card 8 body.End ∷ []) ∷ []);
  setting = record { homes = (record { sequence = 0; first = 0 } ∷ []) ∷ [] ∷ []; sizes = 3 ∷ [] };
  texts = record {
    objects = [];
    constants = [];
    functions =
        c_function result.Int (codes "MAIN__") [] (copies ∷ extern result.Int (codes "s_") (parameter.Chars ∷ parameter.Length ∷ []) ∷ local.StaticChars (codes "c__") (Some 3) None ∷ []) (
        does_call (codes "s_copy") (c_name (codes "c__") ∷ c.Str (codes "abc") ∷ length_of 3 ∷ length_of 3 ∷ []) ∷
        does_call (codes "s_") (c_name (codes "c__") ∷ length_of 3 ∷ []) ∷ returns_zero ∷ []) ∷
        c_function result.Int (codes "s_") (param parameter.Chars (codes "e") ∷ param parameter.Length (codes "e_len") ∷ []) (copies ∷ [])
        (does_call (codes "s_copy") (c_name (codes "e") ∷ c.Str (codes "x") ∷ length_of 2 ∷ length_of 1 ∷ []) ∷ returns_zero ∷ []) ∷ [];
  } ∷ [];
  units = standard_units [];
}

-- `I=5`, `WRITE (6,'(I2)') I,I`, `END`
abbrev pub columns_written : Pair
columns_written = record {
  files = one_file (
      main_unit (
      on_card 1 (body.Assign (expr.Name (codes "i")) (num 5)) ∷
      on_card 2 (body.Transfer way.Write (record { word = word.Unit; value = value.Value (num 6) } ∷ record { word = word.Format; value = value.Value (expr.Text (codes "(I2)")) } ∷ [])
      (item.Item (expr.Name (codes "i")) ∷ item.Item (expr.Name (codes "i")) ∷ [])) ∷
      on_card 3 body.End ∷ []) ∷ []);
  setting = record { homes = (record { sequence = 0; first = 0 } ∷ []) ∷ []; sizes = 4 ∷ [] };
  texts = record {
    objects = [];
    constants = constant (codes "c__1") 1 ∷ [];
    functions =
        c_function result.Int (codes "MAIN__") [] (
        local.Extern result.Integer (codes "s_wsfe") (argument.List list.Transfer ∷ []) ∷
        extern result.Integer (codes "do_fio") (parameter.Integers ∷ parameter.Chars ∷ parameter.Length ∷ []) ∷
        end_function (codes "e_wsfe") ∷ static_integer (codes "i__") ∷
        local.StaticList list.Transfer (codes "io___1") (given.Number (pos 0) ∷ given.Number (pos 6) ∷ given.Number (pos 0) ∷ given.Str (codes "(I2)") ∷ given.Number (pos 0) ∷ []) ∷ []) (
        stmt.Set (c_name (codes "i__")) (c_num 5) ∷
        does_call (codes "s_wsfe") (address_of (c_name (codes "io___1")) ∷ []) ∷
        does_call (codes "do_fio") (address_of (c_name (codes "c__1")) ∷ item_address (codes "i__") ∷ length_of 4 ∷ []) ∷
        does_call (codes "do_fio") (address_of (c_name (codes "c__1")) ∷ item_address (codes "i__") ∷ length_of 4 ∷ []) ∷
        does_call (codes "e_wsfe") [] ∷ returns_zero ∷ []) ∷ [];
  } ∷ [];
  units = standard_units [];
}
