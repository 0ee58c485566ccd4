-- Texts of the subset with the trees that they spell.
use Rattle.std.specs.Prelude.{ℕ, true, List, [], ◌∷◌, ◌++◌, pos, Some, None, codes}
use Rattle.c_tree.specs.declared.types.NumberType.TheVariants as number
use Rattle.c_tree.specs.declared.types.ResultType.TheVariants as result
use Rattle.c_tree.specs.declared.types.FunctionType.TheVariants as pointer
use Rattle.c_tree.specs.declared.types.ParameterType.{ParameterType}
use Rattle.c_tree.specs.declared.types.ParameterType.TheVariants as parameter
use Rattle.c_tree.specs.declared.expression.UnaryOp.TheVariants as prefix
use Rattle.c_tree.specs.declared.expression.BinaryOp.TheVariants as op
use Rattle.c_tree.specs.declared.expression.CExpr.{CExpr}
use Rattle.c_tree.specs.declared.expression.CExpr.TheVariants as expr
use Rattle.c_tree.specs.declared.statement.CCase.{CCase}
use Rattle.c_tree.specs.declared.statement.CStmt.{CStmt}
use Rattle.c_tree.specs.declared.statement.CStmt.TheVariants as stmt
use Rattle.c_tree.specs.declared.declaration.CParam.{CParam}
use Rattle.c_tree.specs.declared.declaration.CLocal.{CLocal}
use Rattle.c_tree.specs.declared.declaration.CLocal.TheVariants as local
use Rattle.c_tree.specs.declared.file.CFunction.{CFunction}
use Rattle.c_tree.specs.declared.file.CFile.{CFile}
use Rattle.c_tree.specs.CText.{CText}
use Rattle.c_rows.specs.RowTexts.{call, address, constant, name, set, whole_number, output_functions, output_list, written_integer, return_zero, function_named, file_of, two_integers}

-- the text of `I=2`, `PRINT *,I+3`, `END`
abbrev pub first_text : List ℕ
first_text =
    codes "/* translated by f2c */\n\n#include \"f2c.h\"\n\n/* Table of constant values */\n\n"
    ++ codes "static integer c__1 = 1;\nstatic integer c__3 = 3;\n\n"
    ++ codes "/* Main program */ int MAIN__(void)\n{\n    /* System generated locals */\n    integer i__1;\n\n"
    ++ codes "    /* Builtin functions */\n    extern integer s_wsle(cilist *);\n    extern integer do_lio(integer *, integer *, char *, ftnlen);\n"
    ++ codes "    extern integer e_wsle(void);\n\n    /* Local variables */\n    static integer i__;\n\n"
    ++ codes "    /* Fortran I/O blocks */\n    static cilist io___1 = { 0, 6, 0, 0, 0 };\n\n"
    ++ codes "    i__ = 2;\n    s_wsle(&io___1);\n    i__1 = i__ + 3;\n    do_lio(&c__3, &c__1, (char *)&i__1, (ftnlen)sizeof(integer));\n"
    ++ codes "    e_wsle();\n    return 0;\n} /* MAIN__ */\n"

-- its tree
abbrev pub first_tree : CFile
first_tree = record {
  objects = [];
  constants = constant (codes "c__1") (pos 1) ∷ constant (codes "c__3") (pos 3) ∷ [];
  functions =
      function_named
      (codes "MAIN__")
      (local.Number number.Integer (codes "i__1")
      ∷ output_functions
      ++ (local.StaticNumber number.Integer (codes "i__") None ∷ output_list ∷ []))
      (stmt.Set (expr.Name (codes "i__")) (expr.Number (pos 2))
      ∷ stmt.Call (call (codes "s_wsle") (address (codes "io___1") ∷ []))
      ∷ stmt.Set (expr.Name (codes "i__1")) (expr.Binary op.Add (expr.Name (codes "i__")) (expr.Number (pos 3)))
      ∷ written_integer (codes "i__1")
      ∷ stmt.Call (call (codes "e_wsle") [])
      ∷ return_zero
      ∷ [])
      ∷ [];
}

-- a file of the include line and these bytes
abbrev pub in_file : List ℕ → List ℕ
in_file text = codes "#include \"f2c.h\"\n" ++ text

-- declarations and statements in a main program that declares two integers and returns 0
abbrev pub in_main : List ℕ → List ℕ
in_main text = in_file (codes "int MAIN__(void) { integer i__1; integer i__2; " ++ (text ++ codes " return 0; }"))

abbrev pub main_file : List CLocal → List CStmt → CFile
main_file locals statements =
    file_of (function_named (codes "MAIN__") (two_integers ++ locals) (statements ++ return_zero ∷ []) ∷ [])

-- the declarations and statements that a text in the main program spells
abbrev pub Spells : List ℕ → List CLocal → List CStmt → Type 0
Spells text locals statements = CText (in_main text) (main_file locals statements)

-- the expression that a text behind `i__1 = ` spells
abbrev pub SpellsValue : List ℕ → CExpr → Type 0
SpellsValue text e = Spells (codes "i__1 = " ++ (text ++ codes ";")) [] (set (codes "i__1") e ∷ [])

-- the declaration that a text spells
abbrev pub SpellsLocal : List ℕ → CLocal → Type 0
SpellsLocal text one = Spells text (one ∷ []) []

abbrev pub the_file : List CFile → CFile
the_file [] = file_of []
the_file (first ∷ later) = first

abbrev pub i : CExpr
i = name (codes "i__1")

abbrev pub j : CExpr
j = name (codes "i__2")

abbrev pub n : ℕ → CExpr
n value = whole_number value

abbrev pub param : ParameterType → List ℕ → CParam
param of text = record { of = of; name = text }

abbrev pub case : ℕ → List ℕ → CCase
case number label = record { number = pos number; label = label }

-- `integer g_(integer *n, char *t, ftnlen t_len, I_fp f) { return (*f)(n, t_len); }`
abbrev pub calling_function : CFunction
calling_function = record {
  result = result.Integer;
  name = codes "g_";
  params =
      param parameter.Integers (codes "n") ∷ param parameter.Chars (codes "t") ∷ param parameter.Length (codes "t_len")
      ∷ param (parameter.Function pointer.Integer) (codes "f") ∷ [];
  locals = [];
  body =
      stmt.ReturnCall (record { through = true; name = codes "f"; arguments = name (codes "n") ∷ name (codes "t_len") ∷ [] })
      ∷ [];
}

-- `logical h_(logical *k, int n, S_fp s, L_fp t, U_fp u) { return *k; }`
abbrev pub logical_function : CFunction
logical_function = record {
  result = result.Logical;
  name = codes "h_";
  params =
      param parameter.Logicals (codes "k") ∷ param parameter.Int (codes "n")
      ∷ param (parameter.Function pointer.Subroutine) (codes "s")
      ∷ param (parameter.Function pointer.Logical) (codes "t")
      ∷ param (parameter.Function pointer.Unknown) (codes "u") ∷ [];
  locals = [];
  body = stmt.Return (Some (expr.Unary prefix.Deref (name (codes "k")))) ∷ [];
}
