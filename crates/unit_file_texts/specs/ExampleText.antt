-- The printed texts of the C files of the example: that of a main program, and that of a function and a subroutine which it calls. C89, 3.5, 3.6 and 3.7.
use Rattle.std.specs.Prelude.{ℕ, List, [], ◌∷◌, ◌++◌, codes}
use Rattle.unit_programs.specs.unit_sites.UnitSites.{UnitsOfFile}
use Rattle.unit_programs.specs.TranslatedUnits.{Rendering}
use Rattle.unit_programs.specs.Example.{its_constants, main_written, function_written, subroutine_written, main_rendering, function_rendering, subroutine_rendering}

abbrev pub main_file : UnitsOfFile
main_file = record { constants = its_constants; units = main_written ∷ [] }

abbrev pub procedures_file : UnitsOfFile
procedures_file = record { constants = []; units = function_written ∷ subroutine_written ∷ [] }

-- what becomes of the units of each
abbrev pub main_part : List Rendering
main_part = main_rendering ∷ []

abbrev pub procedures_part : List Rendering
procedures_part = function_rendering ∷ subroutine_rendering ∷ []

-- the file of the main program
abbrev pub main_text : List ℕ
main_text =
    codes "/* translated by f2c */\n\n"
    ++ codes "#include \"f2c.h\"\n\n"
    ++ codes "/* Table of constant values */\n\n"
    ++ codes "static integer c__1 = 1;\n"
    ++ codes "static integer c__2 = 2;\n"
    ++ codes "static integer c__3 = 3;\n\n"
    ++ codes "/* Main program */ int MAIN__(void)\n"
    ++ codes "{\n"
    ++ codes "    /* System generated locals */\n"
    ++ codes "    integer i__1;\n\n"
    ++ codes "    /* Builtin functions */\n"
    ++ codes "    extern integer f_(integer *);\n"
    ++ codes "    extern int s_(integer *);\n"
    ++ codes "    extern integer s_wsle(cilist *);\n"
    ++ codes "    extern integer do_lio(integer *, integer *, char *, ftnlen);\n"
    ++ codes "    extern integer e_wsle(void);\n\n"
    ++ codes "    /* Local variables */\n"
    ++ codes "    static integer k;\n\n"
    ++ codes "    /* Fortran I/O blocks */\n"
    ++ codes "    static cilist io___1 = { 0, 6, 0, 0, 0 };\n\n"
    ++ codes "    i__1 = f_(&c__2);\n"
    ++ codes "    k = i__1;\n"
    ++ codes "    s_(&k);\n"
    ++ codes "    s_wsle(&io___1);\n"
    ++ codes "    do_lio(&c__3, &c__1, (char *)&k, (ftnlen)sizeof(integer));\n"
    ++ codes "    e_wsle();\n"
    ++ codes "    return 0;\n"
    ++ codes "} /* MAIN__ */\n"

-- the file of the function and the subroutine
abbrev pub procedures_text : List ℕ
procedures_text =
    codes "/* translated by f2c */\n\n"
    ++ codes "#include \"f2c.h\"\n\n"
    ++ codes "integer f_(integer *n)\n"
    ++ codes "{\n"
    ++ codes "    /* System generated locals */\n"
    ++ codes "    integer ret_val;\n\n"
    ++ codes "    ret_val = *n;\n"
    ++ codes "    return ret_val;\n"
    ++ codes "} /* f_ */\n\n"
    ++ codes "/* Subroutine */ int s_(integer *n)\n"
    ++ codes "{\n"
    ++ codes "    *n = *n + 1;\n"
    ++ codes "    return 0;\n"
    ++ codes "} /* s_ */\n"
