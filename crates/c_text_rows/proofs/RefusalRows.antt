-- Texts that are refused, with their lines.
use Rattle.std.specs.Prelude.{ℕ, true, List, [], ◌∷◌, codes}
use Rattle.std.proofs.Common.{refl}
use Rattle.c_tree.specs.Opened.{trees_opened}
use Rattle.c_tree.specs.Tokens.{Word, Sign, no_more, behind_a_gap}
use Rattle.c_tree.specs.CText.{RefusedLine}
use Rattle.c_text_rows.specs.TextRows.{in_file}
use Rattle.c_laws.proofs.Refusals.{refused_by, refused_empty, halved, refused_at, cut_short, refused_at_the_end}
use Rattle.c_laws.proofs.RefusedFronts.{no-main-file, no-label-file, no-long-image}

-- what completes nothing
abbrev nothing_yet : List ℕ
nothing_yet = codes "#include \"f2c.h\""

pub empty_text : RefusedLine [] 1
empty_text = refused_empty [] (no_more 1 true [] refl)

pub line_feeds_alone : RefusedLine (codes "\n\n") 2
line_feeds_alone = refused_empty (codes "\n\n") (behind_a_gap 1 true (codes "\n\n") (codes "\n") (codes "\n") [] refl (behind_a_gap 2 true (codes "\n") (codes "\n") [] [] refl (no_more 3 true [] refl)))

pub no_include_line : RefusedLine (codes "/* a\n */\nint f_(void) { }\n") 3
unfolding trees_opened
no_include_line = refused_by (codes "/* a\n */\nint f_(void) { }\n") nothing_yet refl

pub include_beside_a_word : RefusedLine (codes "\n#include \"f2c.h\" int f_(void) { }\n") 2
unfolding trees_opened
include_beside_a_word = refused_by (codes "\n#include \"f2c.h\" int f_(void) { }\n") nothing_yet refl

pub include_twice : RefusedLine (codes "#include \"f2c.h\"\n\n#include \"f2c.h\"\n") 3
unfolding trees_opened
include_twice = refused_by (codes "#include \"f2c.h\"\n\n#include \"f2c.h\"\n") [] refl

pub open_comment : RefusedLine (in_file (codes "\n/* no end\n\n")) 3
unfolding trees_opened
open_comment = refused_by (in_file (codes "\n/* no end\n\n")) [] refl

pub bad_byte : RefusedLine (in_file (codes "int f_(void)\n{\n  return @ 0;\n}\n")) 4
unfolding trees_opened
bad_byte = refused_by (in_file (codes "int f_(void)\n{\n  return @ 0;\n}\n")) (codes "; }") refl

pub needless_zero : RefusedLine (in_file (codes "integer b_[2]\n= { 1,\n\n02 };")) 5
unfolding trees_opened
needless_zero = refused_by (in_file (codes "integer b_[2]\n= { 1,\n\n02 };")) (codes "2 };") refl

pub great_number : RefusedLine (in_file (codes "static integer c__1 =\n2147483648;")) 3
unfolding trees_opened
great_number = refused_by (in_file (codes "static integer c__1 =\n2147483648;")) (codes "1;") refl

pub run_on_number : RefusedLine (in_file (codes "static integer c__1 =\n12e;")) 3
unfolding trees_opened
run_on_number = refused_by (in_file (codes "static integer c__1 =\n12e;")) (codes "1;") refl

pub open_string : RefusedLine (in_file (codes "char c_[9] =\n\"abc\n\";")) 3
unfolding trees_opened
open_string = refused_by (in_file (codes "char c_[9] =\n\"abc\n\";")) (codes "\"a\";") refl

pub great_escape : RefusedLine (in_file (codes "char c_[9] =\n\"\\400\";")) 3
unfolding trees_opened
great_escape = refused_by (in_file (codes "char c_[9] =\n\"\\400\";")) (codes "\"a\";") refl

pub one_bar : RefusedLine (in_file (codes "int f_(void) { return 1\n\n| 2; }")) 4
unfolding trees_opened
one_bar = refused_by (in_file (codes "int f_(void) { return 1\n\n| 2; }")) (codes "; }") refl

-- `foo = 1;` where `foo` is not declared: it may be a label up to there
pub undeclared_name : RefusedLine (in_file (codes "int MAIN__(void)\n{\nfoo\n= 1; }")) 5
unfolding trees_opened
undeclared_name =
    refused_at
    (halved 8 (in_file (codes "int MAIN__(void)\n{\nfoo\n= 1; }")) (codes ": ; }"))
    refl
    (λ begun. no-main-file _ (Word (codes "foo") ∷ Sign (codes "=") ∷ begun.later) refl refl refl refl begun.file begun.reads)

-- a call of a function that is defined behind
pub used_before : RefusedLine (in_file (codes "int MAIN__(void)\n{ f_\n(); }\nint f_(void) { }")) 4
unfolding trees_opened
used_before =
    refused_at
    (halved 8 (in_file (codes "int MAIN__(void)\n{ f_\n(); }\nint f_(void) { }")) (codes ": ; }"))
    refl
    (λ begun. no-main-file _ (Word (codes "f_") ∷ Sign (codes "(") ∷ begun.later) refl refl refl refl begun.file begun.reads)

-- a label that does not stand
pub missing_label : RefusedLine (in_file (codes "int MAIN__(void)\n{ goto L10;\n}\n")) 4
unfolding trees_opened
missing_label =
    refused_at
    (halved 10 (in_file (codes "int MAIN__(void)\n{ goto L10;\n}\n")) (codes "L10: ; }"))
    refl
    (λ begun. no-label-file _ begun.later (codes "L10") refl refl begun.file begun.reads)

-- a second value where the array has one element
pub long_image : RefusedLine (in_file (codes "integer b_[1] = { 1\n, 2 };")) 3
unfolding trees_opened
long_image =
    refused_at
    (halved 9 (in_file (codes "integer b_[1] = { 1\n, 2 };")) (codes "};"))
    refl
    (λ begun. no-long-image _ begun.later (codes "b_") 1 refl begun.file begun.reads)

-- a text that ends behind the opening brace
pub cut_body : RefusedLine (in_file (codes "int MAIN__(void)\n{\n")) 3
unfolding trees_opened
cut_body =
    refused_at_the_end
    (cut_short (in_file (codes "int MAIN__(void)\n{\n")) (codes "}"))
    refl
    (λ file reads. no-main-file _ [] refl refl refl refl file reads)
