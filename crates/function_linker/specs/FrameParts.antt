-- What a function has around its statements: the numbers of its strings and of the objects of a call (C89, 3.1.2.4, 3.1.4 and 3.7.1).
use Rattle.std.specs.Prelude.{◌+◌, ◌++◌, ℕ, List, length}
use Rattle.c_tree.specs.declared.file.CFunction.{CFunction}
use Rattle.c_tree.specs.Declarations.{declared_statics}
use Rattle.c_tree.specs.FlatForm.{whole_body}
use Rattle.c_tree.specs.Linking.{strings_of}

-- the strings of a function: those of its lists, and then those of its statements
unfoldable pub strings_in : CFunction → List (List ℕ)
strings_in function = strings_of (declared_statics function.locals) ++ (whole_body function.body).items.strings

-- the number of the first string of a function whose objects have the numbers from `base` on
unfoldable pub first_string : ℕ → CFunction → ℕ
first_string base function = base + length (declared_statics function.locals)

-- the number of the first string of its statements
unfoldable pub body_string : ℕ → CFunction → ℕ
body_string base function = first_string base function + length (strings_of (declared_statics function.locals))

-- the number of the first object of a call
unfoldable pub first_of_call : ℕ → CFunction → ℕ
first_of_call base function = first_string base function + length (strings_in function)
