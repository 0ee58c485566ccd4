-- The scope that the names of a file and of a function make.
use Rattle.std.specs.Prelude.{ℕ, List, [], Option}
use Rattle.c_lexer.specs.c_tree.CExpressionText.{Scope}
use Rattle.c_lexer.specs.c_tree.CText.{no_names}
use Rattle.c_scope.specs.declared.class.NameClass.{NameClass}
use Rattle.c_scope.specs.declared.scope.CScope.{CScope}
use Rattle.c_scope.specs.NamesSeen.{behind, declared, class_in, or_outside}

-- the scope of the file, outside functions
unfoldable pub file_scope_of : CScope → Scope
file_scope_of s = behind s.file.entries no_names

-- the scope in the function
unfoldable pub scope_of : CScope → Scope
scope_of s = behind s.function.entries (file_scope_of s)

-- the names that the file declares
unfoldable pub file_here_of : CScope → List (List ℕ)
file_here_of s = declared s.file.entries []

-- the names that the function declares
unfoldable pub here_of : CScope → List (List ℕ)
here_of s = declared s.function.entries []

-- the class of a name in the function
abbrev pub class_of : CScope → List ℕ → Option NameClass
class_of s name = or_outside (class_in name s.function.entries) (class_in name s.file.entries)
