-- What linking a function gives (C89, 3.5, 3.6 and 3.7.1).
use Rattle.std.specs.Prelude.{◌≡◌, ℕ, true, List, ◌++◌, map, Result, Ok, Err}
use Rattle.c_tree.specs.Terms.{Unknown}
use Rattle.c_tree.specs.Drafts.{Scope}
use Rattle.c_tree.specs.Linking as linking
use Rattle.first_names.specs.FirstNames.{first_of}
use Rattle.linked_programs.specs.declared.functions.LinkedFunction as declared
use Rattle.linked_programs.specs.declared.objects.LinkedObject.{LinkedObject}
use Rattle.linked_programs.specs.LinkedPrograms.{object_of, function_of}
use Rattle.expression_linker.specs.declared.failure.LinkFail.{LinkFail}
use Rattle.expression_linker.specs.declared.failure.LinkFail.TheVariants as fail
use Rattle.expression_linker.specs.NamesInScope.{term_or}
use Rattle.expression_linker.specs.declared.scope.NameScope.{NameScope}
use Rattle.flat_linker.specs.LostNames.{some_lost}

-- what the names of a file stand for, around those of a function
abbrev pub file_names : NameScope → Scope
file_names names q = term_or (first_of names.file q) Unknown

-- a function is linked and its objects stand behind those before, or one of its items links nothing; want of memory says nothing
abbrev pub LinksFunction : ℕ → Result declared.LinkedFunction LinkFail → linking.LinkedFunction → List LinkedObject → List LinkedObject → Type 0
LinksFunction own (Ok made) linked before after = (function_of own made ≡ linked.function) × (map object_of after ≡ map object_of before ++ linked.objects)
LinksFunction own (Err fail.Unknown) linked before after = some_lost linked.function.code ≡ true
LinksFunction own (Err fail.Memory) linked before after = Unit {0}
