-- What the names in scope stand for (C89, 3.1.2).
use Rattle.std.specs.Prelude.{Option, Some, None}
use Rattle.c_tree.specs.Terms as term
use Rattle.c_tree.specs.Terms.{Term}
use Rattle.c_tree.specs.Drafts.{Scope}
use Rattle.run_bytes.specs.Accesses.{access_of}
use Rattle.first_names.specs.FirstNames.{first_of}
use Rattle.expression_linker.specs.declared.things.NamedThing.{NamedThing}
use Rattle.expression_linker.specs.declared.things.NamedThing.TheVariants as thing
use Rattle.expression_linker.specs.declared.scope.NameScope.{NameScope}

abbrev pub named_term : NamedThing → Term
named_term (thing.Constant number) = term.Constant number
named_term (thing.Variable object access) = term.Variable object (access_of access)
named_term (thing.Array object access) = term.Array object (access_of access)
named_term (thing.Routine number) = term.Routine number
named_term thing.Missing = term.Unknown

-- what a name stands for by one table, or else around it
abbrev pub term_or : Option NamedThing → Term → Term
term_or (Some thing) around = named_term thing
term_or None around = around

-- the names of a function hide those of its file
unfoldable pub scope_of : NameScope → Scope
scope_of names name =
    term_or (first_of names.lasting name)
    (term_or (first_of names.frame name)
    (term_or (first_of names.functions name)
    (term_or (first_of names.file name) term.Unknown)))
