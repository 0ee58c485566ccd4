-- The name stands behind those of the file.
use Rattle.std.proofs.Common.{◌≡◌, ◌∙◌, true, false}
use Rattle.indexmap.proofs.CallerLemmas.{insert_entry-new}
use Rattle.c_lexer.specs.c_tree.CText.{no_names}
use Rattle.c_readers.specs.CallReader.{has_some}
use Rattle.c_scope.specs.NamesSeen.{behind, stand_once}
use Rattle.c_scope.specs.ScopeSeen.{scope_of, file_scope_of, here_of, file_here_of}
use Rattle.c_scope.proofs.ScopeLemmas.{fresh-in-file, once-in-file, no-parameters-in-file, points-in-file, scope-in-file, more-in-file, only-in-file, either-way}
use Rattle.c_scope.proofs.scope.CScope.declare_in_file.Goals as goal

pub invariant_of-self : goal.invariant_of-self
invariant_of-self c =
    let s = c.args.self.now in
    let key = c.args.name in
    let of = c.args.class in
    let none = fresh-in-file s key.now c.requires.fresh in
    let is = insert_entry-new _ s.file key of none in
    let once = either-way (λ names. stand_once names ≡ true) c.insert.result s.file.entries _ c.insert.new.self.entries c.insert.ensures.entries c.insert.ensures.err s.file_once (once-in-file s key of _ none is) in
    let without = either-way (λ names. has_some (behind names no_names).pointers ≡ false) c.insert.result s.file.entries _ c.insert.new.self.entries c.insert.ensures.entries c.insert.ensures.err s.no_parameters (no-parameters-in-file s key of _ is c.requires.no_parameter) in
    record {
      file_once = once;
      function_once = s.function_once;
      no_parameters = without;
      points = points-in-file s c.insert.new.self.entries c.requires.outside without;
    }

pub returns-in-Ok-clause-file_scope : goal.returns-in-Ok-clause-file_scope
unfolding file_scope_of
returns-in-Ok-clause-file_scope c =
    let s = c.args.self.now in
    let is = c.in-Ok.ensures.entries ∙ insert_entry-new _ s.file c.args.name c.args.class (fresh-in-file s c.args.name.now c.requires.fresh) in
    scope-in-file s c.args.name c.args.class c.insert.new.self.entries is

pub returns-in-Ok-clause-file_here : goal.returns-in-Ok-clause-file_here
unfolding file_here_of
returns-in-Ok-clause-file_here c =
    let s = c.args.self.now in
    let is = c.in-Ok.ensures.entries ∙ insert_entry-new _ s.file c.args.name c.args.class (fresh-in-file s c.args.name.now c.requires.fresh) in
    more-in-file s c.args.name c.args.class c.insert.new.self.entries is

pub returns-in-Ok-clause-scope : goal.returns-in-Ok-clause-scope
unfolding scope_of
returns-in-Ok-clause-scope c = only-in-file c.args.self.now _ c.requires.outside

pub returns-in-Ok-clause-here : goal.returns-in-Ok-clause-here
unfolding here_of
returns-in-Ok-clause-here c = c.requires.outside
