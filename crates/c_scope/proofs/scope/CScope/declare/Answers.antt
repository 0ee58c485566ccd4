-- The name stands behind those of the function.
use Rattle.std.proofs.Common.{refl, ◌∙◌}
use Rattle.indexmap.proofs.CallerLemmas.{insert_entry-new}
use Rattle.c_scope.specs.ScopeSeen.{scope_of, file_scope_of, here_of, file_here_of}
use Rattle.c_scope.proofs.ScopeLemmas.{fresh-here, once-here, points-here, scope-here, more-here}
use Rattle.c_scope.proofs.scope.CScope.declare.Goals as goal

pub invariant_of-self : goal.invariant_of-self
invariant_of-self c =
    let s = c.args.self.now in
    let none = fresh-here s c.args.name.now c.requires in
    let is = c.in-Ok.ensures.entries ∙ insert_entry-new _ s.function c.args.name c.args.class none in
    record {
      file_once = s.file_once;
      function_once = once-here s c.args.name c.args.class c.insert.new.self.entries none is;
      no_parameters = s.no_parameters;
      points = points-here s c.args.name c.args.class c.insert.new.self.entries c.has_either-pointer.result none is c.has_either-pointer.ensures;
    }

pub returns-in-Ok-clause-scope : goal.returns-in-Ok-clause-scope
unfolding scope_of file_scope_of
returns-in-Ok-clause-scope c =
    let s = c.args.self.now in
    let is = c.in-Ok.ensures.entries ∙ insert_entry-new _ s.function c.args.name c.args.class (fresh-here s c.args.name.now c.requires) in
    scope-here s c.args.name c.args.class c.insert.new.self.entries is

pub returns-in-Ok-clause-here : goal.returns-in-Ok-clause-here
unfolding here_of
returns-in-Ok-clause-here c =
    let s = c.args.self.now in
    let is = c.in-Ok.ensures.entries ∙ insert_entry-new _ s.function c.args.name c.args.class (fresh-here s c.args.name.now c.requires) in
    more-here s c.args.name c.args.class c.insert.new.self.entries is

pub returns-in-Ok-clause-file_scope : goal.returns-in-Ok-clause-file_scope
unfolding file_scope_of
returns-in-Ok-clause-file_scope c = refl

pub returns-in-Ok-clause-file_here : goal.returns-in-Ok-clause-file_here
unfolding file_here_of
returns-in-Ok-clause-file_here c = refl
