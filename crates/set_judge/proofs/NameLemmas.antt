-- What statements that give no global name give, and the names of lists of statements and units one after the other.
use Rattle.std.proofs.Common.{◌≡◌, true, false, List, [], ◌∷◌, ◌++◌, map, append_assoc, refl, sym, ap, ◌∙◌}
use Rattle.std.proofs.lemmas.List.{map-append}
use Rattle.f_tree.specs.Folds.{layer_of}
use Rattle.f_tree.specs.Values.{Bytes}
use Rattle.f_tree.specs.Attributes.{option_list, entry_names_in}
use Rattle.f_tree.specs.Lines.{common_in}
use Rattle.f_tree.specs.declared.statements.Body.{Body, Entry, Common, IfOne', more_of-Body}
use Rattle.f_tree.specs.declared.statements.Body.TheVariants as body
use Rattle.f_tree.specs.declared.statements.CommonGroup.{CommonGroup}
use Rattle.f_tree.specs.declared.statements.DummyArgument.{DummyArgument}
use Rattle.f_tree.specs.declared.statements.Stmt.{Stmt}
use Rattle.f_tree.specs.declared.units.Unit.{Unit as WrittenUnit}
use Rattle.f_tree.specs.declared.units.File.{File}
use Rattle.declaration_rows.specs.GlobalRows.{Global, global_at, block_names, globals_of_statements, globals_of_unit, all_units, globals_of}

pub entry_names_other : (b : Body) → ((x : Bytes) (ds : List DummyArgument) → b ≡ body.Entry x ds → ⊥) → entry_names_in b ≡ []
unfolding entry_names_in layer_of
entry_names_other (Entry x ds) other = absurd (other x ds refl)
entry_names_other (IfOne' e s (more_of-Body b r)) other = refl
entry_names_other _ other = refl

pub common_other : (b : Body) → ((gs : List CommonGroup) → b ≡ body.Common gs → ⊥) → common_in b ≡ []
unfolding common_in layer_of
common_other (Common gs) other = absurd (other gs refl)
common_other (IfOne' e s (more_of-Body b r)) other = refl
common_other _ other = refl

pub groups_step : (s : Stmt) (g : CommonGroup) (gs : List CommonGroup) → map (global_at s true) (block_names (g ∷ gs)) ≡ map (global_at s true) (option_list g.block) ++ map (global_at s true) (block_names gs)
unfolding block_names
groups_step s g gs = map-append (global_at s true) (option_list g.block) (block_names gs)

abbrev pub names_of_statement : Stmt → List Global
names_of_statement s = map (global_at s false) (entry_names_in s.body) ++ map (global_at s true) (block_names (common_in s.body))

pub statements_step : (s : Stmt) (ss : List Stmt) → globals_of_statements (s ∷ ss) ≡ names_of_statement s ++ globals_of_statements ss
unfolding globals_of_statements
statements_step s ss =
    sym (append_assoc (map (global_at s false) (entry_names_in s.body)) (map (global_at s true) (block_names (common_in s.body))) (globals_of_statements ss))

pub units_step : (u : WrittenUnit) (us : List WrittenUnit) → globals_of (u ∷ us) ≡ globals_of_unit u ++ globals_of us
unfolding globals_of
units_step u us = refl

pub globals_append : (us more : List WrittenUnit) → globals_of (us ++ more) ≡ globals_of us ++ globals_of more
unfolding globals_of
globals_append [] more = refl
globals_append (u ∷ us) more = ap (λ gs. globals_of_unit u ++ gs) (globals_append us more) ∙ sym (append_assoc (globals_of_unit u) (globals_of us) (globals_of more))

pub files_step : (f : File) (fs : List File) → globals_of (all_units (f ∷ fs)) ≡ globals_of f.units ++ globals_of (all_units fs)
unfolding all_units
files_step f fs = globals_append f.units (all_units fs)
