-- Which statements share the result of their function, and by what two names do.
use Rattle.std.specs.Prelude.{Bool, true, not, ◌&&◌, if◌then◌else◌}
use Rattle.f_tree.specs.Folds.{layer_of}
use Rattle.f_tree.specs.Lines.{is_character}
use Rattle.f_tree.specs.declared.names.Basic.{Basic}
use Rattle.f_tree.specs.declared.statements.Body.{Body}
use Rattle.f_tree.specs.declared.statements.Body.TheOpen as body
use Rattle.f_tree.specs.declared.units.Unit.{Unit as WrittenUnit}
use Rattle.declaration_rows.specs.NameRows.{given_names}
use Rattle.declaration_rows.specs.BlockRows.{shares_result}

-- by their types, and by whether their lengths are the same
unfoldable pub share_by : Basic → Basic → Bool → Bool
share_by own entry same = if is_character own then is_character entry && same else not (is_character entry)

-- an ENTRY shares the result of its function; no other statement is asked
unfoldable pub shares_at : WrittenUnit → Body → Bool
shares_at u b = elim (layer_of b) [ body.Entry x dummies ↦ shares_result u (given_names u) u.kind u.name x | _ ↦ true ]
