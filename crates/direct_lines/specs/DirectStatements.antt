-- Statements that are lowered as the law asks. ANSI X3.9-1978, sections 10 to 12 and 15.
use Rattle.std.specs.List.{list_all}
use Rattle.std.specs.Prelude.{Bool, true, false, List, [], ◌∷◌}
use Rattle.f_tree.specs.declared.statements.Body.{Body}
use Rattle.f_tree.specs.declared.statements.Body.TheOpen as body
use Rattle.f_tree.specs.declared.statements.ListItem.{ListItem}
use Rattle.f_tree.specs.declared.statements.ListItem.TheOpen as item
use Rattle.f_tree.specs.declared.statements.Stmt.{Stmt}
use Rattle.f_tree.specs.Folds.{fold_item, layer_of}
use Rattle.f_tree.specs.Lines.{Naming, form_of, mark_of}
use Rattle.lowering_laws.specs.Layout.{is_direct_as}

-- an item that is no implied DO
unfoldable pub layer_single : item.ListItem-F Bool → Bool
layer_single (item.Item e) = true
layer_single (item.Loop bs control) = false

unfoldable pub is_expression : ListItem → Bool
is_expression i = fold_item layer_single i

-- a statement by its mark and its form
unfoldable pub is_direct_line : Naming → Body → Bool
is_direct_line names b = is_direct_as (mark_of b) (form_of names b)

unfoldable pub are_direct_lines : Naming → List Stmt → Bool
are_direct_lines names ss = list_all (λ (s : Stmt). is_direct_line names s.body) ss

-- END
unfoldable pub is_end : Stmt → Bool
is_end s = elim (layer_of s.body) [ body.End ↦ true | _ ↦ false ]

unfoldable pub end_last : List Stmt → Bool
end_last [] = false
end_last (s ∷ []) = is_end s
end_last (s ∷ t ∷ ss) = end_last (t ∷ ss)
