-- The C file of a main program links: it has one function, the main program's, and each function that it declares and calls is one of the library.
-- C89, 3.1.2.2 and 3.7.
use Rattle.std.specs.Prelude.{◌≡◌, ℕ, Bool, true, false, ◌||◌, nat_lt, List, [], ◌∷◌}
use Rattle.std.proofs.Common.{refl, ap, ◌∙◌}
use Rattle.main_translation_laws.specs.f_tree.Facts.{ProgramUnit}
use Rattle.main_translation_laws.specs.l_core.Steps.{Text}
use Rattle.main_translation_laws.specs.c_tree.declared.statement.CStmt.{CStmt}
use Rattle.main_translation_laws.specs.c_tree.Declarations.{declared_externs, functions_in_lists}
use Rattle.main_translation_laws.specs.c_tree.FlatForm.{whole_body}
use Rattle.main_translation_laws.specs.c_tree.Linking as linking
use Rattle.main_translation_laws.specs.c_tree.Linking.{any_of, main_name, mentioned, first_broken_rule, broken_rule}
use Rattle.main_translation_laws.specs.faithful.Faithful.{is_linked}
use Rattle.main_translation_laws.specs.main_file.MainFile.{Inventory, main_locals, called_names, main_function, main_file}
use Rattle.main_translation_laws.specs.main_translation.Contents.{inventory_of}
use Rattle.main_faithfulness.proofs.LinkRules.{is_missing, calls_there, past_temporaries, past_calls, extern_temporaries, extern_calls, none_mentioned, fourth_only}

-- a name of no function, where the main program's is the one that is defined
abbrev is_lost : List ℕ → Bool
is_lost name = is_missing (linking.routines (main_name ∷ [])) name

no_functions_listed : (v : Inventory) → functions_in_lists [] (main_locals v) ≡ []
no_functions_listed v = past_temporaries [] 1 v.temporaries _ ∙ past_calls [] v.calls v.variables v.lists

externs_are : (v : Inventory) → declared_externs (main_locals v) ≡ called_names v
externs_are v = extern_temporaries 1 v.temporaries _ ∙ extern_calls v.calls v.variables v.lists

none_missing : (v : Inventory) (body : List CStmt) → any_of is_lost (called_names v) ≡ false → any_of is_lost (mentioned (main_function v body)) ≡ false
none_missing v body there =
    none_mentioned is_lost (called_names v) (declared_externs (main_locals v)) (whole_body body).items.names (functions_in_lists [] (main_locals v)) (externs_are v) (no_functions_listed v) there

-- the first two rules hold, whatever the statements
rules_of : (v : Inventory) (body : List CStmt) → first_broken_rule (main_file v body ∷ []) ≡ broken_rule false false
    (any_of is_lost (mentioned (main_function v body)) || false)
    (nat_lt linking.byte_limit (linking.bytes_of_objects (linking.program (main_file v body ∷ [])).objects))
unfolding first_broken_rule
rules_of v body = refl

links_where : (v : Inventory) (body : List CStmt) → any_of is_lost (called_names v) ≡ false → is_linked (first_broken_rule (main_file v body ∷ [])) ≡ true
links_where v body there =
    let fourth = nat_lt linking.byte_limit (linking.bytes_of_objects (linking.program (main_file v body ∷ [])).objects) in
    ap is_linked (rules_of v body ∙ ap (λ third. broken_rule false false (third || false) fourth) (none_missing v body there)) ∙ fourth_only fourth

pub main_links : (unit : ProgramUnit) (u : Text) (body : List CStmt) → is_linked (first_broken_rule (main_file (inventory_of unit u) body ∷ [])) ≡ true
main_links unit u body = links_where (inventory_of unit u) body (calls_there (main_name ∷ []) u.steps)
