-- The names of functions, as a loop finds them.
use Rattle.std.proofs.Common.{◌≡◌, refl, ap, sym, ◌∙◌, ℕ, List, [], ◌∷◌, ◌++◌, append_assoc}
use Rattle.c_tree.specs.declared.file.CFile.{CFile}
use Rattle.c_tree.specs.declared.file.CFunction.{CFunction}
use Rattle.c_tree.specs.Linking.{function_names, all_functions}

names-both : (xs ys : List CFunction) → function_names (xs ++ ys) ≡ function_names xs ++ function_names ys
names-both [] ys = refl
names-both (x ∷ xs) ys = ap (λ rest. x.name ∷ rest) (names-both xs ys)

-- those of a file, before those of the files behind it
pub names-file : (before : List (List ℕ)) (file : CFile) (later : List CFile) →
    before ++ function_names (all_functions (file ∷ later)) ≡ (before ++ function_names file.functions) ++ function_names (all_functions later)
names-file before file later =
    ap (λ rest. before ++ rest) (names-both file.functions (all_functions later))
    ∙ sym (append_assoc before (function_names file.functions) (function_names (all_functions later)))

pub names-one : (before : List (List ℕ)) (function : CFunction) (later : List CFunction) →
    before ++ function_names (function ∷ later) ≡ (before ++ function.name ∷ []) ++ function_names later
names-one before function later = sym (append_assoc before (function.name ∷ []) (function_names later))

pub ruleset name_laws = (names-file, names-one)
