-- The program of files.
use Rattle.std.proofs.Common.{◌≡◌, refl, sym, ap, ◌∙◌, subst, ℕ, suc, ◌+◌, List, [], ◌∷◌, ◌++◌, length, length-append, map, Option, Result, Err}
use mathlib.Core.Path.{fun_ext}
use Rattle.std.specs.Result.{IsErrAnd}
use Rattle.std.proofs.lemmas.Result.{err_from_is_err_and}
use Rattle.std.proofs.lemmas.List.{length-map}
use Rattle.c_tree.specs.declared.file.CFile.{CFile}
use Rattle.c_tree.specs.declared.file.CFunction.{CFunction}
use Rattle.c_tree.specs.Drafts.{Scope}
use Rattle.c_tree.specs.Objects.{Object}
use Rattle.c_tree.specs.Linking.{Function, Program, Routines, routines, externals, external_object, external_number, function_names, all_functions, linked_function, linked_functions, linked_file, linked_files, file_scope, objects_of, declared_constants, program}
use Rattle.expression_linker.specs.declared.failure.LinkFail.{LinkFail}
use Rattle.expression_linker.specs.declared.failure.LinkFail.TheVariants as fail
use Rattle.linked_programs.specs.declared.functions.LinkedFunction.{LinkedFunction}
use Rattle.linked_programs.specs.declared.objects.LinkedObject.{LinkedObject}
use Rattle.linked_programs.specs.declared.programs.LinkedProgram.{LinkedProgram}
use Rattle.linked_programs.specs.LinkedPrograms.{object_of, function_of, program_of}
use Rattle.c_linker.specs.LinkedFiles.{LinksProgram}
use Rattle.c_linker.specs.LinkedParts.{StandBehind, LinksPart}

-- ## How many functions there are

functions-counted : (numbers : Routines) (own base : ℕ) (outer : Scope) (functions : List CFunction) → length (linked_functions numbers own outer base functions).functions ≡ length (function_names functions)
functions-counted numbers own base outer [] = refl
functions-counted numbers own base outer (function ∷ later) =
    ap suc (functions-counted numbers own (base + length (linked_function numbers own outer base function).objects) outer later)

names-counted : (xs ys : List CFunction) → length (function_names (xs ++ ys)) ≡ length (function_names xs) + length (function_names ys)
names-counted xs ys = ap length (both xs ys) ∙ length-append (function_names xs) (function_names ys)
  where
    both : (xs ys : List CFunction) → function_names (xs ++ ys) ≡ function_names xs ++ function_names ys
    both [] ys = refl
    both (x ∷ xs) ys = ap (λ rest. x.name ∷ rest) (both xs ys)

files-counted : (numbers : Routines) (places : List ℕ → Option ℕ) (own base : ℕ) (files : List CFile) → length (linked_files numbers places own base files).functions ≡ length (function_names (all_functions files))
files-counted numbers places own base [] = refl
files-counted numbers places own base (file ∷ later) =
    let first : Program = linked_file numbers places own base file in
    let scope : Scope = file_scope numbers places base file in
    let constants : List Object = objects_of scope base (declared_constants file.constants) in
    let rest : Program = linked_files numbers places own (base + length first.objects) later in
    length-append first.functions rest.functions
    ∙ ap (λ n. n + length rest.functions) (functions-counted numbers own (base + length constants) scope file.functions)
    ∙ ap (λ n. length (function_names file.functions) + n) (files-counted numbers places own (base + length first.objects) later)
    ∙ sym (names-counted file.functions (all_functions later))

-- ## The program

abbrev own_count : List CFile → ℕ
own_count files = length (function_names (all_functions files))

abbrev defined_files : List CFile → Program
defined_files files = linked_files (routines (function_names (all_functions files))) (external_number (externals files)) (own_count files) (length (externals files)) files

-- the files behind the external objects, by tables of the numbers
pub record Behind (files : List CFile) (numbers : Routines) (places : List ℕ → Option ℕ) (none : List LinkedFunction) (before outside : List LinkedObject) : Type 0 where
  pub numbered : (q : List ℕ) → numbers q ≡ routines (function_names (all_functions files)) q
  pub placed : (q : List ℕ) → places q ≡ external_number (externals files) q
  pub no_functions : none ≡ []
  pub no_objects : before ≡ []
  pub outside_put : map object_of outside ≡ map object_of before ++ map external_object (externals files)

outside-stand : {files : List CFile} {numbers : Routines} {places : List ℕ → Option ℕ} {none : List LinkedFunction} {before outside : List LinkedObject} → Behind files numbers places none before outside →
    map object_of outside ≡ map external_object (externals files)
outside-stand {files = files} behind = behind.outside_put ∙ ap (λ z. map object_of z ++ map external_object (externals files)) behind.no_objects

same-files : (files : List CFile) (numbers : Routines) (places : List ℕ → Option ℕ) (none : List LinkedFunction) (before outside : List LinkedObject) → Behind files numbers places none before outside →
    linked_files numbers places (own_count files) (length outside) files ≡ defined_files files
same-files files numbers places none before outside behind =
    let count : length outside ≡ length (externals files) = sym (length-map outside object_of) ∙ ap length (outside-stand behind) ∙ length-map (externals files) external_object in
    ap (λ z. linked_files z places (own_count files) (length outside) files) (fun_ext behind.numbered)
    ∙ ap (λ z. linked_files (routines (function_names (all_functions files))) z (own_count files) (length outside) files) (fun_ext behind.placed)
    ∙ ap (λ n. linked_files (routines (function_names (all_functions files))) (external_number (externals files)) (own_count files) n files) count

of_parts : List Function → List Object → Program
of_parts functions objects = record { functions = functions; objects = objects }

pub program-made : (files : List CFile) (numbers : Routines) (places : List ℕ → Option ℕ) (none made : List LinkedFunction) (before outside objects : List LinkedObject) → Behind files numbers places none before outside →
    ((own : ℕ) → StandBehind own (linked_files numbers places own (length outside) files) none made outside objects) → program_of (record { functions = made; objects = objects }) ≡ program files
unfolding program of_parts
program-made files numbers places none made before outside objects behind stands =
    let own : ℕ = own_count files in
    let part : Program = defined_files files in
    let stand : StandBehind own part none made outside objects = subst (λ z. StandBehind own z none made outside objects) (same-files files numbers places none before outside behind) (stands own) in
    let functions : map (function_of own) made ≡ part.functions = stand.functions_stand ∙ ap (λ z. map (function_of own) z ++ part.functions) behind.no_functions in
    let count : length made ≡ own =
    sym (length-map made (function_of own))
    ∙ ap length functions
    ∙ files-counted (routines (function_names (all_functions files))) (external_number (externals files)) own (length (externals files)) files in
    ap (λ n. of_parts (map (function_of n) made) (map object_of objects)) count
    ∙ ap (λ z. of_parts z (map object_of objects)) functions
    ∙ ap (λ z. of_parts part.functions z) (stand.objects_stand ∙ ap (λ z. z ++ part.objects) (outside-stand behind))

lost-program : (e : LinkFail) (files : List CFile) (f f' : List LinkedFunction) (o o' : List LinkedObject) → LinksPart (own_count files) (Err e) (defined_files files) f f' o o' → LinksProgram (Err e) (program files)
unfolding program
lost-program fail.Unknown files f f' o o' lost = lost
lost-program fail.Memory files f f' o o' h = tt

pub program-lost : (files : List CFile) (numbers : Routines) (places : List ℕ → Option ℕ) (r : Result LinkedProgram LinkFail) (e : LinkFail) (none made : List LinkedFunction) (before outside objects : List LinkedObject) →
    Behind files numbers places none before outside → IsErrAnd r (λ z. z ≡ e) → ((own : ℕ) → LinksPart own (Err e) (linked_files numbers places own (length outside) files) none made outside objects) → LinksProgram r (program files)
program-lost files numbers places r e none made before outside objects behind is lost =
    let p = err_from_is_err_and r is in
    subst (λ z. LinksProgram z (program files)) (sym (p.1 ∙ ap Err p.2))
    (lost-program e files none made outside objects
    (subst (λ z. LinksPart (own_count files) (Err e) z none made outside objects) (same-files files numbers places none before outside behind) (lost (own_count files))))
