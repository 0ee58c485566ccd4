-- The strings of each file of units that call each other are the texts of STOP statements, so that its printed text spells it.
use Rattle.std.specs.List.{list_all}
use Rattle.std.specs.Prelude.{◌≡◌, ℕ, zero, suc, ◌+◌, true, ◌&&◌, List, [], ◌∷◌, ◌++◌, map, length, Option, Some, None, slice_get}
use Rattle.std.proofs.Common.{refl, sym, ap, ◌∙◌, subst, arith}
use Rattle.std.proofs.lemmas.Bool.{lt-ltb}
use Rattle.std.proofs.lemmas.List.Folds.{list_all-append}
use Rattle.main_file_texts.specs.f_tree.Values.{Bytes}
use Rattle.main_file_texts.specs.f_tree.CNames.{variable_name}
use Rattle.main_file_texts.specs.f_tree.Setting.{first_in, later_in}
use Rattle.main_file_texts.specs.l_core.Steps.{Step, Halt}
use Rattle.c_spelling.specs.c_tree.declared.types.NumberType.{NumberType}
use Rattle.c_spelling.specs.c_tree.declared.declaration.CLocal.{CLocal}
use Rattle.c_spelling.specs.Spelled.{of_bytes, file_of_bytes, statements_of_bytes, local_of_bytes, function_of_bytes}
use Rattle.c_spelling.proofs.Files.{file_spelled}
use Rattle.main_file_texts.specs.faithful.UnitsAtStart.{AreBytes}
use Rattle.main_file_texts.specs.main_file.MainFile.{variable_by}
use Rattle.main_file_texts.specs.main_file.MainItems.{stops_from}
use Rattle.unit_programs.specs.unit_file.UnitFile.{Variable, Listing, KeptBound, Callee, Inventory, variable_for, lists_from, temporaries_from, result_local, bound_for, extern_for, unit_locals, unit_function, units_file}
use Rattle.unit_programs.specs.unit_sites.UnitSites.{file_for}
use Rattle.unit_programs.specs.TranslatedUnits.{Rendering, written_of, whole_text}
use Rattle.unit_programs.proofs.Objects.{its_items}
use Rattle.unit_file_texts.specs.SpelledUnits.{UnitFilesAreOfBytes, UnitFilesAreSpelled}
use Rattle.unit_file_texts.proofs.TreeStrings.{all_of_bytes, in_whole}
use Rattle.unit_file_texts.proofs.UnitTexts.{stands_in, unit_files_are_well_formed}

-- ## The texts of STOP statements

text_of_bytes : (text : Bytes) → AreBytes text → of_bytes text ≡ true
text_of_bytes [] are = refl
text_of_bytes (byte ∷ later) are = (λ i. lt-ltb byte 256 (are byte first_in) i && text_of_bytes later (λ other o. are other (later_in o)) i)

stops_of_bytes : (texts : ℕ → List ℕ) (k : ℕ) (steps : List Step) → ((n m : ℕ) (text : Bytes) → m ≡ k + n → slice_get steps n ≡ Some (Halt text) → of_bytes (texts m) ≡ true) → all_of_bytes (map texts (stops_from k steps)) ≡ true
unfolding stops_from
stops_of_bytes texts k [] each = refl
stops_of_bytes texts k (Halt text ∷ later) each = (λ i. each zero k text (omega arith) refl i && stops_of_bytes texts (suc k) later (λ n m other same at. each (suc n) m other (omega (arith, same)) at) i)
stops_of_bytes texts k (st ∷ later) each = stops_of_bytes texts (suc k) later (λ n m other same at. each (suc n) m other (omega (arith, same)) at)

-- ## Declarations

both_of_bytes : (xs ys : List CLocal) → list_all local_of_bytes xs ≡ true → list_all local_of_bytes ys ≡ true → list_all local_of_bytes (xs ++ ys) ≡ true
both_of_bytes xs ys one other = list_all-append local_of_bytes xs ys ∙ (λ i. one i && other i)

result_of_bytes : (returned : Option NumberType) → list_all local_of_bytes (result_local returned) ≡ true
result_of_bytes None = refl
result_of_bytes (Some type) = refl

temporaries_of_bytes : (k n : ℕ) → list_all local_of_bytes (temporaries_from k n) ≡ true
temporaries_of_bytes k zero = refl
temporaries_of_bytes k (suc n) = temporaries_of_bytes (suc k) n

bounds_of_bytes : (bounds : List KeptBound) → list_all local_of_bytes (map bound_for bounds) ≡ true
bounds_of_bytes [] = refl
bounds_of_bytes (one ∷ bounds) = bounds_of_bytes bounds

calls_of_bytes : (calls : List Callee) → list_all local_of_bytes (map extern_for calls) ≡ true
calls_of_bytes [] = refl
calls_of_bytes (call ∷ calls) = calls_of_bytes calls

variable_of_bytes : (of : NumberType) (name : List ℕ) (count : Option ℕ) → local_of_bytes (variable_by of name count) ≡ true
variable_of_bytes of name None = refl
variable_of_bytes of name (Some n) = refl

variables_of_bytes : (vs : List Variable) → list_all local_of_bytes (map variable_for vs) ≡ true
variables_of_bytes [] = refl
variables_of_bytes (v ∷ vs) = (λ i. variable_of_bytes v.type (variable_name v.name) v.count i && variables_of_bytes vs i)

lists_of_bytes : (k : ℕ) (ls : List Listing) → list_all local_of_bytes (lists_from k ls) ≡ true
lists_of_bytes k [] = refl
lists_of_bytes k (l ∷ ls) = lists_of_bytes (suc k) ls

locals_of_bytes : (v : Inventory) → list_all local_of_bytes (unit_locals v) ≡ true
locals_of_bytes v =
    both_of_bytes (result_local v.returned) (temporaries_from 1 v.temporaries ++ (map bound_for v.bounds ++ (map extern_for v.calls ++ (map variable_for v.variables ++ lists_from 1 v.lists)))) (result_of_bytes v.returned)
    (both_of_bytes (temporaries_from 1 v.temporaries) (map bound_for v.bounds ++ (map extern_for v.calls ++ (map variable_for v.variables ++ lists_from 1 v.lists))) (temporaries_of_bytes 1 v.temporaries)
    (both_of_bytes (map bound_for v.bounds) (map extern_for v.calls ++ (map variable_for v.variables ++ lists_from 1 v.lists)) (bounds_of_bytes v.bounds)
    (both_of_bytes (map extern_for v.calls) (map variable_for v.variables ++ lists_from 1 v.lists) (calls_of_bytes v.calls)
    (both_of_bytes (map variable_for v.variables) (lists_from 1 v.lists) (variables_of_bytes v.variables) (lists_of_bytes 1 v.lists)))))

-- ## The file

function_holds : (r : Rendering) → statements_of_bytes r.written.body ≡ true → function_of_bytes (unit_function r.written) ≡ true
function_holds r body = (λ i. locals_of_bytes r.written.inventory i && body i)

functions_hold : (rs : List Rendering) → ((j : ℕ) (r : Rendering) → slice_get rs j ≡ Some r → statements_of_bytes r.written.body ≡ true) → list_all function_of_bytes (map unit_function (written_of rs)) ≡ true
functions_hold [] each = refl
functions_hold (r ∷ rs) each = (λ i. function_holds r (each zero r refl) i && functions_hold rs (λ j q at. each (suc j) q at) i)

pub unit_files_are_of_bytes : UnitFilesAreOfBytes
unit_files_are_of_bytes fs rs is f part of = subst (λ units. file_of_bytes (units_file f.constants units) ≡ true) of.written (functions_hold part statements)
  where
    statements : (i : ℕ) (r : Rendering) → slice_get part i ≡ Some r → statements_of_bytes r.written.body ≡ true
    statements i r at =
        let j = length of.before + i in
        let stands = stands_in rs f part of i r at in
        let unit = is.units j r stands in
        let v = r.written.inventory in
        sym (in_whole r.written.body) ∙ ap all_of_bytes ((its_items fs rs is j r stands).strings ∙ ap (map v.texts) unit.built.stops)
        ∙ stops_of_bytes v.texts 0 (whole_text r).steps
        (λ n m text same there.
        let here : m ≡ n = omega (arith, same) in subst (λ k. of_bytes (v.texts k) ≡ true) (sym here) (ap of_bytes (unit.passes.texts n text there) ∙ text_of_bytes text (unit.passes.short n text there).0))

pub unit_files_are_spelled : UnitFilesAreSpelled
unit_files_are_spelled fs rs is f part of spellable = file_spelled (file_for f) (unit_files_are_of_bytes fs rs is f part of) (unit_files_are_well_formed fs rs is f part of spellable)
