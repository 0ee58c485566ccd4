-- The declarations of a function, one after the other.
use Rattle.std.specs.Borrow.{Bor}
use Rattle.std.specs.List.{flat_map}
use Rattle.std.proofs.lemmas.List.Concat.{flat_map-cons}
use Rattle.std.proofs.Common.{◌≡◌, ℕ, zero, suc, ◌+◌, ◌-◌, ◌<◌, ◌≤◌, Bool, true, false, List, [], ◌∷◌, ◌++◌, map, replicate, append_assoc, refl, sym, ap, ◌∙◌, arith, if◌then◌else◌, Option}
use Rattle.std.proofs.lemmas.List.{append-nil, map-append}
use Rattle.f_tree.specs.CNames.{made_name, NumberTemporary}
use Rattle.c_tree.specs.declared.declaration.CLocal.{CLocal}
use Rattle.c_tree.specs.declared.declaration.CLocal.TheVariants as local
use Rattle.c_tree.specs.declared.types.NumberType.TheVariants as number_type
use Rattle.c_tree.specs.declared.types.ParameterType.TheVariants as parameter
use Rattle.c_tree.specs.declared.types.ArgumentType.TheVariants as argument
use Rattle.library_functions.specs.declared.table.LibraryFunction.{LibraryFunction}
use Rattle.library_functions.specs.Described.{described}
use Rattle.unit_contents.specs.declared.contents.Listing.{Listing}
use Rattle.unit_contents.specs.ContentsOf.{listing_of}
use Rattle.main_translation.specs.main_file.MainFile.{Called, call_for, list_for, lists_from, temporaries_from}
use Rattle.name_facts.specs.declared.table.NameFacts.{NameFacts}
use Rattle.name_facts.specs.GivenFacts.{fact_in}
use Rattle.main_translation.specs.Contents.{if_called, start_output, output_item, end_output, stop_run, number_arguments, function_called}
use Rattle.unit_contents.specs.declared.contents.Calls.{Calls}
use Rattle.unit_writer.specs.Functions.{calls_by, local_if, local_of}
use Rattle.unit_translation.specs.unit_file.UnitFile.{bound_for, extern_for}
use Rattle.f_tree.specs.Values.{Bytes}
use Rattle.unit_writer.specs.declared.heading.KeptBound.{KeptBound}
use Rattle.unit_writer.specs.declared.heading.Procedure.{Procedure}
use Rattle.unit_writer.specs.ToldUnits.{bound_told, callees_told, is_stored_class, stored_names}
use Rattle.unit_writer.proofs.TableLemmas.{texts}

abbrev pub temporary_local : ℕ → CLocal
temporary_local k = local.Number number_type.Integer (made_name (NumberTemporary k))

temporaries_first : (k n m : ℕ) → n ≡ suc m → temporaries_from k n ≡ temporary_local k ∷ temporaries_from (k + 1) m
temporaries_first k n m is =
    let next : suc k ≡ k + 1 = omega arith in
    ap (temporaries_from k) is ∙ ap (λ j. temporary_local k ∷ temporaries_from j m) next

pub temporaries_more : (i count : ℕ) (whole done now : List CLocal) → i < count → whole ≡ done ++ temporaries_from (i + 1) (count - i) → now ≡ done ++ temporary_local (i + 1) ∷ []
    → whole ≡ now ++ temporaries_from (i + 1 + 1) (count - (i + 1))
temporaries_more i count whole done now h so_far put =
    let less : count - i ≡ suc (count - (i + 1)) = omega arith in
    so_far ∙ ap (λ ys. done ++ ys) (temporaries_first (i + 1) (count - i) (count - (i + 1)) less)
    ∙ sym (append_assoc done (temporary_local (i + 1) ∷ []) (temporaries_from (i + 1 + 1) (count - (i + 1))))
    ∙ ap (λ ys. ys ++ temporaries_from (i + 1 + 1) (count - (i + 1))) (sym put)

pub temporaries_end : (i count : ℕ) (whole done : List CLocal) → count ≤ i → whole ≡ done ++ temporaries_from (i + 1) (count - i) → done ≡ whole
temporaries_end i count whole done h so_far =
    let none : count - i ≡ 0 = omega arith in
    sym (so_far ∙ ap (λ n. done ++ temporaries_from (i + 1) n) none ∙ append-nil done)

-- what is kept of dummy arrays
abbrev pub bounds_behind : List KeptBound → List CLocal
bounds_behind bounds = map bound_for (map bound_told bounds)

abbrev pub bound_alone : KeptBound → List CLocal
bound_alone one = bound_for (bound_told one) ∷ []

abbrev pub lists_behind : ℕ → List Listing → List CLocal
lists_behind n ls = lists_from n (map listing_of ls)

abbrev pub list_alone : ℕ → Listing → List CLocal
list_alone n l = list_for n (listing_of l) ∷ []

pub lists_step : (n : ℕ) (l : Listing) (ls : List Listing) → lists_behind n (l ∷ ls) ≡ list_alone n l ++ lists_behind (n + 1) ls
lists_step n l ls =
    let next : suc n ≡ n + 1 = omega arith in
    ap (λ m. list_for n (listing_of l) ∷ lists_from m (map listing_of ls)) next

abbrev pub locals_behind : NameFacts → List (Bor (List ℕ)) → List CLocal
locals_behind table names = map (local_of table) (stored_names table (texts names))

abbrev pub local_alone : NameFacts → Bor (List ℕ) → List CLocal
local_alone table name = local_if (is_stored_class (fact_in table name.now).class) (local_of table name.now)

stored_by : (table : NameFacts) (b : Bool) (x : List ℕ) (later : List (List ℕ))
    → map (local_of table) (if b then x ∷ later else later) ≡ local_if b (local_of table x) ++ map (local_of table) later
unfolding local_if
stored_by table true x later = refl
stored_by table false x later = refl

pub locals_step : (table : NameFacts) (name : Bor (List ℕ)) (names : List (Bor (List ℕ))) → locals_behind table (name ∷ names) ≡ local_alone table name ++ locals_behind table names
unfolding stored_names
locals_step table name names = stored_by table (is_stored_class (fact_in table name.now).class) name.now (stored_names table (texts names))

pub locals_end : (table : NameFacts) → locals_behind table [] ≡ []
unfolding stored_names
locals_end table = refl

abbrev pub functions_behind : List LibraryFunction → List CLocal
functions_behind functions = map call_for (map function_called (map described functions))

abbrev pub function_alone : LibraryFunction → List CLocal
function_alone function = call_for (function_called (described function)) ∷ []

five_calls : (a b c d e : List Called) → map call_for (a ++ (b ++ (c ++ (d ++ e)))) ≡ map call_for a ++ (map call_for b ++ (map call_for c ++ (map call_for d ++ map call_for e)))
five_calls a b c d e =
    map-append call_for a (b ++ (c ++ (d ++ e))) ∙ ap (λ ys. map call_for a ++ ys) (map-append call_for b (c ++ (d ++ e)))
    ∙ ap (λ ys. map call_for a ++ (map call_for b ++ ys)) (map-append call_for c (d ++ e))
    ∙ ap (λ ys. map call_for a ++ (map call_for b ++ (map call_for c ++ ys))) (map-append call_for d e)

pub calls_behind : (calls : Calls) (functions : List LibraryFunction) → functions ≡ calls.functions.items → map call_for (if_called calls.starts start_output)
    ++ (map call_for (if_called calls.takes output_item) ++ (map call_for (if_called calls.finishes end_output) ++ (map call_for (if_called calls.stops stop_run) ++ functions_behind functions)))
    ≡ map call_for (calls_by calls)
unfolding calls_by
calls_behind calls functions same =
    let starts = if_called calls.starts start_output in
    let takes = if_called calls.takes output_item in
    let finishes = if_called calls.finishes end_output in
    let stops = if_called calls.stops stop_run in
    ap (λ fs. map call_for starts ++ (map call_for takes ++ (map call_for finishes ++ (map call_for stops ++ functions_behind fs)))) same
    ∙ sym (five_calls starts takes finishes stops (map function_called (map described calls.functions.items)))

-- each argument of a function of numbers is a pointer
pub arguments_alike : (count : ℕ) → replicate count (argument.Parameter parameter.Integers) ≡ number_arguments count
unfolding number_arguments
arguments_alike zero = refl
arguments_alike (suc n) = ap (λ later. argument.Parameter parameter.Integers ∷ later) (arguments_alike n)

-- the procedures of some names that the set defines
abbrev pub procedures_behind : (Bytes → Option Procedure) → List Bytes → List CLocal
procedures_behind procedures xs = map extern_for (flat_map (callees_told procedures) xs)

abbrev pub procedure_alone : (Bytes → Option Procedure) → Bytes → List CLocal
procedure_alone procedures x = map extern_for (callees_told procedures x)

pub procedures_step : (procedures : Bytes → Option Procedure) (x : Bytes) (xs : List Bytes) → procedures_behind procedures (x ∷ xs) ≡ procedure_alone procedures x ++ procedures_behind procedures xs
procedures_step procedures x xs = ap (map extern_for) (flat_map-cons (callees_told procedures) x xs) ∙ map-append extern_for (callees_told procedures x) (flat_map (callees_told procedures) xs)
