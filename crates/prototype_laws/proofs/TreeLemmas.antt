-- The functions of the C tree of a FORTRAN file tell the prototypes of the file: the names that are left out are none by which a unit is called.
use Rattle.std.proofs.Common.{◌≡◌, ℕ, ◌-◌, Bool, true, false, List, [], ◌∷◌, ◌++◌, length, map, take, drop, refl, sym, ap, ◌∙◌, arith, length-append}
use Rattle.std.specs.Prelude.{◌==◌, nat_eq, not, filter, reverse, codes, bytes_eq, if◌then◌else◌}
use Rattle.std.specs.Bool.{Decides}
use Rattle.std.specs.List.{list_any, flat_map, ends_with}
use Rattle.std.proofs.lemmas.Bool.{and_from, not_from_false, not_from_true, both_ways, or_right, and_right, eqb-true, eq-eqb, false_from_ne_true}
use Rattle.std.proofs.lemmas.List.{reverse-append, reverse-reverse, map-append, take-append-drop}
use Rattle.std.proofs.lemmas.List.Elements.{filter-append}
use Rattle.std.proofs.lemmas.List.Folds.{list_any-append}
use Rattle.std.proofs.lemmas.Slice.Eq.{bytes_eq-Decides, slice_eq-Decides}
use Rattle.std.proofs.Math.Seq.{drop-append_seam}
use Rattle.prototypes.specs.f_tree.declared.names.Options.{Options}
use Rattle.prototypes.specs.f_tree.declared.units.Unit.{Unit as WrittenUnit}
use Rattle.prototypes.specs.f_tree.declared.units.File.{File}
use Rattle.prototypes.specs.f_tree.Facts.{UnitKind, MainProgram, SubroutineUnit, FunctionUnit, BlockDataUnit, EntryPoint, ProgramUnit}
use Rattle.prototypes.specs.f_tree.Uses.{Use, uses_of_statements}
use Rattle.prototypes.specs.f_tree.Attributes.{Described, arrays_of, all_described}
use Rattle.prototypes.specs.f_tree.Lines.{unit_read}
use Rattle.prototypes.specs.f_tree.CNames.{Dummy, has_underscore, external_name, main_name, entries_name, GivesNothing, entries_parameters_of}
use Rattle.prototypes.specs.c_tree.declared.declaration.CParam.{CParam}
use Rattle.prototypes.specs.c_tree.declared.file.CFunction.{CFunction}
use Rattle.prototypes.specs.c_tree.declared.file.CFile.{CFile}
use Rattle.prototypes.specs.faithful.Signatures.{Parameter, Signature, signature, signature_of, entry_signature, dummy_of, gives_of, is_dummy, procedure_signatures, signatures_by, unit_signatures, file_signatures}
use Rattle.prototypes.specs.declared.prototype.Prototype.{Prototype}
use Rattle.prototypes.specs.FilePrototypes.{prototype_of, prototypes_by, unit_prototypes, file_prototypes}
use Rattle.prototypes.specs.TreePrototypes.{is_called_outside, function_prototype, function_prototypes, tree_prototypes}

-- ## Names

-- what stands behind a text, last byte first
last_first : (a b s t : List ℕ) → a ++ s ≡ b ++ t → reverse s ++ reverse a ≡ reverse t ++ reverse b
last_first a b s t h = sym (reverse-append a s) ∙ ap reverse h ∙ reverse-append b t

from_last : (a s : List ℕ) → reverse a ≡ s → a ≡ reverse s
from_last a s h = sym (reverse-reverse a) ∙ ap reverse h

-- a text with these two ends
two_ends : (front name : List ℕ) → front ++ codes "_0_" ≡ name ++ codes "__" → ⊥
two_ends front name h = absurd (let e = last_first front name (codes "_0_") (codes "__") h in cc)

later_same : (x : ℕ) (xs ys : List ℕ) → x ∷ xs ≡ x ∷ ys → xs ≡ ys
later_same x xs ys h = cc

underscore_at : (front : List ℕ) (c : ℕ) → has_underscore (front ++ 95 ∷ c ∷ []) ≡ true
unfolding has_underscore
underscore_at front c = list_any-append (λ byte. byte == 95) front (95 ∷ c ∷ []) ∙ or_right (list_any (λ byte. byte == 95) front) true refl

-- a name behind which one underscore makes `name_0_` has one itself
one_end : (front name : List ℕ) → front ++ codes "_0_" ≡ name ++ codes "_" → has_underscore name ≡ true
one_end front name h =
    let e = later_same 95 (48 ∷ 95 ∷ reverse front) (reverse name) (last_first front name (codes "_0_") (codes "_") h) in
    let back : name ≡ reverse (48 ∷ 95 ∷ reverse front) = from_last name (48 ∷ 95 ∷ reverse front) (sym e) in
    let whole : reverse (48 ∷ 95 ∷ reverse front) ≡ front ++ 95 ∷ 48 ∷ [] =
    reverse-append (48 ∷ 95 ∷ []) (reverse front) ∙ ap (λ w. w ++ 95 ∷ 48 ∷ []) (reverse-reverse front) in
    ap has_underscore (back ∙ whole) ∙ underscore_at front 48

main_two : (name : List ℕ) → name ++ codes "__" ≡ codes "MAIN__" → has_underscore name ≡ false
unfolding has_underscore
main_two name h =
    let e = later_same 95 _ _ (later_same 95 _ _ (last_first name (codes "MAIN") (codes "__") (codes "__") h)) in
    ap has_underscore (from_last name (reverse (codes "MAIN")) e)

main_one : (name : List ℕ) → name ++ codes "_" ≡ codes "MAIN__" → has_underscore name ≡ true
unfolding has_underscore
main_one name h =
    let e = later_same 95 _ _ (last_first name (codes "MAIN_") (codes "_") (codes "_") h) in
    ap has_underscore (from_last name (reverse (codes "MAIN_")) e)

same_number : (a b : ℕ) → Decides (nat_eq a b) (a ≡ b)
same_number a b = (eqb-true a b, eq-eqb a b)

-- an end of a text
end_is : (text end : List ℕ) → ends_with nat_eq text end ≡ true → text ≡ take (length text - length end) text ++ end
end_is text end h =
    let same : end ≡ drop (length text - length end) text = (slice_eq-Decides same_number end (drop (length text - length end) text) true (sym h)).0 refl in
    sym (take-append-drop (length text - length end) text) ∙ ap (λ w. take (length text - length end) text ++ w) (sym same)

called : (name : List ℕ) → (name ≡ codes "MAIN__" → ⊥) → ((front : List ℕ) → name ≡ front ++ codes "_0_" → ⊥) → is_called_outside name ≡ true
unfolding is_called_outside
called name other none =
    and_from (not (bytes_eq name (codes "MAIN__"))) (not (ends_with nat_eq name (codes "_0_")))
    (not_from_false (bytes_eq name (codes "MAIN__")) (false_from_ne_true (bytes_eq name (codes "MAIN__")) (λ h. other ((bytes_eq-Decides name (codes "MAIN__")).0 h))))
    (not_from_false (ends_with nat_eq name (codes "_0_")) (false_from_ne_true (ends_with nat_eq name (codes "_0_")) (λ h. none _ (end_is name (codes "_0_") h))))

named_by : (name : List ℕ) (t : Bool) → has_underscore name ≡ t → is_called_outside (if t then name ++ codes "__" else name ++ codes "_") ≡ true
named_by name true h =
    called (name ++ codes "__") (λ e. both_ways (has_underscore name) (main_two name e) h) (λ front e. two_ends front name (sym e))
named_by name false h =
    called (name ++ codes "_") (λ e. both_ways (has_underscore name) h (main_one name e)) (λ front e. both_ways (has_underscore name) h (one_end front name (sym e)))

called_external : (name : List ℕ) → is_called_outside (external_name name) ≡ true
unfolding external_name
called_external name = named_by name (has_underscore name) refl

called_main : is_called_outside main_name ≡ false
unfolding is_called_outside main_name
called_main = refl

ends : (name : List ℕ) → ends_with nat_eq (name ++ codes "_0_") (codes "_0_") ≡ true
ends name =
    let whole : length (name ++ codes "_0_") - 3 ≡ length name = let e = length-append name (codes "_0_") in omega arith in
    let rest : drop (length (name ++ codes "_0_") - 3) (name ++ codes "_0_") ≡ codes "_0_" =
    ap (λ n. drop n (name ++ codes "_0_")) whole ∙ drop-append_seam name (codes "_0_") in
    (slice_eq-Decides same_number (codes "_0_") (drop (length (name ++ codes "_0_") - 3) (name ++ codes "_0_")) (ends_with nat_eq (name ++ codes "_0_") (codes "_0_")) refl).1 (sym rest)

called_entries : (name : List ℕ) → is_called_outside (entries_name name) ≡ false
unfolding is_called_outside entries_name
called_entries name =
    and_right (not (bytes_eq (name ++ codes "_0_") (codes "MAIN__"))) (not (ends_with nat_eq (name ++ codes "_0_") (codes "_0_")))
    (not_from_true (ends_with nat_eq (name ++ codes "_0_") (codes "_0_")) (ends name))

-- ## Signatures

abbrev is_kept : Signature → Bool
is_kept s = is_called_outside s.name

-- the prototypes of the signatures whose names are called outside
abbrev kept : List Signature → List Prototype
kept signatures = map prototype_of (filter is_kept signatures)

kept_first : (s : Signature) (later : List Signature) → is_kept s ≡ true → kept (s ∷ later) ≡ prototype_of s ∷ kept later
kept_first s later h = ap (λ t. map prototype_of (if t then s ∷ filter is_kept later else filter is_kept later)) h

left_first : (s : Signature) (later : List Signature) → is_kept s ≡ false → kept (s ∷ later) ≡ kept later
left_first s later h = ap (λ t. map prototype_of (if t then s ∷ filter is_kept later else filter is_kept later)) h

kept_both : (xs ys : List Signature) → kept (xs ++ ys) ≡ kept xs ++ kept ys
kept_both xs ys = ap (map prototype_of) (filter-append is_kept xs ys) ∙ map-append prototype_of (filter is_kept xs) (filter is_kept ys)

-- the functions of a tree by their signatures
abbrev told_params : List CParam → List Parameter
told_params ps = map (λ p. record { type = p.of; name = p.name }) ps

abbrev params_of : List Parameter → List CParam
params_of ps = map (λ p. record { of = p.type; name = p.name }) ps

params_back : (ps : List CParam) → params_of (told_params ps) ≡ ps
params_back [] = refl
params_back (p ∷ ps) = ap (λ qs. p ∷ qs) (params_back ps)

function_back : (f : CFunction) → prototype_of (signature_of f) ≡ function_prototype f
unfolding prototype_of function_prototype
function_back f = ap (λ ps. record { result = f.result; name = f.name; params = ps }) (params_back f.params)

abbrev is_kept_function : CFunction → Bool
is_kept_function f = is_called_outside f.name

by_name : (f : CFunction) (later : List CFunction) (t : Bool) → map prototype_of (filter is_kept (map signature_of later)) ≡ map function_prototype (filter is_kept_function later)
    → map prototype_of (if t then signature_of f ∷ filter is_kept (map signature_of later) else filter is_kept (map signature_of later))
    ≡ map function_prototype (if t then f ∷ filter is_kept_function later else filter is_kept_function later)
by_name f later true h = ap (λ p. p ∷ map prototype_of (filter is_kept (map signature_of later))) (function_back f) ∙ ap (λ ps. function_prototype f ∷ ps) h
by_name f later false h = h

functions_back : (fs : List CFunction) → kept (map signature_of fs) ≡ map function_prototype (filter is_kept_function fs)
functions_back [] = refl
functions_back (f ∷ later) = by_name f later (is_called_outside f.name) (functions_back later)

-- ## The units of a file

abbrev entry_prototypes : ProgramUnit → (List ℕ → Dummy) → List EntryPoint → List Prototype
entry_prototypes unit dummy entries = map (λ entry. prototype_of (entry_signature unit dummy entry)) entries

entry_kept : (unit : ProgramUnit) (dummy : List ℕ → Dummy) (entry : EntryPoint) → is_kept (entry_signature unit dummy entry) ≡ true
unfolding entry_signature signature
entry_kept unit dummy entry = called_external entry.name

entries_kept : (unit : ProgramUnit) (dummy : List ℕ → Dummy) (entries : List EntryPoint) → kept (map (entry_signature unit dummy) entries) ≡ entry_prototypes unit dummy entries
entries_kept unit dummy [] = refl
entries_kept unit dummy (entry ∷ later) =
    kept_first (entry_signature unit dummy entry) (map (entry_signature unit dummy) later) (entry_kept unit dummy entry)
    ∙ ap (λ ps. prototype_of (entry_signature unit dummy entry) ∷ ps) (entries_kept unit dummy later)

all_left : (unit : ProgramUnit) (dummy : List ℕ → Dummy) (all : List (List ℕ)) (own : EntryPoint)
    → is_kept (signature (entries_name own.name) (gives_of unit own) (entries_parameters_of (gives_of unit own) (map dummy all))) ≡ false
unfolding signature
all_left unit dummy all own = called_entries own.name

procedure_kept : (unit : ProgramUnit) (dummy : List ℕ → Dummy) (all : List (List ℕ)) (entries : List EntryPoint)
    → kept (procedure_signatures unit dummy all entries) ≡ entry_prototypes unit dummy entries
unfolding procedure_signatures
procedure_kept unit dummy all [] = refl
procedure_kept unit dummy all (only ∷ []) = entries_kept unit dummy (only ∷ [])
procedure_kept unit dummy all (own ∷ entry ∷ later) =
    left_first (signature (entries_name own.name) (gives_of unit own) (entries_parameters_of (gives_of unit own) (map dummy all)))
    (map (entry_signature unit dummy) (own ∷ entry ∷ later)) (all_left unit dummy all own)
    ∙ entries_kept unit dummy (own ∷ entry ∷ later)

main_left : is_kept (signature main_name GivesNothing []) ≡ false
unfolding signature
main_left = called_main

kind_kept : (kind : UnitKind) (unit : ProgramUnit) (uses : List Use) (described : List Described)
    → kept (signatures_by kind unit uses described) ≡ prototypes_by kind unit uses
unfolding signatures_by prototypes_by
kind_kept MainProgram unit uses described = left_first (signature main_name GivesNothing []) [] main_left
kind_kept BlockDataUnit unit uses described = refl
kind_kept SubroutineUnit unit uses described =
    procedure_kept unit (dummy_of uses unit.attribute) (map (λ d. d.name) (filter is_dummy described)) unit.entries
kind_kept FunctionUnit unit uses described =
    procedure_kept unit (dummy_of uses unit.attribute) (map (λ d. d.name) (filter is_dummy described)) unit.entries

unit_kept : (options : Options) (u : WrittenUnit) → kept (unit_signatures options u) ≡ unit_prototypes options u
unfolding unit_signatures unit_prototypes
unit_kept options u = kind_kept (unit_read options u).kind (unit_read options u) (uses_of_statements (arrays_of u) u.statements) (all_described u)

units_kept : (options : Options) (us : List WrittenUnit) → kept (flat_map (unit_signatures options) us) ≡ flat_map (unit_prototypes options) us
units_kept options [] = refl
units_kept options (u ∷ us) =
    kept_both (unit_signatures options u) (flat_map (unit_signatures options) us)
    ∙ ap (λ ps. ps ++ kept (flat_map (unit_signatures options) us)) (unit_kept options u)
    ∙ ap (λ ps. unit_prototypes options u ++ ps) (units_kept options us)

pub same_prototypes : (options : Options) (file : File) (text : CFile) → map signature_of text.functions ≡ file_signatures options file
    → tree_prototypes text ≡ file_prototypes options file
unfolding function_prototypes file_signatures file_prototypes
same_prototypes options file text h = sym (functions_back text.functions) ∙ ap kept h ∙ units_kept options file.units
