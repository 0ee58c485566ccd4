-- What the locals of a main program declare.
use Rattle.std.specs.Prelude.{◌≡◌, ℕ, zero, suc, ◌+◌, ◌*◌, ◌<◌, pos, List, [], ◌∷◌, ◌++◌, map, length, Option, Some, None, slice_get}
use Rattle.std.proofs.Common.{refl, ap, ◌∙◌, arith}
use Rattle.std.proofs.lemmas.List.{append-nil, length-append, length-map}
use Rattle.main_file.specs.f_tree.CNames.{variable_name, made_name, NumberTemporary, ControlList}
use Rattle.linking_laws.specs.c_tree.declared.types.ListType.TheVariants as list_type
use Rattle.linking_laws.specs.c_tree.declared.types.NumberType.{NumberType}
use Rattle.linking_laws.specs.c_tree.declared.declaration.CField.TheVariants as field
use Rattle.linking_laws.specs.c_tree.declared.declaration.CLocal.{CLocal}
use Rattle.linking_laws.specs.c_tree.Access.{ToNumber}
use Rattle.linking_laws.specs.c_tree.Objects.{Object}
use Rattle.linking_laws.specs.c_tree.Terms.{Term}
use Rattle.linking_laws.specs.c_tree.Declarations.{Declared, made, unset, filled, number_or_zero, numbers_or_none, declared_list, declared_statics, declared_automatics, declared_externs, variable, array}
use Rattle.linking_laws.specs.c_tree.Linking.{strings_of}
use Rattle.main_file.specs.MainFile.{Inventory, Variable, Listing, Called, variable_by, variable_for, lists_from, temporaries_from, call_for, main_locals, list_names, temporary_names, lasting_names, called_names}
use Rattle.linking_laws.specs.Linked.{names_of}
use Rattle.linking_laws.proofs.Places.{some_same, get_front, get_back, map_at}

-- ## What each declares

abbrev pub stands_by : Option ℕ → ℕ → Term
stands_by None = variable ToNumber
stands_by (Some count) = array ToNumber

abbrev pub object_by : Option ℕ → Object
object_by None = filled 4 (number_or_zero None)
object_by (Some count) = filled (4 * count) (numbers_or_none None)

abbrev pub declared_variable : Variable → Declared
declared_variable v = made (variable_name v.name) (stands_by v.count) (object_by v.count)

abbrev pub declared_listing : ℕ → Listing → Declared
declared_listing k l =
    declared_list list_type.Transfer (made_name (ControlList k)) (field.Number (pos 0) ∷ field.Number l.unit ∷ field.Number (pos 0) ∷ field.Number (pos 0) ∷ field.Number (pos 0) ∷ [])

abbrev pub listings : ℕ → List Listing → List Declared
listings k [] = []
listings k (l ∷ ls) = declared_listing k l ∷ listings (suc k) ls

abbrev pub declared_temporary : ℕ → Declared
declared_temporary k = made (made_name (NumberTemporary k)) (variable ToNumber) (unset 4)

abbrev pub temporaries : ℕ → ℕ → List Declared
temporaries k zero = []
temporaries k (suc n) = declared_temporary k ∷ temporaries (suc k) n

-- ## The objects that last

past_temporaries : (k n : ℕ) (behind : List CLocal) → declared_statics (temporaries_from k n ++ behind) ≡ declared_statics behind
past_temporaries k zero behind = refl
past_temporaries k (suc n) behind = past_temporaries (suc k) n behind

past_calls : (calls : List Called) (behind : List CLocal) → declared_statics (map call_for calls ++ behind) ≡ declared_statics behind
past_calls [] behind = refl
past_calls (c ∷ calls) behind = past_calls calls behind

variable_first : (count : Option ℕ) (type : NumberType) (name : List ℕ) (behind : List CLocal) → declared_statics (variable_by type name count ∷ behind) ≡ made name (stands_by count) (object_by count) ∷ declared_statics behind
variable_first None type name behind = refl
variable_first (Some count) type name behind = refl

variables_first : (vs : List Variable) (behind : List CLocal) → declared_statics (map variable_for vs ++ behind) ≡ map declared_variable vs ++ declared_statics behind
variables_first [] behind = refl
variables_first (v ∷ vs) behind = variable_first v.count v.type (variable_name v.name) (map variable_for vs ++ behind) ∙ ap (λ ds. declared_variable v ∷ ds) (variables_first vs behind)

lists_declared : (k : ℕ) (ls : List Listing) → declared_statics (lists_from k ls) ≡ listings k ls
lists_declared k [] = refl
lists_declared k (l ∷ ls) = ap (λ ds. declared_listing k l ∷ ds) (lists_declared (suc k) ls)

pub statics_listed : (v : Inventory) → declared_statics (main_locals v) ≡ map declared_variable v.variables ++ listings 1 v.lists
statics_listed v =
    past_temporaries 1 v.temporaries (map call_for v.calls ++ (map variable_for v.variables ++ lists_from 1 v.lists)) ∙ past_calls v.calls (map variable_for v.variables ++ lists_from 1 v.lists)
    ∙ variables_first v.variables (lists_from 1 v.lists) ∙ ap (λ ds. map declared_variable v.variables ++ ds) (lists_declared 1 v.lists)

no_list_strings : (k : ℕ) (ls : List Listing) → strings_of (listings k ls) ≡ []
no_list_strings k [] = refl
no_list_strings k (l ∷ ls) = no_list_strings (suc k) ls

no_strings_from : (vs : List Variable) (k : ℕ) (ls : List Listing) → strings_of (map declared_variable vs ++ listings k ls) ≡ []
no_strings_from [] k ls = no_list_strings k ls
no_strings_from (v ∷ vs) k ls = no_strings_from vs k ls

pub no_strings : (v : Inventory) → strings_of (declared_statics (main_locals v)) ≡ []
no_strings v = ap strings_of (statics_listed v) ∙ no_strings_from v.variables 1 v.lists

list_names_are : (k : ℕ) (ls : List Listing) → names_of (listings k ls) ≡ list_names k ls
list_names_are k [] = refl
list_names_are k (l ∷ ls) = ap (λ ns. made_name (ControlList k) ∷ ns) (list_names_are (suc k) ls)

lasting_names_from : (vs : List Variable) (k : ℕ) (ls : List Listing) → names_of (map declared_variable vs ++ listings k ls) ≡ map (λ (one : Variable). variable_name one.name) vs ++ list_names k ls
lasting_names_from [] k ls = list_names_are k ls
lasting_names_from (v ∷ vs) k ls = ap (λ ns. variable_name v.name ∷ ns) (lasting_names_from vs k ls)

pub lasting_names_are : (v : Inventory) → names_of (declared_statics (main_locals v)) ≡ lasting_names v
lasting_names_are v = ap names_of (statics_listed v) ∙ lasting_names_from v.variables 1 v.lists

listings_count : (k : ℕ) (ls : List Listing) → length (listings k ls) ≡ length ls
listings_count k [] = refl
listings_count k (l ∷ ls) = ap suc (listings_count (suc k) ls)

pub statics_count : (v : Inventory) → length (declared_statics (main_locals v)) ≡ length v.variables + length v.lists
statics_count v =
    ap length (statics_listed v) ∙ length-append (map declared_variable v.variables) (listings 1 v.lists) ∙ (λ i. length-map v.variables declared_variable i + listings_count 1 v.lists i)

pub variable_at : (v : Inventory) (i : ℕ) (one : Variable) → slice_get v.variables i ≡ Some one → slice_get (declared_statics (main_locals v)) i ≡ Some (declared_variable one)
variable_at v i one at =
    ap (λ ds. slice_get ds i) (statics_listed v) ∙ get_front (map declared_variable v.variables) (listings 1 v.lists) i (declared_variable one) (map_at declared_variable v.variables i one at)

listing_from : (k : ℕ) (ls : List Listing) (i : ℕ) (l : Listing) → slice_get ls i ≡ Some l → slice_get (listings k ls) i ≡ Some (declared_listing (k + i) l)
listing_from k [] i l at = absurd (cc)
listing_from k (m ∷ ls) zero l at = (λ j. Some (declared_listing (same j) (some_same m l at j)))
  where
    same : k ≡ k + 0
    same = omega arith
listing_from k (m ∷ ls) (suc i) l at = listing_from (suc k) ls i l at ∙ ap (λ n. Some (declared_listing n l)) {x = suc k + i} {y = k + suc i} (omega arith)

pub listing_at : (v : Inventory) (i : ℕ) (l : Listing) → slice_get v.lists i ≡ Some l → slice_get (declared_statics (main_locals v)) (length v.variables + i) ≡ Some (declared_listing (1 + i) l)
listing_at v i l at =
    let count = length-map v.variables declared_variable in
    ap (λ ds. slice_get ds (length v.variables + i)) (statics_listed v)
    ∙ get_back (map declared_variable v.variables) (listings 1 v.lists) (length v.variables + i) i (declared_listing (1 + i) l) (omega (arith, count)) (listing_from 1 v.lists i l at)

-- ## The frame

temporaries_first : (k n : ℕ) (behind : List CLocal) → declared_automatics (temporaries_from k n ++ behind) ≡ temporaries k n ++ declared_automatics behind
temporaries_first k zero behind = refl
temporaries_first k (suc n) behind = ap (λ ds. declared_temporary k ∷ ds) (temporaries_first (suc k) n behind)

none_of_calls : (calls : List Called) (behind : List CLocal) → declared_automatics (map call_for calls ++ behind) ≡ declared_automatics behind
none_of_calls [] behind = refl
none_of_calls (c ∷ calls) behind = none_of_calls calls behind

none_of_variable : (count : Option ℕ) (type : NumberType) (name : List ℕ) (behind : List CLocal) → declared_automatics (variable_by type name count ∷ behind) ≡ declared_automatics behind
none_of_variable None type name behind = refl
none_of_variable (Some count) type name behind = refl

none_of_variables : (vs : List Variable) (behind : List CLocal) → declared_automatics (map variable_for vs ++ behind) ≡ declared_automatics behind
none_of_variables [] behind = refl
none_of_variables (v ∷ vs) behind = none_of_variable v.count v.type (variable_name v.name) (map variable_for vs ++ behind) ∙ none_of_variables vs behind

none_of_lists : (k : ℕ) (ls : List Listing) → declared_automatics (lists_from k ls) ≡ []
none_of_lists k [] = refl
none_of_lists k (l ∷ ls) = none_of_lists (suc k) ls

pub automatics_listed : (v : Inventory) → declared_automatics (main_locals v) ≡ temporaries 1 v.temporaries
automatics_listed v =
    temporaries_first 1 v.temporaries (map call_for v.calls ++ (map variable_for v.variables ++ lists_from 1 v.lists))
    ∙ ap (λ ds. temporaries 1 v.temporaries ++ ds) (none_of_calls v.calls (map variable_for v.variables ++ lists_from 1 v.lists) ∙ none_of_variables v.variables (lists_from 1 v.lists) ∙ none_of_lists 1 v.lists)
    ∙ append-nil (temporaries 1 v.temporaries)

temporary_names_from : (k n : ℕ) → names_of (temporaries k n) ≡ temporary_names k n
temporary_names_from k zero = refl
temporary_names_from k (suc n) = ap (λ ns. made_name (NumberTemporary k) ∷ ns) (temporary_names_from (suc k) n)

pub temporary_names_are : (v : Inventory) → names_of (declared_automatics (main_locals v)) ≡ temporary_names 1 v.temporaries
temporary_names_are v = ap names_of (automatics_listed v) ∙ temporary_names_from 1 v.temporaries

temporary_from : (k n i : ℕ) → i < n → slice_get (temporaries k n) i ≡ Some (declared_temporary (k + i))
temporary_from k zero i below = absurd (let no : ⊥ = omega (arith, below) in no)
temporary_from k (suc n) zero below = ap (λ m. Some (declared_temporary m)) {x = k} {y = k + 0} (omega arith)
temporary_from k (suc n) (suc i) below = temporary_from (suc k) n i (omega (arith, below)) ∙ ap (λ m. Some (declared_temporary m)) {x = suc k + i} {y = k + suc i} (omega arith)

pub temporary_at : (v : Inventory) (i : ℕ) → i < v.temporaries → slice_get (declared_automatics (main_locals v)) i ≡ Some (declared_temporary (1 + i))
temporary_at v i below = ap (λ ds. slice_get ds i) (automatics_listed v) ∙ temporary_from 1 v.temporaries i below

-- ## What is called

externs_of_temporaries : (k n : ℕ) (behind : List CLocal) → declared_externs (temporaries_from k n ++ behind) ≡ declared_externs behind
externs_of_temporaries k zero behind = refl
externs_of_temporaries k (suc n) behind = externs_of_temporaries (suc k) n behind

calls_first : (calls : List Called) (behind : List CLocal) → declared_externs (map call_for calls ++ behind) ≡ map (λ (call : Called). call.name) calls ++ declared_externs behind
calls_first [] behind = refl
calls_first (c ∷ calls) behind = ap (λ ns. c.name ∷ ns) (calls_first calls behind)

externs_of_variable : (count : Option ℕ) (type : NumberType) (name : List ℕ) (behind : List CLocal) → declared_externs (variable_by type name count ∷ behind) ≡ declared_externs behind
externs_of_variable None type name behind = refl
externs_of_variable (Some count) type name behind = refl

externs_of_variables : (vs : List Variable) (behind : List CLocal) → declared_externs (map variable_for vs ++ behind) ≡ declared_externs behind
externs_of_variables [] behind = refl
externs_of_variables (v ∷ vs) behind = externs_of_variable v.count v.type (variable_name v.name) (map variable_for vs ++ behind) ∙ externs_of_variables vs behind

externs_of_lists : (k : ℕ) (ls : List Listing) → declared_externs (lists_from k ls) ≡ []
externs_of_lists k [] = refl
externs_of_lists k (l ∷ ls) = externs_of_lists (suc k) ls

pub externs_listed : (v : Inventory) → declared_externs (main_locals v) ≡ called_names v
externs_listed v =
    externs_of_temporaries 1 v.temporaries (map call_for v.calls ++ (map variable_for v.variables ++ lists_from 1 v.lists)) ∙ calls_first v.calls (map variable_for v.variables ++ lists_from 1 v.lists)
    ∙ ap (λ ns. called_names v ++ ns) (externs_of_variables v.variables (lists_from 1 v.lists) ∙ externs_of_lists 1 v.lists) ∙ append-nil (called_names v)
