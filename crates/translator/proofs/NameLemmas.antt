-- The names of the procedures of a set, and what is asked of names.
use Rattle.std.specs.Borrow.{Bor}
use Rattle.std.specs.List.{list_all, list_any}
use Rattle.std.specs.Prelude.{◌≡◌, ℕ, suc, ◌+◌, ◌<◌, ◌≤◌, Bool, true, false, ◌&&◌, ◌||◌, List, [], ◌∷◌, ◌++◌, map, length, drop, bytes_eq, if◌then◌else◌}
use Rattle.std.proofs.Common.{refl, sym, ap, ◌∙◌, arith, drop-cons, get_or}
use Rattle.std.proofs.lemmas.List.{drop_all, append-nil, append_assoc}
use Rattle.f_tree.specs.declared.statements.DummyArgument.{DummyArgument}
use Rattle.f_tree.specs.declared.statements.DummyArgument.TheVariants as dummy
use Rattle.f_tree.specs.declared.units.File.{File}
use Rattle.f_tree.specs.declared.units.Unit.{Unit as GivenUnit}
use Rattle.f_tree.specs.Values.{Bytes}
use Rattle.f_tree.specs.Uses.{is_among}
use Rattle.f_tree.specs.Reading.{name_or_none}
use Rattle.f_tree.specs.Attributes.{named_dummies, Described}
use Rattle.f_tree.specs.Lines.{unit_kind, formals_of}
use Rattle.c_tree.specs.Tokens.{begins_with, is_letter}
use Rattle.declaration_rows.specs.GlobalRows.{all_units}
use Rattle.declaration_rows.specs.NameRows.{all_names}
use Rattle.faithful.specs.Signatures.{named_formals}
use Rattle.name_facts.specs.declared.table.NameFacts.{NameFacts}
use Rattle.name_facts.specs.GivenFacts.{AreNameFacts, fact_in}
use Rattle.name_table.specs.declared.name_set.NameSet.{NameSet}
use Rattle.name_table.specs.Named.{IsNameSet, names_in}
use Rattle.name_places.specs.name_uses.UsesSeen.{Adds}
use Rattle.plain_names.proofs.Described.{all_asked}
use Rattle.translated_files.specs.TranslatedFiles.{is_procedure, procedure_names, is_defined, procedures_are_defined}
use Rattle.translator.specs.UnitFiles.{own_procedure, dummy_is_spelled}

pub among_any : (x : Bytes) (xs : List Bytes) → is_among x xs ≡ list_any (bytes_eq x) xs
unfolding is_among
among_any x [] = refl
among_any x (y ∷ ys) = ap (λ b. bytes_eq x y || b) (among_any x ys)

-- as a list is seen from a place on
pub rest_is : {X : Type 0} (xs : List X) (i : ℕ) (x d : X) → i < length xs → x ≡ get_or xs i d → drop i xs ≡ x ∷ drop (i + 1) xs
rest_is xs i x d h is = drop-cons xs i d h ∙ ap (λ y. y ∷ drop (suc i) xs) (sym is) ∙ ap (λ n. x ∷ drop n xs) (let e : suc i ≡ i + 1 = omega arith in e)

-- ## The procedures of a file

own_first : (b : Bool) (x : Bytes) (xs : List Bytes) → (if b then x ∷ xs else xs) ≡ (if b then x ∷ [] else []) ++ xs
own_first true x xs = refl
own_first false x xs = refl

names_from : (u : GivenUnit) (us : List GivenUnit) → procedure_names (u ∷ us) ≡ own_procedure u ++ procedure_names us
unfolding procedure_names own_procedure
names_from u us = own_first (is_procedure (unit_kind u)) (name_or_none u.name) (procedure_names us)

pub procedures_both : (us vs : List GivenUnit) → procedure_names (us ++ vs) ≡ procedure_names us ++ procedure_names vs
unfolding procedure_names
procedures_both [] vs = refl
procedures_both (u ∷ us) vs =
    names_from u (us ++ vs) ∙ ap (λ xs. own_procedure u ++ xs) (procedures_both us vs) ∙ sym (append_assoc (own_procedure u) (procedure_names us) (procedure_names vs))
    ∙ ap (λ xs. xs ++ procedure_names vs) (sym (names_from u us))

-- where names are added that stand first among the later ones
names_moved : (old new : NameSet) (first later all : List Bytes) → Adds old new first → names_in old ++ (first ++ later) ≡ all → names_in new ++ later ≡ all
names_moved old new first later all adds so_far = ap (λ xs. xs ++ later) adds.put ∙ append_assoc (names_in old) first later ∙ so_far

pub more_names : (us : List GivenUnit) (i : ℕ) (u d : GivenUnit) (old new : NameSet) (all : List Bytes) → i < length us → u ≡ get_or us i d → Adds old new (own_procedure u)
    → names_in old ++ procedure_names (drop i us) ≡ all → names_in new ++ procedure_names (drop (i + 1) us) ≡ all
more_names us i u d old new all h is adds so_far =
    names_moved old new (own_procedure u) (procedure_names (drop (i + 1) us)) all adds
    (ap (λ xs. names_in old ++ xs) (sym (names_from u (drop (i + 1) us))) ∙ ap (λ vs. names_in old ++ procedure_names vs) (sym (rest_is us i u d h is)) ∙ so_far)

pub all_names_added : (us : List GivenUnit) (i : ℕ) (old new : NameSet) → length us ≤ i → names_in new ++ procedure_names (drop i us) ≡ names_in old ++ procedure_names us → IsNameSet new
    → Adds old new (procedure_names us)
unfolding procedure_names
all_names_added us i old new h so_far is_set = record {
  put = sym (append-nil (names_in new)) ∙ ap (λ vs. names_in new ++ procedure_names vs) (sym (drop_all i us h)) ∙ so_far;
  is_set = is_set;
}

-- ## Those of the files of a set

pub units_both : (fs gs : List File) → all_units (fs ++ gs) ≡ all_units fs ++ all_units gs
unfolding all_units
units_both [] gs = refl
units_both (f ∷ fs) gs = ap (λ us. f.units ++ us) (units_both fs gs) ∙ sym (append_assoc f.units (all_units fs) (all_units gs))

pub units_rest : (fs : List File) (k : ℕ) (f d : File) → k < length fs → f ≡ get_or fs k d → all_units (drop k fs) ≡ f.units ++ all_units (drop (k + 1) fs)
unfolding all_units
units_rest fs k f d h is = ap all_units (rest_is fs k f d h is)

pub more_file_names : (fs : List File) (k : ℕ) (f d : File) (us : List GivenUnit) (old new : NameSet) (all : List Bytes) → k < length fs → f ≡ get_or fs k d → us ≡ f.units
    → Adds old new (procedure_names us) → names_in old ++ procedure_names (all_units (drop k fs)) ≡ all → names_in new ++ procedure_names (all_units (drop (k + 1) fs)) ≡ all
more_file_names fs k f d us old new all h is same adds so_far =
    let later : List GivenUnit = all_units (drop (k + 1) fs) in
    names_moved old new (procedure_names us) (procedure_names later) all adds
    (ap (λ xs. names_in old ++ xs)
    (sym (ap procedure_names (units_rest fs k f d h is) ∙ procedures_both f.units later ∙ ap (λ vs. procedure_names vs ++ procedure_names later) (sym same))) ∙ so_far)

pub all_procedures : (fs : List File) (k : ℕ) (set : NameSet) → length fs ≤ k → names_in set ++ procedure_names (all_units (drop k fs)) ≡ procedure_names (all_units fs)
    → names_in set ≡ procedure_names (all_units fs)
unfolding procedure_names all_units
all_procedures fs k set h so_far = sym (append-nil (names_in set)) ∙ ap (λ gs. names_in set ++ procedure_names (all_units gs)) (sym (drop_all k fs h)) ∙ so_far

-- ## What is asked of names

pub all_defined : (procedures : List Bytes) (u : GivenUnit) (table : NameFacts) (names : List (Bor Bytes)) → AreNameFacts u table → map (λ (name : Bor Bytes). name.now) names ≡ all_names u
    → list_all (λ (name : Bor Bytes). is_defined procedures (fact_in table name.now).class name.now) names ≡ procedures_are_defined procedures u
unfolding procedures_are_defined
all_defined procedures u table names are all =
    all_asked (λ x fact. is_defined procedures fact.class x) (λ (d : Described). is_defined procedures d.attribute.class d.name) u table names are all
    (λ x a fact told. ap (λ k. is_defined procedures k x) told.class)

-- ## Dummies

pub formals_named : (ds : List DummyArgument) → named_formals (formals_of ds) ≡ named_dummies ds
unfolding named_formals formals_of named_dummies
formals_named [] = refl
formals_named (dummy.Named x ∷ ds) = ap (λ xs. x ∷ xs) (formals_named ds)
formals_named (dummy.AlternateReturn ∷ ds) = formals_named ds

pub dummies_spelled : (ds : List DummyArgument) → list_all dummy_is_spelled ds ≡ list_all (begins_with is_letter) (named_formals (formals_of ds))
unfolding dummy_is_spelled named_formals formals_of
dummies_spelled [] = refl
dummies_spelled (dummy.Named x ∷ ds) = ap (λ b. begins_with is_letter x && b) (dummies_spelled ds)
dummies_spelled (dummy.AlternateReturn ∷ ds) = dummies_spelled ds
