-- Files of which no statement is of a form that is not translated have C files.
use Rattle.std.specs.Prelude.{◌≡◌, ℕ, suc, ◌+◌, ℤ, Bool, true, ◌&&◌, List, [], ◌∷◌, ◌++◌, length, Option, Some, None, option_map, option_and_then, if◌then◌else◌}
use Rattle.std.proofs.Common.{refl, sym, ap, ◌∙◌, subst, arith}
use Rattle.std.proofs.lemmas.List.{append_assoc}
use Rattle.translated_files.specs.f_tree.declared.names.Options.{Options}
use Rattle.translated_files.specs.f_tree.declared.refusals.Refusal.{Refusal}
use Rattle.translated_files.specs.f_tree.declared.units.File.{File}
use Rattle.translated_files.specs.f_tree.declared.units.Unit.{Unit as GivenUnit}
use Rattle.translated_files.specs.declaration_rows.GlobalRows.{all_units}
use Rattle.translated_files.specs.c_tree.declared.statement.CStmt.{CStmt}
use Rattle.translated_files.specs.unit_file.UnitFile.{WrittenUnit}
use Rattle.translated_files.specs.unit_sites.UnitSites.{UnitsOfFile, files_of as c_files}
use Rattle.translated_files.specs.unit_translation.UnitContents.{LoweredUnit, constants_passed, inventory_of}
use Rattle.translated_files.specs.unit_translation.UnitBodies.{all_lowered, written_before}
use Rattle.translated_files.specs.named_units.NamedUnits.{named_body_of, named_from, named_file_of, named_files_from, named_files}
use Rattle.translated_laws.proofs.Translated.{nothing_before, nothing_behind}
use Rattle.translated_files.specs.TranslatedFiles.{lowered_at, lowered_before, lowered_from, files_before, lowered_files, has_units, each_has_units, made_files, files_of, form_row, row_unless, rows_of_lowering, rows_of_bodies, rows_of_files, rows_behind, units_not_translated, row_of_none, files_without_units, files_not_translated}
use Rattle.translated_file_laws.specs.FaithfulFiles.{EachTranslatedSetHasFiles}

-- an option that holds something
record IsThere {A : Type 0} (x : Option A) : Type 0 where
  value : A
  was : x ≡ Some value

no_row : {A : Type 0} (x : Option A) (r : Refusal) → row_unless x r ≡ [] → IsThere x
unfolding row_unless
no_row None r h = absurd (cc)
no_row (Some a) r h = record { value = a; was = refl }

-- ## Lowered units

both_there : (x : Option LoweredUnit) (xs : Option (List LoweredUnit)) → IsThere x → IsThere xs → IsThere (lowered_before x xs)
unfolding lowered_before
both_there x xs one others = subst IsThere (λ i. lowered_before (sym one.was i) (sym others.was i)) (record { value = one.value ∷ others.value; was = refl })

units_lowered : (options : Options) (units : List GivenUnit) (j : ℕ) (givens : List GivenUnit) → rows_of_lowering options units j givens ≡ [] → IsThere (lowered_from options units j givens)
unfolding rows_of_lowering lowered_from
units_lowered options units j [] h = record { value = []; was = refl }
units_lowered options units j (u ∷ later) h =
    both_there (lowered_at options units j u) (lowered_from options units (suc j) later)
    (no_row (lowered_at options units j u) (form_row u u.statements) (nothing_before (row_unless (lowered_at options units j u) (form_row u u.statements)) (rows_of_lowering options units (suc j) later) h))
    (units_lowered options units (suc j) later (nothing_behind (row_unless (lowered_at options units j u) (form_row u u.statements)) (rows_of_lowering options units (suc j) later) h))

-- as many units are lowered as are given
data AreAsMany : List LoweredUnit → List GivenUnit → Type 0 where
  no_more : AreAsMany [] []
  one_more : (u : LoweredUnit) (given : GivenUnit) (us : List LoweredUnit) (givens : List GivenUnit) → AreAsMany us givens → AreAsMany (u ∷ us) (given ∷ givens)

parts_of : (x : Option LoweredUnit) (xs : Option (List LoweredUnit)) (us : List LoweredUnit) → lowered_before x xs ≡ Some us → (u : LoweredUnit) × (later : List LoweredUnit) × (xs ≡ Some later) × (us ≡ u ∷ later)
unfolding lowered_before
parts_of None xs us h = absurd (cc)
parts_of (Some u) None us h = absurd (cc)
parts_of (Some u) (Some later) us h = (u, later, refl, cc)

as_many : (options : Options) (units : List GivenUnit) (j : ℕ) (givens : List GivenUnit) (us : List LoweredUnit) → lowered_from options units j givens ≡ Some us → AreAsMany us givens
unfolding lowered_from
as_many options units j [] us h = let none : [] ≡ us = cc in subst (λ (vs : List LoweredUnit). AreAsMany vs []) none no_more
as_many options units j (given ∷ later) us h =
    let parts = parts_of (lowered_at options units j given) (lowered_from options units (suc j) later) us h in
    subst (λ (vs : List LoweredUnit). AreAsMany vs (given ∷ later)) (sym parts.3) (one_more parts.0 given parts.1 later (as_many options units (suc j) later parts.1 parts.2))

-- ## Functions

both_written : (all : List LoweredUnit) (u : LoweredUnit) (body : Option (List CStmt)) (later : Option (List WrittenUnit)) → IsThere body → IsThere later → IsThere (written_before (inventory_of all u) body later)
unfolding written_before
both_written all u body later one others =
    subst IsThere (λ i. written_before (inventory_of all u) (sym one.was i) (sym others.was i)) (record { value = record { inventory = inventory_of all u; body = one.value } ∷ others.value; was = refl })

all_written : (constants : List ℤ) (all ls : List LoweredUnit) (givens : List GivenUnit) → AreAsMany ls givens → rows_of_bodies constants all ls givens ≡ [] → IsThere (named_from constants all ls)
unfolding rows_of_bodies named_from
all_written constants all _ _ no_more h = record { value = []; was = refl }
all_written constants all _ _ (one_more u given ls later rest) h =
    both_written all u (named_body_of constants all u) (named_from constants all ls)
    (no_row (named_body_of constants all u) (form_row given given.statements) (nothing_before (row_unless (named_body_of constants all u) (form_row given given.statements)) (rows_of_bodies constants all ls later) h))
    (all_written constants all ls later rest (nothing_behind (row_unless (named_body_of constants all u) (form_row given given.statements)) (rows_of_bodies constants all ls later) h))

-- ## The files

-- as many units are lowered of each file as it has
data AreAsManyOfFiles : List (List LoweredUnit) → List File → Type 0 where
  no_file : AreAsManyOfFiles [] []
  one_file : (us : List LoweredUnit) (f : File) (lfs : List (List LoweredUnit)) (fs : List File) → AreAsMany us f.units → AreAsManyOfFiles lfs fs → AreAsManyOfFiles (us ∷ lfs) (f ∷ fs)

file_parts : (x : Option (List LoweredUnit)) (xs : Option (List (List LoweredUnit))) (lfs : List (List LoweredUnit)) → files_before x xs ≡ Some lfs → (us : List LoweredUnit) × (later : List (List LoweredUnit)) × (x ≡ Some us) × (xs ≡ Some later) × (lfs ≡ us ∷ later)
unfolding files_before
file_parts None xs lfs h = absurd (cc)
file_parts (Some us) None lfs h = absurd (cc)
file_parts (Some us) (Some later) lfs h = (us, later, refl, refl, cc)

as_many_of_files : (options : Options) (units : List GivenUnit) (j : ℕ) (fs : List File) (lfs : List (List LoweredUnit)) → lowered_files options units j fs ≡ Some lfs → AreAsManyOfFiles lfs fs
unfolding lowered_files
as_many_of_files options units j [] lfs h = let none : [] ≡ lfs = cc in subst (λ (all : List (List LoweredUnit)). AreAsManyOfFiles all []) none no_file
as_many_of_files options units j (f ∷ fs) lfs h =
    let parts = file_parts (lowered_from options units j f.units) (lowered_files options units (j + length f.units) fs) lfs h in
    subst (λ (all : List (List LoweredUnit)). AreAsManyOfFiles all (f ∷ fs)) (sym parts.4)
    (one_file parts.0 f parts.1 fs (as_many options units j f.units parts.0 parts.2) (as_many_of_files options units (j + length f.units) fs parts.1 parts.3))

-- each file is lowered where all its units are
both_files : (x : Option (List LoweredUnit)) (xs : Option (List (List LoweredUnit))) → IsThere x → IsThere xs → IsThere (files_before x xs)
unfolding files_before
both_files x xs one others = subst IsThere (λ i. files_before (sym one.was i) (sym others.was i)) (record { value = one.value ∷ others.value; was = refl })

rows_joined : (options : Options) (units : List GivenUnit) (j : ℕ) (us vs : List GivenUnit) → rows_of_lowering options units j (us ++ vs) ≡ rows_of_lowering options units j us ++ rows_of_lowering options units (j + length us) vs
unfolding rows_of_lowering
rows_joined options units j [] vs = ap (λ n. rows_of_lowering options units n vs) {x = j} {y = j + 0} (omega arith)
rows_joined options units j (u ∷ us) vs =
    let here = row_unless (lowered_at options units j u) (form_row u u.statements) in
    ap (λ later. here ++ later) (rows_joined options units (suc j) us vs ∙ ap (λ n. rows_of_lowering options units (suc j) us ++ rows_of_lowering options units n vs) {x = suc j + length us} {y = j + length (u ∷ us)} (omega arith))
    ∙ sym (append_assoc here (rows_of_lowering options units (suc j) us) (rows_of_lowering options units (j + length (u ∷ us)) vs))

files_lowered : (options : Options) (units : List GivenUnit) (j : ℕ) (fs : List File) → rows_of_lowering options units j (all_units fs) ≡ [] → IsThere (lowered_files options units j fs)
unfolding lowered_files all_units rows_of_lowering
files_lowered options units j [] h = record { value = []; was = refl }
files_lowered options units j (f ∷ fs) h =
    let split = sym (rows_joined options units j f.units (all_units fs)) ∙ h in
    both_files (lowered_from options units j f.units) (lowered_files options units (j + length f.units) fs)
    (units_lowered options units j f.units (nothing_before (rows_of_lowering options units j f.units) (rows_of_lowering options units (j + length f.units) (all_units fs)) split))
    (files_lowered options units (j + length f.units) fs (nothing_behind (rows_of_lowering options units j f.units) (rows_of_lowering options units (j + length f.units) (all_units fs)) split))

-- and its C file is there where all its functions are made
file_there : (all us : List LoweredUnit) → IsThere (named_from (constants_passed us) all us) → IsThere (named_file_of all us)
unfolding named_file_of
file_there all us written =
    subst (λ found. IsThere {A = UnitsOfFile} (option_map (λ (ws : List WrittenUnit). record { constants = constants_passed us; units = ws }) found)) (sym written.was) (record { value = record { constants = constants_passed us; units = written.value }; was = refl })

both_named : (f : Option UnitsOfFile) (fs : Option (List UnitsOfFile)) → IsThere f → IsThere fs → IsThere (option_and_then (λ one. option_map (λ others. one ∷ others) fs) f)
both_named f fs one others =
    subst IsThere (λ i. option_and_then (λ g. option_map (λ gs. g ∷ gs) (sym others.was i)) (sym one.was i)) (record { value = one.value ∷ others.value; was = refl })

files_named : (all : List LoweredUnit) (lfs : List (List LoweredUnit)) (fs : List File) → AreAsManyOfFiles lfs fs → rows_of_files all lfs fs ≡ [] → IsThere (named_files_from all lfs)
unfolding rows_of_files named_files_from
files_named all _ _ no_file h = record { value = []; was = refl }
files_named all _ _ (one_file us f lfs fs many rest) h =
    both_named (named_file_of all us) (named_files_from all lfs)
    (file_there all us (all_written (constants_passed us) all us f.units many (nothing_before (rows_of_bodies (constants_passed us) all us f.units) (rows_of_files all lfs fs) h)))
    (files_named all lfs fs rest (nothing_behind (rows_of_bodies (constants_passed us) all us f.units) (rows_of_files all lfs fs) h))

set_there : (options : Options) (fs : List File) (found : Option (List (List LoweredUnit))) → lowered_files options (all_units fs) 0 fs ≡ found →
    rows_behind found (rows_of_lowering options (all_units fs) 0 (all_units fs)) fs ≡ [] → IsThere (option_and_then named_files found)
unfolding rows_behind named_files
set_there options fs None is h = let there = files_lowered options (all_units fs) 0 fs h in let no : None ≡ Some there.value = sym is ∙ there.was in absurd (cc)
set_there options fs (Some lfs) is h = files_named (all_lowered lfs) lfs fs (as_many_of_files options (all_units fs) 0 fs lfs is) h

-- each file has a unit
one_has : (k : ℕ) (us : List GivenUnit) → row_of_none k us ≡ [] → has_units us ≡ true
unfolding row_of_none has_units
one_has k [] h = absurd (cc)
one_has k (u ∷ us) h = refl

each_has : (k : ℕ) (fs : List File) → files_without_units k fs ≡ [] → each_has_units fs ≡ true
unfolding files_without_units each_has_units
each_has k [] h = refl
each_has k (f ∷ fs) h =
    (λ i. one_has k f.units (nothing_before (row_of_none k f.units) (files_without_units (suc k) fs) h) i && each_has (suc k) fs (nothing_behind (row_of_none k f.units) (files_without_units (suc k) fs) h) i)

made_there : (options : Options) (fs : List File) → each_has_units fs ≡ true → IsThere (option_and_then named_files (lowered_files options (all_units fs) 0 fs)) → IsThere (made_files options fs)
unfolding made_files
made_there options fs has there = subst (λ (b : Bool). IsThere (if b then option_and_then named_files (lowered_files options (all_units fs) 0 fs) else None)) (sym has) there

pub translated_sets_have_files : EachTranslatedSetHasFiles
unfolding files_of files_not_translated units_not_translated
translated_sets_have_files options fs none =
    let forms = nothing_behind (files_without_units 0 fs) (units_not_translated options fs) none in
    let all = each_has 0 fs (nothing_before (files_without_units 0 fs) (units_not_translated options fs) none) in
    let made = made_there options fs all (set_there options fs (lowered_files options (all_units fs) 0 fs) refl forms) in
    record { files = c_files made.value; are = ap (option_map c_files) made.was }
