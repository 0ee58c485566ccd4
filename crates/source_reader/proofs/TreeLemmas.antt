-- Trees and parts in turn.
use Rattle.std.specs.Prelude.{◌≡◌, ◌<◌, ◌≤◌, ◌+◌, ℕ, zero, suc, Bool, true, false, bytes_eq, List, [], ◌∷◌, ◌++◌, length, map, take, slice_get, option_map, Option, Some, None, Result, Ok, Err, if◌then◌else◌}
use Rattle.std.specs.Borrow.{Bor}
use Rattle.std.proofs.Common.{refl, sym, ap, ◌∙◌, subst, get_or, append_assoc}
use Rattle.std.proofs.lemmas.List.{take_more, take_all, append-nil}
use Rattle.std.proofs.lemmas.Option.{slice_get-get_or}
use Rattle.f_tree.specs.declared.refusals.Fail.{Fail}
use Rattle.f_tree.specs.declared.refusals.Fail.TheVariants as fail
use Rattle.f_tree.specs.declared.refusals.Refusal.{Refusal}
use Rattle.f_tree.specs.declared.units.File.{File}
use Rattle.f_tree.specs.declared.units.FileSet.{FileSet}
use Rattle.f_tree.specs.declared.units.Part.{Part}
use Rattle.f_tree.specs.declared.units.Unit.{Unit as ProgramUnit}
use Rattle.fortran_text.specs.StatementsOfFile.{FileCards}
use Rattle.fortran_text.specs.declared.source.Statement.{Statement}
use Rattle.fortran_grammar.specs.IncludedFiles.{SpellsPart, part_named}
use Rattle.fortran_grammar.specs.SyntaxRows.{unit_deep_rows}
use Rattle.source_acceptance.specs.declaration_rows.GlobalRows.{all_units}
use Rattle.file_parse.specs.FileTrees.{HasNoFault, IsFileTree, IsPartTree}
use Rattle.file_parse.specs.FirstRefusals.{IsFirstAmong}
use Rattle.file_parse.specs.ReadSoFar.{AreClear, AreTrees}
use Rattle.file_parse.specs.Splices.{StandsFor, AreParts, IsUnder}
use Rattle.source_acceptance.specs.Acceptance.{deep_rows_of}
use Rattle.source_reader.specs.Along.{Along}
use Rattle.source_reader.specs.Limits.{first_named}
use Rattle.source_reader.specs.Sources.{MakeSet, rows_of_nests, at_part, at_nest, AreTreesOf, IsNotDeep}
use Rattle.source_reader.specs.Trees.{IsTreeOf, AreFileTrees, PartsOf, no_part, one_part, HaveParts, ArePartTrees, IsAfter, IsSpliced}
use Rattle.source_reader.proofs.AlongLemmas.{along_at, get_take}

-- FILES
pub tree_stops : (files : List FileCards) (i : ℕ) (cards : FileCards) (trees : List File) (f : Fail) → i < length files → cards ≡ get_or files i cards →
    Along IsTreeOf 0 (take i files) trees → IsFileTree cards.statements (Err f) → AreFileTrees files (Err f)
tree_stops files i cards trees fail.NoMemory within is so_far refused = tt
tree_stops files i cards trees (fail.Refused r) within is so_far refused = record {
  place = i;
  cards = cards;
  is = slice_get-get_or files i cards within ∙ ap Some (sym is);
  refused = refused;
  before = λ j c low at.
      (along_at IsTreeOf 0 (take i files) trees so_far j c (get_take files i j low ∙ at)).pair.clear;
}

-- PARTS
pub parts_push : (names : List (List ℕ)) (files : List FileCards) (parts : List Part) (name : List ℕ) (cards : FileCards) (part : Part) →
    PartsOf names files parts → SpellsPart name cards.statements part → HasNoFault false cards.statements →
    PartsOf (names ++ name ∷ []) (files ++ cards ∷ []) (parts ++ part ∷ [])
parts_push _ _ _ name cards part no_part spells clear = one_part name cards part [] [] [] spells clear no_part
parts_push _ _ _ name cards part (one_part n c p names files parts is also more) spells clear =
    one_part n c p (names ++ name ∷ []) (files ++ cards ∷ []) (parts ++ part ∷ []) is also (parts_push names files parts name cards part more spells clear)

some_once : {A : Type 0} (a b : A) → Some a ≡ Some b → a ≡ b
some_once a b same = cc

none_some : {A : Type 0} (a : A) → None ≡ Some a → ⊥
none_some a same = absurd (cc)

pub parts_clear : (names : List (List ℕ)) (files : List FileCards) (parts : List Part) → PartsOf names files parts → (j : ℕ) (c : FileCards) →
    slice_get files j ≡ Some c → HasNoFault false c.statements
parts_clear _ _ _ no_part j c at = absurd (none_some c at)
parts_clear _ _ _ (one_part n d p names files parts is clear more) zero c at =
    subst (λ (f : FileCards). HasNoFault false f.statements) (some_once d c at) clear
parts_clear _ _ _ (one_part n d p names files parts is clear more) (suc j) c at = parts_clear names files parts more j c at

pub parts_go_on : (names : List (List ℕ)) (files : List FileCards) (i : ℕ) (name : List ℕ) (cards : FileCards) (part : Part) → i < length names → i < length files →
    name ≡ get_or names i name → cards ≡ get_or files i cards → HaveParts (take i names) (take i files) → IsPartTree name cards.statements (Ok part) →
    HaveParts (take (i + 1) names) (take (i + 1) files)
parts_go_on names files i name cards part named within name_is is so_far tree =
    subst (λ l. HaveParts l (take (i + 1) files)) (sym (take_more names i name named ∙ ap (λ n. take i names ++ n ∷ []) (sym name_is)))
    (subst (λ l. HaveParts (take i names ++ name ∷ []) l) (sym (take_more files i cards within ∙ ap (λ c. take i files ++ c ∷ []) (sym is)))
    (record {
      parts = so_far.parts ++ part ∷ [];
      are = parts_push (take i names) (take i files) so_far.parts name cards part so_far.are tree.0 tree.1;
    }))

pub parts_stop : (A : Type 0) (names : List (List ℕ)) (files : List FileCards) (i : ℕ) (name : List ℕ) (cards : FileCards) (f : Fail) → i < length files →
    cards ≡ get_or files i cards → HaveParts (take i names) (take i files) → IsPartTree name cards.statements (Err f) → ArePartTrees {A = A} names files (Err f)
parts_stop A names files i name cards fail.NoMemory within is so_far refused = tt
parts_stop A names files i name cards (fail.Refused r) within is so_far refused = record {
  place = i;
  name = name;
  cards = cards;
  is = slice_get-get_or files i cards within ∙ ap Some (sym is);
  refused = refused;
  before = λ j c low at. parts_clear (take i names) (take i files) so_far.parts so_far.are j c (get_take files i j low ∙ at);
}

pub parts_start : (names : List (List ℕ)) (files : List FileCards) → HaveParts (take 0 names) (take 0 files)
parts_start names files = record { parts = []; are = no_part }

pub parts_end : (names : List (List ℕ)) (files : List FileCards) (i : ℕ) → length names ≤ i → length files ≤ i → HaveParts (take i names) (take i files) →
    HaveParts names files
parts_end names files i past over so_far =
    subst (λ l. HaveParts l files) (take_all i names past) (subst (λ l. HaveParts (take i names) l) (take_all i files over) so_far)

-- WHAT STANDS FOR A NAME
clear_is : (first : Bool) (sources : List Statement) → HasNoFault first sources → AreClear first first sources
clear_is first sources clear begins source stands row holds =
    clear (record { file = source.file; card = source.card; kind = row })
    (record { begins = begins; source = source; stands = stands; holds = holds; in_file = refl; on_card = refl })

named_first : {A : Type 0} (n : List ℕ) (ns : List (List ℕ)) (v : A) (vs : List A) (x : List ℕ) →
    first_named (n ∷ ns) (v ∷ vs) x ≡ (if bytes_eq n x then Some v else first_named ns vs x)
unfolding first_named
named_first n ns v vs x = refl

named_none : {A : Type 0} (vs : List A) (x : List ℕ) → first_named [] vs x ≡ None
unfolding first_named
named_none vs x = refl

part_first : (p : Part) (ps : List Part) (x : List ℕ) → part_named x (p ∷ ps) ≡ (if bytes_eq p.name x then p.statements else part_named x ps)
unfolding part_named
part_first p ps x = refl

part_none : (x : List ℕ) → part_named x [] ≡ []
unfolding part_named
part_none x = refl

abbrev Stands : Option FileCards → List Part → List ℕ → Type 0
Stands o parts x = StandsFor o parts x

stands_by : (b : Bool) (c : FileCards) (o : Option FileCards) (p : Part) (ps : List Part) (x : List ℕ) → bytes_eq p.name x ≡ b →
    AreTrees false c.statements (Ok p.statements) → StandsFor o ps x → StandsFor (if b then Some c else o) (p ∷ ps) x
stands_by true c o p ps x is own others =
    subst (λ l. AreTrees false c.statements (Ok l)) (sym (part_first p ps x ∙ ap (λ t. if t then p.statements else part_named x ps) is)) own
stands_by false c None p ps x is own others = part_first p ps x ∙ (ap (λ t. if t then p.statements else part_named x ps) is ∙ others)
stands_by false c (Some d) p ps x is own others =
    subst (λ l. AreTrees false d.statements (Ok l)) (sym (part_first p ps x ∙ ap (λ t. if t then p.statements else part_named x ps) is)) others

pub each_stands : (names : List (List ℕ)) (files : List FileCards) (parts : List Part) → PartsOf names files parts → (x : List ℕ) →
    StandsFor (first_named names files x) parts x
each_stands _ _ _ no_part x = subst (λ o. StandsFor o [] x) (sym (named_none [] x)) (part_none x)
each_stands _ _ _ (one_part n c p names files parts is clear more) x =
    subst (λ o. StandsFor o (p ∷ parts) x) (sym (named_first n names c files x))
    (stands_by (bytes_eq n x) c (first_named names files x) p parts x (ap (λ m. bytes_eq m x) is.named)
    (is.statements, clear_is false c.statements clear)
    (each_stands names files parts more x))

named_map : {A B : Type 0} (f : A → B) (names : List (List ℕ)) (values : List A) (x : List ℕ) →
    option_map f (first_named names values x) ≡ first_named names (map f values) x
unfolding first_named
named_map f [] values x = refl
named_map f (n ∷ names) [] x = refl
named_map f (n ∷ names) (v ∷ values) x = either (bytes_eq n x) (named_map f names values x)
  where
    either : (b : Bool) → option_map f (first_named names values x) ≡ first_named names (map f values) x →
        option_map f (if b then Some v else first_named names values x) ≡ (if b then Some (f v) else first_named names (map f values) x)
    either true same = refl
    either false same = same

pub parts_stand : (find : List ℕ → Option FileCards) (found : List ℕ → Option (Bor FileCards)) (names : List (List ℕ)) (files : List FileCards)
    (list : List (Bor FileCards)) (parts : List Part) → ((x : List ℕ) → find x ≡ option_map (λ (c : Bor FileCards). c.now) (found x)) →
    ((x : List ℕ) → found x ≡ first_named names list x) → map (λ (c : Bor FileCards). c.now) list ≡ files → PartsOf names files parts → AreParts find parts
parts_stand find found names files list parts find_is found_is list_is are = record {
  stand = λ x. subst (λ o. StandsFor o parts x)
      (sym (find_is x ∙ (ap (option_map (λ (c : Bor FileCards). c.now)) (found_is x)
      ∙ (named_map (λ (c : Bor FileCards). c.now) names list x ∙ ap (λ l. first_named names l x) list_is))))
      (each_stands names files parts are x);
}

-- SPLICED
pub splicing_fails : (find : List ℕ → Option FileCards) (value : List Part → List File) (names : List (List ℕ)) (files : List FileCards) (trees : List File) (f : Fail) →
    ((parts : List Part) → PartsOf names files parts → AreParts find parts) → IsUnder find value (Err f) → IsSpliced names files trees (Err f)
splicing_fails find value names files trees fail.NoMemory stand under = tt
splicing_fails find value names files trees (fail.Refused r) stand under = λ parts are. under parts (stand parts are)

-- THE SET
pub record Passed (files : List FileCards) (names : List (List ℕ)) (parts : List FileCards) (trees : List File) : Type 0 where
  pub along : Along IsTreeOf 0 files trees
  pub have : HaveParts names parts

pub parts_pass : {A : Type 0} (files : List FileCards) (names : List (List ℕ)) (parts : List FileCards) (trees value : List File) (check : Result A Fail) →
    Along IsTreeOf 0 files trees → ArePartTrees names parts check → IsAfter trees check (Ok value) → Passed files names parts value
parts_pass files names parts trees value (Ok done) along have behind =
    let same : trees ≡ value = cc in record { along = subst (λ l. Along IsTreeOf 0 files l) same along; have = have }
parts_pass files names parts trees value (Err f) along have behind = absurd (cc)

part_stops : (A : Type 0) (files : List FileCards) (names : List (List ℕ)) (parts : List FileCards) (trees : List File) (g : Fail) → Along IsTreeOf 0 files trees →
    ArePartTrees {A = A} names parts (Err g) → AreTreesOf files names parts (Err g)
part_stops A files names parts trees fail.NoMemory along stop = tt
part_stops A files names parts trees (fail.Refused r) along stop = at_part trees along stop

pub check_stops : (A : Type 0) (files : List FileCards) (names : List (List ℕ)) (parts : List FileCards) (trees : List File) (check : Result A Fail) (f : Fail) →
    Along IsTreeOf 0 files trees → ArePartTrees names parts check → IsAfter trees check (Err f) → AreTreesOf files names parts (Err f)
check_stops A files names parts trees (Ok done) f along are behind = absurd (cc)
check_stops A files names parts trees (Err g) f along are behind =
    let same : g ≡ f = cc in subst (λ e. AreTreesOf files names parts (Err e)) same (part_stops A files names parts trees g along are)

make_set : (files : List FileCards) (names : List (List ℕ)) (parts : List FileCards) (trees : List File) (set : FileSet) → Passed files names parts trees →
    IsSpliced names parts trees (Ok set) → MakeSet files names parts set
make_set files names parts trees set passed spliced = record {
  trees = trees;
  own = passed.have.parts;
  along = passed.along;
  parts_are = passed.have.are;
  set_is = spliced passed.have.parts passed.have.are;
}

pub nests_read : (files : List FileCards) (names : List (List ℕ)) (parts : List FileCards) (trees : List File) (set : FileSet) (result : Result FileSet Fail) →
    Passed files names parts trees → IsSpliced names parts trees (Ok set) → IsNotDeep set result → AreTreesOf files names parts result
nests_read files names parts trees set (Ok same) passed spliced flat =
    subst (λ (s : FileSet). MakeSet files names parts s × (rows_of_nests s ≡ [])) (sym flat.0)
    (make_set files names parts trees set passed spliced, flat.1)
nests_read files names parts trees set (Err (fail.Refused r)) passed spliced first = at_nest set (make_set files names parts trees set passed spliced) first
nests_read files names parts trees set (Err fail.NoMemory) passed spliced first = tt

-- NESTS
rows_first : (u : ProgramUnit) (us : List ProgramUnit) → deep_rows_of (u ∷ us) ≡ unit_deep_rows u ++ deep_rows_of us
unfolding deep_rows_of
rows_first u us = refl

rows_none : deep_rows_of [] ≡ []
unfolding deep_rows_of
rows_none = refl

rows_of_both : (us vs : List ProgramUnit) → deep_rows_of (us ++ vs) ≡ deep_rows_of us ++ deep_rows_of vs
rows_of_both [] vs = ap (λ l. l ++ deep_rows_of vs) (sym rows_none)
rows_of_both (u ∷ us) vs =
    rows_first u (us ++ vs)
    ∙ (ap (λ l. unit_deep_rows u ++ l) (rows_of_both us vs)
    ∙ (sym (append_assoc (unit_deep_rows u) (deep_rows_of us) (deep_rows_of vs)) ∙ ap (λ l. l ++ deep_rows_of vs) (sym (rows_first u us))))

rows_of_one : (u : ProgramUnit) → deep_rows_of (u ∷ []) ≡ unit_deep_rows u
rows_of_one u = rows_first u [] ∙ (ap (λ l. unit_deep_rows u ++ l) rows_none ∙ append-nil (unit_deep_rows u))

pub units_go_on : (units : List ProgramUnit) (i : ℕ) (u : ProgramUnit) (found next more : Option Refusal) → i < length units → u ≡ get_or units i u →
    IsFirstAmong (deep_rows_of (take i units)) found → IsFirstAmong (unit_deep_rows u) more →
    ((rows others : List Refusal) → IsFirstAmong rows found → IsFirstAmong others more → IsFirstAmong (rows ++ others) next) →
    IsFirstAmong (deep_rows_of (take (i + 1) units)) next
units_go_on units i u found next more within is so_far own joined =
    subst (λ l. IsFirstAmong l next)
    (sym (ap deep_rows_of (take_more units i u within ∙ ap (λ v. take i units ++ v ∷ []) (sym is))
    ∙ (rows_of_both (take i units) (u ∷ []) ∙ ap (λ l. deep_rows_of (take i units) ++ l) (rows_of_one u))))
    (joined (deep_rows_of (take i units)) (unit_deep_rows u) so_far own)

pub units_start : (units : List ProgramUnit) → IsFirstAmong (deep_rows_of (take 0 units)) None
units_start units = rows_none

pub units_end : (units : List ProgramUnit) (i : ℕ) (found : Option Refusal) → length units ≤ i → IsFirstAmong (deep_rows_of (take i units)) found →
    IsFirstAmong (deep_rows_of units) found
units_end units i found past so_far = subst (λ l. IsFirstAmong (deep_rows_of l) found) (take_all i units past) so_far

files_first : (f : File) (fs : List File) → all_units (f ∷ fs) ≡ f.units ++ all_units fs
unfolding all_units
files_first f fs = refl

files_none : all_units [] ≡ []
unfolding all_units
files_none = refl

units_of_both : (fs gs : List File) → all_units (fs ++ gs) ≡ all_units fs ++ all_units gs
units_of_both [] gs = ap (λ l. l ++ all_units gs) (sym files_none)
units_of_both (f ∷ fs) gs =
    files_first f (fs ++ gs)
    ∙ (ap (λ l. f.units ++ l) (units_of_both fs gs)
    ∙ (sym (append_assoc f.units (all_units fs) (all_units gs)) ∙ ap (λ l. l ++ all_units gs) (sym (files_first f fs))))

units_of_one : (f : File) → all_units (f ∷ []) ≡ f.units
units_of_one f = files_first f [] ∙ (ap (λ l. f.units ++ l) files_none ∙ append-nil f.units)

pub deep_go_on : (files : List File) (i : ℕ) (f : File) (units : List ProgramUnit) (found next more : Option Refusal) → i < length files → f ≡ get_or files i f →
    units ≡ f.units → IsFirstAmong (deep_rows_of (all_units (take i files))) found → IsFirstAmong (deep_rows_of units) more →
    ((rows others : List Refusal) → IsFirstAmong rows found → IsFirstAmong others more → IsFirstAmong (rows ++ others) next) →
    IsFirstAmong (deep_rows_of (all_units (take (i + 1) files))) next
deep_go_on files i f units found next more within is units_are so_far own joined =
    subst (λ l. IsFirstAmong l next)
    (sym (ap (λ l. deep_rows_of (all_units l)) (take_more files i f within ∙ ap (λ g. take i files ++ g ∷ []) (sym is))
    ∙ (ap deep_rows_of (units_of_both (take i files) (f ∷ []))
    ∙ (rows_of_both (all_units (take i files)) (all_units (f ∷ [])) ∙ ap (λ l. deep_rows_of (all_units (take i files)) ++ deep_rows_of l) (units_of_one f)))))
    (joined (deep_rows_of (all_units (take i files))) (deep_rows_of f.units) so_far (subst (λ l. IsFirstAmong (deep_rows_of l) more) units_are own))

pub deep_start : (files : List File) → IsFirstAmong (deep_rows_of (all_units (take 0 files))) None
deep_start files = ap deep_rows_of files_none ∙ rows_none

pub deep_end : (files : List File) (i : ℕ) (found : Option Refusal) → length files ≤ i → IsFirstAmong (deep_rows_of (all_units (take i files))) found →
    IsFirstAmong (deep_rows_of (all_units files)) found
deep_end files i found past so_far = subst (λ l. IsFirstAmong (deep_rows_of (all_units l)) found) (take_all i files past) so_far
