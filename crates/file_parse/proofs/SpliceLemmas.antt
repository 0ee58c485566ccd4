-- Statements and units with the included statements in their places.
use Rattle.std.specs.Prelude.{◌≡◌, ℕ, Bool, false, List, [], ◌∷◌, ◌++◌, reverse, map, option_map, Option, Some, None, Result, Ok, Err}
use Rattle.std.proofs.Common.{refl, sym, ap, ◌∙◌, subst, append_assoc}
use Rattle.std.proofs.lemmas.List.{append-nil, reverse-append, reverse-reverse}
use Rattle.f_tree.specs.declared.refusals.Fail.{Fail}
use Rattle.f_tree.specs.declared.refusals.Fail.TheVariants as fail
use Rattle.f_tree.specs.declared.statements.Stmt.{Stmt}
use Rattle.f_tree.specs.declared.units.File.{File}
use Rattle.f_tree.specs.declared.units.Part.{Part}
use Rattle.f_tree.specs.declared.units.Unit.{Unit as ProgramUnit}
use Rattle.f_tree.specs.declared.refusals.Refusal.{Refusal}
use Rattle.fortran_text.specs.StatementsOfFile.{FileCards}
use Rattle.fortran_text.specs.declared.source.Statement.{Statement}
use Rattle.fortran_grammar.specs.SyntaxRows.{first_behind, at_first, behind}
use Rattle.fortran_grammar.specs.UnitsOfFile.{SpellsStatements, unit_of}
use Rattle.fortran_grammar.specs.IncludedFiles.{included_by, statements_for, with_parts, unit_with_parts, units_with_parts, part_named, file_with_parts}
use Rattle.statement_reader.proofs.grammar_laws.FileLemmas.{one_list}
use Rattle.file_parse.specs.ReadSoFar.{StopsAt, stops_here, stops_behind, AreClear, AreTrees}
use Rattle.file_parse.specs.Splices.{StandsFor, AreParts, IsUnder, IsInPlace}

pub no_unit : (statements : List Stmt) (done : List ProgramUnit) → statements ≡ [] → done ≡ done ++ unit_of statements
unfolding unit_of
no_unit statements done none = sym (ap (λ l. done ++ unit_of l) none ∙ append-nil done)

-- the last of what waits is the first of what is left
pub turned : {A : Type 0} (waiting before : List A) (x : A) → waiting ≡ before ++ x ∷ [] → reverse waiting ≡ x ∷ reverse before
turned waiting before x is = ap reverse is ∙ reverse-append before (x ∷ [])

-- statements in turn
with_first : (parts : List Part) (s : Stmt) (more : List Stmt) → with_parts parts (s ∷ more) ≡ statements_for parts s (included_by s.body) ++ with_parts parts more
unfolding with_parts
with_first parts s more = refl

with_none : (parts : List Part) → with_parts parts [] ≡ []
unfolding with_parts
with_none parts = refl

unit_first : (parts : List Part) (u : ProgramUnit) (more : List ProgramUnit) → units_with_parts parts (u ∷ more) ≡ unit_with_parts parts u ++ units_with_parts parts more
unfolding units_with_parts
unit_first parts u more = refl

unit_none : (parts : List Part) → units_with_parts parts [] ≡ []
unfolding units_with_parts
unit_none parts = refl

-- What is done of statements goes on with what waits.
pub record Splicing (find : List ℕ → Option FileCards) (statements waiting done : List Stmt) : Type 0 where
  pub goes : (parts : List Part) → AreParts find parts → with_parts parts statements ≡ done ++ with_parts parts (reverse waiting)

pub splicing_starts : (find : List ℕ → Option FileCards) (statements waiting : List Stmt) → waiting ≡ reverse statements → Splicing find statements waiting []
splicing_starts find statements waiting is = record {
  goes = λ parts are. ap (λ l. with_parts parts l) (sym (ap reverse is ∙ reverse-reverse statements));
}

pub splicing_goes_on : (find : List ℕ → Option FileCards) (statements waiting before done : List Stmt) (s : Stmt) (more : List Stmt) →
    Splicing find statements waiting done → waiting ≡ before ++ s ∷ [] →
    IsUnder find (λ parts. done ++ statements_for parts s (included_by s.body)) (Ok more) → Splicing find statements before more
splicing_goes_on find statements waiting before done s more so_far is step = record {
  goes = λ parts are. so_far.goes parts are
      ∙ (ap (λ l. done ++ with_parts parts l) (turned waiting before s is)
      ∙ (ap (λ l. done ++ l) (with_first parts s (reverse before))
      ∙ (sym (append_assoc done (statements_for parts s (included_by s.body)) (with_parts parts (reverse before)))
      ∙ ap (λ l. l ++ with_parts parts (reverse before)) (sym (step parts are)))));
}

pub splicing_ends : (find : List ℕ → Option FileCards) (statements waiting done : List Stmt) → Splicing find statements waiting done → waiting ≡ [] →
    IsUnder find (λ parts. with_parts parts statements) (Ok done)
splicing_ends find statements waiting done so_far none parts are =
    sym (so_far.goes parts are ∙ (ap (λ l. done ++ with_parts parts (reverse l)) none ∙ (ap (λ l. done ++ l) (with_none parts) ∙ append-nil done)))

-- The same of units.
pub record SplicingUnits (find : List ℕ → Option FileCards) (units waiting done : List ProgramUnit) : Type 0 where
  pub goes : (parts : List Part) → AreParts find parts → units_with_parts parts units ≡ done ++ units_with_parts parts (reverse waiting)

pub units_start : (find : List ℕ → Option FileCards) (units waiting : List ProgramUnit) → waiting ≡ reverse units → SplicingUnits find units waiting []
units_start find units waiting is = record {
  goes = λ parts are. ap (λ l. units_with_parts parts l) (sym (ap reverse is ∙ reverse-reverse units));
}

pub units_go_on : (find : List ℕ → Option FileCards) (units waiting before done : List ProgramUnit) (u : ProgramUnit) (more : List ProgramUnit) →
    SplicingUnits find units waiting done → waiting ≡ before ++ u ∷ [] →
    IsUnder find (λ parts. done ++ unit_with_parts parts u) (Ok more) → SplicingUnits find units before more
units_go_on find units waiting before done u more so_far is step = record {
  goes = λ parts are. so_far.goes parts are
      ∙ (ap (λ l. done ++ units_with_parts parts l) (turned waiting before u is)
      ∙ (ap (λ l. done ++ l) (unit_first parts u (reverse before))
      ∙ (sym (append_assoc done (unit_with_parts parts u) (units_with_parts parts (reverse before)))
      ∙ ap (λ l. l ++ units_with_parts parts (reverse before)) (sym (step parts are)))));
}

pub units_end : (find : List ℕ → Option FileCards) (units waiting done : List ProgramUnit) → SplicingUnits find units waiting done → waiting ≡ [] →
    IsUnder find (λ parts. units_with_parts parts units) (Ok done)
units_end find units waiting done so_far none parts are =
    sym (so_far.goes parts are ∙ (ap (λ l. done ++ units_with_parts parts (reverse l)) none ∙ (ap (λ l. done ++ l) (unit_none parts) ∙ append-nil done)))

-- The same of files.
pub record SplicingFiles (find : List ℕ → Option FileCards) (files waiting done : List File) : Type 0 where
  pub goes : (parts : List Part) → AreParts find parts → map (file_with_parts parts) files ≡ done ++ map (file_with_parts parts) (reverse waiting)

pub files_start : (find : List ℕ → Option FileCards) (files waiting : List File) → waiting ≡ reverse files → SplicingFiles find files waiting []
files_start find files waiting is = record {
  goes = λ parts are. ap (λ l. map (file_with_parts parts) l) (sym (ap reverse is ∙ reverse-reverse files));
}

pub files_go_on : (find : List ℕ → Option FileCards) (files waiting before done : List File) (f spliced : File) →
    SplicingFiles find files waiting done → waiting ≡ before ++ f ∷ [] →
    IsUnder find (λ parts. file_with_parts parts f) (Ok spliced) → SplicingFiles find files before (done ++ spliced ∷ [])
files_go_on find files waiting before done f spliced so_far is step = record {
  goes = λ parts are. so_far.goes parts are
      ∙ (ap (λ l. done ++ map (file_with_parts parts) l) (turned waiting before f is)
      ∙ (ap (λ g. done ++ g ∷ map (file_with_parts parts) (reverse before)) (sym (step parts are))
      ∙ sym (append_assoc done (spliced ∷ []) (map (file_with_parts parts) (reverse before)))));
}

pub files_end : (find : List ℕ → Option FileCards) (files waiting done : List File) → SplicingFiles find files waiting done → waiting ≡ [] →
    IsUnder find (λ parts. map (file_with_parts parts) files) (Ok done)
files_end find files waiting done so_far none = λ parts are.
    sym (so_far.goes parts are ∙ (ap (λ l. done ++ map (file_with_parts parts) (reverse l)) none ∙ append-nil done))

-- what fails under the parts fails however the value is made of them
pub fails_alike : {A B : Type 0} (find : List ℕ → Option FileCards) (one : List Part → A) (other : List Part → B) (f : Fail) → IsUnder find one (Err f) →
    IsUnder find other (Err f)
fails_alike find one other fail.NoMemory is = tt
fails_alike find one other (fail.Refused r) is = is

-- the statements that are read of a part
clear_stop : (whole first : Bool) (sources : List Statement) (r : Refusal) → StopsAt whole first sources r → AreClear whole first sources → ⊥
clear_stop whole first _ r (stops_here _ source sources _ file card row) clear = clear first source (at_first first source sources) r.kind row
clear_stop whole first _ r (stops_behind _ source sources _ none stop) clear =
    clear_stop whole (first_behind whole source) sources r stop (λ begins other stands. clear begins other (behind first begins source other sources stands))

pub part_read : (find : List ℕ → Option FileCards) (name : List ℕ) (cards : FileCards) (sources : List Statement) (r : Result (List Stmt) Fail) →
    find name ≡ Some cards → sources ≡ cards.statements → AreTrees false sources r → IsUnder find (λ parts. part_named name parts) r
part_read find name cards sources (Ok trees) is same trees_are =
    λ parts are.
    let stands : StandsFor (Some cards) parts name = subst (λ o. StandsFor o parts name) is (are.stand name) in
    one_list false cards.statements trees (part_named name parts) (subst (λ l. SpellsStatements false l trees) same trees_are.0) stands.0
part_read find name cards sources (Err (fail.Refused r)) is same stop =
    λ parts are.
    let stands : StandsFor (Some cards) parts name = subst (λ o. StandsFor o parts name) is (are.stand name) in
    clear_stop false false cards.statements r (subst (λ l. StopsAt false false l r) same stop) stands.1
part_read find name cards sources (Err fail.NoMemory) is same stop = tt

pub part_none : (find : List ℕ → Option FileCards) (name : List ℕ) (trees : List Stmt) → find name ≡ None → trees ≡ [] →
    IsUnder find (λ parts. part_named name parts) (Ok trees)
part_none find name trees is none = λ parts are. none ∙ sym (subst (λ o. StandsFor o parts name) is (are.stand name))

-- what stands for a statement
for_none : (parts : List Part) (s : Stmt) → statements_for parts s None ≡ s ∷ []
unfolding statements_for
for_none parts s = refl

for_some : (parts : List Part) (s : Stmt) (name : List ℕ) → statements_for parts s (Some name) ≡ part_named name parts
unfolding statements_for
for_some parts s name = refl

some_once : {A : Type 0} (a b : A) → Some a ≡ Some b → a ≡ b
some_once a b same = cc

placed_part : (parts : List Part) (s : Stmt) (done part r : List Stmt) (o : Option (List ℕ)) → r ≡ done ++ part →
    Some part ≡ option_map (λ name. part_named name parts) o → r ≡ done ++ statements_for parts s o
placed_part parts s done part r None is part_is = absurd (cc)
placed_part parts s done part r (Some name) is part_is =
    is ∙ ap (λ l. done ++ l) (some_once part (part_named name parts) part_is ∙ sym (for_some parts s name))

placed_own : (parts : List Part) (s : Stmt) (done r : List Stmt) (o : Option (List ℕ)) → r ≡ done ++ s ∷ [] →
    None ≡ option_map (λ name. part_named name parts) o → r ≡ done ++ statements_for parts s o
placed_own parts s done r None is none = is ∙ ap (λ l. done ++ l) (sym (for_none parts s))
placed_own parts s done r (Some name) is none = absurd (cc)

abbrev Placed : (List ℕ → Option FileCards) → List Stmt → Stmt → Result (List Stmt) Fail → Type 0
Placed find done s r = IsUnder find (λ parts. done ++ statements_for parts s (included_by s.body)) r

pub in_place : (find : List ℕ → Option FileCards) (done : List Stmt) (s : Stmt) (part : Result (Option (List Stmt)) Fail) (r : Result (List Stmt) Fail) →
    IsUnder find (λ parts. option_map (λ name. part_named name parts) (included_by s.body)) part → IsInPlace done s part r → Placed find done s r
in_place find done s (Ok (Some part)) (Ok l) is placed = λ parts are. placed_part parts s done part l (included_by s.body) placed (is parts are)
in_place find done s (Ok (Some part)) (Err (fail.Refused r)) is placed = λ parts are. placed
in_place find done s (Ok (Some part)) (Err fail.NoMemory) is placed = tt
in_place find done s (Ok None) (Ok l) is placed = λ parts are. placed_own parts s done l (included_by s.body) placed (is parts are)
in_place find done s (Ok None) (Err (fail.Refused r)) is placed = λ parts are. placed
in_place find done s (Ok None) (Err fail.NoMemory) is placed = tt
in_place find done s (Err f) r is placed =
    subst (λ q. Placed find done s q) (sym placed)
    (fails_alike find (λ parts. option_map (λ name. part_named name parts) (included_by s.body)) (λ parts. done ++ statements_for parts s (included_by s.body)) f is)

-- a file
file_is : (parts : List Part) (file : File) (units : List ProgramUnit) → units ≡ units_with_parts parts file.units → record { units = units } ≡ file_with_parts parts file
unfolding file_with_parts
file_is parts file units is = λ i. record { units = is i }

pub file_spliced : (find : List ℕ → Option FileCards) (file : File) (units : List ProgramUnit) → IsUnder find (λ parts. units_with_parts parts file.units) (Ok units) →
    IsUnder find (λ parts. file_with_parts parts file) (Ok (record { units = units }))
file_spliced find file units is = λ parts are. file_is parts file units (is parts are)
