-- The phases that are judged before declarations and forms are those of the whole table of refusals: cards, statements, nests.
use Rattle.std.specs.Prelude.{◌≡◌, ℕ, ◌<◌, ◌≤◌, List, [], ◌∷◌, ◌++◌, length, Option, Some, None}
use Rattle.std.proofs.Common.{refl, sym, ap, subst, ◌∙◌, arith}
use Rattle.std.proofs.lemmas.List.{append-nil, length-append}
use Rattle.refusal_order.specs.f_tree.declared.names.Options.{Options}
use Rattle.refusal_order.specs.f_tree.declared.refusals.Refusal.{Refusal}
use Rattle.refusal_order.specs.f_tree.declared.units.File.{File}
use Rattle.refusal_order.specs.f_tree.declared.units.FileSet.{FileSet}
use Rattle.refusal_order.specs.f_tree.declared.units.Unit.{Unit as ProgramUnit}
use Rattle.refusal_order.specs.f_tree.RefusalRows.{IsNotAfter}
use Rattle.refusal_order.specs.f_tree.Setting.{IsIn, first_in, later_in}
use Rattle.grammar_laws.specs.fortran_grammar.SyntaxRows.{unit_deep_rows}
use Rattle.refusal_order.specs.declaration_rows.GlobalRows.{all_units, units_global_rows}
use Rattle.refusal_order.specs.declaration_rows.SetRows.{set_faults}
use Rattle.refusal_order.specs.declaration_rows.Verdicts.{first_of, IsFirstOf}
use Rattle.refusal_order.proofs.RefusalOrder.{IsChosen, none_there, first_there, first_is_chosen}
use Rattle.source_acceptance.specs.SourceFiles.{Included, Source, names_of, mentioned_from, first_mentions, IsWhole, SpellsSource}
use Rattle.source_acceptance.specs.Acceptance as table
use Rattle.source_acceptance.specs.Acceptance.{CardFault, SyntaxFault, deep_rows_of, tree_faults}
use Rattle.translated_files.specs.TranslatedFiles.{files_not_translated}
use Rattle.source_verdict.specs.SourceRows.{Phase, Cards, Syntax, Nesting, Declarations, Forms, Sharing, place_of, Purpose, Translation, FaultFor, of_cards, of_syntax, of_nests, of_declarations, of_forms, of_sharing, IsReadFor, IsFirstRefusalFor, IsAcceptedFor}
use Rattle.source_verdict.specs.Fronts.{IsSourceOf}
use Rattle.source_verdict.proofs.OneSet.{one_set}

-- A FAULT of a phase in both tables
no_cards_of_trees : (options : Options) (set : FileSet) (r : Refusal) → IsIn r (tree_faults table.Cards options set) → ⊥
unfolding tree_faults
no_cards_of_trees options set r among = elim among [ ]

no_syntax_of_trees : (options : Options) (set : FileSet) (r : Refusal) → IsIn r (tree_faults table.Syntax options set) → ⊥
unfolding tree_faults
no_syntax_of_trees options set r among = elim among [ ]

pub cards_down : (purpose : Purpose) (options : Options) (source : Source) (r : Refusal) → table.Fault options source table.Cards r → FaultFor purpose options source Cards r
cards_down purpose options source r (table.of_cards _ h) = of_cards r h
cards_down purpose options source r (table.of_trees _ set _ spells among) = absurd (no_cards_of_trees options set r among)

pub syntax_down : (purpose : Purpose) (options : Options) (source : Source) (r : Refusal) → table.Fault options source table.Syntax r → FaultFor purpose options source Syntax r
syntax_down purpose options source r (table.of_syntax _ h) = of_syntax r h
syntax_down purpose options source r (table.of_trees _ set _ spells among) = absurd (no_syntax_of_trees options set r among)

-- what is in one of two lists
data InEither {A : Type 0} (x : A) (xs ys : List A) : Type 0 where
  in_one : IsIn x xs → InEither x xs ys
  in_other : IsIn x ys → InEither x xs ys

later : {A : Type 0} (x y : A) (xs ys : List A) → InEither x xs ys → InEither x (y ∷ xs) ys
later x y xs ys (in_one among) = in_one (later_in among)
later x y xs ys (in_other among) = in_other among

either_of : {A : Type 0} (x : A) (xs ys : List A) → IsIn x (xs ++ ys) → InEither x xs ys
either_of x [] ys among = in_other among
either_of x (_ ∷ xs) ys first_in = in_one first_in
either_of x (y ∷ xs) ys (later_in among) = later x y xs ys (either_of x xs ys among)

in_left : {A : Type 0} (x : A) (xs ys : List A) → IsIn x xs → IsIn x (xs ++ ys)
in_left x [] ys among = elim among [ ]
in_left x (_ ∷ xs) ys first_in = first_in
in_left x (y ∷ xs) ys (later_in among) = later_in (in_left x xs ys among)

in_right : {A : Type 0} (x : A) (xs ys : List A) → IsIn x ys → IsIn x (xs ++ ys)
in_right x [] ys among = among
in_right x (y ∷ xs) ys among = later_in (in_right x xs ys among)

-- a unit of a file, and its row
record InUnit (units : List ProgramUnit) (r : Refusal) : Type 0 where
  unit : ProgramUnit
  is : IsIn unit units
  row : IsIn r (unit_deep_rows unit)

unit_by : (u : ProgramUnit) (us : List ProgramUnit) (r : Refusal) → ((IsIn r (deep_rows_of us)) → InUnit us r) → InEither r (unit_deep_rows u) (deep_rows_of us) → InUnit (u ∷ us) r
unit_by u us r others (in_one among) = record { unit = u; is = first_in; row = among }
unit_by u us r others (in_other among) = let found = others among in record { unit = found.unit; is = later_in found.is; row = found.row }

unit_of_row : (us : List ProgramUnit) (r : Refusal) → IsIn r (deep_rows_of us) → InUnit us r
unfolding deep_rows_of
unit_of_row [] r among = elim among [ ]
unit_of_row (u ∷ us) r among = unit_by u us r (λ its. unit_of_row us r its) (either_of r (unit_deep_rows u) (deep_rows_of us) among)

row_of_unit : (us : List ProgramUnit) (u : ProgramUnit) (r : Refusal) → IsIn u us → IsIn r (unit_deep_rows u) → IsIn r (deep_rows_of us)
unfolding deep_rows_of
row_of_unit [] u r among row = elim among [ ]
row_of_unit (_ ∷ us) u r first_in row = in_left r (unit_deep_rows u) (deep_rows_of us) row
row_of_unit (v ∷ us) u r (later_in among) row = in_right r (unit_deep_rows v) (deep_rows_of us) (row_of_unit us u r among row)

record InFile (files : List File) (u : ProgramUnit) : Type 0 where
  file : File
  is : IsIn file files
  has : IsIn u file.units

file_by : (f : File) (fs : List File) (u : ProgramUnit) → (IsIn u (all_units fs) → InFile fs u) → InEither u f.units (all_units fs) → InFile (f ∷ fs) u
file_by f fs u others (in_one among) = record { file = f; is = first_in; has = among }
file_by f fs u others (in_other among) = let found = others among in record { file = found.file; is = later_in found.is; has = found.has }

file_of_unit : (fs : List File) (u : ProgramUnit) → IsIn u (all_units fs) → InFile fs u
unfolding all_units
file_of_unit [] u among = elim among [ ]
file_of_unit (f ∷ fs) u among = file_by f fs u (λ its. file_of_unit fs u its) (either_of u f.units (all_units fs) among)

unit_of_file : (fs : List File) (f : File) (u : ProgramUnit) → IsIn f fs → IsIn u f.units → IsIn u (all_units fs)
unfolding all_units
unit_of_file [] f u among has = elim among [ ]
unit_of_file (_ ∷ fs) f u first_in has = in_left u f.units (all_units fs) has
unit_of_file (g ∷ fs) f u (later_in among) has = in_right u g.units (all_units fs) (unit_of_file fs f u among has)

deep_of_trees : (options : Options) (set : FileSet) (r : Refusal) → IsIn r (tree_faults table.Nesting options set) → IsIn r (deep_rows_of (all_units set.files))
unfolding tree_faults
deep_of_trees options set r among = among

trees_of_deep : (options : Options) (set : FileSet) (r : Refusal) → IsIn r (deep_rows_of (all_units set.files)) → IsIn r (tree_faults table.Nesting options set)
unfolding tree_faults
trees_of_deep options set r among = among

pub nests_down : (purpose : Purpose) (options : Options) (source : Source) (r : Refusal) → table.Fault options source table.Nesting r → FaultFor purpose options source Nesting r
nests_down purpose options source r (table.of_trees _ set _ spells among) =
    let in_unit = unit_of_row (all_units set.files) r (deep_of_trees options set r among) in
    let in_file = file_of_unit set.files in_unit.unit in_unit.is in
    of_nests set in_file.file in_unit.unit r spells in_file.is in_file.has in_unit.row

pub cards_up : (purpose : Purpose) (options : Options) (source : Source) (r : Refusal) → FaultFor purpose options source Cards r → table.Fault options source table.Cards r
cards_up purpose options source r (of_cards _ h) = table.of_cards r h

pub syntax_up : (purpose : Purpose) (options : Options) (source : Source) (r : Refusal) → FaultFor purpose options source Syntax r → table.Fault options source table.Syntax r
syntax_up purpose options source r (of_syntax _ h) = table.of_syntax r h

pub nests_up : (purpose : Purpose) (options : Options) (source : Source) (r : Refusal) → FaultFor purpose options source Nesting r → table.Fault options source table.Nesting r
nests_up purpose options source r (of_nests set file unit _ spells is has row) =
    table.of_trees table.Nesting set r spells (trees_of_deep options set r (row_of_unit (all_units set.files) unit r (unit_of_file set.files file unit is has) row))

-- THE FIRST REFUSAL of an early phase
abbrev IsClear : Options → Source → table.Phase → Type 0
IsClear options source phase = (q : Refusal) → table.Fault options source phase q → ⊥

abbrev IsLeast : Options → Source → table.Phase → Refusal → Type 0
IsLeast options source phase r = (q : Refusal) → table.Fault options source phase q → IsNotAfter r q

none_before : (earlier : Phase) → place_of earlier < place_of Cards → ⊥
unfolding place_of
none_before earlier before = omega (arith, before)

refused_by_cards : (purpose : Purpose) (options : Options) (source : Source) (r : Refusal) → table.Fault options source table.Cards r → IsLeast options source table.Cards r →
    IsFirstRefusalFor purpose options source r
refused_by_cards purpose options source r holds least = record {
  phase = Cards;
  read = λ earlier q before. absurd (none_before earlier before);
  holds = cards_down purpose options source r holds;
  least = λ q h. least q (cards_up purpose options source q h);
}

before_syntax : (purpose : Purpose) (options : Options) (source : Source) → IsClear options source table.Cards → IsReadFor purpose options source Syntax
unfolding place_of
before_syntax purpose options source cards Cards q before h = cards q (cards_up purpose options source q h)
before_syntax purpose options source cards Syntax q before h = absurd (omega (arith, before))
before_syntax purpose options source cards Nesting q before h = absurd (omega (arith, before))
before_syntax purpose options source cards Declarations q before h = absurd (omega (arith, before))
before_syntax purpose options source cards Forms q before h = absurd (omega (arith, before))
before_syntax purpose options source cards Sharing q before h = absurd (omega (arith, before))

refused_by_syntax : (purpose : Purpose) (options : Options) (source : Source) (r : Refusal) → IsClear options source table.Cards → table.Fault options source table.Syntax r →
    IsLeast options source table.Syntax r → IsFirstRefusalFor purpose options source r
refused_by_syntax purpose options source r cards holds least = record {
  phase = Syntax;
  read = before_syntax purpose options source cards;
  holds = syntax_down purpose options source r holds;
  least = λ q h. least q (syntax_up purpose options source q h);
}

before_nests : (purpose : Purpose) (options : Options) (source : Source) → IsClear options source table.Cards → IsClear options source table.Syntax → IsReadFor purpose options source Nesting
unfolding place_of
before_nests purpose options source cards rows Cards q before h = cards q (cards_up purpose options source q h)
before_nests purpose options source cards rows Syntax q before h = rows q (syntax_up purpose options source q h)
before_nests purpose options source cards rows Nesting q before h = absurd (omega (arith, before))
before_nests purpose options source cards rows Declarations q before h = absurd (omega (arith, before))
before_nests purpose options source cards rows Forms q before h = absurd (omega (arith, before))
before_nests purpose options source cards rows Sharing q before h = absurd (omega (arith, before))

refused_by_nests : (purpose : Purpose) (options : Options) (source : Source) (r : Refusal) → IsClear options source table.Cards → IsClear options source table.Syntax →
    table.Fault options source table.Nesting r → IsLeast options source table.Nesting r → IsFirstRefusalFor purpose options source r
refused_by_nests purpose options source r cards rows holds least = record {
  phase = Nesting;
  read = before_nests purpose options source cards rows;
  holds = nests_down purpose options source r holds;
  least = λ q h. least q (nests_up purpose options source q h);
}

earlier_clear : (options : Options) (source : Source) (r : Refusal) (first : table.IsFirstRefusal options source r) (phase earlier : table.Phase) → first.phase ≡ phase →
    table.place_of earlier < table.place_of phase → IsClear options source earlier
earlier_clear options source r first phase earlier is before q h = first.read earlier q (subst (λ p. table.place_of earlier < table.place_of p) (sym is) before) h

by_phase : (purpose : Purpose) (options : Options) (source : Source) (r : Refusal) (first : table.IsFirstRefusal options source r) (phase : table.Phase) → first.phase ≡ phase →
    table.place_of phase ≤ 2 → IsFirstRefusalFor purpose options source r
unfolding table.place_of
by_phase purpose options source r first table.Cards is early =
    refused_by_cards purpose options source r (subst (λ p. table.Fault options source p r) is first.holds) (subst (λ p. IsLeast options source p r) is first.least)
by_phase purpose options source r first table.Syntax is early =
    refused_by_syntax purpose options source r (earlier_clear options source r first table.Syntax table.Cards is (omega arith))
    (subst (λ p. table.Fault options source p r) is first.holds) (subst (λ p. IsLeast options source p r) is first.least)
by_phase purpose options source r first table.Nesting is early =
    refused_by_nests purpose options source r (earlier_clear options source r first table.Nesting table.Cards is (omega arith))
    (earlier_clear options source r first table.Nesting table.Syntax is (omega arith))
    (subst (λ p. table.Fault options source p r) is first.holds) (subst (λ p. IsLeast options source p r) is first.least)
by_phase purpose options source r first table.Declarations is early = absurd (omega (arith, early))
by_phase purpose options source r first table.Storage is early = absurd (omega (arith, early))
by_phase purpose options source r first table.Sharing is early = absurd (omega (arith, early))

pub early_refusal : (purpose : Purpose) (options : Options) (source : Source) (r : Refusal) (first : table.IsFirstRefusal options source r) → table.place_of first.phase ≤ 2 →
    IsFirstRefusalFor purpose options source r
early_refusal purpose options source r first early = by_phase purpose options source r first first.phase refl early

-- DECLARATIONS, FORMS AND WHAT UNITS SHARE, where no earlier phase refuses
pub record IsSpelledClear (options : Options) (source : Source) (set : FileSet) : Type 0 where
  pub whole : IsWhole source
  pub spells : SpellsSource source set
  pub cards : IsClear options source table.Cards
  pub rows : IsClear options source table.Syntax
  pub nests : IsClear options source table.Nesting

-- the first of some rows, or none
chosen_first : (rs : List Refusal) (found : Option Refusal) (r : Refusal) → IsChosen rs found → found ≡ Some r → IsFirstOf rs r
chosen_first rs _ r (none_there empty) is = absurd (cc)
chosen_first rs _ r (first_there q first) is = let same : q ≡ r = cc in subst (IsFirstOf rs) same first

first_among : (rs : List Refusal) (r : Refusal) → first_of rs ≡ Some r → IsFirstOf rs r
first_among rs r is = chosen_first rs (first_of rs) r (first_is_chosen rs) is

none_chosen : (rs : List Refusal) (found : Option Refusal) → IsChosen rs found → found ≡ None → rs ≡ []
none_chosen rs _ (none_there empty) is = empty
none_chosen rs _ (first_there q first) is = absurd (cc)

none_among : (q : Refusal) (rs : List Refusal) → rs ≡ [] → IsIn q rs → ⊥
none_among q [] is among = elim among [ ]
none_among q (r ∷ rs) is among = absurd (cc)

no_row : (rs : List Refusal) → first_of rs ≡ None → (q : Refusal) → IsIn q rs → ⊥
no_row rs none q among = none_among q rs (none_chosen rs (first_of rs) (first_is_chosen rs) none) among

-- the rows of declarations and of forms are those of the one set
declared_in_set : (purpose : Purpose) (options : Options) (source : Source) (set : FileSet) → SpellsSource source set → (q : Refusal) → FaultFor purpose options source Declarations q →
    IsIn q (set_faults options set)
declared_in_set purpose options source set spells q (of_declarations other _ its among) =
    subst (λ (s : FileSet). IsIn q (set_faults options s)) (one_set source other set its spells) among

formed_in_set : (purpose : Purpose) (options : Options) (source : Source) (set : FileSet) → SpellsSource source set → (q : Refusal) → FaultFor purpose options source Forms q →
    IsIn q (files_not_translated options set.files)
formed_in_set purpose options source set spells q (of_forms translated other _ its among) =
    subst (λ (s : FileSet). IsIn q (files_not_translated options s.files)) (one_set source other set its spells) among

before_declarations : (purpose : Purpose) (options : Options) (source : Source) (set : FileSet) → IsSpelledClear options source set → IsReadFor purpose options source Declarations
unfolding place_of
before_declarations purpose options source set clear Cards q before h = clear.cards q (cards_up purpose options source q h)
before_declarations purpose options source set clear Syntax q before h = clear.rows q (syntax_up purpose options source q h)
before_declarations purpose options source set clear Nesting q before h = clear.nests q (nests_up purpose options source q h)
before_declarations purpose options source set clear Declarations q before h = absurd (omega (arith, before))
before_declarations purpose options source set clear Forms q before h = absurd (omega (arith, before))
before_declarations purpose options source set clear Sharing q before h = absurd (omega (arith, before))

pub declarations_refused : (purpose : Purpose) (options : Options) (source : Source) (set : FileSet) (r : Refusal) → IsSpelledClear options source set →
    first_of (set_faults options set) ≡ Some r → IsFirstRefusalFor purpose options source r
declarations_refused purpose options source set r clear is =
    let first : IsFirstOf (set_faults options set) r = first_among (set_faults options set) r is in
    record {
      phase = Declarations;
      read = before_declarations purpose options source set clear;
      holds = of_declarations set r clear.spells first.is;
      least = λ q h. first.least q (declared_in_set purpose options source set clear.spells q h);
    }

before_forms : (purpose : Purpose) (options : Options) (source : Source) (set : FileSet) → IsSpelledClear options source set → first_of (set_faults options set) ≡ None →
    IsReadFor purpose options source Forms
unfolding place_of
before_forms purpose options source set clear declared Cards q before h = clear.cards q (cards_up purpose options source q h)
before_forms purpose options source set clear declared Syntax q before h = clear.rows q (syntax_up purpose options source q h)
before_forms purpose options source set clear declared Nesting q before h = clear.nests q (nests_up purpose options source q h)
before_forms purpose options source set clear declared Declarations q before h =
    no_row (set_faults options set) declared q (declared_in_set purpose options source set clear.spells q h)
before_forms purpose options source set clear declared Forms q before h = absurd (omega (arith, before))
before_forms purpose options source set clear declared Sharing q before h = absurd (omega (arith, before))

pub forms_refused : (options : Options) (source : Source) (set : FileSet) (r : Refusal) → IsSpelledClear options source set →
    first_of (set_faults options set) ≡ None → first_of (files_not_translated options set.files) ≡ Some r → IsFirstRefusalFor Translation options source r
forms_refused options source set r clear declared is =
    let first : IsFirstOf (files_not_translated options set.files) r = first_among (files_not_translated options set.files) r is in
    record {
      phase = Forms;
      read = before_forms Translation options source set clear declared;
      holds = of_forms refl set r clear.spells first.is;
      least = λ q h. first.least q (formed_in_set Translation options source set clear.spells q h);
    }

-- no form of the one set is without a translation, where that is judged
abbrev pub AreFormed : Purpose → Options → FileSet → Type 0
AreFormed purpose options set = purpose ≡ Translation → first_of (files_not_translated options set.files) ≡ None

no_form : (purpose : Purpose) (options : Options) (source : Source) (set : FileSet) → SpellsSource source set → AreFormed purpose options set → (q : Refusal) →
    FaultFor purpose options source Forms q → ⊥
no_form purpose options source set spells formed q (of_forms translated other _ its among) =
    no_row (files_not_translated options set.files) (formed translated) q
    (formed_in_set purpose options source set spells q (of_forms translated other q its among))

-- what the units of the one set share
shared_in_set : (purpose : Purpose) (options : Options) (source : Source) (set : FileSet) → SpellsSource source set → (q : Refusal) → FaultFor purpose options source Sharing q →
    IsIn q (units_global_rows (all_units set.files))
shared_in_set purpose options source set spells q (of_sharing other _ its among) =
    subst (λ (s : FileSet). IsIn q (units_global_rows (all_units s.files))) (one_set source other set its spells) among

before_sharing : (purpose : Purpose) (options : Options) (source : Source) (set : FileSet) → IsSpelledClear options source set → first_of (set_faults options set) ≡ None →
    AreFormed purpose options set → IsReadFor purpose options source Sharing
unfolding place_of
before_sharing purpose options source set clear declared formed Cards q before h = clear.cards q (cards_up purpose options source q h)
before_sharing purpose options source set clear declared formed Syntax q before h = clear.rows q (syntax_up purpose options source q h)
before_sharing purpose options source set clear declared formed Nesting q before h = clear.nests q (nests_up purpose options source q h)
before_sharing purpose options source set clear declared formed Declarations q before h =
    no_row (set_faults options set) declared q (declared_in_set purpose options source set clear.spells q h)
before_sharing purpose options source set clear declared formed Forms q before h = no_form purpose options source set clear.spells formed q h
before_sharing purpose options source set clear declared formed Sharing q before h = absurd (omega (arith, before))

pub sharing_refused : (purpose : Purpose) (options : Options) (source : Source) (set : FileSet) (r : Refusal) → IsSpelledClear options source set →
    first_of (set_faults options set) ≡ None → AreFormed purpose options set →
    first_of (units_global_rows (all_units set.files)) ≡ Some r → IsFirstRefusalFor purpose options source r
sharing_refused purpose options source set r clear declared formed is =
    let first : IsFirstOf (units_global_rows (all_units set.files)) r = first_among (units_global_rows (all_units set.files)) r is in
    record {
      phase = Sharing;
      read = before_sharing purpose options source set clear declared formed;
      holds = of_sharing set r clear.spells first.is;
      least = λ q h. first.least q (shared_in_set purpose options source set clear.spells q h);
    }

no_fault : (purpose : Purpose) (options : Options) (source : Source) (set : FileSet) → IsSpelledClear options source set → first_of (set_faults options set) ≡ None →
    AreFormed purpose options set → first_of (units_global_rows (all_units set.files)) ≡ None → (phase : Phase) (r : Refusal) →
    FaultFor purpose options source phase r → ⊥
no_fault purpose options source set clear declared formed shared Cards r h = clear.cards r (cards_up purpose options source r h)
no_fault purpose options source set clear declared formed shared Syntax r h = clear.rows r (syntax_up purpose options source r h)
no_fault purpose options source set clear declared formed shared Nesting r h = clear.nests r (nests_up purpose options source r h)
no_fault purpose options source set clear declared formed shared Declarations r h =
    no_row (set_faults options set) declared r (declared_in_set purpose options source set clear.spells r h)
no_fault purpose options source set clear declared formed shared Forms r h = no_form purpose options source set clear.spells formed r h
no_fault purpose options source set clear declared formed shared Sharing r h =
    no_row (units_global_rows (all_units set.files)) shared r (shared_in_set purpose options source set clear.spells r h)

pub set_accepted : (purpose : Purpose) (options : Options) (source : Source) (set : FileSet) → IsSpelledClear options source set → first_of (set_faults options set) ≡ None →
    AreFormed purpose options set → first_of (units_global_rows (all_units set.files)) ≡ None → IsAcceptedFor purpose options source set
set_accepted purpose options source set clear declared formed shared = record {
  whole = clear.whole;
  spelled = clear.spells;
  sound = no_fault purpose options source set clear declared formed shared;
}

-- and what is accepted breaks no row of declarations nor of what units share, and has no form that is not translated
not_empty : (rs : List Refusal) → ((r : Refusal) → IsIn r rs → ⊥) → (found : Option Refusal) → IsChosen rs found → rs ≡ []
not_empty rs none _ (none_there empty) = empty
not_empty rs none _ (first_there r first) = absurd (none r first.is)

pub is_empty : (rs : List Refusal) → ((r : Refusal) → IsIn r rs → ⊥) → rs ≡ []
is_empty rs none = not_empty rs none (first_of rs) (first_is_chosen rs)

pub accepted_declarations : (purpose : Purpose) (options : Options) (source : Source) (set : FileSet) → IsAcceptedFor purpose options source set → set_faults options set ≡ []
accepted_declarations purpose options source set accepted =
    is_empty (set_faults options set) (λ r among. accepted.sound Declarations r (of_declarations set r accepted.spelled among))

pub accepted_forms : (options : Options) (source : Source) (set : FileSet) → IsAcceptedFor Translation options source set → files_not_translated options set.files ≡ []
accepted_forms options source set accepted =
    is_empty (files_not_translated options set.files) (λ r among. accepted.sound Forms r (of_forms refl set r accepted.spelled among))

pub accepted_sharing : (purpose : Purpose) (options : Options) (source : Source) (set : FileSet) → IsAcceptedFor purpose options source set → units_global_rows (all_units set.files) ≡ []
accepted_sharing purpose options source set accepted =
    is_empty (units_global_rows (all_units set.files)) (λ r among. accepted.sound Sharing r (of_sharing set r accepted.spelled among))

-- A WHOLE SOURCE has no further files
pub names_append : (is js : List Included) → names_of (is ++ js) ≡ names_of is ++ names_of js
unfolding names_of
names_append [] js = refl
names_append (i ∷ is) js = ap (λ ns. i.name ∷ ns) (names_append is js)

names_length : (is : List Included) → length (names_of is) ≡ length is
unfolding names_of
names_length [] = refl
names_length (i ∷ is) = cc (names_length is)

nothing_left : (given rest : List Included) → names_of (given ++ rest) ≡ names_of given → rest ≡ []
nothing_left given [] same = refl
nothing_left given (i ∷ rest) same =
    let one : length (names_of (given ++ i ∷ rest)) ≡ length (names_of given) = ap length same in
    let two = names_length (given ++ i ∷ rest) in
    let three = names_length given in
    let four = length-append given (i ∷ rest) in
    absurd (omega (arith, one, two, three, four))

pub no_others : (files : List (List ℕ)) (given : List Included) (source : Source) → IsWhole (record { files = files; included = given }) → IsSourceOf files given source →
    record { files = files; included = given } ≡ source
no_others files given source whole is =
    let mentions : names_of source.included ≡ names_of given =
    is.whole.included ∙ (ap (λ fs. first_mentions [] (mentioned_from 0 fs)) is.files_are ∙ sym whole.included) in
    let none : is.rest ≡ [] = nothing_left given is.rest (sym (ap names_of is.included) ∙ mentions) in
    let its : source.included ≡ given = is.included ∙ (ap (λ more. given ++ more) none ∙ append-nil given) in
    ap (λ fs. record { files = fs; included = given }) (sym is.files_are) ∙ ap (λ xs. record { files = source.files; included = xs }) (sym its)
