-- Units: the statements up to each END.
use Rattle.std.specs.Prelude.{◌≡◌, ◌<◌, ◌≤◌, ◌+◌, ◌==◌, ℕ, suc, Bool, true, false, List, [], ◌∷◌, ◌++◌, length, take, drop, Option, None, Ok, Err, if◌then◌else◌}
use Rattle.std.proofs.Common.{refl, sym, ap, ◌∙◌, subst, append_assoc, arith, get_or}
use Rattle.std.proofs.lemmas.List.{append-nil, drop_more, drop_all, nil_from_length}
use Rattle.std.proofs.lemmas.Bool.{eqb-true}
use Rattle.f_tree.specs.declared.refusals.Fail.{Fail}
use Rattle.f_tree.specs.declared.refusals.Fail.TheVariants as fail
use Rattle.f_tree.specs.declared.refusals.Refusal.{Refusal}
use Rattle.f_tree.specs.declared.statements.Body as whole
use Rattle.f_tree.specs.declared.statements.Body.{Body, IfOne', more_of-Body}
use Rattle.f_tree.specs.declared.statements.DummyArgument.{DummyArgument}
use Rattle.f_tree.specs.declared.statements.UnitKind.{UnitKind}
use Rattle.f_tree.specs.declared.statements.Stmt.{Stmt}
use Rattle.f_tree.specs.declared.units.Unit.{Unit as ProgramUnit}
use Rattle.f_tree.specs.Folds.{layer_of}
use Rattle.fortran_text.specs.CharactersOfText.{is_end}
use Rattle.fortran_text.specs.declared.source.Statement.{Statement}
use Rattle.fortran_grammar.specs.UnitsOfFile.{before_units, statements_of_units, heading_of, headed, unit_of, SpellsUnits, no_units, one_unit}
use Rattle.fortran_grammar.specs.SyntaxRows.{first_behind, at_first, behind as further}
use Rattle.statement_reader.specs.ReadStatements.{HasNoRow}
use Rattle.file_parse.specs.ReadSoFar.{StopsAt, stops_here, stops_behind, SpellsUnit, IsUnit, AreClear, AreUnits, unit_length}
use Rattle.file_parse.proofs.StatementLemmas.{begins_behind, included_behind, clear_first, clear_none}

-- THE HEADING OF A UNIT
pub no_heading : (b : Body) → ((kind : UnitKind) (name : Option (List ℕ)) (dummies : List DummyArgument) → b ≡ whole.Header kind name dummies → ⊥) →
    heading_of b ≡ None
unfolding heading_of layer_of
no_heading (whole.Header kind name dummies) other = absurd (other kind name dummies refl)
no_heading (IfOne' e s (more_of-Body b r)) other = refl
no_heading b other = refl

pub unit_is : (s : Stmt) (more : List Stmt) (u : ProgramUnit) → u ≡ headed (heading_of s.body) s more → unit_of (s ∷ more) ≡ u ∷ []
unfolding unit_of
unit_is s more u is = ap (λ v. v ∷ []) (sym is)

-- THE LENGTH OF A UNIT
length_at_end : (source : Statement) (sources : List Statement) → is_end source.text ≡ true → unit_length (source ∷ sources) ≡ 1
unfolding unit_length
length_at_end source sources ends = ap (λ b. if b then 1 else suc (unit_length sources)) ends

length_before_end : (source : Statement) (sources : List Statement) → is_end source.text ≡ false → unit_length (source ∷ sources) ≡ suc (unit_length sources)
unfolding unit_length
length_before_end source sources ends = ap (λ b. if b then 1 else suc (unit_length sources)) ends

length_of_none : unit_length [] ≡ 0
unfolding unit_length
length_of_none = refl

within_by : (source : Statement) (sources : List Statement) (b : Bool) → is_end source.text ≡ b → unit_length sources ≤ length sources →
    unit_length (source ∷ sources) ≤ length (source ∷ sources)
within_by source sources true ends low = omega (arith, length_at_end source sources ends)
within_by source sources false ends low = omega (arith, length_before_end source sources ends)

pub unit_within : (sources : List Statement) → unit_length sources ≤ length sources
unit_within [] = omega (arith, length_of_none)
unit_within (source ∷ sources) = within_by source sources (is_end source.text) refl (unit_within sources)

pub unit_some : (sources : List Statement) → 0 < length sources → 0 < unit_length sources
unit_some [] some = absurd (omega arith)
unit_some (source ∷ sources) some = either (is_end source.text) refl
  where
    either : (b : Bool) → is_end source.text ≡ b → 0 < unit_length (source ∷ sources)
    either true ends = omega (arith, length_at_end source sources ends)
    either false ends = omega (arith, length_before_end source sources ends)

-- at a place
pub ends_at : (sources : List Statement) (i : ℕ) (source : Statement) → i < length sources → source ≡ get_or sources i source → is_end source.text ≡ true →
    unit_length (drop i sources) ≡ 1
ends_at sources i source within is ends =
    ap unit_length (drop_more sources i source within ∙ ap (λ s. s ∷ drop (i + 1) sources) (sym is)) ∙ length_at_end source (drop (i + 1) sources) ends

pub goes_on_at : (sources : List Statement) (i : ℕ) (source : Statement) → i < length sources → source ≡ get_or sources i source → is_end source.text ≡ false →
    unit_length (drop i sources) ≡ suc (unit_length (drop (i + 1) sources))
goes_on_at sources i source within is ends =
    ap unit_length (drop_more sources i source within ∙ ap (λ s. s ∷ drop (i + 1) sources) (sym is)) ∙ length_before_end source (drop (i + 1) sources) ends

pub none_at : (sources : List Statement) (i : ℕ) → length sources ≤ i → unit_length (drop i sources) ≡ 0
none_at sources i past = ap unit_length (drop_all i sources past) ∙ length_of_none

-- THE STATEMENTS OF A UNIT, AND THOSE BEHIND IT
pub data IsCut : List Statement → List Statement → List Statement → Type 0 where
  no_unit : IsCut [] [] []
  at_end : (source : Statement) (sources : List Statement) → is_end source.text ≡ true → IsCut (source ∷ sources) (source ∷ []) sources
  before_end : (source : Statement) (sources front rest : List Statement) → is_end source.text ≡ false → IsCut sources front rest →
      IsCut (source ∷ sources) (source ∷ front) rest

abbrev FrontAndRest : List Statement → Type 0
FrontAndRest sources = IsCut sources (take (unit_length sources) sources) (drop (unit_length sources) sources)

cut_at : (source : Statement) (sources : List Statement) (b : Bool) → is_end source.text ≡ b → FrontAndRest sources → FrontAndRest (source ∷ sources)
cut_at source sources true ends more =
    subst (λ n. IsCut (source ∷ sources) (take n (source ∷ sources)) (drop n (source ∷ sources))) (sym (length_at_end source sources ends)) (at_end source sources ends)
cut_at source sources false ends more =
    subst (λ n. IsCut (source ∷ sources) (take n (source ∷ sources)) (drop n (source ∷ sources))) (sym (length_before_end source sources ends))
    (before_end source sources (take (unit_length sources) sources) (drop (unit_length sources) sources) ends more)

pub is_cut : (sources : List Statement) → IsCut sources (take (unit_length sources) sources) (drop (unit_length sources) sources)
is_cut [] = subst (λ n. IsCut [] (take n []) (drop n [])) (sym length_of_none) no_unit
is_cut (source ∷ sources) = cut_at source sources (is_end source.text) refl (is_cut sources)

pub cut_where : (sources front more : List Statement) (n : ℕ) → n ≡ unit_length sources → front ≡ take n sources → more ≡ drop n sources → IsCut sources front more
cut_where sources front more n is fronts mores =
    subst (λ l. IsCut sources l more) (sym (fronts ∙ ap (λ m. take m sources) is))
    (subst (λ l. IsCut sources (take (unit_length sources) sources) l) (sym (mores ∙ ap (λ m. drop m sources) is)) (is_cut sources))

pub some_left : (sources : List Statement) (b : Bool) → b ≡ (length sources == 0) → b ≡ false → 0 < length sources
some_left [] b is none = let e : false ≡ true = sym none ∙ is in absurd (cc)
some_left (source ∷ sources) b is none = omega arith

pub none_left : (sources : List Statement) (b : Bool) → b ≡ (length sources == 0) → b ≡ true → sources ≡ []
none_left sources b is none = nil_from_length sources (eqb-true (length sources) 0 (sym is ∙ none))

-- the statements of the units
cut_by : (b : Bool) (source : Statement) (sources : List Statement) → is_end source.text ≡ b →
    statements_of_units (source ∷ sources) ≡ (if b then (source ∷ []) ∷ statements_of_units sources else before_units source (statements_of_units sources))
unfolding statements_of_units
cut_by b source sources ends = ap (λ c. if c then (source ∷ []) ∷ statements_of_units sources else before_units source (statements_of_units sources)) ends

before_none : (source : Statement) → before_units source (statements_of_units []) ≡ (source ∷ []) ∷ statements_of_units []
unfolding before_units statements_of_units
before_none source = refl

before_some : (source : Statement) (unit : List Statement) (more : List (List Statement)) → before_units source (unit ∷ more) ≡ (source ∷ unit) ∷ more
unfolding before_units
before_some source unit more = refl

-- The first unit, and the units behind it.
pub units_cut : (source : Statement) (sources front rest : List Statement) → IsCut (source ∷ sources) front rest →
    statements_of_units (source ∷ sources) ≡ front ∷ statements_of_units rest
units_cut source sources _ _ (at_end _ _ ends) = cut_by true source sources ends
units_cut source _ _ _ (before_end _ _ _ _ ends no_unit) = cut_by false source [] ends ∙ before_none source
units_cut source _ _ _ (before_end _ _ _ rest ends (at_end next sources end)) =
    cut_by false source (next ∷ sources) ends
    ∙ (ap (before_units source) (cut_by true next sources end) ∙ before_some source (next ∷ []) (statements_of_units sources))
units_cut source _ _ _ (before_end _ _ _ rest ends (before_end next sources front _ other more)) =
    cut_by false source (next ∷ sources) ends
    ∙ (ap (before_units source) (units_cut next sources (next ∷ front) rest (before_end next sources front rest other more))
    ∙ before_some source (next ∷ front) (statements_of_units rest))

behind_within : (source : Statement) → is_end source.text ≡ false → first_behind false source ≡ first_behind true source
behind_within source ends = included_behind source ∙ sym (begins_behind source false ends)

-- A row in the first unit stops there.
pub stops_in_unit : (first : Bool) (sources front rest : List Statement) (r : Refusal) → IsCut sources front rest → StopsAt false first front r →
    StopsAt true first sources r
stops_in_unit first _ _ _ r no_unit stop = elim stop [ ]
stops_in_unit first _ _ _ r (at_end _ rest ends) (stops_here _ source _ _ file card row) = stops_here first source rest r file card row
stops_in_unit first _ _ _ r (at_end _ rest ends) (stops_behind _ source _ _ none stop) = elim stop [ ]
stops_in_unit first _ _ _ r (before_end _ sources front rest ends cut) (stops_here _ source _ _ file card row) = stops_here first source sources r file card row
stops_in_unit first _ _ _ r (before_end _ sources front rest ends cut) (stops_behind _ source _ _ none stop) =
    stops_behind first source sources r none
    (stops_in_unit (first_behind true source) sources front rest r cut (subst (λ b. StopsAt false b front r) (behind_within source ends) stop))

-- statements without a row: the first, and those behind it
clear_head : (whole first : Bool) (source : Statement) (sources : List Statement) → AreClear whole first (source ∷ sources) → HasNoRow first source
clear_head whole first source sources clear = clear first source (at_first first source sources)

clear_within : (first : Bool) (source : Statement) (sources : List Statement) → is_end source.text ≡ false → AreClear false first (source ∷ sources) →
    AreClear false (first_behind true source) sources
clear_within first source sources ends clear =
    subst (λ b. AreClear false b sources) (behind_within source ends)
    (λ begins other stands. clear begins other (further first begins source other sources stands))

-- A row behind the first unit.
pub stops_behind_unit : (first : Bool) (sources front rest : List Statement) (r : Refusal) → IsCut sources front rest →
    AreClear false first front → StopsAt true true rest r → StopsAt true first sources r
stops_behind_unit first _ _ _ r no_unit clear stop = elim stop [ ]
stops_behind_unit first _ _ _ r (at_end source rest ends) clear stop =
    stops_behind first source rest r (clear_head false first source [] clear) (subst (λ b. StopsAt true b rest r) (sym (begins_behind source true ends)) stop)
stops_behind_unit first _ _ _ r (before_end source sources front rest ends cut) clear stop =
    stops_behind first source sources r (clear_head false first source front clear)
    (stops_behind_unit (first_behind true source) sources front rest r cut (clear_within first source front ends clear) stop)

-- No statement has a row.
pub all_clear : (first : Bool) (sources front rest : List Statement) → IsCut sources front rest → AreClear false first front →
    AreClear true true rest → AreClear true first sources
all_clear first _ _ _ no_unit clear more = clear_none true first
all_clear first _ _ _ (at_end source rest ends) clear more =
    clear_first true first source rest (clear_head false first source [] clear) (subst (λ b. AreClear true b rest) (sym (begins_behind source true ends)) more)
all_clear first _ _ _ (before_end source sources front rest ends cut) clear more =
    clear_first true first source sources (clear_head false first source front clear)
    (all_clear (first_behind true source) sources front rest cut (clear_within first source front ends clear) more)

-- UNITS ONE BEHIND THE OTHER
pub record GoingUnits (sources rest : List Statement) (units : List ProgramUnit) : Type 0 where
  pub spells : (more : List ProgramUnit) → SpellsUnits (statements_of_units rest) more → SpellsUnits (statements_of_units sources) (units ++ more)
  pub clear : AreClear true true rest → AreClear true true sources
  pub stops : (r : Refusal) → StopsAt true true rest r → StopsAt true true sources r

pub units_start : (sources : List Statement) → GoingUnits sources sources []
units_start sources = record { spells = λ more s. s; clear = λ s. s; stops = λ r s. s }

unit_first : (rest front behind : List Statement) (u : ProgramUnit) (more : List ProgramUnit) → IsCut rest front behind → 0 < length rest →
    SpellsUnit front u → SpellsUnits (statements_of_units behind) more → SpellsUnits (statements_of_units rest) (u ∷ more)
unit_first [] front behind u more cut some is others = absurd (omega arith)
unit_first (source ∷ sources) front behind u more cut some is others =
    subst (λ l. SpellsUnits l (u ∷ more)) (sym (units_cut source sources front behind cut))
    (one_unit front is.trees u (statements_of_units behind) more is.spells is.headed others)

pub units_go_on : (sources rest front behind : List Statement) (units : List ProgramUnit) (u : ProgramUnit) → IsCut rest front behind → 0 < length rest →
    GoingUnits sources rest units → SpellsUnit front u → GoingUnits sources behind (units ++ u ∷ [])
units_go_on sources rest front behind units u cut some going is = record {
  spells = λ more s. subst (λ us. SpellsUnits (statements_of_units sources) us) (sym (append_assoc units (u ∷ []) more))
      (going.spells (u ∷ more) (unit_first rest front behind u more cut some is s));
  clear = λ s. going.clear (all_clear true rest front behind cut is.clear s);
  stops = λ r s. going.stops r (stops_behind_unit true rest front behind r cut is.clear s);
}

no_units_left : statements_of_units [] ≡ []
unfolding statements_of_units
no_units_left = refl

pub units_end : (sources rest : List Statement) (units : List ProgramUnit) → GoingUnits sources rest units → rest ≡ [] → AreUnits sources (Ok units)
units_end sources rest units going none =
    let over : SpellsUnits (statements_of_units rest) [] = subst (λ l. SpellsUnits l []) (sym (ap statements_of_units none ∙ no_units_left)) no_units in (
      subst (λ us. SpellsUnits (statements_of_units sources) us) (append-nil units) (going.spells [] over),
      going.clear (subst (λ l. AreClear true true l) (sym none) (clear_none true true)),
    )

pub units_stop : (sources rest front behind : List Statement) (units : List ProgramUnit) (f : Fail) → IsCut rest front behind → GoingUnits sources rest units →
    IsUnit front (Err f) → AreUnits sources (Err f)
units_stop sources rest front behind units fail.NoMemory cut going is = tt
units_stop sources rest front behind units (fail.Refused r) cut going is = going.stops r (stops_in_unit true rest front behind r cut is)
