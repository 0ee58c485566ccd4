-- Statements one behind the other: what is read of them goes on with what is left.
use Rattle.std.specs.Prelude.{◌≡◌, ◌<◌, ◌+◌, ℕ, length, drop, Bool, true, false, List, [], ◌∷◌, ◌++◌, Ok, Err}
use Rattle.std.proofs.Common.{refl, sym, ap, ◌∙◌, subst, append_assoc, get_or}
use Rattle.std.proofs.lemmas.List.{append-nil, drop_more}
use Rattle.f_tree.specs.declared.refusals.Fail.{Fail}
use Rattle.f_tree.specs.declared.refusals.Fail.TheVariants as fail
use Rattle.f_tree.specs.declared.refusals.Refusal.{Refusal}
use Rattle.f_tree.specs.declared.statements.Stmt.{Stmt}
use Rattle.fortran_text.specs.CharactersOfText.{is_end}
use Rattle.fortran_text.specs.declared.source.Statement.{Statement}
use Rattle.fortran_grammar.specs.UnitsOfFile.{SpellsStatement, SpellsStatements, no_statements, one_statement}
use Rattle.fortran_grammar.specs.SyntaxRows.{first_behind, at_first, behind}
use Rattle.statement_reader.specs.ReadStatements.{HasNoRow, IsTree}
use Rattle.file_parse.specs.ReadSoFar.{StopsAt, stops_here, stops_behind, AreClear, AreTrees}

-- what stands behind a statement
pub begins_behind : (source : Statement) (b : Bool) → is_end source.text ≡ b → first_behind true source ≡ b
unfolding first_behind
begins_behind source b is = is

pub included_behind : (source : Statement) → first_behind false source ≡ false
unfolding first_behind
included_behind source = refl

-- a statement without a row, before those without one
pub clear_first : (whole first : Bool) (source : Statement) (sources : List Statement) → HasNoRow first source →
    AreClear whole (first_behind whole source) sources → AreClear whole first (source ∷ sources)
clear_first whole first source sources none more _ _ (at_first _ _ _) = none
clear_first whole first source sources none more begins other (behind _ _ _ _ _ stands) = more begins other stands

pub clear_none : (whole first : Bool) → AreClear whole first []
clear_none whole first begins source stands = elim stands [ ]

pub record Going (first begins : Bool) (sources rest : List Statement) (trees : List Stmt) : Type 0 where
  pub spells : (more : List Stmt) → SpellsStatements begins rest more → SpellsStatements first sources (trees ++ more)
  pub clear : AreClear false begins rest → AreClear false first sources
  pub stops : (r : Refusal) → StopsAt false begins rest r → StopsAt false first sources r

pub going_starts : (first : Bool) (sources : List Statement) → Going first first sources sources []
going_starts first sources = record { spells = λ more s. s; clear = λ s. s; stops = λ r s. s }

pub going_on : (first begins : Bool) (sources rest : List Statement) (trees : List Stmt) (source : Statement) (tree : Stmt) →
    Going first begins sources (source ∷ rest) trees → SpellsStatement begins source tree → HasNoRow begins source →
    Going first false sources rest (trees ++ tree ∷ [])
going_on first begins sources rest trees source tree going spelled none = record {
  spells = λ more s. subst (λ ts. SpellsStatements first sources ts) (sym (append_assoc trees (tree ∷ []) more))
      (going.spells (tree ∷ more) (one_statement begins source tree rest more spelled s));
  clear = λ s. going.clear (clear_first false begins source rest none (subst (λ b. AreClear false b rest) (sym (included_behind source)) s));
  stops = λ r s. going.stops r (stops_behind begins source rest r none (subst (λ b. StopsAt false b rest r) (sym (included_behind source)) s));
}

pub going_ends : (first begins : Bool) (sources rest : List Statement) (trees : List Stmt) → Going first begins sources rest trees → rest ≡ [] →
    AreTrees first sources (Ok trees)
going_ends first begins sources rest trees going over = (
  subst (λ ts. SpellsStatements first sources ts) (append-nil trees)
      (going.spells [] (subst (λ l. SpellsStatements begins l []) (sym over) (no_statements begins))),
  going.clear (subst (λ l. AreClear false begins l) (sym over) (clear_none false begins)),
)

pub going_stops : (first begins : Bool) (sources rest : List Statement) (trees : List Stmt) (source : Statement) (f : Fail) →
    Going first begins sources (source ∷ rest) trees → IsTree begins source (Err f) → AreTrees first sources (Err f)
going_stops first begins sources rest trees source fail.NoMemory going is = tt
going_stops first begins sources rest trees source (fail.Refused r) going is = going.stops r (stops_here begins source rest r is.0 is.1 is.2)

-- at a place
pub going_at : (first begins : Bool) (sources : List Statement) (trees : List Stmt) (i : ℕ) (source : Statement) → i < length sources →
    source ≡ get_or sources i source → Going first begins sources (drop i sources) trees → Going first begins sources (source ∷ drop (i + 1) sources) trees
going_at first begins sources trees i source within is going =
    subst (λ l. Going first begins sources l trees) (drop_more sources i source within ∙ ap (λ s. s ∷ drop (i + 1) sources) (sym is)) going
