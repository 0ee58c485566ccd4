-- The first row of the statements of a file: by the card, since each statement stands on a card behind those before it and has one row at most.
use Rattle.std.specs.Prelude.{◌≡◌, ◌<◌, ◌≤◌, ℕ, suc, Bool, true, false, List, [], ◌∷◌, Option, Some, None, Ok, Err}
use Rattle.std.proofs.Common.{refl, sym, ap, ◌∙◌, subst, arith}
use Rattle.f_tree.specs.declared.refusals.Fail.{Fail}
use Rattle.f_tree.specs.declared.refusals.Fail.TheVariants as fail
use Rattle.f_tree.specs.declared.refusals.Kind.{Kind}
use Rattle.f_tree.specs.declared.refusals.Refusal.{Refusal}
use Rattle.f_tree.specs.declared.statements.Stmt.{Stmt}
use Rattle.f_tree.specs.declared.units.Unit.{Unit as ProgramUnit}
use Rattle.f_tree.specs.RefusalRows.{IsNotAfter}
use Rattle.f_tree.specs.RefusalRows.{number_of}
use Rattle.fortran_text.specs.Cards.{Card, cards_of}
use Rattle.fortran_text.specs.KindsOfCards.{kind_of}
use Rattle.fortran_text.specs.StatementsOfFile.{statement, before_statements, statements, file_cards}
use Rattle.fortran_text.specs.declared.source.CardKind.{CardKind}
use Rattle.fortran_text.specs.declared.source.CardKind.TheVariants.{Comment, Initial, Continuation}
use Rattle.fortran_text.specs.declared.source.Statement.{Statement}
use Rattle.fortran_grammar.specs.fortran_lexemes.KindsOfStatements.{kind_of_statement}
use Rattle.fortran_grammar.specs.fortran_lexemes.LexicalRows.{first_lexical_row}
use Rattle.fortran_grammar.specs.fortran_lexemes.declared.kinds.StmtKind.{StmtKind}
use Rattle.fortran_grammar.specs.UnitsOfFile.{is_labelled, pieces_of}
use Rattle.fortran_grammar.specs.SyntaxRows.{RowOfKind, lexical, not_spelled, RowOfStatement, of_no_kind, of_a_kind, first_behind, StandsAt, at_first, behind, FaultOfStatements}
use Rattle.file_parse.specs.FileTrees.{HasNoFault, IsFirstRow, AreStatementsOf, IsFileTree, IsPartTree}
use Rattle.file_parse.specs.ReadSoFar.{StopsAt, stops_here, stops_behind, AreTrees, AreClear, AreUnits, AreInOrder, no_more, one_more}

-- THE CARDS OF STATEMENTS
later : (file before number : ℕ) (sources : List Statement) → before ≤ number → AreInOrder file number sources → AreInOrder file before sources
later file before number _ low (no_more _) = no_more before
later file before number _ low (one_more _ source sources of_file higher more) = one_more before source sources of_file (omega arith) more

one_kind : (kind : CardKind) (file number : ℕ) (begun : Statement) (more : List Statement) → begun.file ≡ file → begun.card ≡ suc number →
    AreInOrder file (suc number) more → AreInOrder file number (before_statements kind begun more)
unfolding before_statements
one_kind Comment file number begun more of_file card others = later file number (suc number) more (omega arith) others
one_kind Continuation file number begun more of_file card others = later file number (suc number) more (omega arith) others
one_kind Initial file number begun more of_file card others =
    one_more number begun more of_file (omega arith) (subst (λ n. AreInOrder file n more) (sym card) others)

statements_in_order : (file number : ℕ) (cards : List Card) → AreInOrder file number (statements file (suc number) cards)
unfolding statements statement
statements_in_order file number [] = no_more number
statements_in_order file number (card ∷ more) =
    one_kind (kind_of card.columns) file number (statement file (suc number) card more) (statements file (suc (suc number)) more) refl refl
    (statements_in_order file (suc number) more)

-- The statements of a file stand on cards in their order, and have its number.
pub file_in_order : (file : ℕ) (bytes : List ℕ) → AreInOrder file 0 (file_cards file bytes).statements
unfolding file_cards
file_in_order file bytes = statements_in_order file 0 (cards_of bytes)

-- THE ROW OF A STATEMENT
some_once : {A : Type 0} (a b : A) → Some a ≡ Some b → a ≡ b
some_once a b same = cc

none_some : {A : Type 0} (a : A) (o : Option A) → o ≡ None → o ≡ Some a → ⊥
none_some a o is other = let e : None ≡ Some a = sym is ∙ other in absurd (cc)

kind_row : (k : StmtKind) (source : Statement) (row other : Kind) → RowOfKind k source row → RowOfKind k source other → row ≡ other
kind_row k source row other (lexical is) (lexical also) = some_once row other (sym is ∙ also)
kind_row k source row other (lexical is) (not_spelled none no_tree same) = absurd (none_some row (first_lexical_row k (pieces_of k source)) none is)
kind_row k source row other (not_spelled none no_tree same) (lexical also) = absurd (none_some other (first_lexical_row k (pieces_of k source)) none also)
kind_row k source row other (not_spelled none no_tree same) (not_spelled none_too no_tree_too also) = same ∙ sym also

-- A statement has one row at most.
pub one_row : (first : Bool) (source : Statement) (row other : Kind) → RowOfStatement first source row → RowOfStatement first source other → row ≡ other
one_row first source row other (of_no_kind none same) (of_no_kind none_too also) = same ∙ sym also
one_row first source row other (of_no_kind none same) (of_a_kind k is of_kind) = absurd (none_some k (kind_of_statement first (is_labelled source) source.text) none is)
one_row first source row other (of_a_kind k is of_kind) (of_no_kind none same) = absurd (none_some k (kind_of_statement first (is_labelled source) source.text) none is)
one_row first source row other (of_a_kind k is of_kind) (of_a_kind l also of_other) =
    kind_row l source row other (subst (λ m. RowOfKind m source row) (some_once k l (sym is ∙ also)) of_kind) of_other

-- THE FIRST ROW
abbrev Row : Bool → Bool → List Statement → Refusal → Type 0
Row whole first sources q =
    (begins : Bool) × (source : Statement) × StandsAt whole first sources begins source × RowOfStatement begins source q.kind × (q.file ≡ source.file) × (q.card ≡ source.card)

row_of_fault : (whole : Bool) (sources : List Statement) (q : Refusal) → FaultOfStatements whole sources q.file q.card q.kind → Row whole whole sources q
row_of_fault whole sources q f = (f.begins, f.source, f.stands, f.holds, f.in_file, f.on_card)

fault_of_row : (whole : Bool) (sources : List Statement) (q : Refusal) → Row whole whole sources q → FaultOfStatements whole sources q.file q.card q.kind
fault_of_row whole sources q row =
    record { begins = row.0; source = row.1; stands = row.2; holds = row.3; in_file = row.4; on_card = row.5 }

-- a row where the reading stops
pub stop_row : (whole first : Bool) (sources : List Statement) (r : Refusal) → StopsAt whole first sources r → Row whole first sources r
stop_row whole first _ r (stops_here _ source sources _ file card row) = (first, source, at_first first source sources, row, file, card)
stop_row whole first _ r (stops_behind _ source sources _ none stop) =
    let more : Row whole (first_behind whole source) sources r = stop_row whole (first_behind whole source) sources r stop in
    (more.0, more.1, behind first more.0 source more.1 sources more.2, more.3, more.4, more.5)

-- each row stands in the file, behind the cards before it
pub card_of_row : (whole : Bool) (file : ℕ) (first : Bool) (before : ℕ) (sources : List Statement) (begins : Bool) (other : Statement) → AreInOrder file before sources →
    StandsAt whole first sources begins other → (other.file ≡ file) × (before < other.card)
card_of_row whole file first _ _ begins other (no_more before) stands = elim stands [ ]
card_of_row whole file first before _ begins other (one_more _ source sources of_file higher more) (at_first _ _ _) = (of_file, higher)
card_of_row whole file first before _ begins other (one_more _ source sources of_file higher more) (behind _ _ _ _ _ stands) =
    let found = card_of_row whole file (first_behind whole source) source.card sources begins other more stands in
    (found.0, omega arith)

not_after : (r q : Refusal) → r.file ≡ q.file → r.card ≤ q.card → (q.card ≡ r.card → r.kind ≡ q.kind) → IsNotAfter r q
not_after r q files cards kinds = record {
  file = omega arith;
  card = λ same. cards;
  number = λ same at. omega (arith, ap number_of (kinds at));
}

-- no other row stands before it
pub stop_least : (whole : Bool) (file : ℕ) (first : Bool) (before : ℕ) (sources : List Statement) (r q : Refusal) → AreInOrder file before sources →
    StopsAt whole first sources r → (begins : Bool) (other : Statement) → StandsAt whole first sources begins other → RowOfStatement begins other q.kind →
    q.file ≡ other.file → q.card ≡ other.card → IsNotAfter r q
stop_least whole file first _ _ r q (no_more before) stop begins other stands holds q_file q_card = elim stop [ ]
stop_least whole file first before _ r q (one_more _ source sources of_file higher more) (stops_here _ _ _ _ r_file r_card row) begins other (at_first _ _ _) holds q_file q_card =
    not_after r q (r_file ∙ sym q_file) (omega arith) (λ same. one_row first source r.kind q.kind row holds)
stop_least whole file first before _ r q (one_more _ source sources of_file higher more) (stops_here _ _ _ _ r_file r_card row) begins other (behind _ _ _ _ _ stands) holds q_file q_card =
    let found = card_of_row whole file (first_behind whole source) source.card sources begins other more stands in
    let low : r.card < q.card = omega arith in
    not_after r q (r_file ∙ (of_file ∙ (sym found.0 ∙ sym q_file))) (omega arith) (λ same. absurd (omega arith))
stop_least whole file first before _ r q (one_more _ source sources of_file higher more) (stops_behind _ _ _ _ none stop) begins other (at_first _ _ _) holds q_file q_card =
    absurd (none q.kind holds)
stop_least whole file first before _ r q (one_more _ source sources of_file higher more) (stops_behind _ _ _ _ none stop) begins other (behind _ _ _ _ _ stands) holds q_file q_card =
    stop_least whole file (first_behind whole source) source.card sources r q more stop begins other stands holds q_file q_card

pub first_row : (whole : Bool) (sources : List Statement) (r : Refusal) → StopsAt whole whole sources r → (file : ℕ) (bytes : List ℕ) →
    AreStatementsOf file bytes sources → IsFirstRow whole sources r
first_row whole sources r stop file bytes are =
    let order : AreInOrder file 0 sources = subst (λ l. AreInOrder file 0 l) (sym are) (file_in_order file bytes) in
    record {
      holds = fault_of_row whole sources r (stop_row whole whole sources r stop);
      least = λ q f. stop_least whole file whole 0 sources r q order stop f.begins f.source f.stands f.holds f.in_file f.on_card;
    }

-- nothing is refused where no statement has a row
pub no_fault : (whole : Bool) (sources : List Statement) → AreClear whole whole sources → HasNoFault whole sources
no_fault whole sources clear q f = clear f.begins f.source f.stands q.kind f.holds

-- FILES
pub file_refused : (sources : List Statement) (f : Fail) → AreUnits sources (Err f) → IsFileTree sources (Err f)
file_refused sources fail.NoMemory is = tt
file_refused sources (fail.Refused r) is = first_row true sources r is

pub file_read : (sources : List Statement) (units : List ProgramUnit) → AreUnits sources (Ok units) → IsFileTree sources (Ok (record { units = units }))
file_read sources units is = (is.0, no_fault true sources is.1)

pub part_refused : (name : List ℕ) (sources : List Statement) (f : Fail) → AreTrees false sources (Err f) → IsPartTree name sources (Err f)
part_refused name sources fail.NoMemory is = tt
part_refused name sources (fail.Refused r) is = first_row false sources r is

pub part_read : (name same : List ℕ) (sources : List Statement) (trees : List Stmt) → same ≡ name → AreTrees false sources (Ok trees) →
    IsPartTree name sources (Ok (record { name = same; statements = trees }))
part_read name same sources trees named is =
    (record { named = named; statements = is.0 }, no_fault false sources is.1)
