-- What the reader of cards keeps while it goes over them.
use Rattle.std.specs.Prelude.{◌≡◌, ℕ, suc, ◌+◌, Bool, true, false, not, nat_lt, ◌&&◌, ◌==◌, List, [], ◌∷◌, ◌++◌, length, take, Option, Some, None, if◌then◌else◌}
use Rattle.f_tree.specs.declared.refusals.Fail.{Fail}
use Rattle.f_tree.specs.declared.refusals.Fail.TheVariants.{NoMemory, Refused}
use Rattle.f_tree.specs.declared.refusals.Kind.{Kind}
use Rattle.f_tree.specs.declared.refusals.Kind.TheVariants.{CharacterOutsideSet, BadLabelField, TooManyContinuations, ContinuationWithoutStatement, TextPastColumn72, NoEnd, FileTooLong}
use Rattle.fortran_text.specs.CardRows.{open_behind, has_character_outside, has_bad_field, is_twentieth, is_unopened, has_text_past}
use Rattle.fortran_text.specs.Cards.{Card, spread, cards_of}
use Rattle.fortran_text.specs.CharactersOfText.{is_end}
use Rattle.fortran_text.specs.FirstFault.{most_cards, judged, too_long}
use Rattle.fortran_text.specs.KindsOfCards.{kind_of, field_of, text_of, label_of}
use Rattle.fortran_text.specs.Lines.{lines}
use Rattle.fortran_text.specs.StatementsOfFile.{statements}
use Rattle.fortran_text.specs.declared.source.CardKind.{CardKind}
use Rattle.fortran_text.specs.declared.source.CardKind.TheVariants.{Comment, Initial, Continuation}
use Rattle.fortran_text.specs.declared.source.Statement.{Statement}
use Rattle.cards.specs.declared.columns.CardBytes.{CardBytes}
use Rattle.cards.specs.declared.faults.Fault.{Fault}
use Rattle.cards.specs.declared.grouping.Current.{Current}
use Rattle.cards.specs.declared.grouping.Group.{Group}
use Rattle.cards.specs.declared.pass.Pass.{Pass}
use Rattle.cards.specs.declared.reader.Reading.{Reading}

-- The card of which columns 1 to 72 and the bytes past them are kept.
abbrev pub seen : CardBytes → Card
seen card = record { columns = card.columns; past = spread 73 card.past.now }

-- A byte that is a blank once tabs are spread.
abbrev pub is_blank_or_tab : ℕ → Bool
is_blank_or_tab b = if b == 32 then true else b == 9

-- Whether a byte ends a text.
unfoldable pub ends_with : ℕ → List ℕ → Bool
ends_with c [] = false
ends_with c (b ∷ []) = b == c
ends_with c (b ∷ d ∷ more) = ends_with c (d ∷ more)

-- The least row that holds, by the tests of the rows.
abbrev pub least_row : Bool → Bool → Bool → Bool → Bool → Option Kind
least_row true b c d e = Some CharacterOutsideSet
least_row false true c d e = Some BadLabelField
least_row false false true d e = Some TooManyContinuations
least_row false false false true e = Some ContinuationWithoutStatement
least_row false false false false true = Some TextPastColumn72
least_row false false false false false = None

unfoldable pub row_of : Bool → Option ℕ → Card → Option Kind
row_of refused before card =
    least_row (has_character_outside card.columns) (has_bad_field card.columns) (is_twentieth (kind_of card.columns) before)
    (is_unopened (kind_of card.columns) before) (has_text_past refused card)

-- A row at a card, and the first of two faults.
abbrev pub placed : ℕ → Option Kind → Option Fault
placed number None = None
placed number (Some kind) = Some (record { card = number; kind = kind })

abbrev pub fault_or : Option Fault → Option Fault → Option Fault
fault_or None later = later
fault_or (Some fault) later = Some fault

-- The first fault of cards, before the first of which something stands open.
unfoldable pub fault_from : Bool → Option ℕ → ℕ → List Card → Option Fault
fault_from refused before number [] = None
fault_from refused before number (card ∷ more) =
    fault_or (placed number (row_of refused before card)) (fault_from refused (open_behind (kind_of card.columns) (text_of card.columns) before) (suc number) more)

-- The statement of an initial card alone.
abbrev pub begun : ℕ → ℕ → List ℕ → Statement
begun file number columns = record {
  label = label_of (field_of columns);
  text = text_of columns;
  file = file;
  card = number;
}

abbrev pub extended : Statement → List ℕ → Statement
extended s text = record s { text = s.text ++ text }

-- The statements with the one that is not closed yet.
abbrev pub closed : List Statement → Option Current → List Statement
closed done None = done
closed done (Some current) = done ++ current.statement ∷ []

-- What is kept behind an initial card, by whether it is END.
abbrev pub with_begun : List Statement → Statement → Bool → Group
with_begun done s true = record { done = done ++ s ∷ []; current = None }
with_begun done s false = record { done = done; current = Some (record { statement = s; continuations = 0 }) }

-- What is kept behind a continuation card.
abbrev pub with_more : Option Current → List ℕ → Option Current
with_more None text = None
with_more (Some current) text = Some (record { statement = extended current.statement text; continuations = current.continuations + 1 })

-- What is kept behind a card.
abbrev pub group_by : CardKind → ℕ → ℕ → Group → List ℕ → Group
group_by Comment file number group columns = group
group_by Initial file number group columns = with_begun (closed group.done group.current) (begun file number columns) (is_end (text_of columns))
group_by Continuation file number group columns = record { done = group.done; current = with_more group.current (text_of columns) }

unfoldable pub group_after : ℕ → ℕ → Group → List ℕ → Group
group_after file number group columns = group_by (kind_of columns) file number group columns

unfoldable pub groups_after : ℕ → ℕ → Group → List Card → Group
groups_after file number group [] = group
groups_after file number group (card ∷ more) = groups_after file (suc number) (group_after file number group card.columns) more

-- Nothing kept yet.
abbrev pub nothing : Group
nothing = record { done = []; current = None }

-- How many continuation cards the statement has that is not closed.
abbrev pub counted : Option Current → Option ℕ
counted None = None
counted (Some current) = Some current.continuations

abbrev pub count_of : Option Current → ℕ
count_of None = 0
count_of (Some current) = current.continuations

-- Whether another card is read, where so many were read and a text is left.
unfoldable pub has_next : ℕ → List ℕ → Bool
has_next cards rest = nat_lt cards most_cards && not (length rest == 0)

-- What one pass over bytes finds, up to the limit on cards.
pub record IsPass (file : ℕ) (refused : Bool) (bytes : List ℕ) (pass : Pass) : Type 0 where
  pub group : groups_after file 1 nothing (take most_cards (cards_of bytes)) ≡ pass.group
  pub fault : fault_from refused None 1 (take most_cards (cards_of bytes)) ≡ pass.fault
  pub cards : pass.cards ≡ length (take most_cards (cards_of bytes))
  pub more : pass.more ≡ nat_lt most_cards (length (lines bytes))

-- What is read of a file.
pub record IsReading (file : ℕ) (refused : Bool) (bytes : List ℕ) (reading : Reading) : Type 0 where
  pub statements : reading.statements ≡ statements file 1 (judged bytes)
  pub cards : reading.cards ≡ length (judged bytes)
  pub fault : reading.fault ≡ fault_from refused None 1 (judged bytes)
  pub too_long : reading.too_long ≡ too_long bytes

-- The first fault of an included file.
abbrev pub at_limit : Option ℕ → Option Fault
at_limit None = None
at_limit (Some card) = Some (record { card = card; kind = FileTooLong })

abbrev pub first_of_included : Option Fault → Option ℕ → Option Fault
first_of_included fault limit = fault_or fault (at_limit limit)

-- The first of a fault and of the card at which END is missing.
abbrev pub sooner : Option Fault → Option ℕ → Option Fault
sooner None None = None
sooner None (Some card) = Some (record { card = card; kind = NoEnd })
sooner (Some fault) None = Some fault
sooner (Some fault) (Some card) = if nat_lt card fault.card then Some (record { card = card; kind = NoEnd }) else Some fault

-- The first fault of a file.
abbrev pub first_of_file : Option Fault → Option ℕ → Option ℕ → Option Fault
first_of_file fault None unended = sooner fault unended
first_of_file fault (Some card) unended = fault_or fault (at_limit (Some card))

-- The refusal is that of a fault.
abbrev pub IsRefusal : ℕ → Option Fault → Fail → Type 0
IsRefusal file fault NoMemory = Unit {0}
IsRefusal file fault (Refused r) = (r.file ≡ file) × (fault ≡ Some (record { card = r.card; kind = r.kind }))
