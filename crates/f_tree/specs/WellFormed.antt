-- Program units that are well formed: each statement has operands of the types that it wants, each label that it
-- names stands at a statement, nests of IF blocks are closed, END stands last, and each name has what its class wants.
-- ANSI X3.9-1978, sections 2.4 and 3.5 (units and their statements), 10 (assignment), 11 (control), 12.8 to 12.10
-- (transfers and units) and 15 (procedures).
use Rattle.std.specs.Prelude.{◌≡◌, ℕ, suc, ◌<◌, ℤ, Bool, true, false, ◌||◌, List, [], ◌∷◌, length, Option, Some, None, is_some, slice_get, IsTrue}
use Rattle.f_tree.specs.declared.names.Basic.{Basic}
use Rattle.f_tree.specs.declared.names.Basic.TheVariants.{Integer, Logical, Character}
use Rattle.f_tree.specs.declared.names.Class.{Class}
use Rattle.f_tree.specs.declared.names.Class.TheVariants as class
use Rattle.f_tree.specs.Values.{Bytes, Spot, IsInt, IsSpot, Checked, Gives, Fails}
use Rattle.f_tree.specs.Terms.{Negate, Operator, Power, Term, Val, Fetch, At, Before as Prefixed, Between, Intrinsically, Terms, NoMore, More}
use Rattle.f_tree.specs.Facts.{Dimension, FunctionUnit, EntryPoint, Direction, Input, Output, Layout, Listed, Labelled, Computed, Word, UnitWord, FormatWord, StatusWord, FileWord, FileStatusWord, AccessWord, FormWord, BlankWord, Controls, AuxiliaryKind, Job, Item, Repeated, Turn, Work, Done, Before, Head, ToSet, ToSetText, ToSetLabel, ToGo, ToPick, ToGoAssigned, ToGoBySign, ToGuard, ToEnterArm, ToLoop, ToTestLoop, ToCall, ToReturn, ToStop, ToBegin, ToTransfer, ToRepeat, ToTurn, ToFinish, ToAuxiliary, ToEnd, Form, Passes, On, Mark, Plain, Opens, Arm, Closes, Line, ProgramUnit, Facts, Home}
use Rattle.f_tree.specs.Places.{place_of_label, terminal_of}
use Rattle.f_tree.specs.Transfers.{is_format_word, labelled_text}
use Rattle.f_tree.specs.Valuing.{elements_of}
use Rattle.f_tree.specs.Attributes.{is_not_empty}
use Rattle.f_tree.specs.Setting.{Setting, IsIn}
use Rattle.f_tree.specs.Meaning.{facts_at}
use Rattle.f_tree.specs.WellTyped.{Sort, ValueOf, PlaceOf, AProcedure, ALabel, IsOf, IsValued, Operates, IsVariable, is_callee, IsPiece, Typed, AreTyped}

-- LABELS. A label that stands at a statement, and a DO with its terminal statement, behind which another one stands (11.10)
pub record HasStatement (u : ProgramUnit) (label : ℕ) : Type 0 where
  pub at : ℕ
  pub there : place_of_label u label ≡ Some at

pub record HasTerminal (u : ProgramUnit) (first : ℕ) (label : Option ℕ) : Type 0 where
  pub at : ℕ
  pub there : terminal_of u first label ≡ Some at
  pub before_end : suc at < length u.lines

-- a statement that takes a step
unfoldable pub takes_step : Form → Bool
takes_step Passes = false
takes_step (On head operands) = true

-- each label of a list, and a label that may be left out
pub data EachStands (u : ProgramUnit) : List ℕ → Type 0 where
  none_stands : EachStands u []
  one_stands : (label : ℕ) (labels : List ℕ) → HasStatement u label → EachStands u labels → EachStands u (label ∷ labels)

pub data MayStand (u : ProgramUnit) : Option ℕ → Type 0 where
  left_out : MayStand u None
  stands : (label : ℕ) → HasStatement u label → MayStand u (Some label)

-- CONTROL WORDS and the sorts of their operands (12.8.1, 12.10)
pub data WordTakes : Word → Sort → Type 0 where
  unit_number : WordTakes UnitWord (ValueOf Integer)
  internal_file : WordTakes UnitWord (PlaceOf Character)
  status_place : WordTakes StatusWord (PlaceOf Integer)
  format_text : (sort : Sort) → IsPiece sort → WordTakes FormatWord sort
  file_text : (sort : Sort) → IsPiece sort → WordTakes FileWord sort
  file_status_text : (sort : Sort) → IsPiece sort → WordTakes FileStatusWord sort
  access_text : (sort : Sort) → IsPiece sort → WordTakes AccessWord sort
  form_text : (sort : Sort) → IsPiece sort → WordTakes FormWord sort
  blank_text : (sort : Sort) → IsPiece sort → WordTakes BlankWord sort

pub data WordsTake : List Word → List Sort → Type 0 where
  no_words : WordsTake [] []
  more_words : (word : Word) (words : List Word) (sort : Sort) (sorts : List Sort) → WordTakes word sort → WordsTake words sorts →
      WordsTake (word ∷ words) (sort ∷ sorts)

-- the sort of the operand that names the unit
unfoldable pub unit_sort : List Word → List Sort → Option Sort
unit_sort (UnitWord ∷ words) (sort ∷ sorts) = Some sort
unit_sort (word ∷ words) (sort ∷ sorts) = unit_sort words sorts
unit_sort _ _ = None

unfoldable pub names_format : List Word → Bool
names_format [] = false
names_format (word ∷ words) = is_format_word word || names_format words

-- a layout that is there: its FORMAT statement, or its operand (13.1)
unfoldable pub is_given : {A : Type 0} → Checked A → Bool
is_given (Gives a) = true
is_given (Fails act) = false

pub data HasLayout (u : ProgramUnit) (words : List Word) : Layout → Type 0 where
  by_list : HasLayout u words Listed
  by_label : (label : ℕ) → IsTrue (is_given (labelled_text u.formats label)) → HasLayout u words (Labelled label)
  by_operand : IsTrue (names_format words) → HasLayout u words Computed

-- LISTS (12.8.2). What may be written, and what may be read
pub data IsListed : Direction → Sort → Type 0 where
  written_value : (basic : Basic) → IsValued basic → IsListed Output (ValueOf basic)
  written_place : (basic : Basic) → IsValued basic → IsListed Output (PlaceOf basic)
  read_place : (basic : Basic) → IsValued basic → IsListed Input (PlaceOf basic)

-- the variable of a loop, its first value, its limit and its step
abbrev pub loop_sorts : List Sort
loop_sorts = PlaceOf Integer ∷ ValueOf Integer ∷ ValueOf Integer ∷ ValueOf Integer ∷ []

mutual
  pub data JobIsFormed (c : Facts) (count : ℕ) (way : Direction) : Job → Type 0 where
    item : (t : Term) (sort : Sort) → IsListed way sort → Typed c count [] t sort → JobIsFormed c count way (Item t)
    repeated : (items : Work) (control : Terms) → WorkIsFormed c count way items → AreTyped c count [] control loop_sorts →
        JobIsFormed c count way (Repeated items control)
    turn : (items : Work) (p : Spot) (left : ℕ) (by given : ℤ) → WorkIsFormed c count way items → IsOf count (PlaceOf Integer) (IsSpot p) →
        JobIsFormed c count way (Turn items p left by given)

  pub data WorkIsFormed (c : Facts) (count : ℕ) (way : Direction) : Work → Type 0 where
    done : WorkIsFormed c count way Done
    before : (job : Job) (work : Work) → JobIsFormed c count way job → WorkIsFormed c count way work → WorkIsFormed c count way (Before job work)

-- STATEMENTS. What a CALL may pass: a label must stand at a statement (15.6.2)
pub data ArePassed (u : ProgramUnit) : List Sort → Type 0 where
  none_passed : ArePassed u []
  value_passed : (basic : Basic) (sorts : List Sort) → ArePassed u sorts → ArePassed u (ValueOf basic ∷ sorts)
  place_passed : (basic : Basic) (sorts : List Sort) → ArePassed u sorts → ArePassed u (PlaceOf basic ∷ sorts)
  procedure_passed : (sorts : List Sort) → ArePassed u sorts → ArePassed u (AProcedure ∷ sorts)
  label_passed : (label : ℕ) (sorts : List Sort) → HasStatement u label → ArePassed u sorts → ArePassed u (ALabel label ∷ sorts)

-- the pieces of a text, and the place that gets them
pub data ArePiecesAndPlace : List Sort → Type 0 where
  the_place : ArePiecesAndPlace (PlaceOf Character ∷ [])
  a_piece : (sort : Sort) (sorts : List Sort) → IsPiece sort → ArePiecesAndPlace sorts → ArePiecesAndPlace (sort ∷ sorts)

-- behind which statements an ELSE IF, an ELSE or an END IF follows
unfoldable pub has_arm : Mark → Bool
has_arm Opens = true
has_arm Arm = true
has_arm _ = false

-- What a statement does with operands of these sorts, at a place among the statements of its unit. A statement that is
-- written stands outside a transfer; the items of a list and what follows them stand in one that has begun.
mutual
  pub data Takes (c : Facts) (count : ℕ) (at : ℕ) : Option Direction → Head → List Sort → Type 0 where
    sets : (basic : Basic) → IsValued basic → Takes c count at None ToSet (ValueOf basic ∷ PlaceOf basic ∷ [])
    sets_text : (sorts : List Sort) → ArePiecesAndPlace sorts → Takes c count at None ToSetText sorts
    sets_label : (label : ℕ) → Takes c count at None (ToSetLabel label) (PlaceOf Integer ∷ [])
    goes : (label : ℕ) → HasStatement c.program label → Takes c count at None (ToGo label) []
    picks : (labels : List ℕ) → EachStands c.program labels → Takes c count at None (ToPick labels) (ValueOf Integer ∷ [])
    goes_assigned : (labels : List ℕ) → Takes c count at None (ToGoAssigned labels) (PlaceOf Integer ∷ [])
    goes_by_sign : (below even above : ℕ) → HasStatement c.program below → HasStatement c.program even → HasStatement c.program above →
        Takes c count at None (ToGoBySign below even above) (ValueOf Integer ∷ [])
    guards : (form : Form) → IsFormed c count at None form → Takes c count at None (ToGuard form) (ValueOf Logical ∷ [])
    enters_arm : (line : Line) → slice_get c.program.lines at ≡ Some line → IsTrue (has_arm line.mark) → Takes c count at None ToEnterArm (ValueOf Logical ∷ [])
    loops : (label : Option ℕ) → HasTerminal c.program at label → Takes c count at None (ToLoop label) loop_sorts
    tests_loop : (label : Option ℕ) (line : Line) → slice_get c.program.lines at ≡ Some line → IsTrue (takes_step line.form) → HasTerminal c.program at label →
        Takes c count at None (ToTestLoop label) (ValueOf Logical ∷ [])
    calls : (x : Bytes) (sorts : List Sort) → IsTrue (is_callee (c.program.attribute x).class) → ArePassed c.program sorts → Takes c count at None (ToCall x) sorts
    returns : Takes c count at None ToReturn []
    returns_by : Takes c count at None ToReturn (ValueOf Integer ∷ [])
    stops : (text : Bytes) → Takes c count at None (ToStop text) []
    ends : Takes c count at None ToEnd []
    begins : (way : Direction) (layout : Layout) (controls : Controls) (work : Work) (sorts : List Sort) (sort : Sort) → WordsTake controls.words sorts →
        unit_sort controls.words sorts ≡ Some sort → HasLayout c.program controls.words layout → MayStand c.program controls.on_error →
        MayStand c.program controls.on_end → WorkIsFormed c count way work → Takes c count at None (ToBegin way layout controls work) sorts
    uses_unit : (which : AuxiliaryKind) (controls : Controls) (sorts : List Sort) → WordsTake controls.words sorts →
        unit_sort controls.words sorts ≡ Some (ValueOf Integer) → MayStand c.program controls.on_error → MayStand c.program controls.on_end →
        Takes c count at None (ToAuxiliary which controls) sorts
    transfers : (way : Direction) (rest : Work) (sort : Sort) → IsListed way sort → WorkIsFormed c count way rest → Takes c count at (Some way) (ToTransfer rest) (sort ∷ [])
    repeats : (way : Direction) (items rest : Work) → WorkIsFormed c count way items → WorkIsFormed c count way rest →
        Takes c count at (Some way) (ToRepeat items rest) loop_sorts
    turns : (way : Direction) (items : Work) (p : Spot) (left : ℕ) (by given : ℤ) (rest : Work) → WorkIsFormed c count way items →
        IsOf count (PlaceOf Integer) (IsSpot p) → WorkIsFormed c count way rest → Takes c count at (Some way) (ToTurn items p left by given rest) []
    finishes : (way : Direction) → Takes c count at (Some way) ToFinish []

  pub data IsFormed (c : Facts) (count : ℕ) (at : ℕ) : Option Direction → Form → Type 0 where
    passes : IsFormed c count at None Passes
    on : (stage : Option Direction) (head : Head) (operands : Terms) (sorts : List Sort) → Takes c count at stage head sorts →
        AreTyped c count [] operands sorts → IsFormed c count at stage (On head operands)

-- NESTS. So many IF blocks are open before these statements, all of them are closed in them, and the last statement is END (11.6 to 11.9, 11.14)
pub data IsNest : ℕ → List Line → Type 0 where
  the_end : (line : Line) → line.mark ≡ Plain → line.form ≡ On ToEnd NoMore → IsNest 0 (line ∷ [])
  plain : (depth : ℕ) (line : Line) (lines : List Line) → line.mark ≡ Plain → IsNest depth lines → IsNest depth (line ∷ lines)
  opens : (depth : ℕ) (line : Line) (lines : List Line) → line.mark ≡ Opens → IsNest (suc depth) lines → IsNest depth (line ∷ lines)
  arm : (depth : ℕ) (line : Line) (lines : List Line) → line.mark ≡ Arm → IsNest (suc depth) lines → IsNest (suc depth) (line ∷ lines)
  closes : (depth : ℕ) (line : Line) (lines : List Line) → line.mark ≡ Closes → IsNest depth lines → IsNest (suc depth) (line ∷ lines)

-- NAMES. A variable or array that is stored: its length, its home among so many sequences, and constant bounds (8.1 to 8.3)
pub record IsStored (c : Facts) (count : ℕ) (x : Bytes) : Type 0 where
  pub width : ℕ
  pub width_is : (c.program.attribute x).width ≡ Some width
  pub home : Home
  pub home_is : c.home x ≡ Some home
  pub within : home.sequence < count
  pub ranked : length (c.program.attribute x).bounds ≡ length (c.program.attribute x).dimensions
  pub sized : IsTrue (is_some (elements_of (c.program.attribute x).bounds))

-- an expression of integers over constants and variables alone, as it stands in the dimension of a dummy array (5.1.1.1)
pub data IsOfVariables (c : Facts) : Term → Type 0 where
  a_constant : (z : ℤ) → IsOfVariables c (Val (IsInt z))
  a_variable : (x : Bytes) → IsVariable c x Integer → IsOfVariables c (Fetch (At x))
  negated : (t : Term) → IsOfVariables c t → IsOfVariables c (Prefixed Negate t)
  combined : (op : Operator) (t u : Term) → Operates op Integer Integer → IsOfVariables c t → IsOfVariables c u → IsOfVariables c (Between op t u)
  raised : (t u : Term) → IsOfVariables c t → IsOfVariables c u → IsOfVariables c (Intrinsically Power (More t (More u NoMore)))

pub data IsUpper (c : Facts) : Option Term → Type 0 where
  assumed : IsUpper c None
  written : (t : Term) → IsOfVariables c t → IsUpper c (Some t)

pub data AreDimensions (c : Facts) : List Dimension → Type 0 where
  no_dimensions : AreDimensions c []
  more_dimensions : (d : Dimension) (ds : List Dimension) → IsOfVariables c d.lower → IsUpper c d.upper → AreDimensions c ds → AreDimensions c (d ∷ ds)

-- the result of a function is no array, and only a function has one (15.5.1)
pub record IsResult (c : Facts) (x : Bytes) : Type 0 where
  pub kind_is : c.program.kind ≡ FunctionUnit
  pub no_dimensions : (c.program.attribute x).dimensions ≡ []
  pub no_bounds : (c.program.attribute x).bounds ≡ []

unfoldable pub is_dummy : Class → Bool
is_dummy class.Dummy = true
is_dummy class.DummyProcedure = true
is_dummy _ = false

-- A program unit, of a set with so many sequences before the run.
pub record IsWellFormed (c : Facts) (count : ℕ) : Type 0 where
  pub statements : (i : ℕ) (line : Line) → slice_get c.program.lines i ≡ Some line → IsFormed c count i None line.form
  pub nest : IsNest 0 c.program.lines
  -- it is called by some name, and each entry begins at a statement (15.7)
  pub named : IsTrue (is_not_empty c.program.entries)
  pub entries : (e : EntryPoint) → IsIn e c.program.entries → e.start < length c.program.lines
  pub stored : (x : Bytes) → (c.program.attribute x).class ≡ class.Stored → IsStored c count x
  pub dummies : (x : Bytes) → IsTrue (is_dummy (c.program.attribute x).class) → AreDimensions c (c.program.attribute x).dimensions
  pub results : (x : Bytes) → (c.program.attribute x).class ≡ class.Result → IsResult c x

-- each program unit of a set
pub record AreWellFormed (g : Setting) (S : List ProgramUnit) : Type 0 where
  pub each : (k : ℕ) (u : ProgramUnit) → slice_get S k ≡ Some u → IsWellFormed (facts_at g k (Some u)) (length g.sizes)
