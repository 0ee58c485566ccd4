-- What the meaning knows of one program unit: its names, its statements in their order, and where its
-- names stand in storage. ANSI X3.9-1978, sections 2.4, 3.5, 8 and 18.
use Rattle.std.specs.Prelude.{ℕ, ℤ, Bool, List, Option}
use Rattle.f_tree.specs.declared.names.Basic.{Basic}
use Rattle.f_tree.specs.declared.names.Class.{Class}
use Rattle.f_tree.specs.Values.{Bytes, Datum, Spot}
use Rattle.f_tree.specs.Terms.{Term, Terms}

-- A dimension as it is written; no upper bound stands for `*` (5.1.1).
pub record Dimension : Type 0 where
  pub lower : Term
  pub upper : Option Term

-- a dimension by its values
pub record Bounds : Type 0 where
  pub lower : ℤ
  pub upper : Option ℤ

-- What a name is in its unit.
pub record Attribute : Type 0 where
  pub basic : Basic
  pub class : Class
  -- the units of one element; none for a dummy or a result of length (*)
  pub width : Option ℕ
  -- no dimensions for what is no array
  pub dimensions : List Dimension
  -- the same by value, where they are constant; an upper bound may be assumed (5.1.2.2)
  pub bounds : List Bounds
  -- the value of a constant
  pub constant : Option Datum
  -- the expression of a statement function, over its arguments
  pub expansion : Option Term

-- a dummy argument in the list of an entry
pub data Formal : Type 0 where
  Named : Bytes → Formal
  -- the place of an alternate return
  Alternate : Formal

pub data UnitKind : Type 0 where
  MainProgram : UnitKind
  SubroutineUnit : UnitKind
  FunctionUnit : UnitKind
  BlockDataUnit : UnitKind

-- a name by which a unit is called: the unit's own name, or an ENTRY (15.7)
pub record EntryPoint : Type 0 where
  pub name : Bytes
  pub formals : List Formal
  -- the statement at which it begins, counted from 0
  pub start : ℕ

-- what a transfer goes to or comes from (12.9)
pub data Direction : Type 0 where
  Input : Direction
  Output : Direction

pub data Layout : Type 0 where
  -- list-directed
  Listed : Layout
  -- by the FORMAT statement with this label
  Labelled : ℕ → Layout
  -- by the text of an operand
  Computed : Layout
  -- no format is written: a form that is not built (12.8.1)
  Unformatted : Layout

-- the control words whose operands stand, in this order, in the statement's operands, and its labels
pub data Word : Type 0 where
  UnitWord : Word
  FormatWord : Word
  StatusWord : Word
  FileWord : Word
  FileStatusWord : Word
  AccessWord : Word
  FormWord : Word
  BlankWord : Word

pub record Controls : Type 0 where
  pub words : List Word
  pub on_error : Option ℕ
  pub on_end : Option ℕ

pub data AuxiliaryKind : Type 0 where
  OpenUnit : AuxiliaryKind
  CloseUnit : AuxiliaryKind
  BackspaceUnit : AuxiliaryKind
  EndFileUnit : AuxiliaryKind
  RewindUnit : AuxiliaryKind

-- what is left to transfer of a list (12.8.2)
mutual
  pub data Job : Type 0 where
    Item : Term → Job
    -- an implied DO: its items, and its variable, first value, limit and step
    Repeated : Work → Terms → Job
    -- an implied DO at its increment: its items, its variable, the turns left, the step, the value given
    Turn : Work → Spot → ℕ → ℤ → ℤ → Job

  pub data Work : Type 0 where
    Done : Work
    Before : Job → Work → Work

mutual
  -- what a statement does once its operands are valued, from left to right
  pub data Head : Type 0 where
    -- the value, and the place that gets it
    ToSet : Head
    -- the pieces of a text, and the place that gets them
    ToSetText : Head
    -- the place that gets the label
    ToSetLabel : ℕ → Head
    ToGo : ℕ → Head
    -- the number that picks a label
    ToPick : List ℕ → Head
    -- the place that holds a label, and the labels allowed, if any are written
    ToGoAssigned : List ℕ → Head
    -- the labels for a negative value, for 0 and for a positive one
    ToGoBySign : ℕ → ℕ → ℕ → Head
    -- the condition; the statement follows where it holds
    ToGuard : Form → Head
    -- the condition of a block; the next arm follows where it does not hold
    ToEnterArm : Head
    -- the variable, the first value, the limit and the step; the label of the terminal statement, which is an END DO where none is written
    ToLoop : Option ℕ → Head
    -- the condition of a DO WHILE; the label of its terminal statement, if one is written
    ToTestLoop : Option ℕ → Head
    ToCall : Bytes → Head
    -- the number of the alternate return, if it is written
    ToReturn : Head
    ToStop : Bytes → Head
    -- the control words' operands; the list follows
    ToBegin : Direction → Layout → Controls → Work → Head
    -- the value of the first item, or its place where it is read or is an array; the rest of the list follows
    ToTransfer : Work → Head
    -- the variable and the bounds of an implied DO; its items; the rest of the list
    ToRepeat : Work → Work → Head
    -- an implied DO at its increment: its items, its variable, the turns left, the step, the value given; the rest of the list
    ToTurn : Work → Spot → ℕ → ℤ → ℤ → Work → Head
    ToFinish : Head
    ToAuxiliary : AuxiliaryKind → Controls → Head
    -- END, which answers as RETURN does
    ToEnd : Head

  pub data Form : Type 0 where
    -- takes no step
    Passes : Form
    On : Head → Terms → Form

-- how a statement stands in the nest of IF blocks (11.6 to 11.9)
pub data Mark : Type 0 where
  Plain : Mark
  -- IF .. THEN
  Opens : Mark
  -- ELSE IF .. THEN and ELSE
  Arm : Mark
  -- END IF
  Closes : Mark

-- how a statement stands in the nest of the loops that END DO ends (MIL-STD-1753)
pub data LoopMark : Type 0 where
  NoLoop : LoopMark
  -- a DO or a DO WHILE without a label
  OpensLoop : LoopMark
  -- an END DO that is no terminal statement of a DO with a label
  ClosesLoop : LoopMark

pub record Line : Type 0 where
  pub label : Option ℕ
  pub mark : Mark
  pub loop : LoopMark
  -- the card on which the statement begins
  pub card : ℕ
  pub form : Form

-- the text of a FORMAT statement, by its label (13.1.1)
pub record LabelledFormat : Type 0 where
  pub label : ℕ
  pub text : Bytes

-- what DATA defines (9.3): the variables of its implied DOs are bound, the outermost first
mutual
  pub data DataPlace : Type 0 where
    -- a variable or an array by its name
    WholeName : Term → DataPlace
    -- an element or a substring
    OnePlace : Term → DataPlace
    -- the places, the first value, the limit and the step
    EachOf : DataPlaces → Term → Term → Term → DataPlace

  pub data DataPlaces : Type 0 where
    NoPlaces : DataPlaces
    AndPlaces : DataPlace → DataPlaces → DataPlaces

-- places with their values, repeats written out
pub record Image : Type 0 where
  pub places : DataPlaces
  pub values : List Datum

-- an item of a common block, with its size in character units (8.3)
pub record Member : Type 0 where
  pub name : Bytes
  pub size : ℕ

-- a common block with its items from all COMMON statements of the unit; blank common has no name
pub record Block : Type 0 where
  pub name : Option Bytes
  pub members : List Member

-- two places that are one by an EQUIVALENCE statement: a name, and the character units before the place (8.2)
pub record Tied : Type 0 where
  pub name : Bytes
  pub before : ℕ

pub record Tie : Type 0 where
  pub one : Tied
  pub other : Tied

-- a program unit; its lines are its statements, one for one
pub record ProgramUnit : Type 0 where
  pub kind : UnitKind
  -- the unit's own name first; the main program has one entry too
  pub entries : List EntryPoint
  pub lines : List Line
  pub attribute : Bytes → Attribute
  pub formats : List LabelledFormat
  pub blocks : List Block
  pub ties : List Tie
  pub images : List Image
  -- the external procedures that it references or passes
  pub references : List Bytes
  -- the names that stand in storage, dummies and results aside, in first-seen order, with their sizes
  pub stored : List Member
  -- the range of a DO statement is run at least once
  pub onetrip : Bool

-- where a name stands: its sequence, and its first place in character units
pub record Home : Type 0 where
  pub sequence : ℕ
  pub first : ℕ

-- a program unit with the homes of its stored names
pub record Facts : Type 0 where
  pub program : ProgramUnit
  pub home : Bytes → Option Home

-- What belongs to one active procedure (15.9): the entry that was called, what its dummy arguments
-- are, the dimensions of those that are arrays, the place of its result where it has one, and the
-- number of sequences before the call.
pub record Frame : Type 0 where
  pub called : EntryPoint
  pub bound : Bytes → Option Datum
  -- the length of the actual argument of a dummy of type CHARACTER, of an array that of an element
  pub lengths : Bytes → Option ℕ
  -- where its alternate returns go, in their order
  pub alternates : List ℕ
  pub dimensions : Bytes → Option (List Bounds)
  pub result : Option Spot
  pub base : ℕ
