-- Calls: what is passed, what the dummy arguments of the entry called are, and what comes back.
-- ANSI X3.9-1978, section 15 (15.6 subroutines, 15.5 functions, 15.7 ENTRY, 15.8 RETURN, 15.9 arguments).
use Rattle.std.specs.Prelude.{ℕ, suc, ◌+ℤ◌, ◌-ℤ◌, nat_le, nat_eq, ℤ, pos, int_le, int_lt, Bool, true, false, ◌&&◌, ◌||◌, List, [], ◌∷◌, ◌++◌, length, take, map, find, bytes_eq, Option, Some, None, slice_get, if◌then◌else◌}
use Rattle.f_tree.specs.declared.names.Basic.{Basic}
use Rattle.f_tree.specs.declared.names.Basic.TheVariants.{Integer, Logical, Character, Untyped}
use Rattle.f_tree.specs.declared.names.Class.TheVariants as class
use Rattle.simulation.specs.Machine.{Calls, Answers, Breaks, Entry, Enters, Refused}
use Rattle.f_tree.specs.Values.{Bytes, Spot, Datum, IsInt, IsLog, IsText, IsSpot, IsProc, IsLabel, Nothing, BadDimension, Disagreement, NotOfThisEntry, NoResult, NoMeaning, Checked, Gives, Fails, given_that}
use Rattle.f_tree.specs.Terms.{Wanted, AsSubroutine, AsFunction, Callee, Term}
use Rattle.f_tree.specs.Store.{Store, Sequence, Chr, Number, Truth, undefined_units, with_whole, fetch}
use Rattle.f_tree.specs.Facts.{Dimension, Bounds, Attribute, Formal, Named, Alternate, UnitKind, MainProgram, SubroutineUnit, FunctionUnit, BlockDataUnit, EntryPoint, ProgramUnit, Facts, Frame}
use Rattle.f_tree.specs.Valuing.{Red, Valued, Bad, reduce}
use Rattle.f_tree.specs.World.{World, View, Now, Doing, Waits, Returning, Called, TheMain, Procedure, Passed, fortran_sorts, Happening, entered}
use Rattle.f_tree.specs.Places.{arrived, passed, gone_to}

-- the value of an actual argument that is no place, as a sequence that may only be read
unfoldable pub sequence_of : Datum → Option Sequence
sequence_of (IsInt z) = Some (record { cells = with_whole (Number z) 0 []; read_only = true })
sequence_of (IsLog b) = Some (record { cells = with_whole (Truth b) 0 []; read_only = true })
sequence_of (IsText cs) = Some (record { cells = map Chr cs; read_only = true })
sequence_of _ = None

unfoldable pub basic_of : Datum → Basic
basic_of (IsInt z) = Integer
basic_of (IsLog b) = Logical
basic_of (IsText cs) = Character
basic_of (IsSpot p) = p.basic
basic_of _ = Untyped

-- what a call passes, and the store with the sequences made for it
pub record Passing : Type 0 where
  pub store : Store
  pub actuals : List Datum

unfoldable pub made : Store → Datum → Sequence → Passing
made s d q = record {
  store = s ++ q ∷ [];
  actuals = IsSpot (record { basic = basic_of d; sequence = length s; first = 0; extent = length q.cells; width = length q.cells }) ∷ [];
}

unfoldable pub passing_one : Store → Datum → Option Sequence → Passing
passing_one s d None = record { store = s; actuals = d ∷ [] }
passing_one s d (Some q) = made s d q

unfoldable pub passing_more : Passing → Passing → Passing
passing_more one more = record { store = more.store; actuals = one.actuals ++ more.actuals }

unfoldable pub passing : Store → List Datum → Passing
passing s [] = record { store = s; actuals = [] }
passing s (d ∷ ds) =
    let one = passing_one s d (sequence_of d) in
    passing_more one (passing one.store ds)

-- the place that a caller provides for the result of a character function
unfoldable pub result_place : Store → ℕ → Spot
result_place s width = record { basic = Character; sequence = length s; first = 0; extent = width; width = width }

-- what stands ready for the procedure: its arguments, and a place for the result of a character function
unfoldable pub ready_for : Wanted → Passing → World → View → Called → Happening
ready_for AsSubroutine p w v name = Calls v (record w { store = p.store }) name (record { want = AsSubroutine; actuals = p.actuals; result = None })
ready_for (AsFunction Character width) p w v name =
    Calls v (record w { store = p.store ++ undefined_units width ∷ [] }) name (record { want = AsFunction Character width; actuals = p.actuals; result = Some (result_place p.store width) })
ready_for (AsFunction basic width) p w v name = Calls v (record w { store = p.store }) name (record { want = AsFunction basic width; actuals = p.actuals; result = None })

unfoldable pub passed_procedure : Option Datum → Checked Bytes
passed_procedure None = Fails NotOfThisEntry
passed_procedure (Some (IsProc name)) = Gives name
passed_procedure (Some _) = Fails NoMeaning

-- the procedure that a name stands for: the one of that name, or the one that was passed
unfoldable pub procedure_named : Frame → Bytes → Attribute → Checked Bytes
procedure_named f x a = elim a.class [
  | class.DummyProcedure ↦ passed_procedure (f.bound x)
  | class.Procedure ↦ Gives x
  | class.Result ↦ Gives x
  | class.Unit ↦ Gives x
  | _ ↦ Fails NoMeaning
]

unfoldable pub called_as : Checked Bytes → Wanted → Passing → World → View → Happening
called_as (Gives name) want p w v = ready_for want p w v (Procedure name)
called_as (Fails act) want p w v = Breaks act

-- a reference to a procedure, with its arguments valued; the statement waits as `now` says, given the height of the store
unfoldable pub call : Facts → View → World → Callee → List Datum → (ℕ → Now) → Happening
call c v w callee actuals now =
    called_as (procedure_named v.frame callee.name (c.program.attribute callee.name)) callee.want (passing w.store actuals) w (record v { now = now (length w.store) })

-- the entry that is called (15.7)
unfoldable pub entry_of : UnitKind → List EntryPoint → Called → Option EntryPoint
entry_of MainProgram (e ∷ es) TheMain = Some e
entry_of kind es TheMain = None
entry_of kind es (Procedure name) = find (λ e. bytes_eq e.name name) es

unfoldable pub same_basic : Basic → Basic → Bool
same_basic Integer Integer = true
same_basic Logical Logical = true
same_basic Character Character = true
same_basic _ _ = false

unfoldable pub same_width : Basic → Option ℕ → ℕ → Bool
same_width Character (Some n) m = nat_eq n m
same_width _ _ m = true

-- is the entry what the reference wants
unfoldable pub serves : UnitKind → Attribute → Wanted → Bool
serves MainProgram a AsSubroutine = true
serves SubroutineUnit a AsSubroutine = true
serves FunctionUnit a (AsFunction basic width) = same_basic a.basic basic && same_width basic a.width width
serves _ a want = false

-- dummy arguments and what they are
pub record Bindings : Type 0 where
  pub names : List Bytes
  pub values : List Datum
  -- the lengths of the actual arguments
  pub lengths : List ℕ
  pub labels : List ℕ

unfoldable pub value_for : Bytes → List Bytes → List Datum → Option Datum
value_for x (y ∷ ys) (d ∷ ds) = if bytes_eq x y then Some d else value_for x ys ds
value_for x _ _ = None

unfoldable pub length_for : Bytes → List Bytes → List ℕ → Option ℕ
length_for x (y ∷ ys) (n ∷ ns) = if bytes_eq x y then Some n else length_for x ys ns
length_for x _ _ = None

unfoldable pub length_of : Datum → ℕ
length_of (IsSpot p) = p.width
length_of _ = 0

unfoldable pub is_array_dummy : Attribute → Bool
is_array_dummy a = elim a.dimensions [ [] ↦ false | d ∷ ds ↦ true ]

-- a dummy variable or array of a type and a length; none is (*), the length of the actual argument. A dummy variable is no longer than it;
-- of an array the whole must fit, which its extent guards (15.9.3.1)
unfoldable pub bound_as : Attribute → Option ℕ → Spot → Checked Datum
bound_as a None p = Gives (IsSpot p)
bound_as a (Some n) p = if is_array_dummy a || nat_le n p.width then Gives (IsSpot (record p { width = n })) else Fails Disagreement

unfoldable pub agreed : Attribute → Datum → Checked Datum
agreed a (IsSpot p) = elim a.class [
  | class.Dummy ↦ if same_basic a.basic p.basic then bound_as a a.width p else Fails Disagreement
  | _ ↦ Fails Disagreement
]
agreed a (IsProc name) = elim a.class [ class.DummyProcedure ↦ Gives (IsProc name) | _ ↦ Fails Disagreement ]
agreed a _ = Fails Disagreement

unfoldable pub bind_all : ProgramUnit → List Formal → List Datum → Checked Bindings
bind_all u [] [] = Gives (record { names = []; values = []; lengths = []; labels = [] })
bind_all u (Named x ∷ formals) (d ∷ ds) =
    given_that (agreed (u.attribute x) d) (λ b. given_that (bind_all u formals ds) (λ bs.
    Gives (record bs { names = x ∷ bs.names; values = b ∷ bs.values; lengths = length_of d ∷ bs.lengths })))
bind_all u (Alternate ∷ formals) (IsLabel l ∷ ds) = given_that (bind_all u formals ds) (λ bs. Gives (record bs { labels = l ∷ bs.labels }))
bind_all u _ _ = Fails Disagreement

-- dimensions are fixed at the call (15.9.3.3, 5.1.2)
unfoldable pub integer_of : Red Datum Term → Checked ℤ
integer_of (Valued (IsInt z)) = Gives z
integer_of (Bad act) = Fails act
integer_of _ = Fails NoMeaning

unfoldable pub sized : ℤ → ℤ → Checked Bounds
sized lower upper =
    if int_lt upper lower then Fails BadDimension
    else if int_le ((upper -ℤ lower) +ℤ pos 1) (pos 2147483647) then Gives (record { lower = lower; upper = Some upper })
    else Fails BadDimension

unfoldable pub dimension_by : Facts → Frame → Store → Dimension → Checked Bounds
dimension_by c f s d = given_that (integer_of (reduce c f s [] d.lower)) (λ lower. elim d.upper [
  | None ↦ Gives (record { lower = lower; upper = None })
  | Some t ↦ given_that (integer_of (reduce c f s [] t)) (sized lower)
])

unfoldable pub dimensions_by : Facts → Frame → Store → List Dimension → Checked (List Bounds)
dimensions_by c f s [] = Gives []
dimensions_by c f s (d ∷ ds) = given_that (dimension_by c f s d) (λ b. given_that (dimensions_by c f s ds) (λ bs. Gives (b ∷ bs)))

unfoldable pub all_dimensions_by : Facts → Frame → Store → List Bytes → Checked (List (List Bounds))
all_dimensions_by c f s [] = Gives []
all_dimensions_by c f s (x ∷ xs) =
    given_that (dimensions_by c f s (c.program.attribute x).dimensions) (λ b. given_that (all_dimensions_by c f s xs) (λ bs. Gives (b ∷ bs)))

unfoldable pub bounds_for : Bytes → List Bytes → List (List Bounds) → Option (List Bounds)
bounds_for x (y ∷ ys) (b ∷ bs) = if bytes_eq x y then Some b else bounds_for x ys bs
bounds_for x _ _ = None

-- the place of the result: for a character function the caller's; else a sequence of the call's own
unfoldable pub result_of : UnitKind → Attribute → Option Spot → Store → Option Spot
result_of FunctionUnit a (Some p) s = Some p
result_of FunctionUnit a None s = Some (record { basic = a.basic; sequence = length s; first = 0; extent = 4; width = 4 })
result_of kind a p s = None

unfoldable pub with_result : UnitKind → Option Spot → Store → Store
with_result FunctionUnit None s = s ++ undefined_units 4 ∷ []
with_result kind p s = s

unfoldable pub frame_of : EntryPoint → Bindings → Option Spot → ℕ → Frame
frame_of e bs result base = record {
  called = e;
  bound = λ x. value_for x bs.names bs.values;
  lengths = λ x. length_for x bs.names bs.lengths;
  alternates = bs.labels;
  dimensions = λ x. None;
  result = result;
  base = base;
}

unfoldable pub begun_with : Facts → World → Frame → List Bytes → Checked (List (List Bounds)) → Entry fortran_sorts
begun_with c w f names (Gives bs) = entered (arrived c.program (record f { dimensions = λ x. bounds_for x names bs }) [] f.called.start) w
begun_with c w f names (Fails act) = Refused act

unfoldable pub begun_bound : Facts → World → EntryPoint → Option Spot → Checked Bindings → Entry fortran_sorts
begun_bound c w e result (Gives bs) =
    let a = c.program.attribute e.name in
    let s = with_result c.program.kind result w.store in
    let f = frame_of e bs (result_of c.program.kind a result w.store) (length w.store) in
    begun_with c (record w { store = s }) f bs.names (all_dimensions_by c f s bs.names)
begun_bound c w e result (Fails act) = Refused act

unfoldable pub begun_at : Facts → Passed → World → Option EntryPoint → Entry fortran_sorts
begun_at c p w None = Refused NoMeaning
begun_at c p w (Some e) =
    if serves c.program.kind (c.program.attribute e.name) p.want then begun_bound c w e p.result (bind_all c.program e.formals p.actuals)
    else Refused Disagreement

-- how a procedure begins
unfoldable pub start : Facts → Called → Passed → World → Entry fortran_sorts
start c name p w = begun_at c p w (entry_of c.program.kind c.program.entries name)

-- the store without what was made for a call
unfoldable pub cut_to : ℕ → World → World
cut_to height w = record w { store = take height w.store }

unfoldable pub alternate_of : List ℕ → ℤ → Datum
alternate_of labels (pos (suc n)) = elim (slice_get labels n) [ None ↦ Nothing | Some l ↦ IsLabel l ]
alternate_of labels _ = Nothing

unfoldable pub result_given : Frame → World → Checked Datum → Happening
result_given f w (Gives d) = Answers (cut_to f.base w) d
result_given f w (Fails act) = Breaks NoResult

unfoldable pub result_from : Frame → World → Option Spot → Happening
result_from f w None = Breaks NoMeaning
result_from f w (Some p) = result_given f w (fetch w.store p)

-- a procedure answers: a function by its result, a subroutine by the label of its alternate return, if one is taken (15.8)
unfoldable pub answer : UnitKind → View → World → Datum → Happening
answer MainProgram v w d = Answers w Nothing
answer SubroutineUnit v w d = Answers w d
answer FunctionUnit v w d = result_from v.frame w v.frame.result
answer BlockDataUnit v w d = Breaks NoMeaning

unfoldable pub returned : Facts → View → Datum → World → Entry fortran_sorts
returned c v (IsLabel l) w = entered (gone_to c.program v.frame v.loops l) w
returned c v _ w = entered (passed c.program v.frame v.loops v.at) w

unfoldable pub resumed_by : Facts → View → Now → Datum → World → Entry fortran_sorts
resumed_by c v (Waits height rest) d w = Enters (record v { now = Doing (rest d) }) (cut_to height w)
resumed_by c v (Returning height) d w = returned c v d (cut_to height w)
resumed_by c v _ d w = Refused NoMeaning

-- how a procedure goes on with the answer to its call
unfoldable pub resume : Facts → View → Datum → World → Entry fortran_sorts
resume c v d w = resumed_by c v v.now d w

unfoldable pub association_opened : Unit {0}
unfolding sequence_of basic_of made passing_one passing_more passing result_place ready_for passed_procedure procedure_named called_as call entry_of same_basic same_width serves value_for length_for length_of is_array_dummy bound_as agreed bind_all integer_of sized dimension_by dimensions_by all_dimensions_by bounds_for result_of with_result frame_of begun_with begun_bound begun_at start cut_to alternate_of result_given result_from answer returned resumed_by resume
association_opened = tt
