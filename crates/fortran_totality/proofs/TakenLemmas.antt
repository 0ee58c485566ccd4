-- The values that items take are of the types of the items, in a formatted and in a list-directed input.
use Rattle.std.specs.Prelude.{◌≡◌, ℕ, zero, suc, ◌+◌, ◌-◌, ℤ, nat_le, nat_lt, ◌==◌, Bool, true, false, if◌then◌else◌, Option, None, Some, unwrap_or, Result, Ok, Err, List, [], ◌∷◌, ◌++◌, length, take, drop}
use Rattle.std.proofs.Common.{refl, sym, subst}
use Rattle.f_tree.specs.edit_meaning.Formats as format
use Rattle.f_tree.specs.edit_meaning.Formats.{Format, Descriptor, Control, Edit, Served, edits_for}
use Rattle.f_tree.specs.edit_meaning.Halts.{Halt, Number}
use Rattle.f_tree.specs.edit_meaning.ListInput as list
use Rattle.f_tree.specs.edit_meaning.ListInput.{Kind, Place, Given, Sought, Ending, behind_constant, given_number, given_truth, piece_before, piece_by, piece, text_constant, ending, run_length, int_word, logical_word, constant_as, nulls, counted_as, word_length, digit_count, given_behind, count_before, sought, given}
use Rattle.f_tree.specs.edit_meaning.ListItems as items
use Rattle.f_tree.specs.edit_meaning.ListItems.{Value, Outcome, Item, begun_with_value, begun_with_outcome, begun_with, text_item, text_over, behind_text, item_by, item_at, renewed, item_over}
use Rattle.f_tree.specs.edit_meaning.TakenFields.{int_in, logical_in, text_in}
use Rattle.f_tree.specs.edit_meaning.TakenRecords as taken
use Rattle.f_tree.specs.edit_meaning.TakenRecords.{Want, Input, next_of, with_control, with_field, with_value, with_int, with_logical, moved_to, columns_of, input_start}
use Rattle.f_tree.specs.edit_meaning.Transfers.{edited, unserved_by, served_over, transferred}
use Rattle.f_tree.specs.Holding.{IsOutside}

-- a value of the type that an item wants
pub data IsWanted : Want → Value → Type 0 where
  an_integer : (z : ℤ) → IsWanted taken.WantInt (items.IntValue z)
  a_logical : (b : Bool) → IsWanted taken.WantLogical (items.LogicalValue b)
  a_text : (size : ℕ) (cs : List ℕ) → IsWanted (taken.WantText size) (items.TextValue cs)

-- values of the types that as many of the first items want
pub data AreWanted : List Want → List Value → Type 0 where
  none_wanted : (wants : List Want) → AreWanted wants []
  one_wanted : (want : Want) (wants : List Want) (value : Value) (values : List Value) → IsWanted want value → AreWanted wants values →
      AreWanted (want ∷ wants) (value ∷ values)

-- the same, with the items behind them
pub data AreBefore : List Want → List Value → List Want → Type 0 where
  none_before : (wants : List Want) → AreBefore wants [] wants
  one_before : (want : Want) (wants : List Want) (value : Value) (values : List Value) (left : List Want) → IsWanted want value → AreBefore wants values left →
      AreBefore (want ∷ wants) (value ∷ values) left

pub wanted_before : (wants : List Want) (values : List Value) (left : List Want) → AreBefore wants values left → AreWanted wants values
wanted_before wants values left (none_before _) = none_wanted wants
wanted_before wants values left (one_before want more value others _ is are) = one_wanted want more value others is (wanted_before more others left are)

pub one_behind : (wants : List Want) (values : List Value) (want : Want) (left : List Want) (value : Value) → AreBefore wants values (want ∷ left) → IsWanted want value →
    AreBefore wants (values ++ value ∷ []) left
one_behind wants values want left value (none_before _) is = one_before want left value [] left is (none_before left)
one_behind wants values want left value (one_before first more one others _ of are) is =
    one_before first more one (others ++ value ∷ []) left of (one_behind more others want left value are is)

-- without the first of them
pub wanted_behind : (done wants : List Want) (values : List Value) → AreWanted (done ++ wants) values → AreWanted wants (drop (length done) values)
wanted_behind [] wants values are = are
wanted_behind (want ∷ done) wants values (none_wanted _) = none_wanted wants
wanted_behind (want ∷ done) wants values (one_wanted _ _ value others is are) = wanted_behind done wants others are

-- a formatted input at one of its edits: the values so far, and the items that are left; where it halts, no matter which
pub data Stands (wants left : List Want) : Option Halt → List Value → Type 0 where
  with_left : (halted : Option Halt) (values : List Value) → AreBefore wants values left → Stands wants left halted values
  at_halt : (halt : Halt) (values : List Value) → AreWanted wants values → Stands wants left (Some halt) values

pub value_stands : (wants left : List Want) (want : Want) (value : Value) (width : ℕ) (i : Input) → IsWanted want value → AreBefore wants i.values (want ∷ left) →
    Stands wants left (with_value value width i).halted (with_value value width i).values
value_stands wants left want value width i is are =
    elim (nat_le (i.before + width) 1024) as (λ b. Stands wants left
    (if b then record i { before = i.before + width; values = i.values ++ value ∷ [] } else taken.halted_by (Number 5) i).halted
    (if b then record i { before = i.before + width; values = i.values ++ value ∷ [] } else taken.halted_by (Number 5) i).values) [
      | true ↦ with_left i.halted (i.values ++ value ∷ []) (one_behind wants i.values want left value are is)
      | false ↦ at_halt (Number 5) i.values (wanted_before wants i.values (want ∷ left) are)
    ]

pub int_stands : (wants left : List Want) (width : ℕ) (r : Result ℤ ℕ) (i : Input) → AreBefore wants i.values (taken.WantInt ∷ left) →
    Stands wants left (with_int width r i).halted (with_int width r i).values
int_stands wants left width (Ok z) i are = value_stands wants left taken.WantInt (items.IntValue z) width i (an_integer z) are
int_stands wants left width (Err error) i are = at_halt (Number error) i.values (wanted_before wants i.values (taken.WantInt ∷ left) are)

pub logical_stands : (wants left : List Want) (width : ℕ) (r : Result Bool ℕ) (i : Input) → AreBefore wants i.values (taken.WantLogical ∷ left) →
    Stands wants left (with_logical width r i).halted (with_logical width r i).values
logical_stands wants left width (Ok b) i are = value_stands wants left taken.WantLogical (items.LogicalValue b) width i (a_logical b) are
logical_stands wants left width (Err error) i are = at_halt (Number error) i.values (wanted_before wants i.values (taken.WantLogical ∷ left) are)

-- an item takes its field
pub field_stands : (wants left : List Want) (descriptor : Descriptor) (want : Want) (i : Input) → AreBefore wants i.values (want ∷ left) →
    Stands wants left (with_field descriptor want i).halted (with_field descriptor want i).values
field_stands wants left (format.IntIn width least) taken.WantInt i are = int_stands wants left width (int_in (columns_of i.before width i.line) i.zeros) i are
field_stands wants left (format.LogicalIn width) taken.WantLogical i are = logical_stands wants left width (logical_in (columns_of i.before width i.line)) i are
field_stands wants left (format.TextIn width) (taken.WantText size) i are =
    value_stands wants left (taken.WantText size) _ (unwrap_or width size) i (a_text size (text_in (columns_of i.before (unwrap_or width size) i.line) size)) are
field_stands wants left (format.IntIn width least) taken.WantLogical i are = at_halt _ i.values (wanted_before wants i.values _ are)
field_stands wants left (format.IntIn width least) (taken.WantText size) i are = at_halt _ i.values (wanted_before wants i.values _ are)
field_stands wants left (format.LogicalIn width) taken.WantInt i are = at_halt _ i.values (wanted_before wants i.values _ are)
field_stands wants left (format.LogicalIn width) (taken.WantText size) i are = at_halt _ i.values (wanted_before wants i.values _ are)
field_stands wants left (format.TextIn width) taken.WantInt i are = at_halt _ i.values (wanted_before wants i.values _ are)
field_stands wants left (format.TextIn width) taken.WantLogical i are = at_halt _ i.values (wanted_before wants i.values _ are)

-- the other edits take no values
pub values_if : (b : Bool) (values : List Value) (one other : Input) → one.values ≡ values → other.values ≡ values → (if b then one else other).values ≡ values
values_if true values one other same alike = same
values_if false values one other same alike = alike

pub moved_values : (columns : ℕ) (i : Input) → (moved_to columns i).values ≡ i.values
moved_values columns i = values_if (nat_le columns 1024) i.values (record i { before = columns }) (taken.halted_by (Number 5) i) refl refl

pub next_values : (lines : List (List ℕ)) (i : Input) → (next_of lines i).values ≡ i.values
next_values [] i = refl
next_values (next ∷ later) i =
    values_if (nat_le (length next) 1024) i.values (record i { line = next; later = later; before = 0 }) (taken.halted_by (Number 5) (record i { later = later })) refl refl

pub control_values : (control : Control) (i : Input) → (with_control control i).values ≡ i.values
control_values (format.Literal text) i = refl
control_values (format.ToColumn column) i = moved_values (column - 1) i
control_values (format.LeftBy columns) i = moved_values (i.before - columns) i
control_values (format.RightBy columns) i = moved_values (i.before + columns) i
control_values format.NextRecord i = next_values i.later i
control_values (format.PlusSigns plus) i = refl
control_values (format.ZeroBlanks zeros) i = refl

-- so the values of the edits are those that the items want
pub edited_values : (wants left : List Want) (halted : Option Halt) (edits : List Edit) (i : Input) → Stands wants left halted i.values →
    AreWanted wants (edited taken.input halted edits left i).values
edited_values wants left (Some halt) edits i (with_left _ _ are) = wanted_before wants i.values left are
edited_values wants left (Some halt) edits i (at_halt _ _ are) = are
edited_values wants left None [] i (with_left _ _ are) = wanted_before wants i.values left are
edited_values wants [] None (format.Item descriptor ∷ edits) i (with_left _ _ are) = wanted_before wants i.values [] are
edited_values wants (want ∷ left) None (format.Item descriptor ∷ edits) i (with_left _ _ are) =
    edited_values wants left (with_field descriptor want i).halted edits (with_field descriptor want i) (field_stands wants left descriptor want i are)
edited_values wants left None (format.Act control ∷ edits) i (with_left _ _ are) =
    edited_values wants left (with_control control i).halted edits (with_control control i)
    (with_left (with_control control i).halted (with_control control i).values (subst (λ values. AreBefore wants values left) (sym (control_values control i)) are))
edited_values wants left None (format.Stop ∷ edits) i (with_left _ values are) = edited_values wants left None edits i (with_left None values are)

pub unserved_values : (wants : List Want) (unserved : ℕ) (halted : Option Halt) (i : Input) → AreWanted wants i.values →
    AreWanted wants (unserved_by taken.input unserved halted i).values
unserved_values wants zero halted i are = are
unserved_values wants (suc more) None i are = are
unserved_values wants (suc more) (Some halt) i are = are

pub served_values : (wants : List Want) (served : Served) (i : Input) → i.values ≡ [] → AreWanted wants (served_over taken.input served wants i).values
served_values wants served i none =
    unserved_values wants served.unserved _ _
    (edited_values wants wants i.halted served.edits i (with_left i.halted i.values (subst (λ values. AreBefore wants values wants) (sym none) (none_before wants))))

-- The values of a formatted input are of the types that its first items want.
pub transferred_values : (f : Format) (lines : List (List ℕ)) (wants : List Want) (zeros : Bool) → AreWanted wants (transferred taken.input f wants (input_start lines zeros)).values
transferred_values f lines wants zeros = served_values wants (edits_for f (length wants)) (input_start lines zeros) (next_values lines _)

-- what an item of a list-directed input is given: a value of its kind, with a place outside a text behind it
pub data IsGiven : Kind → Given → Type 0 where
  number_given : (z : ℤ) (place : Place) → IsOutside place → IsGiven list.IntItem (list.Number z place)
  truth_given : (b : Bool) (place : Place) → IsOutside place → IsGiven list.LogicalItem (list.Truth b place)
  text_given : (text : List ℕ) (place : Place) → IsOutside place → IsGiven list.TextItem (list.Piece text false place)
  piece_given : (text : List ℕ) (more : ℕ) (constant rest : List ℕ) → IsGiven list.TextItem (list.Piece text true (list.Inside more constant rest))
  null_given : (kind : Kind) (place : Place) → IsOutside place → IsGiven kind (list.Null place)
  slash_given : (kind : Kind) → IsGiven kind list.Slash
  record_needed : (kind : Kind) (valued : Bool) (rest : List ℕ) → IsGiven kind (list.NeedRecord (list.Between valued rest))
  wrong_given : (kind : Kind) (number : ℕ) → IsGiven kind (list.Wrong number)

pub given_if : (kind : Kind) (b : Bool) (one other : Given) → IsGiven kind one → IsGiven kind other → IsGiven kind (if b then one else other)
given_if kind true one other is alike = is
given_if kind false one other is alike = alike

-- the place behind a constant is outside
pub constant_outside : (more : ℕ) (constant rest : List ℕ) → IsOutside (behind_constant more constant rest)
unfolding IsOutside
constant_outside zero constant rest = tt
constant_outside (suc more) constant rest = tt

pub between_outside : (valued : Bool) (rest : List ℕ) → IsOutside (list.Between valued rest)
unfolding IsOutside
between_outside valued rest = tt

pub nulls_outside : (more : ℕ) (rest : List ℕ) → IsOutside (list.Nulls more rest)
unfolding IsOutside
nulls_outside more rest = tt

pub number_is_given : (r : Result ℤ ℕ) (place : Place) → IsOutside place → IsGiven list.IntItem (given_number r place)
number_is_given (Ok z) place outside = number_given z place outside
number_is_given (Err error) place outside = wrong_given list.IntItem error

pub truth_is_given : (r : Result Bool ℕ) (place : Place) → IsOutside place → IsGiven list.LogicalItem (given_truth r place)
truth_is_given (Ok b) place outside = truth_given b place outside
truth_is_given (Err error) place outside = wrong_given list.LogicalItem error

-- a text in apostrophes, and one without
pub piece_before_given : (more : ℕ) (constant run text : List ℕ) → IsGiven list.TextItem (piece_before more constant run text)
piece_before_given more constant run [] = piece_given run more constant []
piece_before_given more constant run (quote ∷ []) = text_given run (behind_constant more constant []) (constant_outside more constant [])
piece_before_given more constant run (quote ∷ c ∷ cs) =
    given_if list.TextItem (c == 39) (list.Piece (run ++ quote ∷ []) true (list.Inside more constant cs)) (list.Piece run false (behind_constant more constant (c ∷ cs)))
    (piece_given (run ++ quote ∷ []) more constant cs) (text_given run (behind_constant more constant (c ∷ cs)) (constant_outside more constant (c ∷ cs)))

pub piece_by_given : (end : Ending) (more : ℕ) (constant text : List ℕ) → IsGiven list.TextItem (piece_by end more constant text)
piece_by_given list.Badly more constant text = wrong_given list.TextItem 1
piece_by_given list.Well more constant text = piece_before_given more constant (take (run_length text) text) (drop (run_length text) text)
piece_by_given list.Open zero constant text = piece_before_given zero constant (take (run_length text) text) (drop (run_length text) text)
piece_by_given list.Open (suc more) constant text = wrong_given list.TextItem 1

pub text_constant_given : (more : ℕ) (constant text : List ℕ) → IsGiven list.TextItem (text_constant more constant text)
text_constant_given more constant [] = text_given [] (behind_constant more constant []) (constant_outside more constant [])
text_constant_given more constant (c ∷ cs) =
    let word : List ℕ = take (word_length (c ∷ cs)) (c ∷ cs) in
    let rest : List ℕ = drop (word_length (c ∷ cs)) (c ∷ cs) in
    given_if list.TextItem (c == 39) (piece more constant cs) (list.Piece word false (behind_constant more constant rest)) (piece_by_given (ending false cs) more constant cs)
    (text_given word (behind_constant more constant rest) (constant_outside more constant rest))

-- a constant, nulls, and what stands behind the separators
pub constant_given : (kind : Kind) (more : ℕ) (rest : List ℕ) → IsGiven kind (constant_as kind more rest)
constant_given list.IntItem more rest =
    number_is_given (int_word (take (word_length rest) rest)) (behind_constant more rest (drop (word_length rest) rest))
    (constant_outside more rest (drop (word_length rest) rest))
constant_given list.LogicalItem more rest =
    truth_is_given (logical_word (take (word_length rest) rest)) (behind_constant more rest (drop (word_length rest) rest))
    (constant_outside more rest (drop (word_length rest) rest))
constant_given list.TextItem more rest = text_constant_given more rest rest

pub nulls_given : (kind : Kind) (more : ℕ) (rest : List ℕ) → IsGiven kind (nulls more rest)
nulls_given kind zero rest = null_given kind (list.Between true rest) (between_outside true rest)
nulls_given kind (suc more) rest = null_given kind (list.Nulls more rest) (nulls_outside more rest)

pub counted_given : (kind : Kind) (count : Option ℕ) (rest : List ℕ) → IsGiven kind (counted_as kind count rest)
counted_given kind None rest = constant_given kind 0 rest
counted_given kind (Some count) rest =
    let behind : List ℕ = drop 1 (drop (digit_count rest) rest) in
    given_if kind (nat_lt 0 (word_length behind)) (constant_as kind (count - 1) behind) (nulls (count - 1) behind) (constant_given kind (count - 1) behind)
    (nulls_given kind (count - 1) behind)

pub behind_given : (kind : Kind) (next : Sought) → IsGiven kind (given_behind kind next)
behind_given kind (list.AtEnd valued) = record_needed kind valued []
behind_given kind (list.AtNull rest) = null_given kind (list.Between false rest) (between_outside false rest)
behind_given kind list.AtSlash = slash_given kind
behind_given kind (list.AtValue rest) = counted_given kind (count_before rest) rest

-- what an item is given at a place outside a text
pub is_given_at : (place : Place) (kind : Kind) → IsOutside place → IsGiven kind (given place kind)
unfolding given IsOutside
is_given_at (list.Between valued rest) kind outside = behind_given kind (sought valued rest)
is_given_at (list.Repeated more rest) kind outside = constant_given kind more rest
is_given_at (list.Nulls more rest) kind outside = nulls_given kind more rest
is_given_at (list.Inside more constant rest) kind outside = absurd outside

-- a value of a kind, or none
pub data IsOfKind : Kind → Value → Type 0 where
  of_integer : (z : ℤ) → IsOfKind list.IntItem (items.IntValue z)
  of_logical : (b : Bool) → IsOfKind list.LogicalItem (items.LogicalValue b)
  of_text : (text : List ℕ) → IsOfKind list.TextItem (items.TextValue text)
  of_none : (kind : Kind) → IsOfKind kind items.Kept

-- how a list ends at an item: characters of it stand in earlier records only if it is a text
pub data EndsFor : Kind → Outcome → Type 0 where
  filled_for : (kind : Kind) → EndsFor kind items.Filled
  slashed_for : (kind : Kind) → EndsFor kind items.Slashed
  failed_for : (kind : Kind) (number : ℕ) → EndsFor kind (items.Failed number [])
  ended_for : (kind : Kind) → EndsFor kind (items.EndOfRecords [])
  text_failed : (number : ℕ) (text : List ℕ) → EndsFor list.TextItem (items.Failed number text)
  text_ended : (text : List ℕ) → EndsFor list.TextItem (items.EndOfRecords text)

-- what an item of a kind takes, with a place outside a text behind it
pub data IsItem : Kind → Item → Type 0 where
  takes_one : (kind : Kind) (value : Value) (place : Place) (later : List (List ℕ)) → IsOfKind kind value → IsOutside place → IsItem kind (items.Takes value place later)
  stops_there : (kind : Kind) (outcome : Outcome) → EndsFor kind outcome → IsItem kind (items.Stops outcome)

-- characters before those of a text
pub value_begun : (front : List ℕ) (value : Value) → IsOfKind list.TextItem value → IsOfKind list.TextItem (begun_with_value front value)
value_begun front value (of_text text) = of_text (front ++ text)
value_begun front value (of_none _) = of_none list.TextItem

pub outcome_begun : (front : List ℕ) (outcome : Outcome) → EndsFor list.TextItem outcome → EndsFor list.TextItem (begun_with_outcome front outcome)
outcome_begun front outcome (filled_for _) = filled_for list.TextItem
outcome_begun front outcome (slashed_for _) = slashed_for list.TextItem
outcome_begun front outcome (failed_for _ number) = text_failed number (front ++ [])
outcome_begun front outcome (ended_for _) = text_ended (front ++ [])
outcome_begun front outcome (text_failed number text) = text_failed number (front ++ text)
outcome_begun front outcome (text_ended text) = text_ended (front ++ text)

pub item_begun : (front : List ℕ) (item : Item) → IsItem list.TextItem item → IsItem list.TextItem (begun_with front item)
item_begun front item (takes_one _ value place later is outside) = takes_one list.TextItem (begun_with_value front value) place later (value_begun front value is) outside
item_begun front item (stops_there _ outcome ends) = stops_there list.TextItem (begun_with_outcome front outcome) (outcome_begun front outcome ends)

-- the rest of a text in apostrophes
pub text_item_is : (end : Ending) (more : ℕ) (constant text rest : List ℕ) (later : List (List ℕ)) (on : Item) → IsItem list.TextItem on →
    IsItem list.TextItem (text_item end more constant text rest later on)
text_item_is list.Well more constant text rest later on is =
    takes_one list.TextItem (items.TextValue text) (behind_constant more constant rest) later (of_text text) (constant_outside more constant rest)
text_item_is list.Badly more constant text rest later on is = stops_there list.TextItem (items.Failed 1 []) (failed_for list.TextItem 1)
text_item_is list.Open zero constant text rest later on is = item_begun text on is
text_item_is list.Open (suc more) constant text rest later on is = stops_there list.TextItem (items.Failed 1 []) (failed_for list.TextItem 1)

pub text_over_is : (more : ℕ) (constant rest : List ℕ) (later : List (List ℕ)) → IsItem list.TextItem (text_over more constant rest later)
text_over_is more constant rest [] =
    text_item_is (ending false rest) more constant (items.characters false rest) (behind_text false rest) [] (items.Stops (items.EndOfRecords []))
    (stops_there list.TextItem (items.EndOfRecords []) (ended_for list.TextItem))
text_over_is more constant rest (next ∷ later) =
    text_item_is (ending false rest) more constant (items.characters false rest) (behind_text false rest) (next ∷ later) (text_over 0 [] next later)
    (text_over_is 0 [] next later)

-- an item by what it is given
pub item_by_is : (kind : Kind) (what : Given) (later : List (List ℕ)) (on : Item) → IsGiven kind what → IsItem kind on → IsItem kind (item_by what later on)
item_by_is kind what later on (number_given z place outside) is = takes_one list.IntItem (items.IntValue z) place later (of_integer z) outside
item_by_is kind what later on (truth_given b place outside) is = takes_one list.LogicalItem (items.LogicalValue b) place later (of_logical b) outside
item_by_is kind what later on (text_given text place outside) is = takes_one list.TextItem (items.TextValue text) place later (of_text text) outside
item_by_is kind what later on (piece_given text more constant rest) is = item_begun text (text_over more constant rest later) (text_over_is more constant rest later)
item_by_is kind what later on (null_given _ place outside) is = takes_one kind items.Kept place later (of_none kind) outside
item_by_is kind what later on (slash_given _) is = stops_there kind items.Slashed (slashed_for kind)
item_by_is kind what later on (record_needed _ valued rest) is = is
item_by_is kind what later on (wrong_given _ number) is = stops_there kind (items.Failed number []) (failed_for kind number)

pub item_at_is : (place : Place) (kind : Kind) (what : Given) (later : List (List ℕ)) (on : Item) → IsOutside place → IsGiven kind what → IsItem kind on →
    IsItem kind (item_at place what later on)
unfolding IsOutside
item_at_is (list.Between valued rest) kind what later on outside given is = item_by_is kind what later on given is
item_at_is (list.Repeated more rest) kind what later on outside given is = item_by_is kind what later on given is
item_at_is (list.Nulls more rest) kind what later on outside given is = item_by_is kind what later on given is
item_at_is (list.Inside more constant rest) kind what later on outside given is = absurd outside

-- in the next record the item is outside a text too
pub renewed_outside : (kind : Kind) (what : Given) (next : List ℕ) → IsGiven kind what → IsOutside (renewed what next)
renewed_outside kind what next (number_given z place outside) = between_outside true []
renewed_outside kind what next (truth_given b place outside) = between_outside true []
renewed_outside kind what next (text_given text place outside) = between_outside true []
renewed_outside kind what next (piece_given text more constant rest) = between_outside true []
renewed_outside kind what next (null_given _ place outside) = between_outside true []
renewed_outside kind what next (slash_given _) = between_outside true []
renewed_outside kind what next (record_needed _ valued rest) = between_outside valued next
renewed_outside kind what next (wrong_given _ number) = between_outside true []

-- An item of a list-directed input takes a value of its kind or none, and the next one begins outside a text.
pub item_over_is : (place : Place) (later : List (List ℕ)) (kind : Kind) → IsOutside place → IsItem kind (item_over place later kind)
item_over_is place [] kind outside =
    item_at_is place kind (given place kind) [] (items.Stops (items.EndOfRecords [])) outside (is_given_at place kind outside)
    (stops_there kind (items.EndOfRecords []) (ended_for kind))
item_over_is place (next ∷ later) kind outside =
    item_at_is place kind (given place kind) (next ∷ later) (item_over (renewed (given place kind) next) later kind) outside (is_given_at place kind outside)
    (item_over_is (renewed (given place kind) next) later kind (renewed_outside kind (given place kind) next (is_given_at place kind outside)))
