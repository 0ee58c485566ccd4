-- Valuing an expression: operands from left to right, until a value, an act of which nothing is said,
-- or a call, which the rest of the expression waits for.
-- ANSI X3.9-1978, sections 5.4 (subscripts), 5.7 (substrings), 6 (expressions) and 15.10 (intrinsic functions).
use Rattle.std.specs.Prelude.{take, ℕ, zero, suc, ◌+◌, ◌-◌, ◌*◌, nat_eq, nat_le, nat_lt, ℤ, pos, negsuc, ◌+ℤ◌, ◌-ℤ◌, ◌*ℤ◌, neg_ℤ, nat_abs, int_lt, int_le, int_div, int_rem, Bool, true, false, ◌&&◌, ◌||◌, not, List, [], ◌∷◌, ◌++◌, length, Option, Some, None, if◌then◌else◌}
use Rattle.f_tree.specs.declared.names.Basic.{Basic}
use Rattle.std.specs.Ordering.{int_eq}
use Rattle.f_tree.specs.declared.names.Class.TheVariants as class
use Rattle.f_tree.specs.Values.{Bytes, Spot, Datum, IsInt, IsLog, IsText, IsSpot, IsProc, Nothing, Act, ZeroDivide, OutOfBounds, PastExtent, Disagreement, NotOfThisEntry, BadCharacterCode, BadBit, NoMeaning, Checked, Gives, Fails, given_that, checked}
use Rattle.f_tree.specs.Terms.{Prefix, Negate, Complement, Operator, Add, Subtract, Multiply, Divide, IsLess, IsLessOrEqual, IsEqual, IsNotEqual, IsGreater, IsGreaterOrEqual, Both, Either, Same, Different, Function, Power, Truncation, Magnitude, Remainder, SignTransfer, PositiveDifference, Largest, Smallest, CharacterCode, CharacterOfCode, TextLength, IndexOf, LexicallyGreaterOrEqual, LexicallyGreater, LexicallyLessOrEqual, LexicallyLess, Front, Fitted, InclusiveOr, LogicalProduct, ExclusiveOr, BitComplement, BitShift, BitTest, BitSet, BitClear, Callee, Term, Val, Fetch, At, All, Element, Alone, Part, Joined, Before, Between, Intrinsically, Refer, Bind, Bound, Terms, NoMore, More, valued_then}
use Rattle.run_state.specs.Bits.{inclusive_or, logical_product, exclusive_or, complement, shifted, bit_at, has_bit, with_bit, without_bit, bits_opened}
use Rattle.f_tree.specs.Store.{Store, fetch, fitted}
use Rattle.f_tree.specs.Facts.{Attribute, Bounds, Facts, Frame, Home}

-- what valuing comes to: a value, an act, or a call with the rest as a function of its answer
pub data Red (A T : Type 0) : Type 0 where
  Valued : A → Red A T
  Bad : Act → Red A T
  Asks : Callee → List Datum → (Datum → T) → Red A T

-- valuing goes on with a value; the rest of a call is put back into what stands around it
unfoldable pub then_by : {A B S T : Type 0} → Red A S → (S → T) → (A → Red B T) → Red B T
then_by (Valued a) back go = go a
then_by (Bad act) back go = Bad act
then_by (Asks c ds rest) back go = Asks c ds (λ d. back (rest d))

unfoldable pub at_once : {A T : Type 0} → Checked A → Red A T
at_once (Gives a) = Valued a
at_once (Fails act) = Bad act

-- operators (6.1.5, 6.3, 6.4); division cuts towards zero
unfoldable pub prefixed : Prefix → Datum → Checked Datum
prefixed Negate (IsInt z) = checked (neg_ℤ z)
prefixed Complement (IsLog b) = Gives (IsLog (not b))
prefixed _ _ = Fails NoMeaning

unfoldable pub divided : ℤ → ℤ → Checked Datum
divided a b = if int_eq b (pos 0) then Fails ZeroDivide else checked (int_div a b)

unfoldable pub on_integers : Operator → ℤ → ℤ → Checked Datum
on_integers Add a b = checked (a +ℤ b)
on_integers Subtract a b = checked (a -ℤ b)
on_integers Multiply a b = checked (a *ℤ b)
on_integers Divide a b = divided a b
on_integers IsLess a b = Gives (IsLog (int_lt a b))
on_integers IsLessOrEqual a b = Gives (IsLog (int_le a b))
on_integers IsEqual a b = Gives (IsLog (int_eq a b))
on_integers IsNotEqual a b = Gives (IsLog (not (int_eq a b)))
on_integers IsGreater a b = Gives (IsLog (int_lt b a))
on_integers IsGreaterOrEqual a b = Gives (IsLog (int_le b a))
on_integers _ a b = Fails NoMeaning

unfoldable pub both_or_none : Bool → Bool → Bool
both_or_none true b = b
both_or_none false b = not b

unfoldable pub on_logicals : Operator → Bool → Bool → Checked Datum
on_logicals Both a b = Gives (IsLog (a && b))
on_logicals Either a b = Gives (IsLog (a || b))
on_logicals Same a b = Gives (IsLog (both_or_none a b))
on_logicals Different a b = Gives (IsLog (not (both_or_none a b)))
on_logicals _ a b = Fails NoMeaning

-- is the first text before the second by the values of their bytes; the shorter one is filled with blanks (6.3.5)
unfoldable pub is_before : Bytes → Bytes → Bool
is_before [] [] = false
is_before [] (b ∷ bs) = nat_lt 32 b || (nat_eq 32 b && is_before [] bs)
is_before (a ∷ as') [] = nat_lt a 32 || (nat_eq a 32 && is_before as' [])
is_before (a ∷ as') (b ∷ bs) = nat_lt a b || (nat_eq a b && is_before as' bs)

unfoldable pub on_texts : Operator → Bytes → Bytes → Checked Datum
on_texts IsLess a b = Gives (IsLog (is_before a b))
on_texts IsLessOrEqual a b = Gives (IsLog (not (is_before b a)))
on_texts IsEqual a b = Gives (IsLog (not (is_before a b) && not (is_before b a)))
on_texts IsNotEqual a b = Gives (IsLog (is_before a b || is_before b a))
on_texts IsGreater a b = Gives (IsLog (is_before b a))
on_texts IsGreaterOrEqual a b = Gives (IsLog (not (is_before a b)))
on_texts _ a b = Fails NoMeaning

unfoldable pub operated : Operator → Datum → Datum → Checked Datum
operated op (IsInt a) (IsInt b) = on_integers op a b
operated op (IsLog a) (IsLog b) = on_logicals op a b
operated op (IsText a) (IsText b) = on_texts op a b
operated op _ _ = Fails NoMeaning

-- what a left operand says of its operator: it decides, it wants the right operand, or it has no place there
pub data Left : Type 0 where
  Decided : Datum → Left
  Wants : Left
  Wrong : Left

unfoldable pub left_of : Operator → Datum → Left
left_of Both (IsLog false) = Decided (IsLog false)
left_of Both (IsLog true) = Wants
left_of Both _ = Wrong
left_of Either (IsLog true) = Decided (IsLog true)
left_of Either (IsLog false) = Wants
left_of Either _ = Wrong
left_of op d = Wants

unfoldable pub right_after : {T : Type 0} → Left → Red Datum T → Red Datum T
right_after (Decided d) right = Valued d
right_after Wants right = right
right_after Wrong right = Bad NoMeaning

-- intrinsic functions and powers (15.10, 6.1.5)
unfoldable pub power_of : ℤ → ℕ → ℤ
power_of a zero = pos 1
power_of a (suc n) = power_of a n *ℤ a

-- 1 over a power
unfoldable pub inverse_of : ℤ → Checked Datum
inverse_of p = divided (pos 1) p

-- the power grows past 32 bits at the first step that passes them, unless the base is 0, 1 or -1
unfoldable pub raised : ℤ → ℤ → Checked Datum
raised a (pos n) = checked (power_of a n)
raised a (negsuc n) = inverse_of (power_of a (suc n))

unfoldable pub int_max : ℤ → ℤ → ℤ
int_max a b = if int_lt a b then b else a

unfoldable pub int_min : ℤ → ℤ → ℤ
int_min a b = if int_lt b a then b else a

unfoldable pub extreme : (ℤ → ℤ → ℤ) → ℤ → List Datum → Checked Datum
extreme pick best [] = Gives (IsInt best)
extreme pick best (IsInt z ∷ ds) = extreme pick (pick best z) ds
extreme pick best (_ ∷ ds) = Fails NoMeaning

-- the remainder has the sign of its first operand; the quotient must fit too
unfoldable pub remainder_of : ℤ → ℤ → Checked Datum
remainder_of a b = if int_eq b (pos 0) then Fails ZeroDivide else given_that (checked (int_div a b)) (λ q. Gives (IsInt (int_rem a b)))

unfoldable pub with_sign_of : ℤ → ℤ → Checked Datum
with_sign_of a b = checked (if int_lt b (pos 0) then neg_ℤ (pos (nat_abs a)) else pos (nat_abs a))

unfoldable pub difference_over : ℤ → ℤ → Checked Datum
difference_over a b = if int_lt b a then checked (a -ℤ b) else Gives (IsInt (pos 0))

unfoldable pub begins_with : Bytes → Bytes → Bool
begins_with text [] = true
begins_with [] (b ∷ bs) = false
begins_with (a ∷ text) (b ∷ bs) = nat_eq a b && begins_with text bs

-- the first place at which a text stands in another, counted on from `at`; 0 where it does not
unfoldable pub index_from : ℕ → Bytes → Bytes → ℕ
index_from at [] part = if begins_with [] part then at else 0
index_from at (a ∷ text) part = if begins_with (a ∷ text) part then at else index_from (suc at) text part

unfoldable pub character_of : ℤ → Checked Datum
character_of (pos n) = if nat_lt n 256 then Gives (IsText (n ∷ [])) else Fails BadCharacterCode
character_of (negsuc n) = Fails BadCharacterCode

-- the first character of a text; a text is as if blanks followed it
unfoldable pub first_character : Bytes → ℕ
first_character [] = 32
first_character (c ∷ cs) = c

-- the length of a text that is joined of pieces, of which none is read (15.10)
unfoldable pub length_of_piece : Datum → Checked ℕ
length_of_piece (IsText cs) = Gives (length cs)
length_of_piece (IsSpot p) = Gives p.width
length_of_piece _ = Fails NoMeaning

unfoldable pub total_length : List Datum → Checked ℕ
total_length [] = Gives 0
total_length (d ∷ ds) = given_that (length_of_piece d) (λ m. given_that (total_length ds) (λ n. Gives (m + n)))

-- bit functions (MIL-STD-1753)
unfoldable pub if_bits : Option ℤ → Checked Datum
if_bits None = Fails BadBit
if_bits (Some z) = Gives (IsInt z)

unfoldable pub if_bit : Option Bool → Checked Datum
if_bit None = Fails BadBit
if_bit (Some b) = Gives (IsLog b)

unfoldable pub applied : Function → List Datum → Checked Datum
applied Power (IsInt a ∷ IsInt b ∷ []) = raised a b
applied Truncation (IsInt a ∷ []) = Gives (IsInt a)
applied Magnitude (IsInt a ∷ []) = checked (pos (nat_abs a))
applied Remainder (IsInt a ∷ IsInt b ∷ []) = remainder_of a b
applied SignTransfer (IsInt a ∷ IsInt b ∷ []) = with_sign_of a b
applied PositiveDifference (IsInt a ∷ IsInt b ∷ []) = difference_over a b
applied Largest (IsInt a ∷ ds) = extreme int_max a ds
applied Smallest (IsInt a ∷ ds) = extreme int_min a ds
applied CharacterCode (IsText cs ∷ []) = Gives (IsInt (pos (first_character cs)))
applied CharacterOfCode (IsInt z ∷ []) = character_of z
applied TextLength (d ∷ ds) = given_that (total_length (d ∷ ds)) (λ n. checked (pos n))
applied IndexOf (IsText a ∷ IsText b ∷ []) = Gives (IsInt (pos (index_from 1 a b)))
applied LexicallyGreaterOrEqual (IsText a ∷ IsText b ∷ []) = on_texts IsGreaterOrEqual a b
applied LexicallyGreater (IsText a ∷ IsText b ∷ []) = on_texts IsGreater a b
applied LexicallyLessOrEqual (IsText a ∷ IsText b ∷ []) = on_texts IsLessOrEqual a b
applied LexicallyLess (IsText a ∷ IsText b ∷ []) = on_texts IsLess a b
applied (Front n) (IsText cs ∷ []) = if nat_le n (length cs) then Gives (IsText (take n cs)) else Fails Disagreement
applied (Fitted n) (IsText cs ∷ []) = Gives (IsText (fitted n cs))
applied InclusiveOr (IsInt a ∷ IsInt b ∷ []) = Gives (IsInt (inclusive_or a b))
applied LogicalProduct (IsInt a ∷ IsInt b ∷ []) = Gives (IsInt (logical_product a b))
applied ExclusiveOr (IsInt a ∷ IsInt b ∷ []) = Gives (IsInt (exclusive_or a b))
applied BitComplement (IsInt a ∷ []) = Gives (IsInt (complement a))
applied BitShift (IsInt a ∷ IsInt n ∷ []) = if_bits (shifted a n)
applied BitTest (IsInt a ∷ IsInt n ∷ []) = if_bit (has_bit a n)
applied BitSet (IsInt a ∷ IsInt n ∷ []) = if_bits (with_bit a (bit_at n))
applied BitClear (IsInt a ∷ IsInt n ∷ []) = if_bits (without_bit a (bit_at n))
applied _ _ = Fails NoMeaning

-- places: a whole name (5.3, 15.9.3)
unfoldable pub elements_of : List Bounds → Option ℕ
elements_of [] = Some 1
elements_of (b ∷ bs) = elim b.upper [
  | None ↦ None
  | Some u ↦ elim (elements_of bs) [ None ↦ None | Some n ↦ Some (nat_abs ((u -ℤ b.lower) +ℤ pos 1) * n) ]
]

unfoldable pub extent_of : Option ℕ → ℕ → ℕ
extent_of None width = 0
extent_of (Some n) width = n * width

unfoldable pub stored_at : Attribute → Option ℕ → Option Home → Checked Datum
stored_at a (Some width) (Some h) = Gives (IsSpot (record { basic = a.basic; sequence = h.sequence; first = h.first; extent = extent_of (elements_of a.bounds) width; width = width }))
stored_at a _ _ = Fails NoMeaning

unfoldable pub if_bound : Option Datum → Checked Datum
if_bound None = Fails NotOfThisEntry
if_bound (Some d) = Gives d

-- the names of a function and of its entries are one unit, each by its own type
unfoldable pub if_there : Basic → Option Spot → Checked Datum
if_there basic None = Fails NoMeaning
if_there basic (Some p) = Gives (IsSpot (record p { basic = basic }))

-- what a name stands for, by its class
unfoldable pub named_as : Facts → Frame → Bytes → Attribute → Checked Datum
named_as c f x a = elim a.class [
  | class.Stored ↦ stored_at a a.width (c.home x)
  | class.Dummy ↦ if_bound (f.bound x)
  | class.DummyProcedure ↦ if_bound (f.bound x)
  | class.Result ↦ if_there a.basic f.result
  | class.Procedure ↦ Gives (IsProc x)
  | class.Intrinsic ↦ Gives (IsProc x)
  | _ ↦ Fails NoMeaning
]

unfoldable pub whole : Facts → Frame → Bytes → Checked Datum
whole c f x = named_as c f x (c.program.attribute x)

-- elements: the first subscript goes fastest (5.4)
unfoldable pub is_within : ℤ → Bounds → Bool
is_within z b = int_le b.lower z && (elim b.upper [ None ↦ true | Some u ↦ int_le z u ])

unfoldable pub size_of_dimension : Bounds → ℕ
size_of_dimension b = elim b.upper [ None ↦ 0 | Some u ↦ nat_abs ((u -ℤ b.lower) +ℤ pos 1) ]

-- the elements that stand before the one with these subscripts, each counted `stride` times
unfoldable pub elements_before : Bytes → ℕ → List Bounds → List Datum → Checked ℕ
elements_before x stride [] [] = Gives 0
elements_before x stride (b ∷ bs) (IsInt z ∷ ds) =
    if is_within z b then given_that (elements_before x (stride * size_of_dimension b) bs ds) (λ n. Gives (nat_abs (z -ℤ b.lower) * stride + n))
    else Fails (OutOfBounds x z)
elements_before x stride _ _ = Fails NoMeaning

-- the place so many elements further on
unfoldable pub further : Spot → ℕ → Checked Datum
further p n =
    if nat_le (n * p.width + p.width) p.extent then
    Gives (IsSpot (record p { first = p.first + n * p.width; extent = p.extent - n * p.width }))
    else Fails PastExtent

unfoldable pub element_at : Bytes → List Bounds → List Datum → Datum → Checked Datum
element_at x bs ds (IsSpot p) = given_that (elements_before x 1 bs ds) (further p)
element_at x bs ds _ = Fails NoMeaning

unfoldable pub either_bounds : Option (List Bounds) → List Bounds → List Bounds
either_bounds None bs = bs
either_bounds (Some bs) _ = bs

-- the bounds of an array: those fixed at the call, or those that the unit declares
unfoldable pub bounds_of : Facts → Frame → Bytes → List Bounds
bounds_of c f x = either_bounds (f.dimensions x) (c.program.attribute x).bounds

unfoldable pub element : Facts → Frame → Bytes → List Datum → Checked Datum
element c f x ds = given_that (whole c f x) (element_at x (bounds_of c f x) ds)

-- all elements of an array must belong to what was passed
unfoldable pub reaching : Spot → Option ℕ → Checked Datum
reaching p None = Fails NoMeaning
reaching p (Some n) = if nat_le (n * p.width) p.extent then Gives (IsSpot (record p { extent = n * p.width })) else Fails PastExtent

unfoldable pub all_elements : List Bounds → Datum → Checked Datum
all_elements bs (IsSpot p) = reaching p (elements_of bs)
all_elements bs _ = Fails NoMeaning

unfoldable pub array_whole : Facts → Frame → Bytes → Checked Datum
array_whole c f x = given_that (whole c f x) (all_elements (bounds_of c f x))

-- one element
unfoldable pub alone : Datum → Checked Datum
alone (IsSpot p) = Gives (IsSpot (record p { extent = p.width }))
alone _ = Fails NoMeaning

-- substrings (5.7); behind one stands the rest of what it is a part of, which a dummy array may reach (15.9.3.3). Told is the first place where
-- it is outside 1 to the length, else the second
unfoldable pub cut : Bytes → Spot → ℤ → ℤ → Checked Datum
cut x p from to =
    if int_lt from (pos 1) then Fails (OutOfBounds x from)
    else if int_lt (pos p.width) from then Fails (OutOfBounds x from)
    else if int_lt to from then Fails (OutOfBounds x to)
    else if int_lt (pos p.width) to then Fails (OutOfBounds x to)
    else Gives (IsSpot (record p { first = p.first + (nat_abs from - 1); extent = p.extent + 1 - nat_abs from; width = nat_abs to + 1 - nat_abs from }))

unfoldable pub part : Bytes → Datum → Datum → Datum → Checked Datum
part x (IsSpot p) (IsInt from) (IsInt to) = cut x p from to
part x (IsSpot p) (IsInt from) Nothing = cut x p from (pos p.width)
part x _ _ _ = Fails NoMeaning

-- concatenation: the pieces are fetched when all of them are settled (6.2)
unfoldable pub as_characters : Datum → Checked Bytes
as_characters (IsText cs) = Gives cs
as_characters _ = Fails NoMeaning

unfoldable pub piece : Store → Datum → Checked Bytes
piece s (IsText cs) = Gives cs
piece s (IsSpot p) = given_that (fetch s p) as_characters
piece s _ = Fails NoMeaning

unfoldable pub pieces : Store → List Datum → Checked Bytes
pieces s [] = Gives []
pieces s (d ∷ ds) = given_that (piece s d) (λ a. given_that (pieces s ds) (λ b. Gives (a ++ b)))

unfoldable pub joined : Checked Bytes → Checked Datum
joined (Gives cs) = Gives (IsText cs)
joined (Fails act) = Fails act

unfoldable pub fetched : Store → Datum → Checked Datum
fetched s (IsSpot p) = fetch s p
fetched s _ = Fails NoMeaning

unfoldable pub bound_to : List Datum → ℕ → Checked Datum
bound_to [] k = Fails NoMeaning
bound_to (d ∷ ds) zero = Gives d
bound_to (d ∷ ds) (suc k) = bound_to ds k

-- an expression in progress, over the store, with the arguments of the statement function in whose
-- expression it stands
unfoldable mutual
  pub reduce : Facts → Frame → Store → List Datum → Term → Red Datum Term
  reduce c f s env (Val d) = Valued d
  reduce c f s env (Fetch t) = then_by (reduce c f s env t) Fetch (λ d. at_once (fetched s d))
  reduce c f s env (At x) = at_once (whole c f x)
  reduce c f s env (All x) = at_once (array_whole c f x)
  reduce c f s env (Element x ts) = then_by (reduce_all c f s env ts) (Element x) (λ ds. at_once (element c f x ds))
  reduce c f s env (Alone t) = then_by (reduce c f s env t) Alone (λ d. at_once (alone d))
  reduce c f s env (Part x t from to) =
      then_by (reduce c f s env t) (λ r. Part x r from to) (λ p.
      then_by (reduce c f s env from) (λ r. Part x (Val p) r to) (λ a.
      then_by (reduce c f s env to) (Part x (Val p) (Val a)) (λ b. at_once (part x p a b))))
  reduce c f s env (Joined ts) = then_by (reduce_all c f s env ts) Joined (λ ds. at_once (joined (pieces s ds)))
  reduce c f s env (Before op t) = then_by (reduce c f s env t) (Before op) (λ d. at_once (prefixed op d))
  reduce c f s env (Between op t u) =
      then_by (reduce c f s env t) (λ r. Between op r u) (λ a.
      right_after (left_of op a)
      (then_by (reduce c f s env u) (Between op (Val a)) (λ b. at_once (operated op a b))))
  reduce c f s env (Intrinsically function ts) = then_by (reduce_all c f s env ts) (Intrinsically function) (λ ds. at_once (applied function ds))
  reduce c f s env (Refer callee ts) = then_by (reduce_all c f s env ts) (Refer callee) (λ ds. Asks callee ds Val)
  reduce c f s env (Bind ts t) =
      then_by (reduce_all c f s env ts) (λ rs. Bind rs t) (λ ds.
      then_by (reduce c f s ds t) (Bind (valued_then ds NoMore)) Valued)
  reduce c f s env (Bound k) = at_once (bound_to env k)

  -- a list of operands, from left to right
  pub reduce_all : Facts → Frame → Store → List Datum → Terms → Red (List Datum) Terms
  reduce_all c f s env NoMore = Valued []
  reduce_all c f s env (More t ts) =
      then_by (reduce c f s env t) (λ r. More r ts) (λ d.
      then_by (reduce_all c f s env ts) (More (Val d)) (λ ds. Valued (d ∷ ds)))

unfoldable pub valuing_opened : Unit {0}
unfolding bits_opened then_by at_once prefixed divided on_integers both_or_none on_logicals is_before on_texts operated left_of right_after power_of inverse_of raised int_max int_min extreme remainder_of with_sign_of difference_over begins_with index_from character_of first_character length_of_piece total_length if_bits if_bit applied elements_of extent_of stored_at if_bound if_there named_as whole is_within size_of_dimension elements_before further element_at either_bounds bounds_of element reaching all_elements array_whole alone cut part as_characters piece pieces joined fetched bound_to reduce reduce_all
valuing_opened = tt
