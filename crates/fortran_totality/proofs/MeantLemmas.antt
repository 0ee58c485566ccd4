-- A well-typed expression never comes to a form without meaning: operator by operator, function by function, place by place.
use Rattle.std.specs.Prelude.{◌≡◌, ℕ, zero, suc, ◌+◌, ◌-◌, ◌*◌, ◌<◌, nat_le, nat_lt, ℤ, pos, negsuc, int_lt, nat_abs, int_div, int_rem, neg_ℤ, ◌-ℤ◌, take, drop, Bool, true, false, not, List, [], ◌∷◌, ◌++◌, length, Option, Some, None, is_some, IsTrue, slice_get, codes, if◌then◌else◌}
use Rattle.std.specs.Ordering.{int_eq}
use Rattle.std.proofs.Common.{refl, sym, subst, arith}
use Rattle.std.proofs.lemmas.Option.{slice_get-get_or}
use Rattle.f_tree.specs.declared.names.Basic.{Basic}
use Rattle.f_tree.specs.declared.names.Basic.TheVariants.{Integer, Logical, Character}
use Rattle.f_tree.specs.Values.{Bytes, Spot, Datum, IsInt, IsText, IsSpot, ZeroDivide, BadCharacterCode, Disagreement, OutOfBounds, PastExtent, Checked, Gives, Fails, given_that, checked, in_range}
use Rattle.f_tree.specs.Terms.{Prefix, Operator, Add, At, Function, AsFunction, Term, Val, Fetch, Element, Alone, Part, Joined, Before, Between, Intrinsically, Refer, Bind, Terms, NoMore, More, valued_then}
use Rattle.f_tree.specs.Store.{Store, Sequence, Cell, Undefined, Chr, Part as PartOf, Whole, Number, Truth, Label, undefined_units, whole_at, value_of_type, with_first, characters, as_text, fetch_as, fetch_from, fetch_in, fetch}
use Rattle.f_tree.specs.Facts.{Bounds, Facts, Frame}
use Rattle.f_tree.specs.Attributes.{bare, no_program, no_frame}
use Rattle.f_tree.specs.Valuing.{named_as, stored_at, extent_of, either_bounds, Red, Valued, Bad, Asks, then_by, at_once, prefixed, divided, on_integers, on_logicals, on_texts, operated, left_of, right_after, inverse_of, raised, extreme, remainder_of, with_sign_of, difference_over, character_of, length_of_piece, total_length, if_bits, if_bit, applied, is_within, size_of_dimension, elements_before, further, element_at, element, reaching, all_elements, array_whole, alone, cut, part, as_characters, piece, pieces, joined, fetched, bound_to, whole, bounds_of, elements_of, reduce, reduce_all}
use Rattle.f_tree.specs.WellTyped as typed
use Rattle.f_tree.specs.WellTyped.{Sort, ValueOf, PlaceOf, AProcedure, IsOf, AreOf, none_of, more_of, is_named, Answers, IsAnswer, Meant, IsValued, Precedes, Operates, Applies, integers_of, IsVariable, has_size, IsHeld, IsPiece, ArePieces, IsLast, IsNth, Typed, AreTyped, Sound, rank_of, EachTermIsMeant, EachListIsMeant, IsMet, one_variable, is_variable, is_procedure_name}

-- any answer
abbrev pub Any : {A : Type 0} → A → Type 0
Any a = Unit {0}

pub answers_if : {A : Type 0} (P : A → Type 0) (b : Bool) (x y : Checked A) → Answers P x → Answers P y → Answers P (if b then x else y)
answers_if P true x y one other = one
answers_if P false x y one other = other

pub given_meant : {A B : Type 0} (P : A → Type 0) (R : B → Type 0) (r : Checked A) (go : A → Checked B) → Answers P r → ((a : A) → P a → Answers R (go a)) →
    Answers R (given_that r go)
unfolding Answers given_that
given_meant P R (Gives a) go answers next = next a answers
given_meant P R (Fails act) go answers next = answers

-- an answer with a property has each property that follows from it
pub answers_more : {A : Type 0} (P Q : A → Type 0) (r : Checked A) → Answers P r → ((a : A) → P a → Q a) → Answers Q r
unfolding Answers
answers_more P Q (Gives a) answers more = more a answers
answers_more P Q (Fails act) answers more = answers

pub then_meant : {A B S T : Type 0} (c : Facts) (n : ℕ) (P : A → Type 0) (R : B → Type 0) (Q : S → Type 0) (U : T → Type 0) (r : Red A S) (back : S → T) (go : A → Red B T) →
    Meant c n P Q r → ((rest : S) → Q rest → U (back rest)) → ((a : A) → P a → Meant c n R U (go a)) → Meant c n R U (then_by r back go)
unfolding Meant then_by
then_meant c n P R Q U (Valued a) back go meant behind next = next a meant
then_meant c n P R Q U (Bad act) back go meant behind next = meant
then_meant c n P R Q U (Asks callee ds rest) back go meant behind next = (meant.0, λ d answer. behind (rest d) (meant.1 d answer))

pub at_once_meant : {A T : Type 0} (c : Facts) (n : ℕ) (P : A → Type 0) (Q : T → Type 0) (r : Checked A) → Answers P r → Meant c n P Q (at_once r)
unfolding Meant Answers at_once
at_once_meant c n P Q (Gives a) answers = answers
at_once_meant c n P Q (Fails act) answers = answers

-- integers
pub checked_meant : (n : ℕ) (z : ℤ) → Answers (IsOf n (ValueOf Integer)) (checked z)
unfolding Answers checked is_named
checked_meant n z = answers_if (IsOf n (ValueOf Integer)) (in_range z) (Gives (IsInt z)) _ (typed.integer z) refl

pub divided_meant : (n : ℕ) (a b : ℤ) → Answers (IsOf n (ValueOf Integer)) (divided a b)
unfolding divided Answers is_named
divided_meant n a b = answers_if (IsOf n (ValueOf Integer)) _ (Fails ZeroDivide) _ refl (checked_meant n _)

-- operators
pub prefixed_meant : (n : ℕ) (op : Prefix) (basic : Basic) (d : Datum) → Precedes op basic → IsOf n (ValueOf basic) d → Answers (IsOf n (ValueOf basic)) (prefixed op d)
unfolding prefixed Answers
prefixed_meant n op basic d typed.negates (typed.integer z) = checked_meant n _
prefixed_meant n op basic d typed.complements (typed.logical b) = typed.logical (not b)

pub operated_meant : (n : ℕ) (op : Operator) (basic result : Basic) (a b : Datum) → Operates op basic result → IsOf n (ValueOf basic) a → IsOf n (ValueOf basic) b →
    Answers (IsOf n (ValueOf result)) (operated op a b)
unfolding operated on_integers on_logicals on_texts Answers
operated_meant n op basic result a b typed.adds (typed.integer x) (typed.integer y) = checked_meant n _
operated_meant n op basic result a b typed.subtracts (typed.integer x) (typed.integer y) = checked_meant n _
operated_meant n op basic result a b typed.multiplies (typed.integer x) (typed.integer y) = checked_meant n _
operated_meant n op basic result a b typed.divides (typed.integer x) (typed.integer y) = divided_meant n x y
operated_meant n op basic result a b typed.less (typed.integer x) (typed.integer y) = typed.logical _
operated_meant n op basic result a b typed.less_or_equal (typed.integer x) (typed.integer y) = typed.logical _
operated_meant n op basic result a b typed.equal (typed.integer x) (typed.integer y) = typed.logical _
operated_meant n op basic result a b typed.not_equal (typed.integer x) (typed.integer y) = typed.logical _
operated_meant n op basic result a b typed.greater (typed.integer x) (typed.integer y) = typed.logical _
operated_meant n op basic result a b typed.greater_or_equal (typed.integer x) (typed.integer y) = typed.logical _
operated_meant n op basic result a b typed.text_less (typed.text x) (typed.text y) = typed.logical _
operated_meant n op basic result a b typed.text_less_or_equal (typed.text x) (typed.text y) = typed.logical _
operated_meant n op basic result a b typed.text_equal (typed.text x) (typed.text y) = typed.logical _
operated_meant n op basic result a b typed.text_not_equal (typed.text x) (typed.text y) = typed.logical _
operated_meant n op basic result a b typed.text_greater (typed.text x) (typed.text y) = typed.logical _
operated_meant n op basic result a b typed.text_greater_or_equal (typed.text x) (typed.text y) = typed.logical _
operated_meant n op basic result a b typed.both (typed.logical x) (typed.logical y) = typed.logical _
operated_meant n op basic result a b typed.either (typed.logical x) (typed.logical y) = typed.logical _
operated_meant n op basic result a b typed.same (typed.logical x) (typed.logical y) = typed.logical _
operated_meant n op basic result a b typed.different (typed.logical x) (typed.logical y) = typed.logical _

-- a left operand decides, or the right operand is valued
pub right_meant : {T : Type 0} (c : Facts) (n : ℕ) (op : Operator) (basic result : Basic) (a : Datum) (Q : T → Type 0) (right : Red Datum T) → Operates op basic result → IsOf n (ValueOf basic) a →
    Meant c n (IsOf n (ValueOf result)) Q right → Meant c n (IsOf n (ValueOf result)) Q (right_after (left_of op a) right)
unfolding left_of right_after Meant
right_meant c n op basic result a Q right typed.adds (typed.integer x) meant = meant
right_meant c n op basic result a Q right typed.subtracts (typed.integer x) meant = meant
right_meant c n op basic result a Q right typed.multiplies (typed.integer x) meant = meant
right_meant c n op basic result a Q right typed.divides (typed.integer x) meant = meant
right_meant c n op basic result a Q right typed.less (typed.integer x) meant = meant
right_meant c n op basic result a Q right typed.less_or_equal (typed.integer x) meant = meant
right_meant c n op basic result a Q right typed.equal (typed.integer x) meant = meant
right_meant c n op basic result a Q right typed.not_equal (typed.integer x) meant = meant
right_meant c n op basic result a Q right typed.greater (typed.integer x) meant = meant
right_meant c n op basic result a Q right typed.greater_or_equal (typed.integer x) meant = meant
right_meant c n op basic result a Q right typed.text_less (typed.text x) meant = meant
right_meant c n op basic result a Q right typed.text_less_or_equal (typed.text x) meant = meant
right_meant c n op basic result a Q right typed.text_equal (typed.text x) meant = meant
right_meant c n op basic result a Q right typed.text_not_equal (typed.text x) meant = meant
right_meant c n op basic result a Q right typed.text_greater (typed.text x) meant = meant
right_meant c n op basic result a Q right typed.text_greater_or_equal (typed.text x) meant = meant
right_meant c n op basic result a Q right typed.both (typed.logical true) meant = meant
right_meant c n op basic result a Q right typed.both (typed.logical false) meant = typed.logical false
right_meant c n op basic result a Q right typed.either (typed.logical true) meant = typed.logical true
right_meant c n op basic result a Q right typed.either (typed.logical false) meant = meant
right_meant c n op basic result a Q right typed.same (typed.logical x) meant = meant
right_meant c n op basic result a Q right typed.different (typed.logical x) meant = meant

-- functions
pub raised_meant : (n : ℕ) (a b : ℤ) → Answers (IsOf n (ValueOf Integer)) (raised a b)
unfolding raised inverse_of
raised_meant n a (pos k) = checked_meant n _
raised_meant n a (negsuc k) = divided_meant n _ _

pub extreme_meant : (n : ℕ) (pick : ℤ → ℤ → ℤ) (best : ℤ) (count : ℕ) (ds : List Datum) → AreOf n (integers_of count) ds → Answers (IsOf n (ValueOf Integer)) (extreme pick best ds)
unfolding extreme Answers
extreme_meant n pick best zero ds none_of = typed.integer best
extreme_meant n pick best (suc count) ds (more_of sort sorts d more (typed.integer z) others) = extreme_meant n pick (pick best z) count more others

pub character_meant : (n : ℕ) (z : ℤ) → Answers (IsOf n (ValueOf Character)) (character_of z)
unfolding character_of Answers is_named
character_meant n (pos k) = answers_if (IsOf n (ValueOf Character)) (nat_lt k 256) (Gives (IsText (k ∷ []))) (Fails BadCharacterCode) (typed.text (k ∷ [])) refl
character_meant n (negsuc k) = refl

pub remainder_meant : (n : ℕ) (a b : ℤ) → Answers (IsOf n (ValueOf Integer)) (remainder_of a b)
unfolding remainder_of Answers is_named
remainder_meant n a b =
    answers_if (IsOf n (ValueOf Integer)) (int_eq b (pos 0)) (Fails ZeroDivide) (given_that (checked (int_div a b)) (λ q. Gives (IsInt (int_rem a b)))) refl
    (given_meant (IsOf n (ValueOf Integer)) (IsOf n (ValueOf Integer)) (checked (int_div a b)) (λ q. Gives (IsInt (int_rem a b))) (checked_meant n (int_div a b))
    (λ q is. typed.integer (int_rem a b)))

pub sign_meant : (n : ℕ) (a b : ℤ) → Answers (IsOf n (ValueOf Integer)) (with_sign_of a b)
unfolding with_sign_of Answers
sign_meant n a b = checked_meant n (if int_lt b (pos 0) then neg_ℤ (pos (nat_abs a)) else pos (nat_abs a))

pub difference_meant : (n : ℕ) (a b : ℤ) → Answers (IsOf n (ValueOf Integer)) (difference_over a b)
unfolding difference_over Answers
difference_meant n a b = answers_if (IsOf n (ValueOf Integer)) (int_lt b a) (checked (a -ℤ b)) (Gives (IsInt (pos 0))) (checked_meant n (a -ℤ b)) (typed.integer (pos 0))

-- the length of a text that is joined of pieces
pub length_meant : (n : ℕ) (sort : Sort) (d : Datum) → IsPiece sort → IsOf n sort d → Answers Any (length_of_piece d)
unfolding length_of_piece Answers
length_meant n sort d typed.piece_value (typed.text cs) = tt
length_meant n sort d typed.piece_place (typed.place p b is within) = tt

pub total_meant : (n : ℕ) (sorts : List Sort) (ds : List Datum) → ArePieces sorts → AreOf n sorts ds → Answers Any (total_length ds)
unfolding total_length Answers
total_meant n sorts ds typed.no_pieces none_of = tt
total_meant n sorts ds (typed.more_pieces one others is are) (more_of _ _ d more of ofs) =
    given_meant Any Any (length_of_piece d) (λ a. given_that (total_length more) (λ b. Gives (a + b))) (length_meant n one d is of)
    (λ a any. given_meant Any Any (total_length more) (λ b. Gives (a + b)) (total_meant n others more are ofs) (λ b any. tt))

pub text_length_meant : (n : ℕ) (sorts : List Sort) (ds : List Datum) → ArePieces sorts → AreOf n sorts ds →
    Answers (IsOf n (ValueOf Integer)) (given_that (total_length ds) (λ k. checked (pos k)))
text_length_meant n sorts ds are ofs =
    given_meant Any (IsOf n (ValueOf Integer)) (total_length ds) (λ k. checked (pos k)) (total_meant n sorts ds are ofs) (λ k any. checked_meant n (pos k))

-- the bit functions
pub bits_meant : (n : ℕ) (o : Option ℤ) → Answers (IsOf n (ValueOf Integer)) (if_bits o)
unfolding if_bits Answers is_named
bits_meant n None = refl
bits_meant n (Some z) = typed.integer z

pub bit_meant : (n : ℕ) (o : Option Bool) → Answers (IsOf n (ValueOf Logical)) (if_bit o)
unfolding if_bit Answers is_named
bit_meant n None = refl
bit_meant n (Some b) = typed.logical b

pub applied_meant : (n : ℕ) (function : Function) (sorts : List Sort) (basic : Basic) (ds : List Datum) → Applies function sorts basic → AreOf n sorts ds →
    Answers (IsOf n (ValueOf basic)) (applied function ds)
unfolding applied Answers on_texts is_named
applied_meant n f sorts basic ds typed.power (more_of _ _ _ _ (typed.integer a) (more_of _ _ _ _ (typed.integer b) none_of)) = raised_meant n a b
applied_meant n f sorts basic ds typed.truncation (more_of _ _ _ _ (typed.integer a) none_of) = typed.integer a
applied_meant n f sorts basic ds typed.magnitude (more_of _ _ _ _ (typed.integer a) none_of) = checked_meant n _
applied_meant n f sorts basic ds typed.remainder (more_of _ _ _ _ (typed.integer a) (more_of _ _ _ _ (typed.integer b) none_of)) = remainder_meant n a b
applied_meant n f sorts basic ds typed.sign_transfer (more_of _ _ _ _ (typed.integer a) (more_of _ _ _ _ (typed.integer b) none_of)) = sign_meant n a b
applied_meant n f sorts basic ds typed.positive_difference (more_of _ _ _ _ (typed.integer a) (more_of _ _ _ _ (typed.integer b) none_of)) = difference_meant n a b
applied_meant n f sorts basic ds (typed.largest count) (more_of _ _ _ more (typed.integer a) others) = extreme_meant n _ a count more others
applied_meant n f sorts basic ds (typed.smallest count) (more_of _ _ _ more (typed.integer a) others) = extreme_meant n _ a count more others
applied_meant n f sorts basic ds typed.character_code (more_of _ _ _ _ (typed.text a) none_of) = typed.integer _
applied_meant n f sorts basic ds typed.character_of_code (more_of _ _ _ _ (typed.integer a) none_of) = character_meant n a
applied_meant n f sorts basic ds (typed.length_of_pieces sort more are) (more_of _ _ d others of ofs) =
    text_length_meant n (sort ∷ more) (d ∷ others) are (more_of sort more d others of ofs)
applied_meant n f sorts basic ds typed.index_of (more_of _ _ _ _ (typed.text a) (more_of _ _ _ _ (typed.text b) none_of)) = typed.integer _
applied_meant n f sorts basic ds typed.lexically_greater_or_equal (more_of _ _ _ _ (typed.text a) (more_of _ _ _ _ (typed.text b) none_of)) = typed.logical _
applied_meant n f sorts basic ds typed.lexically_greater (more_of _ _ _ _ (typed.text a) (more_of _ _ _ _ (typed.text b) none_of)) = typed.logical _
applied_meant n f sorts basic ds typed.lexically_less_or_equal (more_of _ _ _ _ (typed.text a) (more_of _ _ _ _ (typed.text b) none_of)) = typed.logical _
applied_meant n f sorts basic ds typed.lexically_less (more_of _ _ _ _ (typed.text a) (more_of _ _ _ _ (typed.text b) none_of)) = typed.logical _
applied_meant n f sorts basic ds (typed.front k) (more_of _ _ _ _ (typed.text a) none_of) = answers_if (IsOf n (ValueOf Character)) (nat_le k (length a)) (Gives (IsText (take k a))) (Fails Disagreement) (typed.text (take k a)) refl
applied_meant n f sorts basic ds (typed.fitted k) (more_of _ _ _ _ (typed.text a) none_of) = typed.text _
applied_meant n f sorts basic ds typed.inclusive_or (more_of _ _ _ _ (typed.integer a) (more_of _ _ _ _ (typed.integer b) none_of)) = typed.integer _
applied_meant n f sorts basic ds typed.logical_product (more_of _ _ _ _ (typed.integer a) (more_of _ _ _ _ (typed.integer b) none_of)) = typed.integer _
applied_meant n f sorts basic ds typed.exclusive_or (more_of _ _ _ _ (typed.integer a) (more_of _ _ _ _ (typed.integer b) none_of)) = typed.integer _
applied_meant n f sorts basic ds typed.bit_complement (more_of _ _ _ _ (typed.integer a) none_of) = typed.integer _
applied_meant n f sorts basic ds typed.bit_shift (more_of _ _ _ _ (typed.integer a) (more_of _ _ _ _ (typed.integer b) none_of)) = bits_meant n _
applied_meant n f sorts basic ds typed.bit_test (more_of _ _ _ _ (typed.integer a) (more_of _ _ _ _ (typed.integer b) none_of)) = bit_meant n _
applied_meant n f sorts basic ds typed.bit_set (more_of _ _ _ _ (typed.integer a) (more_of _ _ _ _ (typed.integer b) none_of)) = bits_meant n _
applied_meant n f sorts basic ds typed.bit_clear (more_of _ _ _ _ (typed.integer a) (more_of _ _ _ _ (typed.integer b) none_of)) = bits_meant n _

-- fetching a place
pub integer_meant : (n : ℕ) (o : Option Whole) → Answers (IsOf n (ValueOf Integer)) (value_of_type Integer o)
unfolding value_of_type Answers is_named
integer_meant n None = refl
integer_meant n (Some (Number z)) = typed.integer z
integer_meant n (Some (Truth b)) = refl
integer_meant n (Some (Label x l)) = refl

pub logical_meant : (n : ℕ) (o : Option Whole) → Answers (IsOf n (ValueOf Logical)) (value_of_type Logical o)
unfolding value_of_type Answers is_named
logical_meant n None = refl
logical_meant n (Some (Number z)) = refl
logical_meant n (Some (Truth b)) = typed.logical b
logical_meant n (Some (Label x l)) = refl

pub behind_first : (c : ℕ) (r : Checked Bytes) → Answers Any r → Answers Any (with_first c r)
unfolding with_first Answers
behind_first c (Gives cs) answers = tt
behind_first c (Fails act) answers = answers

pub characters_meant : (cells : List Cell) → Answers Any (characters cells)
unfolding characters Answers is_named
characters_meant [] = tt
characters_meant (Undefined ∷ cells) = refl
characters_meant (Chr c ∷ cells) = behind_first c (characters cells) (characters_meant cells)
characters_meant (PartOf w i ∷ cells) = refl

pub text_meant : (n : ℕ) (r : Checked Bytes) → Answers Any r → Answers (IsOf n (ValueOf Character)) (as_text r)
unfolding as_text Answers
text_meant n (Gives cs) answers = typed.text cs
text_meant n (Fails act) answers = answers

pub value_meant : (n : ℕ) (basic : Basic) (p : Spot) (cells : List Cell) → IsValued basic → Answers (IsOf n (ValueOf basic)) (fetch_as basic p cells)
unfolding fetch_as
value_meant n basic p cells typed.integers = integer_meant n (whole_at p.first cells)
value_meant n basic p cells typed.logicals = logical_meant n (whole_at p.first cells)
value_meant n basic p cells typed.texts = text_meant n (characters (take p.width (drop p.first cells))) (characters_meant (take p.width (drop p.first cells)))

pub some_meant : (P : Datum → Type 0) (p : Spot) (o : Option Sequence) (q : Sequence) → o ≡ Some q → Answers P (fetch_in p (Some q)) → Answers P (fetch_in p o)
some_meant P p o q is answers = subst (λ x. Answers P (fetch_in p x)) (sym is) answers

pub sequence_meant : (n : ℕ) (p : Spot) (basic : Basic) (q : Sequence) → IsValued basic → p.basic ≡ basic → Answers (IsOf n (ValueOf basic)) (fetch_in p (Some q))
unfolding fetch_in fetch_from Answers is_named
sequence_meant n p basic q valued is =
    answers_if (IsOf n (ValueOf basic)) (nat_le p.width p.extent) (fetch_as p.basic p q.cells) (Fails PastExtent)
    (subst (λ b. Answers (IsOf n (ValueOf basic)) (fetch_as b p q.cells)) (sym is) (value_meant n basic p q.cells valued)) refl

pub fetch_meant : (s : Store) (n : ℕ) (p : Spot) (basic : Basic) → IsValued basic → p.basic ≡ basic → p.sequence < length s → Answers (IsOf n (ValueOf basic)) (fetch s p)
unfolding fetch
fetch_meant s n p basic valued is within =
    some_meant (IsOf n (ValueOf basic)) p (slice_get s p.sequence) _ (slice_get-get_or s p.sequence (undefined_units 0) within) (sequence_meant n p basic _ valued is)

pub fetched_meant : (s : Store) (n : ℕ) → n ≡ length s → (d : Datum) (basic : Basic) → IsValued basic → IsOf n (PlaceOf basic) d → Answers (IsOf n (ValueOf basic)) (fetched s d)
unfolding fetched
fetched_meant s n same d basic valued (typed.place p b is within) = fetch_meant s n p basic valued is (subst (λ k. p.sequence < k) same within)

-- concatenation
pub characters_of_value : (n : ℕ) (d : Datum) → IsOf n (ValueOf Character) d → Answers Any (as_characters d)
unfolding as_characters Answers
characters_of_value n d (typed.text cs) = tt

pub piece_meant : (s : Store) (n : ℕ) → n ≡ length s → (sort : Sort) (d : Datum) → IsPiece sort → IsOf n sort d → Answers Any (piece s d)
unfolding piece Answers
piece_meant s n same sort d typed.piece_value (typed.text cs) = tt
piece_meant s n same sort d typed.piece_place (typed.place p b is within) =
    given_meant (IsOf n (ValueOf Character)) Any (fetch s p) as_characters (fetch_meant s n p Character typed.texts is (subst (λ k. p.sequence < k) same within)) (characters_of_value n)

pub pieces_meant : (s : Store) (n : ℕ) → n ≡ length s → (sorts : List Sort) (ds : List Datum) → ArePieces sorts → AreOf n sorts ds → Answers Any (pieces s ds)
unfolding pieces Answers
pieces_meant s n same sorts ds typed.no_pieces none_of = tt
pieces_meant s n same sorts ds (typed.more_pieces one others is are) (more_of _ _ d more of ofs) =
    given_meant Any Any (piece s d) (λ a. given_that (pieces s more) (λ b. Gives (a ++ b))) (piece_meant s n same one d is of)
    (λ a any. given_meant Any Any (pieces s more) (λ b. Gives (a ++ b)) (pieces_meant s n same others more are ofs) (λ b any. tt))

pub joined_meant : (n : ℕ) (r : Checked Bytes) → Answers Any r → Answers (IsOf n (ValueOf Character)) (joined r)
unfolding joined Answers
joined_meant n (Gives cs) answers = typed.text cs
joined_meant n (Fails act) answers = answers

-- places
pub further_meant : (n : ℕ) (p : Spot) (k : ℕ) (basic : Basic) → p.basic ≡ basic → p.sequence < n → Answers (IsOf n (PlaceOf basic)) (further p k)
unfolding further Answers is_named
further_meant n p k basic is within =
    answers_if (IsOf n (PlaceOf basic)) (nat_le (k * p.width + p.width) p.extent)
    (Gives (IsSpot (record p { first = p.first + k * p.width; extent = p.extent - k * p.width }))) (Fails PastExtent)
    (typed.place (record p { first = p.first + k * p.width; extent = p.extent - k * p.width }) basic is within) refl

pub subscripts_meant : (n : ℕ) (x : Bytes) (bs : List Bounds) (stride : ℕ) (ds : List Datum) → AreOf n (integers_of (length bs)) ds → Answers Any (elements_before x stride bs ds)
unfolding elements_before Answers is_named
subscripts_meant n x [] stride ds none_of = tt
subscripts_meant n x (b ∷ bs) stride ds (more_of _ _ _ more (typed.integer z) others) =
    answers_if Any (is_within z b) (given_that (elements_before x (stride * size_of_dimension b) bs more) (λ m. Gives (nat_abs (z -ℤ b.lower) * stride + m))) (Fails (OutOfBounds x z))
    (given_meant Any Any (elements_before x (stride * size_of_dimension b) bs more) (λ m. Gives (nat_abs (z -ℤ b.lower) * stride + m))
    (subscripts_meant n x bs (stride * size_of_dimension b) more others) (λ m any. tt)) refl

pub element_at_meant : (n : ℕ) (x : Bytes) (bs : List Bounds) (ds : List Datum) (basic : Basic) (a : Datum) → AreOf n (integers_of (length bs)) ds → IsOf n (PlaceOf basic) a →
    Answers (IsOf n (PlaceOf basic)) (element_at x bs ds a)
unfolding element_at
element_at_meant n x bs ds basic a are (typed.place p b is within) =
    given_meant Any (IsOf n (PlaceOf basic)) (elements_before x 1 bs ds) (further p) (subscripts_meant n x bs 1 ds are) (λ k any. further_meant n p k basic is within)

pub variable_meant : (c : Facts) (f : Frame) (n : ℕ) → Sound c f n → (x : Bytes) (basic : Basic) → IsVariable c x basic → Answers (IsOf n (PlaceOf basic)) (whole c f x)
variable_meant c f n sound x basic v =
    subst (λ b. Answers (IsOf n (PlaceOf b)) (whole c f x)) v.basic_is
    (answers_more (IsHeld c f n x) (IsOf n (PlaceOf (c.program.attribute x).basic)) (whole c f x) (sound.variables x v.class_is) (λ a held. held.placed))

pub element_meant : (c : Facts) (f : Frame) (n : ℕ) → Sound c f n → (x : Bytes) (basic : Basic) → IsVariable c x basic → (ds : List Datum) → AreOf n (integers_of (rank_of c x)) ds →
    Answers (IsOf n (PlaceOf basic)) (element c f x ds)
unfolding element
element_meant c f n sound x basic v ds are =
    given_meant (IsHeld c f n x) (IsOf n (PlaceOf basic)) (whole c f x) (element_at x (bounds_of c f x) ds) (sound.variables x v.class_is)
    (λ a held. element_at_meant n x (bounds_of c f x) ds basic a (subst (λ k. AreOf n (integers_of k) ds) (sym held.ranked) are)
    (subst (λ b. IsOf n (PlaceOf b) a) v.basic_is held.placed))

pub reaching_meant : (n : ℕ) (p : Spot) (size : Option ℕ) (basic : Basic) → p.basic ≡ basic → p.sequence < n → IsTrue (is_some size) →
    Answers (IsOf n (PlaceOf basic)) (reaching p size)
unfolding reaching Answers is_named
reaching_meant n p None basic is within sized = absurd (cc)
reaching_meant n p (Some size) basic is within sized =
    answers_if (IsOf n (PlaceOf basic)) (nat_le (size * p.width) p.extent) (Gives (IsSpot (record p { extent = size * p.width }))) (Fails PastExtent)
    (typed.place (record p { extent = size * p.width }) basic is within) refl

pub all_meant : (n : ℕ) (bs : List Bounds) (basic : Basic) (a : Datum) → IsTrue (is_some (elements_of bs)) → IsOf n (PlaceOf basic) a →
    Answers (IsOf n (PlaceOf basic)) (all_elements bs a)
unfolding all_elements
all_meant n bs basic a sized (typed.place p b is within) = reaching_meant n p (elements_of bs) basic is within sized

pub array_meant : (c : Facts) (f : Frame) (n : ℕ) → Sound c f n → (x : Bytes) (basic : Basic) → IsVariable c x basic →
    IsTrue (has_size (c.program.attribute x).dimensions) → Answers (IsOf n (PlaceOf basic)) (array_whole c f x)
unfolding array_whole
array_meant c f n sound x basic v sized =
    given_meant (IsHeld c f n x) (IsOf n (PlaceOf basic)) (whole c f x) (all_elements (bounds_of c f x)) (sound.variables x v.class_is)
    (λ a held. all_meant n (bounds_of c f x) basic a (held.sized sized) (subst (λ b. IsOf n (PlaceOf b) a) v.basic_is held.placed))

pub alone_meant : (n : ℕ) (basic : Basic) (a : Datum) → IsOf n (PlaceOf basic) a → Answers (IsOf n (PlaceOf basic)) (alone a)
unfolding alone Answers
alone_meant n basic a (typed.place p b is within) = typed.place (record p { extent = p.width }) basic is within

pub cut_meant : (n : ℕ) (x : Bytes) (p : Spot) (from to : ℤ) → p.basic ≡ Character → p.sequence < n → Answers (IsOf n (PlaceOf Character)) (cut x p from to)
unfolding cut Answers is_named
cut_meant n x p from to is within =
    let q : Spot = record p { first = p.first + (nat_abs from - 1); extent = p.extent + 1 - nat_abs from; width = nat_abs to + 1 - nat_abs from } in
    let within_length : Checked Datum = if int_lt (pos p.width) to then Fails (OutOfBounds x to) else Gives (IsSpot q) in
    let in_order : Checked Datum = if int_lt to from then Fails (OutOfBounds x to) else within_length in
    answers_if (IsOf n (PlaceOf Character)) (int_lt from (pos 1)) (Fails (OutOfBounds x from))
    (if int_lt (pos p.width) from then Fails (OutOfBounds x from) else in_order) refl
    (answers_if (IsOf n (PlaceOf Character)) (int_lt (pos p.width) from) (Fails (OutOfBounds x from)) in_order refl
    (answers_if (IsOf n (PlaceOf Character)) (int_lt to from) (Fails (OutOfBounds x to)) within_length refl
    (answers_if (IsOf n (PlaceOf Character)) (int_lt (pos p.width) to) (Fails (OutOfBounds x to)) (Gives (IsSpot q)) refl (typed.place q Character is within))))

pub part_meant : (n : ℕ) (x : Bytes) (last : Sort) (a from to : Datum) → IsLast last → IsOf n (PlaceOf Character) a → IsOf n (ValueOf Integer) from → IsOf n last to →
    Answers (IsOf n (PlaceOf Character)) (part x a from to)
unfolding part
part_meant n x last a from to typed.written_last (typed.place p b is within) (typed.integer i) (typed.integer k) = cut_meant n x p i k is within
part_meant n x last a from to typed.own_last (typed.place p b is within) (typed.integer i) typed.nothing = cut_meant n x p i (pos p.width) is within

-- arguments of statement functions
pub bound_meant : (n : ℕ) (env : List Sort) (values : List Datum) (k : ℕ) (sort : Sort) → AreOf n env values → IsNth env k sort → Answers (IsOf n sort) (bound_to values k)
unfolding bound_to Answers
bound_meant n env values k sort none_of nth = elim nth [ ]
bound_meant n env values k sort (more_of _ _ d more is are) (typed.first_one _ _) = is
bound_meant n env values k sort (more_of _ _ d more is are) (typed.later_one _ others j _ nth) = bound_meant n others more j sort are nth

pub values_typed : (c : Facts) (f : Frame) (n : ℕ) (env sorts : List Sort) (ds : List Datum) → AreOf n sorts ds → AreTyped c n env (valued_then ds NoMore) sorts
unfolding valued_then
values_typed c f n env sorts ds none_of = typed.no_terms env
values_typed c f n env sorts ds (more_of sort others d more is are) =
    typed.more_terms env (Val d) (valued_then more NoMore) sort others (typed.is_val env d sort is) (values_typed c f n env others more are)

-- all terms, and lists of them
mutual
  unfolding reduce reduce_all Meant IsAnswer

  pub term_meant : (c : Facts) (f : Frame) (n : ℕ) (s : Store) → n ≡ length s → Sound c f n → (env : List Sort) (values : List Datum) → AreOf n env values →
      (t : Term) (sort : Sort) → Typed c n env t sort →
      Meant c n (IsOf n sort) (λ rest. Typed c n env rest sort) (reduce c f s values t)
  term_meant c f n s same h env values e t sort (typed.is_val _ d _ is) = is
  term_meant c f n s same h env values e t sort (typed.is_fetch _ u basic valued m) =
      then_meant c n (IsOf n (PlaceOf basic)) (IsOf n (ValueOf basic)) (λ r. Typed c n env r (PlaceOf basic)) (λ r. Typed c n env r (ValueOf basic))
      (reduce c f s values u) Fetch (λ d. at_once (fetched s d)) (term_meant c f n s same h env values e u (PlaceOf basic) m)
      (λ r q. typed.is_fetch env r basic valued q) (λ d is. (at_once_meant c n (IsOf n (ValueOf basic)) (λ r. Typed c n env r (ValueOf basic)) (fetched s d)
      (fetched_meant s n same d basic valued is)))
  term_meant c f n s same h env values e t sort (typed.is_at _ x basic v) =
      at_once_meant c n (IsOf n (PlaceOf basic)) (λ r. Typed c n env r (PlaceOf basic)) (whole c f x) (variable_meant c f n h x basic v)
  term_meant c f n s same h env values e t sort (typed.is_named_procedure _ x v) =
      at_once_meant c n (IsOf n AProcedure) (λ r. Typed c n env r AProcedure) (whole c f x) (h.procedures x v)
  term_meant c f n s same h env values e t sort (typed.is_all _ x basic v z) =
      at_once_meant c n (IsOf n (PlaceOf basic)) (λ r. Typed c n env r (PlaceOf basic)) (array_whole c f x) (array_meant c f n h x basic v z)
  term_meant c f n s same h env values e t sort (typed.is_element _ x ts basic v ms) =
      then_meant c n (AreOf n (integers_of (rank_of c x))) (IsOf n (PlaceOf basic)) (λ r. AreTyped c n env r (integers_of (rank_of c x)))
      (λ r. Typed c n env r (PlaceOf basic)) (reduce_all c f s values ts) (Element x) (λ ds. at_once (element c f x ds))
      (terms_meant c f n s same h env values e ts (integers_of (rank_of c x)) ms) (λ r q. typed.is_element env x r basic v q)
      (λ ds are. (at_once_meant c n (IsOf n (PlaceOf basic)) (λ r. Typed c n env r (PlaceOf basic)) (element c f x ds) (element_meant c f n h x basic v ds are)))
  term_meant c f n s same h env values e t sort (typed.is_alone _ u basic m) =
      then_meant c n (IsOf n (PlaceOf basic)) (IsOf n (PlaceOf basic)) (λ r. Typed c n env r (PlaceOf basic)) (λ r. Typed c n env r (PlaceOf basic))
      (reduce c f s values u) Alone (λ d. at_once (alone d)) (term_meant c f n s same h env values e u (PlaceOf basic) m) (λ r q. typed.is_alone env r basic q)
      (λ d is. (at_once_meant c n (IsOf n (PlaceOf basic)) (λ r. Typed c n env r (PlaceOf basic)) (alone d) (alone_meant n basic d is)))
  term_meant c f n s same h env values e t sort (typed.is_part _ x u from to last isl m mf mt) =
      then_meant c n (IsOf n (PlaceOf Character)) (IsOf n (PlaceOf Character)) (λ r. Typed c n env r (PlaceOf Character)) (λ r. Typed c n env r (PlaceOf Character))
      (reduce c f s values u) (λ r. Part x r from to)
      (λ p. then_by (reduce c f s values from) (λ r. Part x (Val p) r to) (λ a. then_by (reduce c f s values to) (Part x (Val p) (Val a)) (λ b. at_once (part x p a b))))
      (term_meant c f n s same h env values e u (PlaceOf Character) m) (λ r q. typed.is_part env x r from to last isl q mf mt)
      (λ p ip.
      then_meant c n (IsOf n (ValueOf Integer)) (IsOf n (PlaceOf Character)) (λ r. Typed c n env r (ValueOf Integer)) (λ r. Typed c n env r (PlaceOf Character))
      (reduce c f s values from) (λ r. Part x (Val p) r to) (λ a. then_by (reduce c f s values to) (Part x (Val p) (Val a)) (λ b. at_once (part x p a b)))
      (term_meant c f n s same h env values e from (ValueOf Integer) mf)
      (λ r q. typed.is_part env x (Val p) r to last isl (typed.is_val env p (PlaceOf Character) ip) q mt)
      (λ a ia.
      then_meant c n (IsOf n last) (IsOf n (PlaceOf Character)) (λ r. Typed c n env r last) (λ r. Typed c n env r (PlaceOf Character))
      (reduce c f s values to) (Part x (Val p) (Val a)) (λ b. at_once (part x p a b)) (term_meant c f n s same h env values e to last mt)
      (λ r q. typed.is_part env x (Val p) (Val a) r last isl (typed.is_val env p (PlaceOf Character) ip) (typed.is_val env a (ValueOf Integer) ia) q)
      (λ b ib. at_once_meant c n (IsOf n (PlaceOf Character)) (λ r. Typed c n env r (PlaceOf Character)) (part x p a b) (part_meant n x last p a b isl ip ia ib))))
  term_meant c f n s same h env values e t sort (typed.is_joined _ ts sorts are ms) =
      then_meant c n (AreOf n sorts) (IsOf n (ValueOf Character)) (λ r. AreTyped c n env r sorts) (λ r. Typed c n env r (ValueOf Character))
      (reduce_all c f s values ts) Joined (λ ds. at_once (joined (pieces s ds))) (terms_meant c f n s same h env values e ts sorts ms)
      (λ r q. typed.is_joined env r sorts are q) (λ ds of. (at_once_meant c n (IsOf n (ValueOf Character)) (λ r. Typed c n env r (ValueOf Character)) (joined
      (pieces s ds)) (joined_meant n (pieces s ds) (pieces_meant s n same sorts ds are of))))
  term_meant c f n s same h env values e t sort (typed.is_before _ op u basic pre m) =
      then_meant c n (IsOf n (ValueOf basic)) (IsOf n (ValueOf basic)) (λ r. Typed c n env r (ValueOf basic)) (λ r. Typed c n env r (ValueOf basic))
      (reduce c f s values u) (Before op) (λ d. at_once (prefixed op d)) (term_meant c f n s same h env values e u (ValueOf basic) m)
      (λ r q. typed.is_before env op r basic pre q) (λ d is. (at_once_meant c n (IsOf n (ValueOf basic)) (λ r. Typed c n env r (ValueOf basic)) (prefixed op d)
      (prefixed_meant n op basic d pre is)))
  term_meant c f n s same h env values e t sort (typed.is_between _ op u w basic result operates m mw) =
      then_meant c n (IsOf n (ValueOf basic)) (IsOf n (ValueOf result)) (λ r. Typed c n env r (ValueOf basic)) (λ r. Typed c n env r (ValueOf result))
      (reduce c f s values u) (λ r. Between op r w) (λ a. right_after (left_of op a) (then_by (reduce c f s values w) (Between op (Val a))
      (λ b. at_once (operated op a b)))) (term_meant c f n s same h env values e u (ValueOf basic) m)
      (λ r q. typed.is_between env op r w basic result operates q mw) (λ a ia. right_meant c n op basic result a
      (λ r. Typed c n env r (ValueOf result)) (then_by (reduce c f s values w) (Between op (Val a)) (λ b. at_once (operated op a b))) operates ia (then_meant c n
      (IsOf n (ValueOf basic)) (IsOf n (ValueOf result)) (λ r. Typed c n env r (ValueOf basic)) (λ r. Typed c n env r (ValueOf result)) (reduce c f s values w)
      (Between op (Val a)) (λ b. at_once (operated op a b)) (term_meant c f n s same h env values e w (ValueOf basic) mw)
      (λ r q. typed.is_between env op (Val a) r basic result operates (typed.is_val env a (ValueOf basic) ia) q)
      (λ b ib. (at_once_meant c n (IsOf n (ValueOf result)) (λ r. Typed c n env r (ValueOf result)) (operated op a b)
      (operated_meant n op basic result a b operates ia ib)))))
  term_meant c f n s same h env values e t sort (typed.is_intrinsic _ function ts sorts basic applies ms) =
      then_meant c n (AreOf n sorts) (IsOf n (ValueOf basic)) (λ r. AreTyped c n env r sorts) (λ r. Typed c n env r (ValueOf basic)) (reduce_all c f s values ts)
      (Intrinsically function) (λ ds. at_once (applied function ds)) (terms_meant c f n s same h env values e ts sorts ms)
      (λ r q. typed.is_intrinsic env function r sorts basic applies q) (λ ds of. (at_once_meant c n (IsOf n (ValueOf basic))
      (λ r. Typed c n env r (ValueOf basic)) (applied function ds) (applied_meant n function sorts basic ds applies of)))
  term_meant c f n s same h env values e t sort (typed.is_refer _ x basic width ts sorts callee ms) =
      then_meant c n (AreOf n sorts) (IsOf n (ValueOf basic)) (λ r. AreTyped c n env r sorts) (λ r. Typed c n env r (ValueOf basic)) (reduce_all c f s values ts)
      (Refer (record { name = x; want = AsFunction basic width })) (λ ds. Asks (record { name = x; want = AsFunction basic width }) ds Val)
      (terms_meant c f n s same h env values e ts sorts ms) (λ r q. typed.is_refer env x basic width r sorts callee q)
      (λ ds of. (
        record { class_is = callee; basic = basic; width = width; want_is = refl; sorts = sorts; operands = of },
        λ d is. typed.is_val env d
            (ValueOf basic) is,
      ))
  term_meant c f n s same h env values e t sort (typed.is_bind _ ts sorts u _ ms m) =
      then_meant c n (AreOf n sorts) (IsOf n sort) (λ r. AreTyped c n env r sorts) (λ r. Typed c n env r sort) (reduce_all c f s values ts) (λ rs. Bind rs u)
      (λ ds. then_by (reduce c f s ds u) (Bind (valued_then ds NoMore)) Valued) (terms_meant c f n s same h env values e ts sorts ms)
      (λ r q. typed.is_bind env r sorts u sort q m) (λ ds of. (then_meant c n (IsOf n sort) (IsOf n sort) (λ r. Typed c n sorts r sort)
      (λ r. Typed c n env r sort) (reduce c f s ds u) (Bind (valued_then ds NoMore)) Valued (term_meant c f n s same h sorts ds of u sort m)
      (λ r q. typed.is_bind env (valued_then ds NoMore) sorts r sort (values_typed c f n env sorts ds of) q) (λ d is. is)))
  term_meant c f n s same h env values e t sort (typed.is_bound _ k _ nth) =
      at_once_meant c n (IsOf n sort) (λ r. Typed c n env r sort) (bound_to values k) (bound_meant n env values k sort e nth)

  pub terms_meant : (c : Facts) (f : Frame) (n : ℕ) (s : Store) → n ≡ length s → Sound c f n → (env : List Sort) (values : List Datum) → AreOf n env values →
      (ts : Terms) (sorts : List Sort) → AreTyped c n env ts sorts →
      Meant c n (AreOf n sorts) (λ rest. AreTyped c n env rest sorts) (reduce_all c f s values ts)
  terms_meant c f n s same h env values e ts sorts (typed.no_terms _) = none_of
  terms_meant c f n s same h env values e ts sorts (typed.more_terms _ t us sort more m ms) =
      then_meant c n (IsOf n sort) (AreOf n (sort ∷ more)) (λ r. Typed c n env r sort) (λ r. AreTyped c n env r (sort ∷ more)) (reduce c f s values t)
      (λ r. More r us) (λ d. then_by (reduce_all c f s values us) (More (Val d)) (λ ds. Valued (d ∷ ds))) (term_meant c f n s same h env values e t sort m)
      (λ r q. typed.more_terms env r us sort more q ms) (λ d is. (then_meant c n (AreOf n more) (AreOf n (sort ∷ more)) (λ r. AreTyped c n env r more)
      (λ r. AreTyped c n env r (sort ∷ more)) (reduce_all c f s values us) (More (Val d)) (λ ds. Valued (d ∷ ds))
      (terms_meant c f n s same h env values e us more ms) (λ r q. typed.more_terms env (Val d) r sort more (typed.is_val env d sort is) q)
      (λ ds of. more_of sort more d ds is of)))

pub each_term : EachTermIsMeant
each_term c f s sound sorts env are t sort is = term_meant c f (length s) s refl sound sorts env are t sort is

pub each_list : EachListIsMeant
each_list c f s sound env values are ts sorts is = terms_meant c f (length s) s refl sound env values are ts sorts is

-- each name is an integer variable in a unit of one numeric storage unit
pub is_met : IsMet
unfolding one_variable no_program no_frame bare is_variable is_procedure_name Answers named_as stored_at elements_of extent_of whole bounds_of either_bounds
is_met = record {
  sound = record {
    variables = λ x is. record { placed = typed.place _ Integer refl (omega arith); ranked = refl; sized = λ has. refl };
    procedures = λ x is. absurd (cc);
  };
  typed = typed.is_between [] Add (Fetch (At (codes "i"))) (Val (IsInt (pos 3))) Integer Integer typed.adds
      (typed.is_fetch [] (At (codes "i")) Integer typed.integers (typed.is_at [] (codes "i") Integer (record { class_is = refl; basic_is = refl })))
      (typed.is_val [] (IsInt (pos 3)) (ValueOf Integer) (typed.integer (pos 3)));
}
