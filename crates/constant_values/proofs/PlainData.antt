-- Values that are no places: what every operator and every function gives.
use Rattle.std.proofs.Common.{◌≡◌, ℕ, zero, suc, ℤ, pos, negsuc, Bool, true, false, ◌&&◌, List, [], ◌∷◌, ◌++◌, Option, Some, None, if◌then◌else◌, refl, ap, sym, ◌∙◌}
use Rattle.std.specs.Prelude.{nat_lt, nat_le, length, take, nat_abs, neg_ℤ, int_lt, int_div, int_rem, ◌-ℤ◌}
use Rattle.std.specs.Ordering.{int_eq}
use Rattle.f_tree.specs.Values.{Bytes, Datum, IsInt, IsLog, IsText, IsSpot, IsProc, IsLabel, Nothing, Checked, Gives, Fails, given_that, in_range, checked}
use Rattle.f_tree.specs.Terms.{Prefix, Negate, Complement, Operator, Add, Subtract, Multiply, Divide, IsLess, IsLessOrEqual, IsEqual, IsNotEqual, IsGreater, IsGreaterOrEqual, Both, Either, Same, Different, Function, Power, Truncation, Magnitude, Remainder, SignTransfer, PositiveDifference, Largest, Smallest, CharacterCode, CharacterOfCode, TextLength, IndexOf, LexicallyGreaterOrEqual, LexicallyGreater, LexicallyLessOrEqual, LexicallyLess, Front, Fitted, InclusiveOr, LogicalProduct, ExclusiveOr, BitComplement, BitShift, BitTest, BitSet, BitClear}
use Rattle.run_state.specs.Bits.{shifted, has_bit, with_bit, without_bit, bit_at}
use Rattle.f_tree.specs.Valuing.{prefixed, divided, on_integers, on_logicals, on_texts, operated, Left, Decided, left_of, power_of, inverse_of, raised, int_max, int_min, extreme, remainder_of, with_sign_of, difference_over, character_of, total_length, if_bits, if_bit, applied, bound_to}
use Rattle.constant_values.specs.Folded.{given, if_some, all_some}

unfoldable pub plain : Datum → Bool
plain (IsSpot p) = false
plain _ = true

unfoldable pub plain_option : Option Datum → Bool
plain_option None = true
plain_option (Some d) = plain d

unfoldable pub plain_checked : Checked Datum → Bool
plain_checked (Gives d) = plain d
plain_checked (Fails act) = true

unfoldable pub plains : List Datum → Bool
plains [] = true
plains (d ∷ ds) = plain d && plains ds

pub plain-given : (c : Checked Datum) → plain_checked c ≡ true → plain_option (given c) ≡ true
unfolding plain_option plain_checked given
plain-given (Gives d) h = h
plain-given (Fails act) h = refl

checked_by : (z : ℤ) (b : Bool) → plain_checked (if b then Gives (IsInt z) else Fails Rattle.f_tree.specs.Values.Overflow) ≡ true
unfolding plain_checked plain
checked_by z true = refl
checked_by z false = refl

pub plain-checked : (z : ℤ) → plain_checked (checked z) ≡ true
unfolding checked
plain-checked z = checked_by z (in_range z)

unless_by : (b : Bool) (act : Rattle.f_tree.specs.Values.Act) (c : Checked Datum) → plain_checked c ≡ true → plain_checked (if b then Fails act else c) ≡ true
unfolding plain_checked
unless_by true act c h = refl
unless_by false act c h = h

when_by : (b : Bool) (act : Rattle.f_tree.specs.Values.Act) (c : Checked Datum) → plain_checked c ≡ true → plain_checked (if b then c else Fails act) ≡ true
unfolding plain_checked
when_by true act c h = h
when_by false act c h = refl

choice_by : (b : Bool) (c e : Checked Datum) → plain_checked c ≡ true → plain_checked e ≡ true → plain_checked (if b then c else e) ≡ true
choice_by true c e h k = h
choice_by false c e h k = k

given_by : {A : Type 0} (c : Checked A) (go : A → Checked Datum) → ((a : A) → plain_checked (go a) ≡ true) → plain_checked (given_that c go) ≡ true
unfolding plain_checked given_that
given_by (Gives a) go h = h a
given_by (Fails act) go h = refl

pub plain-divided : (a b : ℤ) → plain_checked (divided a b) ≡ true
unfolding divided
plain-divided a b = unless_by (int_eq b (pos 0)) Rattle.f_tree.specs.Values.ZeroDivide (checked (int_div a b)) (plain-checked (int_div a b))

pub plain-prefixed : (op : Prefix) (d : Datum) → plain_checked (prefixed op d) ≡ true
unfolding plain_checked plain prefixed
plain-prefixed Negate (IsInt z) = plain-checked (neg_ℤ z)
plain-prefixed Complement (IsLog b) = refl
plain-prefixed _ _ = refl

plain-integers : (op : Operator) (a b : ℤ) → plain_checked (on_integers op a b) ≡ true
unfolding plain_checked plain on_integers
plain-integers Add a b = plain-checked _
plain-integers Subtract a b = plain-checked _
plain-integers Multiply a b = plain-checked _
plain-integers Divide a b = plain-divided a b
plain-integers _ a b = refl

plain-logicals : (op : Operator) (a b : Bool) → plain_checked (on_logicals op a b) ≡ true
unfolding plain_checked plain on_logicals
plain-logicals Both a b = refl
plain-logicals Either a b = refl
plain-logicals Same a b = refl
plain-logicals Different a b = refl
plain-logicals _ a b = refl

plain-texts : (op : Operator) (a b : Bytes) → plain_checked (on_texts op a b) ≡ true
unfolding plain_checked plain on_texts
plain-texts IsLess a b = refl
plain-texts IsLessOrEqual a b = refl
plain-texts IsEqual a b = refl
plain-texts IsNotEqual a b = refl
plain-texts IsGreater a b = refl
plain-texts IsGreaterOrEqual a b = refl
plain-texts _ a b = refl

pub plain-operated : (op : Operator) (a b : Datum) → plain_checked (operated op a b) ≡ true
unfolding plain_checked operated
plain-operated op (IsInt a) (IsInt b) = plain-integers op a b
plain-operated op (IsLog a) (IsLog b) = plain-logicals op a b
plain-operated op (IsText a) (IsText b) = plain-texts op a b
plain-operated op _ _ = refl

unfoldable pub plain_left : Left → Bool
plain_left (Decided d) = plain d
plain_left _ = true

pub plain-left : (op : Operator) (d : Datum) → plain_left (left_of op d) ≡ true
unfolding plain_left plain left_of
plain-left Both (IsLog false) = refl
plain-left Both (IsLog true) = refl
plain-left Either (IsLog false) = refl
plain-left Either (IsLog true) = refl
plain-left _ _ = refl

-- INTRINSIC FUNCTIONS
plain-raised : (a b : ℤ) → plain_checked (raised a b) ≡ true
unfolding raised inverse_of
plain-raised a (pos n) = plain-checked (power_of a n)
plain-raised a (negsuc n) = plain-divided (pos 1) (power_of a (suc n))

plain-remainder : (a b : ℤ) → plain_checked (remainder_of a b) ≡ true
unfolding remainder_of plain_checked plain
plain-remainder a b =
    unless_by (int_eq b (pos 0)) Rattle.f_tree.specs.Values.ZeroDivide (given_that (checked (int_div a b)) (λ q. Gives (IsInt (int_rem a b))))
    (given_by (checked (int_div a b)) (λ q. Gives (IsInt (int_rem a b))) (λ q. refl))

plain-sign : (a b : ℤ) → plain_checked (with_sign_of a b) ≡ true
unfolding with_sign_of
plain-sign a b = plain-checked (if int_lt b (pos 0) then neg_ℤ (pos (nat_abs a)) else pos (nat_abs a))

plain-difference : (a b : ℤ) → plain_checked (difference_over a b) ≡ true
unfolding difference_over plain_checked plain
plain-difference a b = choice_by (int_lt b a) (checked (a -ℤ b)) (Gives (IsInt (pos 0))) (plain-checked (a -ℤ b)) refl

plain-extreme : (pick : ℤ → ℤ → ℤ) (best : ℤ) (ds : List Datum) → plain_checked (extreme pick best ds) ≡ true
unfolding extreme plain_checked plain
plain-extreme pick best [] = refl
plain-extreme pick best (IsInt z ∷ ds) = plain-extreme pick (pick best z) ds
plain-extreme pick best (_ ∷ ds) = refl

plain-character : (z : ℤ) → plain_checked (character_of z) ≡ true
unfolding character_of plain_checked plain
plain-character (pos n) = when_by (nat_lt n 256) Rattle.f_tree.specs.Values.BadCharacterCode (Gives (IsText (n ∷ []))) refl
plain-character (negsuc n) = refl

plain-bits : (o : Option ℤ) → plain_checked (if_bits o) ≡ true
unfolding if_bits plain_checked plain
plain-bits None = refl
plain-bits (Some z) = refl

plain-bit : (o : Option Bool) → plain_checked (if_bit o) ≡ true
unfolding if_bit plain_checked plain
plain-bit None = refl
plain-bit (Some b) = refl

pub plain-applied : (f : Function) (ds : List Datum) → plain_checked (applied f ds) ≡ true
unfolding plain_checked plain applied
plain-applied Power (IsInt a ∷ IsInt b ∷ []) = plain-raised a b
plain-applied Magnitude (IsInt a ∷ []) = plain-checked (pos (nat_abs a))
plain-applied Remainder (IsInt a ∷ IsInt b ∷ []) = plain-remainder a b
plain-applied SignTransfer (IsInt a ∷ IsInt b ∷ []) = plain-sign a b
plain-applied PositiveDifference (IsInt a ∷ IsInt b ∷ []) = plain-difference a b
plain-applied Largest (IsInt a ∷ ds) = plain-extreme int_max a ds
plain-applied Smallest (IsInt a ∷ ds) = plain-extreme int_min a ds
plain-applied CharacterOfCode (IsInt z ∷ []) = plain-character z
plain-applied TextLength (d ∷ ds) = given_by (total_length (d ∷ ds)) (λ n. checked (pos n)) (λ n. plain-checked (pos n))
plain-applied LexicallyGreaterOrEqual (IsText a ∷ IsText b ∷ []) = plain-texts IsGreaterOrEqual a b
plain-applied LexicallyGreater (IsText a ∷ IsText b ∷ []) = plain-texts IsGreater a b
plain-applied LexicallyLessOrEqual (IsText a ∷ IsText b ∷ []) = plain-texts IsLessOrEqual a b
plain-applied LexicallyLess (IsText a ∷ IsText b ∷ []) = plain-texts IsLess a b
plain-applied (Front n) (IsText cs ∷ []) = when_by (nat_le n (length cs)) Rattle.f_tree.specs.Values.Disagreement (Gives (IsText (take n cs))) refl
plain-applied BitShift (IsInt a ∷ IsInt n ∷ []) = plain-bits (shifted a n)
plain-applied BitTest (IsInt a ∷ IsInt n ∷ []) = plain-bit (has_bit a n)
plain-applied BitSet (IsInt a ∷ IsInt n ∷ []) = plain-bits (with_bit a (bit_at n))
plain-applied BitClear (IsInt a ∷ IsInt n ∷ []) = plain-bits (without_bit a (bit_at n))
plain-applied Truncation (IsInt a ∷ []) = refl
plain-applied CharacterCode (IsText cs ∷ []) = refl
plain-applied IndexOf (IsText a ∷ IsText b ∷ []) = refl
plain-applied (Fitted n) (IsText cs ∷ []) = refl
plain-applied InclusiveOr (IsInt a ∷ IsInt b ∷ []) = refl
plain-applied LogicalProduct (IsInt a ∷ IsInt b ∷ []) = refl
plain-applied ExclusiveOr (IsInt a ∷ IsInt b ∷ []) = refl
plain-applied BitComplement (IsInt a ∷ []) = refl
plain-applied _ _ = refl

-- LISTS
and-left : (a b : Bool) → (a && b) ≡ true → a ≡ true
and-left true b h = refl
and-left false b h = h

and-right : (a b : Bool) → (a && b) ≡ true → b ≡ true
and-right true b h = h
and-right false b h = absurd (Rattle.std.proofs.Common.true≢false (sym h))

both-true : (a b : Bool) → a ≡ true → b ≡ true → (a && b) ≡ true
both-true a b h k = ap (λ c. c && b) h ∙ k

pub plain-bound : (env : List Datum) (k : ℕ) → plains env ≡ true → plain_checked (bound_to env k) ≡ true
unfolding plains plain_checked bound_to
plain-bound [] k h = refl
plain-bound (d ∷ env) zero h = and-left (plain d) (plains env) h
plain-bound (d ∷ env) (suc k) h = plain-bound env k (and-right (plain d) (plains env) h)

unfoldable pub plain_options : List (Option Datum) → Bool
plain_options [] = true
plain_options (v ∷ vs) = plain_option v && plain_options vs

unfoldable pub plains_option : Option (List Datum) → Bool
plains_option None = true
plains_option (Some ds) = plains ds

plain-more : (d : Datum) (o : Option (List Datum)) → plain d ≡ true → plains_option o ≡ true → plains_option (if_some o (λ ds. Some (d ∷ ds))) ≡ true
unfolding plains_option plains if_some
plain-more d None h k = refl
plain-more d (Some ds) h k = both-true (plain d) (plains ds) h k

pub plain-all : (vs : List (Option Datum)) → plain_options vs ≡ true → plains_option (all_some vs) ≡ true
unfolding plains_option plains plain_options plain_option all_some if_some
plain-all [] h = refl
plain-all (None ∷ vs) h = refl
plain-all (Some d ∷ vs) h = plain-more d (all_some vs) (and-left (plain d) (plain_options vs) h) (plain-all vs (and-right (plain d) (plain_options vs) h))

pub plain-one : (v : Option Datum) (vs : List (Option Datum)) → plain_option v ≡ true → plain_options vs ≡ true → plain_options (v ∷ vs) ≡ true
unfolding plain_options
plain-one v vs h k = both-true (plain_option v) (plain_options vs) h k

pub plain-first : (v : Option Datum) (vs : List (Option Datum)) → plain_options (v ∷ vs) ≡ true → plain_option v ≡ true
unfolding plain_options
plain-first v vs h = and-left (plain_option v) (plain_options vs) h

pub plain-rest : (v : Option Datum) (vs : List (Option Datum)) → plain_options (v ∷ vs) ≡ true → plain_options vs ≡ true
unfolding plain_options
plain-rest v vs h = and-right (plain_option v) (plain_options vs) h
