-- Tests of what piece stands at a place, and when one test covers another: sorts of pieces are few, so that this is computed.
use Rattle.std.proofs.Common.{◌≡◌, ℕ, zero, suc, Bool, true, false, not, ◌&&◌, ◌||◌, List, [], ◌∷◌, refl, sym}
use Rattle.fortran_grammar.specs.Forms.{Sort, sort_discrete, NoPiece, NamePiece, NumberPiece, QuotedPiece, TruthPiece, NegationPiece, Star, Slash, TwoSlashes, Plus, Minus, OtherOperator, Open, Close, Comma, Equals, Colon, WordPiece, ToWord, ThenWord, FormatPiece, NoForm}
use Rattle.grammar_laws.specs.FormReading.{same}

-- a test of the piece that stands first
abbrev pub Test : Type 0
Test = Sort → Bool

abbrev pub all : Test
all s = true

abbrev pub also : Test → Test → Test
also p q = λ s. p s && q s

abbrev pub or_else : Test → Test → Test
or_else p q = λ s. p s || q s

abbrev pub but : Test → Test → Test
but p q = λ s. p s && not (q s)

abbrev pub is : Sort → Test
is k = λ s. same k s

abbrev pub all_of : Test → List Sort → Bool
all_of p [] = true
all_of p (k ∷ ks) = p k && all_of p ks

abbrev pub sorts : List Sort
sorts =
    NoPiece ∷ NamePiece ∷ NumberPiece ∷ QuotedPiece ∷ TruthPiece ∷ NegationPiece ∷ Star ∷ Slash ∷ TwoSlashes ∷ Plus ∷ Minus ∷
    OtherOperator ∷ Open ∷ Close ∷ Comma ∷ Equals ∷ Colon ∷ WordPiece ∷ ToWord ∷ ThenWord ∷ FormatPiece ∷ NoForm ∷ []

-- every piece that passes the first test passes the second
abbrev pub covers : Test → Test → Bool
covers p q = all_of (λ s. not (p s) || q s) sorts

-- no piece passes both
abbrev pub apart : Test → Test → Bool
apart p q = all_of (λ s. not (p s && q s)) sorts

pub left_true : (a b : Bool) → (a && b) ≡ true → a ≡ true
left_true true b h = refl
left_true false b h = h

pub right_true : (a b : Bool) → (a && b) ≡ true → b ≡ true
right_true true b h = h
right_true false b h = absurd (cc)

pub both_true : (a b : Bool) → a ≡ true → b ≡ true → (a && b) ≡ true
both_true true b h k = k
both_true false b h k = h

pub or_left : (a b : Bool) → a ≡ true → (a || b) ≡ true
or_left true b h = refl
or_left false b h = absurd (cc)

pub or_right : (a b : Bool) → b ≡ true → (a || b) ≡ true
or_right true b h = refl
or_right false b h = h

pub not_true : (a : Bool) → not a ≡ true → a ≡ false
not_true false h = refl
not_true true h = sym h

pub implied : (a b : Bool) → (not a || b) ≡ true → a ≡ true → b ≡ true
implied true b h k = h
implied false b h k = absurd (cc)

pub excluded : (a b : Bool) → not (a && b) ≡ true → b ≡ true → a ≡ false
excluded true true h k = sym h
excluded true false h k = absurd (cc)
excluded false b h k = refl

abbrev past : ℕ → List Sort → List Sort
past zero ks = ks
past (suc n) [] = []
past (suc n) (k ∷ ks) = past n ks

rest_true : (p : Test) (n : ℕ) (ks : List Sort) → all_of p ks ≡ true → all_of p (past n ks) ≡ true
rest_true p zero ks h = h
rest_true p (suc n) [] h = h
rest_true p (suc n) (k ∷ ks) h = rest_true p n ks (right_true (p k) (all_of p ks) h)

first_true : (p : Test) (k : Sort) (ks : List Sort) → all_of p (k ∷ ks) ≡ true → p k ≡ true
first_true p k ks h = left_true (p k) (all_of p ks) h

pub at_each : (p : Test) (s : Sort) → all_of p sorts ≡ true → p s ≡ true
at_each p NoPiece h = first_true p NoPiece (past 1 sorts) (rest_true p 0 sorts h)
at_each p NamePiece h = first_true p NamePiece (past 2 sorts) (rest_true p 1 sorts h)
at_each p NumberPiece h = first_true p NumberPiece (past 3 sorts) (rest_true p 2 sorts h)
at_each p QuotedPiece h = first_true p QuotedPiece (past 4 sorts) (rest_true p 3 sorts h)
at_each p TruthPiece h = first_true p TruthPiece (past 5 sorts) (rest_true p 4 sorts h)
at_each p NegationPiece h = first_true p NegationPiece (past 6 sorts) (rest_true p 5 sorts h)
at_each p Star h = first_true p Star (past 7 sorts) (rest_true p 6 sorts h)
at_each p Slash h = first_true p Slash (past 8 sorts) (rest_true p 7 sorts h)
at_each p TwoSlashes h = first_true p TwoSlashes (past 9 sorts) (rest_true p 8 sorts h)
at_each p Plus h = first_true p Plus (past 10 sorts) (rest_true p 9 sorts h)
at_each p Minus h = first_true p Minus (past 11 sorts) (rest_true p 10 sorts h)
at_each p OtherOperator h = first_true p OtherOperator (past 12 sorts) (rest_true p 11 sorts h)
at_each p Open h = first_true p Open (past 13 sorts) (rest_true p 12 sorts h)
at_each p Close h = first_true p Close (past 14 sorts) (rest_true p 13 sorts h)
at_each p Comma h = first_true p Comma (past 15 sorts) (rest_true p 14 sorts h)
at_each p Equals h = first_true p Equals (past 16 sorts) (rest_true p 15 sorts h)
at_each p Colon h = first_true p Colon (past 17 sorts) (rest_true p 16 sorts h)
at_each p WordPiece h = first_true p WordPiece (past 18 sorts) (rest_true p 17 sorts h)
at_each p ToWord h = first_true p ToWord (past 19 sorts) (rest_true p 18 sorts h)
at_each p ThenWord h = first_true p ThenWord (past 20 sorts) (rest_true p 19 sorts h)
at_each p FormatPiece h = first_true p FormatPiece (past 21 sorts) (rest_true p 20 sorts h)
at_each p NoForm h = first_true p NoForm (past 22 sorts) (rest_true p 21 sorts h)

-- what covers holds, and what is apart fails
pub covered : (p q : Test) (s : Sort) → covers p q ≡ true → p s ≡ true → q s ≡ true
covered p q s h = implied (p s) (q s) (at_each (λ s. not (p s) || q s) s h)

pub kept_apart : (p q : Test) (s : Sort) → apart p q ≡ true → q s ≡ true → p s ≡ false
kept_apart p q s h = excluded (p s) (q s) (at_each (λ s. not (p s && q s)) s h)

-- two sorts that are the
decided : (k j : Sort) (d : Dec (k ≡ j)) → (elim d [ yes equal ↦ true | no other ↦ false ]) ≡ true → k ≡ j
decided k j (yes equal) h = equal
decided k j (no other) h = absurd (cc)

pub same_equal : (k j : Sort) → same k j ≡ true → j ≡ k
same_equal k j h = sym (decided k j (sort_discrete k j) h)

settled : (k j : Sort) (d : Dec (k ≡ j)) → k ≡ j → (elim d [ yes equal ↦ true | no other ↦ false ]) ≡ true
settled k j (yes equal) h = refl
settled k j (no other) h = absurd (other h)

pub equal_same : (k j : Sort) → j ≡ k → same k j ≡ true
equal_same k j h = settled k j (sort_discrete k j) (sym h)
