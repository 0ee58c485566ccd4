-- A place of its type is defined, and storage has as many sequences as before.
use Rattle.std.specs.Prelude.{◌≡◌, ℕ, length, List, Option, Some, slice_get, if◌then◌else◌}
use Rattle.std.proofs.Common.{refl, sym, subst}
use Rattle.std.proofs.lemmas.List.{length-set}
use Rattle.std.proofs.lemmas.Option.{slice_get-get_or}
use Rattle.f_tree.specs.declared.names.Basic.{Basic}
use Rattle.f_tree.specs.declared.names.Basic.TheVariants.{Integer}
use Rattle.f_tree.specs.Values.{Bytes, Spot, Datum, IsSpot, DefinesReadOnly, PastExtent, Checked, Gives, Fails}
use Rattle.f_tree.specs.Store.{Store, Sequence, Cell, Label, undefined_units, with_whole, defined_as, stored_in, has_room, define_in, define, labelled_in, define_label}
use Rattle.f_tree.specs.WellTyped as typed
use Rattle.f_tree.specs.WellTyped.{ValueOf, PlaceOf, IsOf, Answers, is_named, IsValued}
use Rattle.fortran_totality.proofs.MeantLemmas.{Any, answers_if}

-- a store with as many sequences
abbrev pub AsMany : Store → Store → Type 0
AsMany s after = length after ≡ length s

-- a value of the type of its place has units, and they are stored in a sequence that is there
pub cells_defined : (n : ℕ) (basic : Basic) (p : Spot) (d : Datum) (cells : List Cell) → IsValued basic → IsOf n (ValueOf basic) d → Answers Any (defined_as basic p d cells)
unfolding defined_as Answers
cells_defined n basic p d cells typed.integers (typed.integer z) = tt
cells_defined n basic p d cells typed.logicals (typed.logical b) = tt
cells_defined n basic p d cells typed.texts (typed.text cs) = tt

pub stored_held : (s : Store) (k : ℕ) (r : Checked (List Cell)) → Answers Any r → Answers (AsMany s) (stored_in s k r)
unfolding stored_in Answers
stored_held s k (Gives cells) answers = length-set s k _
stored_held s k (Fails act) answers = answers

pub sequence_held : (s : Store) (n : ℕ) (p : Spot) (basic : Basic) (d : Datum) (q : Sequence) → IsValued basic → p.basic ≡ basic → IsOf n (ValueOf basic) d →
    Answers (AsMany s) (define_in s p d (Some q))
unfolding define_in Answers is_named
sequence_held s n p basic d q valued is of =
    answers_if (AsMany s) q.read_only (Fails DefinesReadOnly)
    (if has_room p q.cells then stored_in s p.sequence (defined_as p.basic p d q.cells) else Fails PastExtent) refl
    (answers_if (AsMany s) (has_room p q.cells) (stored_in s p.sequence (defined_as p.basic p d q.cells)) (Fails PastExtent)
    (stored_held s p.sequence (defined_as p.basic p d q.cells) (subst (λ b. Answers Any (defined_as b p d q.cells)) (sym is) (cells_defined n basic p d q.cells valued of))) refl)

pub some_held : (s : Store) (p : Spot) (d : Datum) (o : Option Sequence) (q : Sequence) → o ≡ Some q → Answers (AsMany s) (define_in s p d (Some q)) →
    Answers (AsMany s) (define_in s p d o)
some_held s p d o q is answers = subst (λ x. Answers (AsMany s) (define_in s p d x)) (sym is) answers

pub define_held : (s : Store) (n : ℕ) (basic : Basic) (p : Spot) (d : Datum) → IsValued basic → IsOf (length s) (PlaceOf basic) (IsSpot p) → IsOf n (ValueOf basic) d →
    Answers (AsMany s) (define s p d)
unfolding define
define_held s n basic p d valued (typed.place _ _ is within) of =
    some_held s p d (slice_get s p.sequence) _ (slice_get-get_or s p.sequence (undefined_units 0) within) (sequence_held s n p basic d _ valued is of)

-- a label is stored in a sequence that is there
pub label_sequence_held : (s : Store) (p : Spot) (owner : Bytes) (label : ℕ) (q : Sequence) → Answers (AsMany s) (labelled_in s p owner label (Some q))
unfolding labelled_in Answers is_named
label_sequence_held s p owner label q =
    answers_if (AsMany s) q.read_only (Fails DefinesReadOnly)
    (if has_room p q.cells then stored_in s p.sequence (Gives (with_whole (Label owner label) p.first q.cells)) else Fails PastExtent) refl
    (answers_if (AsMany s) (has_room p q.cells) (stored_in s p.sequence (Gives (with_whole (Label owner label) p.first q.cells))) (Fails PastExtent)
    (stored_held s p.sequence (Gives (with_whole (Label owner label) p.first q.cells)) tt) refl)

pub some_label_held : (s : Store) (p : Spot) (owner : Bytes) (label : ℕ) (o : Option Sequence) (q : Sequence) → o ≡ Some q → Answers (AsMany s) (labelled_in s p owner label o)
some_label_held s p owner label o q is = subst (λ x. Answers (AsMany s) (labelled_in s p owner label x)) (sym is) (label_sequence_held s p owner label q)

pub define_label_held : (s : Store) (p : Spot) (owner : Bytes) (label : ℕ) → IsOf (length s) (PlaceOf Integer) (IsSpot p) →
    Answers (AsMany s) (define_label s p owner label)
unfolding define_label
define_label_held s p owner label (typed.place _ _ is within) =
    some_label_held s p owner label (slice_get s p.sequence) _ (slice_get-get_or s p.sequence (undefined_units 0) within)
