-- The control words of a transfer or of OPEN and its kin in a well-formed unit: a unit is named, IOSTAT names a place, and texts are there.
use Rattle.std.specs.Prelude.{map, ◌≡◌, ℕ, ℤ, Bool, true, false, List, length, Option, Some, None, IsTrue, if◌then◌else◌}
use Rattle.std.proofs.Common.{refl}
use Rattle.f_tree.specs.declared.names.Basic.TheVariants.{Integer}
use Rattle.f_tree.specs.Values.{Bytes, Datum, Checked, Gives, Fails, given_that}
use Rattle.f_tree.specs.Store.{Store}
use Rattle.f_tree.specs.Facts.{Layout, Listed, Labelled, Computed, Unformatted, Word, ProgramUnit}
use Rattle.f_tree.specs.World.{Medium, External, Internal}
use Rattle.f_tree.specs.Records.{text_now}
use Rattle.f_tree.specs.FormatChoice.{format_found}
use Rattle.f_tree.specs.Transfers.{operand_for, is_format_word, medium_of, status_of, labelled_text, operand_characters, found_in, format_for}
use Rattle.f_tree.specs.UnitStatements.{is_file_word, is_blank_word, trimmed, file_name, begins_with_z, zero_blanks}
use Rattle.f_tree.specs.WellTyped as typed
use Rattle.f_tree.specs.WellTyped.{Sort, ValueOf, IsOf, AreOf, more_of, none_of, Answers, IsPiece}
use Rattle.f_tree.specs.WellFormed as formed
use Rattle.f_tree.specs.WellFormed.{WordTakes, WordsTake, unit_sort, names_format, is_given, HasLayout}
use Rattle.f_tree.specs.Holding as holding
use Rattle.f_tree.specs.Holding.{IsMedium, IsStatus}
use Rattle.fortran_totality.proofs.MeantLemmas.{Any, given_meant}
use Rattle.fortran_totality.proofs.InputLemmas.{text_at_named}

-- UNIT names a unit or an internal file
pub data HasMedium (count : ℕ) : Option Medium → Type 0 where
  has_medium : (medium : Medium) → IsMedium count medium → HasMedium count (Some medium)

pub medium_there : (count : ℕ) (words : List Word) (sorts : List Sort) (ds : List Datum) (sort : Sort) → WordsTake words sorts → AreOf count sorts ds →
    unit_sort words sorts ≡ Some sort → HasMedium count (medium_of words ds)
unfolding medium_of unit_sort
medium_there count words sorts ds sort formed.no_words none_of is = absurd (cc)
medium_there count words sorts ds sort (formed.more_words _ _ _ _ formed.unit_number are) (more_of _ _ _ _ (typed.integer z) ofs) is =
    has_medium (External z) (holding.on_unit z)
medium_there count words sorts ds sort (formed.more_words _ _ _ _ formed.internal_file are) (more_of _ _ _ _ (typed.place p basic based within) ofs) is =
    has_medium (Internal p) (holding.in_file p (typed.place p basic based within))
medium_there count words sorts ds sort (formed.more_words _ others _ more formed.status_place are) (more_of _ _ _ rest of ofs) is =
    medium_there count others more rest sort are ofs is
medium_there count words sorts ds sort (formed.more_words _ others _ more (formed.format_text _ _) are) (more_of _ _ _ rest of ofs) is =
    medium_there count others more rest sort are ofs is
medium_there count words sorts ds sort (formed.more_words _ others _ more (formed.file_text _ _) are) (more_of _ _ _ rest of ofs) is =
    medium_there count others more rest sort are ofs is
medium_there count words sorts ds sort (formed.more_words _ others _ more (formed.file_status_text _ _) are) (more_of _ _ _ rest of ofs) is =
    medium_there count others more rest sort are ofs is
medium_there count words sorts ds sort (formed.more_words _ others _ more (formed.access_text _ _) are) (more_of _ _ _ rest of ofs) is =
    medium_there count others more rest sort are ofs is
medium_there count words sorts ds sort (formed.more_words _ others _ more (formed.form_text _ _) are) (more_of _ _ _ rest of ofs) is =
    medium_there count others more rest sort are ofs is
medium_there count words sorts ds sort (formed.more_words _ others _ more (formed.blank_text _ _) are) (more_of _ _ _ rest of ofs) is =
    medium_there count others more rest sort are ofs is

-- of OPEN and its kin a unit
pub data HasUnit : Option Medium → Type 0 where
  has_unit : (unit : ℤ) → HasUnit (Some (External unit))

pub unit_there : (count : ℕ) (words : List Word) (sorts : List Sort) (ds : List Datum) → WordsTake words sorts → AreOf count sorts ds →
    unit_sort words sorts ≡ Some (ValueOf Integer) → HasUnit (medium_of words ds)
unfolding medium_of unit_sort
unit_there count words sorts ds formed.no_words none_of is = absurd (cc)
unit_there count words sorts ds (formed.more_words _ _ _ _ formed.unit_number are) (more_of _ _ _ _ (typed.integer z) ofs) is = has_unit z
unit_there count words sorts ds (formed.more_words _ _ _ _ formed.internal_file are) (more_of _ _ _ _ (typed.place _ _ _ _) ofs) is = absurd (cc)
unit_there count words sorts ds (formed.more_words _ others _ more formed.status_place are) (more_of _ _ _ rest of ofs) is = unit_there count others more rest are ofs is
unit_there count words sorts ds (formed.more_words _ others _ more (formed.format_text _ _) are) (more_of _ _ _ rest of ofs) is =
    unit_there count others more rest are ofs is
unit_there count words sorts ds (formed.more_words _ others _ more (formed.file_text _ _) are) (more_of _ _ _ rest of ofs) is =
    unit_there count others more rest are ofs is
unit_there count words sorts ds (formed.more_words _ others _ more (formed.file_status_text _ _) are) (more_of _ _ _ rest of ofs) is =
    unit_there count others more rest are ofs is
unit_there count words sorts ds (formed.more_words _ others _ more (formed.access_text _ _) are) (more_of _ _ _ rest of ofs) is =
    unit_there count others more rest are ofs is
unit_there count words sorts ds (formed.more_words _ others _ more (formed.form_text _ _) are) (more_of _ _ _ rest of ofs) is =
    unit_there count others more rest are ofs is
unit_there count words sorts ds (formed.more_words _ others _ more (formed.blank_text _ _) are) (more_of _ _ _ rest of ofs) is =
    unit_there count others more rest are ofs is

-- IOSTAT names an integer place, or is left out
pub status_there : (count : ℕ) (words : List Word) (sorts : List Sort) (ds : List Datum) → WordsTake words sorts → AreOf count sorts ds →
    IsStatus count (status_of words ds)
unfolding status_of
status_there count words sorts ds formed.no_words none_of = holding.no_status
status_there count words sorts ds (formed.more_words _ _ _ _ formed.status_place are) (more_of _ _ _ _ (typed.place p basic based within) ofs) =
    holding.a_status p (typed.place p basic based within)
status_there count words sorts ds (formed.more_words _ others _ more formed.unit_number are) (more_of _ _ _ rest of ofs) = status_there count others more rest are ofs
status_there count words sorts ds (formed.more_words _ others _ more formed.internal_file are) (more_of _ _ _ rest of ofs) = status_there count others more rest are ofs
status_there count words sorts ds (formed.more_words _ others _ more (formed.format_text _ _) are) (more_of _ _ _ rest of ofs) =
    status_there count others more rest are ofs
status_there count words sorts ds (formed.more_words _ others _ more (formed.file_text _ _) are) (more_of _ _ _ rest of ofs) =
    status_there count others more rest are ofs
status_there count words sorts ds (formed.more_words _ others _ more (formed.file_status_text _ _) are) (more_of _ _ _ rest of ofs) =
    status_there count others more rest are ofs
status_there count words sorts ds (formed.more_words _ others _ more (formed.access_text _ _) are) (more_of _ _ _ rest of ofs) =
    status_there count others more rest are ofs
status_there count words sorts ds (formed.more_words _ others _ more (formed.form_text _ _) are) (more_of _ _ _ rest of ofs) =
    status_there count others more rest are ofs
status_there count words sorts ds (formed.more_words _ others _ more (formed.blank_text _ _) are) (more_of _ _ _ rest of ofs) =
    status_there count others more rest are ofs

-- TEXTS. A piece of a text is fetched
pub text_now_there : (s : Store) (sort : Sort) (d : Datum) → IsPiece sort → IsOf (length s) sort d → Answers Any (text_now s d)
unfolding text_now Answers
text_now_there s sort d typed.piece_value (typed.text cs) = tt
text_now_there s sort d typed.piece_place (typed.place p _ is within) = text_at_named s p is within

-- an operand that is written, and is a text
pub data IsTextOperand (count : ℕ) : Option Datum → Type 0 where
  text_operand : (sort : Sort) (d : Datum) → IsPiece sort → IsOf count sort d → IsTextOperand count (Some d)

pub format_there : (count : ℕ) (words : List Word) (sorts : List Sort) (ds : List Datum) → WordsTake words sorts → AreOf count sorts ds →
    IsTrue (names_format words) → IsTextOperand count (operand_for is_format_word words ds)
unfolding operand_for is_format_word names_format
format_there count words sorts ds formed.no_words none_of is = absurd (cc)
format_there count words sorts ds (formed.more_words _ others sort more (formed.format_text _ piece) are) (more_of _ _ d rest of ofs) is = text_operand sort d piece of
format_there count words sorts ds (formed.more_words _ others _ more formed.unit_number are) (more_of _ _ _ rest of ofs) is = format_there count others more rest are ofs is
format_there count words sorts ds (formed.more_words _ others _ more formed.internal_file are) (more_of _ _ _ rest of ofs) is = format_there count others more rest are ofs is
format_there count words sorts ds (formed.more_words _ others _ more formed.status_place are) (more_of _ _ _ rest of ofs) is = format_there count others more rest are ofs is
format_there count words sorts ds (formed.more_words _ others _ more (formed.file_text _ _) are) (more_of _ _ _ rest of ofs) is =
    format_there count others more rest are ofs is
format_there count words sorts ds (formed.more_words _ others _ more (formed.file_status_text _ _) are) (more_of _ _ _ rest of ofs) is =
    format_there count others more rest are ofs is
format_there count words sorts ds (formed.more_words _ others _ more (formed.access_text _ _) are) (more_of _ _ _ rest of ofs) is =
    format_there count others more rest are ofs is
format_there count words sorts ds (formed.more_words _ others _ more (formed.form_text _ _) are) (more_of _ _ _ rest of ofs) is =
    format_there count others more rest are ofs is
format_there count words sorts ds (formed.more_words _ others _ more (formed.blank_text _ _) are) (more_of _ _ _ rest of ofs) is =
    format_there count others more rest are ofs is

-- an operand that is a text, or is left out: of a word that takes texts alone
pub data MayBeText (count : ℕ) : Option Datum → Type 0 where
  no_text : MayBeText count None
  a_text : (sort : Sort) (d : Datum) → IsPiece sort → IsOf count sort d → MayBeText count (Some d)

abbrev pub TakesTexts : (Word → Bool) → Type 0
TakesTexts test = (word : Word) (sort : Sort) → WordTakes word sort → IsTrue (test word) → IsPiece sort

pub text_if : (count : ℕ) (b : Bool) (sort : Sort) (d : Datum) (other : Option Datum) → (IsTrue b → IsPiece sort) → IsOf count sort d → MayBeText count other →
    MayBeText count (if b then Some d else other)
text_if count true sort d other piece of may = a_text sort d (piece refl) of
text_if count false sort d other piece of may = may

pub operand_there : (count : ℕ) (test : Word → Bool) (words : List Word) (sorts : List Sort) (ds : List Datum) → TakesTexts test → WordsTake words sorts →
    AreOf count sorts ds → MayBeText count (operand_for test words ds)
unfolding operand_for
operand_there count test words sorts ds texts formed.no_words none_of = no_text
operand_there count test words sorts ds texts (formed.more_words word others sort more takes are) (more_of _ _ d rest of ofs) =
    text_if count (test word) sort d (operand_for test others rest) (texts word sort takes) of (operand_there count test others more rest texts are ofs)

pub file_takes_texts : TakesTexts is_file_word
unfolding is_file_word
file_takes_texts word sort formed.unit_number is = absurd (cc)
file_takes_texts word sort formed.internal_file is = absurd (cc)
file_takes_texts word sort formed.status_place is = absurd (cc)
file_takes_texts word sort (formed.format_text _ piece) is = piece
file_takes_texts word sort (formed.file_text _ piece) is = piece
file_takes_texts word sort (formed.file_status_text _ piece) is = piece
file_takes_texts word sort (formed.access_text _ piece) is = piece
file_takes_texts word sort (formed.form_text _ piece) is = piece
file_takes_texts word sort (formed.blank_text _ piece) is = piece

pub blank_takes_texts : TakesTexts is_blank_word
unfolding is_blank_word
blank_takes_texts word sort formed.unit_number is = absurd (cc)
blank_takes_texts word sort formed.internal_file is = absurd (cc)
blank_takes_texts word sort formed.status_place is = absurd (cc)
blank_takes_texts word sort (formed.format_text _ piece) is = piece
blank_takes_texts word sort (formed.file_text _ piece) is = piece
blank_takes_texts word sort (formed.file_status_text _ piece) is = piece
blank_takes_texts word sort (formed.access_text _ piece) is = piece
blank_takes_texts word sort (formed.form_text _ piece) is = piece
blank_takes_texts word sort (formed.blank_text _ piece) is = piece

-- FILE and BLANK
pub file_name_there : (s : Store) (unit : ℤ) (o : Option Datum) → MayBeText (length s) o → Answers Any (file_name s unit o)
unfolding file_name Answers
file_name_there s unit None no_text = tt
file_name_there s unit (Some d) (a_text sort _ piece of) =
    given_meant Any Any (text_now s d) (λ cs. Gives (trimmed cs)) (text_now_there s sort d piece of) (λ cs any. tt)

pub zero_blanks_there : (s : Store) (o : Option Datum) → MayBeText (length s) o → Answers Any (zero_blanks s o)
unfolding zero_blanks Answers
zero_blanks_there s None no_text = tt
zero_blanks_there s (Some d) (a_text sort _ piece of) =
    given_meant Any Any (text_now s d) (λ cs. Gives (begins_with_z cs)) (text_now_there s sort d piece of) (λ cs any. tt)

-- the format: of its FORMAT statement, or of its operand
pub found_there : (r : Checked (List (Option ℕ))) → Answers Any r → Answers Any (found_in r)
unfolding found_in Answers
found_there r any = given_meant Any Any r (λ cs. Gives (format_found cs)) any (λ cs is. tt)

pub given_there : {A : Type 0} (r : Checked A) → IsTrue (is_given r) → Answers Any r
unfolding is_given Answers
given_there (Gives a) is = tt
given_there (Fails act) is = absurd (cc)

pub labelled_there : (r : Checked Bytes) → Answers Any r → Answers Any (given_that r (λ cs. Gives (map Some cs)))
unfolding Answers
labelled_there r any = given_meant Any Any r (λ cs. Gives (map Some cs)) any (λ cs is. tt)

pub operand_characters_there : (s : Store) (o : Option Datum) → IsTextOperand (length s) o → Answers Any (operand_characters s o)
unfolding operand_characters Answers
operand_characters_there s None has = elim has [ ]
operand_characters_there s (Some d) (text_operand sort _ typed.piece_value (typed.text cs)) = tt
operand_characters_there s (Some d) (text_operand sort _ typed.piece_place (typed.place p _ is within)) = tt

pub format_for_there : (u : ProgramUnit) (s : Store) (layout : Layout) (words : List Word) (sorts : List Sort) (ds : List Datum) → HasLayout u words layout →
    WordsTake words sorts → AreOf (length s) sorts ds → Answers Any (format_for u.formats s layout (operand_for is_format_word words ds))
unfolding format_for Answers
format_for_there u s Listed words sorts ds formed.by_list takes are = tt
format_for_there u s Unformatted words sorts ds has takes are = elim has [ ]
format_for_there u s (Labelled label) words sorts ds (formed.by_label _ is) takes are =
    found_there (given_that (labelled_text u.formats label) (λ cs. Gives (map Some cs)))
    (labelled_there (labelled_text u.formats label) (given_there (labelled_text u.formats label) is))
format_for_there u s Computed words sorts ds (formed.by_operand named) takes are =
    found_there (operand_characters s (operand_for is_format_word words ds))
    (operand_characters_there s (operand_for is_format_word words ds) (format_there (length s) words sorts ds takes are named))
