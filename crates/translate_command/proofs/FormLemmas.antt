-- What further prototype files, read with one byte more than a file may have, say of those on the shelf.
use Rattle.std.specs.Prelude.{◌≡◌, ℕ, zero, suc, ◌<◌, List, [], ◌∷◌, ◌++◌, length, take, drop, slice_get, Some}
use Rattle.std.specs.List.{All}
use Rattle.std.proofs.Common.{sym, ap, subst, ◌∙◌, arith, get_or}
use Rattle.std.proofs.lemmas.List.{take-map}
use Rattle.std.proofs.lemmas.List.Elements.{All-weaker, All-get_or}
use Rattle.std.proofs.lemmas.Option.{slice_get-get_or}
use Rattle.f2c_outside.specs.declared.shelves.Place.{Place}
use Rattle.f2c_outside.specs.declared.shelves.Place.TheVariants.{Input, Output, Fault, File as FileNamed}
use Rattle.f2c_outside.specs.Shelf.{Contents, IsFile as IsFilePlace, IsSource, bytes_of}
use Rattle.prototype_outputs.specs.prototypes.PrototypeText.{most_bytes, RefusedLine}
use Rattle.prototype_outputs.specs.Forms.{AreFiles, IsFirstBad, HasNoForm}
use Rattle.prototype_outputs.specs.declared.forms.FormFail.{FormFail}
use Rattle.prototype_outputs.specs.declared.forms.FormFail.TheVariants as form_fail
use Rattle.prototype_outputs.proofs.FrontLemmas.{refused_front, file_of_front}
use Rattle.source_files.specs.SourceOnShelf.{files_on}
use Rattle.source_files.specs.SourceReads.{place_fronts}
use Rattle.source_files.proofs.ListLemmas.{some_same, IsMappedAt, mapped_at}
use Rattle.translate_command.specs.declared.failing.TranslateFail.{TranslateFail}
use Rattle.translate_command.specs.declared.failing.TranslateFail.TheVariants as fail
use Rattle.translate_command.specs.SourceTexts.{IsBadPlace, IsFormFail}

-- FILES can be read
pub file_source : (place : Place) → IsFilePlace place → IsSource place
file_source (FileNamed name) is = tt
file_source Input is = absurd is
file_source Output is = absurd is
file_source Fault is = absurd is

pub all_sources : (places : List Place) → All IsFilePlace places → All IsSource places
all_sources places files = All-weaker IsFilePlace IsSource file_source places files

pub file_at : (places : List Place) (number : ℕ) (place : Place) → All IsFilePlace places → number < length places → place ≡ get_or places number place → IsFilePlace place
file_at places number place files within is = subst IsFilePlace (sym is) (All-get_or IsFilePlace places number place within files)

-- THE SHELF
fronts_are_files : (n : ℕ) (c : Contents) (places : List Place) → n ≡ suc most_bytes → AreFiles (place_fronts n c places) → AreFiles (files_on c places)
unfolding AreFiles
fronts_are_files n c [] is are = tt
fronts_are_files n c (place ∷ places) is are =
    (record { prototypes = are.0.prototypes; is = file_of_front n (bytes_of place c) are.0.prototypes is are.0.is }, fronts_are_files n c places is are.1)

pub files_on_shelf : (n : ℕ) (c : Contents) (places : List Place) (texts : List (List ℕ)) → n ≡ suc most_bytes → texts ≡ place_fronts n c places → AreFiles texts →
    AreFiles (files_on c places)
files_on_shelf n c places texts is texts_are are = fronts_are_files n c places is (subst AreFiles texts_are are)

pub files_before : (n : ℕ) (c : Contents) (places : List Place) (number : ℕ) (texts : List (List ℕ)) → n ≡ suc most_bytes → texts ≡ place_fronts n c places →
    AreFiles (take number texts) → AreFiles (files_on c (take number places))
files_before n c places number texts is texts_are are =
    files_on_shelf n c (take number places) (take number texts) is (ap (take number) texts_are ∙ take-map (λ p. take n (bytes_of p c)) number places) are

-- the first that is none
pub parted : {A : Type 0} (xs : List A) (number : ℕ) (x : A) → slice_get xs number ≡ Some x → xs ≡ take number xs ++ x ∷ drop (suc number) xs
parted [] number x at = absurd (cc)
parted (y ∷ xs) zero x at = ap (λ z. z ∷ xs) (some_same y x at)
parted (y ∷ xs) (suc number) x at = ap (λ zs. y ∷ zs) (parted xs number x at)

pub refused_on_shelf : (n : ℕ) (c : Contents) (places : List Place) (name : List ℕ) (number line : ℕ) (texts : List (List ℕ)) → n ≡ suc most_bytes →
    texts ≡ place_fronts n c places → slice_get places number ≡ Some (FileNamed name) → IsFirstBad texts number line → RefusedLine (bytes_of (FileNamed name) c) line
refused_on_shelf n c places name number line texts is texts_are place_is bad =
    let found : IsMappedAt (λ p. take n (bytes_of p c)) places number bad.text =
    mapped_at (λ p. take n (bytes_of p c)) places number bad.text (subst (λ ts. slice_get ts number ≡ Some bad.text) texts_are bad.text_is) in
    let its : found.x ≡ FileNamed name = some_same found.x (FileNamed name) (sym found.at ∙ place_is) in
    refused_front n (bytes_of (FileNamed name) c) line is
    (subst (λ t. RefusedLine t line) (found.is ∙ ap (λ p. take n (bytes_of p c)) its) bad.refused)

-- THE STEP
pub bad_place : (forms : List Place) (texts : List (List ℕ)) (number line : ℕ) (place : Place) (why : TranslateFail) → number < length forms →
    place ≡ get_or forms number place → IsFirstBad texts number line → IsBadPlace place line why → IsFormFail forms texts why
bad_place forms texts number line place (fail.NotPrototype name other) within place_is bad is = (
  number,
  slice_get-get_or forms number place within ∙ ap Some (sym place_is ∙ is.0),
  subst (λ l. IsFirstBad texts number l) (sym is.1) bad,
)
bad_place forms texts number line place fail.NoMemory within place_is bad is = tt
bad_place forms texts number line place (fail.NotThere name) within place_is bad is = absurd is
bad_place forms texts number line place (fail.Unread other) within place_is bad is = absurd is
bad_place forms texts number line place (fail.Refused refusal name) within place_is bad is = absurd is
bad_place forms texts number line place (fail.Unwritten other) within place_is bad is = absurd is

-- the text that is none is one of the texts
within_by : {A : Type 0} (xs : List A) (number : ℕ) (x : A) → slice_get xs number ≡ Some x → number < length xs
within_by [] number x at = absurd (cc)
within_by (y ∷ xs) zero x at = omega arith
within_by (y ∷ xs) (suc number) x at = let later = within_by xs number x at in omega (arith, later)

pub bad_within : (texts : List (List ℕ)) (number line : ℕ) → IsFirstBad texts number line → number < length texts
bad_within texts number line bad = within_by texts number bad.text bad.text_is

pub bad_as : (texts : List (List ℕ)) (why : FormFail) (number line : ℕ) → why ≡ form_fail.NotPrototype number line → HasNoForm texts why → IsFirstBad texts number line
bad_as texts why number line is bad = subst (HasNoForm texts) is bad
