-- What prototype files, read with one byte more than a file may have, say of those on the shelf.
use Rattle.std.specs.Prelude.{◌≡◌, ℕ, zero, suc, List, [], ◌∷◌, ◌++◌, take, drop, slice_get, Some}
use Rattle.std.proofs.Common.{sym, ap, subst, ◌∙◌}
use Rattle.std.proofs.lemmas.List.{take-map}
use Rattle.f2c_outside.specs.declared.shelves.Place.{Place}
use Rattle.f2c_outside.specs.declared.shelves.Place.TheVariants.{File as FileNamed}
use Rattle.f2c_outside.specs.Shelf.{Contents, bytes_of}
use Rattle.proto_file.specs.prototypes.declared.prototype.Prototype.{Prototype}
use Rattle.proto_file.specs.prototypes.PrototypeText.{most_bytes, RefusedLine}
use Rattle.call_shapes.specs.declared.shapes.NamedShape.{NamedShape}
use Rattle.source_files.specs.SourceOnShelf.{files_on}
use Rattle.source_files.specs.SourceReads.{place_fronts}
use Rattle.source_files.proofs.ListLemmas.{some_same, IsMappedAt, mapped_at}
use Rattle.check_command.specs.PrototypeFiles.{ArePrototypeFiles, HaveShapes, IsFirstBad}
use Rattle.prototype_outputs.proofs.FrontLemmas.{refused_front, file_of_front}

files_on_shelf : (n : ℕ) (c : Contents) (places : List Place) (files : List (List Prototype)) → n ≡ suc most_bytes → ArePrototypeFiles (place_fronts n c places) files →
    ArePrototypeFiles (files_on c places) files
unfolding ArePrototypeFiles
files_on_shelf n c [] [] is are = tt
files_on_shelf n c [] (file ∷ files) is are = absurd are
files_on_shelf n c (place ∷ places) [] is are = absurd are
files_on_shelf n c (place ∷ places) (file ∷ files) is are =
    (file_of_front n (bytes_of place c) file is are.0, files_on_shelf n c places files is are.1)

pub shapes_on : (n : ℕ) (c : Contents) (places : List Place) (texts : List (List ℕ)) (shapes : List NamedShape) → n ≡ suc most_bytes → texts ≡ place_fronts n c places →
    HaveShapes texts shapes → HaveShapes (files_on c places) shapes
shapes_on n c places texts shapes is texts_are have = record {
  prototypes = have.prototypes;
  files = files_on_shelf n c places have.prototypes is (subst (λ ts. ArePrototypeFiles ts have.prototypes) texts_are have.files);
  shapes_are = have.shapes_are;
}

-- the first that is none
pub parted : {A : Type 0} (xs : List A) (number : ℕ) (x : A) → slice_get xs number ≡ Some x → xs ≡ take number xs ++ x ∷ drop (suc number) xs
parted [] number x at = absurd (cc)
parted (y ∷ xs) zero x at = ap (λ z. z ∷ xs) (some_same y x at)
parted (y ∷ xs) (suc number) x at = ap (λ zs. y ∷ zs) (parted xs number x at)

pub shapes_before : (n : ℕ) (c : Contents) (places : List Place) (number : ℕ) (texts : List (List ℕ)) (shapes : List NamedShape) → n ≡ suc most_bytes →
    texts ≡ place_fronts n c places → HaveShapes (take number texts) shapes → HaveShapes (files_on c (take number places)) shapes
shapes_before n c places number texts shapes is texts_are have =
    shapes_on n c (take number places) (take number texts) shapes is (ap (take number) texts_are ∙ take-map (λ p. take n (bytes_of p c)) number places) have

pub refused_on_shelf : (n : ℕ) (c : Contents) (places : List Place) (name : List ℕ) (line : ℕ) (texts : List (List ℕ)) → n ≡ suc most_bytes →
    texts ≡ place_fronts n c places → IsFirstBad places texts name line → RefusedLine (bytes_of (FileNamed name) c) line
refused_on_shelf n c places name line texts is texts_are bad =
    let found : IsMappedAt (λ p. take n (bytes_of p c)) places bad.number bad.text =
    mapped_at (λ p. take n (bytes_of p c)) places bad.number bad.text (subst (λ ts. slice_get ts bad.number ≡ Some bad.text) texts_are bad.text_is) in
    let its : found.x ≡ FileNamed name = some_same found.x (FileNamed name) (sym found.at ∙ bad.place_is) in
    refused_front n (bytes_of (FileNamed name) c) line is
    (subst (λ t. RefusedLine t line) (found.is ∙ ap (λ p. take n (bytes_of p c)) its) bad.refused)
