-- The shapes of the lines of prototype files, one file after the other; and places that were read or not.
use Rattle.std.specs.Prelude.{◌≡◌, ℕ, ◌+◌, ◌<◌, ◌≤◌, List, [], ◌∷◌, ◌++◌, length, take, slice_get, Some, Result, Ok, Err, IfOk, IfErr, IsErrAnd}
use Rattle.std.specs.List.{All, flat_map}
use Rattle.std.proofs.Common.{refl, sym, ap, subst, ◌∙◌, arith, get_or}
use Rattle.std.proofs.lemmas.List.{take_all, append-nil}
use Rattle.std.proofs.lemmas.Grind.{flat_map-append}
use Rattle.std.proofs.lemmas.List.Elements.{All-weaker, All-get_or}
use Rattle.std.proofs.lemmas.Option.{slice_get-get_or}
use Rattle.f2c_outside.specs.declared.shelves.Place.{Place}
use Rattle.f2c_outside.specs.declared.shelves.Place.TheVariants.{Input, Output, Fault, File as FileNamed}
use Rattle.f2c_outside.specs.Shelf.{ShelfState, IsFile, IsSource}
use Rattle.proto_file.specs.prototypes.declared.prototype.Prototype.{Prototype}
use Rattle.proto_file.specs.prototypes.PrototypeText.{IsPrototypeFile, RefusedLine}
use Rattle.proto_file.specs.Failures.{IsRefusal}
use Rattle.proto_file.specs.declared.reader.ProtoFail.{ProtoFail}
use Rattle.proto_file.specs.declared.reader.ProtoFail.TheVariants as proto_fail
use Rattle.call_shapes.specs.declared.shapes.NamedShape.{NamedShape}
use Rattle.call_lines.specs.LineShapes.{line_shapes}
use Rattle.source_files.specs.declared.failing.SourceFail.{SourceFail}
use Rattle.source_files.specs.declared.failing.SourceFail.TheVariants as source_fail
use Rattle.source_files.specs.SourceReads.{ArePlacesRead, ArePlacesUnread}
use Rattle.source_files.proofs.ListLemmas.{further}
use Rattle.check_command.specs.declared.failing.CheckFail.{CheckFail}
use Rattle.check_command.specs.declared.failing.CheckFail.TheVariants as fail
use Rattle.check_command.specs.Fails.{IsFailOfReading}
use Rattle.check_command.specs.PrototypeFiles.{ArePrototypeFiles, HaveShapes, HaveNoShapes, IsFailAt, IsNoFile, ArePrototypesRead, ArePrototypesUnread}

-- FILES can be read
file_source : (place : Place) → IsFile place → IsSource place
file_source (FileNamed name) is = tt
file_source Input is = absurd is
file_source Output is = absurd is
file_source Fault is = absurd is

pub all_sources : (places : List Place) → All IsFile places → All IsSource places
all_sources places files = All-weaker IsFile IsSource file_source places files

-- ONE FILE MORE
files_more : (texts : List (List ℕ)) (files : List (List Prototype)) (text : List ℕ) (file : List Prototype) → ArePrototypeFiles texts files → IsPrototypeFile text file →
    ArePrototypeFiles (texts ++ text ∷ []) (files ++ file ∷ [])
unfolding ArePrototypeFiles
files_more [] [] text file are one = (one, tt)
files_more [] (f ∷ files) text file are one = absurd are
files_more (t ∷ texts) [] text file are one = absurd are
files_more (t ∷ texts) (f ∷ files) text file are one = (are.0, files_more texts files text file are.1 one)

shapes_more : (texts : List (List ℕ)) (shapes : List NamedShape) (text : List ℕ) (file : List Prototype) → HaveShapes texts shapes → IsPrototypeFile text file →
    HaveShapes (texts ++ text ∷ []) (shapes ++ line_shapes file)
shapes_more texts shapes text file have one = record {
  prototypes = have.prototypes ++ file ∷ [];
  files = files_more texts have.prototypes text file have.files one;
  shapes_are = ap (λ ss. ss ++ line_shapes file) have.shapes_are
      ∙ (ap (λ ss. flat_map line_shapes have.prototypes ++ ss) (sym (append-nil (line_shapes file))) ∙ sym (flat_map-append line_shapes have.prototypes (file ∷ [])));
}

no_files : ArePrototypeFiles [] []
unfolding ArePrototypeFiles
no_files = tt

pub at_begin : (texts : List (List ℕ)) (shapes : List NamedShape) → shapes ≡ [] → HaveShapes (take 0 texts) shapes
at_begin texts shapes is = record { prototypes = []; files = no_files; shapes_are = is }

pub behind_one : (texts : List (List ℕ)) (number : ℕ) (text : List ℕ) (file : List Prototype) (shapes more : List NamedShape) → number < length texts → text ≡ get_or texts number text →
    HaveShapes (take number texts) shapes → IsPrototypeFile text file → more ≡ shapes ++ line_shapes file → HaveShapes (take (number + 1) texts) more
behind_one texts number text file shapes more within is have one pushed =
    subst (λ ss. HaveShapes (take (number + 1) texts) ss) (sym pushed)
    (subst (λ ts. HaveShapes ts (shapes ++ line_shapes file)) (further texts number text within is) (shapes_more (take number texts) shapes text file have one))

pub at_end : (texts : List (List ℕ)) (number : ℕ) (shapes : List NamedShape) → length texts ≤ number → HaveShapes (take number texts) shapes → HaveShapes texts shapes
at_end texts number shapes past have = subst (λ ts. HaveShapes ts shapes) (take_all number texts past) have

-- A FILE that is none
pub file_at : (places : List Place) (number : ℕ) (place : Place) → All IsFile places → number < length places → place ≡ get_or places number place → IsFile place
file_at places number place files within is = subst IsFile (sym is) (All-get_or IsFile places number place within files)

pub no_file : (place : Place) (text : List ℕ) (why : ProtoFail) (found : CheckFail) → IsRefusal text why → IsFailAt place why found → IsNoFile place text found
no_file place text proto_fail.NoMemory found refused is = subst (IsNoFile place text) (sym is) tt
no_file place text (proto_fail.NotPrototype line) (fail.NotPrototype name other) refused is = (is.0, subst (RefusedLine text) (sym is.1) refused)
no_file place text (proto_fail.NotPrototype line) fail.NoMemory refused is = tt
no_file place text (proto_fail.NotPrototype line) (fail.NotThere name) refused is = absurd is
no_file place text (proto_fail.NotPrototype line) (fail.Unread other) refused is = absurd is
no_file place text (proto_fail.NotPrototype line) (fail.Refused refusal name) refused is = absurd is
no_file place text (proto_fail.NotPrototype line) (fail.Unwritten other) refused is = absurd is

at_number : {A : Type 0} (xs : List A) (number : ℕ) (x y : A) → number < length xs → x ≡ get_or xs number x → x ≡ y → slice_get xs number ≡ Some y
at_number xs number x y within is same = slice_get-get_or xs number x within ∙ ap Some (sym is ∙ same)

pub bad_at : (places : List Place) (texts : List (List ℕ)) (number : ℕ) (place : Place) (text : List ℕ) (shapes : List NamedShape) (why : CheckFail) →
    number < length texts → length texts ≡ length places → place ≡ get_or places number place → text ≡ get_or texts number text → HaveShapes (take number texts) shapes →
    IsNoFile place text why → HaveNoShapes places texts why
bad_at places texts number place text shapes (fail.NotPrototype name line) within counts place_is text_is have bad = record {
  number = number;
  text = text;
  shapes = shapes;
  place_is = at_number places number place (FileNamed name) (omega (arith, within, counts)) place_is bad.0;
  text_is = at_number texts number text text within text_is refl;
  before = have;
  refused = bad.1;
}
bad_at places texts number place text shapes fail.NoMemory within counts place_is text_is have bad = tt
bad_at places texts number place text shapes (fail.NotThere name) within counts place_is text_is have bad = absurd bad
bad_at places texts number place text shapes (fail.Unread other) within counts place_is text_is have bad = absurd bad
bad_at places texts number place text shapes (fail.Refused refusal name) within counts place_is text_is have bad = absurd bad
bad_at places texts number place text shapes (fail.Unwritten other) within counts place_is text_is have bad = absurd bad

pub no_memory : (places : List Place) (texts : List (List ℕ)) (why : CheckFail) → why ≡ fail.NoMemory → HaveNoShapes places texts why
no_memory places texts why is = subst (HaveNoShapes places texts) (sym is) tt

-- PLACES
places_unread : (places : List Place) (b a : ShelfState) (why : SourceFail) (found : CheckFail) → IsFailOfReading why found → ArePlacesUnread places b a why →
    ArePrototypesUnread places b a found
places_unread places b a (source_fail.NotThere name) found is its = subst (ArePrototypesUnread places b a) (sym is) its
places_unread places b a (source_fail.Unread place) found is its = subst (ArePrototypesUnread places b a) (sym is) its
places_unread places b a source_fail.NoMemory found is its = subst (ArePrototypesUnread places b a) (sym is) its

pub not_read : {T : Type 0} (places : List Place) (b a : ShelfState) (why : SourceFail) (result : Result T CheckFail) → IsErrAnd result (IsFailOfReading why) →
    ArePlacesUnread places b a why → IfErr result (ArePrototypesUnread places b a)
not_read places b a why (Ok shapes) is its = absurd is
not_read places b a why (Err found) is its = places_unread places b a why found is its

read_with : (places : List Place) (texts : List (List ℕ)) (b a : ShelfState) (shapes : List NamedShape) → ArePlacesRead 16777217 places texts b a → HaveShapes texts shapes →
    ArePrototypesRead places shapes b a
read_with places texts b a shapes read have = record { kept = read.kept; quiet = read.quiet; texts = texts; have = have; fronts = read.fronts }

pub prototypes_read : (places : List Place) (texts : List (List ℕ)) (b a : ShelfState) (result : Result (List NamedShape) CheckFail) → ArePlacesRead 16777217 places texts b a →
    IfOk result (HaveShapes texts) → IfOk result (λ shapes. ArePrototypesRead places shapes b a)
prototypes_read places texts b a (Ok shapes) read have = read_with places texts b a shapes read have
prototypes_read places texts b a (Err why) read have = tt

unread_with : (places : List Place) (texts : List (List ℕ)) (b a : ShelfState) (why : CheckFail) → ArePlacesRead 16777217 places texts b a → HaveNoShapes places texts why →
    ArePrototypesUnread places b a why
unread_with places texts b a fail.NoMemory read have = read.kept
unread_with places texts b a (fail.NotPrototype name line) read have = record { kept = read.kept; quiet = read.quiet; texts = texts; bad = have; fronts = read.fronts }
unread_with places texts b a (fail.NotThere name) read have = absurd have
unread_with places texts b a (fail.Unread place) read have = absurd have
unread_with places texts b a (fail.Refused refusal name) read have = absurd have
unread_with places texts b a (fail.Unwritten place) read have = absurd have

pub prototypes_unread : (places : List Place) (texts : List (List ℕ)) (b a : ShelfState) (result : Result (List NamedShape) CheckFail) → ArePlacesRead 16777217 places texts b a →
    IfErr result (HaveNoShapes places texts) → IfErr result (ArePrototypesUnread places b a)
prototypes_unread places texts b a (Ok shapes) read have = tt
prototypes_unread places texts b a (Err why) read have = unread_with places texts b a why read have
