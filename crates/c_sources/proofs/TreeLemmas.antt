-- The trees of C files, one file after the other; and places that were read or not.
use Rattle.std.specs.Prelude.{◌≡◌, ℕ, ◌+◌, ◌<◌, ◌≤◌, List, [], ◌∷◌, ◌++◌, length, take, slice_get, Some, Result, Ok, Err, IfOk, IfErr, IsErrAnd}
use Rattle.std.specs.List.{All}
use Rattle.std.proofs.Common.{refl, sym, ap, subst, ◌∙◌, arith, get_or}
use Rattle.std.proofs.lemmas.List.{take_all}
use Rattle.std.proofs.lemmas.List.Elements.{All-weaker, All-get_or}
use Rattle.std.proofs.lemmas.Option.{slice_get-get_or}
use Rattle.f2c_outside.specs.declared.shelves.Place.{Place}
use Rattle.f2c_outside.specs.declared.shelves.Place.TheVariants.{Input, Output, Fault, File as FileNamed}
use Rattle.f2c_outside.specs.Shelf.{ShelfState, IsFile, IsSource}
use Rattle.c_tree.specs.declared.file.CFile.{CFile}
use Rattle.c_tree.specs.CText.{CText, RefusedLine}
use Rattle.c_file_reader.specs.declared.texts.ReadFail.{ReadFail}
use Rattle.c_file_reader.specs.declared.texts.ReadFail.TheVariants as read_fail
use Rattle.c_file_reader.specs.ReadTexts.{IsRead}
use Rattle.source_files.specs.declared.failing.SourceFail.{SourceFail}
use Rattle.source_files.specs.declared.failing.SourceFail.TheVariants as source_fail
use Rattle.source_files.specs.SourceReads.{ArePlacesRead, ArePlacesUnread}
use Rattle.source_files.proofs.ListLemmas.{further}
use Rattle.c_sources.specs.declared.failing.CSourceFail.{CSourceFail}
use Rattle.c_sources.specs.declared.failing.CSourceFail.TheVariants as fail
use Rattle.c_sources.specs.Fails.{IsFailOfReading}
use Rattle.c_sources.specs.CTexts.{judged}
use Rattle.c_sources.specs.CFiles.{AreSpelled, AreNotSpelled, IsFailAt, IsNoTree, AreTreesRead, AreTreesUnread}

-- FILES can be read
file_source : (place : Place) → IsFile place → IsSource place
file_source (FileNamed name) is = tt
file_source Input is = absurd is
file_source Output is = absurd is
file_source Fault is = absurd is

pub all_sources : (places : List Place) → All IsFile places → All IsSource places
all_sources places files = All-weaker IsFile IsSource file_source places files

-- ONE FILE MORE
spelled_more : (texts : List (List ℕ)) (files : List CFile) (text : List ℕ) (file : CFile) → AreSpelled texts files → CText (judged text) file → AreSpelled (texts ++ text ∷ []) (files ++ file ∷ [])
unfolding AreSpelled
spelled_more [] [] text file are one = (one, tt)
spelled_more [] (f ∷ files) text file are one = absurd are
spelled_more (t ∷ texts) [] text file are one = absurd are
spelled_more (t ∷ texts) (f ∷ files) text file are one = (are.0, spelled_more texts files text file are.1 one)

pub at_begin : (texts : List (List ℕ)) (files : List CFile) → files ≡ [] → AreSpelled (take 0 texts) files
unfolding AreSpelled
at_begin texts files is = subst (AreSpelled []) (sym is) tt

pub behind_one : (texts : List (List ℕ)) (number : ℕ) (text : List ℕ) (file : CFile) (files more : List CFile) → number < length texts → text ≡ get_or texts number text →
    AreSpelled (take number texts) files → CText (judged text) file → more ≡ files ++ file ∷ [] → AreSpelled (take (number + 1) texts) more
behind_one texts number text file files more within is are one pushed =
    subst (λ fs. AreSpelled (take (number + 1) texts) fs) (sym pushed)
    (subst (λ ts. AreSpelled ts (files ++ file ∷ [])) (further texts number text within is) (spelled_more (take number texts) files text file are one))

pub at_end : (texts : List (List ℕ)) (number : ℕ) (files : List CFile) → length texts ≤ number → AreSpelled (take number texts) files → AreSpelled texts files
at_end texts number files past are = subst (λ ts. AreSpelled ts files) (take_all number texts past) are

-- A FILE that spells none
pub file_at : (places : List Place) (number : ℕ) (place : Place) → All IsFile places → number < length places → place ≡ get_or places number place → IsFile place
file_at places number place files within is = subst IsFile (sym is) (All-get_or IsFile places number place within files)

pub is_spelled : (text : List ℕ) (file : CFile) (result : Result CFile ReadFail) → IsRead (judged text) result → result ≡ Ok file → CText (judged text) file
is_spelled text file result read is = let its : IsRead (judged text) (Ok file) = subst (IsRead (judged text)) is read in its

no_tree_by : (place : Place) (text : List ℕ) (why : ReadFail) (found : CSourceFail) → IsRead (judged text) (Err why) → IsFailAt place why found → IsNoTree place text found
no_tree_by place text read_fail.NoMemory found refused is = subst (IsNoTree place text) (sym is) tt
no_tree_by place text (read_fail.NotC line) (fail.NotC name other) refused is = (is.0, subst (RefusedLine (judged text)) (sym is.1) refused)
no_tree_by place text (read_fail.NotC line) fail.NoMemory refused is = tt
no_tree_by place text (read_fail.NotC line) (fail.NotThere name) refused is = absurd is
no_tree_by place text (read_fail.NotC line) (fail.Unread other) refused is = absurd is

pub no_tree : (place : Place) (text : List ℕ) (why : ReadFail) (found : CSourceFail) (result : Result CFile ReadFail) → IsRead (judged text) result → result ≡ Err why →
    IsFailAt place why found → IsNoTree place text found
no_tree place text why found result read is fails = no_tree_by place text why found (subst (IsRead (judged text)) is read) fails

at_number : {A : Type 0} (xs : List A) (number : ℕ) (x y : A) → number < length xs → x ≡ get_or xs number x → x ≡ y → slice_get xs number ≡ Some y
at_number xs number x y within is same = slice_get-get_or xs number x within ∙ ap Some (sym is ∙ same)

pub refused_at : (places : List Place) (texts : List (List ℕ)) (number : ℕ) (place : Place) (text : List ℕ) (files : List CFile) (why : CSourceFail) →
    number < length texts → length texts ≡ length places → place ≡ get_or places number place → text ≡ get_or texts number text → AreSpelled (take number texts) files →
    IsNoTree place text why → AreNotSpelled places texts why
refused_at places texts number place text files (fail.NotC name line) within counts place_is text_is are refused = record {
  number = number;
  text = text;
  files = files;
  place_is = at_number places number place (FileNamed name) (omega (arith, within, counts)) place_is refused.0;
  text_is = at_number texts number text text within text_is refl;
  before = are;
  refused = refused.1;
}
refused_at places texts number place text files fail.NoMemory within counts place_is text_is are refused = tt
refused_at places texts number place text files (fail.NotThere name) within counts place_is text_is are refused = absurd refused
refused_at places texts number place text files (fail.Unread other) within counts place_is text_is are refused = absurd refused

pub no_memory : (places : List Place) (texts : List (List ℕ)) (why : CSourceFail) → why ≡ fail.NoMemory → AreNotSpelled places texts why
no_memory places texts why is = subst (AreNotSpelled places texts) (sym is) tt

-- PLACES
places_unread : (places : List Place) (b a : ShelfState) (why : SourceFail) (found : CSourceFail) → IsFailOfReading why found → ArePlacesUnread places b a why →
    AreTreesUnread places b a found
places_unread places b a (source_fail.NotThere name) found is its = subst (AreTreesUnread places b a) (sym is) its
places_unread places b a (source_fail.Unread place) found is its = subst (AreTreesUnread places b a) (sym is) its
places_unread places b a source_fail.NoMemory found is its = subst (AreTreesUnread places b a) (sym is) its

pub not_read : {T : Type 0} (places : List Place) (b a : ShelfState) (why : SourceFail) (result : Result T CSourceFail) → IsErrAnd result (IsFailOfReading why) →
    ArePlacesUnread places b a why → IfErr result (AreTreesUnread places b a)
not_read places b a why (Ok files) is its = absurd is
not_read places b a why (Err found) is its = places_unread places b a why found is its

pub trees_read : (places : List Place) (texts : List (List ℕ)) (b a : ShelfState) (result : Result (List CFile) CSourceFail) → ArePlacesRead 67108865 places texts b a →
    IfOk result (AreSpelled texts) → IfOk result (λ files. AreTreesRead places files b a)
trees_read places texts b a (Ok files) read are = record { kept = read.kept; quiet = read.quiet; texts = texts; spelled = are; fronts = read.fronts }
trees_read places texts b a (Err why) read are = tt

unread_with : (places : List Place) (texts : List (List ℕ)) (b a : ShelfState) (why : CSourceFail) → ArePlacesRead 67108865 places texts b a → AreNotSpelled places texts why →
    AreTreesUnread places b a why
unread_with places texts b a fail.NoMemory read not = read.kept
unread_with places texts b a (fail.NotC name line) read not = record { kept = read.kept; quiet = read.quiet; texts = texts; refused = not; fronts = read.fronts }
unread_with places texts b a (fail.NotThere name) read not = absurd not
unread_with places texts b a (fail.Unread place) read not = absurd not

pub trees_unread : (places : List Place) (texts : List (List ℕ)) (b a : ShelfState) (result : Result (List CFile) CSourceFail) → ArePlacesRead 67108865 places texts b a →
    IfErr result (AreNotSpelled places texts) → IfErr result (AreTreesUnread places b a)
trees_unread places texts b a (Ok files) read not = tt
trees_unread places texts b a (Err why) read not = unread_with places texts b a why read not
