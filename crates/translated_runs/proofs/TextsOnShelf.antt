-- What is read of texts that stand on a shelf is the texts, and what they spell is the files that a translation has.
use Rattle.std.specs.Prelude.{◌≡◌, ℕ, zero, suc, ◌≤◌, Bool, List, [], ◌∷◌, ◌++◌, length, take, nat_le, slice_get, Some, IfSome, if◌then◌else◌, refl}
use Rattle.std.specs.List.{All}
use Rattle.std.proofs.Common.{sym, ap, ◌∙◌, subst, arith}
use Rattle.std.proofs.lemmas.Bool.{le-leb}
use Rattle.std.proofs.lemmas.List.{take_all}
use Rattle.std.proofs.lemmas.List.Elements.{All-head, All-tail, All-weaker}
use Rattle.ended_runs.specs.faithful.Faithful.{SpellAll, none, more}
use Rattle.ended_runs.specs.c_tree.declared.file.CFile.{CFile}
use Rattle.ended_runs.specs.c_tree.CText.{CText, RefusedLine}
use Rattle.ended_runs.proofs.EndedTexts.{one_list}
use Rattle.c_laws.proofs.RefusalLaws.{not_both}
use Rattle.f2c_outside.specs.declared.shelves.Place.{Place}
use Rattle.f2c_outside.specs.Shelf.{ShelfState, Contents, bytes_of}
use Rattle.source_files.specs.SourceOnShelf.{files_on}
use Rattle.source_files.specs.SourceReads.{place_fronts, HasFronts}
use Rattle.c_sources.specs.CTexts.{most_bytes, judged}
use Rattle.c_sources.specs.CFiles.{AreSpelled, AreTreesRead, IsRefusedAmong}

-- none of the texts is longer
abbrev pub AreShort : ℕ → List (List ℕ) → Type 0
AreShort most texts = All (λ text. length text ≤ most) texts

-- ## What is read

-- a front of each of short texts is the text
fronts_whole : (most : ℕ) (contents : Contents) (places : List Place) → AreShort most (files_on contents places) → place_fronts most contents places ≡ files_on contents places
fronts_whole most contents [] short = refl
fronts_whole most contents (place ∷ places) short =
    let first : take most (bytes_of place contents) ≡ bytes_of place contents =
    take_all most (bytes_of place contents) (All-head (λ text. length text ≤ most) (bytes_of place contents) (files_on contents places) short) in
    let later : place_fronts most contents places ≡ files_on contents places =
    fronts_whole most contents places (All-tail (λ text. length text ≤ most) (bytes_of place contents) (files_on contents places) short) in
    cc

longer : (most past : ℕ) (texts : List (List ℕ)) → most ≤ past → AreShort most texts → AreShort past texts
longer most past texts below short =
    All-weaker (λ (text : List ℕ). length text ≤ most) (λ (text : List ℕ). length text ≤ past) (λ text within. omega arith) texts short

-- what was read is the texts
pub read_whole : (most past : ℕ) → most ≤ past → (contents : Contents) (places : List Place) (texts read : List (List ℕ)) → files_on contents places ≡ texts
    → AreShort most texts → HasFronts past places read contents → read ≡ texts
read_whole most past below contents places texts read held short fronts =
    fronts.fronts ∙ fronts_whole past contents places (subst (AreShort past) (sym held) (longer most past texts below short)) ∙ held

-- ## What is judged

judged_by : (most : ℕ) (text other : List ℕ) → length text ≤ most → (if nat_le (length text) most then text else other) ≡ text
judged_by most text other within = ap (λ (test : Bool). if test then text else other) (le-leb (length text) most within)

-- a short text is judged as it is
judged_whole : (text : List ℕ) → length text ≤ most_bytes → judged text ≡ text
judged_whole text within = judged_by most_bytes text (take most_bytes text ++ 0 ∷ []) within

-- the files that short texts spell
spelled_all : (texts : List (List ℕ)) (files : List CFile) → AreShort most_bytes texts → AreSpelled texts files → SpellAll texts files
unfolding AreSpelled
spelled_all [] [] short are = none
spelled_all [] (file ∷ files) short are = absurd are
spelled_all (text ∷ texts) [] short are = absurd are
spelled_all (text ∷ texts) (file ∷ files) short are =
    more text file texts files
    (subst (λ bytes. CText bytes file) (judged_whole text (All-head (λ text. length text ≤ most_bytes) text texts short)) are.0)
    (spelled_all texts files (All-tail (λ text. length text ≤ most_bytes) text texts short) are.1)

-- no text among those that spell files is refused at a line
none_refused : (texts : List (List ℕ)) (files : List CFile) → AreShort most_bytes texts → SpellAll texts files → (number : ℕ) (text : List ℕ) (line : ℕ)
    → slice_get texts number ≡ Some text → RefusedLine (judged text) line → ⊥
none_refused [] files short spelled number text line found refused = cc
none_refused (first ∷ texts) [] short spelled number text line found refused = elim spelled [ ]
none_refused (first ∷ texts) (file ∷ files) short (more _ _ _ _ spelled later) zero text line found refused =
    let same : first ≡ text = cc in
    let whole : judged first ≡ first = judged_whole first (All-head (λ text. length text ≤ most_bytes) first texts short) in
    not_both first file line spelled (subst (λ bytes. RefusedLine bytes line) (ap judged (sym same) ∙ whole) refused)
none_refused (first ∷ texts) (file ∷ files) short (more _ _ _ _ spelled later) (suc number) text line found refused =
    none_refused texts files (All-tail (λ text. length text ≤ most_bytes) first texts short) later number text line found refused

-- ## Texts on a shelf

module _ (places : List Place) (texts : List (List ℕ)) (trees : List CFile) (contents : Contents) (b : ShelfState) where
  -- the trees that were read of them are those of the translation
  pub trees_are : b.told ≡ Some contents → files_on contents places ≡ texts → AreShort most_bytes texts → SpellAll texts trees
      → (files : List CFile) (m : ShelfState) → AreTreesRead places files b m → files ≡ trees
  trees_are told held short spelled files m read =
      let fronts : HasFronts 67108865 places read.texts contents = subst (λ known. IfSome known (HasFronts 67108865 places read.texts)) told read.fronts in
      let whole : read.texts ≡ texts = read_whole most_bytes 67108865 (omega arith) contents places texts read.texts held short fronts in
      one_list texts files trees (spelled_all texts files short (subst (λ those. AreSpelled those files) whole read.spelled)) spelled

  -- and none is refused
  pub not_refused : b.told ≡ Some contents → files_on contents places ≡ texts → AreShort most_bytes texts → SpellAll texts trees
      → (name : List ℕ) (line : ℕ) (m : ShelfState) → IsRefusedAmong places name line b m → ⊥
  not_refused told held short spelled name line m among =
      let fronts : HasFronts 67108865 places among.texts contents = subst (λ known. IfSome known (HasFronts 67108865 places among.texts)) told among.fronts in
      let whole : among.texts ≡ texts = read_whole most_bytes 67108865 (omega arith) contents places texts among.texts held short fronts in
      none_refused texts trees short spelled among.refused.number among.refused.text line
      (ap (λ those. slice_get those among.refused.number) (sym whole) ∙ among.refused.text_is)
      among.refused.refused
