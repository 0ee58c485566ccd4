-- Facts of sources: which file has a row, where its entry stands, and that a source spells one set.
use Rattle.std.specs.Prelude.{◌≡◌, ◌<◌, ◌≤◌, ◌+◌, ℕ, zero, suc, nat_lt, Bool, true, false, List, [], ◌∷◌, ◌++◌, length, map, slice_get, Some, None}
use Rattle.std.proofs.lemmas.Bool.{ltb-true, ltb-false}
use Rattle.std.proofs.Common.{refl, sym, ap, ◌∙◌, subst, arith, length-append}
use Rattle.f_tree.specs.RefusalRows.{number_of}
use Rattle.f_tree.specs.RefusalRows.{IsNotAfter}
use Rattle.f_tree.specs.declared.refusals.Kind.{Kind}
use Rattle.f_tree.specs.declared.refusals.Refusal.{Refusal}
use Rattle.f_tree.specs.declared.units.File.{File}
use Rattle.f_tree.specs.declared.units.FileSet.{FileSet}
use Rattle.f_tree.specs.declared.units.Part.{Part}
use Rattle.fortran_text.specs.FirstFault.{IsFirst}
use Rattle.fortran_text.specs.StatementsOfFile.{FileCards, file_cards}
use Rattle.fortran_grammar.specs.UnitsOfFile.{SpellsFile}
use Rattle.fortran_grammar.specs.IncludedFiles.{SpellsPart, file_with_parts}
use Rattle.expression_parse.proofs.grammar_laws.FileLemmas.{one_file as one_tree, one_part as one_part_tree}
use Rattle.source_acceptance.specs.SourceFiles.{Included, Source, statements_in, names_of, SpellFiles, no_files, one_file, SpellParts, no_parts, one_part, files_with_parts, SpellsSource}
use Rattle.source_reader.specs.Along.{Along, no_pair, one_pair}
use Rattle.source_reader.specs.PartReading.{IsPartClear}
use Rattle.source_reader.specs.SourceReading.{IsFileRead, entries}
use Rattle.source_reader.specs.Trees.{IsTreeOf, PartsOf, no_part as nothing, one_part as part_more}

-- THE ORDER OF REFUSALS
pub before_by_file : (r q : Refusal) → r.file < q.file → IsNotAfter r q
before_by_file r q low = record { file = omega arith; card = λ same. absurd (omega arith); number = λ same at. absurd (omega arith) }

pub before_by_first : (Faults : ℕ → Kind → Type 0) (r q : Refusal) → IsFirst Faults r.card r.kind → Faults q.card q.kind → r.file ≡ q.file → IsNotAfter r q
before_by_first Faults r q first fault same = record {
  file = omega arith;
  card = λ s. first.least q.card q.kind fault;
  number = λ s at. first.least_number q.card q.kind fault at;
}

pub same_row : (r q : Refusal) → r.file ≡ q.file → r.card ≡ q.card → r.kind ≡ q.kind → IsNotAfter r q
same_row r q files cards kinds = record { file = omega arith; card = λ s. omega arith; number = λ s at. omega (arith, ap number_of kinds) }

by_order : (r q : Refusal) (b c : Bool) → nat_lt q.file r.file ≡ b → nat_lt r.file q.file ≡ c → (q.file < r.file → ⊥) → (q.file ≡ r.file → IsNotAfter r q) → IsNotAfter r q
by_order r q true c is other low same = absurd (low (ltb-true q.file r.file is))
by_order r q false true is other low same = before_by_file r q (ltb-true r.file q.file other)
by_order r q false false is other low same =
    let a : r.file ≤ q.file = ltb-false q.file r.file is in
    let b : q.file ≤ r.file = ltb-false r.file q.file other in
    same (omega arith)

-- no row stands in a file before, and none before it in its own
pub first_by_file : (r q : Refusal) → (q.file < r.file → ⊥) → (q.file ≡ r.file → IsNotAfter r q) → IsNotAfter r q
first_by_file r q low same = by_order r q (nat_lt q.file r.file) (nat_lt r.file q.file) refl refl low same

-- ENTRIES
entry_first : (n : List ℕ) (ns : List (List ℕ)) (b : List ℕ) (bs : List (List ℕ)) → entries (n ∷ ns) (b ∷ bs) ≡ record { name = n; bytes = b } ∷ entries ns bs
unfolding entries
entry_first n ns b bs = refl

entry_none : entries [] [] ≡ []
unfolding entries
entry_none = refl

none_some : {A : Type 0} (a : A) → None ≡ Some a → ⊥
none_some a same = absurd (cc)

some_once : {A : Type 0} (a b : A) → Some a ≡ Some b → a ≡ b
some_once a b same = cc

pub record EntryAt (list : List Included) (place : ℕ) (bytes : List ℕ) : Type 0 where
  pub entry : Included
  pub is : slice_get list place ≡ Some entry
  pub bytes_are : bytes ≡ entry.bytes

entry_behind : (list : List Included) (i : Included) (place : ℕ) (bytes : List ℕ) → EntryAt list place bytes → EntryAt (i ∷ list) (suc place) bytes
entry_behind list i place bytes e = record { entry = e.entry; is = e.is; bytes_are = e.bytes_are }

entry_along : (list other : List Included) (place : ℕ) (bytes : List ℕ) → list ≡ other → EntryAt list place bytes → EntryAt other place bytes
entry_along list other place bytes same e = subst (λ l. EntryAt l place bytes) same e

pub entry_at : (names included : List (List ℕ)) (place : ℕ) (bytes : List ℕ) → length names ≡ length included → slice_get included place ≡ Some bytes →
    EntryAt (entries names included) place bytes
entry_at names [] place bytes same is = absurd (none_some bytes is)
entry_at [] (b ∷ included) place bytes same is = absurd (omega arith)
entry_at (n ∷ names) (b ∷ included) zero bytes same is =
    entry_along (record { name = n; bytes = b } ∷ entries names included) (entries (n ∷ names) (b ∷ included)) 0 bytes (sym (entry_first n names b included))
    (record { entry = record { name = n; bytes = b }; is = refl; bytes_are = some_once bytes b (sym is) })
entry_at (n ∷ names) (b ∷ included) (suc place) bytes same is =
    entry_along (record { name = n; bytes = b } ∷ entries names included) (entries (n ∷ names) (b ∷ included)) (suc place) bytes (sym (entry_first n names b included))
    (entry_behind (entries names included) (record { name = n; bytes = b }) place bytes (entry_at names included place bytes (omega arith) is))

pub entries_length : (names included : List (List ℕ)) → length names ≡ length included → length (entries names included) ≡ length included
entries_length [] [] same = ap (λ l. length l) entry_none
entries_length [] (b ∷ included) same = absurd (omega arith)
entries_length (n ∷ names) [] same = absurd (omega arith)
entries_length (n ∷ names) (b ∷ included) same =
    ap (λ l. length l) (entry_first n names b included) ∙ ap suc (entries_length names included (omega arith))

name_first : (i : Included) (is : List Included) → names_of (i ∷ is) ≡ i.name ∷ names_of is
unfolding names_of
name_first i is = refl

name_none : names_of [] ≡ []
unfolding names_of
name_none = refl

pub names_are : (names included : List (List ℕ)) → length names ≡ length included → names_of (entries names included) ≡ names
names_are [] [] same = ap names_of entry_none ∙ name_none
names_are [] (b ∷ included) same = absurd (omega arith)
names_are (n ∷ names) [] same = absurd (omega arith)
names_are (n ∷ names) (b ∷ included) same =
    ap names_of (entry_first n names b included)
    ∙ (name_first (record { name = n; bytes = b }) (entries names included) ∙ ap (λ l. n ∷ l) (names_are names included (omega arith)))

names_length : (is : List Included) → length (names_of is) ≡ length is
names_length [] = ap (λ l. length l) name_none
names_length (i ∷ is) = ap (λ l. length l) (name_first i is) ∙ ap suc (names_length is)

-- a source that has as many entries has no more
pub no_rest : (list rest : List Included) (names : List (List ℕ)) → length list ≡ length names → names_of (list ++ rest) ≡ names → rest ≡ []
no_rest list [] names same are = refl
no_rest list (i ∷ rest) names same are =
    let a : length (names_of (list ++ i ∷ rest)) ≡ length names = ap (λ l. length l) are in
    let b : length (names_of (list ++ i ∷ rest)) ≡ length (list ++ i ∷ rest) = names_length (list ++ i ∷ rest) in
    absurd (omega (arith, length-append list (i ∷ rest)))

-- WHAT A SOURCE SPELLS
statements_are : (file : ℕ) (bytes : List ℕ) → (file_cards file bytes).statements ≡ statements_in file bytes
unfolding statements_in
statements_are file bytes = refl

pub of_cards : (file : ℕ) (bytes : List ℕ) (cards : FileCards) → cards ≡ file_cards file bytes → cards.statements ≡ statements_in file bytes
of_cards file bytes cards is = ap (λ (f : FileCards). f.statements) is ∙ statements_are file bytes

pub spell_files : (refused : Bool) (n : ℕ) (files : List (List ℕ)) (cards : List FileCards) (trees : List File) → Along (IsFileRead refused) n files cards →
    Along IsTreeOf n cards trees → SpellFiles n files trees
spell_files refused n _ _ _ (no_pair _) (no_pair _) = no_files n
spell_files refused n _ _ _ (one_pair _ bytes cards files more is others) (one_pair _ _ tree _ trees spelled behind) =
    one_file n bytes files tree trees (subst (λ l. SpellsFile l tree) (of_cards n bytes cards is.cards_are) spelled.spells)
    (spell_files refused (suc n) files more trees others behind)

pub spell_parts : (refused : Bool) (first n m : ℕ) (names included : List (List ℕ)) (cards : List FileCards) (parts : List Part) → m ≡ first + n →
    PartsOf names cards parts → Along (IsPartClear refused first) n included cards → SpellParts m (entries names included) parts
spell_parts refused first n m _ _ _ _ same nothing (no_pair _) = subst (λ l. SpellParts m l []) (sym entry_none) (no_parts m)
spell_parts refused first n m _ _ _ _ same (part_more name cards part names more parts spells clear others) (one_pair _ bytes _ included _ is behind) =
    subst (λ l. SpellParts m l (part ∷ parts)) (sym (entry_first name names bytes included))
    (one_part m (record { name = name; bytes = bytes }) (entries names included) part parts
    (subst (λ l. SpellsPart name l part) (of_cards m bytes cards (is.cards_are ∙ ap (λ x. file_cards x bytes) (sym same))) spells)
    (spell_parts refused first (suc n) (suc m) names included more parts (omega arith) others behind))

parts_first : (parts : List Part) (f : File) (fs : List File) → files_with_parts parts (f ∷ fs) ≡ file_with_parts parts f ∷ files_with_parts parts fs
unfolding files_with_parts
parts_first parts f fs = refl

parts_none : (parts : List Part) → files_with_parts parts [] ≡ []
unfolding files_with_parts
parts_none parts = refl

pub map_parts : (parts : List Part) (files : List File) → map (file_with_parts parts) files ≡ files_with_parts parts files
map_parts parts [] = sym (parts_none parts)
map_parts parts (f ∷ fs) = ap (λ l. file_with_parts parts f ∷ l) (map_parts parts fs) ∙ sym (parts_first parts f fs)

-- A source spells one set.
same_more : {A : Type 0} (x y : A) (xs ys : List A) → x ≡ y → xs ≡ ys → (x ∷ xs) ≡ (y ∷ ys)
same_more x y xs ys same rest = cc

one_list : (file : ℕ) (bytes : List (List ℕ)) (a b : List File) → SpellFiles file bytes a → SpellFiles file bytes b → a ≡ b
one_list file [] _ _ (no_files _) (no_files _) = refl
one_list file (b ∷ more) _ _ (one_file _ _ _ s ss x xs) (one_file _ _ _ t ts y ys) =
    same_more s t ss ts (one_tree (statements_in file b) s t x y) (one_list (suc file) more ss ts xs ys)

one_parts : (file : ℕ) (included : List Included) (a b : List Part) → SpellParts file included a → SpellParts file included b → a ≡ b
one_parts file [] _ _ (no_parts _) (no_parts _) = refl
one_parts file (i ∷ more) _ _ (one_part _ _ _ s ss x xs) (one_part _ _ _ t ts y ys) =
    same_more s t ss ts (one_part_tree i.name (statements_in file i.bytes) s t x y) (one_parts (suc file) more ss ts xs ys)

abbrev as_set : List File → FileSet
as_set files = record { files = files }

pub one_set : (source : Source) (a b : FileSet) → SpellsSource source a → SpellsSource source b → a ≡ b
one_set source a b x y =
    let trees : x.trees ≡ y.trees = one_list 0 source.files x.trees y.trees x.files_spell y.files_spell in
    let parts : x.parts ≡ y.parts = one_parts (length source.files) source.included x.parts y.parts x.parts_spell y.parts_spell in
    let files : a.files ≡ b.files =
    x.set_is ∙ (ap (λ ps. files_with_parts ps x.trees) parts ∙ (ap (λ fs. files_with_parts y.parts fs) trees ∙ sym y.set_is)) in
    ap as_set files
