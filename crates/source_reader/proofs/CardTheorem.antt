-- The first refusal of the cards of a source, from what was read of them.
use Rattle.std.specs.Prelude.{◌≡◌, ◌<◌, ◌≤◌, ◌+◌, ◌-◌, ℕ, nat_lt, unwrap_or, Bool, true, false, List, [], ◌++◌, length, take, slice_get, Option, Some, None}
use Rattle.std.proofs.Common.{refl, sym, ap, ◌∙◌, subst, arith, length-take}
use Rattle.std.proofs.lemmas.Option.{slice_get_within}
use Rattle.std.proofs.lemmas.Bool.{ltb-true, ltb-false}
use Rattle.std.proofs.lemmas.List.{append-nil}
use Rattle.f_tree.specs.RefusalRows.{IsNotAfter}
use Rattle.f_tree.specs.Setting.{IsIn}
use Rattle.f_tree.specs.Uses.{is_among}
use Rattle.f_tree.specs.declared.names.Options.{Options}
use Rattle.f_tree.specs.declared.refusals.Kind.{Kind}
use Rattle.f_tree.specs.declared.refusals.Kind.TheVariants.{FileTooLong}
use Rattle.f_tree.specs.declared.refusals.Refusal.{Refusal}
use Rattle.f_tree.specs.declared.units.FileSet.{FileSet}
use Rattle.fortran_text.specs.FirstFault.{FaultOfFile, FaultOfCards, IsFirst, IsSound}
use Rattle.fortran_text.specs.StatementsOfFile.{FileCards, file_cards}
use Rattle.source_acceptance.specs.SourceFiles.{Included, Source, names_in, statements_in, mentioned_from, passes_at}
use Rattle.source_acceptance.specs.Acceptance.{Phase, Cards, place_of, HasIncluded, Counts, CardFault, of_file, of_included, too_many_included, end_or_include, tree_faults, Fault, of_cards as card_row, of_trees}
use Rattle.source_reader.specs.Along.{Along}
use Rattle.source_reader.specs.Limits.{first_named, passes, first_passing}
use Rattle.source_reader.specs.PartReading.{counted_by, IsPartClear, IsPartRefused, PartsAre, IsPartsRead, or_else}
use Rattle.source_reader.specs.SourceReading.{IsFileRead, IsRefusedAt, IsStop, IsNamed, PartFault, of_part, ends_or_includes, entries}
use Rattle.source_reader.specs.Sources.{count_named, first_of_cards, IsRefusedEarly}
use Rattle.source_reader.specs.declared.included.PartsRead.{PartsRead}
use Rattle.source_reader.specs.declared.named.NamedFiles.{NamedFiles}
use Rattle.source_reader.proofs.AlongLemmas.{Partner, along_length, along_at, along_back, get_front, get_take, get_some}
use Rattle.source_reader.proofs.LimitLemmas.{Alike, NonePasses, PassingAt, TooLong, passing_none, passing_some, row_is, count_covered, passes_same, mentioned_at, first_mentioned}
use Rattle.source_reader.proofs.PartLemmas.{counts}
use Rattle.source_reader.proofs.SourceFacts.{before_by_first, same_row, first_by_file, EntryAt, entry_at, entries_length, of_cards}

some_once : {A : Type 0} (a b : A) → Some a ≡ Some b → a ≡ b
some_once a b same = cc

none_some : {A : Type 0} (a : A) → None ≡ Some a → ⊥
none_some a same = absurd (cc)

nothing_in : {A : Type 0} (x : A) → IsIn x [] → ⊥
nothing_in x is = elim is [ ]

-- what was read
pub record Read (options : Options) (files included : List (List ℕ)) (named : NamedFiles) (parts : PartsRead) : Type 0 where
  pub is : IsNamed options files named
  pub parts_are : IsPartsRead options.long_cards (length named.files) included parts
  pub same : length named.names ≡ length included

-- the first of them, from the code's table
pub by_count : (named : NamedFiles) (parts : PartsRead) (count : List ℕ → ℕ) (passing : Option Refusal) → ((name : List ℕ) → count name ≡ count_named named parts name) →
    passing ≡ first_passing count 0 named.files → or_else passing (or_else named.refused parts.refused) ≡ first_of_cards named parts
unfolding first_of_cards
by_count named parts count passing same is =
    ap (λ o. or_else o (or_else named.refused parts.refused)) is
    ∙ ap (λ (f : List ℕ → ℕ). or_else (first_passing f 0 named.files) (or_else named.refused parts.refused)) (λ i. λ name. same name i)

last_none : (o p q : Option Refusal) → or_else o (or_else p q) ≡ None → q ≡ None
last_none None None q is = is
last_none None (Some x) q is = absurd (none_some x (sym is))
last_none (Some x) p q is = absurd (none_some x (sym is))

no_part_refused : (named : NamedFiles) (parts : PartsRead) → first_of_cards named parts ≡ None → parts.refused ≡ None
unfolding first_of_cards
no_part_refused named parts is = last_none (first_passing (count_named named parts) 0 named.files) named.refused parts.refused is

-- then each included file has its cards
pub each_part : (refused : Bool) (first : ℕ) (included : List (List ℕ)) (named : NamedFiles) (parts : PartsRead) → first_of_cards named parts ≡ None →
    IsPartsRead refused first included parts → length included ≡ length parts.cards
each_part refused first included named parts none read =
    along_length (IsPartClear refused first) 0 included parts.cards
    (subst (λ o. PartsAre refused first included parts.cards o) (no_part_refused named parts none) read.are)

-- the rows of a named file
data FileRow (refused : Bool) (list : List Included) (j : ℕ) (bytes : List ℕ) (card : ℕ) (kind : Kind) : Type 0 where
  by_cards : FaultOfFile refused bytes card kind → FileRow refused list j bytes card kind
  by_limit : (counted : List ℕ → ℕ) → IsSound (FaultOfFile refused bytes) → Counts refused counted →
      passes_at counted list (file_cards j bytes).cards (statements_in j bytes) ≡ Some card → kind ≡ FileTooLong → FileRow refused list j bytes card kind

no_earlier : (earlier : Phase) → place_of earlier < place_of Cards → ⊥
unfolding place_of
no_earlier earlier low = omega arith

cards_early : place_of Cards ≤ 2
unfolding place_of
cards_early = omega arith

no_tree : (options : Options) (set : FileSet) (q : Refusal) → IsIn q (tree_faults Cards options set) → ⊥
unfolding tree_faults
no_tree options set q among = nothing_in q among

-- the first of the rows of the cards
least_card : (options : Options) (source : Source) (r : Refusal) → ((q : Refusal) → CardFault options source q → IsNotAfter r q) →
    (q : Refusal) → Fault options source Cards q → IsNotAfter r q
least_card options source r least q (card_row _ fault) = least q fault
least_card options source r least q (of_trees _ set _ spells among) = absurd (no_tree options set q among)

pub clear_cards : (options : Options) (source : Source) → ((q : Refusal) → CardFault options source q → ⊥) → (q : Refusal) → Fault options source Cards q → ⊥
clear_cards options source none q (card_row _ fault) = none q fault
clear_cards options source none q (of_trees _ set _ spells among) = no_tree options set q among

first_of_all : (options : Options) (source : Source) (r : Refusal) → CardFault options source r →
    ((q : Refusal) → CardFault options source q → q.file < r.file → ⊥) → ((q : Refusal) → CardFault options source q → q.file ≡ r.file → IsNotAfter r q) →
    IsRefusedEarly options source r
first_of_all options source r fault low same = record {
  first = record {
    phase = Cards;
    read = λ earlier q less f. absurd (no_earlier earlier less);
    holds = card_row r fault;
    least = least_card options source r (λ q f. first_by_file r q (low q f) (same q f));
  };
  early = cards_early;
}

module _ (options : Options) (files included : List (List ℕ)) (named : NamedFiles) (parts : PartsRead) (rest : List Included)
    (read : Read options files included named parts) where
  abbrev refused : Bool
  refused = options.long_cards

  abbrev many : ℕ
  many = length named.files

  abbrev count : List ℕ → ℕ
  count = count_named named parts

  abbrev list : List Included
  list = entries named.names included ++ rest

  abbrev pub source : Source
  source = record { files = files; included = list }

  pub many_within : many ≤ length files
  many_within = let e = along_length (IsFileRead refused) 0 (take many files) named.files read.is.read in omega (arith, length-take many files)

  -- A NAMED FILE
  file_at : (j : ℕ) (bytes : List ℕ) → j < many → slice_get files j ≡ Some bytes → Partner (IsFileRead refused) 0 j bytes named.files
  file_at j bytes low is = along_at (IsFileRead refused) 0 (take many files) named.files read.is.read j bytes (get_take files many j low ∙ is)

  number : (j : ℕ) → 0 + j ≡ j
  number j = omega arith

  cards_at : (j : ℕ) (bytes : List ℕ) (low : j < many) (is : slice_get files j ≡ Some bytes) → (file_at j bytes low is).other ≡ file_cards j bytes
  cards_at j bytes low is = (file_at j bytes low is).pair.cards_are ∙ ap (λ n. file_cards n bytes) (number j)

  alike : (counted : List ℕ → ℕ) → Counts refused counted → (j : ℕ) (bytes : List ℕ) → j < many → slice_get files j ≡ Some bytes →
      Alike count counted (names_in (statements_in j bytes)) list
  alike counted are j bytes low is x among =
      let mentioned : is_among x (mentioned_from 0 (take many files)) ≡ true =
      mentioned_at 0 (take many files) j bytes x (get_take files many j low ∙ is) (subst (λ n. is_among x (names_in (statements_in n bytes)) ≡ true) (sym (number j)) among) in
      let own : is_among x named.names ≡ true = ap (is_among x) read.is.names ∙ first_mentioned (mentioned_from 0 (take many files)) x mentioned in
      ap (λ l. unwrap_or (first_named named.names l x) 0) read.parts_are.counts ∙ count_covered refused counted are named.names included rest x read.same own

  passes_alike : (counted : List ℕ → ℕ) → Counts refused counted → (j : ℕ) (bytes : List ℕ) (cards : FileCards) → j < many → slice_get files j ≡ Some bytes →
      cards ≡ file_cards j bytes → passes count cards.cards cards.statements ≡ passes_at counted list (file_cards j bytes).cards (statements_in j bytes)
  passes_alike counted are j bytes cards low is cards_are =
      ap (λ n. passes count n cards.statements) (ap (λ (f : FileCards). f.cards) cards_are)
      ∙ (ap (λ l. passes count (file_cards j bytes).cards l) (of_cards j bytes cards cards_are)
      ∙ passes_same count counted list (statements_in j bytes) (file_cards j bytes).cards (alike counted are j bytes low is))

  file_row : (q : Refusal) (j : ℕ) (bytes : List ℕ) → CardFault options source q → q.file ≡ j → slice_get files j ≡ Some bytes → FileRow refused list j bytes q.card q.kind
  file_row q j bytes (of_file other has fault) same is =
      let e : other ≡ bytes = some_once other bytes (sym has ∙ (ap (slice_get files) same ∙ is)) in
      by_cards (subst (λ b. FaultOfFile refused b q.card q.kind) e fault)
  file_row q j bytes (of_included other has fault) same is =
      let low = slice_get_within files j bytes is in let at = has.file_is in absurd (omega arith)
  file_row q j bytes (too_many_included other counted has sound are passed row) same is =
      let e : other ≡ bytes = some_once other bytes (sym has ∙ (ap (slice_get files) same ∙ is)) in
      by_limit counted (subst (λ b. IsSound (FaultOfFile refused b)) e sound) are
      (subst (λ b. passes_at counted list (file_cards j b).cards (statements_in j b) ≡ Some q.card) e
      (subst (λ n. passes_at counted list (file_cards n other).cards (statements_in n other) ≡ Some q.card) same passed)) row
  file_row q j bytes (end_or_include other s has sound among ending at row) same is =
      let low = slice_get_within files j bytes is in let on = has.file_is in absurd (omega arith)

  -- no row, where none was found
  quiet : (j : ℕ) (bytes : List ℕ) → j < many → slice_get files j ≡ Some bytes →
      ((c : FileCards) → slice_get named.files j ≡ Some c → passes count c.cards c.statements ≡ None) → (card : ℕ) (kind : Kind) → FileRow refused list j bytes card kind → ⊥
  quiet j bytes low is none card kind (by_cards fault) = (file_at j bytes low is).pair.sound card kind fault
  quiet j bytes low is none card kind (by_limit counted sound are passed row) =
      let at = file_at j bytes low is in
      none_some card (sym (none at.other at.is) ∙ (passes_alike counted are j bytes at.other low is (cards_at j bytes low is) ∙ passed))

  quiet_file : (q : Refusal) → CardFault options source q → q.file < many →
      ((c : FileCards) → slice_get named.files q.file ≡ Some c → passes count c.cards c.statements ≡ None) → ⊥
  quiet_file q fault low none =
      let some = get_some files q.file (let w = many_within in omega arith) in
      quiet q.file some.0 low some.1 none q.card q.kind (file_row q q.file some.0 fault refl some.1)

  -- AN INCLUDED FILE
  list_at : (place : ℕ) (bytes : List ℕ) → slice_get included place ≡ Some bytes → EntryAt list place bytes
  list_at place bytes is =
      let e = entry_at named.names included place bytes read.same is in
      record { entry = e.entry; is = get_front (entries named.names included) rest place e.entry e.is; bytes_are = e.bytes_are }

  part_bytes : (place : ℕ) (bytes : List ℕ) (file : ℕ) (other : List ℕ) → HasIncluded source file other → file ≡ length files + place →
      slice_get included place ≡ Some bytes → other ≡ bytes
  part_bytes place bytes file other has same is =
      let places : has.place ≡ place = (let at = has.file_is in omega arith) in
      let e = list_at place bytes is in
      let entries_are : has.entry ≡ e.entry = some_once has.entry e.entry (sym has.is ∙ (ap (slice_get list) places ∙ e.is)) in
      has.bytes_are ∙ (ap (λ (i : Included). i.bytes) entries_are ∙ sym e.bytes_are)

  part_row : (q : Refusal) (place : ℕ) (bytes : List ℕ) → CardFault options source q → q.file ≡ length files + place → slice_get included place ≡ Some bytes →
      PartFault refused (length files + place) bytes q.card q.kind
  part_row q place bytes (of_file other has fault) same is = let low = slice_get_within files q.file other has in absurd (omega arith)
  part_row q place bytes (of_included other has fault) same is =
      of_part (subst (λ b. FaultOfCards refused b q.card q.kind) (part_bytes place bytes q.file other has same is) fault)
  part_row q place bytes (too_many_included other counted has sound are passed row) same is =
      let low = slice_get_within files q.file other has in absurd (omega arith)
  part_row q place bytes (end_or_include other s has sound among ending at row) same is =
      let e : other ≡ bytes = part_bytes place bytes q.file other has same is in
      ends_or_includes s (subst (λ b. IsSound (FaultOfCards refused b)) e sound)
      (subst (λ b. IsIn s (statements_in (length files + place) b)) e (subst (λ n. IsIn s (statements_in n other)) same among)) ending at row

  has_included : (file place : ℕ) (bytes : List ℕ) → file ≡ length files + place → slice_get included place ≡ Some bytes → HasIncluded source file bytes
  has_included file place bytes same is =
      let e = list_at place bytes is in record { place = place; entry = e.entry; is = e.is; file_is = same; bytes_are = e.bytes_are }

  row_of_part : (r : Refusal) (place : ℕ) (bytes : List ℕ) → r.file ≡ length files + place → slice_get included place ≡ Some bytes →
      PartFault refused (length files + place) bytes r.card r.kind → CardFault options source r
  row_of_part r place bytes same is (of_part fault) = of_included bytes (has_included r.file place bytes same is) fault
  row_of_part r place bytes same is (ends_or_includes s sound among ending at row) =
      end_or_include bytes s (has_included r.file place bytes same is) sound (subst (λ n. IsIn s (statements_in n bytes)) (sym same) among) ending at row

  -- THE FIRST OF THEM
  -- F07 of INCLUDE in a named file
  in_passing : (r : Refusal) → PassingAt count 0 named.files r → IsRefusedEarly options source r
  in_passing r at =
      let low : at.place < many = slice_get_within named.files at.place at.cards at.is in
      let from = along_back (IsFileRead refused) 0 (take many files) named.files read.is.read at.place at.cards at.is in
      let bytes : List ℕ = from.origin in
      let is : slice_get files at.place ≡ Some bytes = sym (get_take files many at.place low) ∙ from.is in
      let cards_are : at.cards ≡ file_cards at.place bytes = from.pair.cards_are ∙ ap (λ n. file_cards n bytes) (number at.place) in
      let found : TooLong (0 + at.place) (passes count at.cards.cards at.cards.statements) r =
      row_is (0 + at.place) (passes count at.cards.cards at.cards.statements) r at.row in
      let in_file : r.file ≡ at.place = found.in_file ∙ number at.place in
      let passed : passes_at (counted_by refused) list (file_cards at.place bytes).cards (statements_in at.place bytes) ≡ Some r.card =
      sym (passes_alike (counted_by refused) (counts refused) at.place bytes at.cards low is cards_are) ∙ found.passed in
      first_of_all options source r
      (too_many_included bytes (counted_by refused) (ap (slice_get files) in_file ∙ is) from.pair.sound (counts refused)
      (subst (λ n. passes_at (counted_by refused) list (file_cards n bytes).cards (statements_in n bytes) ≡ Some r.card) (sym in_file) passed) found.kind)
      (λ q fault less. quiet_file q fault (omega arith) (λ c found_at. at.before q.file c (omega arith) found_at))
      (λ q fault same. alone q bytes low is cards_are from.pair.sound in_file found.passed found.kind (file_row q at.place bytes fault (same ∙ in_file) is) same)
    where
      alone : (q : Refusal) (bytes : List ℕ) → at.place < many → slice_get files at.place ≡ Some bytes → at.cards ≡ file_cards at.place bytes →
          IsSound (FaultOfFile refused bytes) → r.file ≡ at.place → passes count at.cards.cards at.cards.statements ≡ Some r.card → r.kind ≡ FileTooLong →
          FileRow refused list at.place bytes q.card q.kind → q.file ≡ r.file → IsNotAfter r q
      alone q bytes low is cards_are sound in_file passed kind (by_cards fault) same = absurd (sound q.card q.kind fault)
      alone q bytes low is cards_are sound in_file passed kind (by_limit counted also are other row) same =
          let e : r.card ≡ q.card = some_once r.card q.card (sym passed ∙ (passes_alike counted are at.place bytes at.cards low is cards_are ∙ other)) in
          same_row r q (sym same) e (kind ∙ sym row)

  -- the first fault of a named file
  in_named : (r : Refusal) → NonePasses count named.files many → IsRefusedAt refused files many r → IsRefusedEarly options source r
  in_named r none at =
      first_of_all options source r (of_file at.bytes (ap (slice_get files) at.in_file ∙ at.is) at.first.is)
      (λ q fault less. quiet_file q fault (let e = at.in_file in omega arith) (λ c found. none q.file c (let e = at.in_file in omega arith) found))
      (λ q fault same. alone q (file_row q many at.bytes fault (same ∙ at.in_file) at.is) same)
    where
      alone : (q : Refusal) → FileRow refused list many at.bytes q.card q.kind → q.file ≡ r.file → IsNotAfter r q
      alone q (by_cards fault) same = before_by_first (FaultOfFile refused at.bytes) r q at.first fault (sym same)
      alone q (by_limit counted sound are passed row) same = absurd (sound r.card r.kind at.first.is)

  -- the first row of an included file
  clear_part : (r : Refusal) → many ≡ length files → (at : IsPartRefused refused many included r) (j : ℕ) (b : List ℕ) → slice_get included j ≡ Some b →
      j < at.place → IsSound (PartFault refused (length files + j) b)
  clear_part r all at j b is less = subst (λ n. IsSound (PartFault refused (n + j) b)) all (at.before j b less is)

  in_included : (r : Refusal) → NonePasses count named.files many → many ≡ length files → IsPartRefused refused many included r → IsRefusedEarly options source r
  in_included r none all at =
      let in_file : r.file ≡ length files + at.place = at.in_file ∙ ap (λ n. n + at.place) all in
      let least : IsFirst (PartFault refused (length files + at.place) at.bytes) r.card r.kind =
      subst (λ n. IsFirst (PartFault refused (n + at.place) at.bytes) r.card r.kind) all at.least in
      first_of_all options source r (row_of_part r at.place at.bytes in_file at.is least.is)
      (λ q fault less. by_place q fault less in_file (nat_lt q.file (length files)) refl)
      (λ q fault same. before_by_first (PartFault refused (length files + at.place) at.bytes) r q least (part_row q at.place at.bytes fault (same ∙ in_file) at.is) (sym same))
    where
      by_place : (q : Refusal) → CardFault options source q → q.file < r.file → r.file ≡ length files + at.place → (b : Bool) → nat_lt q.file (length files) ≡ b → ⊥
      by_place q fault less in_file true is =
          quiet_file q fault (let l = ltb-true q.file (length files) is in omega arith)
          (λ c found. none q.file c (let l = ltb-true q.file (length files) is in omega arith) found)
      by_place q fault less in_file false is =
          let high : length files ≤ q.file = ltb-false q.file (length files) is in
          let place : ℕ = q.file - length files in
          let split : q.file ≡ length files + place = omega arith in
          let within = slice_get_within included at.place at.bytes at.is in
          let some = get_some included place (omega arith) in
          clear_part r all at place some.0 some.1 (omega arith) q.card q.kind (part_row q place some.0 fault split some.1)

  -- NOTHING
  clear_at : many ≡ length files → Along (IsPartClear refused many) 0 included parts.cards → (j : ℕ) (b : List ℕ) → slice_get included j ≡ Some b →
      IsSound (PartFault refused (length files + j) b)
  clear_at all along j b is =
      let found = along_at (IsPartClear refused many) 0 included parts.cards along j b is in
      subst (λ n. IsSound (PartFault refused (n + j) b)) all
      (subst (λ n. IsSound (PartFault refused (many + n) b)) (number j) found.pair.sound)

  listed : rest ≡ [] → (x : Refusal) (other : List ℕ) → HasIncluded source x.file other →
      (place : ℕ) × (x.file ≡ length files + place) × (place < length included)
  listed over x other has =
      let low = slice_get_within list has.place has.entry has.is in
      let e : length list ≡ length included =
      ap (λ l. length (entries named.names included ++ l)) over ∙ (ap (λ l. length l) (append-nil (entries named.names included)) ∙ entries_length named.names included read.same) in
      (has.place, has.file_is, omega arith)

  place_of_row : rest ≡ [] → (x : Refusal) → CardFault options source x → length files ≤ x.file →
      (place : ℕ) × (x.file ≡ length files + place) × (place < length included)
  place_of_row over x (of_file other has f) high = let low = slice_get_within files x.file other has in absurd (omega arith)
  place_of_row over x (of_included other has f) high = listed over x other has
  place_of_row over x (too_many_included other counted has sound are passed row) high = let low = slice_get_within files x.file other has in absurd (omega arith)
  place_of_row over x (end_or_include other s has sound among ending at row) high = listed over x other has

  clear_by : NonePasses count named.files many → many ≡ length files → Along (IsPartClear refused many) 0 included parts.cards → rest ≡ [] →
      (q : Refusal) → CardFault options source q → (b : Bool) → nat_lt q.file (length files) ≡ b → ⊥
  clear_by none all along over q fault true is =
      quiet_file q fault (let l = ltb-true q.file (length files) is in omega arith)
      (λ c found. none q.file c (let l = ltb-true q.file (length files) is in omega arith) found)
  clear_by none all along over q fault false is =
      let at = place_of_row over q fault (ltb-false q.file (length files) is) in
      let some = get_some included at.0 at.2 in
      clear_at all along at.0 some.0 some.1 q.card q.kind (part_row q at.0 some.0 fault at.1 some.1)

  pub all_clear : NonePasses count named.files many → many ≡ length files → Along (IsPartClear refused many) 0 included parts.cards → rest ≡ [] →
      (q : Refusal) → CardFault options source q → ⊥
  all_clear none all along over q fault = clear_by none all along over q fault (nat_lt q.file (length files)) refl

  -- THE ANSWER
  all_named : IsStop refused files many None → many ≡ length files
  all_named past = let w = many_within in omega arith

  by_parts : (r : Refusal) (o : Option Refusal) → o ≡ Some r → PartsAre refused many included parts.cards o → NonePasses count named.files many → many ≡ length files →
      IsRefusedEarly options source r
  by_parts r None is are none all = absurd (none_some r is)
  by_parts r (Some p) is are none all =
      in_included r none all (subst (λ x. IsPartRefused refused many included x) (some_once p r is) are)

  by_named : (r : Refusal) (o : Option Refusal) → or_else o parts.refused ≡ Some r → IsStop refused files many o → NonePasses count named.files many →
      IsRefusedEarly options source r
  by_named r None is stop none = by_parts r parts.refused is read.parts_are.are none (all_named stop)
  by_named r (Some p) is stop none = in_named r none (subst (λ x. IsRefusedAt refused files many x) (some_once p r is) stop)

  by_passing : (r : Refusal) (o : Option Refusal) → first_passing count 0 named.files ≡ o → or_else o (or_else named.refused parts.refused) ≡ Some r →
      IsRefusedEarly options source r
  by_passing r None is found = by_named r named.refused found read.is.stop (passing_none count 0 named.files is)
  by_passing r (Some p) is found = in_passing r (passing_some count 0 named.files r (is ∙ found))

  pub cards_refused : (r : Refusal) → first_of_cards named parts ≡ Some r → IsRefusedEarly options source r
  unfolding first_of_cards
  cards_refused r found = by_passing r (first_passing count 0 named.files) refl found

  none_of : (o p q : Option Refusal) → or_else o (or_else p q) ≡ None → (o ≡ None) × (p ≡ None) × (q ≡ None)
  none_of None None None is = (refl, refl, refl)
  none_of None None (Some x) is = absurd (none_some x (sym is))
  none_of None (Some x) q is = absurd (none_some x (sym is))
  none_of (Some x) p q is = absurd (none_some x (sym is))

  nothing_found : first_of_cards named parts ≡ None →
      (first_passing count 0 named.files ≡ None) × (named.refused ≡ None) × (parts.refused ≡ None)
  unfolding first_of_cards
  nothing_found is = none_of (first_passing count 0 named.files) named.refused parts.refused is

  pub none_passes : first_of_cards named parts ≡ None → NonePasses count named.files many
  none_passes is = passing_none count 0 named.files (nothing_found is).0

  pub all_are_read : first_of_cards named parts ≡ None → many ≡ length files
  all_are_read is = all_named (subst (λ o. IsStop refused files many o) (nothing_found is).1 read.is.stop)

  pub parts_along : first_of_cards named parts ≡ None → Along (IsPartClear refused many) 0 included parts.cards
  parts_along is = subst (λ o. PartsAre refused many included parts.cards o) (nothing_found is).2 read.parts_are.are
