-- The set of a source, or the first refusal of its statements and its nests, where the cards have none.
use Rattle.std.specs.Prelude.{◌≡◌, ◌<◌, ◌≤◌, ◌+◌, ℕ, Bool, true, false, List, [], ◌++◌, length, slice_get, Some, None, Result, Ok, Err}
use Rattle.std.proofs.Common.{refl, sym, ap, ◌∙◌, subst, arith}
use Rattle.std.proofs.lemmas.Option.{slice_get_within}
use Rattle.std.proofs.lemmas.List.{append-nil, take_all}
use Rattle.f_tree.specs.RefusalRows.{IsNotAfter}
use Rattle.f_tree.specs.Setting.{IsIn}
use Rattle.f_tree.specs.declared.names.Options.{Options}
use Rattle.f_tree.specs.declared.refusals.Fail.{Fail}
use Rattle.f_tree.specs.declared.refusals.Fail.TheVariants as fail
use Rattle.f_tree.specs.declared.refusals.Refusal.{Refusal}
use Rattle.f_tree.specs.declared.units.File.{File}
use Rattle.f_tree.specs.declared.units.FileSet.{FileSet}
use Rattle.f_tree.specs.declared.units.Part.{Part}
use Rattle.fortran_text.specs.StatementsOfFile.{FileCards, file_cards}
use Rattle.fortran_text.specs.declared.source.Statement.{Statement}
use Rattle.fortran_grammar.specs.SyntaxRows.{FaultOfStatements}
use Rattle.file_parse.specs.FileTrees.{IsFirstRow, AreStatementsOf}
use Rattle.file_parse.specs.FirstRefusals.{IsFirstAmong}
use Rattle.file_parse.specs.ReadSoFar.{AreInOrder}
use Rattle.file_parse.proofs.FirstRowLemmas.{file_in_order, card_of_row}
use Rattle.source_acceptance.specs.SourceFiles.{Included, Source, statements_in, names_of, mentioned_from, first_mentions, IsWhole, SpellsSource}
use Rattle.source_acceptance.specs.Acceptance.{Phase, Cards, Syntax, Nesting, place_of, HasIncluded, SyntaxFault, of_file, of_included, tree_faults, Fault, of_syntax, of_trees}
use Rattle.source_reader.specs.Along.{Along}
use Rattle.source_reader.specs.PartReading.{IsPartClear}
use Rattle.source_reader.specs.SourceReading.{IsFileRead, entries}
use Rattle.source_reader.specs.Sources.{source_of, IsClear, IsSet, IsSourceOf, IsRefusedEarly, IsSourceRead, first_of_cards, MakeSet, rows_of_nests, TreesStop, at_file, at_part, at_nest, AreTreesOf}
use Rattle.source_reader.specs.Trees.{IsTreeOf, IsTreeStop, PartsOf, IsPartStop}
use Rattle.source_reader.specs.declared.included.PartsRead.{PartsRead}
use Rattle.source_reader.specs.declared.named.NamedFiles.{NamedFiles}
use Rattle.source_reader.proofs.AlongLemmas.{along_at, along_back, get_some}
use Rattle.source_reader.proofs.CardTheorem.{Read, cards_refused, all_clear, clear_cards, none_passes, all_are_read, parts_along}
use Rattle.source_reader.proofs.SourceFacts.{first_by_file, entry_at, entries_length, names_are, no_rest, of_cards, spell_files, spell_parts, map_parts, one_set}
use Rattle.source_reader.proofs.TreeLemmas.{parts_clear}

some_once : {A : Type 0} (a b : A) → Some a ≡ Some b → a ≡ b
some_once a b same = cc

nothing_in : {A : Type 0} (x : A) → IsIn x [] → ⊥
nothing_in x is = elim is [ ]

-- PHASES
no_tree : (options : Options) (set : FileSet) (q : Refusal) → IsIn q (tree_faults Syntax options set) → ⊥
unfolding tree_faults
no_tree options set q among = nothing_in q among

nests_are : (options : Options) (set : FileSet) → tree_faults Nesting options set ≡ rows_of_nests set
unfolding tree_faults
nests_are options set = refl

syntax_row : (options : Options) (source : Source) (q : Refusal) → Fault options source Syntax q → SyntaxFault source q
syntax_row options source q (of_syntax _ fault) = fault
syntax_row options source q (of_trees _ set _ spells among) = absurd (no_tree options set q among)

nest_row : (options : Options) (source : Source) (set : FileSet) (q : Refusal) → SpellsSource source set → Fault options source Nesting q → IsIn q (rows_of_nests set)
nest_row options source set q spells (of_trees _ other _ also among) =
    subst (λ (s : FileSet). IsIn q (rows_of_nests s)) (one_set source other set also spells) (subst (λ l. IsIn q l) (nests_are options other) among)

statements_early : place_of Syntax ≤ 2
unfolding place_of
statements_early = omega arith

nests_early : place_of Nesting ≤ 2
unfolding place_of
nests_early = omega arith

cards_alone : (earlier : Phase) → place_of earlier < place_of Syntax → earlier ≡ Cards
unfolding place_of
cards_alone Cards low = refl
cards_alone earlier low = absurd (omega arith)

before_syntax : (options : Options) (source : Source) → IsClear options source Cards → (earlier : Phase) (q : Refusal) → place_of earlier < place_of Syntax →
    Fault options source earlier q → ⊥
before_syntax options source clear earlier q low fault = clear q (subst (λ p. Fault options source p q) (cards_alone earlier low) fault)

data EarlyPhase (earlier : Phase) : Type 0 where
  is_cards : earlier ≡ Cards → EarlyPhase earlier
  is_syntax : earlier ≡ Syntax → EarlyPhase earlier

two_alone : (earlier : Phase) → place_of earlier < place_of Nesting → EarlyPhase earlier
unfolding place_of
two_alone Cards low = is_cards refl
two_alone Syntax low = is_syntax refl
two_alone earlier low = absurd (omega arith)

early_clear : (options : Options) (source : Source) → IsClear options source Cards → IsClear options source Syntax → (earlier : Phase) (q : Refusal) →
    EarlyPhase earlier → Fault options source earlier q → ⊥
early_clear options source cards statements earlier q (is_cards is) fault = cards q (subst (λ p. Fault options source p q) is fault)
early_clear options source cards statements earlier q (is_syntax is) fault = statements q (subst (λ p. Fault options source p q) is fault)

before_nests : (options : Options) (source : Source) → IsClear options source Cards → IsClear options source Syntax → (earlier : Phase) (q : Refusal) →
    place_of earlier < place_of Nesting → Fault options source earlier q → ⊥
before_nests options source cards statements earlier q low fault = early_clear options source cards statements earlier q (two_alone earlier low) fault

-- A ROW OF STATEMENTS
row_file : (whole : Bool) (file : ℕ) (bytes : List ℕ) (sources : List Statement) (r : Refusal) → AreStatementsOf file bytes sources →
    FaultOfStatements whole sources r.file r.card r.kind → r.file ≡ file
row_file whole file bytes sources r are fault =
    fault.in_file
    ∙ (card_of_row whole file whole 0 sources fault.begins fault.source (subst (λ l. AreInOrder file 0 l) (sym are) (file_in_order file bytes)) fault.stands).0

statements_are : (file : ℕ) (bytes : List ℕ) → statements_in file bytes ≡ (file_cards file bytes).statements
unfolding statements_in
statements_are file bytes = refl

module _ (options : Options) (files included : List (List ℕ)) (named : NamedFiles) (parts : PartsRead) (read : Read options files included named parts)
    (none : first_of_cards named parts ≡ None) where
  abbrev refused : Bool
  refused = options.long_cards

  abbrev many : ℕ
  many = length named.files

  abbrev source : Source
  source = source_of files named.names included

  all : many ≡ length files
  all = all_are_read options files included named parts [] read none

  whole_source : record { files = files; included = entries named.names included ++ [] } ≡ source
  whole_source = λ i. record { files = files; included = append-nil (entries named.names included) i }

  cards_clear : IsClear options source Cards
  cards_clear =
      subst (λ s. IsClear options s Cards) whole_source
      (clear_cards options (record { files = files; included = entries named.names included ++ [] })
      (all_clear options files included named parts [] read (none_passes options files included named parts [] read none) all
      (parts_along options files included named parts [] read none) refl))

  own_files : Along (IsFileRead refused) 0 files named.files
  own_files = subst (λ l. Along (IsFileRead refused) 0 l named.files) (take_all many files (omega (arith, all))) read.is.read

  own_parts : Along (IsPartClear refused many) 0 included parts.cards
  own_parts = parts_along options files included named parts [] read none

  number : (j : ℕ) → 0 + j ≡ j
  number j = omega arith

  whole : IsWhole source
  whole = record {
    included = names_are named.names included read.same
        ∙ (read.is.names ∙ ap (λ l. first_mentions [] (mentioned_from 0 l)) (take_all many files (omega (arith, all))));
  }

  -- the statements of a named file, and of an included one
  file_statements : (j : ℕ) (bytes : List ℕ) (cards : FileCards) → cards ≡ file_cards (0 + j) bytes → cards.statements ≡ statements_in j bytes
  file_statements j bytes cards is = of_cards j bytes cards (is ∙ ap (λ n. file_cards n bytes) (number j))

  part_statements : (j : ℕ) (bytes : List ℕ) (cards : FileCards) → cards ≡ file_cards (many + (0 + j)) bytes → cards.statements ≡ statements_in (length files + j) bytes
  part_statements j bytes cards is =
      of_cards (length files + j) bytes cards (is ∙ ap (λ n. file_cards n bytes) (let a = all in let e : many + (0 + j) ≡ length files + j = omega arith in e))

  -- what a row of the statements is
  file_row : (q : Refusal) → SyntaxFault source q → (j : ℕ) (c : FileCards) → q.file ≡ j → slice_get named.files j ≡ Some c →
      FaultOfStatements true c.statements q.file q.card q.kind
  file_row q (of_file other has fault) j c same is =
      let from = along_back (IsFileRead refused) 0 files named.files own_files j c is in
      let e : other ≡ from.origin = some_once other from.origin (sym has ∙ (ap (slice_get files) same ∙ from.is)) in
      subst (λ l. FaultOfStatements true l q.file q.card q.kind)
      (ap (λ n. statements_in n other) same ∙ (ap (λ b. statements_in j b) e ∙ sym (file_statements j from.origin c from.pair.cards_are))) fault
  file_row q (of_included other has fault) j c same is =
      let low = slice_get_within named.files j c is in let at = has.file_is in let a = all in absurd (omega arith)

  entry_bytes : (j : ℕ) (bytes : List ℕ) (file : ℕ) (other : List ℕ) → HasIncluded source file other → file ≡ length files + j → slice_get included j ≡ Some bytes →
      other ≡ bytes
  entry_bytes j bytes file other has same is =
      let places : has.place ≡ j = (let at = has.file_is in omega arith) in
      let e = entry_at named.names included j bytes read.same is in
      let entries_are : has.entry ≡ e.entry = some_once has.entry e.entry (sym has.is ∙ (ap (slice_get (entries named.names included)) places ∙ e.is)) in
      has.bytes_are ∙ (ap (λ (i : Included). i.bytes) entries_are ∙ sym e.bytes_are)

  part_row : (q : Refusal) → SyntaxFault source q → (j : ℕ) (c : FileCards) → q.file ≡ length files + j → slice_get parts.cards j ≡ Some c →
      FaultOfStatements false c.statements q.file q.card q.kind
  part_row q (of_file other has fault) j c same is = let low = slice_get_within files q.file other has in absurd (omega arith)
  part_row q (of_included other has fault) j c same is =
      let from = along_back (IsPartClear refused many) 0 included parts.cards own_parts j c is in
      let e : other ≡ from.origin = entry_bytes j from.origin q.file other has same from.is in
      subst (λ l. FaultOfStatements false l q.file q.card q.kind)
      (ap (λ n. statements_in n other) same ∙ (ap (λ b. statements_in (length files + j) b) e ∙ sym (part_statements j from.origin c from.pair.cards_are))) fault

  -- where it stands
  data Stands (q : Refusal) : Type 0 where
    in_file : (j : ℕ) (c : FileCards) → q.file ≡ j → slice_get named.files j ≡ Some c → Stands q
    in_part : (j : ℕ) (c : FileCards) → q.file ≡ length files + j → slice_get parts.cards j ≡ Some c → Stands q

  stands : (q : Refusal) → SyntaxFault source q → Stands q
  stands q (of_file other has fault) =
      let found = along_at (IsFileRead refused) 0 files named.files own_files q.file other has in in_file q.file found.other refl found.is
  stands q (of_included other has fault) =
      let low = slice_get_within (entries named.names included) has.place has.entry has.is in
      let e = entries_length named.names included read.same in
      let some = get_some included has.place (omega arith) in
      let found = along_at (IsPartClear refused many) 0 included parts.cards own_parts has.place some.0 some.1 in
      in_part has.place found.other has.file_is found.is

  -- THE FIRST ROW OF STATEMENTS
  syntax_first : (r : Refusal) → SyntaxFault source r → ((q : Refusal) → SyntaxFault source q → q.file < r.file → ⊥) →
      ((q : Refusal) → SyntaxFault source q → q.file ≡ r.file → IsNotAfter r q) → IsRefusedEarly options source r
  syntax_first r fault low same = record {
    first = record {
      phase = Syntax;
      read = before_syntax options source cards_clear;
      holds = of_syntax r fault;
      least = λ q f. first_by_file r q (low q (syntax_row options source q f)) (same q (syntax_row options source q f));
    };
    early = statements_early;
  }

  file_refused : (r : Refusal) → IsTreeStop named.files r → IsRefusedEarly options source r
  file_refused r stop =
      let from = along_back (IsFileRead refused) 0 files named.files own_files stop.place stop.cards stop.is in
      let are : AreStatementsOf stop.place from.origin stop.cards.statements =
      file_statements stop.place from.origin stop.cards from.pair.cards_are ∙ statements_are stop.place from.origin in
      let first : IsFirstRow true stop.cards.statements r = stop.refused stop.place from.origin are in
      let file : r.file ≡ stop.place = row_file true stop.place from.origin stop.cards.statements r are first.holds in
      syntax_first r
      (of_file from.origin (ap (slice_get files) file ∙ from.is)
      (subst (λ l. FaultOfStatements true l r.file r.card r.kind)
      (file_statements stop.place from.origin stop.cards from.pair.cards_are ∙ ap (λ n. statements_in n from.origin) (sym file)) first.holds))
      (λ q fault less. earlier q fault (omega arith) (stands q fault))
      (λ q fault same. first.least q (file_row q fault stop.place stop.cards (same ∙ file) stop.is))
    where
      earlier : (q : Refusal) → SyntaxFault source q → q.file < stop.place → Stands q → ⊥
      earlier q fault less (in_file j c same is) = stop.before j c (omega arith) is q (file_row q fault j c same is)
      earlier q fault less (in_part j c same is) =
          let low = slice_get_within named.files stop.place stop.cards stop.is in let a = all in absurd (omega arith)

  part_refused : (trees : List File) → Along IsTreeOf 0 named.files trees → (r : Refusal) → IsPartStop parts.cards r → IsRefusedEarly options source r
  part_refused trees along r stop =
      let from = along_back (IsPartClear refused many) 0 included parts.cards own_parts stop.place stop.cards stop.is in
      let n : ℕ = length files + stop.place in
      let same_statements : stop.cards.statements ≡ statements_in n from.origin = part_statements stop.place from.origin stop.cards from.pair.cards_are in
      let are : AreStatementsOf n from.origin stop.cards.statements = same_statements ∙ statements_are n from.origin in
      let first : IsFirstRow false stop.cards.statements r = stop.refused n from.origin are in
      let file : r.file ≡ n = row_file false n from.origin stop.cards.statements r are first.holds in
      let e = entry_at named.names included stop.place from.origin read.same from.is in
      syntax_first r
      (of_included from.origin (record { place = stop.place; entry = e.entry; is = e.is; file_is = file; bytes_are = e.bytes_are })
      (subst (λ l. FaultOfStatements false l r.file r.card r.kind) (same_statements ∙ ap (λ m. statements_in m from.origin) (sym file)) first.holds))
      (λ q fault less. earlier q fault (omega arith) (stands q fault))
      (λ q fault same. first.least q (part_row q fault stop.place stop.cards (same ∙ file) stop.is))
    where
      earlier : (q : Refusal) → SyntaxFault source q → q.file < length files + stop.place → Stands q → ⊥
      earlier q fault less (in_file j c same is) =
          (along_at IsTreeOf 0 named.files trees along j c is).pair.clear q (file_row q fault j c same is)
      earlier q fault less (in_part j c same is) = stop.before j c (omega arith) is q (part_row q fault j c same is)

  -- NO ROW OF STATEMENTS
  statements_clear : (trees : List File) (own : List Part) → Along IsTreeOf 0 named.files trees → PartsOf named.names parts.cards own → IsClear options source Syntax
  statements_clear trees own along are q f = by (syntax_row options source q f) (stands q (syntax_row options source q f))
    where
      by : SyntaxFault source q → Stands q → ⊥
      by fault (in_file j c same is) = (along_at IsTreeOf 0 named.files trees along j c is).pair.clear q (file_row q fault j c same is)
      by fault (in_part j c same is) = parts_clear named.names parts.cards own are j c is q (part_row q fault j c same is)

  -- THE SET
  spells : (set : FileSet) → MakeSet named.files named.names parts.cards set → SpellsSource source set
  spells set made = record {
    trees = made.trees;
    parts = made.own;
    files_spell = spell_files refused 0 files named.files made.trees own_files made.along;
    parts_spell = spell_parts refused many 0 (length files) named.names included parts.cards made.own (let a = all in omega arith) made.parts_are own_parts;
    set_is = made.set_is ∙ map_parts made.own made.trees;
  }

  nest_refused : (r : Refusal) (set : FileSet) → MakeSet named.files named.names parts.cards set → IsFirstAmong (rows_of_nests set) (Some r) →
      IsRefusedEarly options source r
  nest_refused r set made first = record {
    first = record {
      phase = Nesting;
      read = before_nests options source cards_clear (statements_clear made.trees made.own made.along made.parts_are);
      holds = of_trees Nesting set r (spells set made) (subst (λ l. IsIn r l) (sym (nests_are options set)) first.0);
      least = λ q f. first.1 q (nest_row options source set q (spells set made) f);
    };
    early = nests_early;
  }

  set_is : (set : FileSet) → MakeSet named.files named.names parts.cards set → rows_of_nests set ≡ [] → IsSet options source set
  set_is set made flat = record {
    whole = whole;
    spells = spells set made;
    cards = cards_clear;
    statements = statements_clear made.trees made.own made.along made.parts_are;
    nests = λ q f. nothing_in q (subst (λ l. IsIn q l) flat (nest_row options source set q (spells set made) f));
  }

  stopped : (r : Refusal) → TreesStop named.files named.names parts.cards r → IsRefusedEarly options source r
  stopped r (at_file stop) = file_refused r stop
  stopped r (at_part trees along stop) = part_refused trees along r stop
  stopped r (at_nest set made first) = nest_refused r set made first

  -- a source of these files that is whole is that one
  source_is : (other : Source) → IsSourceOf files (entries named.names included) other → source ≡ other
  source_is other of = sym (λ i. record { files = of.files_are i; included = rest_less i })
    where
      rest_less : other.included ≡ entries named.names included
      rest_less =
          of.included ∙ (ap (λ l. entries named.names included ++ l)
          (no_rest (entries named.names included) of.rest named.names (entries_length named.names included read.same ∙ sym read.same)
          (ap names_of (sym of.included) ∙ (of.whole.included ∙ (ap (λ l. first_mentions [] (mentioned_from 0 l)) of.files_are
          ∙ (ap (λ l. first_mentions [] (mentioned_from 0 l)) (sym (take_all many files (let a = all in omega arith))) ∙ sym read.is.names)))))
          ∙ append-nil (entries named.names included))

  pub trees_read : (result : Result FileSet Fail) → AreTreesOf named.files named.names parts.cards result → IsSourceRead options files named.names included result
  trees_read (Ok set) made = set_is set made.0 made.1
  trees_read (Err (fail.Refused r)) stop = λ other of. subst (λ s. IsRefusedEarly options s r) (source_is other of) (stopped r stop)
  trees_read (Err fail.NoMemory) stop = tt

-- WHERE THE CARDS ARE REFUSED
pub cards_stop : (options : Options) (files included : List (List ℕ)) (named : NamedFiles) (parts : PartsRead) → Read options files included named parts → (r : Refusal) →
    first_of_cards named parts ≡ Some r → IsSourceRead options files named.names included (Err (fail.Refused r))
cards_stop options files included named parts read r found = λ other of.
    subst (λ s. IsRefusedEarly options s r) (sym (λ i. record { files = of.files_are i; included = of.included i }))
    (cards_refused options files included named parts of.rest read r found)
