-- The cards of included files, and the first row of them.
use Rattle.std.specs.Prelude.{◌≡◌, ◌<◌, ◌≤◌, ◌+◌, ℕ, Bool, true, false, ◌||◌, List, [], ◌∷◌, ◌++◌, length, map, take, drop, slice_get, Option, Some, None, is_some, if◌then◌else◌}
use Rattle.std.specs.Option.{option_to_list}
use Rattle.std.proofs.Common.{refl, sym, ap, ◌∙◌, subst, arith, get_or, length-take}
use Rattle.std.proofs.lemmas.Option.{slice_get_within}
use Rattle.std.proofs.lemmas.List.{take_more, take_all, drop_more, drop_all}
use Rattle.f_tree.specs.RefusalRows.{number_of}
use Rattle.f_tree.specs.Setting.{IsIn, first_in, later_in}
use Rattle.f_tree.specs.declared.refusals.Kind.{Kind}
use Rattle.f_tree.specs.declared.refusals.Kind.TheVariants.{EndOrIncludeInAnIncludedFile}
use Rattle.f_tree.specs.declared.refusals.Refusal.{Refusal}
use Rattle.fortran_text.specs.Cards.{cards_of}
use Rattle.fortran_text.specs.CharactersOfText.{is_end}
use Rattle.fortran_text.specs.FirstFault.{judged, too_long, FaultOfCards, IsFirst, IsSound}
use Rattle.fortran_text.specs.StatementsOfFile.{FileCards, file_cards}
use Rattle.fortran_text.specs.declared.source.Statement.{Statement}
use Rattle.cards.specs.Passes.{fault_from, first_of_included}
use Rattle.cards.proofs.FaultLemmas.{IsFound, found_first}
use Rattle.cards.proofs.FirstLemmas.{included_found}
use Rattle.source_acceptance.specs.SourceFiles.{included_name, statements_in}
use Rattle.source_acceptance.specs.Acceptance.{Counts, EndsOrIncludes, ends, includes}
use Rattle.file_parse.specs.ReadSoFar.{AreInOrder, no_more, one_more}
use Rattle.file_parse.proofs.FirstRowLemmas.{file_in_order}
use Rattle.source_reader.specs.Along.{Along, no_pair}
use Rattle.source_reader.specs.SourceReading.{PartFault, of_part, ends_or_includes}
use Rattle.source_reader.specs.PartReading.{ends_or_includes as is_ending, first_ending, counted_where, counted_by, PartIs, IsPartRead, IsPartClear, IsPartRefused, PartsAre, IsPartsRead, or_else, count_of}
use Rattle.source_reader.specs.declared.included.PartRead.{PartRead}
use Rattle.source_reader.specs.declared.included.PartsRead.{PartsRead}
use Rattle.source_reader.proofs.AlongLemmas.{along_push, along_at, get_front, get_within, get_last}

some_once : {A : Type 0} (a b : A) → Some a ≡ Some b → a ≡ b
some_once a b same = cc

none_some : {A : Type 0} (a : A) → None ≡ Some a → ⊥
none_some a same = absurd (cc)

opposite : (b : Bool) → b ≡ false → b ≡ true → ⊥
opposite b is_not is = let e : false ≡ true = sym is_not ∙ is in absurd (cc)

-- HOW MANY CARDS COUNT
found_in : (refused : Bool) (bytes : List ℕ) → IsFound (FaultOfCards refused bytes) (first_of_included (fault_from refused None 1 (judged bytes)) (too_long bytes))
found_in refused bytes =
    included_found refused bytes (fault_from refused None 1 (judged bytes)) (too_long bytes) (found_first refused (judged bytes) None 1) refl

where_none : {F : Type 0} (Sound : Type 0) (Found : Option F → Type 0) (n : ℕ) (o : Option F) → Found o → ((f : F) → Found (Some f) → Sound → ⊥) → Sound →
    counted_where n o ≡ n
where_none Sound Found n None found no_fault sound = refl
where_none Sound Found n (Some f) found no_fault sound = absurd (no_fault f found sound)

where_some : {F : Type 0} (Found : Option F → Type 0) (n : ℕ) (o : Option F) → Found o → (Found None → ⊥) → counted_where n o ≡ 0
where_some Found n None found some_fault = absurd (some_fault found)
where_some Found n (Some f) found some_fault = refl

cards_number : (file : ℕ) (bytes : List ℕ) → (file_cards file bytes).cards ≡ length (cards_of bytes)
unfolding file_cards
cards_number file bytes = refl

pub counted_sound : (refused : Bool) (file : ℕ) (bytes : List ℕ) → IsSound (FaultOfCards refused bytes) → counted_by refused bytes ≡ (file_cards file bytes).cards
unfolding counted_by
counted_sound refused file bytes sound =
    where_none (IsSound (FaultOfCards refused bytes)) (IsFound (FaultOfCards refused bytes)) (length (cards_of bytes)) (first_of_included (fault_from refused None 1 (judged bytes)) (too_long bytes))
    (found_in refused bytes) (λ f found is_sound. is_sound _ _ found.is) sound
    ∙ sym (cards_number file bytes)

pub counted_faulty : (refused : Bool) (bytes : List ℕ) (card : ℕ) (kind : Kind) → FaultOfCards refused bytes card kind → counted_by refused bytes ≡ 0
unfolding counted_by
counted_faulty refused bytes card kind fault =
    where_some (IsFound (FaultOfCards refused bytes)) (length (cards_of bytes)) (first_of_included (fault_from refused None 1 (judged bytes)) (too_long bytes))
    (found_in refused bytes) (λ none. none card kind fault)

-- The number is that by which the cards of included files count.
pub counts : (refused : Bool) → Counts refused (counted_by refused)
counts refused = record { sound = λ bytes sound. counted_sound refused 0 bytes sound; unsound = counted_faulty refused }

-- and each such number is that
either_way : {F : Type 0} (Found : Option F → Type 0) (P : Type 0) (o : Option F) → Found o → (Found None → P) → ((f : F) → Found (Some f) → P) → P
either_way Found P None found one other = one found
either_way Found P (Some f) found one other = other f found

pub one_count : (refused : Bool) (counted : List ℕ → ℕ) → Counts refused counted → (bytes : List ℕ) → counted bytes ≡ counted_by refused bytes
one_count refused counted are bytes =
    either_way (IsFound (FaultOfCards refused bytes)) (counted bytes ≡ counted_by refused bytes)
    (first_of_included (fault_from refused None 1 (judged bytes)) (too_long bytes)) (found_in refused bytes)
    (λ sound. are.sound bytes sound ∙ sym (counted_sound refused 0 bytes sound))
    (λ f found. are.unsound bytes _ _ found.is ∙ sym (counted_faulty refused bytes _ _ found.is))

-- END AND INCLUDE
ending_by : (b : Bool) (o : Option (List ℕ)) (s : Statement) → is_end s.text ≡ b → included_name s ≡ o → (b || is_some o) ≡ true → EndsOrIncludes s
ending_by true o s is name either = ends is
ending_by false (Some x) s is name either = includes x name
ending_by false None s is name either = absurd (cc)

ending_is : (s : Statement) → is_ending s ≡ true → EndsOrIncludes s
unfolding is_ending
ending_is s is = ending_by (is_end s.text) (included_name s) s refl refl is

or_true : (b : Bool) → (b || true) ≡ true
or_true true = refl
or_true false = refl

is_ending_one : (s : Statement) → EndsOrIncludes s → is_ending s ≡ true
unfolding is_ending
is_ending_one s (ends is) = ap (λ b. b || is_some (included_name s)) is
is_ending_one s (includes name is) = ap (λ (o : Option (List ℕ)). is_end s.text || is_some o) is ∙ or_true (is_end s.text)

abbrev row_at : ℕ → Statement → Refusal
row_at file s = record { file = file; card = s.card; kind = EndOrIncludeInAnIncludedFile }

ending_first : (file : ℕ) (s : Statement) (ss : List Statement) (b : Bool) → is_ending s ≡ b →
    first_ending file (s ∷ ss) ≡ (if b then Some (row_at file s) else first_ending file ss)
unfolding first_ending
ending_first file s ss b is = ap (λ c. if c then Some (row_at file s) else first_ending file ss) is

ending_none : (file : ℕ) → first_ending file [] ≡ None
unfolding first_ending
ending_none file = refl

-- in a loop
pub endings_here : (file : ℕ) (ss : List Statement) (i : ℕ) (s : Statement) → i < length ss → s ≡ get_or ss i s → is_ending s ≡ true →
    first_ending file ss ≡ first_ending file (drop i ss) → Some (row_at file s) ≡ first_ending file ss
endings_here file ss i s within is ending so_far =
    sym (so_far ∙ (ap (first_ending file) (drop_more ss i s within ∙ ap (λ t. t ∷ drop (i + 1) ss) (sym is)) ∙ ending_first file s (drop (i + 1) ss) true ending))

pub endings_go_on : (file : ℕ) (ss : List Statement) (i : ℕ) (s : Statement) → i < length ss → s ≡ get_or ss i s → is_ending s ≡ false →
    first_ending file ss ≡ first_ending file (drop i ss) → first_ending file ss ≡ first_ending file (drop (i + 1) ss)
endings_go_on file ss i s within is ending so_far =
    so_far ∙ (ap (first_ending file) (drop_more ss i s within ∙ ap (λ t. t ∷ drop (i + 1) ss) (sym is)) ∙ ending_first file s (drop (i + 1) ss) false ending)

pub endings_end : (file : ℕ) (ss : List Statement) (i : ℕ) → length ss ≤ i → first_ending file ss ≡ first_ending file (drop i ss) → None ≡ first_ending file ss
endings_end file ss i past so_far = sym (so_far ∙ (ap (first_ending file) (drop_all i ss past) ∙ ending_none file))

-- no statement is END or INCLUDE
nothing_in : {A : Type 0} (x : A) → IsIn x [] → ⊥
nothing_in x is = elim is [ ]

abbrev NoneEnds : List Statement → Type 0
NoneEnds ss = (q : Statement) → IsIn q ss → EndsOrIncludes q → ⊥

more_end : (s : Statement) (ss : List Statement) → is_ending s ≡ false → NoneEnds ss → NoneEnds (s ∷ ss)
more_end s ss is rest _ first_in ending = opposite (is_ending s) is (is_ending_one s ending)
more_end s ss is rest q (later_in among) ending = rest q among ending

none_by : (file : ℕ) (s : Statement) (ss : List Statement) (b : Bool) → is_ending s ≡ b → first_ending file (s ∷ ss) ≡ None →
    (first_ending file ss ≡ None → NoneEnds ss) → NoneEnds (s ∷ ss)
none_by file s ss true is none rest = absurd (none_some (row_at file s) (sym none ∙ ending_first file s ss true is))
none_by file s ss false is none rest = more_end s ss is (rest (sym (ending_first file s ss false is) ∙ none))

none_ends : (file : ℕ) (ss : List Statement) → first_ending file ss ≡ None → NoneEnds ss
none_ends file [] none = λ q among ending. nothing_in q among
none_ends file (s ∷ ss) none = none_by file s ss (is_ending s) refl none (none_ends file ss)

-- the first that is
record EndingAt (file : ℕ) (ss : List Statement) (r : Refusal) : Type 0 where
  one : Statement
  among : IsIn one ss
  ending : EndsOrIncludes one
  is : row_at file one ≡ r
  least : (q : Statement) → IsIn q ss → EndsOrIncludes q → one.card ≤ q.card

low_in : (file before : ℕ) (ss : List Statement) → AreInOrder file before ss → (q : Statement) → IsIn q ss → before < q.card
low_in file before _ (no_more _) q among = absurd (nothing_in q among)
low_in file before _ (one_more _ s ss of_file higher more) _ first_in = higher
low_in file before _ (one_more _ s ss of_file higher more) q (later_in among) = let low = low_in file s.card ss more q among in omega arith

least_here : (file : ℕ) (s : Statement) (ss : List Statement) → AreInOrder file s.card ss → (q : Statement) → IsIn q (s ∷ ss) → EndsOrIncludes q → s.card ≤ q.card
least_here file s ss order _ first_in ending = omega arith
least_here file s ss order q (later_in among) ending = let low = low_in file s.card ss order q among in omega arith

least_behind : (s : Statement) (ss : List Statement) (n : ℕ) → is_ending s ≡ false → ((q : Statement) → IsIn q ss → EndsOrIncludes q → n ≤ q.card) →
    (q : Statement) → IsIn q (s ∷ ss) → EndsOrIncludes q → n ≤ q.card
least_behind s ss n is rest _ first_in ending = absurd (opposite (is_ending s) is (is_ending_one s ending))
least_behind s ss n is rest q (later_in among) ending = rest q among ending

ending_by_first : (file : ℕ) (s : Statement) (ss : List Statement) (r : Refusal) (b : Bool) → is_ending s ≡ b → first_ending file (s ∷ ss) ≡ Some r →
    AreInOrder file s.card ss → (first_ending file ss ≡ Some r → EndingAt file ss r) → EndingAt file (s ∷ ss) r
ending_by_first file s ss r true is found order rest = record {
  one = s;
  among = first_in;
  ending = ending_is s is;
  is = some_once (row_at file s) r (sym (ending_first file s ss true is) ∙ found);
  least = least_here file s ss order;
}
ending_by_first file s ss r false is found order rest =
    let behind : EndingAt file ss r = rest (sym (ending_first file s ss false is) ∙ found) in
    record {
      one = behind.one;
      among = later_in behind.among;
      ending = behind.ending;
      is = behind.is;
      least = least_behind s ss behind.one.card is behind.least;
    }

ending_at : (file before : ℕ) (ss : List Statement) (r : Refusal) → AreInOrder file before ss → first_ending file ss ≡ Some r → EndingAt file ss r
ending_at file before _ r (no_more _) found = absurd (none_some r (sym (ending_none file) ∙ found))
ending_at file before _ r (one_more _ s ss of_file higher more) found =
    ending_by_first file s ss r (is_ending s) refl found more (ending_at file s.card ss r more)

-- THE ROWS OF AN INCLUDED FILE
statements_are : (file : ℕ) (bytes : List ℕ) → statements_in file bytes ≡ (file_cards file bytes).statements
unfolding statements_in
statements_are file bytes = refl

module _ (refused : Bool) (file : ℕ) (bytes : List ℕ) where
  part_clear : IsSound (FaultOfCards refused bytes) → first_ending file (statements_in file bytes) ≡ None → IsSound (PartFault refused file bytes)
  part_clear sound none card kind (of_part fault) = sound card kind fault
  part_clear sound none card kind (ends_or_includes s also among ending at row) = none_ends file (statements_in file bytes) none s among ending

  part_faulty : (r : Refusal) → IsFirst (FaultOfCards refused bytes) r.card r.kind → IsFirst (PartFault refused file bytes) r.card r.kind
  part_faulty r first = record { is = of_part first.is; least = low; least_number = low_number }
    where
      low : (c : ℕ) (k : Kind) → PartFault refused file bytes c k → r.card ≤ c
      low c k (of_part fault) = first.least c k fault
      low c k (ends_or_includes s sound among ending at row) = absurd (sound r.card r.kind first.is)

      low_number : (c : ℕ) (k : Kind) → PartFault refused file bytes c k → c ≡ r.card → number_of r.kind ≤ number_of k
      low_number c k (of_part fault) same = first.least_number c k fault same
      low_number c k (ends_or_includes s sound among ending at row) same = absurd (sound r.card r.kind first.is)

  part_ending : (r : Refusal) → IsSound (FaultOfCards refused bytes) → first_ending file (statements_in file bytes) ≡ Some r →
      (r.file ≡ file) × IsFirst (PartFault refused file bytes) r.card r.kind
  part_ending r sound found = answer (ending_at file 0 (statements_in file bytes) r
      (subst (λ l. AreInOrder file 0 l) (sym (statements_are file bytes)) (file_in_order file bytes)) found)
    where
      answer : EndingAt file (statements_in file bytes) r → (r.file ≡ file) × IsFirst (PartFault refused file bytes) r.card r.kind
      answer at =
          let files : file ≡ r.file = ap (λ (x : Refusal). x.file) at.is in
          let cards : at.one.card ≡ r.card = ap (λ (x : Refusal). x.card) at.is in
          let kinds : EndOrIncludeInAnIncludedFile ≡ r.kind = ap (λ (x : Refusal). x.kind) at.is in (
            sym files,
            record {
              is = ends_or_includes at.one sound at.among at.ending (sym cards) (sym kinds);
              least = λ c k fault. low at cards c k fault;
              least_number = λ c k fault same. low_number kinds c k fault;
            },
          )
        where
          low : (at : EndingAt file (statements_in file bytes) r) → at.one.card ≡ r.card → (c : ℕ) (k : Kind) → PartFault refused file bytes c k → r.card ≤ c
          low at cards c k (of_part fault) = absurd (sound c k fault)
          low at cards c k (ends_or_includes s also among ending on row) = let l = at.least s among ending in omega arith

          low_number : EndOrIncludeInAnIncludedFile ≡ r.kind → (c : ℕ) (k : Kind) → PartFault refused file bytes c k → number_of r.kind ≤ number_of k
          low_number kinds c k (of_part fault) = absurd (sound c k fault)
          low_number kinds c k (ends_or_includes s also among ending on row) =
              let e : number_of k ≡ number_of r.kind = ap number_of row ∙ ap number_of kinds in omega arith

-- INCLUDED FILES IN TURN
count_is : (refused : Bool) (file : ℕ) (bytes : List ℕ) (cards : Option FileCards) (r : Option Refusal) → PartIs refused file bytes cards r →
    count_of cards ≡ counted_by refused bytes
count_is refused file bytes (Some cards) r is = ap (λ (f : FileCards). f.cards) is.1 ∙ sym (counted_sound refused file bytes is.0)
count_is refused file bytes None (Some r) is = sym (counted_faulty refused bytes r.card r.kind is.1.is)
count_is refused file bytes None None is = absurd is

map_push : {A B : Type 0} (f : A → B) (xs : List A) (x : A) → map f (xs ++ x ∷ []) ≡ map f xs ++ f x ∷ []
map_push f [] x = refl
map_push f (y ∷ xs) x = ap (λ l. f y ∷ l) (map_push f xs x)

sound_before : (refused : Bool) (first : ℕ) (included : List (List ℕ)) (cards : List FileCards) → Along (IsPartClear refused first) 0 included cards →
    (j : ℕ) (b : List ℕ) → slice_get included j ≡ Some b → IsSound (PartFault refused (first + j) b)
sound_before refused first included cards along j b is =
    let found = along_at (IsPartClear refused first) 0 included cards along j b is in
    subst (λ n. IsSound (PartFault refused (first + n) b)) (let e : 0 + j ≡ j = omega arith in e) found.pair.sound

at_number : (refused : Bool) (file other : ℕ) (bytes : List ℕ) (r : Refusal) → file ≡ other → (r.file ≡ file) × IsFirst (PartFault refused file bytes) r.card r.kind →
    (r.file ≡ other) × IsFirst (PartFault refused other bytes) r.card r.kind
at_number refused file other bytes r same is = subst (λ n. (r.file ≡ n) × IsFirst (PartFault refused n bytes) r.card r.kind) same is

refused_last : (refused : Bool) (first : ℕ) (included : List (List ℕ)) (bytes : List ℕ) (cards : List FileCards) (r : Refusal) →
    Along (IsPartClear refused first) 0 included cards → (r.file ≡ first + length included) × IsFirst (PartFault refused (first + length included) bytes) r.card r.kind →
    IsPartRefused refused first (included ++ bytes ∷ []) r
refused_last refused first included bytes cards r along is = record {
  place = length included;
  bytes = bytes;
  is = get_last included bytes;
  in_file = is.0;
  least = is.1;
  before = λ j b low found. sound_before refused first included cards along j b (sym (get_within included (bytes ∷ []) j low) ∙ found);
}

refused_front : (refused : Bool) (first : ℕ) (included : List (List ℕ)) (bytes : List ℕ) (r : Refusal) → IsPartRefused refused first included r →
    IsPartRefused refused first (included ++ bytes ∷ []) r
refused_front refused first included bytes r is = record {
  place = is.place;
  bytes = is.bytes;
  is = get_front included (bytes ∷ []) is.place is.bytes is.is;
  in_file = is.in_file;
  least = is.least;
  before = λ j b low found. is.before j b low (sym (get_within included (bytes ∷ []) j (omega (arith, slice_get_within included is.place is.bytes is.is))) ∙ found);
}

parts_more : (refused : Bool) (first file : ℕ) (included : List (List ℕ)) (bytes : List ℕ) (cards : List FileCards) (old : Option Refusal) (part : Option FileCards)
    (row : Option Refusal) → file ≡ first + length included → PartsAre refused first included cards old → PartIs refused file bytes part row →
    PartsAre refused first (included ++ bytes ∷ []) (cards ++ option_to_list part) (or_else old row)
parts_more refused first file included bytes cards (Some r) part row same are is = refused_front refused first included bytes r are
parts_more refused first file included bytes cards None (Some c) None same are is =
    let none : first_ending file (statements_in file bytes) ≡ None =
    ap (λ l. first_ending file l) (statements_are file bytes) ∙ (ap (λ (f : FileCards). first_ending file f.statements) (sym is.1) ∙ sym is.2) in
    along_push (IsPartClear refused first) 0 included cards bytes c are
    (subst (λ n. IsPartClear refused first n bytes c) (let e : length included ≡ 0 + length included = omega arith in e)
    (record {
      sound = subst (λ n. IsSound (PartFault refused n bytes)) same (part_clear refused file bytes is.0 none);
      cards_are = is.1 ∙ ap (λ n. file_cards n bytes) same;
    }))
parts_more refused first file included bytes cards None (Some c) (Some r) same are is =
    let found : first_ending file (statements_in file bytes) ≡ Some r =
    ap (λ l. first_ending file l) (statements_are file bytes) ∙ (ap (λ (f : FileCards). first_ending file f.statements) (sym is.1) ∙ sym is.2) in
    refused_last refused first included bytes cards r are (at_number refused file (first + length included) bytes r same (part_ending refused file bytes r is.0 found))
parts_more refused first file included bytes cards None None (Some r) same are is =
    refused_last refused first included bytes cards r are
    (at_number refused file (first + length included) bytes r same (is.0, part_faulty refused file bytes r is.1))
parts_more refused first file included bytes cards None None None same are is = absurd is

pub parts_start : (refused : Bool) (first : ℕ) (counts : List ℕ) (cards : List FileCards) → counts ≡ [] → cards ≡ [] →
    IsPartsRead refused first [] (record { counts = counts; cards = cards; refused = None })
parts_start refused first numbers cards no_counts no_cards = record {
  counts = no_counts;
  are = subst (λ l. Along (IsPartClear refused first) 0 [] l) (sym no_cards) (no_pair 0);
}

pub parts_go_on : (refused : Bool) (first file : ℕ) (included : List (List ℕ)) (i : ℕ) (bytes : List ℕ) (parts more : PartsRead) (part : PartRead) →
    i < length included → bytes ≡ get_or included i bytes → file ≡ first + i → IsPartsRead refused first (take i included) parts →
    IsPartRead refused file bytes part →
    (more.counts ≡ parts.counts ++ count_of part.cards ∷ []) × (more.cards ≡ parts.cards ++ option_to_list part.cards) × (more.refused ≡ or_else parts.refused part.refused) →
    IsPartsRead refused first (take (i + 1) included) more
parts_go_on refused first file included i bytes parts more part within is same so_far read step =
    let front : List (List ℕ) = take i included in
    let many : length front ≡ i = omega (arith, length-take i included) in
    subst (λ l. IsPartsRead refused first l more) (sym (take_more included i bytes within ∙ ap (λ b. front ++ b ∷ []) (sym is)))
    (record {
      counts = step.0 ∙ (ap (λ l. l ++ count_of part.cards ∷ []) so_far.counts
          ∙ (ap (λ n. map (counted_by refused) front ++ n ∷ []) (count_is refused file bytes part.cards part.refused read)
          ∙ sym (map_push (counted_by refused) front bytes)));
      are = subst (λ l. PartsAre refused first (front ++ bytes ∷ []) l more.refused) (sym step.1)
          (subst (λ o. PartsAre refused first (front ++ bytes ∷ []) (parts.cards ++ option_to_list part.cards) o) (sym step.2)
          (parts_more refused first file front bytes parts.cards parts.refused part.cards part.refused (same ∙ ap (λ n. first + n) (sym many)) so_far.are read));
    })

pub parts_end : (refused : Bool) (first : ℕ) (included : List (List ℕ)) (i : ℕ) (parts : PartsRead) → length included ≤ i →
    IsPartsRead refused first (take i included) parts → IsPartsRead refused first included parts
parts_end refused first included i parts past so_far = subst (λ l. IsPartsRead refused first l parts) (take_all i included past) so_far
