-- What is read of a source, the fronts of its files, has its first refusal; and where it is accepted it is the source.
use Rattle.std.specs.Prelude.{◌≡◌, ℕ, zero, suc, ◌+◌, ◌-◌, ◌<◌, ◌≤◌, nat_lt, Bool, true, false, List, [], ◌∷◌, ◌++◌, length, take, drop, map, bytes_eq, slice_get, Option, Some, None, option_map, if◌then◌else◌}
use Rattle.std.proofs.Common.{refl, sym, ap, subst, ◌∙◌, arith, append_assoc}
use Rattle.std.proofs.Math.Seq.{take-append_seam, take-append-add}
use Rattle.std.proofs.lemmas.Bool.{ltb-true, ltb-false}
use Rattle.std.proofs.lemmas.List.{take-append-drop}
use Rattle.std.proofs.lemmas.Option.{slice_get-map, slice_get_within}
use Rattle.std.proofs.lemmas.Slice.Eq.{bytes_eq-Decides}
use Rattle.refusal_order.specs.f_tree.declared.names.Options.{Options}
use Rattle.refusal_order.specs.f_tree.declared.refusals.Kind.{Kind}
use Rattle.refusal_order.specs.f_tree.declared.refusals.Refusal.{Refusal}
use Rattle.refusal_order.specs.f_tree.declared.units.FileSet.{FileSet}
use Rattle.refusal_order.specs.f_tree.RefusalRows.{IsNotAfter}
use Rattle.refusal_order.specs.f_tree.Setting.{IsIn, first_in, later_in}
use Rattle.refusal_order.specs.fortran_text.FirstFault.{most_bytes, FaultOfFile, of_cards as cards_of_file, IsSound}
use Rattle.source_acceptance.specs.SourceFiles.{Included, Source, names_of, names_in, statements_in, cards_of_included, passes_at, IsWhole}
use Rattle.source_acceptance.specs.Acceptance.{Counts, CardFault, of_file, of_included, too_many_included, end_or_include}
use Rattle.source_verdict.specs.SourceRows.{Phase, Cards, Syntax, Nesting, Declarations, Forms, Sharing, place_of, Purpose, FaultFor, of_cards, IsFirstRefusalFor, IsAcceptedFor}
use Rattle.source_verdict.specs.Fronts.{front_of, fronts, IsSourceOf, IsFirstOfAllFor, IsReadOf, RefusedByFronts, AcceptedByFronts}
use Rattle.source_verdict.proofs.LongFiles.{Alike, the_same, both_refused, alike_back, front_alike, a_fault, front_fault, whole_where_short}
use Rattle.source_verdict.proofs.AlikeSources.{AlikeIncluded, no_more, one_more, AlikeSources, sources_back, cards_same, CountSame, passes_alike, card_fault, same_source}
use Rattle.source_verdict.proofs.EarlyPhases.{names_append}
use Rattle.source_verdict.proofs.FirstMentions.{BeginsWith, mentions_of, mentions_more, mentioned_in}

-- THE FRONTS of included files
names_kept : (is : List Included) → names_of (fronts is) ≡ names_of is
unfolding names_of fronts
names_kept [] = refl
names_kept (i ∷ is) = ap (λ ns. i.name ∷ ns) (names_kept is)

fronts_alike : (refused : Bool) (is : List Included) → AlikeIncluded refused (fronts is) is
unfolding fronts
fronts_alike refused [] = no_more
fronts_alike refused (i ∷ is) = one_more (record { name = i.name; bytes = front_of i.bytes }) i (fronts is) is refl (front_alike refused i.bytes) (fronts_alike refused is)

-- A PHASE is that of cards, or a later one
data CardsOrLater (phase : Phase) : Type 0 where
  is_cards : phase ≡ Cards → CardsOrLater phase
  is_later : place_of Cards < place_of phase → CardsOrLater phase

cards_or_later : (phase : Phase) → CardsOrLater phase
unfolding place_of
cards_or_later Cards = is_cards refl
cards_or_later Syntax = is_later (omega arith)
cards_or_later Nesting = is_later (omega arith)
cards_or_later Declarations = is_later (omega arith)
cards_or_later Forms = is_later (omega arith)
cards_or_later Sharing = is_later (omega arith)

none_before_cards : (earlier : Phase) → place_of earlier < place_of Cards → ⊥
unfolding place_of
none_before_cards earlier before = omega (arith, before)

-- a first refusal by cards
card_of : (purpose : Purpose) (options : Options) (source : Source) (r : Refusal) → FaultFor purpose options source Cards r → CardFault options source r
card_of purpose options source r (of_cards _ h) = h

first_by_cards : (purpose : Purpose) (options : Options) (source : Source) (r : Refusal) → CardFault options source r → ((q : Refusal) → CardFault options source q → IsNotAfter r q) →
    IsFirstRefusalFor purpose options source r
first_by_cards purpose options source r holds least = record {
  phase = Cards;
  read = λ earlier q before. absurd (none_before_cards earlier before);
  holds = of_cards r holds;
  least = λ q h. least q (card_of purpose options source q h);
}

-- ALIKE SOURCES have one first refusal
alike_by : (purpose : Purpose) (options : Options) (s t : Source) (r : Refusal) → AlikeSources options.long_cards s t → (first : IsFirstRefusalFor purpose options s r) → CardsOrLater first.phase →
    IsFirstRefusalFor purpose options t r
alike_by purpose options s t r same first (is_cards is) =
    first_by_cards purpose options t r (card_fault options s t r same (card_of purpose options s r (subst (λ p. FaultFor purpose options s p r) is first.holds)))
    (λ q h.
    first.least q
    (subst (λ p. FaultFor purpose options s p q) (sym is) (of_cards q (card_fault options t s q (sources_back options.long_cards s t same) h))))
alike_by purpose options s t r same first (is_later behind) =
    subst (λ x. IsFirstRefusalFor purpose options x r) (same_source options s t (λ q h. first.read Cards q behind (of_cards q h)) same) first

alike_refusal : (purpose : Purpose) (options : Options) (s t : Source) (r : Refusal) → AlikeSources options.long_cards s t → IsFirstRefusalFor purpose options s r → IsFirstRefusalFor purpose options t r
alike_refusal purpose options s t r same first = alike_by purpose options s t r same first (cards_or_later first.phase)

-- FILES THAT ARE READ WHOLE, and the first that is too long
unfoldable AreShort : List (List ℕ) → Type 0
AreShort [] = Unit {0}
AreShort (bytes ∷ more) = (length bytes ≤ most_bytes) × AreShort more

whole_files : (files : List (List ℕ)) → AreShort files → map front_of files ≡ files
unfolding AreShort
whole_files [] short = refl
whole_files (bytes ∷ more) short =
    ap (λ b. b ∷ map front_of more) (whole_where_short bytes short.0) ∙ ap (λ fs. bytes ∷ fs) (whole_files more short.1)

data FirstLong (files : List (List ℕ)) : Type 0 where
  none_long : AreShort files → FirstLong files
  one_long : (before : List (List ℕ)) (long : List ℕ) (behind : List (List ℕ)) → files ≡ before ++ long ∷ behind → AreShort before → most_bytes < length long
      → FirstLong files

long_by : (bytes : List ℕ) (more : List (List ℕ)) (long : Bool) → nat_lt most_bytes (length bytes) ≡ long → FirstLong more → FirstLong (bytes ∷ more)
unfolding AreShort
long_by bytes more true is rest = one_long [] bytes more refl tt (ltb-true most_bytes (length bytes) is)
long_by bytes more false is (none_long short) = none_long (ltb-false most_bytes (length bytes) is, short)
long_by bytes more false is (one_long before long behind same short past) =
    one_long (bytes ∷ before) long behind (ap (λ fs. bytes ∷ fs) same) (ltb-false most_bytes (length bytes) is, short) past

first_long : (files : List (List ℕ)) → FirstLong files
unfolding AreShort
first_long [] = none_long tt
first_long (bytes ∷ more) = long_by bytes more (nat_lt most_bytes (length bytes)) refl (first_long more)

abbrev front_source : Source → Source
front_source source = record { files = map front_of source.files; included = fronts source.included }

short_alike : (options : Options) (source : Source) → AreShort source.files → AlikeSources options.long_cards (front_source source) source
short_alike options source short = record { files = whole_files source.files short; included = fronts_alike options.long_cards source.included }

fronts_of_source : (read : List Included) (source : Source) → IsReadOf source.files read source → AreShort source.files →
    IsSourceOf (map front_of source.files) read (front_source source)
fronts_of_source read source reads short = record {
  files_are = refl;
  whole = record { included = names_kept source.included ∙ (reads.whole.included ∙ sym (ap mentions_of (whole_files source.files short))) };
  rest = reads.rest;
  included = reads.included;
}

short_refused : (purpose : Purpose) (options : Options) (read : List Included) (r : Refusal) (source : Source) → IsFirstOfAllFor purpose options (map front_of source.files) read r →
    IsReadOf source.files read source → AreShort source.files → IsFirstRefusalFor purpose options source r
short_refused purpose options read r source first reads short =
    alike_refusal purpose options (front_source source) source r (short_alike options source short)
    (first (front_source source) (fronts_of_source read source reads short))

-- THE FAULTS UP TO A FILE that has one are those of another source
record HasAlike (refused : Bool) (one : List ℕ) (files : List (List ℕ)) (file : ℕ) : Type 0 where
  other : List ℕ
  at : slice_get files file ≡ Some other
  alike : Alike refused one other

record Moves (refused : Bool) (s t : Source) (place : ℕ) : Type 0 where
  bytes : List ℕ
  at : slice_get s.files place ≡ Some bytes
  card : ℕ
  kind : Kind
  fault : FaultOfFile refused bytes card kind
  alike : (file : ℕ) (one : List ℕ) → slice_get s.files file ≡ Some one → HasAlike refused one t.files file
  same : (file : ℕ) (one : List ℕ) → file < place → slice_get s.files file ≡ Some one → slice_get t.files file ≡ Some one
  counted : (file : ℕ) (one : List ℕ) (counts : List ℕ → ℕ) → file < place → slice_get s.files file ≡ Some one → Counts refused counts →
      CountSame counts s.included t.included (names_in (statements_in file one))

some_same : {A : Type 0} (a b : A) → Some a ≡ Some b → a ≡ b
some_same a b is = cc

file_fault : (refused : Bool) (one other : List ℕ) (card : ℕ) (kind : Kind) → Alike refused one other → FaultOfFile refused one card kind → FaultOfFile refused other card kind
file_fault refused one other card kind (the_same is) h = subst (λ b. FaultOfFile refused b card kind) is h
file_fault refused one other card kind (both_refused a b) h = a.file card kind h

module _ (options : Options) (s t : Source) (place : ℕ) (m : Moves options.long_cards s t place) where
  behind_files : (n file : ℕ) → file ≡ length s.files + n → file ≤ place → ⊥
  behind_files n file is low =
      let within : place < length s.files = slice_get_within s.files place m.bytes m.at in
      omega (arith, is, low, within)

  unsound : (file : ℕ) (one : List ℕ) → file ≡ place → slice_get s.files file ≡ Some one → IsSound (FaultOfFile options.long_cards one) → ⊥
  unsound file one is at sound =
      let here : slice_get s.files place ≡ Some one = subst (λ k. slice_get s.files k ≡ Some one) is at in
      let its : m.bytes ≡ one = some_same m.bytes one (sym m.at ∙ here) in
      sound m.card m.kind (subst (λ b. FaultOfFile options.long_cards b m.card m.kind) its m.fault)

  many : (r : Refusal) (bytes : List ℕ) (counts : List ℕ → ℕ) (file card : ℕ) → slice_get s.files file ≡ Some bytes → IsSound (FaultOfFile options.long_cards bytes) →
      Counts options.long_cards counts → file ≤ place → (before : Bool) → nat_lt file place ≡ before → (sum : ℕ) →
      passes_at counts s.included sum (statements_in file bytes) ≡ Some card →
      (slice_get t.files file ≡ Some bytes) × (passes_at counts t.included sum (statements_in file bytes) ≡ Some card)
  many r bytes counts file card at sound counting low true is sum passes =
      let before : file < place = ltb-true file place is in
      (m.same file bytes before at, sym (passes_alike counts s.included t.included sum (statements_in file bytes) (m.counted file bytes counts before at counting)) ∙ passes)
  many r bytes counts file card at sound counting low false is sum passes =
      let behind : place ≤ file = ltb-false file place is in
      absurd (unsound file bytes (omega (arith, low, behind)) at sound)

  moved : (r : Refusal) → r.file ≤ place → CardFault options s r → CardFault options t r
  moved r low (of_file bytes h fault) =
      let its = m.alike r.file bytes h in
      of_file its.other its.at (file_fault options.long_cards bytes its.other r.card r.kind its.alike fault)
  moved r low (of_included bytes h fault) = absurd (behind_files h.place r.file h.file_is low)
  moved r low (too_many_included bytes counts h sound counting passes kind) =
      let its = many r bytes counts r.file r.card h sound counting low (nat_lt r.file place) refl _ passes in
      too_many_included bytes counts its.0 sound counting its.1 kind
  moved r low (end_or_include bytes st h sound among ends card kind) = absurd (behind_files h.place r.file h.file_is low)

  -- it has a fault itself
  abbrev its_row : Refusal
  its_row = record { file = place; card = m.card; kind = m.kind }

  has_row : CardFault options s its_row
  has_row = of_file m.bytes m.at m.fault

later_file : (r q : Refusal) (place : ℕ) → r.file ≤ place → place < q.file → IsNotAfter r q
later_file r q place low high = record {
  file = omega (arith, low, high);
  card = λ same. absurd (omega (arith, low, high, same));
  number = λ same card. absurd (omega (arith, low, high, same));
}

module _ (purpose : Purpose) (options : Options) (s t : Source) (place : ℕ) (there : Moves options.long_cards s t place) (back : Moves options.long_cards t s place) (r : Refusal) where
  least_by : r.file ≤ place → ((q : Refusal) → CardFault options s q → IsNotAfter r q) → (q : Refusal) → CardFault options t q → (past : Bool) → nat_lt place q.file ≡ past →
      IsNotAfter r q
  least_by low least q h true is = later_file r q place low (ltb-true place q.file is)
  least_by low least q h false is = least q (moved options t s place back q (ltb-false place q.file is) h)

  moved_by : (first : IsFirstRefusalFor purpose options s r) → CardsOrLater first.phase → IsFirstRefusalFor purpose options t r
  moved_by first (is_later behind) =
      absurd (first.read Cards (its_row options s t place there) behind (of_cards (its_row options s t place there) (has_row options s t place there)))
  moved_by first (is_cards is) =
      let holds : CardFault options s r = card_of purpose options s r (subst (λ p. FaultFor purpose options s p r) is first.holds) in
      let least : ((q : Refusal) → CardFault options s q → IsNotAfter r q) = λ q h. first.least q (subst (λ p. FaultFor purpose options s p q) (sym is) (of_cards q h)) in
      let low : r.file ≤ place = (least (its_row options s t place there) (has_row options s t place there)).file in
      first_by_cards purpose options t r (moved options s t place there r low holds) (λ q h. least_by low least q h (nat_lt place q.file) refl)

  moved_refusal : IsFirstRefusalFor purpose options s r → IsFirstRefusalFor purpose options t r
  moved_refusal first = moved_by first (cards_or_later first.phase)

-- A FILE THAT IS TOO LONG: what is included behind it may be anything
empty_files : List (List ℕ) → List Included
empty_files [] = []
empty_files (name ∷ more) = record { name = name; bytes = [] } ∷ empty_files more

names_of_empty : (names : List (List ℕ)) → names_of (empty_files names) ≡ names
unfolding names_of empty_files
names_of_empty [] = refl
names_of_empty (name ∷ more) = ap (λ ns. name ∷ ns) (names_of_empty more)

names_take : (count : ℕ) (is : List Included) → names_of (take count is) ≡ take count (names_of is)
unfolding names_of
names_take zero [] = refl
names_take zero (i ∷ is) = refl
names_take (suc count) [] = refl
names_take (suc count) (i ∷ is) = ap (λ ns. i.name ∷ ns) (names_take count is)

fronts_take : (count : ℕ) (is : List Included) → take count (fronts is) ≡ fronts (take count is)
unfolding fronts
fronts_take zero [] = refl
fronts_take zero (i ∷ is) = refl
fronts_take (suc count) [] = refl
fronts_take (suc count) (i ∷ is) = ap (λ js. record { name = i.name; bytes = front_of i.bytes } ∷ js) (fronts_take count is)

begins_take : {A : Type 0} (front whole : List A) → BeginsWith front whole → take (length front) whole ≡ front
begins_take front whole begins = ap (take (length front)) begins.is ∙ take-append_seam front begins.rest

-- files by their places
record HasFront (files : List (List ℕ)) (file : ℕ) (one : List ℕ) : Type 0 where
  whole : List ℕ
  at : slice_get files file ≡ Some whole
  is : one ≡ front_of whole

front_by : (files : List (List ℕ)) (file : ℕ) (one : List ℕ) (found : Option (List ℕ)) → slice_get files file ≡ found → option_map front_of found ≡ Some one →
    HasFront files file one
front_by files file one None at is = absurd (cc)
front_by files file one (Some whole) at is = record { whole = whole; at = at; is = sym (some_same (front_of whole) one is) }

front_back : (files : List (List ℕ)) (file : ℕ) (one : List ℕ) → slice_get (map front_of files) file ≡ Some one → HasFront files file one
front_back files file one at = front_by files file one (slice_get files file) refl (sym (slice_get-map front_of files file) ∙ at)

front_there : (files : List (List ℕ)) (file : ℕ) (whole : List ℕ) → slice_get files file ≡ Some whole → slice_get (map front_of files) file ≡ Some (front_of whole)
front_there files file whole at = slice_get-map front_of files file ∙ ap (option_map front_of) at

at_seam : (before behind : List (List ℕ)) (x : List ℕ) → slice_get (before ++ x ∷ behind) (length before) ≡ Some x
at_seam [] behind x = refl
at_seam (b ∷ before) behind x = at_seam before behind x

at_front : (before behind : List (List ℕ)) (file : ℕ) → file < length before → slice_get (before ++ behind) file ≡ slice_get before file
at_front [] behind file within = absurd (omega (arith, within))
at_front (b ∷ before) behind zero within = refl
at_front (b ∷ before) behind (suc file) within = at_front before behind file (omega (arith, within))

short_at : (before : List (List ℕ)) (file : ℕ) (one : List ℕ) → AreShort before → slice_get before file ≡ Some one → front_of one ≡ one
unfolding AreShort
short_at [] file one short at = absurd (cc)
short_at (b ∷ before) zero one short at = subst (λ x. front_of x ≡ x) (some_same b one at) (whole_where_short b short.0)
short_at (b ∷ before) (suc file) one short at = short_at before file one short.1 at

-- what is counted is found where the name stands first
chosen : {A : Type 0} (b : Bool) (x y z : A) → b ≡ true → (if b then x else y) ≡ (if b then x else z)
chosen b x y z is = ap (λ c. if c then x else y) is ∙ sym (ap (λ c. if c then x else z) is)

found_first : (counts : List ℕ → ℕ) (name : List ℕ) (is js : List Included) → IsIn name (names_of is) →
    cards_of_included counts name (is ++ js) ≡ cards_of_included counts name is
unfolding cards_of_included names_of
found_first counts name [] js among = elim among [ ]
found_first counts _ (i ∷ is) js first_in =
    chosen (bytes_eq i.name i.name) (counts i.bytes) (cards_of_included counts i.name (is ++ js)) (cards_of_included counts i.name is)
    ((bytes_eq-Decides i.name i.name).1 refl)
found_first counts name (i ∷ is) js (later_in among) =
    ap (λ n. if bytes_eq i.name name then counts i.bytes else n) (found_first counts name is js among)

module _ (options : Options) (before : List (List ℕ)) (long : List ℕ) (behind : List (List ℕ)) (included : List Included) (short : AreShort before) (past : most_bytes < length long) where
  abbrev files : List (List ℕ)
  files = before ++ long ∷ behind

  abbrev whole_source : Source
  whole_source = record { files = files; included = included }

  abbrev count : ℕ
  count = length (mentions_of before)

  abbrev known : List Included
  known = take count (fronts included) ++ empty_files (drop count (mentions_of (map front_of files)))

  abbrev known_source : Source
  known_source = record { files = map front_of files; included = known }

  map_append : (one other : List (List ℕ)) → map front_of (one ++ other) ≡ map front_of one ++ map front_of other
  map_append [] other = refl
  map_append (b ∷ one) other = ap (λ fs. front_of b ∷ fs) (map_append one other)

  fronts_are : map front_of files ≡ before ++ front_of long ∷ map front_of behind
  fronts_are = map_append before (long ∷ behind) ∙ ap (λ fs. fs ++ front_of long ∷ map front_of behind) (whole_files before short)

  first_names : take count (mentions_of files) ≡ mentions_of before
  first_names = begins_take (mentions_of before) (mentions_of files) (mentions_more before (long ∷ behind))

  first_front_names : take count (mentions_of (map front_of files)) ≡ mentions_of before
  first_front_names =
      ap (λ fs. take count (mentions_of fs)) fronts_are
      ∙ begins_take (mentions_of before) _ (mentions_more before (front_of long ∷ map front_of behind))

  known_names : IsWhole whole_source → names_of (take count included) ≡ mentions_of before
  known_names whole = names_take count included ∙ (ap (take count) whole.included ∙ first_names)

  known_front_names : IsWhole whole_source → names_of (take count (fronts included)) ≡ mentions_of before
  known_front_names whole = names_take count (fronts included) ∙ (ap (take count) (names_kept included ∙ whole.included) ∙ first_names)

  is_whole : IsWhole whole_source → IsWhole known_source
  is_whole whole = record {
    included = names_append (take count (fronts included)) (empty_files (drop count (mentions_of (map front_of files))))
        ∙ (ap (λ ns. ns ++ names_of (empty_files (drop count (mentions_of (map front_of files))))) (known_front_names whole ∙ sym first_front_names)
        ∙ (ap (λ ns. take count (mentions_of (map front_of files)) ++ ns) (names_of_empty (drop count (mentions_of (map front_of files))))
        ∙ take-append-drop count (mentions_of (map front_of files))));
  }

  -- the included files that were read are among those that are known
  knows : (read rest : List Included) → IsWhole whole_source → fronts included ≡ read ++ rest → length read ≤ count → IsSourceOf (map front_of files) read known_source
  knows read rest whole is few =
      let size : count ≡ length read + (count - length read) = omega (arith, few) in
      record {
        files_are = refl;
        whole = is_whole whole;
        rest = take (count - length read) rest ++ empty_files (drop count (mentions_of (map front_of files)));
        included = ap (λ es. es ++ empty_files (drop count (mentions_of (map front_of files))))
            (ap (take count) is ∙ (ap (λ n. take n (read ++ rest)) size ∙ take-append-add read rest (count - length read)))
            ∙ append_assoc read (take (count - length read) rest) (empty_files (drop count (mentions_of (map front_of files))));
      }

  count_same : (counts : List ℕ → ℕ) → Counts options.long_cards counts → IsWhole whole_source → CountSame counts known included (mentions_of before)
  count_same counts counting whole name among =
      found_first counts name (take count (fronts included)) (empty_files (drop count (mentions_of (map front_of files))))
      (subst (IsIn name) (sym (known_front_names whole)) among)
      ∙ (ap (cards_of_included counts name) (fronts_take count included)
      ∙ (cards_same options.long_cards counts (fronts (take count included)) (take count included) counting (fronts_alike options.long_cards (take count included)) name
      ∙ (sym (found_first counts name (take count included) (drop count included) (subst (IsIn name) (sym (known_names whole)) among))
      ∙ ap (cards_of_included counts name) (take-append-drop count included))))

  -- the files before it
  in_before : (file : ℕ) (one : List ℕ) → file < length before → slice_get files file ≡ Some one → slice_get before file ≡ Some one
  in_before file one within at = sym (at_front before (long ∷ behind) file within) ∙ at

  whole_before : (file : ℕ) (one : List ℕ) → file < length before → slice_get files file ≡ Some one → front_of one ≡ one
  whole_before file one within at = short_at before file one short (in_before file one within at)

  same_back : (file : ℕ) (one : List ℕ) → file < length before → slice_get files file ≡ Some one → slice_get (map front_of files) file ≡ Some one
  same_back file one within at = front_there files file one at ∙ ap Some (whole_before file one within at)

  same_there : (file : ℕ) (one : List ℕ) → file < length before → slice_get (map front_of files) file ≡ Some one → slice_get files file ≡ Some one
  same_there file one within at =
      let its = front_back files file one at in
      its.at ∙ ap Some (sym (whole_before file its.whole within its.at) ∙ sym its.is)

  counted_before : (file : ℕ) (one : List ℕ) (counts : List ℕ → ℕ) → IsWhole whole_source → file < length before → slice_get files file ≡ Some one →
      Counts options.long_cards counts → CountSame counts known included (names_in (statements_in file one))
  counted_before file one counts whole within at counting name among =
      count_same counts counting whole name (mentioned_in before file one name (in_before file one within at) among)

  there : IsWhole whole_source → Moves options.long_cards known_source whole_source (length before)
  there whole =
      let fault = front_fault options.long_cards long past in
      record {
        bytes = front_of long;
        at = front_there files (length before) long (at_seam before behind long);
        card = fault.0;
        kind = _;
        fault = cards_of_file fault.1;
        alike = λ file one at.
            let its = front_back files file one at in
            record { other = its.whole; at = its.at; alike = subst (λ b. Alike options.long_cards b its.whole) (sym its.is) (front_alike options.long_cards its.whole) };
        same = same_there;
        counted = λ file one counts within at counting. counted_before file one counts whole within (same_there file one within at) counting;
      }

  back : IsWhole whole_source → Moves options.long_cards whole_source known_source (length before)
  back whole =
      let fault = a_fault options.long_cards long past in
      record {
        bytes = long;
        at = at_seam before behind long;
        card = fault.0;
        kind = _;
        fault = cards_of_file fault.1;
        alike = λ file one at.
            record {
              other = front_of one;
              at = front_there files file one at;
              alike = alike_back options.long_cards (front_of one) one (front_alike options.long_cards one);
            };
        same = same_back;
        counted = λ file one counts within at counting name among. sym (counted_before file one counts whole within at counting name among);
      }

  refused_long : (purpose : Purpose) (read rest : List Included) (r : Refusal) → IsWhole whole_source → fronts included ≡ read ++ rest → length read ≤ count →
      IsFirstOfAllFor purpose options (map front_of files) read r → IsFirstRefusalFor purpose options whole_source r
  refused_long purpose read rest r whole is few first =
      moved_refusal purpose options known_source whole_source (length before) (there whole) (back whole) r (first known_source (knows read rest whole is few))

long_refused : (purpose : Purpose) (options : Options) (fs : List (List ℕ)) (read : List Included) (r : Refusal) (included : List Included) (before : List (List ℕ)) (long : List ℕ) (behind : List (List ℕ)) →
    fs ≡ before ++ long ∷ behind → AreShort before → most_bytes < length long → IsFirstOfAllFor purpose options (map front_of fs) read r →
    IsReadOf fs read (record { files = fs; included = included }) → IsFirstRefusalFor purpose options (record { files = fs; included = included }) r
long_refused purpose options fs read r included before long behind is short past first reads =
    subst (λ f. IsFirstRefusalFor purpose options (record { files = f; included = included }) r) (sym is)
    (refused_long options before long behind included short past purpose read reads.rest r (subst (λ f. IsWhole (record { files = f; included = included })) is reads.whole)
    reads.included (reads.within before long behind is past) (subst (λ f. IsFirstOfAllFor purpose options (map front_of f) read r) is first))

by_length : (purpose : Purpose) (options : Options) (read : List Included) (r : Refusal) (source : Source) → IsFirstOfAllFor purpose options (map front_of source.files) read r →
    IsReadOf source.files read source → FirstLong source.files → IsFirstRefusalFor purpose options source r
by_length purpose options read r source first reads (none_long short) = short_refused purpose options read r source first reads short
by_length purpose options read r source first reads (one_long before long behind is short past) =
    long_refused purpose options source.files read r source.included before long behind is short past first reads

pub refused_by_fronts : RefusedByFronts
refused_by_fronts purpose options files read r source first reads =
    by_length purpose options read r source (subst (λ fs. IsFirstOfAllFor purpose options (map front_of fs) read r) (sym reads.files_are) first)
    (subst (λ fs. IsReadOf fs read source) (sym reads.files_are) reads) (first_long source.files)

-- WHAT IS ACCEPTED was read whole
none_too_long : (options : Options) (files : List (List ℕ)) (read : List Included) →
    ((q : Refusal) → CardFault options (record { files = map front_of files; included = read }) q → ⊥) → FirstLong files → AreShort files
none_too_long options files read none (none_long short) = short
none_too_long options files read none (one_long before long behind is short past) =
    let fault = front_fault options.long_cards long past in
    absurd (none (record { file = length before; card = fault.0; kind = _ })
    (of_file (front_of long) (front_there files (length before) long (ap (λ fs. slice_get fs (length before)) is ∙ at_seam before behind long)) (cards_of_file fault.1)))

accepted_short : (purpose : Purpose) (options : Options) (files : List (List ℕ)) (read : List Included) (set : FileSet) →
    IsAcceptedFor purpose options (record { files = map front_of files; included = read }) set → AreShort files
accepted_short purpose options files read set accepted = none_too_long options files read (λ q h. accepted.sound Cards q (of_cards q h)) (first_long files)

pub accepted_fronts : (purpose : Purpose) (options : Options) (files : List (List ℕ)) (read : List Included) (set : FileSet) →
    IsAcceptedFor purpose options (record { files = map front_of files; included = read }) set → map front_of files ≡ files
accepted_fronts purpose options files read set accepted = whole_files files (accepted_short purpose options files read set accepted)

pub accepted_by_fronts : AcceptedByFronts
accepted_by_fronts purpose options files read set source accepted files_are included =
    sym (same_source options (record { files = map front_of files; included = read }) source (λ q h. accepted.sound Cards q (of_cards q h))
    (record {
      files = accepted_fronts purpose options files read set accepted ∙ sym files_are;
      included = subst (λ is. AlikeIncluded options.long_cards is source.included) included (fronts_alike options.long_cards source.included);
    }))
