-- Where the words of a command line let a command read.
use Rattle.std.proofs.Common.{◌≡◌, ℕ, ◌≤◌, Bool, true, false, List, [], length, drop, refl, sym, ◌∙◌, subst, arith, Option, Some, None}
use Rattle.std.specs.Prelude.{◌&&◌, nat_lt, nat_le, nat_eq, IsSomeAnd, if◌then◌else◌}
use Rattle.std.proofs.lemmas.Bool.{and_parts}
use Rattle.std.proofs.lemmas.Bool.Decides.{nat_tests}
use Rattle.f2c_outside.specs.declared.shelves.Place.{Place}
use Rattle.f2c_outside.specs.Shelf.{IsSource}
use Rattle.f2c_outside.specs.Texts.{word_at, IsName}
use Rattle.output_names.specs.OutputNames.{has_ending, is_file_word}
use Rattle.command_words.specs.declared.command.Command.{Command}
use Rattle.command_words.specs.declared.command.Command.TheVariants.{Translate, Split, Check, Help, BadWord}
use Rattle.command_words.specs.declared.command.Origin.{Origin}
use Rattle.command_words.specs.declared.command.Origin.TheVariants as origin
use Rattle.command_words.specs.CommandWords.{is_help, is_split, is_check, no_options, first_unchecked, check_by, first_other, lacks_a_file, one_past, translation_of, translation_by, split_by, place_from, command_for, command_of}
use Rattle.f2c_program.specs.SplitOutcomes.{IsOrigin}

at_least : (n : ℕ) → nat_lt 2 n ≡ true → 3 ≤ n
at_least n h = grind (arith, nat_tests)

at_most : (n : ℕ) → nat_le n 255 ≡ true → n ≤ 255
at_most n h = grind (arith, nat_tests)

name_of_file : (word : List ℕ) → is_file_word word ≡ true → IsName word
name_of_file word h =
    let first = and_parts (nat_lt 2 (length word)) (nat_le (length word) 255 && has_ending word) h in
    let second = and_parts (nat_le (length word) 255) (has_ending word) first.1 in
    let low : 3 ≤ length word = at_least (length word) first.0 in
    record { some = omega (arith, low); short = at_most (length word) second.0 }

named_word : (found : Option (List ℕ)) (word : List ℕ) → found ≡ Some word → is_file_word word ≡ true → IsSomeAnd found IsName
named_word found word is named = subst (λ o. IsSomeAnd o IsName) (sym is) (name_of_file word named)

by_word : (words : List (List ℕ)) (word : List ℕ) (named two : Bool) (found : Origin) → word_at 2 words ≡ Some word → is_file_word word ≡ named
    → (if named then (if two then Split (origin.Word 2) else BadWord 3) else BadWord 2) ≡ Split found → IsOrigin words found
by_word words word true true found second is same =
    let its : origin.Word 2 ≡ found = cc in subst (IsOrigin words) its (named_word (word_at 2 words) word second is)
by_word words word true false found second is same = absurd (cc)
by_word words word false two found second is same = absurd (cc)

by_second : (words : List (List ℕ)) (second : Option (List ℕ)) (found : Origin) → word_at 2 words ≡ second → split_by second words ≡ Split found → IsOrigin words found
by_second words None found second_is same = let its : origin.Input ≡ found = cc in subst (IsOrigin words) its tt
by_second words (Some word) found second_is same = by_word words word (is_file_word word) (nat_eq (length words) 2) found second_is refl same

no_file_translation : (words : List (List ℕ)) (lacks : Bool) (found : Origin) → (if lacks then BadWord (one_past words) else Translate (translation_of words)) ≡ Split found → ⊥
no_file_translation words true found same = cc
no_file_translation words false found same = cc

no_translation : (words : List (List ℕ)) (other : Option ℕ) (found : Origin) → translation_by words other ≡ Split found → ⊥
no_translation words None found same = no_file_translation words (lacks_a_file words) found same
no_translation words (Some number) found same = cc

no_file_check : (some : Bool) (found : Origin) → (if some then Check no_options else BadWord 2) ≡ Split found → ⊥
no_file_check true found same = cc
no_file_check false found same = cc

no_check : (words : List (List ℕ)) (unchecked : Option ℕ) (found : Origin) → check_by words unchecked ≡ Split found → ⊥
no_check words None found same = no_file_check (nat_lt 1 (length words)) found same
no_check words (Some number) found same = cc

no_others : (words : List (List ℕ)) (checked : Bool) (unchecked other : Option ℕ) (found : Origin)
    → (if checked then check_by words unchecked else translation_by words other) ≡ Split found → ⊥
no_others words true unchecked other found same = no_check words unchecked found same
no_others words false unchecked other found same = no_translation words other found same

no_help : (words : List (List ℕ)) (help one checked : Bool) (unchecked other : Option ℕ) (found : Origin)
    → (if help then (if one then Help else BadWord 2) else (if checked then check_by words unchecked else translation_by words other)) ≡ Split found → ⊥
no_help words true true checked unchecked other found same = cc
no_help words true false checked unchecked other found same = cc
no_help words false one checked unchecked other found same = no_others words checked unchecked other found same

by_first : (words : List (List ℕ)) (split help one checked : Bool) (unchecked other : Option ℕ) (found : Origin)
    → (if split then split_by (word_at 2 words) words
    else (if help then (if one then Help else BadWord 2) else (if checked then check_by words unchecked else translation_by words other))) ≡ Split found
    → IsOrigin words found
by_first words true help one checked unchecked other found same = by_second words (word_at 2 words) found refl same
by_first words false help one checked unchecked other found same = absurd (no_help words help one checked unchecked other found same)

by_words : (words : List (List ℕ)) (first : Option (List ℕ)) (found : Origin) → command_for first words ≡ Split found → IsOrigin words found
by_words words None found same = absurd (no_translation words (first_other 1 [] words) found same)
by_words words (Some first) found same =
    by_first words (is_split first) (is_help first) (nat_eq (length words) 1) (is_check first) (first_unchecked 2 (drop 1 words)) (first_other 1 [] words) found same

pub origin_of : (words : List (List ℕ)) (asked : Command) (found : Origin) → asked ≡ command_of words → asked ≡ Split found → IsOrigin words found
origin_of words asked found is split = by_words words (word_at 1 words) found (sym is ∙ split)

pub reads_source : (words : List (List ℕ)) (found : Origin) (from : Place) → from ≡ place_from words found → IsSource from
reads_source words origin.Input from is = subst IsSource (sym is) tt
reads_source words (origin.Word number) from is = subst IsSource (sym is) tt
