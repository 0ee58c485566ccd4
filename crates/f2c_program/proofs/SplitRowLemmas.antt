-- What each exit status of splitting says follows from how it ended and from its message.
use Rattle.std.proofs.Common.{◌≡◌, ℕ, ◌<◌, ◌≤◌, true, false, List, Option, Some, None, Result, Ok, Err, refl, ap, sym, ◌∙◌, subst, inl, inr, arith}
use Rattle.std.specs.Prelude.{IfSome, is_none, if◌then◌else◌}
use Rattle.f2c_outside.specs.declared.shelves.Place.{Place}
use Rattle.f2c_outside.specs.declared.shelves.Place.TheVariants.{Input, Output, Fault, File}
use Rattle.f2c_outside.specs.Shelf.{ShelfState, Contents, Rose, Lacks, bytes_of}
use Rattle.f_tree.specs.declared.refusals.Refusal.{Refusal}
use Rattle.split_command.specs.fortran_text.FirstFault.{too_long}
use Rattle.shelf_texts.specs.Messages.{Said, Gained}
use Rattle.shelf_texts.specs.ShelfLoops.{Both, IsKept}
use Rattle.split_command.specs.split_pieces.ChosenNames.{chosen_names}
use Rattle.split_command.specs.split_pieces.Pieces.{pieces_of}
use Rattle.split_command.specs.piece_names.Asking.{has}
use Rattle.split_command.specs.piece_choice.NamesOfPieces.{wanted_names, IsInQuestion}
use Rattle.split_command.specs.piece_writer.WrittenPieces.{AreMadeUpTo}
use Rattle.split_command.specs.Listing.{listing}
use Rattle.split_command.specs.SplitFiles.{IsSplit, IsHalfListed, IsHalfSplit}
use Rattle.split_command.specs.SplitFiles as files
use Rattle.split_command.specs.SplitEnds.{IsCut, IsSplitInto, IsSplitUpTo, IsTooLong, IsUnasked, HasNoFreeName, IsNotThere, HasFailed, Holds, HasRead, HoldsMore, HasReadFront, SplitEnded}
use Rattle.split_command.specs.declared.failing.SplitFail.{SplitFail}
use Rattle.split_command.specs.declared.failing.SplitFail.TheVariants as fail
use Rattle.outcomes.specs.declared.outcome.Outcome.{Outcome}
use Rattle.outcomes.specs.declared.outcome.Outcome.TheVariants as outcome
use Rattle.outcomes.specs.Outcomes.{status_of, IsSilent}
use Rattle.outcomes.specs.Lines.{shown, name_of_place, line_of, refusal_line, not_there_line, shelf_fault_line, no_free_name_line, no_memory_line}
use Rattle.f2c_program.specs.SplitOutcomes.{IsSplitOutcome, SplitRan}
use Rattle.f2c_program.specs.SplitRows.{lacks, status_by_names, status_by_limit, names_on, split_status, SplitRow, TooLongRow, NoFreeNameRow, IsSplitPart, PartRow, SplitFaultRow, SplitRows}
use Rattle.f2c_program.specs.SplitRows as rows
use Rattle.outcomes.proofs.ToldLemmas.{some_at, for_some, both_then, gained, not_both}

-- THE STATUS by what the place holds
is_there : (from : Place) (c : Contents) → ¬ Lacks from c → lacks from c ≡ false
is_there (File name) c there = by (c.files name) there
  where
    by : (found : Option (List ℕ)) → ¬ (found ≡ None) → is_none found ≡ false
    by (Some text) some = refl
    by None some = absurd (some refl)
is_there Input c there = refl
is_there Output c there = refl
is_there Fault c there = refl

is_lacking : (from : Place) (c : Contents) → Lacks from c → lacks from c ≡ true
is_lacking (File name) c lack = ap is_none lack
is_lacking Input c lack = absurd lack
is_lacking Output c lack = absurd lack
is_lacking Fault c lack = absurd lack

status_there : (from : Place) (c : Contents) → ¬ Lacks from c → split_status from c ≡ status_by_limit (too_long (bytes_of from c)) (status_by_names (names_on from c))
unfolding split_status
status_there from c there =
    ap (λ b. if b then 3 else status_by_limit (too_long (bytes_of from c)) (status_by_names (names_on from c))) (is_there from c there)

status_lacking : (from : Place) (c : Contents) → Lacks from c → split_status from c ≡ 3
unfolding split_status
status_lacking from c lack =
    ap (λ b. if b then 3 else status_by_limit (too_long (bytes_of from c)) (status_by_names (names_on from c))) (is_lacking from c lack)

status_long : (from : Place) (c : Contents) (card : ℕ) → ¬ Lacks from c → too_long (bytes_of from c) ≡ Some card → split_status from c ≡ 1
status_long from c card there long = status_there from c there ∙ ap (λ o. status_by_limit o (status_by_names (names_on from c))) long

status_named : (from : Place) (c : Contents) (found : Result (List (List ℕ)) ℕ) → ¬ Lacks from c → too_long (bytes_of from c) ≡ None → names_on from c ≡ found
    → split_status from c ≡ status_by_names found
status_named from c found there within named =
    status_there from c there ∙ ap (λ o. status_by_limit o (status_by_names (names_on from c))) within ∙ ap status_by_names named

-- what was cut, where the shelf tells
cut_at : (from : Place) (bytes : List ℕ) (names texts : List (List ℕ)) (told : Option Contents) (c : Contents) → told ≡ Some c → Holds from bytes c → IsCut bytes names texts told
    → IsCut (bytes_of from c) names texts (Some c)
cut_at from bytes names texts told c is held cut = subst (λ l. IsCut l names texts (Some c)) held.bytes_are (subst (IsCut bytes names texts) is cut)

named_at : (from : Place) (names texts : List (List ℕ)) (c : Contents) → IsCut (bytes_of from c) names texts (Some c) → names_on from c ≡ Ok names
unfolding names_on
named_at from names texts c cut = cut.chosen

later_rose : (b m a : ShelfState) → Rose b.faults m.faults → m.faults ≤ a.faults → Rose b.faults a.faults
later_rose b m a rose last below = let less : b.faults < m.faults = rose (omega (arith, last)) in omega (arith, last)

-- STATUS 0
rows-done : (from : Place) (bytes : List ℕ) (b m a : ShelfState) → HasRead from bytes b → IsSplitInto bytes b m → a ≡ m → SplitRows from b a 0
rows-done from bytes b m a read into silent =
    let expected : IfSome b.told (λ c. 0 ≡ split_status from c) =
    for_some b.told _
    (λ c is.
    let held = some_at b.told (Holds from bytes) c is read in
    let cut = cut_at from bytes into.names into.texts b.told c is held into.cut in
    sym (status_named from c (Ok into.names) held.there cut.within (named_at from into.names into.texts c cut))) in
    record {
      statuses = inl refl;
      expected = for_some b.told _ (λ c is. inl (some_at b.told (λ x. 0 ≡ split_status from x) c is expected));
      exact = λ quiet. for_some b.told _ (λ c is. inl (some_at b.told (λ x. 0 ≡ split_status from x) c is expected));
      fault_or_missing = λ is. absurd (omega arith);
      quiet = λ is. ap (λ (s : ShelfState). s.faults) silent ∙ into.quiet;
      split = λ is.
          both_then b.told a.told (IsSplit into.names into.texts (listing into.names)) (SplitRow from)
          (subst (λ (s : ShelfState). Both b.told s.told (IsSplit into.names into.texts (listing into.names))) (sym silent) into.split)
          (λ c d here split.
          let held = some_at b.told (Holds from bytes) c here read in
          record {
            names = into.names;
            texts = into.texts;
            there = held.there;
            cut = cut_at from bytes into.names into.texts b.told c here held into.cut;
            split = split;
          });
      too_long = λ is. absurd (omega arith);
      none_free = λ is. absurd (omega arith);
      fault = λ is. absurd (omega arith);
      no_memory = λ is. absurd (omega arith);
    }

-- STATUS 1
rows-too_long : (from : Place) (bytes : List ℕ) (refusal : Refusal) (b m a : ShelfState) → HasReadFront from bytes refusal b → IsTooLong bytes refusal b m
    → Said (refusal_line (name_of_place from) refusal) m a → SplitRows from b a 1
rows-too_long from bytes refusal b m a read long said =
    let expected : IfSome b.told (λ c. 1 ≡ split_status from c) =
    for_some b.told _
    (λ c is.
    let held = some_at b.told (HoldsMore from bytes refusal) c is read in
    sym (status_long from c refusal.card held.there held.past.0)) in
    record {
      statuses = inr (inl refl);
      expected = for_some b.told _ (λ c is. inl (some_at b.told (λ x. 1 ≡ split_status from x) c is expected));
      exact = λ quiet. for_some b.told _ (λ c is. inl (some_at b.told (λ x. 1 ≡ split_status from x) c is expected));
      fault_or_missing = λ is. absurd (omega arith);
      quiet = λ is. absurd (omega arith);
      split = λ is. absurd (omega arith);
      too_long = λ is.
          both_then b.told a.told (Gained (refusal_line (name_of_place from) refusal) b.faults a.faults) (TooLongRow from b.faults a.faults)
          (gained (refusal_line (name_of_place from) refusal) b.told b.faults m a long.kept.same long.kept.later said)
          (λ c d here gain.
          let held = some_at b.told (HoldsMore from bytes refusal) c here read in
          record { refusal = refusal; there = held.there; past = held.past; said = gain });
      none_free = λ is. absurd (omega arith);
      fault = λ is. absurd (omega arith);
      no_memory = λ is. absurd (omega arith);
    }

-- STATUS 13
none_free_at : (from : Place) (bytes : List ℕ) (number : ℕ) (told : Option Contents) (c : Contents) → told ≡ Some c → Holds from bytes c
    → IfSome told (λ x. chosen_names (has x) (wanted_names (pieces_of bytes)) ≡ Err number) → names_on from c ≡ Err number
unfolding names_on
none_free_at from bytes number told c is held none =
    ap (λ l. chosen_names (has c) (wanted_names (pieces_of l))) (sym held.bytes_are)
    ∙ some_at told (λ x. chosen_names (has x) (wanted_names (pieces_of bytes)) ≡ Err number) c is none

within_at : (from : Place) (bytes : List ℕ) (c : Contents) → Holds from bytes c → too_long bytes ≡ None → too_long (bytes_of from c) ≡ None
within_at from bytes c held within = ap too_long (sym held.bytes_are) ∙ within

rows-no_free_name : (from : Place) (bytes : List ℕ) (number : ℕ) (b m a : ShelfState) → HasRead from bytes b → HasNoFreeName bytes number b m
    → Said (no_free_name_line number) m a → SplitRows from b a 13
rows-no_free_name from bytes number b m a read none said =
    let expected : IfSome b.told (λ c. 13 ≡ split_status from c) =
    for_some b.told _
    (λ c is.
    let held = some_at b.told (Holds from bytes) c is read in
    sym (status_named from c (Err number) held.there (within_at from bytes c held none.within) (none_free_at from bytes number b.told c is held none.none_free))) in
    record {
      statuses = inr (inr (inr (inr refl)));
      expected = for_some b.told _ (λ c is. inl (some_at b.told (λ x. 13 ≡ split_status from x) c is expected));
      exact = λ quiet. for_some b.told _ (λ c is. inl (some_at b.told (λ x. 13 ≡ split_status from x) c is expected));
      fault_or_missing = λ is. absurd (omega arith);
      quiet = λ is. absurd (omega arith);
      split = λ is. absurd (omega arith);
      too_long = λ is. absurd (omega arith);
      none_free = λ is.
          both_then b.told a.told (Gained (no_free_name_line number) b.faults a.faults) (NoFreeNameRow from b.faults a.faults)
          (gained (no_free_name_line number) b.told b.faults m a none.kept.same none.kept.later said)
          (λ c d here gain.
          let held = some_at b.told (Holds from bytes) c here read in
          record {
            number = number;
            there = held.there;
            within = within_at from bytes c held none.within;
            none_free = none_free_at from bytes number b.told c here held none.none_free;
            said = gain;
          });
      fault = λ is. absurd (omega arith);
      no_memory = λ is. absurd (omega arith);
    }

-- STATUS 3
rows-not_there : (from : Place) (b m a : ShelfState) → IsNotThere from b m → Said (not_there_line (shown from)) m a → SplitRows from b a 3
rows-not_there from b m a missing said = record {
  statuses = inr (inr (inl refl));
  expected = for_some b.told _ (λ c is. inr (inl refl));
  exact = λ quiet. for_some b.told _ (λ c is. inl (sym (status_lacking from c (some_at b.told (Lacks from) c is missing.lacks))));
  fault_or_missing = λ is. inr (missing.file, missing.lacks);
  quiet = λ is. absurd (omega arith);
  split = λ is. absurd (omega arith);
  too_long = λ is. absurd (omega arith);
  none_free = λ is. absurd (omega arith);
  fault = λ is.
      both_then b.told a.told (Gained (not_there_line (shown from)) b.faults a.faults) (SplitFaultRow from b.faults a.faults)
      (gained (not_there_line (shown from)) b.told b.faults m a missing.kept.same missing.kept.later said)
      (λ c d here gain. rows.not_there (some_at b.told (Lacks from) c here missing.lacks) gain);
  no_memory = λ is. absurd (omega arith);
}

-- a call of the shelf failed
rows-fault : (from : Place) (b a : ShelfState) → Rose b.faults a.faults → Both b.told a.told (SplitFaultRow from b.faults a.faults) → SplitRows from b a 3
rows-fault from b a rose fault = record {
  statuses = inr (inr (inl refl));
  expected = for_some b.told _ (λ c is. inr (inl refl));
  exact = λ quiet. absurd (not_both b.faults a.faults rose quiet);
  fault_or_missing = λ is. inl rose;
  quiet = λ is. absurd (omega arith);
  split = λ is. absurd (omega arith);
  too_long = λ is. absurd (omega arith);
  none_free = λ is. absurd (omega arith);
  fault = λ is. fault;
  no_memory = λ is. absurd (omega arith);
}

rows-unread : (from : Place) (b m a : ShelfState) → HasFailed b m → Said (shelf_fault_line from) m a → SplitRows from b a 3
rows-unread from b m a failed said =
    rows-fault from b a (later_rose b m a failed.rose said.later)
    (both_then b.told a.told (Gained (shelf_fault_line from) b.faults a.faults) (SplitFaultRow from b.faults a.faults)
    (gained (shelf_fault_line from) b.told b.faults m a failed.kept.same failed.kept.later said) (λ c d here gain. rows.unread (later_rose b m a failed.rose said.later) gain))

rows-unasked : (from : Place) (bytes name : List ℕ) (b m a : ShelfState) → HasRead from bytes b → IsUnasked bytes name b m → Said (shelf_fault_line (File name)) m a
    → SplitRows from b a 3
rows-unasked from bytes name b m a read failed said =
    rows-fault from b a (later_rose b m a failed.rose said.later)
    (both_then b.told a.told (Gained (shelf_fault_line (File name)) b.faults a.faults) (SplitFaultRow from b.faults a.faults)
    (gained (shelf_fault_line (File name)) b.told b.faults m a failed.kept.same failed.kept.later said)
    (λ c d here gain.
    rows.unasked name (subst (λ l. IsInQuestion (pieces_of l) name) (some_at b.told (Holds from bytes) c here read).bytes_are failed.in_question)
    (later_rose b m a failed.rose said.later) gain))

-- writing failed
both_joined : {A : Type 0} (o m a : Option A) (P Q R : A → A → Type 0) → Both o m P → Both m a Q → ((x y z : A) → o ≡ Some x → P x y → Q y z → R x z) → Both o a R
both_joined None None None P Q R first second h = tt
both_joined None None (Some z) P Q R first second h = absurd second
both_joined None (Some y) a P Q R first second h = absurd first
both_joined (Some x) None a P Q R first second h = absurd first
both_joined (Some x) (Some y) None P Q R first second h = absurd second
both_joined (Some x) (Some y) (Some z) P Q R first second h = h x y z refl first second

part_row : (from : Place) (bytes : List ℕ) (place : Place) (b m a : ShelfState) (P : Contents → Contents → Type 0) → HasRead from bytes b → (up : IsSplitUpTo bytes place b m)
    → Both b.told m.told P → ((c d : Contents) → P c d → IsSplitPart up.names up.texts place c d) → Rose b.faults m.faults → b.faults ≤ m.faults
    → Said (shelf_fault_line place) m a → Both b.told a.told (SplitFaultRow from b.faults a.faults)
part_row from bytes place b m a P read up made part rose not_less said =
    both_joined b.told m.told a.told P (Gained (shelf_fault_line place) b.faults a.faults) (SplitFaultRow from b.faults a.faults) made
    (gained (shelf_fault_line place) m.told b.faults m a refl not_less said)
    (λ c middle d here half gain.
    let held = some_at b.told (Holds from bytes) c here read in
    rows.unwritten
    (record {
      place = place;
      names = up.names;
      texts = up.texts;
      there = held.there;
      cut = cut_at from bytes up.names up.texts b.told c here held up.cut;
      middle = middle;
      part = part c middle half;
      rose = later_rose b m a rose said.later;
      said = gain;
    }))

by_half : (from : Place) (bytes : List ℕ) (place : Place) (b m a : ShelfState) → HasRead from bytes b → (up : IsSplitUpTo bytes place b m)
    → IsHalfSplit up.names up.texts place b m → Said (shelf_fault_line place) m a → SplitRows from b a 3
by_half from bytes place b m a read up (files.at_piece h) said =
    rows-fault from b a (later_rose b m a h.rose said.later)
    (part_row from bytes place b m a (AreMadeUpTo h.before h.earlier h.name h.text) read up h.made
    (λ c d half. rows.at_piece h.before h.earlier h.behind h.later h.name h.text h.names_are h.texts_are h.named half) h.rose h.not_less said)
by_half from bytes place b m a read up (files.at_listing is h) said =
    rows-fault from b a (later_rose b m a h.rose said.later)
    (part_row from bytes place b m a (IsHalfListed up.names up.texts) read up h.split (λ c d half. rows.at_listing is half) h.rose h.not_less said)

-- STATUS 5
rows-no_memory : (from : Place) (b m a : ShelfState) → IsKept b m → Said no_memory_line m a → SplitRows from b a 5
rows-no_memory from b m a kept said = record {
  statuses = inr (inr (inr (inl refl)));
  expected = for_some b.told _ (λ c is. inr (inr refl));
  exact = λ quiet. for_some b.told _ (λ c is. inr refl);
  fault_or_missing = λ is. absurd (omega arith);
  quiet = λ is. absurd (omega arith);
  split = λ is. absurd (omega arith);
  too_long = λ is. absurd (omega arith);
  none_free = λ is. absurd (omega arith);
  fault = λ is. absurd (omega arith);
  no_memory = λ is. gained no_memory_line b.told b.faults m a kept.same kept.later said;
}

-- EACH OUTCOME
by_outcome : (from : Place) (words : List (List ℕ)) (b m a : ShelfState) (ended one : Outcome) → ended ≡ one → Said (line_of words ended) m a
    → (Said (line_of words one) m a → SplitRows from b a (status_of one)) → SplitRows from b a (status_of ended)
by_outcome from words b m a ended one is said row =
    subst (λ (o : Outcome). SplitRows from b a (status_of o)) (sym is) (row (subst (λ (o : Outcome). Said (line_of words o) m a) is said))

by_missing : (from : Place) (words : List (List ℕ)) (b m a : ShelfState) (ended : Outcome) → IsNotThere from b m → IsSplitOutcome from (Err fail.NotThere) ended
    → Said (line_of words ended) m a → SplitRows from b a (status_of ended)
by_missing from words b m a (outcome.NotThere name) missing is said = rows-not_there from b m a missing (subst (λ n. Said (not_there_line n) m a) is said)
by_missing from words b m a outcome.NoMemory missing is said = rows-no_memory from b m a missing.kept said
by_missing from words b m a outcome.Done missing is said = absurd is
by_missing from words b m a outcome.Disagree missing is said = absurd is
by_missing from words b m a outcome.Changed missing is said = absurd is
by_missing from words b m a (outcome.NotPrototype name line) missing is said = absurd is
by_missing from words b m a (outcome.Refused refusal name) missing is said = absurd is
by_missing from words b m a (outcome.BadWord number) missing is said = absurd is
by_missing from words b m a (outcome.Unread place) missing is said = absurd is
by_missing from words b m a (outcome.Unwritten place) missing is said = absurd is
by_missing from words b m a (outcome.NoFreeName number) missing is said = absurd is

by_refusal : (from : Place) (words : List (List ℕ)) (bytes : List ℕ) (refusal : Refusal) (b m a : ShelfState) (ended : Outcome) → HasReadFront from bytes refusal b
    → IsTooLong bytes refusal b m → IsSplitOutcome from (Err (fail.Refused refusal)) ended → Said (line_of words ended) m a → SplitRows from b a (status_of ended)
by_refusal from words bytes refusal b m a (outcome.Refused r name) read long is said =
    rows-too_long from bytes refusal b m a read long (subst (λ x. Said (refusal_line (name_of_place from) x) m a) is.0 (subst (λ n. Said (refusal_line n r) m a) is.1 said))
by_refusal from words bytes refusal b m a outcome.NoMemory read long is said = rows-no_memory from b m a long.kept said
by_refusal from words bytes refusal b m a outcome.Done read long is said = absurd is
by_refusal from words bytes refusal b m a outcome.Disagree read long is said = absurd is
by_refusal from words bytes refusal b m a outcome.Changed read long is said = absurd is
by_refusal from words bytes refusal b m a (outcome.NotPrototype name line) read long is said = absurd is
by_refusal from words bytes refusal b m a (outcome.BadWord number) read long is said = absurd is
by_refusal from words bytes refusal b m a (outcome.NotThere name) read long is said = absurd is
by_refusal from words bytes refusal b m a (outcome.Unread place) read long is said = absurd is
by_refusal from words bytes refusal b m a (outcome.Unwritten place) read long is said = absurd is
by_refusal from words bytes refusal b m a (outcome.NoFreeName number) read long is said = absurd is

by_result : (from : Place) (words : List (List ℕ)) (b m a : ShelfState) (result : Result (Unit {0}) SplitFail) (ended : Outcome) → SplitEnded from b m result
    → IsSplitOutcome from result ended → Said (line_of words ended) m a → (IsSilent ended → a ≡ m) → SplitRows from b a (status_of ended)
by_result from words b m a (Ok done) ended h is said silent =
    by_outcome from words b m a ended outcome.Done is said (λ line. rows-done from h.0 b m a h.1 h.2 (silent (subst IsSilent (sym is) tt)))
by_result from words b m a (Err fail.NoMemory) ended h is said silent =
    by_outcome from words b m a ended outcome.NoMemory is said (λ line. rows-no_memory from b m a h line)
by_result from words b m a (Err fail.NotThere) ended h is said silent = by_missing from words b m a ended h is said
by_result from words b m a (Err fail.Unread) ended h is said silent =
    by_outcome from words b m a ended (outcome.Unread from) is said (λ line. rows-unread from b m a h line)
by_result from words b m a (Err (fail.Refused refusal)) ended h is said silent = by_refusal from words h.0 refusal b m a ended h.1 h.2 is said
by_result from words b m a (Err (fail.Unasked name)) ended h is said silent =
    by_outcome from words b m a ended (outcome.Unread (File name)) is said (λ line. rows-unasked from h.0 name b m a h.1 h.2 line)
by_result from words b m a (Err (fail.NoFreeName number)) ended h is said silent =
    by_outcome from words b m a ended (outcome.NoFreeName number) is said (λ line. rows-no_free_name from h.0 number b m a h.1 h.2 line)
by_result from words b m a (Err (fail.Unwritten place)) ended h is said silent =
    by_outcome from words b m a ended (outcome.Unwritten place) is said (λ line. by_half from h.0 place b m a h.1 h.2 h.2.half line)

pub rows-split : (from : Place) (words : List (List ℕ)) (b m a : ShelfState) (ended : Outcome) → SplitRan from b m ended → Said (line_of words ended) m a
    → (IsSilent ended → a ≡ m) → SplitRows from b a (status_of ended)
rows-split from words b m a ended ran said silent = by_result from words b m a ran.result ended ran.split ran.outcome_is said silent
