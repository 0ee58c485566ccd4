-- How the steps of splitting a file end, together.
use Rattle.std.proofs.Common.{◌≡◌, ℕ, suc, List, [], ◌∷◌, length, take, refl, sym, ap, subst, ◌∙◌, arith, Option, Some, None, Result, Ok, Err}
use Rattle.std.specs.Prelude.{IfSome, IfErr, OnOk, bytes_eq}
use Rattle.std.specs.List.{concat, IsDistinct}
use Rattle.f2c_outside.specs.declared.shelves.Place.{Place}
use Rattle.f2c_outside.specs.Shelf.{Contents, ShelfState, Rose, Lacks, bytes_of}
use Rattle.f_tree.specs.declared.refusals.Refusal.{Refusal}
use Rattle.fsplit.specs.fortran_text.FirstFault.{too_long}
use Rattle.shelf_texts.specs.ShelfLoops.{Both, IsFront, IsKept, IsRead}
use Rattle.shelf_texts.proofs.Writing.{front_of}
use Rattle.fsplit.specs.split_pieces.Pieces.{Piece, texts_in, pieces_of, AllButLastEnd, IsPastLimit}
use Rattle.fsplit.proofs.PieceLemmas.{texts-pieces_of}
use Rattle.fsplit.specs.split_pieces.ChosenNames.{chosen_names}
use Rattle.piece_choice.specs.piece_names.Asking.{has, OnlyAsked}
use Rattle.piece_choice.specs.NamesOfPieces.{wanted_names, AreChosen, AreNew}
use Rattle.piece_writer.specs.WrittenPieces.{AreMadeUpTo}
use Rattle.split_command.specs.Listing.{listing}
use Rattle.split_command.specs.SplitFiles.{IsSplit, IsAllWritten, IsHalfListed, IsHalfSplit, at_piece, at_listing, IsHalfWritten}
use Rattle.split_command.specs.SplitEnds.{IsCut, IsSplitInto, IsSplitUpTo, BytesSplit, Holds, HoldsMore, SplitEnded}
use Rattle.split_command.specs.declared.failing.SplitFail.{SplitFail}
use Rattle.split_command.specs.declared.failing.SplitFail.TheVariants as fail
use Rattle.split_command.proofs.FrontLemmas.{whole_where_within, past_where_past}

-- BEFORE A STEP that changed nothing the shelf held the same
pub record IsStill (b m : ShelfState) : Type 0 where
  pub same : m.told ≡ b.told
  pub quiet : m.faults ≡ b.faults

rose_before : (b m a : ShelfState) → IsStill b m → Rose m.faults a.faults → Rose b.faults a.faults
rose_before b m a still rose = subst (λ n. Rose n a.faults) still.quiet rose

kept_before : (b m a : ShelfState) → IsStill b m → IsKept m a → IsKept b a
kept_before b m a still kept = record { same = kept.same ∙ still.same; later = let later = kept.later in omega (arith, still.quiet) }

half_before : (names texts : List (List ℕ)) (place : Place) (b m a : ShelfState) → IsStill b m → IsHalfSplit names texts place m a → IsHalfSplit names texts place b a
half_before names texts place b m a still (at_piece h) =
    let not_less = h.not_less in
    at_piece
    (record {
      before = h.before;
      name = h.name;
      behind = h.behind;
      names_are = h.names_are;
      earlier = h.earlier;
      text = h.text;
      later = h.later;
      texts_are = h.texts_are;
      named = h.named;
      rose = rose_before b m a still h.rose;
      not_less = omega (arith, still.quiet);
      made = subst (λ o. Both o a.told (AreMadeUpTo h.before h.earlier h.name h.text)) still.same h.made;
    })
half_before names texts place b m a still (at_listing is h) =
    let not_less = h.not_less in
    at_listing is
    (record {
      rose = rose_before b m a still h.rose;
      not_less = omega (arith, still.quiet);
      split = subst (λ o. Both o a.told (IsHalfListed names texts)) still.same h.split;
    })

cut_before : (bytes : List ℕ) (names texts : List (List ℕ)) (o p : Option Contents) → p ≡ o → IsCut bytes names texts p → IsCut bytes names texts o
cut_before bytes names texts o p same cut = subst (IsCut bytes names texts) same cut

into_before : (bytes : List ℕ) (b m a : ShelfState) → IsStill b m → IsSplitInto bytes m a → IsSplitInto bytes b a
into_before bytes b m a still h = record {
  names = h.names;
  texts = h.texts;
  cut = cut_before bytes h.names h.texts b.told m.told still.same h.cut;
  quiet = h.quiet ∙ still.quiet;
  split = subst (λ o. Both o a.told (IsSplit h.names h.texts (listing h.names))) still.same h.split;
}

up_to_before : (bytes : List ℕ) (place : Place) (b m a : ShelfState) → IsStill b m → IsSplitUpTo bytes place m a → IsSplitUpTo bytes place b a
up_to_before bytes place b m a still h = record {
  names = h.names;
  texts = h.texts;
  cut = cut_before bytes h.names h.texts b.told m.told still.same h.cut;
  half = half_before h.names h.texts place b m a still h.half;
}

-- FROM THE BYTES of a file to its pieces
as_many_texts : (pieces : List Piece) → length (texts_in pieces) ≡ length pieces
as_many_texts [] = refl
as_many_texts (p ∷ more) = ap suc (as_many_texts more)

cut_into : (bytes : List ℕ) (pieces : List Piece) (names : List (List ℕ)) (told : Option Contents) → too_long bytes ≡ None → pieces ≡ pieces_of bytes
    → concat (texts_in pieces) ≡ bytes → AllButLastEnd (texts_in pieces) → length names ≡ length pieces → AreChosen pieces names told → IsDistinct bytes_eq names
    → AreNew names told → IsCut bytes names (texts_in pieces) told
cut_into bytes pieces names told within pieces_are joined ended counted chosen apart absent = record {
  within = within;
  texts_are = ap texts_in pieces_are ∙ texts-pieces_of bytes;
  joined = joined;
  ended = ended;
  counted = counted ∙ sym (as_many_texts pieces);
  chosen = subst (λ ps. AreChosen ps names told) pieces_are chosen;
  apart = apart;
  absent = absent;
}

pub bytes_split : (bytes : List ℕ) (pieces : List Piece) (names : List (List ℕ)) (b m a : ShelfState) (r : Result (Unit {0}) SplitFail) → too_long bytes ≡ None
    → pieces ≡ pieces_of bytes → concat (texts_in pieces) ≡ bytes → AllButLastEnd (texts_in pieces) → length names ≡ length pieces → AreChosen pieces names b.told
    → IsDistinct bytes_eq names → AreNew names b.told → OnlyAsked b m → m.faults ≡ b.faults → OnOk r (IsAllWritten names (texts_in pieces) m a)
    → IfErr r (IsHalfWritten names (texts_in pieces) m a) → BytesSplit bytes b a r
bytes_split bytes pieces names b m a (Ok done) within pieces_are joined ended counted chosen apart absent asked quiet written half = record {
  names = names;
  texts = texts_in pieces;
  cut = cut_into bytes pieces names b.told within pieces_are joined ended counted chosen apart absent;
  quiet = written.quiet ∙ quiet;
  split = subst (λ o. Both o a.told (IsSplit names (texts_in pieces) (listing names))) asked.told written.split;
}
bytes_split bytes pieces names b m a (Err (fail.Unwritten place)) within pieces_are joined ended counted chosen apart absent asked quiet written half = record {
  names = names;
  texts = texts_in pieces;
  cut = cut_into bytes pieces names b.told within pieces_are joined ended counted chosen apart absent;
  half = half_before names (texts_in pieces) place b m a (record { same = asked.told; quiet = quiet }) half;
}
bytes_split bytes pieces names b m a (Err fail.NoMemory) within pieces_are joined ended counted chosen apart absent asked quiet written half = absurd half
bytes_split bytes pieces names b m a (Err fail.NotThere) within pieces_are joined ended counted chosen apart absent asked quiet written half = absurd half
bytes_split bytes pieces names b m a (Err fail.Unread) within pieces_are joined ended counted chosen apart absent asked quiet written half = absurd half
bytes_split bytes pieces names b m a (Err (fail.Refused refusal)) within pieces_are joined ended counted chosen apart absent asked quiet written half = absurd half
bytes_split bytes pieces names b m a (Err (fail.Unasked name)) within pieces_are joined ended counted chosen apart absent asked quiet written half = absurd half
bytes_split bytes pieces names b m a (Err (fail.NoFreeName number)) within pieces_are joined ended counted chosen apart absent asked quiet written half = absurd half

-- FROM THE PLACE
has_read : (from : Place) (bytes : List ℕ) (told : Option Contents) → too_long bytes ≡ None → IfSome told (λ c. ¬ Lacks from c)
    → IfSome told (λ c. bytes ≡ take 16777217 (bytes_of from c)) → IfSome told (Holds from bytes)
has_read from bytes None within there front = tt
has_read from bytes (Some c) within there front = record { there = there; bytes_are = whole_where_within bytes (bytes_of from c) front within }

has_read_front : (from : Place) (bytes : List ℕ) (refusal : Refusal) (told : Option Contents) → IsPastLimit bytes refusal.card refusal.kind → IfSome told (λ c. ¬ Lacks from c)
    → IfSome told (λ c. bytes ≡ take 16777217 (bytes_of from c)) → IfSome told (HoldsMore from bytes refusal)
has_read_front from bytes refusal None past there front = tt
has_read_front from bytes refusal (Some c) past there front = record {
  there = there;
  front = subst (λ part. IsFront part (bytes_of from c)) (sym front) (front_of 16777217 (bytes_of from c));
  past = past_where_past bytes (bytes_of from c) refusal.card refusal.kind front past;
}

read_still : (from : Place) (bytes : List ℕ) (b m : ShelfState) → IsRead from 16777217 b m bytes → IsStill b m
read_still from bytes b m read = record { same = read.kept.same; quiet = read.quiet }

of_place : (from : Place) (bytes : List ℕ) (b m a : ShelfState) (r : Result (Unit {0}) SplitFail) → IsRead from 16777217 b m bytes → BytesSplit bytes m a r → SplitEnded from b a r
of_place from bytes b m a (Ok done) read h =
    let still = read_still from bytes b m read in
    (bytes, has_read from bytes b.told h.cut.within read.there read.front, into_before bytes b m a still h)
of_place from bytes b m a (Err (fail.Unwritten place)) read h =
    let still = read_still from bytes b m read in
    (bytes, has_read from bytes b.told h.cut.within read.there read.front, up_to_before bytes place b m a still h)
of_place from bytes b m a (Err (fail.Refused refusal)) read h =
    let still = read_still from bytes b m read in (
      bytes,
      has_read_front from bytes refusal b.told h.past read.there read.front,
      record { kept = kept_before b m a still h.kept; file = h.file; past = h.past },
    )
of_place from bytes b m a (Err (fail.Unasked name)) read h =
    let still = read_still from bytes b m read in (
      bytes,
      has_read from bytes b.told h.within read.there read.front,
      record { kept = kept_before b m a still h.kept; within = h.within; in_question = h.in_question; rose = rose_before b m a still h.rose },
    )
of_place from bytes b m a (Err (fail.NoFreeName number)) read h =
    let still = read_still from bytes b m read in (
      bytes,
      has_read from bytes b.told h.within read.there read.front,
      record { kept = kept_before b m a still h.kept; within = h.within; none_free = subst (λ o. IfSome o (λ c. chosen_names (has c) (wanted_names (pieces_of bytes)) ≡ Err number)) still.same h.none_free },
    )
of_place from bytes b m a (Err fail.NoMemory) read h = kept_before b m a (read_still from bytes b m read) h
of_place from bytes b m a (Err fail.NotThere) read h = absurd h
of_place from bytes b m a (Err fail.Unread) read h = absurd h

pub place_split : (from : Place) (bytes part : List ℕ) (b m a : ShelfState) (r : Result (Unit {0}) SplitFail) → part ≡ bytes → IsRead from 16777217 b m bytes
    → BytesSplit part m a r → SplitEnded from b a r
place_split from bytes part b m a r same read h = of_place from bytes b m a r read (subst (λ l. BytesSplit l m a r) same h)
