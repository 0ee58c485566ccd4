-- The files that are named, up to the first that has a fault.
use Rattle.std.specs.Prelude.{◌≡◌, ◌<◌, ◌≤◌, ◌+◌, ℕ, suc, Bool, List, [], ◌∷◌, ◌++◌, length, take, Option, Some, None}
use Rattle.std.proofs.Common.{refl, sym, ap, ◌∙◌, subst, arith, get_or, length-take}
use Rattle.std.proofs.lemmas.List.{take_all}
use Rattle.std.proofs.lemmas.Option.{slice_get-get_or}
use Rattle.f_tree.specs.declared.names.Options.{Options}
use Rattle.f_tree.specs.declared.refusals.Fail.{Fail}
use Rattle.f_tree.specs.declared.refusals.Fail.TheVariants as fail
use Rattle.f_tree.specs.declared.refusals.Refusal.{Refusal}
use Rattle.fortran_text.specs.FirstFault.{FaultOfFile, IsFirst, IsSound, IsFailure}
use Rattle.fortran_text.specs.StatementsOfFile.{FileCards, file_cards}
use Rattle.source_acceptance.specs.SourceFiles.{names_in, statements_in, mentioned_from, first_mentions}
use Rattle.source_reader.specs.Along.{Along, no_pair, one_pair}
use Rattle.source_reader.specs.Mentions.{mentioned_in_cards}
use Rattle.source_reader.specs.SourceReading.{IsFileRead, IsRefusedAt, AreFilesRead, IsNamed}
use Rattle.source_reader.proofs.AlongLemmas.{along_length, along_step, along_all}

-- how many files are read
pub read_length : (refused : Bool) (files : List (List ℕ)) (i : ℕ) (cards : List FileCards) → i ≤ length files → Along (IsFileRead refused) 0 (take i files) cards →
    length cards ≡ i
read_length refused files i cards within so_far =
    sym (along_length (IsFileRead refused) 0 (take i files) cards so_far) ∙ (let e : length (take i files) ≡ i = omega (arith, length-take i files) in e)

pub reading_goes_on : (refused : Bool) (files : List (List ℕ)) (i : ℕ) (item bytes : List ℕ) (cards next : List FileCards) (more : FileCards) → i < length files →
    item ≡ get_or files i item → bytes ≡ item → Along (IsFileRead refused) 0 (take i files) cards → IsSound (FaultOfFile refused bytes) → more ≡ file_cards i bytes →
    next ≡ cards ++ more ∷ [] → Along (IsFileRead refused) 0 (take (i + 1) files) next
reading_goes_on refused files i item bytes cards next more within is same so_far sound cards_are next_is =
    subst (λ l. Along (IsFileRead refused) 0 (take (i + 1) files) l) (sym next_is)
    (along_step (IsFileRead refused) files cards i item more within is so_far
    (subst (λ b. IsFileRead refused i b more) same (record { sound = sound; cards_are = cards_are })))

pub stopped : (refused : Bool) (files : List (List ℕ)) (i : ℕ) (item bytes : List ℕ) (cards : List FileCards) (r : Refusal) (f : Fail) → i < length files →
    item ≡ get_or files i item → bytes ≡ item → Along (IsFileRead refused) 0 (take i files) cards → f ≡ fail.Refused r →
    IsFailure i (FaultOfFile refused bytes) f → AreFilesRead refused files cards (Some r)
stopped refused files i item bytes cards r f within is same so_far row failed =
    let many : length cards ≡ i = read_length refused files i cards (omega arith) so_far in
    let own : (r.file ≡ i) × IsFirst (FaultOfFile refused bytes) r.card r.kind = subst (λ g. IsFailure i (FaultOfFile refused bytes) g) row failed in
    record {
      read = subst (λ n. Along (IsFileRead refused) 0 (take n files) cards) (sym many) so_far;
      stop = subst (λ n. IsRefusedAt refused files n r) (sym many)
          (record {
            bytes = item;
            is = slice_get-get_or files i item within ∙ ap Some (sym is);
            in_file = own.0;
            first = subst (λ b. IsFirst (FaultOfFile refused b) r.card r.kind) same own.1;
          });
    }

pub all_read : (refused : Bool) (files : List (List ℕ)) (i : ℕ) (cards : List FileCards) → length files ≤ i →
    Along (IsFileRead refused) 0 (take i files) cards → AreFilesRead refused files cards None
all_read refused files i cards past so_far =
    let all : Along (IsFileRead refused) 0 files cards = along_all (IsFileRead refused) files cards i past so_far in
    let many : length files ≡ length cards = along_length (IsFileRead refused) 0 files cards all in
    record {
      read = subst (λ l. Along (IsFileRead refused) 0 l cards) (sym (take_all (length cards) files (omega arith))) all;
      stop = omega arith;
    }

-- what the cards mention is what the files mention
first_bytes : (file : ℕ) (bytes : List ℕ) (more : List (List ℕ)) → mentioned_from file (bytes ∷ more) ≡ names_in (statements_in file bytes) ++ mentioned_from (suc file) more
unfolding mentioned_from
first_bytes file bytes more = refl

no_bytes : (file : ℕ) → mentioned_from file [] ≡ []
unfolding mentioned_from
no_bytes file = refl

first_cards : (cards : FileCards) (more : List FileCards) → mentioned_in_cards (cards ∷ more) ≡ names_in cards.statements ++ mentioned_in_cards more
unfolding mentioned_in_cards
first_cards cards more = refl

no_cards : mentioned_in_cards [] ≡ []
unfolding mentioned_in_cards
no_cards = refl

statements_are : (file : ℕ) (bytes : List ℕ) → statements_in file bytes ≡ (file_cards file bytes).statements
unfolding statements_in
statements_are file bytes = refl

pub mentioned_same : (refused : Bool) (file : ℕ) (files : List (List ℕ)) (cards : List FileCards) → Along (IsFileRead refused) file files cards →
    mentioned_in_cards cards ≡ mentioned_from file files
mentioned_same refused file _ _ (no_pair _) = no_cards ∙ sym (no_bytes file)
mentioned_same refused file _ _ (one_pair _ bytes cards files more is others) =
    first_cards cards more
    ∙ (ap (λ (f : FileCards). names_in f.statements ++ mentioned_in_cards more) is.cards_are
    ∙ (ap (λ l. names_in l ++ mentioned_in_cards more) (sym (statements_are file bytes))
    ∙ (ap (λ l. names_in (statements_in file bytes) ++ l) (mentioned_same refused (suc file) files more others) ∙ sym (first_bytes file bytes files))))

pub named_are : (options : Options) (files : List (List ℕ)) (cards : List FileCards) (r : Option Refusal) (mentions names : List (List ℕ)) →
    AreFilesRead options.long_cards files cards r → mentions ≡ mentioned_in_cards cards → names ≡ first_mentions [] mentions →
    IsNamed options files (record { files = cards; refused = r; names = names })
named_are options files cards r mentions names read mentions_are names_are = record {
  read = read.read;
  stop = read.stop;
  names = names_are ∙ ap (λ l. first_mentions [] l) (mentions_are ∙ mentioned_same options.long_cards 0 (take (length cards) files) cards read.read);
}
