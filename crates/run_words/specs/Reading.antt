-- What is answered for the words of a run.
use Rattle.std.specs.Prelude.{◌≡◌, ℕ, List, drop, Result, Ok, Err}
use Rattle.run_words.specs.declared.request.RunRequest.{RunRequest}
use Rattle.run_words.specs.declared.request.RunReading.{RunReading}
use Rattle.run_words.specs.declared.request.RunWordsFail.{RunWordsFail}
use Rattle.run_words.specs.declared.request.RunWordsFail.TheVariants.{BadWord, NoMemory}
use Rattle.run_words.specs.RunWords.{nothing_asked, asked_by, first_other, run_of}

-- what the words behind the first ask for, and the first with which no run goes on
pub record IsReadTo (words : List (List ℕ)) (reading : RunReading) : Type 0 where
  pub request : reading.request ≡ asked_by nothing_asked (drop 1 words)
  pub other : reading.other ≡ first_other 2 nothing_asked (drop 1 words)

-- nothing is said of when memory is wanting
abbrev pub AnswersRun : List (List ℕ) → Result RunRequest RunWordsFail → Type 0
AnswersRun words (Ok request) = run_of words ≡ Ok request
AnswersRun words (Err (BadWord number)) = run_of words ≡ Err number
AnswersRun words (Err NoMemory) = Unit {0}
