-- What each exit status says follows from how the command ended and from its message.
use Rattle.std.proofs.Common.{◌≡◌, ℕ, ◌<◌, List, refl, ap, ◌∙◌, subst, inl, inr, arith}
use Rattle.f2c_outside.specs.Shelf.{ShelfState}
use Rattle.outcomes.specs.declared.outcome.Outcome.{Outcome}
use Rattle.outcomes.specs.declared.outcome.Outcome.TheVariants as outcome
use Rattle.outcomes.specs.Outcomes.{status_of, IsSilent}
use Rattle.outcomes.specs.Lines.{line_of, bad_word_line}
use Rattle.outcomes.proofs.ToldLemmas.{gained}
use Rattle.output_names.specs.WordPlaces.{outputs_of, files_named, prototypes_named}
use Rattle.shelf_texts.specs.Messages.{Said}
use Rattle.command_words.specs.declared.command.Command.{Command}
use Rattle.command_words.specs.declared.command.Command.TheVariants as command
use Rattle.command_words.specs.CommandWords.{place_from}
use Rattle.checked_sources.specs.CheckedSources.{EachCheckedSourceRuns}
use Rattle.f2c_program.specs.TranslateRows.{job_of}
use Rattle.f2c_program.specs.TopCall.{WroteUsage, Ran, Commanded, HelpRows, BadWordRows, BadWordEnded}
use Rattle.f2c_program.proofs.CheckRowLemmas.{rows_check}
use Rattle.f2c_program.proofs.SplitRowLemmas.{rows-split}
use Rattle.f2c_program.proofs.TranslateRowLemmas.{rows_translate}

rows_bad_word :
    (words : List (List ℕ)) (number : ℕ) (b m a : ShelfState) (ended : Outcome)
    → BadWordEnded number b m ended
    → Said (line_of words ended) m a
    → BadWordRows words number b a (status_of ended)
rows_bad_word words number b m a ended ran said =
    let counted : m.faults ≡ b.faults = ap (λ (s : ShelfState). s.faults) ran.same in
    record {
      bad = ap status_of ran.named;
      said =
          gained (bad_word_line words number) b.told b.faults m a (ap (λ (s : ShelfState). s.told) ran.same) (omega (arith, counted))
          (subst (λ (o : Outcome). Said (line_of words o) m a) ran.named said);
    }

rows_help :
    (words : List (List ℕ)) (b m a : ShelfState) (ended : Outcome)
    → WroteUsage b m ended
    → Said (line_of words ended) m a
    → (IsSilent ended → a ≡ m)
    → HelpRows b a (status_of ended)
rows_help words b m a outcome.Done ran said silent =
    record {
      statuses = inl refl;
      shown = λ is. ap (λ (s : ShelfState). s.told) (silent tt) ∙ ran.whole;
      quiet = λ is. ap (λ (s : ShelfState). s.faults) (silent tt) ∙ ran.quiet;
      rose = λ is. absurd (omega arith);
    }
rows_help words b m a (outcome.Unwritten place) ran said silent =
    record {
      statuses = inr refl;
      shown = λ is. absurd (omega arith);
      quiet = λ is. absurd (omega arith);
      rose = λ is below.
          let last = said.later
          in let less : b.faults < m.faults = ran.1.rose (omega arith) in omega arith;
    }
rows_help words b m a outcome.Disagree ran said silent = absurd ran
rows_help words b m a outcome.Changed ran said silent = absurd ran
rows_help words b m a (outcome.Refused refusal name) ran said silent = absurd ran
rows_help words b m a (outcome.NotPrototype name line) ran said silent = absurd ran
rows_help words b m a (outcome.BadWord number) ran said silent = absurd ran
rows_help words b m a (outcome.NotThere name) ran said silent = absurd ran
rows_help words b m a (outcome.Unread place) ran said silent = absurd ran
rows_help words b m a (outcome.NoFreeName number) ran said silent = absurd ran
rows_help words b m a outcome.NoMemory ran said silent = absurd ran

pub commanded :
    EachCheckedSourceRuns
    → (words : List (List ℕ)) (asked : Command) (b m a : ShelfState) (ended : Outcome)
    → Ran words asked b m ended
    → Said (line_of words ended) m a
    → (IsSilent ended → a ≡ m)
    → Commanded words asked b a (status_of ended)
commanded law words (command.Translate asked) b m a ended ran said silent =
    rows_translate asked.options words (job_of words asked) (outputs_of asked.prototypes words) b m a ended ran said silent
commanded law words (command.Split origin) b m a ended ran said silent = rows-split (place_from words origin) words b m a ended ran said silent
commanded law words (command.Check options) b m a ended ran said silent =
    rows_check law options words (files_named words) (prototypes_named words) b m a ended ran said silent
commanded law words command.Help b m a ended ran said silent = rows_help words b m a ended ran said silent
commanded law words (command.BadWord number) b m a ended ran said silent = rows_bad_word words number b m a ended ran said
