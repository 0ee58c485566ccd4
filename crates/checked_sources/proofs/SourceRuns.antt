-- A source that is accepted breaks no row of declarations, and each of its cards has one statement.
use Rattle.agreeing_calls.specs.CheckedCalls.{EachCheckedRunAgrees}
use Rattle.card_statements.specs.CardStatements.{EachCardHasOneStatement}
use Rattle.source_verdict.specs.SourceRows.{Checking}
use Rattle.source_verdict.proofs.EarlyPhases.{accepted_declarations}
use Rattle.checked_sources.specs.CheckedSources.{EachCheckedSourceRuns}

pub source_runs : EachCheckedRunAgrees → EachCardHasOneStatement → EachCheckedSourceRuns
source_runs checked one_statement options source set lines g units n accepted none setting mismatched =
    checked options set lines g units n (accepted_declarations Checking options source set accepted) (one_statement source set accepted.spelled) none setting
    mismatched
