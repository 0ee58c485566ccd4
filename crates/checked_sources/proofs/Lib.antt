mod SourceRuns
