-- The lines that list calls which disagree with what they call.
use Rattle.std.specs.Prelude.{ℕ, List, [], ◌++◌, codes, decimal, unwrap_or, slice_get}
use Rattle.std.specs.List.{flat_map}
use Rattle.call_shapes.specs.declared.findings.Finding.{Finding}
use Rattle.call_shapes.specs.declared.findings.Reason.{Reason}
use Rattle.call_shapes.specs.declared.findings.Reason.TheVariants as reason

-- how a call differs
unfoldable pub reason_text : Reason → List ℕ
reason_text reason.AsSubroutine = codes "called as subroutine"
reason_text reason.AsFunction = codes "called as function"
reason_text reason.ResultType = codes "result type"
reason_text (reason.Count actual dummy) = decimal actual ++ (codes " arguments for " ++ decimal dummy)
reason_text (reason.Argument k) = codes "argument " ++ decimal k

-- where a call stands: FILE:CARD
unfoldable pub place_text : List ℕ → ℕ → List ℕ
place_text file card = file ++ (codes ":" ++ decimal card)

-- FILE:CARD: NAME: REASON
unfoldable pub finding_line : List ℕ → Finding → List ℕ
finding_line file f = place_text file f.card ++ (codes ": " ++ (f.name ++ (codes ": " ++ (reason_text f.reason ++ codes "\n"))))

-- the name of the file with a number
unfoldable pub name_at : List (List ℕ) → ℕ → List ℕ
name_at names file = unwrap_or (slice_get names file) []

-- one line for each, given the names of the files in their order
unfoldable pub finding_lines : List (List ℕ) → List Finding → List ℕ
finding_lines names findings = flat_map (λ f. finding_line (name_at names f.file) f) findings
