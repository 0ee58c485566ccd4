-- What statements are made of, in the words of the definitions (C89, 3.6).
use Rattle.c_statement_readers.specs.PartReader as reader
use Rattle.c_statement_reader.specs.declared.parts.Right.{Right}
use Rattle.c_statement_reader.specs.declared.parts.Right.TheVariants as right
use Rattle.c_statement_reader.specs.declared.heads.Step.{Step}
use Rattle.c_statement_reader.specs.declared.heads.Step.TheVariants as step
use Rattle.c_statement_reader.specs.declared.heads.ForHead.{ForHead}

unfoldable pub seen_right : Right → reader.Right
seen_right (right.Value e) = reader.Value e
seen_right (right.Called one) = reader.Called one

unfoldable pub seen_step : Step → reader.Step
seen_step step.Upward = reader.Upward
seen_step step.Downward = reader.Downward

abbrev pub seen_head : ForHead → reader.ForHead
seen_head head = record { target = head.target; first = head.first; test = head.test; turn = head.turn }
