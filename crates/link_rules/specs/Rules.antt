-- The numbers of the link rules.
use Rattle.std.specs.Prelude.{ℕ, Bool, true, false, List, Option, Some, None, nat_lt}
use Rattle.c_tree.specs.declared.file.CFile.{CFile}
use Rattle.c_tree.specs.Linking.{byte_limit, bytes_of_objects, program}
use Rattle.link_rules.specs.declared.rules.LinkRule.{LinkRule}
use Rattle.link_rules.specs.declared.rules.LinkRule.TheVariants as rule

abbrev pub rule_number : LinkRule → ℕ
rule_number rule.Main = 1
rule_number rule.Definitions = 2
rule_number rule.Missing = 3
rule_number rule.Bytes = 4

-- the last rule counts where none before it is broken
abbrev pub or_bytes : Option LinkRule → Bool → Option ℕ
or_bytes (Some broken) many = Some (rule_number broken)
or_bytes None true = Some 4
or_bytes None false = None

abbrev pub has_too_many_bytes : List CFile → Bool
has_too_many_bytes files = nat_lt byte_limit (bytes_of_objects (program files).objects)
