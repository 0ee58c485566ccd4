-- Loops that put parts: what completes the rest completes the whole.
use Rattle.std.proofs.Common.{Result}
use Rattle.c_tree.specs.Drafts.{Scope}
use Rattle.c_tree.specs.FlatForm.{Body, Labels}
use Rattle.expression_linker.specs.declared.failure.LinkFail.{LinkFail}
use Rattle.flat_linker.specs.declared.written.Written.{Written}
use Rattle.flat_linker.specs.PutItems.{PutsBody}

abbrev pub CompletesIn : Body → Body → Scope → Labels → Written → Written → Type 0
CompletesIn whole rest scope labels before now = (r : Result (Unit {0}) LinkFail) (z : Written) → PutsBody r rest scope labels now z → PutsBody r whole scope labels before z

-- in any scope
abbrev pub Completes : Body → Body → Labels → Written → Written → Type 0
Completes whole rest labels before now = (scope : Scope) → CompletesIn whole rest scope labels before now
