use Rattle.std.proofs.Common.{subst, arith}
use Rattle.run_bytes.specs.Layout.{IsInside}
use Rattle.run_bytes.proofs.PlaceLemmas.{extent-bytes, extent-values}
use Rattle.run_bytes.proofs.places.extent.Goals as goal

pub returns-in-Bytes-clause-value : goal.returns-in-Bytes-clause-value
returns-in-Bytes-clause-value c marks same = extent-bytes c.args.place c.in-Bytes.from c.in-Bytes.len c.args.bytes.now marks c.args.values.now c.in-Bytes.is same c.requires

pub returns-in-Bytes-clause-small : goal.returns-in-Bytes-clause-small
returns-in-Bytes-clause-small c = let inside = subst (λ place. IsInside place c.args.bytes.now c.args.values.now) c.in-Bytes.is c.requires in omega (arith, inside)

pub returns-in-Values-clause-value : goal.returns-in-Values-clause-value
returns-in-Values-clause-value c marks same =
    extent-values c.args.place c.in-Values.from c.in-Values.len c.in-Values.holds c.args.bytes.now marks c.args.values.now c.in-Values.is c.requires

pub returns-in-Values-clause-small : goal.returns-in-Values-clause-small
returns-in-Values-clause-small c = let inside = subst (λ place. IsInside place c.args.bytes.now c.args.values.now) c.in-Values.is c.requires in omega (arith, inside)
