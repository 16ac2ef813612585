use Rattle.std.proofs.Common.{◌≢◌, true, refl, arith}
use Rattle.io_edges.specs.Streams.{ReadCounts, ReadsOn}
use Rattle.io_edges.specs.declared.source.Got.{Got}
use Rattle.io_edges.specs.declared.source.Got.TheVariants.{Bytes, End, Failed}
use Rattle.io_edges.proofs.flat.FlatSource.TheImpl.Goals as goal

-- a read that doesn't fail leaves the count as it is
counts_none : (got : Got) → got ≢ Failed → ReadCounts got 0 0
counts_none (Bytes n) never = refl
counts_none End never = refl
counts_none Failed never = absurd (never refl)

-- it is always open
stays_open : (got : Got) → ReadsOn got true
stays_open (Bytes n) = refl
stays_open End = tt
stays_open Failed = tt

pub read-tells : goal.read-tells
read-tells g c = record {
  bytes = c.ensures.bytes;
  cause = counts_none c.result c.ensures.never_fails;
  never_falls = omega arith;
  on = stays_open c.result;
}
