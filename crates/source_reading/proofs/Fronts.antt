-- Prefixes of a source's bytes, over several calls.
use Rattle.std.proofs.Common.{◌≤◌, ℕ, List, [], ◌++◌, take, Option, sym, ap, ◌∙◌, arith}
use Rattle.std.specs.Io.KnownBytes.{prepend_known}
use Rattle.io_edges.specs.declared.source.Got.{Got}
use Rattle.io_edges.specs.declared.source.Got.TheVariants.{Bytes, End, Failed}
use Rattle.io_edges.specs.Streams.{Reads, TookFront}
use Rattle.io_edges.proofs.Known.{prepend_more, prepend_nothing}

-- nothing was read
pub took_nothing : (left : Option (List ℕ)) (count : ℕ) → TookFront left count left count
took_nothing left count = record {
  came = [];
  took = sym (prepend_nothing left);
  counts = omega arith;
}

-- what two calls took, one after the other
pub took_more : (first left last : Option (List ℕ)) (before now then : ℕ) → TookFront first before left now → TookFront left now last then → TookFront first before last then
took_more first left last before now then one two = record {
  came = one.came ++ two.came;
  took = one.took ∙ ap (λ (k : Option (List ℕ)). prepend_known one.came k) two.took ∙ prepend_more last one.came two.came;
  counts = omega (arith, one.counts, two.counts);
}

-- what one read took
pub took_read : (r : Got) (buffer : List ℕ) (left last : Option (List ℕ)) (before now : ℕ) → Reads r buffer left last → before ≤ now → TookFront left before last now
took_read (Bytes n) buffer left last before now r counts = record {
  came = take n buffer;
  took = r.2;
  counts = counts;
}
took_read End buffer left last before now r counts = record {
  came = [];
  took = sym r.1 ∙ sym (prepend_nothing last);
  counts = counts;
}
took_read Failed buffer left last before now r counts = record {
  came = [];
  took = sym r ∙ sym (prepend_nothing last);
  counts = counts;
}
