use Rattle.std.proofs.Common.{ℕ, ◌<◌, refl, subst, take, drop}
use Rattle.leb_feed.proofs.Casts.{unsigned_natural, cast_fits}
use Rattle.section_reader.proofs.Declaring.{any_bytes}
use Rattle.section_reader.proofs.functions.index_at.Goals as goal

pub overflow_cast-index : goal.overflow_cast-index
overflow_cast-index c =
    let h = (c.in-Number.ensures.number c.in-Number.number c.in-Number.next).0 refl in
    cast_fits c.in-Number.number (unsigned_natural c.in-Number.number 32 (take h.0 (drop c.args.place c.args.bytes.now)) h.2.1)

pub returns-then-from-types : goal.returns-then-from-types
returns-then-from-types c =
    any_bytes c.args.types c.args.bytes.now c.args.place c.in-Number.number c.in-Number.next _ c.requires c.in-Number.ensures.exact ((c.in-Number.ensures.number c.in-Number.number c.in-Number.next).0 refl) refl
    (subst (λ (k : ℕ). k < c.args.types) c.from.ensures c.if-from-types.true)
