use Rattle.std.proofs.Common.{ℕ, refl, ap}
use Rattle.wasm_defs.specs.Fields.{Got, nat_of, u32}
use Rattle.leb_feed.proofs.Casts.{unsigned_natural, cast_fits, cast_is}
use Rattle.leb_feed.proofs.fields.Fields.u32.Goals as goal

pub overflow_cast-result : goal.overflow_cast-result
overflow_cast-result c =
    let spelled = c.in_ok-at.ensures.spelled in
    cast_fits c.in_ok-at.n (unsigned_natural c.in_ok-at.n 32 spelled.0 spelled.1)

pub returns-clause-read : goal.returns-clause-read
unfolding u32
returns-clause-read c =
    let spelled = c.in_ok-at.ensures.spelled in
    let e = cast_is c.in_ok-at.n nat_of (λ v. refl) (unsigned_natural c.in_ok-at.n 32 spelled.0 spelled.1) in
    rw c.in_ok-at.ensures.read (ap (λ (k : ℕ). Got (c.in_ok-at.at, k) c.number.new.self) e)
