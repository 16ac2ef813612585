use Rattle.std.proofs.Common.{length, drop, take, refl, ap, subst, sym, ℤ, arith}
use Rattle.wasm_defs.specs.Numbers.{Spells}
use Rattle.leb_feed.proofs.Casts.{spelled_bounds, wide_is}
use Rattle.leb_feed.proofs.fields.Fields.number.Goals as goal

pub advance-requires : goal.advance-requires
advance-requires c =
    let h = (c.in-Number.ensures.number c.in-Number.n c.in-Number.len).0 refl in
    omega (arith, h.1, h.2.0, ap length c.window.ensures)

pub returns-in-Number-clause-spelled : goal.returns-in-Number-clause-spelled
returns-in-Number-clause-spelled c =
    let h = (c.in-Number.ensures.number c.in-Number.n c.in-Number.len).0 refl in
    let bytes = take h.0 (drop 0 c.window.result.now) in
    let same = wide_is c.in-Number.n (spelled_bounds c.in-Number.n c.args.bits c.args.signed bytes c.requires.few_bits h.2.1) in
    (bytes, subst (λ (z : ℤ). Spells z c.args.bits c.args.signed bytes) (sym same) h.2.1)
