use Rattle.std.proofs.Common.{◌≡◌, ◌∙◌, length, drop, take, refl, ap, sym, arith, false, ℕ}
use Rattle.wasm_defs.specs.Numbers.{Number, number_at}
use Rattle.leb_feed.proofs.Readings.{was_read}
use Rattle.wasm_defs.specs.Fields.{name, name_from, nat_of, text_after, window}
use Rattle.leb_feed.proofs.Casts.{cut_short, answered_cut, unsigned_natural, cast_fits, cast_is}
use Rattle.leb_feed.proofs.Readers.{reads_same}
use Rattle.leb_feed.proofs.fields.Fields.name.Goals as goal

pub overflow_cast-n : goal.overflow_cast-n
overflow_cast-n c =
    let h = (c.in-Number.ensures.number c.in-Number.n c.in-Number.len).0 refl in
    cast_fits c.in-Number.n (unsigned_natural c.in-Number.n 32 (take h.0 (drop 0 c.window.result.now)) h.2.1)

pub text_after-requires : goal.text_after-requires
text_after-requires c =
    let h = (c.in-Number.ensures.number c.in-Number.n c.in-Number.len).0 refl in
    omega (arith, h.1, h.2.0, ap length c.window.ensures)

pub returns-in-Number-clause-read : goal.returns-in-Number-clause-read
unfolding name
returns-in-Number-clause-read c =
    let h = (c.in-Number.ensures.number c.in-Number.n c.in-Number.len).0 refl in
    let w = was_read 0 (number_at false 32 (drop 0 c.window.result.now)) c.in-Number.n c.in-Number.len c.in-Number.ensures.exact in
    let e = cast_is c.in-Number.n nat_of (λ v. refl) (unsigned_natural c.in-Number.n 32 (take h.0 (drop 0 c.window.result.now)) h.2.1) in
    let len : w.len ≡ c.in-Number.len = omega (arith, w.ends) in
    let there : number_at false 32 (window c.args.self.now) ≡ Number c.in-Number.n c.in-Number.len = ap (number_at false 32) (sym c.window.ensures) ∙ w.read ∙ ap (Number c.in-Number.n) len in
    reads_same name (text_after c.in-Number.len _) _ c.text_after.result c.args.self.now c.text_after.new.self (ap (name_from c.args.self.now) there ∙ ap (λ (k : ℕ). text_after c.in-Number.len k c.args.self.now) e) c.text_after.ensures.read

pub length_owed-requires : goal.length_owed-requires
length_owed-requires c =
    let cut = answered_cut 0 (number_at false 32 (drop 0 c.window.result.now)) c.in-CutOff.ensures.exact in
    let short = cut_short false 32 (drop 0 c.window.result.now) (omega arith) cut in
    omega (arith, short, ap length c.window.ensures)
