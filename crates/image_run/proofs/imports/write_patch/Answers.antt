use Rattle.std.proofs.Common.{◌≡◌, true, ◌+◌, ◌&&◌, length, sym, ◌∙◌, arith}
use Rattle.std.proofs.lemmas.Bool.{and_parts, leb-true}
use Rattle.std.specs.Prelude.{nat_le}
use Rattle.wasm_defs.specs.Host.{most_patched}
use Rattle.image_run.proofs.PatchLaws.{patch_goes, front_written, front_bytes}
use Rattle.image_run.proofs.imports.write_patch.Goals as goal

pub returns-clause-written : goal.returns-clause-written
returns-clause-written c =
    let p = c.in-Some.patch in
    let m = c.args.machine.now in
    let whole : length p.bytes ≡ 8 = omega arith in
    let ok : (nat_le p.len most_patched && nat_le (p.place + p.len) c.args.size) ≡ true = sym c.fits.ensures ∙ c.if-not-fits.false in
    let few = leb-true p.len most_patched (and_parts (nat_le p.len most_patched) (nat_le (p.place + p.len) c.args.size) ok).0 in
    let e = front_written m c.write_memory.new.machine p.place c.from-count.result p.len p.bytes c.from-count.ensures (omega (arith, few, whole)) c.write_memory.ensures.written in
    rw c.in-Some.is (patch_goes p c.args.size m c.write_memory.new.machine c.requires.memory whole ok (front_bytes c.from-count.result p.len p.bytes c.from-count.ensures c.write_memory.ensures.bytes) e)
