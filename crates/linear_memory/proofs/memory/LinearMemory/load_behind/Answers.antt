use Rattle.std.proofs.Common.{◌≡◌, ◌+◌, ◌≤◌, ◌<◌, length, Some, ℕ, ap, ◌∙◌, arith}
use Rattle.rv_isa.specs.Values.{load_width}
use Rattle.linear_memory.specs.Linear.{Linear}
use Rattle.linear_memory.proofs.LinearLaws.{loaded_behind, row_of}
use Rattle.linear_memory.proofs.memory.LinearMemory.load_behind.Goals as goal

pub returns : goal.returns
returns c =
    let stored = c.self.inside.stored in
    let size = c.self.inside.size in
    let backed : length stored.items ≡ c.args.self.now.backed = ap (λ (m : Linear). m.backed) c.self.view_is in
    let width : c.load_width.result ≡ load_width c.args.op = c.load_width.ensures in
    let inside : c.args.at + load_width c.args.op ≤ size = omega (arith, c.if-self-at.false, width) in
    let behind : length stored.items < c.args.at + load_width c.args.op = omega (arith, backed, c.requires.behind) in
    let within : length stored.items ≤ size = omega (arith, stored.ok.0, c.self.invariant.within) in
    let row = row_of c.deref.result.now stored.items c.copy_from_slice.new.self c.args.at c.min.result c.deref.ensures.value (omega (arith, c.min.ensures, c.len.ensures, stored.ok.0)) c.copy_from_slice.ensures.after in
    ap (λ (v : ℕ). Some v) c.load_value.ensures ∙ loaded_behind c.args.op c.args.at size stored.items _ c.args.self.now c.self.view_is inside behind within row
