use Rattle.std.proofs.Common.{◌≡◌, ◌+◌, ◌≤◌, List, ℕ, length, ap, arith}
use Rattle.rv_isa.specs.Values.{store_width}
use Rattle.linear_memory.specs.Linear.{Linear}
use Rattle.linear_memory.proofs.memory.LinearMemory.store_behind.Goals as goal

pub store_value-requires : goal.store_value-requires
store_value-requires c =
    let backed : length c.self-2.inside.stored.items ≡ c.back.new.self.backed = ap (λ (m : Linear). m.backed) c.self-2.view_is in
    let width : c.store_width.result ≡ store_width c.args.op = c.store_width.ensures in
    let inside : c.args.at + store_width c.args.op ≤ c.self.inside.size = omega (arith, c.if-size-end.false, width) in
    let least : c.args.at + store_width c.args.op ≤ c.min.result = omega (arith, c.min.ensures, width, inside) in
    let all : length c.deref_mut.result.now ≡ length c.self-2.inside.stored.items = ap (λ (l : List ℕ). length l) c.deref_mut.ensures.value in
    omega (arith, backed, c.back.ensures.backed, all, least)
