use Rattle.std.proofs.Common.{◌≡◌, ℕ, zero, suc, List, [], refl, append-nil}
use Rattle.std.specs.Prelude.{map}
use Rattle.rv_isa.specs.Words.{word_of}
use Rattle.rv_isa.specs.declared.operations.Op.{Op}
use Rattle.frame_layout.specs.declared.layout.Layout.{Layout}
use Rattle.frame_layout.specs.Templates.{zero_locals}
use Rattle.table_calls.proofs.prologue.emit_prologue.Goals as goal

-- no declared locals, and some
none : (l : Layout) (locals : ℕ) → locals ≡ 0 → zero_locals l locals ≡ []
none l zero e = refl
none l (suc n) e = absurd cc

some : (l : Layout) (zeros : List Op) (locals : ℕ) → (locals ≡ 0 → ⊥) → ((n : ℕ) → zeros ≡ zero_locals l (suc n)) → zeros ≡ zero_locals l locals
some l zeros zero more are = absurd (more refl)
some l zeros (suc n) more are = are n

pub returns-then-layout-eq0-clause-ok : goal.returns-then-layout-eq0-clause-ok
returns-then-layout-eq0-clause-ok c =
    rw (none c.args.layout.now c.args.layout.now.locals c.if-layout-eq0.true)
    (rw (c.room.ensures, c.from.ensures, c.need.ensures, c.slot_store.ensures, c.link.ensures) at c.append.ensures.ok)

pub returns-else-layout-eq0-clause-ok : goal.returns-else-layout-eq0-clause-ok
returns-else-layout-eq0-clause-ok c =
    let layout = c.args.layout.now in
    let zeros : c.zeros.result ≡ zero_locals layout layout.locals = some layout c.zeros.result layout.locals c.if-layout-eq0.false c.zeros.ensures in
    rw (c.room.ensures, c.from.ensures, c.need.ensures, c.slot_store.ensures, c.link.ensures, append-nil (map word_of c.zeros.result), zeros) at c.append_around.ensures.ok
