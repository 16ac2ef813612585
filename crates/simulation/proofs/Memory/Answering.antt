-- The environment's answer to `memory.grow`.
use Rattle.std.proofs.Common.{◌≡◌, ℕ, ◌+◌, ◌-◌, ◌*◌, ◌%◌, ◌^◌, ◌≤◌, ◌==◌, Bool, true, false, nat_le, if◌then◌else◌, take, length, None, Some, refl, sym, ap, subst, ◌∙◌, arith}
use Rattle.std.specs.Prelude.{◌≢◌, ◌||◌}
use Rattle.std.proofs.lemmas.Bool.{leb-true, lt-ltb, false≢true}
use Rattle.rv_isa.specs.Steps.{Registers, reg, set_reg}
use Rattle.rv_isa.proofs.OffsetLaws.{other_registers_stay}
use Rattle.wasm_defs.specs.declared.types.ValType.TheVariants.{I32}
use Rattle.wasm_defs.specs.Values.{word}
use Rattle.wasm_defs.specs.Memory.{page, pages_of}
use Rattle.frame_layout.specs.Macros.{s2, a0, a7}
use Rattle.image_format.specs.Contents.{Image}
use Rattle.image_format.specs.ImageRun.{Running, environment, grow, memory_of, with_registers}
use Rattle.simulation.specs.Regions.{HasRegions}
use Rattle.simulation.specs.StoreLaws.{HasRoom, Answered, Grows, GrowsLaw}
use Rattle.simulation.proofs.Memory.Growing.{pages_now, grown_memory, zeros_behind}

kept_apart : (q r : ℕ) → (q == a0 || q == s2) ≡ false → (r == a0 || r == s2) ≡ true → q ≢ r
kept_apart q r kept passed same = false≢true (sym kept ∙ ap (λ (n : ℕ). n == a0 || n == s2) same ∙ passed)

-- the environment is asked to grow
asked : (i : Image) (r : Running) (pc more : ℕ) → reg r.machine.registers a7 ≡ 2 → reg r.machine.registers a0 % 2 ^ 32 ≡ more → environment i r pc ≡ grow i.cap r more
asked i r pc more number is = rw (number) (ap (grow i.cap r) is)

module _ (i : Image) (r : Running) (more : ℕ) (number : reg r.machine.registers a7 ≡ 2) (is : reg r.machine.registers a0 % 2 ^ 32 ≡ more) (regions : HasRegions r.pages r.machine) (room : HasRoom i.cap r.pages r.machine.bytes) (few : page * i.cap ≤ 2 ^ 28) where
  abbrev registers : Registers
  registers = r.machine.registers

  -- the cap doesn't allow it
  refused : nat_le (r.pages + more) i.cap ≡ false → Answered i r (2 ^ 32 - 1) r.pages
  refused over =
      let now : Running = with_registers r (set_reg registers 10 (2 ^ 64 - 1)) in
      record {
        to = now;
        is = λ pc. asked i r pc more number is ∙ rw over refl;
        answer_is = refl;
        pages_are = refl;
        regions = record { memory = regions.memory; size = regions.size; globals = regions.globals; table = regions.table; whole = regions.whole };
        room = record { within = room.within; size = room.size; zeros = room.zeros };
        bytes_are = refl;
        pc_is = refl;
        others = λ q kept. other_registers_stay registers 10 q (2 ^ 64 - 1) (kept_apart q a0 kept refl);
        calls = refl;
        replies = refl;
        results = refl;
        later = refl;
      }

  -- or does
  allowed : nat_le (r.pages + more) i.cap ≡ true → Answered i r (pages_of (memory_of r)) (r.pages + more)
  allowed under =
      let fits = leb-true (r.pages + more) i.cap under in
      let within = room.within in
      let size = room.size in
      let whole : page * (r.pages + more) ≤ length r.machine.bytes.memory = omega arith in
      let first = set_reg registers 10 r.pages in
      let now : Running = record (with_registers r (set_reg first 18 (page * (r.pages + more)))) { pages = r.pages + more } in
      let pages_is : r.pages ≡ word I32 (pages_of (memory_of r)) = rw (pages_now r.pages r.machine.bytes.memory regions.whole, lt-ltb r.pages (2 ^ 31) (omega arith)) refl in
      record {
        to = now;
        is = λ pc. asked i r pc more number is ∙ rw under refl;
        answer_is = pages_is;
        pages_are = refl;
        regions = record { memory = regions.memory; size = refl; globals = regions.globals; table = regions.table; whole = whole };
        room = record { within = fits; size = room.size; zeros = zeros_behind r.machine.bytes.memory r.pages more i.cap fits room.zeros };
        bytes_are = refl;
        pc_is = refl;
        others = λ q kept. other_registers_stay first 18 q (page * (r.pages + more)) (kept_apart q s2 kept refl) ∙ other_registers_stay registers 10 q r.pages (kept_apart q a0 kept refl);
        calls = refl;
        replies = refl;
        results = refl;
        later = refl;
      }

  by_cap : (t : Bool) → nat_le (r.pages + more) i.cap ≡ t → Grows i r more (if t then Some (take (page * (r.pages + more)) r.machine.bytes.memory) else None)
  by_cap true is = (allowed is, refl)
  by_cap false is = refused is

pub grows_does : GrowsLaw
grows_does i r more number is regions room few =
    subst (Grows i r more) (sym (grown_memory r.machine.bytes.memory r.pages more i.cap room.within room.size room.zeros)) (by_cap i r more number is regions room few _ refl)
