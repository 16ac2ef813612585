-- Offsets of a module have 32 bits: those of its imports, of its bodies and of their tokens.
use Rattle.std.proofs.Common.{ℕ, suc, ◌+◌, ◌^◌, ◌<◌, ◌≤◌, List, [], ◌∷◌, ◌++◌, length, sym, ap, ◌∙◌, subst, arith, length-append}
use Rattle.wasm_defs.specs.declared.item.Item.{Item}
use Rattle.wasm_defs.specs.declared.item.Item.TheVariants.{Imported}
use Rattle.wasm_defs.specs.declared.token.Token.{Token}
use Rattle.wasm_defs.specs.Bodies.{body_read, last_of}
use Rattle.wasm_defs.specs.Outside.{Part, Listed, Coded, module_read}
use Rattle.wasm_defs.specs.Outside as outside
use Rattle.wasm_defs.specs.Items.{item_is, each_is, Payload, Custom, Vector, Starting, Counting, Bodies, payload_is, payload_items, Section, section_is, items_in}
use Rattle.wasm_defs.specs.Faults.{Module, IsModule, bodies_of, offsets_of, use_of}
use Rattle.wasm_laws.specs.BodyOrder.{AreRising, stop_of}
use Rattle.wasm_laws.specs.Order.{end_of, behind_use, AreOrdered, first_section}
use Rattle.wasm_laws.specs.Sections.{AreBytes}
use Rattle.wasm_laws.specs.Short.{AreShort, AreShortImports, AreShortBodies}
use Rattle.wasm_laws.proofs.BodyOrder.{body_is_ordered}
use Rattle.wasm_laws.proofs.Bytes.{each_byte}
use Rattle.wasm_laws.proofs.Described.{module_is_described}
use Rattle.wasm_laws.proofs.Order.{parts_in_module}

-- ---- imports, by the grammar of modules: a name's size is at its offset

both_short : (xs ys : List Item) → AreShortImports xs → AreShortImports ys → AreShortImports (xs ++ ys)
both_short [] ys p q = q
both_short (Imported from what kind type_index ∷ xs) ys p q = (p.0, both_short xs ys p.1 q)
both_short (x ∷ xs) ys p q = both_short xs ys p q

module _ (most : ℕ) (small : most < 2 ^ 32) where
  items_short : (xs : List Item) (at : ℕ) (bytes : List ℕ) → at + length bytes ≤ most → each_is item_is xs at bytes → AreShortImports xs
  items_short [] at bytes le s = tt
  items_short (Imported from what kind type_index ∷ xs) at bytes le s =
      let here = s.first.first.1.size.0 in (
        omega (arith, here, le, small),
        items_short xs (at + length s.front) s.back (omega (arith, le, ap length s.parts, length-append s.front s.back)) s.second,
      )
  items_short (x ∷ xs) at bytes le s = items_short xs (at + length s.front) s.back (omega (arith, le, ap length s.parts, length-append s.front s.back)) s.second

  payload_short : (p : Payload) (at : ℕ) (bytes : List ℕ) → at + length bytes ≤ most → payload_is p at bytes → AreShortImports (payload_items p)
  payload_short (Custom name) at bytes le s = tt
  payload_short (Vector id count items) at bytes le s =
      let listed = s.2 in
      items_short items (at + length listed.front) listed.back (omega (arith, le, ap length listed.parts, length-append listed.front listed.back)) listed.second
  payload_short (Starting index) at bytes le s = tt
  payload_short (Counting count) at bytes le s = tt
  payload_short (Bodies count end bodies) at bytes le s = tt

  sections_short : (xs : List Section) (at : ℕ) (bytes : List ℕ) → at + length bytes ≤ most → each_is section_is xs at bytes → AreShortImports (items_in xs)
  sections_short [] at bytes le s = tt
  sections_short (x ∷ xs) at bytes le s =
      let sized = s.first.second in
      let all = ap length s.parts ∙ length-append s.front s.back in
      let one = ap length s.first.parts ∙ length-append s.first.front s.first.back in
      let held = ap length sized.parts ∙ length-append sized.front sized.content in
      both_short (payload_items x.payload) (items_in xs)
      (payload_short x.payload (at + length s.first.front + length sized.front) sized.content (omega (arith, le, all, one, held)) sized.is)
      (sections_short xs (at + length s.front) s.back (omega (arith, le, all)) s.second)

  -- ---- bodies, by the order of parts and of tokens

  rising_short : (low stop : ℕ) → stop ≤ most → (xs : List (ℕ × Token)) → AreRising low stop xs → AreShort (offsets_of xs)
  rising_short low stop le [] h = tt
  rising_short low stop le (x ∷ xs) h = (omega (arith, h.1, le, small), rising_short (suc x.0) stop le xs h.2)

  parts_short : (low last : ℕ) → last ≤ most → (parts : List Part) → AreOrdered low last parts → AreShortBodies (bodies_of parts)
  parts_short low last le [] h = tt
  parts_short low last le (outside.Section at id ∷ parts) h = parts_short (suc at) last le parts h.2
  parts_short low last le (Listed x ∷ parts) h = parts_short (behind_use low (use_of x)) last le parts h.1
  parts_short low last le (Coded b ∷ parts) h =
      let stands = h.0 in
      let before = stands.before in
      let least = stands.least in
      let spelled = body_is_ordered b.counted b.first b.bytes (omega arith) in
      let code = (body_read b.counted b.first b.bytes).code in
      let stop = spelled.within in (
        omega (arith, before, le, small),
        rising_short b.first (stop_of (last_of b.first b.bytes) code.fault) (omega (arith, stop, before, le)) code.tokens spelled.tokens,
        parts_short (end_of b) last le parts h.1,
      )

-- a module has 67,108,864 bytes at most, and all that is read of it is inside
pub offsets_are_short : (bytes : List ℕ) (m : Module) → AreBytes bytes → IsModule bytes m → AreShortImports m.items × AreShortBodies m.bodies
offsets_are_short bytes m fits is =
    let d = module_is_described bytes m (each_byte bytes fits) is in
    let short = d.1.kept.short in
    let small : length bytes < 2 ^ 32 = omega (arith, short) in
    let s = d.1.spelled.spelled in
    let behind = s.second in
    let imports = sections_short (length bytes) small d.0 (0 + length s.front + length behind.front) behind.back
    (omega (arith, ap length s.parts, length-append s.front s.back, ap length behind.parts, length-append behind.front behind.back)) behind.second in
    let bodies = parts_short (length bytes) small first_section (length bytes) (omega arith) (module_read bytes).parts (parts_in_module bytes) in (
      subst AreShortImports (sym d.2) imports,
      subst AreShortBodies (sym is.bodies) bodies,
    )
