-- Bytes that may come before an entry is read again.
use Rattle.std.proofs.Common.{◌≡◌, ◌≢◌, ℕ, ◌+◌, ◌-◌, ◌<◌, ◌≤◌, Option, List, [], ◌∷◌, ◌++◌, length, refl, sym, ap, ◌∙◌, arith, length-take, length-append}
use Rattle.std.proofs.lemmas.Bool.{ne_eqb, lt-ltb, le-ltb, lt-leb}
use Rattle.wasm_defs.specs.declared.types.ValType.{ValType}
use Rattle.wasm_defs.specs.declared.types.ValType.TheVariants.{I32}
use Rattle.wasm_defs.specs.declared.item.Constant.{Constant}
use Rattle.wasm_defs.specs.Limits.{max_params, max_results}
use Rattle.wasm_defs.specs.Fields.{Cursor, Read, Got, Wants, Reader, then_go, ◌>>=◌, done, repeated, window, room_of, past, byte, u32, count, vector, room, run, counted_bytes, name}
use Rattle.wasm_defs.specs.Entries.{Seen, index, constant, listed_type, listed_index, signature, imported, exported, element, memory_of, passive, segment}
use Rattle.wasm_defs.specs.Outside.{Nothing, custom_name}
use Rattle.wasm_laws.specs.Steadiness.{with_more, Advance}
use Rattle.wasm_laws.proofs.Steady.{here_in, field_steady, advance_then, repeated_steady}
use Rattle.wasm_laws.proofs.FieldLaws.{u32_field, count_steady, vector_steady}
use Rattle.wasm_laws.proofs.Windows.{byte_field}
use Rattle.wasm_laws.proofs.Names.{name_field}
use Rattle.wasm_laws.proofs.EntryLaws.{index_steady, memory_of_steady, constant_steady, listed_type_steady}
use Rattle.wasm_laws.proofs.Parts.{got_is}
use Rattle.section_reader.specs.declared.stage.Stage.{Stage}
use Rattle.section_reader.specs.declared.stage.Stage.TheVariants.{Contents}
use Rattle.section_reader.specs.declared.wait.Element.{Element}
use Rattle.section_reader.specs.declared.wait.Element.TheVariants.{ValueType, Index}
use Rattle.section_reader.specs.declared.wait.Wait.{Wait}
use Rattle.section_reader.specs.declared.wait.Wait.TheVariants as wait
use Rattle.section_reader.specs.Waits.{element_of, Passes, Awaits, AwaitsAt, wants_more, IsFree, IsPlaced}
use Rattle.section_reader.proofs.Leading.{Stable, more_got}
use Rattle.section_reader.proofs.Skimming.{past_is, types_want, indices_want}

-- ---- readers that wait

-- with such bytes the reader still wants more
abbrev WantsIf : {A : Type 0} → Reader A → Cursor → (List ℕ → Type 0) → Type 0
WantsIf p c P = (more : List ℕ) → P more → p (with_more c more) ≡ Wants

vector_got : {A : Type 0} (counted : Reader (ℕ × ℕ)) (p : Reader A) (c d e : Cursor) (n : ℕ × ℕ) (xs : List A) → counted c ≡ Got n d → repeated n.1 p d ≡ Got xs e → vector counted p c ≡ Got (n.0, xs) e
unfolding vector
vector_got counted p c d e n xs first second = rw (first, second) refl

module _ (P : List ℕ → Type 0) where
  then_awaits : {A B : Type 0} (p : Reader A) (f : A → Reader B) (c d : Cursor) (x : A) → Stable p → p c ≡ Got x d → WantsIf (f x) d P → WantsIf (p >>= f) c P
  then_awaits p f c d x stable e h = λ more passes. ap (λ (r : Read _). then_go r f) (more_got p stable c d x e more) ∙ h more passes

  on_awaits : {A B : Type 0} (p : Reader A) (f : A → Reader B) (c : Cursor) → WantsIf p c P → WantsIf (p >>= f) c P
  on_awaits p f c h = λ more passes. ap (λ (r : Read _). then_go r f) (h more passes)

  params_want : (seen : Seen) (c d e : Cursor) (form n : ℕ × ℕ) → byte c ≡ Got form d → form.1 ≡ 0x60 → count max_params d ≡ Got n e → WantsIf (repeated n.1 listed_type) e P → WantsIf (signature seen) c P
  unfolding signature vector
  params_want seen c d e form n first is second h =
      then_awaits byte _ c d form (field_steady [] byte byte_field).by first
      (rw is (on_awaits (vector (count max_params) listed_type) _ d
      (then_awaits (count max_params) _ d e n (count_steady [] max_params).by second (on_awaits (repeated n.1 listed_type) _ e h))))

  -- the parameters are there
  results_want : (seen : Seen) (c d e f g : Cursor) (form m : ℕ × ℕ) (types : List ValType) (n : ℕ × ℕ) → byte c ≡ Got form d → form.1 ≡ 0x60 → count max_params d ≡ Got m e → repeated m.1 listed_type e ≡ Got types f → count max_results f ≡ Got n g
      → WantsIf (repeated n.1 listed_type) g P → WantsIf (signature seen) c P
  unfolding signature vector
  results_want seen c d e f g form m types n first is second third fourth h =
      then_awaits byte _ c d form (field_steady [] byte byte_field).by first
      (rw is (then_awaits (vector (count max_params) listed_type) _ d f (m.0, types) (vector_steady [] (count max_params) listed_type (count_steady [] max_params) (listed_type_steady [])).by (vector_got (count max_params) listed_type d e f m types second third)
      (on_awaits (vector (count max_results) listed_type) _ f
      (then_awaits (count max_results) _ f g n (count_steady [] max_results).by fourth (on_awaits (repeated n.1 listed_type) _ g h)))))

  element_wants : (seen : Seen) (c d e f : Cursor) (i : ℕ × ℕ) (place : Constant) (n : ℕ × ℕ) → index seen.tables c ≡ Got i d → constant I32 d ≡ Got place e → u32 e ≡ Got n f
      → WantsIf (repeated n.1 (listed_index seen.functions)) f P → WantsIf (element seen) c P
  unfolding element vector
  element_wants seen c d e f i place n first second third h =
      then_awaits (index seen.tables) _ c d i (index_steady [] seen.tables).by first
      (then_awaits (constant I32) _ d e place (constant_steady [] I32).by second
      (on_awaits (vector u32 (listed_index seen.functions)) _ e
      (then_awaits u32 _ e f n (field_steady [] u32 u32_field).by third (on_awaits (repeated n.1 (listed_index seen.functions)) _ f h))))

  bytes_want : (c d : Cursor) (n : ℕ × ℕ) → u32 c ≡ Got n d → n.1 ≤ room_of d → WantsIf (run n.1) d P → WantsIf counted_bytes c P
  unfolding counted_bytes room
  bytes_want c d n first fits h =
      then_awaits u32 _ c d n (field_steady [] u32 u32_field).by first
      (λ more passes. rw (le-ltb (room_of d) n.1 fits) (ap (λ (r : Read (List ℕ)). then_go r (λ bytes. done (n.0, bytes))) (h more passes)))

  passive_wants : (seen : Seen) (c d : Cursor) (form : ℕ × ℕ) → u32 c ≡ Got form d → form.1 ≡ 1 → WantsIf counted_bytes d P → WantsIf (segment seen) c P
  unfolding segment passive
  passive_wants seen c d form first is h = then_awaits u32 _ c d form (field_steady [] u32 u32_field).by first (rw is (on_awaits counted_bytes _ d h))

  active_wants : (seen : Seen) (c d e f : Cursor) (form : ℕ × ℕ) (memory : Option (ℕ × ℕ)) (place : Constant) → u32 c ≡ Got form d → form.1 ≤ 2 → form.1 ≢ 1 → memory_of seen form d ≡ Got memory e → constant I32 e ≡ Got place f
      → WantsIf counted_bytes f P → WantsIf (segment seen) c P
  unfolding segment
  active_wants seen c d e f form memory place first low other second third h =
      then_awaits u32 _ c d form (field_steady [] u32 u32_field).by first
      (rw (le-ltb 2 form.1 low, ne_eqb form.1 1 other) (then_awaits (memory_of seen form) _ d e memory (memory_of_steady (form.0 ∷ []) seen form here_in).by second
      (then_awaits (constant I32) _ e f place (constant_steady [] I32).by third (on_awaits counted_bytes _ f h))))

-- ---- names

custom_awaits : (c : Cursor) (w : Wait) → Awaits name c w → Awaits custom_name c w
unfolding custom_name
custom_awaits c w h = on_awaits (Passes w c) name _ c h

pub exported_awaits : (seen : Seen) (c : Cursor) (w : Wait) → Awaits name c w → Awaits (exported seen) c w
unfolding exported
exported_awaits seen c w h = on_awaits (Passes w c) name _ c h

pub imported_awaits : (seen : Seen) (c : Cursor) (w : Wait) → Awaits name c w → Awaits (imported seen) c w
unfolding imported
imported_awaits seen c w h = on_awaits (Passes w c) name _ c h

pub second_awaits : (seen : Seen) (c d : Cursor) (x : ℕ × List ℕ) (w : Wait) → name c ≡ Got x d → AwaitsAt name d w c → Awaits (imported seen) c w
unfolding imported
second_awaits seen c d x w first h =
    then_awaits (Passes w c) name _ c d x (field_steady [] name name_field).by first (on_awaits (Passes w c) name _ d h)

-- ---- lists and bytes

list_at : (c e : Cursor) (n : ℕ) (p : Reader Nothing) → Advance c e → (more : List ℕ) → repeated n p (with_more (past c (length c.rest - length e.rest)) more) ≡ Wants → repeated n p (with_more e more) ≡ Wants
list_at c e n p advance more h = ap (λ (d : Cursor). repeated n p (with_more d more)) (sym (past_is c e advance)) ∙ h

pub list_is_placed : (c e : Cursor) (n : ℕ) (kind : Element) → Advance c e → IsPlaced (wait.List (length c.rest - length e.rest) n kind) c
list_is_placed c e n kind p = record {
  among = omega arith;
  inside = λ ahead. omega (arith, p.fits, ap length p.parts, length-append p.taken e.rest);
}

module _ (seen : Seen) (c d e : Cursor) where
  module _ (form n : ℕ × ℕ) (first : byte c ≡ Got form d) (second : count max_params d ≡ Got n e) where
    pub params_advance : Advance c e
    params_advance =
        advance_then c d e (got_is (λ x f. Advance c f) (byte c) form d first ((field_steady [] byte byte_field).moves c)) (got_is (λ x f. Advance d f) (count max_params d) n e second ((count_steady [] max_params).moves d))

    pub params_await : form.1 ≡ 0x60 → Awaits (signature seen) c (wait.List (length c.rest - length e.rest) n.1 ValueType)
    params_await is =
        params_want (Passes (wait.List (length c.rest - length e.rest) n.1 ValueType) c) seen c d e form n first is second
        (λ more h. types_want n.1 (with_more e more) (list_at c e n.1 (element_of ValueType) params_advance more h))

  module _ (f g : Cursor) (form m : ℕ × ℕ) (types : List ValType) (n : ℕ × ℕ) (first : byte c ≡ Got form d) (second : count max_params d ≡ Got m e) (third : repeated m.1 listed_type e ≡ Got types f) (fourth : count max_results f ≡ Got n g) where
    pub results_advance : Advance c g
    results_advance =
        advance_then c e g (params_advance form m first second)
        (advance_then e f g (got_is (λ x h. Advance e h) (repeated m.1 listed_type e) types f third ((repeated_steady [] m.1 listed_type (listed_type_steady [])).moves e)) (got_is (λ x h. Advance f h) (count max_results f) n g fourth ((count_steady [] max_results).moves f)))

    pub results_await : form.1 ≡ 0x60 → Awaits (signature seen) c (wait.List (length c.rest - length g.rest) n.1 ValueType)
    results_await is =
        results_want (Passes (wait.List (length c.rest - length g.rest) n.1 ValueType) c) seen c d e f g form m types n first is second third fourth
        (λ more h. types_want n.1 (with_more g more) (list_at c g n.1 (element_of ValueType) results_advance more h))

  module _ (f : Cursor) (i : ℕ × ℕ) (place : Constant) (n : ℕ × ℕ) (there : ℕ) (first : index there c ≡ Got i d) (second : constant I32 d ≡ Got place e) (third : u32 e ≡ Got n f) where
    pub indices_advance : Advance c f
    indices_advance =
        advance_then c d f (got_is (λ x g. Advance c g) (index there c) i d first ((index_steady [] there).moves c))
        (advance_then d e f (got_is (λ x g. Advance d g) (constant I32 d) place e second ((constant_steady [] I32).moves d)) (got_is (λ x g. Advance e g) (u32 e) n f third ((field_steady [] u32 u32_field).moves e)))

    pub element_awaits : there ≡ seen.tables → Awaits (element seen) c (wait.List (length c.rest - length f.rest) n.1 (Index seen.functions))
    element_awaits is =
        element_wants (Passes (wait.List (length c.rest - length f.rest) n.1 (Index seen.functions)) c) seen c d e f i place n (rw is at first) second third
        (λ more h. indices_want n.1 seen.functions (with_more f more) (list_at c f n.1 (element_of (Index seen.functions)) indices_advance more h))

run_wants : (n : ℕ) (c : Cursor) (free : ℕ) → n ≤ room_of c → length c.rest + free < n → WantsIf (run n) c (λ more. length more ≤ free)
unfolding run
run_wants n c free fits owed = λ more few.
    rw (lt-ltb (length (window (with_more c more))) n (omega (arith, length-take (room_of c) (c.rest ++ more), length-append c.rest more)), lt-leb (room_of c) (length (c.rest ++ more)) (omega (arith, length-append c.rest more))) refl

-- the bytes of a data segment, after its number of them
pub bytes_await : (c d from : Cursor) (n : ℕ × ℕ) (free : ℕ) → u32 c ≡ Got n d → n.1 ≤ room_of d → length d.rest + free < n.1 → AwaitsAt counted_bytes c (wait.Bytes free) from
bytes_await c d from n free first fits owed = bytes_want (λ more. length more ≤ free) c d n first fits (run_wants n.1 d free fits owed)

pub passive_awaits : (seen : Seen) (c d : Cursor) (form : ℕ × ℕ) (w : Wait) → u32 c ≡ Got form d → form.1 ≡ 1 → AwaitsAt counted_bytes d w c → Awaits (segment seen) c w
passive_awaits seen c d form w first is h = passive_wants (Passes w c) seen c d form first is h

pub active_awaits : (seen : Seen) (c d e f : Cursor) (form : ℕ × ℕ) (memory : Option (ℕ × ℕ)) (place : Constant) (w : Wait) → u32 c ≡ Got form d → form.1 ≤ 2 → form.1 ≢ 1 → memory_of seen form d ≡ Got memory e → constant I32 e ≡ Got place f
    → AwaitsAt counted_bytes f w c → Awaits (segment seen) c w
active_awaits seen c d e f form memory place w first low other second third h = active_wants (Passes w c) seen c d e f form memory place first low other second third h

-- ---- stages that wait

pub name_is_free : (seen : Seen) (c : Cursor) (w : Wait) → Awaits name c w → IsFree (Contents 0) seen c w
name_is_free seen c w h = λ more passes. ap wants_more (custom_awaits c w h more passes)

pub free_at : (stage : Stage) (seen : Seen) (d : Cursor) (at end : ℕ) (kept : List ℕ) (w : Wait) → at ≡ d.at → end ≡ d.end → kept ≡ d.rest → IsFree stage seen d w → IsFree stage seen (record { at = at; rest = kept; end = end }) w
free_at stage seen d at end kept w same_at same_end same h = rw (same_at, same_end, same) h

pub placed_at : (d : Cursor) (at end : ℕ) (kept : List ℕ) (w : Wait) → at ≡ d.at → end ≡ d.end → kept ≡ d.rest → IsPlaced w d → IsPlaced w (record { at = at; rest = kept; end = end })
placed_at d at end kept w same_at same_end same h = rw (same_at, same_end, same) h
