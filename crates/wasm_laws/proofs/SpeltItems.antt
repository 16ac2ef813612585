-- Items are read as they are encoded, and keep their rules.
use Rattle.std.proofs.Common.{◌≡◌, ◌≢◌, ◌≤◌, ◌<◌, ℕ, ltb, eqb, List, length, Option, Some, None, is_some, subst, refl, arith}
use Rattle.std.specs.List.{All}
use Rattle.std.specs.FinMap as map
use Rattle.std.proofs.lemmas.Bool.{ltb-false, ltb-true, lt-ltb, eqb-true, eqb-false}
use Rattle.wasm_defs.specs.declared.fault.Kind.TheVariants.{Malformed, Unsupported, Invalid}
use Rattle.wasm_defs.specs.declared.types.ValType.{ValType}
use Rattle.wasm_defs.specs.declared.types.ValType.TheVariants.{I32}
use Rattle.wasm_defs.specs.declared.item.Item.{Item}
use Rattle.wasm_defs.specs.declared.item.Item.TheVariants.{Signature, Imported, Function, Table, Memory, Global, Exported, Element, Passive, Segment}
use Rattle.wasm_defs.specs.Limits.{max_params, max_results, max_table, max_pages, top_pages, top_rows}
use Rattle.wasm_defs.specs.Fields.{Cursor, Reader, ◌>>=◌, done, byte, u32, count, vector, counted_bytes, name}
use Rattle.wasm_defs.specs.Entries.{Seen, space, index, value_type, listed_type, limits, constant, signature, imported, function, table, memory, mutability, global, extern_kind, exported, listed_index, element, memory_of, passive, segment}
use Rattle.wasm_defs.specs.Items.{u32_is, vector_is, listed_type_is, listed_index_is, limits_are, item_is, section_of}
use Rattle.wasm_defs.specs.Rules.{Keeps}
use Rattle.wasm_laws.proofs.Steady.{IfGot}
use Rattle.wasm_laws.proofs.Spelt.{Ready, Found, later, found_then, found_as, read, unless, provided, Reads, reads_then, reads_on, reads_last, reads_else, Spelt}
use Rattle.wasm_laws.proofs.Parts.{then_got, either_got}
use Rattle.wasm_laws.proofs.SpeltFields.{Always, byte_spelt, u32_spelt}
use Rattle.wasm_laws.proofs.SpeltLists.{vector_spelt, counted_bytes_spelt}
use Rattle.wasm_laws.proofs.SpeltNames.{name_spelt}
use Rattle.wasm_laws.proofs.SpeltParts.{byte_as, count_spelt, index_spelt, listed_index_spelt, listed_type_spelt, value_type_spelt, mutability_spelt, extern_kind_spelt, ruled_spelt, limits_spelt, constant_spelt}

-- an item of the section of that id, which keeps its rule
abbrev pub Belongs : ℕ → Seen → Item → Type 0
Belongs id seen x = Keeps seen x × (section_of x ≡ id)

abbrev pub SpeltEntry : ℕ → (Seen → Reader Item) → Type 0
SpeltEntry id entry = (seen : Seen) → Spelt item_is (Belongs id seen) (entry seen)

-- ---- types

-- value types after their count
types_spelt : (most : ℕ) (counted : Reader (ℕ × ℕ)) → Spelt u32_is (λ n. Always n × (n.1 ≤ most)) counted → Spelt (λ xs. vector_is listed_type_is xs.0 xs.1) (λ xs. length xs.1 ≤ most) (vector counted listed_type)
types_spelt most counted h =
    ruled_spelt _ (λ (xs : ℕ × List ValType). (Always {A = ℕ × ℕ} (xs.0, length xs.1) × (length xs.1 ≤ most)) × All Always xs.1) (λ xs. length xs.1 ≤ most) (vector counted listed_type) (λ xs k. k.0.1) (λ xs k. ((tt, k), λ i d lt. tt))
    (vector_spelt listed_type_is Always (λ n. Always n × (n.1 ≤ most)) counted listed_type h listed_type_spelt)

params_spelt : Spelt (λ xs. vector_is listed_type_is xs.0 xs.1) (λ xs. length xs.1 ≤ max_params) (vector (count max_params) listed_type)
params_spelt = types_spelt max_params (count max_params) (count_spelt max_params)

outs_spelt : Spelt (λ xs. vector_is listed_type_is xs.0 xs.1) (λ xs. length xs.1 ≤ max_results) (vector (count max_results) listed_type)
outs_spelt = types_spelt max_results (count max_results) (count_spelt max_results)

signature_found : (seen : Seen) (c : Cursor) → Ready c → IfGot (λ x d. Found (item_is x) (Belongs 1 seen x) c d) (signature seen c)
unfolding signature
signature_found seen c ready =
    read _ _ byte _ _ c byte_spelt ready (λ form d form_found ready.
    provided _ (eqb form.1 0x60) Malformed form.0 _ d (λ right.
    read _ _ (vector (count max_params) listed_type) _ _ d params_spelt ready (λ params e params_found ready.
    read _ _ (vector (count max_results) listed_type) _ _ e outs_spelt ready (λ outs f outs_found ready.
    found_then _ c d f (byte_as form.0 form.1 0x60 _ c d (eqb-true form.1 0x60 right) form_found) (found_then (Unit {0}) d e f params_found outs_found tt)
    ((params_found.kept, outs_found.kept), refl)))))

signature_read : (seen : Seen) (x : Item) → Belongs 1 seen x → Reads (signature seen) x (item_is x)
unfolding signature
signature_read seen (Signature form params outs ty) k =
    reads_then byte _ (form, 0x60) _ _ _ (byte_spelt.complete (form, 0x60) tt)
    (reads_then (vector (count max_params) listed_type) _ (params, ty.params) _ _ _ (params_spelt.complete (params, ty.params) k.0.0)
    (reads_on (vector (count max_results) listed_type) _ (outs, ty.results) _ _ (outs_spelt.complete (outs, ty.results) k.0.1) (λ c. refl)))
signature_read seen x k = absurd (omega (arith, k.1))

pub signature_spelt : SpeltEntry 1 signature
signature_spelt seen = record { sound = signature_found seen; complete = signature_read seen }

-- ---- imports

imported_found : (seen : Seen) (c : Cursor) → Ready c → IfGot (λ x d. Found (item_is x) (Belongs 2 seen x) c d) (imported seen c)
unfolding imported
imported_found seen c ready =
    read _ _ name _ _ c name_spelt ready (λ from d from_found ready.
    read _ _ name _ _ d name_spelt ready (λ what e what_found ready.
    read _ _ byte _ _ e byte_spelt ready (λ kind f kind_found ready.
    unless _ (ltb 3 kind.1) Malformed kind.0 _ f (λ known.
    unless _ (ltb 0 kind.1) Unsupported kind.0 _ f (λ least.
    let none : kind.1 ≡ 0 = let le = ltb-false 0 kind.1 least in omega arith in
    read _ _ (index seen.types) _ _ f (index_spelt seen.types) ready (λ i g i_found ready.
    found_then _ c d g from_found (found_then (Unit {0}) d e g what_found (found_then (Unit {0}) e f g (byte_as kind.0 kind.1 0 _ e f none kind_found) i_found tt) tt)
    ((from_found.kept, what_found.kept, i_found.kept.1), refl)))))))

imported_read : (seen : Seen) (x : Item) → Belongs 2 seen x → Reads (imported seen) x (item_is x)
unfolding imported
imported_read seen (Imported from what kind i) k =
    reads_then name _ from _ _ _ (name_spelt.complete from k.0.0)
    (reads_then name _ what _ _ _ (name_spelt.complete what k.0.1)
    (reads_then byte _ (kind, 0) _ _ _ (byte_spelt.complete (kind, 0) tt)
    (reads_on (index seen.types) _ i _ _ ((index_spelt seen.types).complete i (tt, k.0.2)) (λ c. refl))))
imported_read seen x k = absurd (omega (arith, k.1))

pub imported_spelt : SpeltEntry 2 imported
imported_spelt seen = record { sound = imported_found seen; complete = imported_read seen }

-- ---- functions

function_found : (seen : Seen) (c : Cursor) → Ready c → IfGot (λ x d. Found (item_is x) (Belongs 3 seen x) c d) (function seen c)
unfolding function
function_found seen c ready = read _ _ (index seen.types) _ _ c (index_spelt seen.types) ready (λ i d found ready. found_as (u32_is i) _ c d found (λ at bytes s. s) (found.kept.1, refl))

function_read : (seen : Seen) (x : Item) → Belongs 3 seen x → Reads (function seen) x (item_is x)
unfolding function
function_read seen (Function i) k = reads_on (index seen.types) _ i _ _ ((index_spelt seen.types).complete i (tt, k.0)) (λ c. refl)
function_read seen x k = absurd (omega (arith, k.1))

pub function_spelt : SpeltEntry 3 function
function_spelt seen = record { sound = function_found seen; complete = function_read seen }

-- ---- tables and memories

table_found : (seen : Seen) (c : Cursor) → Ready c → IfGot (λ x d. Found (item_is x) (Belongs 4 seen x) c d) (table seen c)
unfolding table
table_found seen c ready =
    read _ _ byte _ _ c byte_spelt ready (λ element d element_found ready.
    provided _ (eqb element.1 0x70) Malformed element.0 _ d (λ right.
    read _ _ (limits max_table top_rows) _ _ d (limits_spelt max_table top_rows) ready (λ l e l_found ready.
    found_then _ c d e (byte_as element.0 element.1 0x70 _ c d (eqb-true element.1 0x70 right) element_found) l_found (l_found.kept, refl))))

table_read : (seen : Seen) (x : Item) → Belongs 4 seen x → Reads (table seen) x (item_is x)
unfolding table
table_read seen (Table element l) k =
    reads_then byte _ (element, 0x70) _ _ _ (byte_spelt.complete (element, 0x70) tt)
    (reads_on (limits max_table top_rows) _ l _ _ ((limits_spelt max_table top_rows).complete l k.0) (λ c. refl))
table_read seen x k = absurd (omega (arith, k.1))

pub table_spelt : SpeltEntry 4 table
table_spelt seen = record { sound = table_found seen; complete = table_read seen }

memory_found : (seen : Seen) (c : Cursor) → Ready c → IfGot (λ x d. Found (item_is x) (Belongs 5 seen x) c d) (memory seen c)
unfolding memory
memory_found seen c ready = read _ _ (limits max_pages top_pages) _ _ c (limits_spelt max_pages top_pages) ready (λ l d found ready. found_as (limits_are l) _ c d found (λ at bytes s. s) (found.kept, refl))

memory_read : (seen : Seen) (x : Item) → Belongs 5 seen x → Reads (memory seen) x (item_is x)
unfolding memory
memory_read seen (Memory l) k = reads_on (limits max_pages top_pages) _ l _ _ ((limits_spelt max_pages top_pages).complete l k.0) (λ c. refl)
memory_read seen x k = absurd (omega (arith, k.1))

pub memory_spelt : SpeltEntry 5 memory
memory_spelt seen = record { sound = memory_found seen; complete = memory_read seen }

-- ---- globals

global_found : (seen : Seen) (c : Cursor) → Ready c → IfGot (λ x d. Found (item_is x) (Belongs 6 seen x) c d) (global seen c)
unfolding global
global_found seen c ready =
    read _ _ value_type _ _ c value_type_spelt ready (λ ty d ty_found ready.
    read _ _ mutability _ _ d mutability_spelt ready (λ mutable e mutable_found ready.
    read _ _ (constant ty.1) _ _ e (constant_spelt ty.1) ready (λ init f init_found ready.
    found_then _ c d f ty_found (found_then (Unit {0}) d e f mutable_found init_found tt) (tt, refl))))

global_read : (seen : Seen) (x : Item) → Belongs 6 seen x → Reads (global seen) x (item_is x)
unfolding global
global_read seen (Global ty mutable init) k =
    reads_then value_type _ ty _ _ _ (value_type_spelt.complete ty tt)
    (reads_then mutability _ mutable _ _ _ (mutability_spelt.complete mutable tt)
    (reads_on (constant ty.1) _ init _ _ ((constant_spelt ty.1).complete init tt) (λ c. refl)))
global_read seen x k = absurd (omega (arith, k.1))

pub global_spelt : SpeltEntry 6 global
global_spelt seen = record { sound = global_found seen; complete = global_read seen }

-- ---- exports

exported_found : (seen : Seen) (c : Cursor) → Ready c → IfGot (λ x d. Found (item_is x) (Belongs 7 seen x) c d) (exported seen c)
unfolding exported
exported_found seen c ready =
    read _ _ name _ _ c name_spelt ready (λ label d label_found ready.
    unless _ (is_some (map.get seen.names label.1)) Invalid label.0 _ d (λ fresh.
    read _ _ extern_kind _ _ d extern_kind_spelt ready (λ kind e kind_found ready.
    read _ _ (index (space seen kind.1)) _ _ e (index_spelt (space seen kind.1)) ready (λ i f i_found ready.
    found_then _ c d f label_found (found_then (Unit {0}) d e f kind_found i_found tt) ((label_found.kept, fresh, i_found.kept.1), refl)))))

exported_read : (seen : Seen) (x : Item) → Belongs 7 seen x → Reads (exported seen) x (item_is x)
unfolding exported
exported_read seen (Exported label kind i) k =
    reads_then name _ label _ _ _ (name_spelt.complete label k.0.0)
    (reads_else (is_some (map.get seen.names label.1)) _ _ _ _ k.0.1
    (reads_then extern_kind _ kind _ _ _ (extern_kind_spelt.complete kind tt)
    (reads_on (index (space seen kind.1)) _ i _ _ ((index_spelt (space seen kind.1)).complete i (tt, k.0.2)) (λ c. refl))))
exported_read seen x k = absurd (omega (arith, k.1))

pub exported_spelt : SpeltEntry 7 exported
exported_spelt seen = record { sound = exported_found seen; complete = exported_read seen }

-- ---- element and data segments

functions_spelt : (most : ℕ) → Spelt (λ xs. vector_is listed_index_is xs.0 xs.1) (λ xs. All (λ i. i < most) xs.1) (vector u32 (listed_index most))
functions_spelt most =
    ruled_spelt _ (λ (xs : ℕ × List ℕ). Always {A = ℕ × ℕ} (xs.0, length xs.1) × All (λ i. i < most) xs.1) (λ xs. All (λ i. i < most) xs.1) (vector u32 (listed_index most)) (λ xs k. k.1) (λ xs k. (tt, k))
    (vector_spelt listed_index_is (λ i. i < most) Always u32 (listed_index most) u32_spelt (listed_index_spelt most))

element_found : (seen : Seen) (c : Cursor) → Ready c → IfGot (λ x d. Found (item_is x) (Belongs 9 seen x) c d) (element seen c)
unfolding element
element_found seen c ready =
    read _ _ (index seen.tables) _ _ c (index_spelt seen.tables) ready (λ i d i_found ready.
    read _ _ (constant I32) _ _ d (constant_spelt I32) ready (λ place e place_found ready.
    read _ _ (vector u32 (listed_index seen.functions)) _ _ e (functions_spelt seen.functions) ready (λ fs f fs_found ready.
    found_then _ c d f i_found (found_then (Unit {0}) d e f place_found fs_found tt) ((i_found.kept.1, fs_found.kept), refl))))

element_read : (seen : Seen) (x : Item) → Belongs 9 seen x → Reads (element seen) x (item_is x)
unfolding element
element_read seen (Element i place fs) k =
    reads_then (index seen.tables) _ i _ _ _ ((index_spelt seen.tables).complete i (tt, k.0.0))
    (reads_then (constant I32) _ place _ _ _ ((constant_spelt I32).complete place tt)
    (reads_on (vector u32 (listed_index seen.functions)) _ fs _ _ ((functions_spelt seen.functions).complete fs k.0.1) (λ c. refl)))
element_read seen x k = absurd (omega (arith, k.1))

pub element_spelt : SpeltEntry 9 element
element_spelt seen = record { sound = element_found seen; complete = element_read seen }

-- a form that was found to be another
form_as : (form : ℕ × ℕ) (n : ℕ) (K : Type 0) (c d : Cursor) → form.1 ≡ n → Found (u32_is form) K c d → Found (u32_is (form.0, n)) K c d
form_as form n K c d e found = subst (λ (k : ℕ). Found (u32_is (form.0, k)) K c d) e found

passive_found : (seen : Seen) (form : ℕ × ℕ) (K : Type 0) (c d : Cursor) → Ready d → form.1 ≡ 1 → Found (u32_is form) K c d → IfGot (λ x e. Found (item_is x) (Belongs 12 seen x) c e) (passive form.0 d)
unfolding passive
passive_found seen form K c d ready one form_found =
    read _ _ counted_bytes _ _ d counted_bytes_spelt ready (λ bytes e bytes_found ready. found_then _ c d e (form_as form 1 K c d one form_found) bytes_found (tt, refl))

-- an active segment after its form and its memory
abbrev active : ℕ → Option (ℕ × ℕ) → Reader Item
active form m = constant I32 >>= (λ place. counted_bytes >>= (λ bytes. done (Segment form m place bytes)))

-- what an active segment's form says of its memory
abbrev FormTells : Seen → ℕ × ℕ → Cursor → Option (ℕ × ℕ) → Cursor → Type 0
FormTells seen form d None e = (form.1 ≡ 0) × (d ≡ e) × (0 < seen.memories)
FormTells seen form d (Some i) e = (form.1 ≡ 2) × Found (u32_is i) (i.1 < seen.memories) d e

memory_found_by : (seen : Seen) (form : ℕ × ℕ) (d : Cursor) → Ready d → form.1 ≤ 2 → form.1 ≢ 1 → IfGot (FormTells seen form d) (memory_of seen form d)
unfolding memory_of
memory_found_by seen form d ready low active =
    either_got _ (eqb form.1 2) _ _ d
    (λ two. read _ _ (index seen.memories) _ _ d (index_spelt seen.memories) ready (λ i e found ready. (eqb-true form.1 2 two, found_as (u32_is i) _ d e found (λ at bytes s. s) found.kept.1)))
    (λ no. either_got _ (ltb 0 seen.memories) _ _ d (λ some. (omega (arith, eqb-false form.1 2 no), refl, ltb-true 0 seen.memories some)) (λ none. tt))

active_found : (seen : Seen) (form : ℕ × ℕ) (K : Type 0) (c d : Cursor) → Ready d → form.1 ≤ 2 → form.1 ≢ 1 → Found (u32_is form) K c d
    → IfGot (λ x e. Found (item_is x) (Belongs 12 seen x) c e) ((memory_of seen form >>= active form.0) d)
active_found seen form K c d ready low is form_found =
    then_got (FormTells seen form d) (λ x e. Found (item_is x) (Belongs 12 seen x) c e) (memory_of seen form d) _ (memory_found_by seen form d ready low is) (λ m e tells. by m e tells)
  where
    by : (m : Option (ℕ × ℕ)) (e : Cursor) → FormTells seen form d m e → IfGot (λ x e. Found (item_is x) (Belongs 12 seen x) c e) (active form.0 m e)
    by None e t =
        subst (λ (z : Cursor). IfGot (λ x e. Found (item_is x) (Belongs 12 seen x) c e) (active form.0 None z)) t.1
        (read _ _ (constant I32) _ _ d (constant_spelt I32) ready (λ place f place_found ready.
        read _ _ counted_bytes _ _ f counted_bytes_spelt ready (λ bytes g bytes_found ready.
        found_then _ c d g (form_as form 0 K c d t.0 form_found) (found_then (Unit {0}) d f g place_found bytes_found tt) (t.2, refl))))
    by (Some i) e t =
        read _ _ (constant I32) _ _ e (constant_spelt I32) (later d e t.1 ready) (λ place f place_found ready.
        read _ _ counted_bytes _ _ f counted_bytes_spelt ready (λ bytes g bytes_found ready.
        found_then _ c d g (form_as form 2 K c d t.0 form_found) (found_then (Unit {0}) d e g t.1 (found_then (Unit {0}) e f g place_found bytes_found tt) tt) (t.1.kept, refl)))

segment_found : (seen : Seen) (c : Cursor) → Ready c → IfGot (λ x d. Found (item_is x) (Belongs 12 seen x) c d) (segment seen c)
unfolding segment
segment_found seen c ready =
    read _ _ u32 _ _ c u32_spelt ready (λ form d form_found ready.
    unless _ (ltb 2 form.1) Malformed form.0 _ d (λ known.
    either_got _ (eqb form.1 1) _ _ d
    (λ one. passive_found seen form _ c d ready (eqb-true form.1 1 one) form_found)
    (λ other. active_found seen form _ c d ready (ltb-false 2 form.1 known) (eqb-false form.1 1 other) form_found)))

named_read : (seen : Seen) (form : ℕ) (i : ℕ × ℕ) → i.1 < seen.memories → Reads (memory_of seen (form, 2)) (Some i) (u32_is i)
unfolding memory_of
named_read seen form i k = reads_last (index seen.memories) Some i (u32_is i) ((index_spelt seen.memories).complete i (tt, k))

segment_read : (seen : Seen) (x : Item) → Belongs 12 seen x → Reads (segment seen) x (item_is x)
unfolding segment passive memory_of
segment_read seen (Passive form bytes) k =
    reads_then u32 _ (form, 1) _ _ _ (u32_spelt.complete (form, 1) tt)
    (reads_on counted_bytes _ bytes _ _ (counted_bytes_spelt.complete bytes tt) (λ c. refl))
segment_read seen (Segment form None place bytes) k =
    reads_then u32 _ (form, 0) _ _ _ (u32_spelt.complete (form, 0) tt)
    (rw (lt-ltb 0 seen.memories k.0) (reads_then (constant I32) _ place _ _ _ ((constant_spelt I32).complete place tt)
    (reads_on counted_bytes _ bytes _ _ (counted_bytes_spelt.complete bytes tt) (λ c. refl))))
segment_read seen (Segment form (Some i) place bytes) k =
    reads_then u32 _ (form, 2) _ _ _ (u32_spelt.complete (form, 2) tt)
    (reads_then (memory_of seen (form, 2)) _ (Some i) _ _ _ (named_read seen form i k.0)
    (reads_then (constant I32) _ place _ _ _ ((constant_spelt I32).complete place tt)
    (reads_on counted_bytes _ bytes _ _ (counted_bytes_spelt.complete bytes tt) (λ c. refl))))
segment_read seen x k = absurd (omega (arith, k.1))

pub segment_spelt : SpeltEntry 12 segment
segment_spelt seen = record { sound = segment_found seen; complete = segment_read seen }
