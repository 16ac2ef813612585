-- The traps of an image are one after the other in its text, and each is given its source location.
use Rattle.std.proofs.Common.{◌≡◌, ℕ, suc, ◌+◌, ◌*◌, ◌^◌, ◌<◌, ◌≤◌, ◌⊎◌, inl, inr, ⊎_elim, ◌==◌, List, [], ◌∷◌, ◌++◌, map, length, Option, Some, refl, sym, ap, ◌∙◌, subst, arith}
use Rattle.std.proofs.lemmas.Bool.{cond-true, cond-false, eq-eqb, ne_eqb}
use Rattle.std.proofs.lemmas.List.Sums.{fold_push}
use Rattle.rv_isa.specs.declared.compiled.TrapSite.{TrapSite}
use Rattle.wasm_defs.specs.declared.item.Item.{Item}
use Rattle.wasm_defs.specs.declared.item.Item.TheVariants.{Imported}
use Rattle.wasm_defs.specs.declared.place.Place.{Place}
use Rattle.wasm_defs.specs.Configurations.{Origin}
use Rattle.wasm_defs.specs.Context.{import_count}
use Rattle.wasm_defs.specs.Faults.{context_at, Module}
use Rattle.wasm_defs.specs.Instances.{origin_of}
use Rattle.wasm_defs.specs.Outside.{Body}
use Rattle.wasm_defs.specs.Trees.{Seq}
use Rattle.frame_layout.specs.Functions.{no_distance, Trap, site_of, sites_of, body_traps}
use Rattle.frame_layout.specs.Templates.{exit_stub}
use Rattle.frame_layout.specs.Traps.{room_trap, AreSpaced}
use Rattle.frame_layout.proofs.Spaced.{function_spaced}
use Rattle.simulation.specs.Functions.{AreSited}
use Rattle.frame_layout.proofs.Sizes.{function_length}
use Rattle.image_format.specs.declared.image.TrapPlace.{TrapPlace}
use Rattle.image_format.specs.Bounds.{Each, bound_of, PlaceFits}
use Rattle.image_format.specs.ImageRun.{place_told}
use Rattle.image_linker.specs.ImageOf.{around, size_of, stub_size, front_size, place_at, stub_traps, traps_of_function, traps_from, places_of_traps}
use Rattle.image_linker.specs.Judging.{sizes}
use Rattle.wasm_laws.specs.Short.{AreShortImports, AreShortBodies}
use Rattle.image_linker.proofs.Offsets.{AreShortSites, sites_are_short}

-- ---- one after the other

pub record StandsAt (from word : ℕ) (p : TrapPlace) : Type 0 where
  pub behind : from + 2 ≤ word
  pub offset : p.offset ≡ 4 * word
  pub function : p.function < 2 ^ 32
  pub module_offset : p.module_offset < 2 ^ 32

-- words of traps, from a word on and before another; each has two more before it
abbrev pub Stand : (from : ℕ) → List TrapPlace → (to : ℕ) → Type 0
Stand from [] to = from ≤ to
Stand from (p ∷ ps) to = (word : ℕ) × StandsAt from word p × Stand (word + 1) ps to

stand_less : (less from to : ℕ) (ps : List TrapPlace) → less ≤ from → Stand from ps to → Stand less ps to
stand_less less from to [] le h = omega (arith, h)
stand_less less from to (p ∷ ps) le h =
    let x = h.1 in
    (h.0, record { behind = omega (arith, x.behind); offset = x.offset; function = x.function; module_offset = x.module_offset }, h.2)

stand_both : (from mid to : ℕ) (ps qs : List TrapPlace) → Stand from ps mid → Stand mid qs to → Stand from (ps ++ qs) to
stand_both from mid to [] qs h k = stand_less from mid to qs h k
stand_both from mid to (p ∷ ps) qs h k = (h.0, h.1, stand_both (h.0 + 1) mid to ps qs h.2 k)

stand_within : (from to : ℕ) (ps : List TrapPlace) → Stand from ps to → from + 3 * length ps ≤ to
stand_within from to [] h = omega (arith, h)
stand_within from to (p ∷ ps) h = omega (arith, h.1.behind, stand_within (h.0 + 1) to ps h.2)

-- so they are as an image has them
each_fits : (words from to : ℕ) (front ps : List TrapPlace) → bound_of front ≤ 4 * from → to ≤ words → words ≤ 2 ^ 26 → Stand from ps to → Each (PlaceFits words) front ps
each_fits words from to front [] low high few h = tt
each_fits words from to front (p ∷ ps) low high few h =
    let x = h.1 in
    let within = stand_within (h.0 + 1) to ps h.2 in
    let next : bound_of (front ++ p ∷ []) ≡ p.offset + 1 = fold_push (λ (_ : ℕ) (q : TrapPlace). q.offset + 1) 0 front p in (
      record {
        offset = (omega (arith, x.offset, within), omega (arith, x.offset), omega (arith, x.offset, within));
        rises = omega (arith, x.offset, x.behind);
        function = x.function;
        module_offset = x.module_offset;
      },
      each_fits words (h.0 + 1) to (front ++ p ∷ []) ps (omega (arith, next, x.offset)) high few h.2,
    )

pub places_fit : (words : ℕ) (ps : List TrapPlace) → words ≤ 2 ^ 26 → Stand 0 ps words → (3 * length ps ≤ words) × Each (PlaceFits words) [] ps
places_fit words ps few h = (omega (arith, stand_within 0 words ps h), each_fits words 0 words [] ps (omega arith) (omega arith) few h)

-- ---- each is given its own

abbrev pub IsAmong : TrapPlace → List TrapPlace → Type 0
IsAmong q [] = ⊥
IsAmong q (p ∷ ps) = (q ≡ p) ⊎ IsAmong q ps

pub among_left : (q : TrapPlace) (ps qs : List TrapPlace) → IsAmong q ps → IsAmong q (ps ++ qs)
among_left q [] qs h = absurd h
among_left q (p ∷ ps) qs h = ⊎_elim (λ (e : q ≡ p). inl e) (λ (more : IsAmong q ps). inr (among_left q ps qs more)) h

pub among_right : (q : TrapPlace) (ps qs : List TrapPlace) → IsAmong q qs → IsAmong q (ps ++ qs)
among_right q [] qs h = h
among_right q (p ∷ ps) qs h = inr (among_right q ps qs h)

abbrev pub place_in : TrapPlace → Place
place_in p = record { function = p.function; offset = p.module_offset }

among_behind : (from to : ℕ) (ps : List TrapPlace) (q : TrapPlace) → Stand from ps to → IsAmong q ps → 4 * from < q.offset
among_behind from to [] q h among = absurd among
among_behind from to (p ∷ ps) q h among =
    ⊎_elim
    (λ (e : q ≡ p). let same = ap (λ (x : TrapPlace). x.offset) e in omega (arith, same, h.1.offset, h.1.behind))
    (λ (more : IsAmong q ps). omega (arith, h.1.behind, among_behind (h.0 + 1) to ps q h.2 more))
    among

pub told_among : (from to : ℕ) (ps : List TrapPlace) (q : TrapPlace) → Stand from ps to → IsAmong q ps → place_told ps q.offset ≡ Some (place_in q)
told_among from to [] q h among = absurd among
told_among from to (p ∷ ps) q h among =
    ⊎_elim
    (λ (e : q ≡ p). subst (λ (x : TrapPlace). place_told (p ∷ ps) x.offset ≡ Some (place_in x)) (sym e) (cond-true (p.offset == p.offset) _ _ (eq-eqb p.offset p.offset refl)))
    (λ (more : IsAmong q ps).
    let behind = among_behind (h.0 + 1) to ps q h.2 more in
    cond-false (p.offset == q.offset) _ _ (ne_eqb p.offset q.offset (λ (e : p.offset ≡ q.offset). absurd (omega (arith, e, h.1.offset, behind)))) ∙ told_among (h.0 + 1) to ps q h.2 more)
    among

-- and so it is known where a function's traps come from
pub all_sited : (told : ℕ → Option Place) (begin : ℕ) (o : Origin) (ts : List Trap) → ((q : TrapPlace) → IsAmong q (map (place_at begin o.index) (map (site_of o) ts)) → told q.offset ≡ Some (place_in q))
    → AreSited (λ word. told (4 * word)) begin o ts
all_sited told begin o [] h = tt
all_sited told begin o (t ∷ ts) h = (h (place_at begin o.index (site_of o t)) (inl refl), all_sited told begin o ts (λ q more. h q (inr more)))

-- ---- where they are

-- those of a function, from its first word on
stand_sites : (here function from to : ℕ) (ss : List TrapSite) → function < 2 ^ 32 → AreShortSites ss → AreSpaced from (map (λ (s : TrapSite). s.place) ss) to → (start end : ℕ) → start ≤ here + from → here + to ≤ end
    → Stand start (map (place_at here function) ss) end
stand_sites here function from to [] few short spaced start end low high = omega (arith, spaced)
stand_sites here function from to (s ∷ ss) few short spaced start end low high = (
  here + s.place,
  record { behind = omega (arith, spaced.0); offset = refl; function = few; module_offset = short.0 },
  stand_sites here function (s.place + 1) to ss few short.1 spaced.1 (here + s.place + 1) end (omega arith) high,
)

stand_function : (items : List Item) (here k : ℕ) (b : Body) (tree : Seq) → import_count items + k < 2 ^ 32 → AreShortBodies (b ∷ []) → Stand here (traps_of_function items here k b tree) (here + size_of items k b tree)
stand_function items here k b tree few short =
    let w = around items k b tree no_distance in
    let c = context_at items k b in
    let o = origin_of items k b in
    let size = function_length w no_distance c tree in
    stand_sites here (import_count items + k) 0 _ (sites_of w o c tree) few (short.0, sites_are_short o short.1 (body_traps w c tree)) (function_spaced w o c tree) here (here + size_of items k b tree) (omega arith) (omega (arith, size))

stand_functions : (items : List Item) (here k : ℕ) (bodies : List Body) (trees : List Seq) → import_count items + k + length bodies < 2 ^ 32 → AreShortBodies bodies
    → Stand here (traps_from items here k bodies trees) (here + sizes items k bodies trees)
stand_functions items here k [] trees few short = omega arith
stand_functions items here k (b ∷ bodies) [] few short = omega arith
stand_functions items here k (b ∷ bodies) (tree ∷ trees) few short =
    let next = here + size_of items k b tree in
    let all : next + sizes items (suc k) bodies trees ≡ here + (size_of items k b tree + sizes items (suc k) bodies trees) = omega arith in
    subst (Stand here (traps_of_function items here k b tree ++ traps_from items next (suc k) bodies trees)) all
    (stand_both here next (next + sizes items (suc k) bodies trees) (traps_of_function items here k b tree) (traps_from items next (suc k) bodies trees)
    (stand_function items here k b tree (omega arith) (short.0, short.1, tt))
    (stand_functions items next (suc k) bodies trees (omega arith) short.2))

-- those of the stubs
stand_stubs : (here number : ℕ) (items : List Item) → number + import_count items < 2 ^ 32 → AreShortImports items → Stand here (stub_traps here number items) (here + stub_size * import_count items)
stand_stubs here number [] few short = omega arith
stand_stubs here number (Imported from what kind type_index ∷ items) few short =
    let next = stand_stubs (here + stub_size) (suc number) items (omega arith) short.1 in
    let all : here + stub_size + stub_size * import_count items ≡ here + stub_size * (import_count items + 1) = omega arith in (
      here + room_trap,
      record { behind = omega arith; offset = refl; function = omega arith; module_offset = short.0 },
      subst (Stand (here + room_trap + 1) (stub_traps (here + stub_size) (suc number) items)) all
          (stand_less (here + room_trap + 1) (here + stub_size) (here + stub_size + stub_size * import_count items) (stub_traps (here + stub_size) (suc number) items) (omega arith) next),
    )
stand_stubs here number (x ∷ items) few short = stand_stubs here number items few short

-- and those of the text
pub traps_stand : (m : Module) → import_count m.items + length m.bodies < 2 ^ 32 → AreShortImports m.items → AreShortBodies m.bodies → Stand 0 (places_of_traps m) (front_size m.items + sizes m.items 0 m.bodies m.trees)
traps_stand m few imports bodies =
    let front = front_size m.items in
    stand_less 0 (length exit_stub) (front + sizes m.items 0 m.bodies m.trees) (places_of_traps m) (omega arith)
    (stand_both (length exit_stub) front (front + sizes m.items 0 m.bodies m.trees) (stub_traps (length exit_stub) 0 m.items) (traps_from m.items front 0 m.bodies m.trees)
    (stand_stubs (length exit_stub) 0 m.items (omega arith) imports)
    (stand_functions m.items front 0 m.bodies m.trees (omega arith) bodies))
