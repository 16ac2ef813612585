-- The trap sites of an image are those of all traps of its text.
use Rattle.std.proofs.Common.{◌≡◌, ℕ, suc, ◌+◌, ◌*◌, List, [], ◌∷◌, ◌++◌, map, length, refl, sym, ap, ◌∙◌}
use Rattle.std.specs.Prelude.{slice_get}
use Rattle.std.proofs.lemmas.List.{map-append}
use Rattle.rv_isa.specs.declared.compiled.TrapSite.{TrapSite}
use Rattle.rv_isa.specs.declared.operations.Op.{Op}
use Rattle.wasm_defs.specs.declared.item.Item.{Item}
use Rattle.wasm_defs.specs.declared.item.Item.TheVariants.{Imported}
use Rattle.wasm_defs.specs.Outside.{Body}
use Rattle.wasm_defs.specs.Trees.{Seq}
use Rattle.wasm_defs.specs.Typing.{Context}
use Rattle.wasm_defs.specs.Context.{context_of, import_count, type_or_empty}
use Rattle.wasm_defs.specs.Faults.{context_at}
use Rattle.wasm_defs.specs.Instances.{origin_of}
use Rattle.frame_layout.specs.Templates.{import_stub, exit_stub}
use Rattle.frame_layout.specs.Functions.{no_distance, sites_of}
use Rattle.frame_layout.specs.Traps.{room_trap}
use Rattle.image_format.specs.declared.image.TrapPlace.{TrapPlace}
use Rattle.image_linker.specs.ImageOf.{around, distances, stub_size, size_of, front_size, places_of_functions, code_of_function, code_from, stubs_from, place_at, stub_traps, traps_of_function, traps_from, places_of_traps}
use Rattle.image_linker.specs.Laws.{TrapsAreTold}
use Rattle.image_linker.proofs.Imported.{stubs_length}
use Rattle.image_linker.proofs.Placed.{function_size_is}
use Rattle.image_linker.proofs.FoundTraps.{Finds, both_found, moved, function_found, stub_found, exit_found}

-- their offsets are those of words
abbrev offsets_of : List TrapPlace → List ℕ
offsets_of ps = map (λ (p : TrapPlace). p.offset) ps

abbrev in_bytes : List ℕ → List ℕ
in_bytes ks = map (λ i. 4 * i) ks

-- these operations, from an index on, have these trap sites
record Tells (here : ℕ) (ops : List Op) (sites : List TrapPlace) : Type 0 where
  places : List ℕ
  finds : Finds here ops places
  told : offsets_of sites ≡ in_bytes places

both_told : (here there : ℕ) (xs ys : List Op) (ps qs : List TrapPlace) → here + length xs ≡ there → Tells here xs ps → Tells there ys qs
    → Tells here (xs ++ ys) (ps ++ qs)
both_told here there xs ys ps qs e f g = record {
  places = f.places ++ g.places;
  finds = both_found here there xs ys f.places g.places e f.finds g.finds;
  told =
      map-append (λ (p : TrapPlace). p.offset) ps qs
      ∙ ap (λ (l : List ℕ). l ++ offsets_of qs) f.told ∙ ap (λ (l : List ℕ). in_bytes f.places ++ l) g.told
      ∙ sym (map-append (λ i. 4 * i) f.places g.places);
}

sites_told : (here f : ℕ) (ss : List TrapSite) → offsets_of (map (place_at here f) ss) ≡ in_bytes (map (λ k. here + k) (map (λ (t : TrapSite). t.place) ss))
sites_told here f [] = refl
sites_told here f (s ∷ ss) = ap (λ (l : List ℕ). 4 * (here + s.place) ∷ l) (sites_told here f ss)

-- ---- stubs and functions

stubs_tell : (c : Context) (here number : ℕ) (items : List Item) → Tells here (stubs_from c number items) (stub_traps here number items)
stubs_tell c here number [] = record { places = []; finds = record { found_is = refl; ends = refl }; told = refl }
stubs_tell c here number (Imported from what kind type_index ∷ items) =
    let params = length (type_or_empty (slice_get c.types type_index.1)).params in
    let own : Tells here (import_stub params number) (stub_traps here number (Imported from what kind type_index ∷ [])) = record { places = (here + room_trap) ∷ []; finds = moved here (import_stub params number) (room_trap ∷ []) (stub_found params number); told = refl } in
    both_told here (here + stub_size) (import_stub params number) (stubs_from c (suc number) items) (stub_traps here number (Imported from what kind type_index ∷ [])) (stub_traps (here + stub_size) (suc number) items) refl own (stubs_tell c (here + stub_size) (suc number) items)
stubs_tell c here number (x ∷ items) = stubs_tell c here number items

module _ (items : List Item) (places : List ℕ) where
  function_tells : (here k : ℕ) (b : Body) (tree : Seq) → Tells here (code_of_function items places here k b tree) (traps_of_function items here k b tree)
  function_tells here k b tree =
      let w = around items k b tree (distances places here) in
      let ss = sites_of (around items k b tree no_distance) (origin_of items k b) (context_at items k b) tree in
      let own = map (λ (t : TrapSite). t.place) ss in
      record {
        places = map (λ n. here + n) own;
        finds = moved here (code_of_function items places here k b tree) own (function_found w no_distance (origin_of items k b) (context_at items k b) tree);
        told = sites_told here (import_count items + k) ss;
      }

  functions_tell : (here k : ℕ) (bodies : List Body) (trees : List Seq)
      → Tells here (code_from items places here k bodies trees) (traps_from items here k bodies trees)
  functions_tell here k [] trees = record { places = []; finds = record { found_is = refl; ends = refl }; told = refl }
  functions_tell here k (b ∷ bodies) [] = record { places = []; finds = record { found_is = refl; ends = refl }; told = refl }
  functions_tell here k (b ∷ bodies) (tree ∷ trees) =
      let there = here + size_of items k b tree in
      both_told here there (code_of_function items places here k b tree) (code_from items places there (suc k) bodies trees) (traps_of_function items here k b tree) (traps_from items there (suc k) bodies trees)
      (ap (λ (n : ℕ). here + n) (function_size_is items places here k b tree)) (function_tells here k b tree) (functions_tell there (suc k) bodies trees)

-- ---- the text

pub traps_are_told : TrapsAreTold
traps_are_told m =
    let c = context_of m.items in
    let stubs = stubs_from c 0 m.items in
    let functions = code_from m.items (places_of_functions m) (front_size m.items) 0 m.bodies m.trees in
    let behind = both_told (length exit_stub) (front_size m.items) stubs functions (stub_traps (length exit_stub) 0 m.items) (traps_from m.items (front_size m.items) 0 m.bodies m.trees)
    (ap (λ (n : ℕ). length exit_stub + n) (stubs_length c 0 m.items)) (stubs_tell c (length exit_stub) 0 m.items) (functions_tell m.items (places_of_functions m) (front_size m.items) 0 m.bodies m.trees) in
    let exit : Tells 0 exit_stub [] = record { places = []; finds = exit_found; told = refl } in
    let all = both_told 0 (length exit_stub) exit_stub (stubs ++ functions) [] (places_of_traps m) refl exit behind in
    all.told ∙ ap in_bytes (sym all.finds.found_is)
