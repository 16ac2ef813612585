-- A module behaves as its image does.
use Rattle.std.proofs.Common.{◌≡◌, inl, inr, ⊎_elim, ℕ, zero, suc, ◌-◌, ◌∷◌, ◌+◌, ◌*◌, ◌^◌, ◌<◌, ◌≤◌, Bool, true, List, [], map, length, replicate, Option, Some, None, refl, sym, ap, ◌∙◌, subst, arith}
use Rattle.std.specs.Prelude.{◌≢◌, ◌==◌, if◌then◌else◌, slice_get, slice_index, option_map}
use Rattle.std.proofs.lemmas.Bool.{cases_lt, cond-false, ne_eqb, and_parts}
use Rattle.std.proofs.lemmas.List.{length-append, length-map}
use Rattle.std.proofs.lemmas.Option.{slice_get-map, slice_get_within}
use Rattle.rv_isa.specs.Words.{word_of, decoded}
use Rattle.rv_isa.specs.Steps.{code_of}
use Rattle.wasm_defs.specs.declared.place.Place.{Place}
use Rattle.wasm_defs.specs.declared.types.FuncType.{FuncType}
use Rattle.wasm_defs.specs.declared.types.ValType.{ValType}
use Rattle.wasm_defs.specs.Limits.{max_params}
use Rattle.wasm_defs.specs.Memory.{page}
use Rattle.wasm_defs.specs.Context.{context_of, import_count, type_or_empty, type_of_function, functions_of as context_functions}
use Rattle.wasm_defs.specs.Typing.{function_type}
use Rattle.wasm_defs.specs.declared.item.Item.{Item}
use Rattle.wasm_defs.specs.Outside.{Body}
use Rattle.wasm_defs.specs.Trees.{Seq}
use Rattle.rv_isa.specs.declared.operations.Op.{Op}
use Rattle.rv_isa.specs.Runs.{HasAt}
use Rattle.wasm_defs.specs.Faults.{context_at, Module}
use Rattle.wasm_defs.specs.Values.{Value, word_of as value_word, words_of}
use Rattle.wasm_defs.specs.Host.{Reply, are_of}
use Rattle.wasm_defs.specs.Configurations.{Func, Function, Imported, Declared, Invocation, type_of}
use Rattle.wasm_defs.specs.Reductions.{run}
use Rattle.wasm_defs.specs.ModuleRun.{first_state, module_run}
use Rattle.wasm_defs.specs.ModuleRun as module_run
use Rattle.wasm_defs.specs.Instances.{Written, imports_from, rows_of, pages_of, cap_of, all_over, all_fit, elements_of, data_of, is_linkable, instance_of, store_of, start_of, values_of, origin_of, function_of, declared_from, declared_functions, functions_of}
use Rattle.wasm_laws.proofs.Exports.{function_is_small}
use Rattle.frame_layout.specs.Traps.{room_trap, site_at}
use Rattle.frame_layout.specs.Functions.{no_distance, body_traps}
use Rattle.frame_layout.specs.Templates.{import_stub, exit_stub}
use Rattle.image_format.specs.declared.image.Import.{Import}
use Rattle.image_format.specs.declared.image.TrapPlace.{TrapPlace}
use Rattle.image_format.specs.Bounds.{IsOffset}
use Rattle.image_format.specs.Environment.{Entry, segments_of as image_segments, loaded}
use Rattle.image_format.specs.ImageRun.{Running, begin, place_told, steps, image_run}
use Rattle.image_format.specs.ImageRun as image_run
use Rattle.simulation.specs.SameRuns.{own_run, SameRuns}
use Rattle.simulation.specs.Functions.{TextPlaces, StoreFits, AreSited, Compiled, Known, Placed as IsPlaced}
use Rattle.simulation.proofs.Frames.Sited.{body_traps_alike}
use Rattle.simulation.specs.Entries.{IsEntry}
use Rattle.simulation.specs.Tables.{TableHolds}
use Rattle.simulation.specs.Laws.{IsInvoked, ImportsStand, EnvironmentStands}
use Rattle.simulation.proofs.Alike.{functions_run_alike}
use Rattle.image_linker.specs.ImageOf.{around, distances, code_of_function, stub_places, places_from, front_size, places_of_functions, offset_of, row_of, table_of, segment_of, placed_segments, segments_at_first, segment_words, imports_of, stub_size, start_offset, text_of, image_of, place_at as trap_place, stub_traps, traps_of_function, traps_from, places_of_traps}
use Rattle.image_linker.specs.Judging.{sizes}
use Rattle.image_linker.specs.Laws.{ImagesBehaveAlike}
use Rattle.image_linker.specs.Same.{Same}
use Rattle.image_linker.proofs.CoveredModules.{AreCoveredBodies, IsCoveredModule}
use Rattle.image_linker.proofs.CoveredFacts.{module_is_covered}
use Rattle.image_linker.proofs.Items.{globals_typed, values_in_range, values_are_words}
use Rattle.image_linker.proofs.LoadedMemory.{HaveBytes}
use Rattle.image_linker.proofs.TableRows.{RowFits, fits, table_has_rows, table_stands, table_called}
use Rattle.image_linker.proofs.Imported.{IsStub, get_left, get_right, index_right, imports_length, places_length, stub_place, stub_stands, type_by, imports_typed}
use Rattle.image_linker.proofs.Placed.{Placed, code_is_short, text_length, exit_stands, stubs_stand, function_stands}
use Rattle.image_linker.proofs.Spread.{IsAmong, among_left, among_right, place_in, told_among, all_sited, traps_stand}
use Rattle.image_linker.proofs.Called.{IsSmall, IsFirst, is_called}
use Rattle.image_linker.proofs.Segmented.{segment_words_length, segment_words_are_words, words_append}

-- words that are in a text are in it
has_inside : (code : List (Option Op)) (i : ℕ) (ops : List Op) → 0 < length ops → HasAt code i ops → i + length ops ≤ length code
has_inside code i [] some has = absurd (omega arith)
has_inside code i (op ∷ []) some has = omega (arith, slice_get_within code i (Some op) has.0)
has_inside code i (op ∷ next ∷ ops) some has = omega (arith, has_inside code (suc i) (next ∷ ops) (omega arith) has.1)

module _ (m : Module) (good : IsCoveredModule m) (short : length (text_of m) ≤ 2 ^ 26) where
  -- the image has as many rows as the table at first, where segments fit
  has_all : is_linkable m ≡ true → all_fit (rows_of m.items) (elements_of m.items) ≡ true
  has_all can_link = (and_parts (all_fit (rows_of m.items) (elements_of m.items)) (all_fit (page * pages_of m.items) (data_of m.items)) can_link).0

  table_length : is_linkable m ≡ true → length (table_of m (is_linkable m)) ≡ rows_of m.items
  table_length can_link =
      ap (λ (b : Bool). length (table_of m b)) can_link ∙ length-map (instance_of m).table (row_of m) ∙ table_has_rows m (has_all can_link)

  -- the image has the module's segments
  segments_again : (ws : List (Written ℕ)) → image_segments (map segment_of ws) ≡ ws
  segments_again [] = refl
  segments_again (w ∷ ws) = ap (λ (vs : List (Written ℕ)). (w.0, w.1) ∷ vs) (segments_again ws)

  placed_are : is_linkable m ≡ true → image_segments (placed_segments m (is_linkable m)) ≡ data_of m.items
  placed_are can_link = ap (λ (b : Bool). image_segments (placed_segments m b)) can_link ∙ segments_again (data_of m.items)

  abbrev segments : List (List ℕ)
  segments = segments_at_first m

  small : is_linkable m ≡ true → IsSmall (image_of m)
  small can_link = record {
    globals =
        omega (
          arith,
          length-append (words_of (values_of m.items)) (segment_words 0 segments),
          length-map (values_of m.items) value_word,
          segment_words_length 0 segments,
          good.spaces.globals,
          good.counted.all,
          good.counted.few,
        );
    table = omega (arith, table_length can_link, good.spaces.rows);
    pages = good.spaces.pages;
    cap = good.spaces.cap;
    fit = subst (λ (ws : List (Written ℕ)). all_fit (page * pages_of m.items) ws ≡ true) (sym (placed_are can_link))
        (and_parts (all_fit (rows_of m.items) (elements_of m.items)) (all_fit (page * pages_of m.items) (data_of m.items)) can_link).1;
    bytes = subst HaveBytes (sym (placed_are can_link)) good.segments.bytes;
    words =
        words_append (words_of (values_of m.items)) (segment_words 0 segments) (values_are_words m.items good.constants)
        (segment_words_are_words 0 segments (omega (arith, good.counted.held)));
    passive = good.counted.held;
    passive_bytes = good.counted.bytes;
  }

  first : is_linkable m ≡ true → (replies : List Reply) → IsFirst (image_of m) replies (store_of m replies)
  first can_link replies = record {
    memory = ap (λ (ws : List (Written ℕ)). all_over (replicate (page * pages_of m.items) 0) ws) (sym (placed_are can_link));
    globals = refl;
    in_range = values_in_range m.items good.constants;
    passive = refl;
    calls = refl;
    replies_are = refl;
  }

  abbrev text : List (Option Op)
  text = code_of (map word_of (text_of m))

  abbrev places : ℕ → ℕ
  places i = slice_index (places_of_functions m) i

  -- what the image says of the text's words
  abbrev told : ℕ → Option Place
  told word = place_told (places_of_traps m) (4 * word)

  abbrev text_places : TextPlaces
  text_places = record { function = places; trap = told }

  -- of each of its trap sites, its source location
  told_of : (q : TrapPlace) → IsAmong q (places_of_traps m) → place_told (places_of_traps m) q.offset ≡ Some (place_in q)
  told_of q among =
      told_among 0 (front_size m.items + sizes m.items 0 m.bodies m.trees) (places_of_traps m) q (traps_stand m good.few_functions good.short_imports good.short_bodies) among

  abbrev imported : ℕ
  imported = import_count m.items

  -- ---- a declared function

  module _ (k : ℕ) (within : k < length m.bodies) where
    abbrev there : Placed (code_of (map word_of (text_of m))) m.items (places_of_functions m) (front_size m.items) 0 m.bodies m.trees k k
    there = function_stands m good k within

    abbrev func : Func
    func = function_of m.items k there.body there.tree

    declared : slice_get (functions_of m) (import_count m.items + k) ≡ Some (Declared func)
    declared =
        get_right (imports_from (context_of m.items) 0 m.items) (map Declared (declared_functions m)) (imported + k) k (omega (arith, imports_length (context_of m.items) 0 m.items))
        ∙ slice_get-map Declared (declared_functions m) k ∙ ap (option_map Declared) there.declared

    -- the index of its first word
    place_at : there.begin ≡ slice_index (places_of_functions m) (import_count m.items + k)
    place_at =
        sym (index_right (stub_places (length exit_stub) imported) (places_from m.items (front_size m.items) 0 m.bodies m.trees) (imported + k) k (omega (arith, places_length (length exit_stub) imported)) ∙ there.place_is)

  -- ---- an imported one

  asked : (i : ℕ) (h : Function) → i < import_count m.items → slice_get (functions_of m) i ≡ Some h → IsStub (code_of (map word_of (text_of m))) (context_of m.items) m.items (stub_traps (length exit_stub) 0 m.items) i (slice_index (places_of_functions m) i) i h
  asked i h less is =
      let c = context_of m.items in
      let stubs = imports_from c 0 m.items in
      let found : slice_get stubs i ≡ Some h = sym (get_left stubs (map Declared (declared_functions m)) i (omega (arith, less, imports_length c 0 m.items))) ∙ is in
      stub_stands text c good.types m.items (length exit_stub) 0 i (places i) i h good.returns (stub_place (length exit_stub) imported i (length exit_stub + stub_size * i) (places_from m.items (front_size m.items) 0 m.bodies m.trees) less refl) (omega arith) (stubs_stand m good) found

  -- ---- all functions

  declared_length : (items : List Item) (k : ℕ) (bodies : List Body) (trees : List Seq) → AreCoveredBodies items k bodies trees → length (declared_from items k bodies trees) ≡ length bodies
  declared_length items k [] [] h = refl
  declared_length items k [] (tree ∷ trees) h = absurd h
  declared_length items k (b ∷ bodies) [] h = absurd h
  declared_length items k (b ∷ bodies) (tree ∷ trees) h = ap suc (declared_length items (suc k) bodies trees h.1)

  functions_length : length (functions_of m) ≡ import_count m.items + length m.bodies
  functions_length =
      length-append (imports_from (context_of m.items) 0 m.items) (map Declared (declared_functions m))
      ∙ omega (arith, imports_length (context_of m.items) 0 m.items, length-map (declared_functions m) Declared, declared_length m.items 0 m.bodies m.trees good.bodies)

  -- a function of an index has the type that the context says
  typed_by : (i : ℕ) (o : Option ℕ) → slice_get (context_functions m.items) i ≡ o → type_by (context_of m.items) o ≡ type_of_function (context_of m.items) i
  typed_by i None is = rw is refl
  typed_by i (Some index) is = rw is refl

  is_typed : (i : ℕ) (h : Function) → slice_get (functions_of m) i ≡ Some h → type_of h ≡ type_of_function (context_of m.items) i
  is_typed i h is = ⊎_elim first later (cases_lt i imported)
    where
      first : i < import_count m.items → type_of h ≡ type_of_function (context_of m.items) i
      first less =
          let c = context_of m.items in
          let stubs = imports_from c 0 m.items in
          let found : slice_get stubs i ≡ Some h = sym (get_left stubs (map Declared (declared_functions m)) i (omega (arith, less, imports_length c 0 m.items))) ∙ is in
          imports_typed c 0 m.items i h good.imports_first found ∙ typed_by i (slice_get (context_functions m.items) i) refl

      later : import_count m.items ≤ i → type_of h ≡ type_of_function (context_of m.items) i
      later le =
          let k = i - imported in
          let index : i ≡ imported + k = omega arith in
          let within : k < length m.bodies = omega (arith, slice_get_within (functions_of m) i h is, functions_length) in
          let same : Some h ≡ Some (Declared (func k within)) = sym is ∙ ap (slice_get (functions_of m)) index ∙ declared k within in
          let function_is : h ≡ Declared (func k within) = cc in
          ap type_of function_is ∙ ap (type_of_function (context_of m.items)) (sym index)

  get_there : (hs : List Function) (i : ℕ) → i < length hs → (h : Function) × (slice_get hs i ≡ Some h)
  get_there [] i less = absurd (omega arith)
  get_there (h ∷ hs) zero less = (h, refl)
  get_there (h ∷ hs) (suc i) less = get_there hs i (omega arith)

  -- each that the context knows is there
  function_at : (i : ℕ) → i < length (context_functions m.items) → (h : Function) × (slice_get (functions_of m) i ≡ Some h)
  function_at i within = get_there (functions_of m) i (omega (arith, within, functions_length, good.functions))

  typed_within : (g : ℕ) (t : FuncType) → function_type (context_of m.items) g ≡ Some t → g < length (context_functions m.items)
  typed_within g t e = by_index (slice_get (context_functions m.items) g) refl
    where
      by_index : (o : Option ℕ) → slice_get (context_functions m.items) g ≡ o → g < length (context_functions m.items)
      by_index None is = let wrong : None ≡ Some t = rw is at e in absurd cc
      by_index (Some index) is = slice_get_within (context_functions m.items) g index is

  functions_typed : (g : ℕ) (t : FuncType) → function_type (context_of m.items) g ≡ Some t → (h : Function) × (slice_get (functions_of m) g ≡ Some h) × (type_of h ≡ t)
  functions_typed g t e =
      let h = function_at g (typed_within g t e) in
      (h.0, h.1, is_typed g h.0 h.1 ∙ ap type_or_empty e)

  -- of a declared function's traps it says where they come from
  told_function : (k : ℕ) (within : k < length m.bodies) (q : TrapPlace) → IsAmong q (traps_of_function m.items (there k within).begin k (there k within).body (there k within).tree) → place_told (places_of_traps m) q.offset ≡ Some (place_in q)
  told_function k within q among =
      told_of q (among_right q (stub_traps (length exit_stub) 0 m.items) (traps_from m.items (front_size m.items) 0 m.bodies m.trees) ((there k within).traps q among))

  compiled : is_linkable m ≡ true → (k : ℕ) (within : k < length m.bodies) → Compiled text (instance_of m) text_places (func k within)
  compiled can_link k within =
      let x = there k within in
      record {
        begin = x.begin;
        around = around m.items k x.body x.tree (distances (places_of_functions m) x.begin);
        context = context_at m.items k x.body;
        covered = x.good.covered;
        typed = x.good.typed;
        no_labels = refl;
        types_are = refl;
        globals_are = refl;
        segments_are = refl;
        locals_are = refl;
        results_are = refl;
        greatest_is = refl;
        params = refl;
        locals = refl;
        highest = refl;
        rows_are = sym (table_has_rows m (has_all can_link));
        like_is = refl;
        fits = x.good.fits;
        has = x.has;
        inside = has_inside text x.begin (code_of_function m.items (places_of_functions m) x.begin k x.body x.tree) (omega arith) x.has;
        room = told_function k within (trap_place x.begin (imported + k) (site_at 0 (origin_of m.items k x.body).first room_trap)) (inl refl);
        sited = subst (AreSited told x.begin (origin_of m.items k x.body))
            (body_traps_alike (around m.items k x.body x.tree no_distance) (distances (places_of_functions m) x.begin) (context_at m.items k x.body) x.tree)
            (all_sited (place_told (places_of_traps m)) x.begin (origin_of m.items k x.body) (body_traps (around m.items k x.body x.tree no_distance) (context_at m.items k x.body) x.tree)
            (λ q more. told_function k within q (inr more)));
        distances = λ here g. refl;
        functions = functions_typed;
      }

  known : is_linkable m ≡ true → (i k : ℕ) (within : k < length m.bodies) → i ≡ import_count m.items + k → (h : Function) → slice_get (functions_of m) i ≡ Some h → Known text (instance_of m) text_places i h
  unfolding compiled
  known can_link i k within index h is =
      let same : Some h ≡ Some (Declared (func k within)) = sym is ∙ ap (slice_get (functions_of m)) index ∙ declared k within in
      record { func = func k within; is = cc; compiled = compiled can_link k within; begin_is = place_at k within ∙ ap places (sym index) }

  few_imports : import_count m.items < 2 ^ 26
  few_imports = omega (arith, short, text_length m good)

  -- each begins at its index
  all_placed : is_linkable m ≡ true → (i : ℕ) (h : Function) → slice_get (functions_of m) i ≡ Some h → IsPlaced text (instance_of m) text_places i h
  all_placed can_link i h is = ⊎_elim first later (cases_lt i imported)
    where
      first : i < import_count m.items → IsPlaced text (instance_of m) text_places i h
      first less =
          let x = asked i h less is in
          let small = x.small in
          let few = few_imports in
          let room = told_of (trap_place (places i) i (site_at 0 x.from room_trap)) (among_left _ (stub_traps (length exit_stub) 0 m.items) (traps_from m.items (front_size m.items) 0 m.bodies m.trees) x.among) in
          inr (record { number = i; ty = x.ty; first = x.from; is = x.is; has = x.has; room = room; few = omega (arith, small.params); small = omega (arith, less, few); one_result = x.one_result })

      later : import_count m.items ≤ i → IsPlaced text (instance_of m) text_places i h
      later le =
          let k = i - imported in
          inl (known can_link i k (omega (arith, slice_get_within (functions_of m) i h is, functions_length)) (omega arith) h is)

  -- after the exit stub, inside the text
  place_within : (i : ℕ) (h : Function) → slice_get (functions_of m) i ≡ Some h → (2 ≤ places i) × (places i < length text)
  place_within i h is = ⊎_elim first later (cases_lt i imported)
    where
      first : i < import_count m.items → (2 ≤ places i) × (places i < length text)
      first less =
          let x = asked i h less is in
          let at = stub_place (length exit_stub) imported i (length exit_stub + stub_size * i) (places_from m.items (front_size m.items) 0 m.bodies m.trees) less refl in
          (omega (arith, at), omega (arith, has_inside text (places i) (import_stub (length x.ty.params) i) (omega arith) x.has))

      later : import_count m.items ≤ i → (2 ≤ places i) × (places i < length text)
      later le =
          let k = i - imported in
          let within : k < length m.bodies = omega (arith, slice_get_within (functions_of m) i h is, functions_length) in
          let x = there k within in
          let index : imported + k ≡ i = omega arith in
          let at = place_at k within ∙ ap places index in
          let words = code_of_function m.items (places_of_functions m) x.begin k x.body x.tree in
          let behind = x.behind in
          (omega (arith, at, behind), omega (arith, at, has_inside text x.begin words (omega arith) x.has))

  -- its offset is that of a word of the text
  pub function_offset : (f : ℕ) → f < length (context_functions m.items) → IsOffset (length (map word_of (text_of m))) (offset_of m f)
  function_offset f within =
      let h = function_at f within in
      let at = place_within f h.0 h.1 in
      let count : length text ≡ length (map word_of (text_of m)) = length-map (map word_of (text_of m)) decoded in
      let few = code_is_short m short in
      (omega (arith, at.1, few), omega arith, omega (arith, at.1, count))

  imports_stand : ImportsStand (instance_of m) (image_of m)
  imports_stand index number ty from is = ⊎_elim first later (cases_lt index imported)
    where
      first : index < import_count m.items → (i : Import) × (slice_get (imports_of (context_of m.items) m.items) number ≡ Some i) × (i.signature ≡ ty)
      first less =
          let x = asked index (Imported number ty from) less is in
          let same = x.is in
          let number_is : index ≡ number = cc in
          let type_is : x.ty ≡ ty = cc in
          (x.import, ap (slice_get (imports_of (context_of m.items) m.items)) (sym number_is) ∙ x.found, x.signature ∙ type_is)

      later : import_count m.items ≤ index → (i : Import) × (slice_get (imports_of (context_of m.items) m.items) number ≡ Some i) × (i.signature ≡ ty)
      later le =
          let k = index - imported in
          let at : index ≡ imported + k = omega arith in
          let within : k < length m.bodies = omega (arith, slice_get_within (functions_of m) index (Imported number ty from) is, functions_length) in
          let wrong : Some (Imported number ty from) ≡ Some (Declared (func k within)) = sym is ∙ ap (slice_get (functions_of m)) at ∙ declared k within in
          absurd cc

  environment : EnvironmentStands (instance_of m) (image_of m) text_places
  environment = record { imports = imports_stand; cap = refl; few = omega (arith, good.spaces.cap); told = λ word. refl }

  -- a row's function is there, and its index is in the text
  in_row : (a f : ℕ) → slice_get (instance_of m).table a ≡ Some (Some f) → (h : Function) × (slice_get (functions_of m) f ≡ Some h) × (type_of h ≡ type_of_function (context_of m.items) f)
  in_row a f is = let h = function_at f (good.rows a f is) in (h.0, h.1, is_typed f h.0 h.1)

  place_is_near : (a f : ℕ) → slice_get (instance_of m).table a ≡ Some (Some f) → places f < 2 ^ 60
  place_is_near a f is =
      let h = function_at f (good.rows a f is) in
      let within = (place_within f h.0 h.1).1 in
      let few = code_is_short m short in
      omega arith

  -- the numbers of rows are words
  pub rows_fit : (a : ℕ) (o : Option ℕ) → slice_get (instance_of m).table a ≡ Some o → RowFits m o
  rows_fit = fits m (omega (arith, good.few_types)) places (λ f. refl) place_is_near

  table_now : is_linkable m ≡ true → TableHolds (instance_of m) text_places (loaded (image_of m))
  table_now can_link = table_stands m can_link (omega (arith, good.few_types)) text_places (λ f. refl) place_is_near in_row

  -- ---- runs: the start function, if there is one, and then an exported one

  few_params : (f : ℕ) → length (type_of_function (context_of m.items) f).params ≤ max_params
  few_params f = let small = function_is_small (context_of m.items) f good.types in small.params

  module _ (can_link : is_linkable m ≡ true) (replies : List Reply) where
    fits_store : StoreFits (context_of m.items) (store_of m replies)
    fits_store = record { globals = globals_typed m.items; segments = omega (arith, good.counted.all) }

    -- the image where a function is called from outside, and others perhaps afterwards
    invoked : (f : ℕ) (h : Function) → slice_get (functions_of m) f ≡ Some h → (arguments : List Value) (later : List (Entry × List ValType)) → are_of (type_of_function (context_of m.items) f).params arguments ≡ true
        → IsInvoked (type_of h) (places f) (cap_of m.items) (store_of m replies) arguments
        (begin (image_of m) replies (record { offset = offset_of m f; arguments = arguments }, (type_of_function (context_of m.items) f).results) later)
    invoked f h is arguments later are =
        let ty = type_of_function (context_of m.items) f in
        subst (λ (t : FuncType). IsInvoked t (places f) (cap_of m.items) (store_of m replies) arguments (begin (image_of m) replies (record { offset = offset_of m f; arguments = arguments }, ty.results) later)) (sym (is_typed f h is))
        (is_called (image_of m) (small can_link) ty (places f) (store_of m replies) arguments replies later are (few_params f) (first can_link replies))

    module _ (f : ℕ) (h : Function) (is : slice_get (functions_of m) f ≡ Some h) (arguments : List Value) (are : are_of (type_of_function (context_of m.items) f).params arguments ≡ true) where
      abbrev exported : Invocation
      exported = record { function = f; arguments = arguments }

      abbrev entry : Entry × List ValType
      entry = (record { offset = offset_of m f; arguments = arguments }, (type_of_function (context_of m.items) f).results)

      is_entry : IsEntry (instance_of m) text_places (record { function = f; arguments = arguments }) (record { offset = offset_of m f; arguments = arguments }, (type_of_function (context_of m.items) f).results)
      is_entry = record {
        function = h;
        is = is;
        offset = refl;
        arguments = refl;
        are_of_types = ap (λ (ty : FuncType). are_of ty.params arguments) (is_typed f h is) ∙ are;
        few = subst (λ (ty : FuncType). length ty.params ≤ max_params) (sym (is_typed f h is)) (few_params f);
        results = ap (λ (ty : FuncType). ty.results) (sym (is_typed f h is));
      }

      -- what runs first, with this start function or none
      abbrev first_by : Option ℕ → Running
      first_by start =
          if start_offset m start == 0
          then begin (image_of m) replies (record { offset = offset_of m f; arguments = arguments }, (type_of_function (context_of m.items) f).results) []
          else begin (image_of m) replies (record { offset = start_offset m start; arguments = [] }, []) ((record { offset = offset_of m f; arguments = arguments }, (type_of_function (context_of m.items) f).results) ∷ [])

      abbrev Alike : Option ℕ → Type 0
      Alike start =
          SameRuns (λ k. module_run.run_of (run (instance_of m) k (first_state start (store_of m replies) (record { function = f; arguments = arguments })))) (λ n. own_run (length (context_of m.items).globals) (image_run.run_of (steps (image_of m) n (first_by start))))

      by_start : (start : Option ℕ) → start_of m.items ≡ start → Alike start
      by_start None e =
          functions_run_alike (instance_of m) (image_of m) text_places h exported [] (store_of m replies) (begin (image_of m) replies entry []) (all_placed can_link) environment is
          (invoked f h is arguments [] are) tt fits_store (table_called (instance_of m) text_places (image_of m) replies entry [] (table_now can_link)) (exit_stands m good) (code_is_short m short)
      by_start (Some s) e =
          let right = good.start s e in
          let takes = right.1 in
          let g = function_at s right.0 in
          let behind = (place_within s g.0 g.1).0 in
          let some : start_offset m (Some s) ≢ 0 = λ (z : start_offset m (Some s) ≡ 0). absurd (omega (arith, z, behind)) in
          let none_given : are_of (type_of_function (context_of m.items) s).params [] ≡ true = ap (λ (ts : List ValType). are_of ts []) takes.params in
          let r = begin (image_of m) replies (record { offset = start_offset m (Some s); arguments = [] }, []) (entry ∷ []) in
          let first_invoked : IsInvoked (type_of g.0) (places s) (cap_of m.items) (store_of m replies) [] r =
          subst (λ (results : List ValType). IsInvoked (type_of g.0) (places s) (cap_of m.items) (store_of m replies) [] (begin (image_of m) replies (record { offset = offset_of m s; arguments = [] }, results) (entry ∷ []))) takes.results
          (invoked s g.0 g.1 [] (entry ∷ []) none_given) in
          let same = functions_run_alike (instance_of m) (image_of m) text_places g.0 (record { function = s; arguments = [] }) (exported ∷ []) (store_of m replies) r (all_placed can_link) environment g.1 first_invoked (is_entry, tt) fits_store (table_called (instance_of m) text_places (image_of m) replies (record { offset = start_offset m (Some s); arguments = [] }, []) (entry ∷ []) (table_now can_link)) (exit_stands m good) (code_is_short m short) in
          subst (λ (q : Running). SameRuns (λ k. module_run.run_of (run (instance_of m) k (first_state (Some s) (store_of m replies) exported))) (λ n. own_run (length (context_of m.items).globals) (image_run.run_of (steps (image_of m) n q))))
          (sym (cond-false (start_offset m (Some s) == 0) (begin (image_of m) replies entry []) r (ne_eqb (start_offset m (Some s)) 0 some))) same

    pub function_runs_alike : (f : ℕ) → f < length (context_functions m.items) → (arguments : List Value) → are_of (type_of_function (context_of m.items) f).params arguments ≡ true
        → SameRuns (module_run m f arguments replies) (λ n. own_run (length (context_of m.items).globals) (image_run (image_of m) (offset_of m f) (type_of_function (context_of m.items) f).results arguments replies n))
    function_runs_alike f within arguments are =
        let h = function_at f within in
        by_start f h.0 h.1 arguments are (start_of m.items) refl

pub straight_modules_behave_alike : (m : Module) → IsCoveredModule m → length (text_of m) ≤ 2 ^ 26 → Same m (image_of m)
straight_modules_behave_alike m good short = record {
  unlinkable = refl;
  runs = λ can_link name f arguments replies is are. function_runs_alike m good short can_link replies f (good.exports name f is) arguments are;
}

pub images_behave_alike : ImagesBehaveAlike
images_behave_alike bytes m fits is =
    let good = module_is_covered bytes m fits is.is in
    straight_modules_behave_alike m good (let keeps = is.fits in omega (arith, text_length m good))
