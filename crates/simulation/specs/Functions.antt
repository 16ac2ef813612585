-- Functions whose instruction words are in a text.
use Rattle.std.specs.Prelude.{◌≡◌, ◌⊎◌, ℕ, ◌+◌, ◌^◌, ◌<◌, ◌≤◌, List, [], ◌∷◌, ◌++◌, map, length, reverse, Option, Some, slice_get}
use Rattle.rv_isa.specs.declared.operations.Op.{Op}
use Rattle.rv_isa.specs.Runs.{HasAt}
use Rattle.wasm_defs.specs.declared.place.Place.{Place}
use Rattle.wasm_defs.specs.declared.types.FuncType.{FuncType}
use Rattle.wasm_defs.specs.declared.context.GlobalType.{GlobalType}
use Rattle.wasm_defs.specs.Typing.{Types, Context, IsBody, function_type}
use Rattle.wasm_defs.specs.Places.{places_of, greatest}
use Rattle.wasm_defs.specs.Values.{types_of_values}
use Rattle.wasm_defs.specs.Context.{like}
use Rattle.wasm_defs.specs.Configurations.{Store, Origin, Func, Function, Imported, Declared, type_of, Instance, place_left, place_of_body, place_of_import}
use Rattle.frame_layout.specs.Macros.{distance}
use Rattle.frame_layout.specs.Slots.{need}
use Rattle.frame_layout.specs.Templates.{EmitContext, import_stub}
use Rattle.frame_layout.specs.Traps.{room_trap}
use Rattle.frame_layout.specs.Functions.{Trap, function_code, body_traps}
use Rattle.simulation.specs.Covered.{IsCovered}

-- the types of globals
abbrev pub global_types : List GlobalType → Types
global_types gs = map (λ (g : GlobalType). g.ty) gs

-- what a context says of globals and data segments
pub record StoreFits (c : Context) (store : Store) : Type 0 where
  pub globals : global_types c.globals ≡ types_of_values store.globals
  pub segments : c.segments ≤ length store.segments

-- What is known of a text's words: where each function's first one is, and, of one that is a trap's ECALL, where in the module that
-- trap comes from.
pub record TextPlaces : Type 0 where
  pub function : ℕ → ℕ
  pub trap : ℕ → Option Place

-- the source location of each trap of a function whose first word is there
abbrev pub AreSited : (trap : ℕ → Option Place) (begin : ℕ) → Origin → List Trap → Type 0
AreSited trap begin o [] = Unit {0}
AreSited trap begin o (t ∷ ts) = (trap (begin + t.place) ≡ Some (place_left o t.left)) × AreSited trap begin o ts

module _ (text : List (Option Op)) (inst : Instance) (places : TextPlaces) where
  -- a function's words are in the text. An index inside it counts words from its first one.
  pub record Compiled (f : Func) : Type 0 where
    pub begin : ℕ
    pub around : EmitContext
    pub context : Context
    pub covered : IsCovered f.body
    pub typed : IsBody context f.body
    pub no_labels : context.labels ≡ []
    pub types_are : context.types ≡ inst.context.types
    pub globals_are : context.globals ≡ inst.context.globals
    pub segments_are : context.segments ≡ inst.context.segments
    pub locals_are : context.locals ≡ f.ty.params ++ f.locals
    pub results_are : context.results ≡ reverse f.ty.results
    pub greatest_is : f.greatest ≡ greatest (places_of context f.body)
    pub params : around.layout.params ≡ length f.ty.params
    pub locals : around.layout.locals ≡ length f.locals
    pub highest : around.layout.greatest ≡ f.greatest
    pub rows_are : around.rows ≡ length inst.table
    pub like_is : around.like ≡ like inst.context.types
    pub fits : need around.layout < 2 ^ 30
    pub has : HasAt text begin (function_code around context f.body)
    pub inside : begin + length (function_code around context f.body) ≤ length text
    -- the source locations of its traps: the one before its body's instructions from the body as a whole
    pub room : places.trap (begin + room_trap) ≡ Some (place_of_body f.origin)
    pub sited : AreSited places.trap begin f.origin (body_traps around context f.body)
    -- and it leads to the first words of other functions, which have the types that its context says
    pub distances : (here g : ℕ) → around.distance_to here g ≡ distance (begin + here) (places.function g)
    pub functions : (g : ℕ) (t : FuncType) → function_type context g ≡ Some t → (h : Function) × (slice_get inst.functions g ≡ Some h) × (type_of h ≡ t)

  -- a function of the module that is declared: its words are at its index
  pub record Known (index : ℕ) (function : Function) : Type 0 where
    pub func : Func
    pub is : function ≡ Declared func
    pub compiled : Compiled func
    pub begin_is : compiled.begin ≡ places.function index

  -- an imported one: the stub that asks for it is at its index
  pub record Asked (index : ℕ) (function : Function) : Type 0 where
    pub number : ℕ
    pub ty : FuncType
    pub first : ℕ
    pub is : function ≡ Imported number ty first
    pub has : HasAt text (places.function index) (import_stub (length ty.params) number)
    pub few : length ty.params < 2 ^ 20
    pub small : number < 2 ^ 32
    pub room : places.trap (places.function index + room_trap) ≡ Some (place_of_import number first)
    pub one_result : length ty.results ≤ 1

  abbrev pub Placed : (index : ℕ) → Function → Type 0
  Placed index function = Known index function ⊎ Asked index function
