-- What taking a part comes to.
use Rattle.std.proofs.Common.{◌≡◌, ◌<◌, ◌≤◌, ◌+◌, ◌*◌, inl, inr, ℕ, Bool, List, [], ◌∷◌, ◌++◌, drop, length, Result, Ok, Err, refl, sym, ap, ◌∙◌, subst, arith}
use Rattle.std.specs.Prelude.{is_some}
use Rattle.std.proofs.lemmas.List.{length-map, drop_more}
use Rattle.rv_isa.specs.Words.{word_of}
use Rattle.rv_isa.specs.declared.compiled.Code.{Code}
use Rattle.wasm_defs.specs.declared.item.Item.{Item}
use Rattle.wasm_defs.specs.declared.item.Item.TheVariants.{Signature}
use Rattle.wasm_defs.specs.SmallTypes.{TypesAreSmall}
use Rattle.wasm_laws.proofs.Exports.{types_are_small}
use Rattle.wasm_laws.proofs.PartLists.{items_of-append}
use Rattle.wasm_defs.specs.Limits.{max_text}
use Rattle.wasm_defs.specs.Trees.{Seq}
use Rattle.wasm_defs.specs.Typing.{Context}
use Rattle.wasm_defs.specs.Bodies.{BodyRead, body_read}
use Rattle.wasm_defs.specs.Context.{context_of, types_of}
use Rattle.wasm_defs.specs.Outside.{Body, Run, after_part}
use Rattle.wasm_defs.specs.Outside as outside
use Rattle.wasm_defs.specs.Faults.{IsValidCode, read_of, context_at, items_of, bodies_of}
use Rattle.frame_layout.specs.Templates.{EmitContext}
use Rattle.frame_layout.specs.Functions.{no_distance, function_code}
use Rattle.index_spaces.specs.ItemLimits.{HasSmallType}
use Rattle.index_spaces.specs.Spaces.{Spaces, spaces_of, context_in}
use Rattle.body_compiler.specs.declared.code.BodyStop.{BodyStop}
use Rattle.body_compiler.specs.declared.code.BodyStop.TheVariants as body
use Rattle.wasm_defs.specs.Instances.{first_minimum, rows_of, origin_of}
use Rattle.body_compiler.specs.Unlinked.{IsUnlinked}
use Rattle.body_compiler.specs.Compiling.{Compiles, IsFunctionCode}
use Rattle.body_cutter.specs.Bodies.{Body as GivenBody, body_at, no_body}
use Rattle.wasm_defs.specs.declared.front_stop.FrontStop.{FrontStop}
use Rattle.wasm_defs.specs.declared.front_stop.FrontStop.TheVariants.{Refused, NoMemory}
use Rattle.image_linker.specs.ImageOf.{around, front_of, front_size}
use Rattle.image_linker.specs.Codes.{IsCodeOf}
use Rattle.image_linker.specs.Judging.{limit_at}
use Rattle.wasm_laws.specs.Order.{first_section}
use Rattle.wasm_laws.proofs.Order.{around_body, parts_in_module}
use Rattle.module_stream.specs.Limits.{max_read}
use Rattle.module_stream.specs.Codes.{Coding}
use Rattle.module_stream.specs.Progress.{IsJudged, IsJudging, CanTakeNext, TakesPart, TakesBody, TakesCode, stop_at, body_of_spaces}
use Rattle.module_stream.proofs.Judging.{told_there, typed_there, few_functions, few_bodies, few_imports}
use Rattle.module_stream.proofs.Compiled.{after_body, text_passes, body_refused}

-- ---- bodies that are left from an index on

pub next_left : (bodies : List GivenBody) (i : ℕ) (b : GivenBody) → i < length bodies → b ≡ body_at bodies i → drop i bodies ≡ b ∷ drop (i + 1) bodies
next_left bodies i b lt is = drop_more bodies i no_body lt ∙ ap (λ (x : GivenBody). x ∷ drop (i + 1) bodies) (sym is)

-- ---- a body

abbrev pub given_body : (counted : Bool) → GivenBody → Body
given_body counted b = record { counted = counted; size = b.size; first = b.first; bytes = b.bytes }

-- by the index spaces that the code has
pub moved_body : (Of : (rows first : ℕ) → Context → (index : ℕ) → BodyRead → Type 0) (spaces context : Spaces) (bodies imported first : ℕ) (bytes : List ℕ) → context ≡ spaces → imported ≡ context.imported
    → Of (first_minimum context.tables) first (context_in context) (imported + bodies) (body_read (is_some context.data_count) first bytes)
    → Of (first_minimum spaces.tables) first (context_in spaces) (spaces.imported + bodies) (body_read (is_some spaces.data_count) first bytes)
moved_body Of spaces context bodies imported first bytes same count h =
    let k : imported ≡ spaces.imported = count ∙ ap (λ (x : Spaces). x.imported) same in
    let g = subst (λ (x : Spaces). Of (first_minimum x.tables) first (context_in x) (imported + bodies) (body_read (is_some x.data_count) first bytes)) same h in
    subst (λ (n : ℕ). Of (first_minimum spaces.tables) first (context_in spaces) (n + bodies) (body_read (is_some spaces.data_count) first bytes)) k g

-- the code is that of the body after these items and so many bodies
code_of_body : (items : List Item) (k : ℕ) (b : Body) (tree : Seq) (code : Code)
    → ((w : EmitContext) → w.layout ≡ (around items k b tree no_distance).layout → IsUnlinked (rows_of items) (context_of items).types w → IsFunctionCode w (origin_of items k b) (context_at items k b) tree code) → IsCodeOf items k b tree code
code_of_body items k b tree code is =
    let here = is (around items k b tree no_distance) refl (record { near = refl; rows_are = refl; likes_are = refl }) in
    record {
      words = here.words;
      relocations = here.relocations;
      traps = here.traps;
      size = ap (λ (l : List ℕ). length l) here.words ∙ length-map (function_code (around items k b tree no_distance) (context_at items k b) tree) word_of;
    }

-- a body's code, by the spaces that the code has and by the items before it
pub record HasCode (s : Spaces) (n : ℕ) (items : List Item) (k : ℕ) (b : Body) (code : Code) : Type 0 where
  pub tree : Seq
  pub valid : IsValidCode (body_of_spaces s n b) (read_of b).code tree
  pub is_code : IsCodeOf items k b tree code

has_code : (s : Spaces) (n : ℕ) (items : List Item) (k : ℕ) (b : Body) (code : Code) → s ≡ spaces_of items → n ≡ k
    → Compiles (first_minimum s.tables) b.first (context_in s) (s.imported + n) (read_of b) (Ok code) → HasCode s n items k b code
has_code s n items k b code same count =
    let here : Compiles (first_minimum (spaces_of items).tables) b.first (context_in (spaces_of items)) ((spaces_of items).imported + k) (read_of b) (Ok code) → HasCode (spaces_of items) k items k b code =
    λ h. record { tree = h.0; valid = h.1; is_code = code_of_body items k b h.0 code h.2 } in
    let counted = subst (λ (m : ℕ). Compiles (first_minimum (spaces_of items).tables) b.first (context_in (spaces_of items)) ((spaces_of items).imported + m) (read_of b) (Ok code) → HasCode (spaces_of items) m items k b code) (sym count) here in
    subst (λ (x : Spaces). Compiles (first_minimum x.tables) b.first (context_in x) (x.imported + n) (read_of b) (Ok code) → HasCode x n items k b code) (sym same) counted

module _ (bytes : List ℕ) (left : Run) (spaces : Spaces) (codes : Coding) (b : GivenBody) (counted : Bool) (j : IsJudging bytes (after_part (outside.Coded (given_body counted b)) left) spaces codes) where
  -- read as one of the module
  read_as : (r : Result Code BodyStop) → TakesBody spaces codes.count b r → Compiles (first_minimum spaces.tables) b.first (context_in spaces) (spaces.imported + codes.count) (read_of (given_body counted b)) r
  read_as r h =
      subst (λ (k : Bool). Compiles (first_minimum spaces.tables) b.first (context_in spaces) (spaces.imported + codes.count) (body_read k b.first b.bytes) r)
      (told_there bytes left spaces codes.count (given_body counted b) j.judged) h

  coded : (code : Code) → TakesBody spaces codes.count b (Ok code) → HasCode spaces codes.count (items_of j.judged.front) (length (bodies_of j.judged.front)) (given_body counted b) code
  coded code h = has_code spaces codes.count (items_of j.judged.front) (length (bodies_of j.judged.front)) (given_body counted b) code j.judged.spaces_are j.judged.count (read_as (Ok code) h)

  front_is : front_of spaces.imported ≡ front_size (items_of j.judged.front)
  front_is = ap (λ (x : Spaces). front_of x.imported) j.judged.spaces_are

  pub body_stops : (s : FrontStop) (new : Coding) → TakesCode spaces codes b (Err s) new → TakesPart bytes (Err s) left spaces new
  body_stops (Refused r) new (inl h) = body_refused bytes left spaces codes (given_body counted b) r j (read_as (Err (body.Refused r)) h)
  body_stops (Refused r) new (inr (code, h, over, is)) =
      let c = coded code h in
      rw is (text_passes bytes left spaces codes (given_body counted b) j c.tree code c.valid c.is_code (omega (arith, over, front_is)))
  body_stops NoMemory new h = tt

  pub body_taken : (new : Coding) → TakesCode spaces codes b (Ok tt) new → TakesPart bytes (Ok tt) left spaces new
  body_taken new (code, h, new_is, under) =
      let c = coded code h in
      rw new_is (after_body bytes left spaces codes (given_body counted b) j c.tree code c.valid c.is_code (omega (arith, under, front_is, ap (λ (x : Coding). x.words) new_is)))

-- ---- a part can be taken

-- a type that an item lists is small
one_is_small : (front : List Item) (x : Item) (back : List Item) → TypesAreSmall (types_of (front ++ x ∷ back)) → HasSmallType x
one_is_small [] (Signature form params results ty) back h = h.0
one_is_small [] _ back h = tt
one_is_small (Signature form params results ty ∷ front) x back h = one_is_small front x back h.1
one_is_small (_ ∷ front) x back h = one_is_small front x back h

pub item_is_small : (bytes : List ℕ) (left : Run) (spaces : Spaces) (bodies : ℕ) (x : Item) → IsJudged bytes (after_part (outside.Listed x) left) spaces bodies → HasSmallType x
item_is_small bytes left spaces bodies x j =
    let e = ap items_of j.parts ∙ items_of-append j.front (outside.Listed x ∷ left.parts) in
    one_is_small (items_of j.front) x (items_of left.parts) (subst (λ (items : List Item). TypesAreSmall (types_of items)) e (types_are_small bytes))

pub can_take : (bytes : List ℕ) (left : Run) (spaces : Spaces) (codes : Coding) (b : GivenBody) (counted : Bool) → length bytes ≤ max_read
    → IsJudging bytes (after_part (outside.Coded (given_body counted b)) left) spaces codes → CanTakeNext spaces codes b
can_take bytes left spaces codes b counted few j =
    let next = after_part (outside.Coded (given_body counted b)) left in
    let f = few_functions bytes next spaces codes.count j.judged in
    let k = few_bodies bytes next spaces codes.count j.judged in
    let i = few_imports bytes next spaces codes.count j.judged in
    let stands = (around_body first_section (length bytes) j.judged.front (given_body counted b) left.parts (rw j.judged.parts at (parts_in_module bytes))).1 in
    (record { typed = typed_there bytes left spaces codes.count (given_body counted b) j.judged; few = omega arith; index = omega arith; most = stands.most; offset = omega (arith, stands.before) }, omega arith, omega (arith, j.fits))

-- ---- the whole

pub judging_on : (bytes : List ℕ) (run next : Run) (spaces : Spaces) (codes : Coding) → run ≡ next → IsJudging bytes run spaces codes → IsJudging bytes next spaces codes
judging_on bytes run next spaces codes e j = subst (λ (r : Run). IsJudging bytes r spaces codes) e j

-- a body whose code alone is longer than a text
pub long_taken : (spaces : Spaces) (codes new : Coding) (b : GivenBody) (code : Code) → max_text < 4 * length code.words → TakesBody spaces codes.count b (Ok code) → TakesCode spaces codes b (Err (Refused (limit_at b.size))) new
long_taken spaces codes new b code long compiled = inr (code, compiled, omega arith, refl)

-- a body's stop
pub stop_taken : (spaces : Spaces) (codes new : Coding) (b : GivenBody) (s : BodyStop) → TakesBody spaces codes.count b (Err s) → TakesCode spaces codes b (Err (stop_at b s)) new
stop_taken spaces codes new b (body.Refused r) h = inl h
stop_taken spaces codes new b body.TooLong h = long_taken spaces codes new b h.0 h.2 h.1
stop_taken spaces codes new b body.NoMemory h = tt

-- an error is one of the module, whatever was left
pub fault_taken : (bytes : List ℕ) (s : FrontStop) (run next : Run) (spaces later : Spaces) (codes new : Coding) → TakesPart bytes (Err s) run spaces codes → TakesPart bytes (Err s) next later new
fault_taken bytes (Refused r) run next spaces later codes new h = h
fault_taken bytes NoMemory run next spaces later codes new h = tt
