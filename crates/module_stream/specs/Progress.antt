-- How far the compiling of a module came.
use Rattle.std.specs.Prelude.{◌≡◌, ◌<◌, ◌≤◌, ◌⊎◌, ◌+◌, ◌*◌, ◌^◌, ℕ, suc, Bool, List, [], ◌∷◌, ◌++◌, length, IsSome, is_some, Result, Ok, Err}
use Rattle.rv_isa.specs.declared.compiled.Code.{Code}
use Rattle.wasm_defs.specs.declared.fault.Refusal.{Refusal}
use Rattle.wasm_defs.specs.declared.item.Item.{Item}
use Rattle.wasm_defs.specs.Limits.{max_body, max_text}
use Rattle.wasm_defs.specs.Typing.{Context, function_type}
use Rattle.wasm_defs.specs.Trees.{Seq}
use Rattle.wasm_defs.specs.Context.{body_context, type_of_function}
use Rattle.wasm_defs.specs.Bodies.{body_read}
use Rattle.wasm_defs.specs.Outside.{Part, Section, Listed, Coded, Body, Run, module_read}
use Rattle.wasm_defs.specs.Faults.{items_of, bodies_of, read_of, AreValid, Rejected}
use Rattle.index_spaces.specs.Spaces.{Spaces, spaces_of, context_in}
use Rattle.section_reader.specs.Onward.{after_parts}
use Rattle.body_cutter.specs.Bodies.{Body as GivenBody}
use Rattle.wasm_defs.specs.declared.front_stop.FrontStop.{FrontStop}
use Rattle.wasm_defs.specs.declared.front_stop.FrontStop.TheVariants.{Refused, NoMemory}
use Rattle.body_compiler.specs.declared.code.BodyStop.{BodyStop}
use Rattle.body_compiler.specs.declared.code.BodyStop.TheVariants as body
use Rattle.wasm_defs.specs.Instances.{first_minimum}
use Rattle.body_compiler.specs.Compiling.{Compiles}
use Rattle.body_compiler.specs.Counting.{Measures}
use Rattle.image_linker.specs.ImageOf.{front_of}
use Rattle.image_linker.specs.Codes.{IsCodeOf}
use Rattle.image_linker.specs.Judging.{text_bytes, limit_at, IsTextFault, IsVerdictOf}
use Rattle.module_stream.specs.Limits.{max_read}
use Rattle.module_stream.specs.Codes.{Coding, AreAll, with_code}
use Rattle.module_stream.specs.CutBodies.{coded_all}

-- the codes of the bodies of these parts, after these items and k bodies
abbrev pub AreCodes : List Item → ℕ → List Part → List Seq → List Code → Type 0
AreCodes items k [] [] [] = Unit {0}
AreCodes items k [] trees codes = ⊥
AreCodes items k (Section at position ∷ parts) trees codes = AreCodes items k parts trees codes
AreCodes items k (Listed x ∷ parts) trees codes = AreCodes (items ++ x ∷ []) k parts trees codes
AreCodes items k (Coded b ∷ parts) (tree ∷ trees) (code ∷ codes) = IsCodeOf items k b tree code × AreCodes items (suc k) parts trees codes
AreCodes items k (Coded b ∷ parts) trees codes = ⊥

-- these parts of the module were read and are right, with so many bodies, and this is left
pub record IsJudged (bytes : List ℕ) (left : Run) (spaces : Spaces) (bodies : ℕ) : Type 0 where
  pub front : List Part
  pub parts : (module_read bytes).parts ≡ front ++ left.parts
  pub ending : (module_read bytes).ending ≡ left.ending
  pub spaces_are : spaces ≡ spaces_of (items_of front)
  pub count : bodies ≡ length (bodies_of front)
  pub trees : List Seq
  pub valid : AreValid [] 0 front trees

-- and all codes are those of the bodies
pub record IsJudging (bytes : List ℕ) (left : Run) (spaces : Spaces) (codes : Coding) : Type 0 where
  pub judged : IsJudged bytes left spaces codes.count
  pub all : List Code
  pub are_all : AreAll codes all
  pub coded : AreCodes [] 0 judged.front judged.trees all
  -- with the words before the functions their words keep the limit
  pub fits : text_bytes (items_of (module_read bytes).parts) codes.words ≤ max_text
  -- an error of the text is in what is left
  pub text_left : (r : Refusal) → IsTextFault [] 0 0 (module_read bytes).parts r → IsTextFault (items_of judged.front) (length (bodies_of judged.front)) codes.words left.parts r
  pub text_whole : (r : Refusal) → IsTextFault (items_of judged.front) (length (bodies_of judged.front)) codes.words left.parts r → IsTextFault [] 0 0 (module_read bytes).parts r

-- what a body is validated by, before which so many bodies are
abbrev pub body_of_spaces : Spaces → ℕ → Body → Context
body_of_spaces s k b =
    let c = context_in s in
    body_context c (type_of_function c (s.imported + k)) (read_of b).groups

-- the function of a body, before which so many bodies are, is there with its type, and offsets are small
pub record CanTake (spaces : Spaces) (bodies : ℕ) (b : GivenBody) : Type 0 where
  pub typed : IsSome (function_type (context_in spaces) (spaces.imported + bodies))
  pub few : length spaces.functions < 2 ^ 32
  pub index : spaces.imported + bodies < 2 ^ 32
  pub offset : b.first + length b.bytes < 2 ^ 63
  pub most : length b.bytes ≤ max_body

-- the next one can be taken, and its code can be added
abbrev pub CanTakeNext : Spaces → Coding → GivenBody → Type 0
CanTakeNext spaces codes b = CanTake spaces codes.count b × (codes.count < 2 ^ 27) × (codes.words ≤ 2 ^ 26)

-- bodies can be taken: of some module they come next, after what is right
abbrev pub CanTakeAll : Spaces → Coding → List GivenBody → Type 0
CanTakeAll spaces codes bodies =
    (bytes : List ℕ) × (left : Run) × (length bytes ≤ max_read) × (counted : Bool) × IsJudging bytes (after_parts (coded_all counted bodies) left) spaces codes

-- parts were taken; or the module's error is found
abbrev pub TakesPart : List ℕ → Result (Unit {0}) FrontStop → Run → Spaces → Coding → Type 0
TakesPart bytes (Ok done) run spaces codes = IsJudging bytes run spaces codes
TakesPart bytes (Err (Refused r)) run spaces codes = IsVerdictOf bytes (Rejected r)
TakesPart bytes (Err NoMemory) run spaces codes = Unit {0}

-- the compiling of a body, before which so many bodies are, comes to this
abbrev pub TakesBody : Spaces → ℕ → GivenBody → Result Code BodyStop → Type 0
TakesBody spaces bodies b made = Compiles (first_minimum spaces.tables) b.first (context_in spaces) (spaces.imported + bodies) (body_read (is_some spaces.data_count) b.first b.bytes) made

-- the counting of its code's words answers this
abbrev pub CountsBody : Spaces → ℕ → GivenBody → Result ℕ BodyStop → Type 0
CountsBody spaces bodies b made = Measures (first_minimum spaces.tables) b.first (context_in spaces) (spaces.imported + bodies) (body_read (is_some spaces.data_count) b.first b.bytes) made

-- why nothing is taken after this body, which isn't compiled
abbrev pub stop_at : GivenBody → BodyStop → FrontStop
stop_at b (body.Refused r) = Refused r
stop_at b body.TooLong = Refused (limit_at b.size)
stop_at b body.NoMemory = NoMemory

-- a body was taken: its code follows the others; or the body has an error, or with it the text passes its limit
abbrev pub TakesCode : Spaces → Coding → GivenBody → Result (Unit {0}) FrontStop → Coding → Type 0
TakesCode spaces codes b (Ok done) new =
    (code : Code) × TakesBody spaces codes.count b (Ok code) × (new ≡ with_code codes code) × (4 * (front_of spaces.imported + new.words) ≤ max_text)
TakesCode spaces codes b (Err (Refused r)) new =
    TakesBody spaces codes.count b (Err (body.Refused r))
    ⊎ ((code : Code) × TakesBody spaces codes.count b (Ok code) × (max_text < 4 * (front_of spaces.imported + (codes.words + length code.words))) × (r ≡ limit_at b.size))
TakesCode spaces codes b (Err NoMemory) new = Unit {0}

-- with so many words more the text keeps its limit; or it passes it at this body
abbrev pub KeepsLimit : Spaces → Coding → GivenBody → ℕ → Result (Unit {0}) FrontStop → Type 0
KeepsLimit spaces codes b more (Ok done) = 4 * (front_of spaces.imported + (codes.words + more)) ≤ max_text
KeepsLimit spaces codes b more (Err (Refused r)) = (max_text < 4 * (front_of spaces.imported + (codes.words + more))) × (r ≡ limit_at b.size)
KeepsLimit spaces codes b more (Err NoMemory) = ⊥
