-- The errors of a module, but for that of its image's text.
use Rattle.std.specs.Prelude.{◌≡◌, ◌⊎◌, ℕ, suc, ◌+◌, List, [], ◌∷◌, ◌++◌, ◌==◌, ◌&&◌, length, Bool, true, false, Option, None, Some, slice_get, nat_le}
use Rattle.wasm_defs.specs.declared.fault.Kind.{Kind}
use Rattle.wasm_defs.specs.declared.fault.Kind.TheVariants.{Malformed, Unsupported, Limit, Invalid, Ended}
use Rattle.wasm_defs.specs.declared.fault.Refusal.{Refusal}
use Rattle.wasm_defs.specs.declared.item.Item.{Item}
use Rattle.wasm_defs.specs.declared.item.Item.TheVariants.{Imported, Start}
use Rattle.wasm_defs.specs.declared.token.Token.{Token}
use Rattle.wasm_defs.specs.declared.types.FuncType.{FuncType}
use Rattle.wasm_defs.specs.Outside.{Part, Section, Listed, Coded, Body, Ending, Whole, Refused, Owed, module_read}
use Rattle.wasm_defs.specs.Bodies.{Spelled, BodyRead, body_read}
use Rattle.wasm_defs.specs.Context.{context_of, import_count, body_context, type_of_function}
use Rattle.wasm_defs.specs.Trees.{Seq, Tree}
use Rattle.wasm_defs.specs.Typing.{Context, IsBody, function_type}
use Rattle.wasm_defs.specs.Viable.{IsViable, IsFaulty}

-- the order of kinds: where a field fails in several ways, the kind of the least rank is meant
abbrev pub rank : Kind → ℕ
rank Malformed = 0
rank Unsupported = 1
rank Limit = 2
rank Invalid = 3
rank Ended = 4

-- ---- outside bodies

-- where the bytes end too soon, the error is at their number
abbrev pub ending_fault : ℕ → Ending → Option Refusal
ending_fault len (Whole seen) = None
ending_fault len (Refused r) = Some r
ending_fault len Owed = Some (record { offset = len; kind = Ended })

-- the error that ends their reading
abbrev pub IsOutsideFault : List ℕ → Refusal → Type 0
IsOutsideFault bytes r = ending_fault (length bytes) (module_read bytes).ending ≡ Some r

-- ---- of the start function, and of imports

-- a function without parameters and without results (3.4.7)
abbrev pub is_start_type : Option FuncType → Bool
is_start_type None = false
is_start_type (Some t) = length t.params == 0 && length t.results == 0

abbrev pub may_start : Context → ℕ → Bool
may_start c index = is_start_type (function_type c index)

-- a function of one result at most: a host gives no more
abbrev pub is_import_type : Option FuncType → Bool
is_import_type None = false
is_import_type (Some t) = nat_le (length t.results) 1

abbrev pub may_import : Context → ℕ → Bool
may_import c index = is_import_type (slice_get c.types index)

-- an index that not every type serves, with its offset: that of the start function, or that of an import's type
pub data Use : Type 0 where
  Starts : (at index : ℕ) → Use
  Imports : (at index : ℕ) → Use

-- that of an item
abbrev pub use_of : Item → Option Use
use_of (Start index) = Some (Starts index.0 index.1)
use_of (Imported from what kind type_index) = Some (Imports type_index.0 type_index.1)
use_of x = None

abbrev pub offset_of_use : Use → ℕ
offset_of_use (Starts at index) = at
offset_of_use (Imports at index) = at

abbrev pub serves : Context → Use → Bool
serves c (Starts at index) = may_start c index
serves c (Imports at index) = may_import c index

-- its type serves
abbrev pub UsesRight : Context → Option Use → Type 0
UsesRight c None = Unit {0}
UsesRight c (Some u) = serves c u ≡ true

-- else the start function is invalid, and an import unsupported, at the index
abbrev pub use_kind : Use → Kind
use_kind (Starts at index) = Invalid
use_kind (Imports at index) = Unsupported

abbrev pub IsUseFault : Context → Option Use → Refusal → Type 0
IsUseFault c None r = ⊥
IsUseFault c (Some u) r = (serves c u ≡ false) × (r ≡ record { offset = offset_of_use u; kind = use_kind u })

-- ---- in a body

abbrev pub tokens_of : List (ℕ × Token) → List Token
tokens_of [] = []
tokens_of (t ∷ ts) = t.1 ∷ tokens_of ts

abbrev pub offsets_of : List (ℕ × Token) → List ℕ
offsets_of [] = []
offsets_of (t ∷ ts) = t.0 ∷ offsets_of ts

-- the first token that no others complete to a valid body
pub record IsTokenFault (c : Context) (tokens : List (ℕ × Token)) (r : Refusal) : Type 0 where
  pub before : List (ℕ × Token)
  pub at : ℕ
  pub token : Token
  pub after : List (ℕ × Token)
  pub parts : tokens ≡ before ++ (at, token) ∷ after
  pub viable : IsViable c (tokens_of before)
  pub faulty : IsFaulty c (tokens_of before ++ token ∷ []) r.kind
  pub place : r.offset ≡ at

-- or, where all its tokens may begin a valid body, what stops its reading
pub record IsSpellingFault (c : Context) (tokens : List (ℕ × Token)) (fault : Option Refusal) (r : Refusal) : Type 0 where
  pub viable : IsViable c (tokens_of tokens)
  pub is : fault ≡ Some r

abbrev pub IsCodeFault : Context → Spelled → Refusal → Type 0
IsCodeFault c code r = IsTokenFault c code.tokens r ⊎ IsSpellingFault c code.tokens code.fault r

-- what is read of a body, and its context: it is the k-th of a module with these items before it
abbrev pub read_of : Body → BodyRead
read_of b = body_read b.counted b.first b.bytes

abbrev pub context_at : List Item → ℕ → Body → Context
context_at items k b =
    let c = context_of items in
    body_context c (type_of_function c (import_count items + k)) (read_of b).groups

-- an error of an item's use or of one of the bodies, after these items and k bodies
abbrev pub IsFaultInside : List Item → ℕ → List Part → Refusal → Type 0
IsFaultInside items k [] r = ⊥
IsFaultInside items k (Section at id ∷ parts) r = IsFaultInside items k parts r
IsFaultInside items k (Listed x ∷ parts) r = IsUseFault (context_of items) (use_of x) r ⊎ IsFaultInside (items ++ x ∷ []) k parts r
IsFaultInside items k (Coded b ∷ parts) r = IsCodeFault (context_at items k b) (read_of b).code r ⊎ IsFaultInside items (suc k) parts r

-- ---- the module

abbrev pub IsFault : List ℕ → Refusal → Type 0
IsFault bytes r = IsOutsideFault bytes r ⊎ IsFaultInside [] 0 (module_read bytes).parts r

-- the code of a valid body
pub record IsValidCode (c : Context) (code : Spelled) (tree : Seq) : Type 0 where
  pub whole : code.fault ≡ None
  pub tree_is : Tree (tokens_of code.tokens) tree
  pub typed : IsBody c tree

-- the items' uses and the bodies are right, the bodies with these trees
abbrev pub AreValid : List Item → ℕ → List Part → List Seq → Type 0
AreValid items k [] [] = Unit {0}
AreValid items k [] (tree ∷ trees) = ⊥
AreValid items k (Section at id ∷ parts) trees = AreValid items k parts trees
AreValid items k (Listed x ∷ parts) trees = UsesRight (context_of items) (use_of x) × AreValid (items ++ x ∷ []) k parts trees
AreValid items k (Coded b ∷ parts) [] = ⊥
AreValid items k (Coded b ∷ parts) (tree ∷ trees) = IsValidCode (context_at items k b) (read_of b).code tree × AreValid items (suc k) parts trees

abbrev pub items_of : List Part → List Item
items_of [] = []
items_of (Section at id ∷ parts) = items_of parts
items_of (Listed x ∷ parts) = x ∷ items_of parts
items_of (Coded b ∷ parts) = items_of parts

abbrev pub bodies_of : List Part → List Body
bodies_of [] = []
bodies_of (Section at id ∷ parts) = bodies_of parts
bodies_of (Listed x ∷ parts) = bodies_of parts
bodies_of (Coded b ∷ parts) = b ∷ bodies_of parts

-- a module: its items, its bodies and their trees
pub record Module : Type 0 where
  pub items : List Item
  pub bodies : List Body
  pub trees : List Seq

pub record IsModule (bytes : List ℕ) (m : Module) : Type 0 where
  pub whole : ending_fault (length bytes) (module_read bytes).ending ≡ None
  pub items : m.items ≡ items_of (module_read bytes).parts
  pub bodies : m.bodies ≡ bodies_of (module_read bytes).parts
  pub valid : AreValid [] 0 (module_read bytes).parts m.trees

-- what bytes can come to. Which it is, the crate that makes images says (`IsVerdictOf`), since the text of an image has a limit too.
pub data Verdict : Type 0 where
  Accepted : (m : Module) → Verdict
  Rejected : (r : Refusal) → Verdict
