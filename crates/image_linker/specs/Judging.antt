-- The verdict of a module, with the limit on its text.
use Rattle.std.specs.Prelude.{◌≡◌, ◌≢◌, ◌<◌, ◌≤◌, ◌⊎◌, ℕ, suc, ◌+◌, ◌*◌, List, [], ◌∷◌, ◌++◌, Option, None, Some}
use Rattle.wasm_defs.specs.declared.fault.Kind.{Kind}
use Rattle.wasm_defs.specs.declared.fault.Kind.TheVariants.{Malformed, Unsupported, Limit, Invalid, Ended}
use Rattle.wasm_defs.specs.declared.fault.Refusal.{Refusal}
use Rattle.wasm_defs.specs.declared.item.Item.{Item}
use Rattle.wasm_defs.specs.Limits.{max_text}
use Rattle.wasm_defs.specs.Outside.{Part, Section, Listed, Coded, Body, module_read}
use Rattle.wasm_defs.specs.Trees.{Seq}
use Rattle.wasm_defs.specs.Faults.{IsFault, IsValidCode, read_of, context_at, Module, IsModule, Verdict, Accepted, Rejected}
use Rattle.image_linker.specs.ImageOf.{front_size, size_of}

-- the bytes of a text with so many words of functions
abbrev pub text_bytes : List Item → (words : ℕ) → ℕ
text_bytes items words = 4 * (front_size items + words)

-- the words of functions, of which the first is the k-th that is declared
abbrev pub sizes : List Item → (k : ℕ) → List Body → List Seq → ℕ
sizes items k (b ∷ bodies) (tree ∷ trees) = size_of items k b tree + sizes items (suc k) bodies trees
sizes items k bodies trees = 0

abbrev pub limit_at : ℕ → Refusal
limit_at at = record { offset = at; kind = Limit }

-- Among the parts after these items and k bodies, whose functions have so many words, is the body with which the text passes its
-- limit. All bodies before it are valid, and so is it itself; the error is at its size.
abbrev pub IsTextFault : List Item → (k words : ℕ) → List Part → Refusal → Type 0
IsTextFault items k words [] r = ⊥
IsTextFault items k words (Section at id ∷ parts) r = IsTextFault items k words parts r
IsTextFault items k words (Listed x ∷ parts) r = IsTextFault (items ++ x ∷ []) k words parts r
IsTextFault items k words (Coded b ∷ parts) r =
    (tree : Seq) × IsValidCode (context_at items k b) (read_of b).code tree
    × (((max_text < text_bytes items (words + size_of items k b tree)) × (r ≡ limit_at b.size))
    ⊎ ((text_bytes items (words + size_of items k b tree) ≤ max_text) × IsTextFault items (suc k) (words + size_of items k b tree) parts r))

abbrev pub IsFaultOf : List ℕ → Refusal → Type 0
IsFaultOf bytes r = IsFault bytes r ⊎ IsTextFault [] 0 0 (module_read bytes).parts r

-- a module whose text keeps the limit
pub record IsModuleOf (bytes : List ℕ) (m : Module) : Type 0 where
  pub is : IsModule bytes m
  pub fits : text_bytes m.items (sizes m.items 0 m.bodies m.trees) ≤ max_text

-- the module that the bytes are, or the error of least offset
abbrev pub IsVerdictOf : List ℕ → Verdict → Type 0
IsVerdictOf bytes (Accepted m) = IsModuleOf bytes m
IsVerdictOf bytes (Rejected r) = IsFaultOf bytes r × ((s : Refusal) → IsFaultOf bytes s → r.offset ≤ s.offset)

-- What decides where a source failed after these bytes: of their errors, those aside by which more bytes are owed, the one of
-- least offset; or none (WebAssembly Web API 1.0, streaming compilation).
abbrev pub IsStoppedAt : List ℕ → Option Refusal → Type 0
IsStoppedAt bytes None = (r : Refusal) → IsFaultOf bytes r → r.kind ≡ Ended
IsStoppedAt bytes (Some r) = IsFaultOf bytes r × (r.kind ≢ Ended) × ((s : Refusal) → IsFaultOf bytes s → s.kind ≢ Ended → r.offset ≤ s.offset)

-- the error of a verdict, if it lasts whatever comes after the bytes
abbrev pub lasting : Kind → Refusal → Option Refusal
lasting Malformed r = Some r
lasting Unsupported r = Some r
lasting Limit r = Some r
lasting Invalid r = Some r
lasting Ended r = None

abbrev pub lasting_fault : Verdict → Option Refusal
lasting_fault (Accepted m) = None
lasting_fault (Rejected r) = lasting r.kind r
