-- Bytes of a module that came, of which nothing was found wrong.
use Rattle.std.specs.Prelude.{◌≡◌, ◌<◌, ℕ, zero, suc, List, [], ◌∷◌, ◌++◌, Option, None, Some, is_some}
use Rattle.wasm_defs.specs.Trees.{Seq}
use Rattle.wasm_defs.specs.declared.fault.Refusal.{Refusal}
use Rattle.wasm_defs.specs.Outside.{Part, Ending, Refused, Owed, module_read}
use Rattle.wasm_defs.specs.Context.{data_count_of}
use Rattle.wasm_defs.specs.Faults.{items_of, AreValid}
use Rattle.image_linker.specs.Judging.{IsTextFault}
use Rattle.body_cutter.specs.Bodies.{Body, byte_count}
use Rattle.module_stream.specs.CutBodies.{coded_all}

-- How many bytes of bodies close a batch, where each batch is validated before more bytes are read; or, with workers, none is given.
abbrev pub closing_bytes : (workers batch : ℕ) → Option ℕ
closing_bytes zero batch = Some batch
closing_bytes (suc workers) batch = None

-- These bodies, the last that were read, may be read before they are validated: those of the batch that is open, which has fewer than so
-- many bytes, while bytes of the bodies' section are owed; or, with workers, any bodies.
abbrev pub MayWait : (closing : Option ℕ) → Ending → List Body → Type 0
MayWait None ending bodies = Unit {0}
MayWait (Some least) ending [] = Unit {0}
MayWait (Some least) ending (b ∷ bodies) = (ending ≡ Owed) × (byte_count (b ∷ bodies) < least)

-- their parts are such that are right, all bodies valid; after these are at most bodies that aren't validated so
-- far: those whose batches haven't closed, and those that are read in parallel with workers
pub record PrefixIsValid (closing : Option ℕ) (came : List ℕ) : Type 0 where
  pub front : List Part
  pub bodies : List Body
  pub parts : (module_read came).parts ≡ front ++ coded_all (is_some (data_count_of (items_of front))) bodies
  pub trees : List Seq
  pub valid : AreValid [] 0 front trees
  -- their text keeps its limit
  pub text : (r : Refusal) → IsTextFault [] 0 0 front r → ⊥
  -- nor was an error found outside the bytes of bodies
  pub no_error : (r : Refusal) → (module_read came).ending ≡ Refused r → ⊥
  -- and no body waits whose batch has closed
  pub waiting : MayWait closing (module_read came).ending bodies
