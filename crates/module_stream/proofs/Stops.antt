-- Pieces of which some bytes were taken.
use Rattle.std.proofs.Common.{◌≡◌, ◌-◌, ℕ, Bool, true, false, List, length, take, drop, Option, Some, None, Err, refl, sym, arith, true≢false}
use Rattle.std.specs.Prelude.{◌&&◌, is_some}
use Rattle.std.proofs.lemmas.List.{length-drop, take_all}
use Rattle.wasm_defs.specs.declared.front_stop.FrontStop.{FrontStop}
use Rattle.wasm_defs.specs.declared.front_stop.FrontStop.TheVariants.{Refused, NoMemory}
use Rattle.module_stream.specs.declared.compilation.Compilation.{Compilation}
use Rattle.module_stream.specs.Streaming.{GoesOn, Advances}

pub advances_goes : (bytes piece : List ℕ) (stop : FrontStop) (s t : Compilation) (more next : List ℕ) → Advances bytes piece (Err stop) s more → GoesOn bytes (Err stop) t next
advances_goes bytes piece (Refused r) s t more next h = h
advances_goes bytes piece NoMemory s t more next h = tt

pub goes_advances : (bytes piece : List ℕ) (stop : FrontStop) (s t : Compilation) (more next : List ℕ) → GoesOn bytes (Err stop) s more → Advances bytes piece (Err stop) t next
goes_advances bytes piece (Refused r) s t more next h = h
goes_advances bytes piece NoMemory s t more next h = tt

pub advances_behind : (bytes piece rest : List ℕ) (stop : FrontStop) (s t : Compilation) (more next : List ℕ) → Advances bytes rest (Err stop) s more → Advances bytes piece (Err stop) t next
advances_behind bytes piece rest (Refused r) s t more next h = h
advances_behind bytes piece rest NoMemory s t more next h = tt

-- what is left of a piece of which so many bytes were taken
pub rest_is : (taken : ℕ) (piece : List ℕ) → take (length piece - taken) (drop taken piece) ≡ drop taken piece
rest_is taken piece = take_all (length piece - taken) (drop taken piece) (omega (arith, length-drop taken piece))

-- what holds outside the bodies and where the reading isn't to stop, unless it stops
pub unless_stopped : {X P : Type 0} (up : Bool) (o : Option X) → (up ≡ false → P) → (o ≡ None → P) → (up && is_some o) ≡ false → P
unless_stopped false o f g e = f refl
unless_stopped true None f g e = g refl
unless_stopped true (Some x) f g e = absurd (true≢false e)

pub not_up : {X : Type 0} (up : Bool) (o : Option X) → (up && is_some o) ≡ true → up ≡ false → ⊥
not_up false o e f = true≢false (sym e)
not_up true o e f = true≢false f

pub not_outside : {X : Type 0} (up : Bool) (o : Option X) → (up && is_some o) ≡ true → o ≡ None → ⊥
not_outside false o e f = true≢false (sym e)
not_outside true None e f = true≢false (sym e)
not_outside true (Some x) e f = absurd (cc)
