-- Bytes that came from a source, piece by piece, and what they settle.
use Rattle.std.proofs.Common.{◌≡◌, ◌≤◌, ◌<◌, ◌-◌, ◌^◌, ℕ, Bool, false, true, List, [], ◌++◌, length, Option, Some, None, Result, Ok, Err, sym, ap, subst, ◌∙◌, arith, append_assoc}
use Rattle.std.specs.Io.KnownBytes.{prepend_known, IsAtEnd}
use Rattle.std.proofs.lemmas.List.{append-nil}
use Rattle.wasm_defs.specs.declared.front_stop.FrontStop.{FrontStop}
use Rattle.wasm_defs.specs.declared.front_stop.FrontStop.TheVariants.{Refused, NoMemory}
use Rattle.io_edges.specs.Causes.{Rose}
use Rattle.module_stream.specs.Limits.{max_read}
use Rattle.module_stream.specs.declared.compilation.Compilation.{Compilation}
use Rattle.source_reading.specs.Received.{IsRead}
use Rattle.module_stream.specs.Done.{Decides}
use Rattle.source_reading.specs.Reading.{Settles, Settled}
use Rattle.module_stream.specs.Streaming.{IsGoing, GoesOn}
use Rattle.source_reading.proofs.Settling.{settled_end, settled_fault, settled_full, settled_early}

pub came_more : (came piece : List ℕ) (old new : Option (List ℕ)) → old ≡ prepend_known piece new → prepend_known came old ≡ prepend_known (came ++ piece) new
came_more came piece old None e = ap (prepend_known came) e
came_more came piece old (Some l) e = ap (prepend_known came) e ∙ ap (λ (x : List ℕ). Some x) (sym (append_assoc came piece l))

-- what was going on goes on with the next piece
module _ (s : Compilation) (came piece : List ℕ) (going : (more : List ℕ) → length (came ++ more) ≤ max_read → IsGoing (came ++ more) s more) where
  pub going_piece : (more : List ℕ) → length ((came ++ piece) ++ more) ≤ max_read → IsGoing ((came ++ piece) ++ more) s (piece ++ more)
  going_piece more few = subst (λ (l : List ℕ). IsGoing l s (piece ++ more)) (sym (append_assoc came piece more)) (going (piece ++ more) (omega (arith, few, ap length (append_assoc came piece more))))

  pub going_all : length came ≤ max_read → IsGoing came s []
  going_all few = subst (λ (l : List ℕ). IsGoing l s []) (append-nil came) (going [] (omega (arith, few, ap length (append-nil came))))

-- ---- what is settled

module _ (closing : Option ℕ) (came : List ℕ) (old new : Option (List ℕ)) (before now : ℕ) (is : IsRead closing old new came) where
  pub early : (s : FrontStop) (state : Compilation) → now ≡ before → ((more : List ℕ) → length (came ++ more) ≤ max_read → GoesOn (came ++ more) (Err s) state more) → Settled closing false (Err s) state old new before now
  early (Refused r) state same v = settled_early closing came r old new before now is same v
  early NoMemory state same v = tt

  whole : (failed : Bool) (r : Result (Unit {0}) FrontStop) (state : Compilation) → Settles closing came failed old new before now → Decides came r state → Settled closing failed r state old new before now
  whole failed (Ok done) state s d = (came, s, d)
  whole failed (Err (Refused r)) state s d = (came, s, d)
  whole failed (Err NoMemory) state s d = tt

  pub at_end : (r : Result (Unit {0}) FrontStop) (state : Compilation) → IsAtEnd new → now ≡ before → Decides came r state → Settled closing false r state old new before now
  at_end r state end same d = whole false r state (settled_end closing came old new before now is end same) d

  pub at_fault : (r : Result (Unit {0}) FrontStop) (state : Compilation) → before < 2 ^ 64 - 1 → Rose before now → Decides came r state → Settled closing true r state old new before now
  at_fault r state few rose d = whole true r state (settled_fault closing came old new before now few is rose) d

  pub at_limit : (r : Result (Unit {0}) FrontStop) (state : Compilation) → max_read ≤ length came → now ≡ before → Decides came r state → Settled closing false r state old new before now
  at_limit r state le same d = whole false r state (settled_full closing came old new before now is le same) d
