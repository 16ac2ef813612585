-- What a method did, said of another reader that does the same there.
use Rattle.std.proofs.Common.{◌≡◌, Result, Ok, Err, ◌∙◌}
use Rattle.wasm_defs.specs.Fields.{Cursor, Read, Reader}
use Rattle.leb_feed.specs.declared.stop.Stop.{Stop}
use Rattle.leb_feed.specs.declared.stop.Stop.TheVariants as stop
use Rattle.leb_feed.specs.Reads.{Reads, Stops}

pub stops_same : {A : Type 0} (s : Stop) (x y : Read A) → x ≡ y → Stops s y → Stops s x
stops_same (stop.Refused r) x y e h = e ∙ h
stops_same stop.Wants x y e h = e ∙ h
stops_same stop.NoMemory x y e h = tt

pub reads_same : {A B : Type 0} (p q : Reader A) (view : B → A) (r : Result B Stop) (c d : Cursor) → p c ≡ q c → Reads q view r c d → Reads p view r c d
reads_same p q view (Ok x) c d e h = e ∙ h
reads_same p q view (Err s) c d e h = stops_same s (p c) (q c) e h
